pub mod Pages
pub mod Printing
pub mod Claims
pub mod Values
