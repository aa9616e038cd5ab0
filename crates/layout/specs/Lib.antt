pub mod Fields
pub mod Numbers
pub mod Slots
pub mod Version
