pub mod Printed
pub mod Blocks
pub mod Values
