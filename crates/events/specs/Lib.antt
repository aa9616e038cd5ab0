pub mod Tape
pub mod Values
