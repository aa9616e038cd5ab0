pub mod Failures
pub mod Turns
