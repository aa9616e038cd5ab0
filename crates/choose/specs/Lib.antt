pub mod Grants
pub mod Lines
