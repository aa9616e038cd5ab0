pub mod Lines
pub mod AsTicksCome
pub mod Withdrawn
pub mod Showing
pub mod Reading
