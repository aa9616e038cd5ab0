pub mod Entries
pub mod Showing
pub mod Taking
pub mod SoundKept
pub mod Leaving
