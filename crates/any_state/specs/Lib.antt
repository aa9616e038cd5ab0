pub mod Entries
pub mod SoundKept
pub mod AnySound
