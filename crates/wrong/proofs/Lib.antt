pub mod Lists
pub mod Refuted
pub mod Fixed
pub mod Engines
