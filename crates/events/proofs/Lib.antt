pub mod Numbers
pub mod Masks
pub mod Taking
pub mod Joined
