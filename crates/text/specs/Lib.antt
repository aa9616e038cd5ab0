pub mod Lines
pub mod Characters
pub mod Put
