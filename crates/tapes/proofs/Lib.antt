pub mod Chunks
pub mod Put
pub mod Texts
pub mod Blocks
