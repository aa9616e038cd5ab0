pub mod Shorthand
pub mod Rows
pub mod Table
pub mod Runs
