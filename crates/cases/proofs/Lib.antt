pub mod Proper
pub mod Computing
pub mod Reached
pub mod Rows
pub mod NoThird
pub mod Table
pub mod Runs
