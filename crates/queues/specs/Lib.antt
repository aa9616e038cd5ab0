pub mod Table1
pub mod Area
pub mod Engine
pub mod BenchUnaltered
pub mod QueuesAgree
pub mod KeepsQueues
