pub mod Routers
pub mod ShutOut
pub mod Engines
