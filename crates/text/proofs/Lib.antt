pub mod Characters
pub mod Numbers
pub mod Put
pub mod TickText
