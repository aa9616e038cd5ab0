pub mod LinesRead
pub mod Small
pub mod Steps
pub mod TapePrinted
pub mod Example
pub mod PagesPrinted
pub mod LinesFixed
pub mod OnlyPrinter
