pub mod TapePrinted
pub mod Example
pub mod PagesPrinted
