pub mod Firsts
pub mod Sorts
