mod Faults
mod Outcomes
