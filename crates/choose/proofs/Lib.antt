pub mod SlotKeys
pub mod Lines
