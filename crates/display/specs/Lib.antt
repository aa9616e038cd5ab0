pub mod Display
