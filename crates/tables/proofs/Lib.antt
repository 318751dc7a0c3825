pub mod Turns
pub mod Made
