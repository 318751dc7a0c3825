pub mod Blocks
pub mod Zeroed
