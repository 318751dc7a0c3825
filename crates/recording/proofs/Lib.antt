pub mod Outcomes
pub mod Blocks
pub mod Runs
pub mod Examples
