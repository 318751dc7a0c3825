pub mod Decisions
pub mod Touches
