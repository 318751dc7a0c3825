pub mod Outcomes
pub mod Arms
