pub mod Meaning
pub mod Sound
pub mod Equal
pub mod Step
