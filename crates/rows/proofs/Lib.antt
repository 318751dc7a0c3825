pub mod Run
pub mod Update
pub mod Footprint
pub mod Local
pub mod Owned
pub mod Two
pub mod Runs
pub mod InARow
