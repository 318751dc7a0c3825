pub mod Laws
pub mod Effects
pub mod Objects
pub mod Joining
