-- First what rows a record means and where its tasks and messages stand, then that soundness is a matter of its parts, equality, the empty state, and what the test has found on its way.
pub mod Rows
pub mod Chains
pub mod Standing
pub mod Keys
pub mod Laws
pub mod Parts
pub mod Equal
pub mod Empty
pub mod Testing
