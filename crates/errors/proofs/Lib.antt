-- What the proofs of the functions share, then the laws for the crates above, and that there is a view of which the contracts speak.
pub mod Tests
pub mod Table
pub mod Laws
pub mod Some
