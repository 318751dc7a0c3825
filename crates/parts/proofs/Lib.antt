-- What the tests of parts, and the calls, share.
pub mod Stops
pub mod Empty
pub mod Codes
