-- In these files n is `numbers`, c `chains`, k a chain, x or t a number, s the cells, s' the cells after a change, L the lists, and H says that
-- cells hold lists.
pub mod Chain
pub mod Table
pub mod New
pub mod Walks
pub mod Standing
pub mod Changes
pub mod Search
pub mod Laws
