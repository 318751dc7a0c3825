-- In these files n is `numbers`, c `chains`, k a chain, x or t a number, s the cells, L the lists.
pub mod Order
pub mod Marks
