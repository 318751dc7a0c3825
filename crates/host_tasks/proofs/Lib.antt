pub mod Faithful
pub mod Numbers
pub mod Filling
pub mod Rewriting
