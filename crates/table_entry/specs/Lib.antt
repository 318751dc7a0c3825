pub mod TableEntered
