pub mod TableCalled
