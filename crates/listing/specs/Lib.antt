-- Lists of numbers that pass a test.
pub mod Lists
