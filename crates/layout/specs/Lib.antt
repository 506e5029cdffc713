-- Where the words of a memory stand.
pub mod Layout
