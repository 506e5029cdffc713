-- Where records stand, by the counts in the head.
pub mod Place
