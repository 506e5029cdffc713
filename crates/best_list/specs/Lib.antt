-- The list of the best k so far, as entries of a question's list.
pub mod Best
