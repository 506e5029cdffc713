-- What the contracts cite: the answer of the search to any words.
pub mod Answer
