-- Walks that stay inside a part.
pub mod Inner
