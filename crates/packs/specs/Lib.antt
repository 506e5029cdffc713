-- Packs of items.
pub mod Pack
