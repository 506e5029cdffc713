-- What the contracts cite: roads in the memory.
pub mod Layout
