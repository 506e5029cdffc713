-- Roads in the memory, and what relaxing them does to labels and keys.
pub mod Relaxing
