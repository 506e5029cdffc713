-- What stands of the vertices.
pub mod Vertices
