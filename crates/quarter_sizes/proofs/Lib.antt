-- Quads as the code reads them.
pub mod QuadReads
