-- Definitions.
pub mod ByteQuads
