-- Definitions: Direct. Laws: BlockPeak.
pub mod Direct
pub mod BlockPeak
