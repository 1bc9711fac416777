-- Definitions: Octets. The rest are laws.
pub mod Octets
pub mod PackedBits
pub mod OctetLaws
