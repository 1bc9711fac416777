-- Definitions: Guarantee, DataSheet. The rest are laws, in proofs/ too; DataSheet there is the table of every code.
pub mod Guarantee
pub mod PlaceSums
pub mod DataSheet
