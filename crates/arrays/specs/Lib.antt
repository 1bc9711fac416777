-- Definitions: Arrays. What theorems and statements above speak of: IsSide, ArraySizes, WorkedTable. The laws are in proofs/.
pub mod Arrays
pub mod IsSide
pub mod ArraySizes
pub mod WorkedTable
