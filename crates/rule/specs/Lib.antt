-- Definitions: Reading, Decoding, Calls. What theorems and statements above speak of: RightSizes, Outcomes, Counts, Nearest, Demand3; WorkedTable is
-- document 01's table. The laws are in proofs/, under the same names.
pub mod Reading
pub mod Decoding
pub mod Calls
pub mod RightSizes
pub mod Outcomes
pub mod Counts
pub mod Nearest
pub mod Demand3
pub mod WorkedTable
