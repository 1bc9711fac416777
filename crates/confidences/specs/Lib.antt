-- Definitions: Confidences, Answers, Alike; how they stand in the area: Values. What theorems and statements above speak of: Blocks, InRange,
-- FirstDirections, Counts, OneMagnitude, WorkedTable. The laws are in proofs/, under the same names.
pub mod Confidences
pub mod Answers
pub mod Values
pub mod Alike
pub mod Blocks
pub mod InRange
pub mod FirstDirections
pub mod Counts
pub mod OneMagnitude
pub mod WorkedTable
