-- Definitions: Street, State. What the inner functions ask and promise: Sends, Calls. Theorems: StreetLaws, Represents, Bounds, Answers;
-- WorkedStreet has a street worked out. The rest are laws.
pub mod Street
pub mod State
pub mod Sends
pub mod Calls
pub mod CheckLaws
pub mod MeterLaws
pub mod SendLaws
pub mod StepLaws
pub mod StepList
pub mod Standing
pub mod Bounds
pub mod Represents
pub mod StreetLaws
pub mod Answers
pub mod WorkedStreet
