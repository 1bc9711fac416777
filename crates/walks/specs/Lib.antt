-- Definitions: Walk. The rest are laws.
pub mod Walk
pub mod WalkLaws
pub mod PlaceLaws
pub mod EveryMeter
pub mod SummaryLaws
pub mod LineLaws
