-- What the levels ask: Begun, with laws. Two levels at once: Twice, and Columns with laws. The transform of each half: Halves, and HalfLaws with laws. Fours has laws.
pub mod Fours
pub mod Begun
pub mod Twice
pub mod Columns
pub mod Halves
pub mod HalfLaws
