-- What the checks answer: Checked. What a call that passed them asks, and is told: Runs. The rest are laws.
pub mod Checked
pub mod Numbers
pub mod CheckedLaws
pub mod Runs
