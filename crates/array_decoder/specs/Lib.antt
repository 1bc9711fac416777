-- Definitions: Calls, Alike. Asked is what the steps inside ask and promise; the rest are laws.
pub mod Calls
pub mod Alike
pub mod Asked
pub mod SideLaws
pub mod ReadLaws
pub mod CallLaws
pub mod AlikeLaws
