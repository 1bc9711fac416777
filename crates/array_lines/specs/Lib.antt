-- What the functions ask and promise: Scattered, Asked. The rest are laws.
pub mod Scattered
pub mod Asked
pub mod ScatteredLaws
pub mod LineLaws
pub mod RowLaws
pub mod ColumnLaws
pub mod ColumnsLaws
