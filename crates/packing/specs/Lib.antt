-- Definitions: Packing, ByTable, Loads, Streets, Arrays, Confidences. PackingLaws, ByTableLaws, LoadLaws and StreetLaws have laws.
pub mod Packing
pub mod PackingLaws
pub mod ByTable
pub mod ByTableLaws
pub mod Loads
pub mod LoadLaws
pub mod Streets
pub mod StreetLaws
pub mod Arrays
pub mod Confidences
