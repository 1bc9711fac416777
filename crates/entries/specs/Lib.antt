-- What the decoding of a record asks: Decodable. The rest are laws: of a record's line, of the entries of records, and of what stands at the
-- start of a part.
pub mod Decodable
pub mod RecordLaws
pub mod EntryLaws
pub mod StepLaws
