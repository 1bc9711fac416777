-- Definitions: Numbers. Laws: NumberLaws.
pub mod Numbers
pub mod NumberLaws
