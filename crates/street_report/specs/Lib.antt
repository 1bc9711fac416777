-- Definitions: Report. ReportLaws has the laws.
pub mod Report
pub mod ReportLaws
