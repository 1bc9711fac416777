-- Definitions: Document01. The rest are laws; Joins is the whole listing, piece by piece, BillingLaws that it is document 01's under its table.
pub mod PartLaws
pub mod Joins
pub mod Document01
pub mod BillingLaws
