-- Definitions: Same; in Example captures and the texts of their listings. The rest are theorems.
pub mod Same
pub mod PrivacyLaws
pub mod Example
pub mod BillingTells
