-- Laws: OrderOne.
pub mod OrderOne
