-- Definitions: Numbers. What the functions ask and promise: Texts. TextLaws has the laws.
pub mod Numbers
pub mod Texts
pub mod TextLaws
