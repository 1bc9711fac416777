-- Definitions: Program. ProgramLaws has the laws, and what a run of the program has written.
pub mod Program
pub mod ProgramLaws
