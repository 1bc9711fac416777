pub mod EachBlockLaws
