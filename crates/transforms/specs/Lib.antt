pub mod EachBlock
