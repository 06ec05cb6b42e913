pub mod Entries
pub mod Trees
pub mod Nodes
pub mod Stocks
