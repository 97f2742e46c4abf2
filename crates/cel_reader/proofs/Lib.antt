pub mod WordsFound
pub mod TreesFound
pub mod ExpressionsFound
