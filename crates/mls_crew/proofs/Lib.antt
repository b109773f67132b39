pub mod CountdownLemmas
pub mod RequestLists
pub mod SortedLines
pub mod Outputs
pub mod Results
