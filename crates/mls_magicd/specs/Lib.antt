pub mod Cells
pub mod CommandLines
pub mod FileReads
pub mod Messages
pub mod Programs
pub mod Technologies
pub mod WorkerCounts
