pub mod FieldLemmas
pub mod LastBytes
pub mod LineLemmas
pub mod RawLineLemmas
pub mod WordLemmas
pub mod WordTests
