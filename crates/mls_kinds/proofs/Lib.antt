pub mod BitLemmas
pub mod KindSetLemmas
