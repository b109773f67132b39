pub mod KindSets
