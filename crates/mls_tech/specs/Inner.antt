-- The words of private contracts: how the reader goes about what the other modules define. A caller needs none of them.
pub mod DrcViews
pub mod Gives
pub mod ListReaders
pub mod NameKinds
pub mod NameTables
pub mod Tokens
