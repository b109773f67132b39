pub mod Commands
pub mod SymbolTableLemmas
pub mod Results
pub use Rattle.mls_wire.proofs as mls_wire
