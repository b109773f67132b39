pub mod SymbolTables
pub mod Requests
pub use Rattle.mls_wire.specs.mls_library
pub use Rattle.mls_live.specs as mls_live
pub use Rattle.mls_wire.specs.mls_server
pub use Rattle.mls_wire.specs.mls_session
pub use Rattle.mls_wire.specs as mls_wire
