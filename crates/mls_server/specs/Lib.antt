pub mod Capacities
pub mod Events
pub mod Faults
pub mod LegalLists
pub mod NameBytes
pub mod OwnLists
pub mod Servers
pub mod SessionNames
pub mod Settings
pub mod Worlds
pub use Rattle.mls_session.specs.mls_checker
pub use Rattle.mls_session.specs.mls_errorplane
pub use Rattle.mls_session.specs.mls_layout
pub use Rattle.mls_session.specs.mls_library
pub use Rattle.mls_session.specs as mls_session
