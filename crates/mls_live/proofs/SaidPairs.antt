-- When commands with their replies are equal.
pub use Rattle.mls_server.proofs.mls_session.ExactEntries.{said_exact}
