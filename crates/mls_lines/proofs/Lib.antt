pub mod AnswerLemmas
pub mod EndLemmas
pub mod ReadingLemmas
pub mod ReplyLemmas
pub mod RunLemmas
pub use Rattle.mls_seat_lines.proofs.mls_wire
