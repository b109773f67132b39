pub mod Bounds
pub mod Changes
pub mod Common
pub mod Designs
pub mod Inner
pub mod JournalCopies
pub mod JournalLimits
pub mod Journals
pub mod Looks
pub mod Own
pub mod OwnSteps
pub mod Quotas
pub mod Refusals
pub mod Saving
pub mod Sessions
pub mod Setups
pub use Rattle.mls_checker.specs as mls_checker
pub use Rattle.mls_errorplane.specs as mls_errorplane
pub use Rattle.mls_layout.specs as mls_layout
pub use Rattle.mls_library.specs as mls_library
