pub mod CompiledLines
pub mod OnlyOne
pub mod RuleSetLemmas
