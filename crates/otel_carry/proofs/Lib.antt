pub mod EventLemmas
pub mod GrammarLemmas
pub mod OutcomeLemmas
pub mod ReportLemmas
