pub mod ValueLemmas
pub mod PairLemmas
