pub mod shared
pub mod Union
pub mod RunLemmas
pub mod SurvivorLemmas
pub mod CurrentLemmas
pub mod RefusalLemmas
pub mod WorkedLemmas
pub mod LongLemmas
pub mod OpenLemmas
mod LocalLemmas
