pub mod Options
pub mod ListLemmas
pub mod TypeLemmas
pub mod StoreLemmas
pub mod VectorLemmas
pub mod OperandLemmas
