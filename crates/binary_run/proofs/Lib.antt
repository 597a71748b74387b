pub mod CallLemmas
pub mod NumberLemmas
pub mod OptionLemmas
pub mod SpelledLemmas
pub mod StartLemmas
pub mod WordLemmas
