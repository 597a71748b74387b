-- What is outside of a store, and how it goes from one state to another by what is heard of it. This project's own.
use Rattle.std.specs.Prelude.{ℕ, Bool, List}
use Rattle.std.specs.List.{sum_by}
pub use Rattle.code_hosts.specs.Asked.{Growths, Hooks, Behaves, Readings}
pub use Rattle.wasm_host.specs.Hosts.{Steps}
use Rattle.code_hosts.specs.Asked as hosts
use Rattle.spec_execution.specs.Askings.{Question, Having, Answer, Asking, Outside, Relations, Moves, Chain}
use Rattle.law_code.specs.Answers.{IsTypedAnswer}
use Rattle.wasm_store.specs.Stores.{StoreParts}

-- a store, with what is outside of it: the host data, which are the store's own, the host, and the source of epochs
pub record Surrounded (T H E : Type 0) : Type 0 where
  pub store : StoreParts T
  pub host : H
  pub epochs : E

abbrev pub surrounded : {T H E : Type 0} → StoreParts T → H → E → Surrounded T H E
surrounded store host epochs = record { store = store; host = host; epochs = epochs }

abbrev pub outside : {T H E : Type 0} → Surrounded T H E → Outside T H E
outside s = record { host_data = s.store.host_data; host = s.host; epochs = s.epochs }

-- how what is outside goes from one state to another by a question and its answer
abbrev pub Moving : Type 0 → Type 0 → Type 0 → Type 1
Moving T H E = Outside T H E → Question → Answer → Outside T H E → Type 0

-- by answers in which the types are types, as in all that can be given
abbrev pub typed : {T H E : Type 0} → Relations T H E → Moving T H E
typed r old q a new = IsTypedAnswer a × Moves r old q a new

-- by a limiter, a host, a hook, a deadline behaviour and an epoch source that answer so
abbrev pub asked : {T H E : Type 0} → Growths T → (H → ℕ → Bool) → Hooks T → Behaves T → Readings E → Steps H T →
    Moving T H E
asked growths has hooks behaves readings steps = typed (hosts.asked growths has hooks behaves readings steps)

-- what is outside went so by what was heard
abbrev pub Hears : {T H E : Type 0} → Moving T H E → Surrounded T H E → List Asking → Surrounded T H E → Type 0
Hears moves old heard new = Chain moves (outside old) heard (outside new)

-- how many turns questions take: one each, but that whether there is a body is asked in none
abbrev pub turns_of_question : Question → ℕ
turns_of_question (Having body) = 0
turns_of_question q = 1

abbrev pub turns_heard : List Asking → ℕ
turns_heard heard = sum_by (λ (asking : Asking). turns_of_question asking.0) heard
