-- Steps of a call, each of which may refuse: the `?` of the definitions.
use Rattle.std.specs.Prelude.{Bool, ⊤, if◌then◌else◌, Result, Ok, Err}
use Rattle.wasm_values.specs.declared.refusals.Refusal.{Refusal}

infixl 10 ◌>>=◌
abbrev pub ◌>>=◌ : {A B : Type 0} → Result A Refusal → (A → Result B Refusal) → Result B Refusal
(Ok a) >>= f = f a
(Err why) >>= f = Err why

-- refused for this cause, unless it holds
abbrev pub unless : Refusal → Bool → Result ⊤ Refusal
unless why holds = if holds then Ok tt else Err why
