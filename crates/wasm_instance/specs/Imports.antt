-- What is told of the imports of a module where they are kept, which takes memory. This project's own.
use Rattle.std.specs.Prelude.{◌≡◌, ◌⊎◌, ⊤, Result, Err}
use Rattle.wasm_values.specs.declared.refusals.Refusal.{Refusal}
use Rattle.wasm_values.specs.declared.refusals.Refusal.TheVariants.{OutOfMemory}

-- the refusal that is due; or there was no memory for what is kept
abbrev pub Refuses : Result ⊤ Refusal → Refusal → Type 0
Refuses due why = (why ≡ OutOfMemory) ⊎ (due ≡ Err why)
