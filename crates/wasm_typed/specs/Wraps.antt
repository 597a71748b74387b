-- How a step of a closure goes that is the one body of a host. This project's own.
use Rattle.std.specs.Borrow.{MutBor}
use Rattle.std.specs.Prelude.{◌≡◌, ℕ, ◌≤◌, ◌⊎◌, List, Option, Some, None, Result, Ok, nat_eq, IsErr, if◌then◌else◌}
use Rattle.wasm_types.specs.declared.faults.OutOfMemory.{OutOfMemory}
use Rattle.wasm_meter.specs.Counting.{Rose}
use Rattle.wasm_values.specs.declared.values.Val.{Val}
use Rattle.spec_execution.specs.declared.answer.Answer.{Answer}
use Rattle.spec_execution.specs.declared.answer.Answer.TheVariants.{Return, Fail}

-- how a call of the closure goes: on host data that are lent, and its argument, to what it gives and what it leaves
abbrev pub Calls : Type 0 → Type 0 → Type 0 → Type 1
Calls T P R = MutBor T → P → R → MutBor T → Type 0

-- each call keeps this of the host data: that no count of them falls
abbrev pub KeepsCounts : {T P R : Type 0} → (T → T → Type 0) → Calls T P R → Type 0
KeepsCounts {T} {P} {R} keeps calls = (x y : MutBor T) (p : P) (r : R) → calls x p r y → keeps x.now y.now

-- a count rises, or stands at its last value
abbrev pub Rises : ℕ → ℕ → Type 0
Rises old new = (old ≤ new) × Rose old new

-- what the body of this number takes: 0 is the closure, and there is no other
abbrev pub taken : {P : Type 0} → (List Val → Option P) → ℕ → List Val → Option P
taken of_vals body args = if nat_eq body 0 then of_vals args else None

module _ {T P R : Type 0} (given : R → Option (List Val)) (calls : Calls T P R) where
  -- a call from this host data to that one gives this
  pub record Gives (s : T) (p : P) (r : R) (t : T) : Type 0 where
    pub before : MutBor T
    pub after : MutBor T
    pub begins : before.now ≡ s
    pub called : calls before p r after
    pub ends : after.now ≡ t

  -- what the step says, where the closure gave this: the values, or that it failed, and then the count of faults rises
  abbrev pub Says : ℕ → Option (List Val) → Result Answer OutOfMemory → ℕ → Type 0
  Says old (Some vals) say new = (say ≡ Ok (Return vals)) × (new ≡ old)
  Says old None say new = (say ≡ Ok Fail) × Rises old new

  -- a step of the closure's host: where there is no such body, or the arguments are no `P`, it fails and calls nothing. Else
  -- the closure is called, and there may be no memory for the list of what it gave
  abbrev pub Called : ℕ → T → Option P → Result Answer OutOfMemory → ℕ → T → Type 0
  Called old s None say new t = (say ≡ Ok Fail) × Rises old new × (t ≡ s)
  Called old s (Some p) say new t =
      (r : R) × Gives s p r t × (Says old (given r) say new ⊎ (IsErr say × (new ≡ old)))

  -- the same, by the host's count of faults; it leaves the state as it was, and keeps the counts of the host data
  pub record WrapSteps (keeps : T → T → Type 0) (of_vals : List Val → Option P) (old : ℕ) (s : T) (body state : ℕ)
      (args : List Val) (after : ℕ) (say : Result Answer OutOfMemory) (new : ℕ) (t : T) : Type 0 where
    pub same_state : after ≡ state
    pub counts : keeps s t
    pub goes : Called old s (taken of_vals body args) say new t
