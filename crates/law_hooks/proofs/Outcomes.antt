-- How code ends, by which calls are open there: those that were open at its begin.
use Rattle.std.proofs.Common.{ℕ, List, [], ◌∷◌}
use Rattle.std.specs.Prelude.{length, take, drop, nat_le, slice_get}
use Rattle.wasm_types.specs.Memories.{Memory}
use Rattle.wasm_objects.specs.Tables.{Table}
use Rattle.wasm_objects.specs.declared.raw.RawRef.{RawRef}
use Rattle.wasm_objects.specs.declared.raw.RawVal.{RawVal}
use Rattle.wasm_meter.specs.declared.call_hook.CallHook.{CallHook}
use Rattle.spec_machine.specs.Machine.{Machine}
use Rattle.spec_execution.specs.Activations.{Activation}
use Rattle.spec_execution.specs.Entering.{Code, Step, Exec}
use Rattle.spec_execution.specs.Operands as on
use Rattle.spec_execution.specs.Outcomes.{World, State, Outcome, Values, Branch, Return, Over, Stuck, spend}
use Rattle.spec_execution.specs.declared.answer.Event.{Event}
use Rattle.law_hooks.proofs.Worlds.{Base, Stands, EndStands, Ends, ended, either, found_stands, turn_stands, stands_charged}

module _ (B : Base) where
  -- code of a function
  abbrev pub Kept : List CallHook → Outcome → Type 0
  Kept calls (Values s) = Stands B calls s.world
  Kept calls (Branch l s) = Stands B calls s.world
  Kept calls (Return s) = Stands B calls s.world
  Kept calls (Over e w) = EndStands B calls e w

  pub record Keeps (calls : List CallHook) (o : Outcome) : Type 0 where
    pub by : Kept calls o

  -- a function, which ends by no branch and no return
  abbrev pub Finished : List CallHook → Outcome → Type 0
  Finished calls (Values s) = Stands B calls s.world
  Finished calls (Branch l s) = ⊥
  Finished calls (Return s) = ⊥
  Finished calls (Over e w) = EndStands B calls e w

  pub record Finishes (calls : List CallHook) (o : Outcome) : Type 0 where
    pub by : Finished calls o

  pub code_ends : (calls : List CallHook) → Ends B Over calls (Keeps calls)
  code_ends calls = record { by = λ e w h. record { by = h } }

  pub function_ends : (calls : List CallHook) → Ends B Over calls (Finishes calls)
  function_ends calls = record { by = λ e w h. record { by = h } }

  pub values_finishes : (calls : List CallHook) (s : State) → Stands B calls s.world → Finishes calls (Values s)
  values_finishes calls s h = record { by = h }

  pub values_keeps : (calls : List CallHook) (s : State) → Stands B calls s.world → Keeps calls (Values s)
  values_keeps calls s h = record { by = h }

  pub branch_keeps : (calls : List CallHook) (l : ℕ) (s : State) → Stands B calls s.world → Keeps calls (Branch l s)
  branch_keeps calls l s h = record { by = h }

  pub return_keeps : (calls : List CallHook) (s : State) → Stands B calls s.world → Keeps calls (Return s)
  return_keeps calls s h = record { by = h }

  pub finishes_keeps : (calls : List CallHook) (o : Outcome) → Finishes calls o → Keeps calls o
  finishes_keeps calls (Values s) h = record { by = h.by }
  finishes_keeps calls (Branch l s) h = absurd h.by
  finishes_keeps calls (Return s) h = absurd h.by
  finishes_keeps calls (Over e w) h = record { by = h.by }

  -- what code does keeps the calls that are open, and a function of the host finishes
  pub record Good (f : Exec) : Type 0 where
    pub code : (calls : List CallHook) (c : Code) (s : State) → Stands B calls s.world → Keeps calls (f c s)
    pub body :
        (calls : List CallHook) (a : Activation) (event : Event) (s : State) → Stands B calls s.world
        → Finishes calls (f (Step a event) s)

  module _ {calls : List CallHook} {P : Outcome → Type 0} (ends : Ends B Over calls P) where
    -- the turn of an instruction
    pub spend_stands :
        (amount : ℕ) (w : World) (go : World → Outcome) → Stands B calls w
        → ((v : World) → Stands B calls v → P (go v)) → P (spend amount w go)
    spend_stands amount w go h j =
        turn_stands B ends w _ h (λ v k. j _ (stands_charged B calls v v.machine amount k.flags k))

    -- ---- operands, and what code names; what does not fit them is stuck

    module _ (w : World) (h : Stands B calls w) where
      abbrev u : Outcome
      u = Over Stuck w

      pub value_stands :
          (vs : List RawVal) (go : RawVal → List RawVal → Outcome)
          → ((v : RawVal) (rest : List RawVal) → P (go v rest)) → P (on.on_value u vs go)
      value_stands [] go j = ended B ends Stuck w h
      value_stands (v ∷ rest) go j = j v rest

      pub i32_stands :
          (vs : List RawVal) (go : ℕ → List RawVal → Outcome) → ((x : ℕ) (rest : List RawVal) → P (go x rest))
          → P (on.on_i32 u vs go)
      i32_stands vs go j = value_stands vs _ (λ v rest. found_stands B ends w (on.integer_in 32 v) _ h (λ x. j x rest))

      pub reference_stands :
          (vs : List RawVal) (go : RawRef → List RawVal → Outcome)
          → ((x : RawRef) (rest : List RawVal) → P (go x rest)) → P (on.on_reference u vs go)
      reference_stands vs go j =
          value_stands vs _ (λ v rest. found_stands B ends w (on.reference_in v) _ h (λ x. j x rest))

      pub function_stands :
          (m : Machine) (instance k : ℕ) (go : ℕ → Outcome) → ((x : ℕ) → P (go x))
          → P (on.on_function u m instance k go)
      function_stands m instance k go j =
          found_stands B ends w (slice_get m.instances instance) _ h (λ i.
          found_stands B ends w (slice_get i.functions k) go h j)

      pub memory_stands :
          (m : Machine) (instance k : ℕ) (go : ℕ → Memory → Outcome) → ((x : ℕ) (y : Memory) → P (go x y))
          → P (on.on_memory u m instance k go)
      memory_stands m instance k go j =
          found_stands B ends w (slice_get m.instances instance) _ h (λ i.
          found_stands B ends w (slice_get i.memories k) _ h (λ x.
          found_stands B ends w (slice_get m.memories x) (go x) h (j x)))

      pub table_stands :
          (m : Machine) (instance k : ℕ) (go : ℕ → Table → Outcome) → ((x : ℕ) (y : Table) → P (go x y))
          → P (on.on_table u m instance k go)
      table_stands m instance k go j =
          found_stands B ends w (slice_get m.instances instance) _ h (λ i.
          found_stands B ends w (slice_get i.tables k) _ h (λ x.
          found_stands B ends w (slice_get m.tables x) (go x) h (j x)))

      pub front_stands :
          (k : ℕ) (vs : List RawVal) (go : List RawVal → List RawVal → Outcome)
          → ((front rest : List RawVal) → P (go front rest)) → P (on.on_front u k vs go)
      front_stands k vs go j =
          either B ends (nat_le k (length vs)) _ _ (j (take k vs) (drop k vs)) (ended B ends Stuck w h)
