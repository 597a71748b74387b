-- How code ends: by a refusal only where its cause was heard.
use Rattle.std.proofs.Common.{ℕ, List, [], ◌∷◌, Option}
use Rattle.std.specs.Prelude.{length, take, drop, nat_le, slice_get}
use Rattle.wasm_types.specs.Memories.{Memory}
use Rattle.wasm_values.specs.declared.refusals.Refusal.{Refusal}
use Rattle.wasm_objects.specs.Tables.{Table}
use Rattle.wasm_objects.specs.declared.raw.RawRef.{RawRef}
use Rattle.wasm_objects.specs.declared.raw.RawVal.{RawVal}
use Rattle.spec_machine.specs.Changes.{charge}
use Rattle.spec_machine.specs.Machine.{Machine}
use Rattle.spec_execution.specs.Askings.{Asking}
use Rattle.spec_execution.specs.Entering.{Code, Exec}
use Rattle.spec_execution.specs.Operands as on
use Rattle.spec_execution.specs.Outcomes.{World, State, Outcome, Values, Branch, Return, Over, End, Trapped, Refused, Stopped, Waiting, Exhausted, Stuck, spend}
use Rattle.law_causes.specs.Causes.{Reasons, CodeRefuses}
use Rattle.law_causes.proofs.CausesHeard.{Gives}
use Rattle.law_causes.proofs.Worlds.{Since, EndSince, Ends, either, found_since, turn_since, since_lasts, caused_for}

module _ (B : List Asking) (reason : Reasons) where
  abbrev pub Kept : Outcome → Type 0
  Kept (Values s) = Since B s.world
  Kept (Branch l s) = Since B s.world
  Kept (Return s) = Since B s.world
  Kept (Over e w) = EndSince B reason e w

  pub record Keeps (o : Outcome) : Type 0 where
    pub by : Kept o

  pub code_ends : Ends B Over reason Keeps
  code_ends = record { by = λ e w h. record { by = h } }

  pub values_keeps : (s : State) → Since B s.world → Keeps (Values s)
  values_keeps s h = record { by = h }

  pub branch_keeps : (l : ℕ) (s : State) → Since B s.world → Keeps (Branch l s)
  branch_keeps l s h = record { by = h }

  pub return_keeps : (s : State) → Since B s.world → Keeps (Return s)
  return_keeps s h = record { by = h }

  -- code that is good, where what code refuses by itself is a reason
  pub record Good (f : Exec) : Type 0 where
    pub own : (why : Refusal) → CodeRefuses why → reason.own why
    pub code : (c : Code) (s : State) → Since B s.world → Keeps (f c s)

  -- the turn of an instruction
  pub spend_keeps :
      (amount : ℕ) (w : World) (go : World → Outcome) → Since B w
      → ((v : World) → Since B v → Keeps (go v)) → Keeps (spend amount w go)
  spend_keeps amount w go h j =
      turn_since B code_ends (since_lasts B) w (λ v. go (record v { machine = charge v.machine amount })) h
      (λ v k. j (record v { machine = charge v.machine amount }) (record { more = k.more; course = k.course }))

  -- ---- operands, and what code names; what does not fit them is stuck

  module _ (w : World) (h : Since B w) where
    abbrev u : Outcome
    u = Over Stuck w

    pub stuck : Keeps u
    stuck = record { by = h }

    pub found_keeps : {A : Type 0} (o : Option A) (go : A → Outcome) → ((a : A) → Keeps (go a)) → Keeps (on.found u o go)
    found_keeps o go j = found_since B code_ends w o go h j

    pub value_keeps :
        (vs : List RawVal) (go : RawVal → List RawVal → Outcome)
        → ((v : RawVal) (rest : List RawVal) → Keeps (go v rest)) → Keeps (on.on_value u vs go)
    value_keeps [] go j = stuck
    value_keeps (v ∷ rest) go j = j v rest

    pub i32_keeps :
        (vs : List RawVal) (go : ℕ → List RawVal → Outcome) → ((x : ℕ) (rest : List RawVal) → Keeps (go x rest))
        → Keeps (on.on_i32 u vs go)
    i32_keeps vs go j = value_keeps vs _ (λ v rest. found_keeps (on.integer_in 32 v) _ (λ x. j x rest))

    pub reference_keeps :
        (vs : List RawVal) (go : RawRef → List RawVal → Outcome)
        → ((x : RawRef) (rest : List RawVal) → Keeps (go x rest)) → Keeps (on.on_reference u vs go)
    reference_keeps vs go j = value_keeps vs _ (λ v rest. found_keeps (on.reference_in v) _ (λ x. j x rest))

    pub function_keeps :
        (m : Machine) (instance k : ℕ) (go : ℕ → Outcome) → ((x : ℕ) → Keeps (go x))
        → Keeps (on.on_function u m instance k go)
    function_keeps m instance k go j =
        found_keeps (slice_get m.instances instance) _ (λ i. found_keeps (slice_get i.functions k) go j)

    pub memory_keeps :
        (m : Machine) (instance k : ℕ) (go : ℕ → Memory → Outcome) → ((x : ℕ) (y : Memory) → Keeps (go x y))
        → Keeps (on.on_memory u m instance k go)
    memory_keeps m instance k go j =
        found_keeps (slice_get m.instances instance) _ (λ i. found_keeps (slice_get i.memories k) _ (λ x.
        found_keeps (slice_get m.memories x) (go x) (j x)))

    pub table_keeps :
        (m : Machine) (instance k : ℕ) (go : ℕ → Table → Outcome) → ((x : ℕ) (y : Table) → Keeps (go x y))
        → Keeps (on.on_table u m instance k go)
    table_keeps m instance k go j =
        found_keeps (slice_get m.instances instance) _ (λ i. found_keeps (slice_get i.tables k) _ (λ x.
        found_keeps (slice_get m.tables x) (go x) (j x)))

    pub front_keeps :
        (k : ℕ) (vs : List RawVal) (go : List RawVal → List RawVal → Outcome)
        → ((front rest : List RawVal) → Keeps (go front rest)) → Keeps (on.on_front u k vs go)
    front_keeps k vs go j = either B code_ends (nat_le k (length vs)) _ _ (j (take k vs) (drop k vs)) stuck

-- for another reason
module _ (B : List Asking) {reason other : Reasons} (so : Gives reason other) where
  end_for : (e : End) (w : World) → EndSince B reason e w → EndSince B other e w
  end_for (Trapped t) w h = h
  end_for (Refused why) w h = caused_for B so why w h
  end_for Stopped w h = h
  end_for (Waiting q) w h = h
  end_for Exhausted w h = h
  end_for Stuck w h = h

  keeps_for : (o : Outcome) → Keeps B reason o → Keeps B other o
  keeps_for (Values s) h = record { by = h.by }
  keeps_for (Branch l s) h = record { by = h.by }
  keeps_for (Return s) h = record { by = h.by }
  keeps_for (Over e w) h = record { by = end_for e w h.by }

  pub good_for : (f : Exec) → Good B reason f → Good B other f
  good_for f good = record {
    own = λ why is. so.own why (good.own why is);
    code = λ c s h. keeps_for (f c s) (good.code c s h);
  }
