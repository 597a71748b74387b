-- Where a run stands: which calls are open behind what it heard, through turns and questions; and how what may end
-- early ends.
use Rattle.std.proofs.Common.{◌≡◌, ℕ, zero, suc, Bool, true, false, List, [], ◌∷◌, ◌++◌, Option, Some, None, refl, ap, ◌∙◌}
use Rattle.std.specs.Prelude.{if◌then◌else◌}
use Rattle.std.proofs.lemmas.List.{append_assoc}
use Rattle.wasm_meter.specs.declared.call_hook.CallHook.{CallHook}
use Rattle.spec_machine.specs.Changes.{set_fuel, charge}
use Rattle.spec_machine.specs.Machine.{Machine}
use Rattle.spec_execution.specs.Askings.{Question, Answer, Asking, is_answer}
use Rattle.spec_execution.specs.Operands as on
use Rattle.spec_execution.specs.Outcomes.{World, End, Trapped, Refused, Stopped, Waiting, Exhausted, Stuck, on_turn, turn, hear, ask}
use Rattle.law_store.proofs.Lists.{each_none, each_more, each_append}
use Rattle.law_hooks.specs.Brackets.{open_calls, borders_in}
use Rattle.law_hooks.specs.Askers.{Flags, flags_of, MayHear, AreHeard}
use Rattle.law_hooks.proofs.BorderLemmas.{open_calls-heard}

-- what was heard where a run began, and whether a hook is asked, which nothing in a run changes
pub record Base : Type 0 where
  pub heard : List Asking
  pub flags : Flags

module _ (B : Base) where
  -- a question that is no border, and may be asked
  abbrev pub IsNoBorder : Question → Type 0
  IsNoBorder q = (a : Answer) → is_answer q a ≡ true → (borders_in ((q, a) ∷ []) ≡ []) × MayHear B.flags q a

  -- a world of the run, and the calls that are open there
  pub record Stands (calls : List CallHook) (w : World) : Type 0 where
    pub more : List Asking
    pub course : w.heard ≡ B.heard ++ more
    pub passed : open_calls (borders_in more) [] ≡ Some calls
    pub flags : flags_of w.machine ≡ B.flags
    pub heard : AreHeard B.flags more

  -- whichever calls are open
  pub record StandsSomewhere (w : World) : Type 0 where
    pub calls : List CallHook
    pub stands : Stands calls w

  -- behind a step that had no memory: whichever calls are open
  pub record StandsShort (w : World) : Type 0 where
    pub calls : List CallHook
    pub more : List Asking
    pub course : w.heard ≡ B.heard ++ more
    pub passed : open_calls (borders_in more) [] ≡ Some calls

  pub short_of : (calls : List CallHook) (w : World) → Stands calls w → StandsShort w
  short_of calls w h = record { calls = calls; more = h.more; course = h.course; passed = h.passed }

  -- by a trap or a refusal code ends with the calls that were open at its begin; in any other way early, with any
  abbrev pub EndStands : List CallHook → End → World → Type 0
  EndStands calls (Trapped t) w = Stands calls w
  EndStands calls (Refused why) w = Stands calls w
  EndStands calls Exhausted w = StandsShort w
  EndStands calls e w = StandsSomewhere w

  -- ---- worlds

  pub stands_in :
      (calls : List CallHook) (w : World) (m : Machine) → flags_of m ≡ B.flags → Stands calls w
      → Stands calls (record w { machine = m })
  stands_in calls w m e h =
      record { more = h.more; course = h.course; passed = h.passed; flags = e; heard = h.heard }

  pub stands_later : (calls : List CallHook) (w : World) (turns : ℕ) → Stands calls w
      → Stands calls (record w { turns = turns })
  stands_later calls w turns h =
      record { more = h.more; course = h.course; passed = h.passed; flags = h.flags; heard = h.heard }

  -- one asking more
  pub stands_heard :
      (calls next : List CallHook) (w : World) (q : Question) (a : Answer) (rest : List Answer)
      → open_calls (borders_in ((q, a) ∷ [])) calls ≡ Some next → MayHear B.flags q a → Stands calls w
      → Stands next (record w { heard = w.heard ++ (q, a) ∷ []; answers = rest })
  stands_heard calls next w q a rest e may h = record {
    more = h.more ++ (q, a) ∷ [];
    course = ap (λ (xs : List Asking). xs ++ (q, a) ∷ []) h.course ∙ append_assoc B.heard h.more ((q, a) ∷ []);
    passed = open_calls-heard h.more (q, a) calls next h.passed e;
    flags = h.flags;
    heard = each_append (λ (asking : Asking). MayHear B.flags asking.0 asking.1) h.more ((q, a) ∷ []) h.heard
        (each_more (λ (asking : Asking). MayHear B.flags asking.0 asking.1) (q, a) [] may
        (each_none (λ (asking : Asking). MayHear B.flags asking.0 asking.1)));
  }

  charge_hooked : (m : Machine) (fuel : _) (b : Bool) → flags_of (if b then set_fuel m fuel else m) ≡ flags_of m
  charge_hooked m fuel true = refl
  charge_hooked m fuel false = refl

  pub stands_charged :
      (calls : List CallHook) (w : World) (m : Machine) (amount : ℕ) → flags_of m ≡ B.flags
      → Stands calls w → Stands calls (record w { machine = charge m amount })
  stands_charged calls w m amount e h =
      stands_in calls w (charge m amount) (charge_hooked m _ m.engine.consumes_fuel ∙ e) h

  pub end_stands : (calls : List CallHook) (e : End) (w : World) → Stands calls w → EndStands calls e w
  end_stands calls (Trapped t) w h = h
  end_stands calls (Refused why) w h = h
  end_stands calls Exhausted w h = short_of calls w h
  end_stands calls e w h = record { calls = calls; stands = h }

  -- ---- what may end early

  -- a property of results that early ends have
  pub record Ends {O : Type 0} (early : End → World → O) (calls : List CallHook) (P : O → Type 0) : Type 0 where
    pub by : (e : End) (w : World) → EndStands calls e w → P (early e w)

  module _ {O : Type 0} {early : End → World → O} {calls : List CallHook} {P : O → Type 0}
      (ends : Ends early calls P) where
    pub ended : (e : End) (w : World) → Stands calls w → P (early e w)
    ended e w h = ends.by e w (end_stands calls e w h)

    pub either : (b : Bool) (x y : O) → P x → P y → P (if b then x else y)
    either true x y h j = h
    either false x y h j = j

    -- by what holds there
    pub where_true : (b : Bool) (x y : O) → (b ≡ true → P x) → P y → P (if b then x else y)
    where_true true x y h j = h refl
    where_true false x y h j = j

    on_turn_stands :
        (w : World) (go : World → O) (k : ℕ) → Stands calls w → ((v : World) → Stands calls v → P (go v))
        → P (on_turn early w go k)
    on_turn_stands w go zero h j = ended Stopped w h
    on_turn_stands w go (suc turns) h j = j _ (stands_later calls w turns h)

    pub turn_stands :
        (w : World) (go : World → O) → Stands calls w → ((v : World) → Stands calls v → P (go v))
        → P (turn early w go)
    turn_stands w go h j = on_turn_stands w go w.turns h j

    pub hear_stands :
        (w : World) (q : Question) (go : Answer → World → O) (answers : List Answer) → IsNoBorder q → Stands calls w
        → ((a : Answer) (v : World) → Stands calls v → P (go a v)) → P (hear early w q go answers)
    hear_stands w q go [] apart h j = ended (Waiting q) w h
    hear_stands w q go (a ∷ rest) apart h j =
        where_true (is_answer q a) _ _
        (λ e. j a _
        (stands_heard calls calls w q a rest (ap (λ (events : List CallHook). open_calls events calls) (apart a e).0) (apart a e).1
        h))
        (ended (Waiting q) w h)

    pub ask_stands :
        (w : World) (q : Question) (go : Answer → World → O) → IsNoBorder q → Stands calls w
        → ((a : Answer) (v : World) → Stands calls v → P (go a v)) → P (ask early w q go)
    ask_stands w q go apart h j =
        turn_stands w (λ v. hear early v q go v.answers) h (λ v k. hear_stands v q go v.answers apart k j)

    -- what code names
    pub found_stands :
        {A : Type 0} (w : World) (o : Option A) (go : A → O) → Stands calls w → ((a : A) → P (go a))
        → P (on.found (early Stuck w) o go)
    found_stands w None go h j = ended Stuck w h
    found_stands w (Some a) go h j = j a
