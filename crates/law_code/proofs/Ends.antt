-- Outcomes: seen from an earlier store, behind inner code, and behind a call.
use Rattle.std.proofs.Common.{◌≡◌, ℕ, zero, suc, true, List, [], ◌∷◌, ◌++◌, length, reverse, refl, sym, ◌∙◌, subst, append-nil}
use Rattle.std.proofs.lemmas.List.{length-reverse}
use Rattle.std.proofs.lemmas.Option.{same_Some}
use Rattle.wasm_types.specs.Each.{Each}
use Rattle.wasm_types.proofs.MatchingLemmas.{no}
use Rattle.wasm_types.specs.declared.value_types.ValType.{ValType}
use Rattle.wasm_syntax.specs.Typing.{Typed, Reached, Unreached, IllTyped, onto, ends_in}
use Rattle.wasm_objects.specs.declared.raw.RawVal.{RawVal}
use Rattle.spec_machine.specs.WellFormed.{IsFunction}
use Rattle.spec_execution.specs.Bodies.{Exit, after, back, stuck, with_operands}
use Rattle.spec_execution.specs.Entering.{Frame, Code, Exec}
use Rattle.spec_execution.specs.Outcomes.{World, State, state, Outcome, Values, Branch, Return, Over, End, Trapped, Stuck}
use Rattle.law_code.specs.Good.{CodeMayRun, IsLaterWorld, IsGoodWorld, IsGood, IsGoodEnd, IsOnTop, IsBranch, IsGoodOutcome, IsAsTyped, IsReturned}
use Rattle.law_code.specs.Typed.{HaveTypes}
use Rattle.law_code.proofs.Combinators.{front_of}
use Rattle.law_code.proofs.TypedValues.{have_later, have_along, have_append}
use Rattle.law_code.proofs.Worlds.{may_run_later, later_on}

-- ---- from an earlier store

module _ (base mid : World) (x : IsLaterWorld base mid) where
  pub world_earlier : (w : World) → IsGoodWorld mid w → IsGoodWorld base w
  world_earlier w g = record {
    well = g.well;
    later = later_on base mid w x g.later;
    turns = g.turns;
    typed = g.typed;
  }

  pub good_earlier : (lks ts : List ValType) (s : State) → IsGood mid lks ts s → IsGood base lks ts s
  good_earlier lks ts s g =
      record { world = world_earlier s.world g.world; locals_are = g.locals_are; operands_are = g.operands_are }

  pub top_earlier : (lks top : List ValType) (s : State) → IsOnTop mid lks top s → IsOnTop base lks top s
  top_earlier lks top s h = record { rest = h.rest; good = good_earlier lks (onto top h.rest) s h.good }

  pub end_earlier : (e : End) (w : World) → IsGoodEnd mid e w → IsGoodEnd base e w
  end_earlier Stuck w h = h
  end_earlier (Trapped t) w h = world_earlier w h
  end_earlier _ w h = world_earlier w h

  pub returned_earlier : (results : List ValType) (o : Outcome) → IsReturned mid results o →
      IsReturned base results o
  returned_earlier results (Values s) h = good_earlier [] (onto results []) s h
  returned_earlier results (Over e w) h = end_earlier e w h
  returned_earlier results (Branch l s) h = h
  returned_earlier results (Return s) h = h

-- ---- whatever the typing says of the end

module _ (base : World) (lks results : List ValType) (labels : List (List ValType)) where
  pub end_as_typed : (ty : Typed) (e : End) (w : World) → IsGoodEnd base e w →
      IsAsTyped base lks results labels ty (Over e w)
  end_as_typed IllTyped e w h = tt
  end_as_typed Unreached e w h = h
  end_as_typed (Reached ts) e w h = h

  pub branch_as_typed : (ty : Typed) (l : ℕ) (s : State) → IsBranch base lks labels l s →
      IsAsTyped base lks results labels ty (Branch l s)
  branch_as_typed IllTyped l s h = tt
  branch_as_typed Unreached l s h = h
  branch_as_typed (Reached ts) l s h = h

  pub return_as_typed : (ty : Typed) (s : State) → IsOnTop base lks results s →
      IsAsTyped base lks results labels ty (Return s)
  return_as_typed IllTyped s h = tt
  return_as_typed Unreached s h = h
  return_as_typed (Reached ts) s h = h

  -- code that ends with types, or never
  pub ends_good : (wanted : List ValType) (ty : Typed) (o : Outcome) → ends_in wanted ty ≡ true →
      IsAsTyped base lks results labels ty o →
      IsGoodOutcome base lks results labels (IsGood base lks (reverse wanted)) o
  ends_good wanted (Reached ts) (Values s) e h = record {
    world = h.world;
    locals_are = h.locals_are;
    operands_are = have_along s.world.machine ts (reverse wanted) s.operands h.operands_are e;
  }
  ends_good wanted (Reached ts) (Branch l s) e h = h
  ends_good wanted (Reached ts) (Return s) e h = h
  ends_good wanted (Reached ts) (Over end w) e h = h
  ends_good wanted Unreached (Values s) e h = absurd h
  ends_good wanted Unreached (Branch l s) e h = h
  ends_good wanted Unreached (Return s) e h = h
  ends_good wanted Unreached (Over end w) e h = h
  ends_good wanted IllTyped o e h = no e

-- a branch to the innermost label
pub innermost : (base : World) (lks label : List ValType) (labels : List (List ValType)) (s : State) →
    IsBranch base lks (label ∷ labels) 0 s → IsOnTop base lks label s
innermost base lks label labels s h =
    subst (λ ts. IsOnTop base lks ts s) (sym (same_Some label h.label h.found)) h.good

-- ---- behind inner code, and behind a call: over operands of a store before it

module _ (base mid : World) (x : IsLaterWorld base mid)
    (fs : Each mid.machine.functions (IsFunction mid.machine)) (fr : Frame)
    (home : CodeMayRun mid fr) (us : List ValType) (below : List RawVal)
    (are : HaveTypes mid.machine us below) where
  -- these operands below others
  over : (lks ts : List ValType) (s : State) (front : List RawVal) → IsGood mid lks ts s →
      (res : List ValType) → HaveTypes s.world.machine (reverse res) front →
      IsGood base lks (onto res us) (with_operands s (front ++ below))
  over lks ts s front g res h = record {
    world = world_earlier base mid x s.world g.world;
    locals_are = g.locals_are;
    operands_are =
        have_append s.world.machine (reverse res) us front below h
        (have_later mid.machine s.world.machine g.world.later.store fs us below are);
  }

  pub after_good : (f : Exec) (next : Code) (e : Exit) (lks results label res : List ValType)
      (labels : List (List ValType)) (ty : Typed) (o : Outcome) → e.arity ≡ length label →
      ((s : State) → CodeMayRun s.world fr → IsGood base lks (onto res us) s →
      IsAsTyped base lks results labels ty (f next s)) →
      ((at : State) → o ≡ Branch zero at → (s : State) → CodeMayRun s.world fr →
      IsGood base lks (onto label us) s → IsAsTyped base lks results labels ty (f e.target s)) →
      IsGoodOutcome mid lks results (label ∷ labels) (IsGood mid lks (reverse res)) o →
      IsAsTyped base lks results labels ty (after f next e below o)
  after_good f next e lks results label res labels ty (Values s) arity on_end on_branch h =
      on_end (with_operands s (s.operands ++ below)) (may_run_later mid s.world fr h.world.later home)
      (over lks (reverse res) s s.operands h res h.operands_are)
  after_good f next e lks results label res labels ty (Branch zero s) arity on_end on_branch h =
      let t : IsOnTop mid lks label s = innermost mid lks label labels s h in
      front_of (IsAsTyped base lks results labels ty) s.world.machine (stuck s) (reverse label) t.rest e.arity
      s.operands (λ front rest. f e.target (with_operands s (front ++ below))) t.good.operands_are
      (arity ∙ sym (length-reverse label))
      (λ front rest hf hr.
      on_branch s refl (with_operands s (front ++ below)) (may_run_later mid s.world fr t.good.world.later home)
      (over lks (onto label t.rest) s front t.good label hf))
  after_good f next e lks results label res labels ty (Branch (suc l) s) arity on_end on_branch h =
      branch_as_typed base lks results labels ty l s
      (record { label = h.label; found = h.found; good = top_earlier base mid x lks h.label s h.good })
  after_good f next e lks results label res labels ty (Return s) arity on_end on_branch h =
      return_as_typed base lks results labels ty s (top_earlier base mid x lks results s h)
  after_good f next e lks results label res labels ty (Over end w) arity on_end on_branch h =
      end_as_typed base lks results labels ty end w (end_earlier base mid x end w h)

  pub back_good : (f : Exec) (next : Code) (lks results res : List ValType) (labels : List (List ValType))
      (ty : Typed) (locals : List RawVal) (o : Outcome) → HaveTypes mid.machine lks locals →
      ((s : State) → CodeMayRun s.world fr → IsGood base lks (onto res us) s →
      IsAsTyped base lks results labels ty (f next s)) →
      IsReturned mid res o → IsAsTyped base lks results labels ty (back f next locals below o)
  back_good f next lks results res labels ty locals (Values s) hl on_end h =
      on_end (state s.world locals (s.operands ++ below)) (may_run_later mid s.world fr h.world.later home)
      (record {
        world = world_earlier base mid x s.world h.world;
        locals_are = have_later mid.machine s.world.machine h.world.later.store fs lks locals hl;
        operands_are =
            have_append s.world.machine (reverse res) us s.operands below
            (subst (λ ts. HaveTypes s.world.machine ts s.operands) (append-nil (reverse res)) h.operands_are)
            (have_later mid.machine s.world.machine h.world.later.store fs us below are);
      })
  back_good f next lks results res labels ty locals (Over e w) hl on_end h =
      end_as_typed base lks results labels ty e w (end_earlier base mid x e w h)
  back_good f next lks results res labels ty locals (Branch l s) hl on_end h = absurd h
  back_good f next lks results res labels ty locals (Return s) hl on_end h = absurd h
