-- That sight is not empty, each by computation: two stores that differ outside of what a call reaches, where it comes to the
-- same; and two that differ inside, in the byte that it reads, where it does not.
use Rattle.std.proofs.Common.{◌≡◌, ℕ, zero, suc, true, List, [], ◌∷◌, Some, None, refl, sym, ap, ◌∙◌, subst}
use Rattle.std.specs.Prelude.{pos, slice_get}
use Rattle.std.proofs.lemmas.Bool.{false≢true}
use Rattle.std.proofs.lemmas.Option.{none-some, same_Some}
use Rattle.wasm_types.specs.Memories.{Memory, memory as memory_with}
use Rattle.wasm_types.specs.MemoryTypes.{memory_parts}
use Rattle.wasm_syntax.specs.declared.accesses.LoadOp.TheVariants as l
use Rattle.wasm_syntax.specs.declared.instr.Instr.TheVariants as i
use Rattle.wasm_values.specs.declared.refusals.Trap.TheVariants as trap
use Rattle.wasm_objects.specs.declared.raw.RawRef.TheVariants as raw
use Rattle.spec_machine.specs.Machine.{Machine, InstanceParts}
use Rattle.spec_execution.specs.Bodies.{exec, unfolded, step}
use Rattle.spec_execution.specs.Entering.{entry}
use Rattle.spec_execution.specs.Outcomes.{World, state, Outcome, Values, Over, Trapped}
use Rattle.spec_reach.specs.Inside.{NamesTheSame, SameInside}
use Rattle.spec_reach.specs.Nodes.{Node, func, memory, has}
use Rattle.spec_reach.specs.Nodes as node
use Rattle.spec_reach.specs.Reach.{reach}
use Rattle.law_confined.specs.Laws.{left}
use Rattle.law_confined.specs.Sight.{outcome_in, SeesAlike}
use Rattle.law_confined.proofs.ConfinementSamples.{doing, instance, victim, byte, store, begun}

-- the victim, and beside it an instance whose function calls the element of its table that byte 0 of its memory names;
-- these bytes stand there, and in a memory of nobody
abbrev holding : ℕ → Memory
holding b = memory_with (memory_parts 1 (Some 3) 0) (b ∷ [])

abbrev looking : InstanceParts
looking =
    record (instance (doing (i.Const32 (pos 0) ∷ i.Load l.I32Load8U 0 0 ∷ i.CallIndirect 0 0 ∷ [])) (1 ∷ []) (1 ∷ [])) {
      tables =
          0 ∷ [];
    }

abbrev seen : ℕ → ℕ → Machine
seen own elsewhere = record (store [] (raw.Func 0 ∷ [])) {
  memories = byte ∷ holding own ∷ holding elsewhere ∷ [];
  instances = victim ∷ looking ∷ [];
}

abbrev called : Machine → Outcome
called m = entry exec 0 1 [] None (begun m 20 [])

abbrev reached : List Node
reached = reach (seen 0 7) (func 1 ∷ [])

reached_is : reached ≡ func 0 ∷ func 1 ∷ node.instance 0 ∷ node.instance 1 ∷ memory 0 ∷ memory 1 ∷ node.table 0 ∷ []
reached_is = refl

-- ---- stores that differ in those two bytes alone

module _ (own elsewhere own' elsewhere' : ℕ) (set : List Node) where
  types_are :
      (k : ℕ) (x y : Memory) → slice_get (seen own elsewhere).memories k ≡ Some x
      → slice_get (seen own' elsewhere').memories k ≡ Some y → y.ty ≡ x.ty
  types_are zero x y e f = ap (λ (z : Memory). z.ty) (sym (same_Some byte y f) ∙ same_Some byte x e)
  types_are (suc zero) x y e f =
      ap (λ (z : Memory). z.ty) (sym (same_Some (holding own') y f)) ∙ ap (λ (z : Memory). z.ty)
      (same_Some (holding own) x e)
  types_are (suc (suc zero)) x y e f =
      ap (λ (z : Memory). z.ty) (sym (same_Some (holding elsewhere') y f))
      ∙ ap (λ (z : Memory). z.ty) (same_Some (holding elsewhere) x e)
  types_are (suc (suc (suc k))) x y e f = absurd (none-some x e)

  same_inside :
      ((k : ℕ) → has set (memory k) ≡ true
      → slice_get (seen own' elsewhere').memories k ≡ slice_get (seen own elsewhere).memories k)
      → SameInside set (seen own elsewhere) (seen own' elsewhere')
  same_inside h = record {
    rest = refl;
    as_many_memories = refl;
    as_many_tables = refl;
    as_many_globals = refl;
    as_many_instances = refl;
    memory_types = types_are;
    table_types = λ k x y e f. ap (λ z. z.ty) (same_Some y x (sym f ∙ e));
    global_types = λ k x y e f. ap (λ z. z.ty) (same_Some y x (sym f ∙ e));
    names = λ k x y e f. subst (NamesTheSame x) (same_Some x y (sym e ∙ f))
        (record { decl = refl; functions = refl; tables = refl; memories = refl; globals = refl; tags = refl });
    memories = h;
    tables = λ k e. refl;
    globals = λ k e. refl;
    instances = λ k e. refl;
  }

-- ---- outside

differ_outside : SameInside reached (seen 0 7) (seen 0 9)
differ_outside = same_inside 0 7 0 9 reached at
  where
    at : (k : ℕ) → has reached (memory k) ≡ true → slice_get (seen 0 9).memories k ≡ slice_get (seen 0 7).memories k
    at zero e = refl
    at (suc zero) e = refl
    at (suc (suc zero)) e = absurd (false≢true e)
    at (suc (suc (suc k))) e = refl

-- the call comes to the same
comes_to_the_same : called (seen 0 9) ≡ outcome_in (left (called (seen 0 9))).machine (called (seen 0 7))
unfolding exec unfolded step
comes_to_the_same = refl

-- ---- inside: of a set without the memory that the call reads, the law would be false

abbrev blind : List Node
blind = func 0 ∷ func 1 ∷ node.instance 0 ∷ node.instance 1 ∷ memory 0 ∷ node.table 0 ∷ []

differ_inside : SameInside blind (seen 0 7) (seen 1 7)
differ_inside = same_inside 0 7 1 7 blind at
  where
    at : (k : ℕ) → has blind (memory k) ≡ true → slice_get (seen 1 7).memories k ≡ slice_get (seen 0 7).memories k
    at zero e = refl
    at (suc zero) e = absurd (false≢true e)
    at (suc (suc zero)) e = refl
    at (suc (suc (suc k))) e = refl

-- it ends by no values in the one store, and by a trap in the other
calls_the_victim : called (seen 0 7) ≡ Values (state (left (called (seen 0 7))) [] [])
unfolding exec unfolded step
calls_the_victim = refl

finds_no_element : called (seen 1 7) ≡ Over (Trapped trap.TableOutOfBounds) (left (called (seen 1 7)))
unfolding exec unfolded step
finds_no_element = refl

values_or_trap :
    (o o' : Outcome) (w v : World) (t : Machine) → o ≡ Values (state w [] [])
    → o' ≡ Over (Trapped trap.TableOutOfBounds) v
    → o' ≡ outcome_in t o → ⊥
values_or_trap o o' w v t e f g = differ (sym f ∙ g ∙ ap (outcome_in t) e)
  where
    differ : Over (Trapped trap.TableOutOfBounds) v ≡ Values (state (record w { machine = t }) [] []) → ⊥
    differ h = absurd cc

needs_what_is_read : SeesAlike left outcome_in (entry exec 0 1 [] None) (begun (seen 0 7) 20 []) blind (seen 1 7) → ⊥
needs_what_is_read s =
    values_or_trap (called (seen 0 7)) (called (seen 1 7)) (left (called (seen 0 7))) (left (called (seen 1 7))) s.after
    calls_the_victim finds_no_element s.same
