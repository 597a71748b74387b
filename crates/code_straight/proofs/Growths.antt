-- The growth of an instruction, as it is due.
use Rattle.std.proofs.Common.{◌≡◌, ◌≢◌, ℕ, Bool, true, false, length, refl, ap, sym, ◌∙◌, subst, inl, inr, eqb, ltb, if◌then◌else◌}
use Rattle.std.proofs.lemmas.Bool.{eqb-true, ltb-false}
use Rattle.std.specs.Prelude.{◌⊎◌, slice_get, Some}
use Rattle.wasm_types.specs.MemoryTypes.{within_maximum}
use Rattle.wasm_types.specs.Memories.{Memory}
use Rattle.wasm_meter.specs.Growths.{Growth}
use Rattle.wasm_objects.specs.Tables.{Table}
use Rattle.spec_machine.specs.Growth.{Rule, Grows, Fails, Asks, Granted, Failed, rule_of, growth_rule, memory_range, memory_growing, pages, table_range, table_growing}
use Rattle.spec_machine.specs.Machine.{Machine}
use Rattle.spec_execution.specs.Operands as on
use Rattle.store_state.specs.Parts.{HeldParts}
use Rattle.store_state.specs.Within.{MayGrow}
use Rattle.code_straight.specs.Growing.{IsMemoryGrowth, IsTableGrowth}
use Rattle.store_state.specs.Growing.{says}
use Rattle.code_straight.specs.declared.growing.MemoryGrowth.{MemoryGrowth}
use Rattle.code_straight.specs.declared.growing.TableGrowth.{TableGrowth}
use Rattle.store_state.specs.declared.growth.GrowthRule.{GrowthRule}
use Rattle.store_state.specs.declared.growth.GrowthRule.TheVariants as said

-- the same place of the same store
pub on_memory_in : {O : Type 0} (u : O) (m n : Machine) (i j k : ℕ) (go : ℕ → Memory → O) → m ≡ n → i ≡ j →
    on.on_memory u m i k go ≡ on.on_memory u n j k go
on_memory_in u m n i j k go e f = ap (λ x. on.on_memory u x i k go) e ∙ ap (λ x. on.on_memory u n x k go) f

pub on_table_in : {O : Type 0} (u : O) (m n : Machine) (i j k : ℕ) (go : ℕ → Table → O) → m ≡ n → i ≡ j →
    on.on_table u m i k go ≡ on.on_table u n j k go
on_table_in u m n i j k go e f = ap (λ x. on.on_table u x i k go) e ∙ ap (λ x. on.on_table u n x k go) f

-- what the rule says by its tests
rule_by : (same past limited within : Bool) → Rule
rule_by same past limited within =
    if same then Grows else if past then Fails else if limited then Asks
    else rule_of (if within then Granted else Failed)

not_failed : (g : Growth) (same past limited within : Bool) → says (rule_by same past limited within) g ≢ said.Fails →
    (same ≡ true) ⊎ (past ≡ false)
unfolding rule_by
not_failed g true past limited within h = inl refl
not_failed g false false limited within h = inr refl
not_failed g false true limited within h = absurd (h refl)

may_grow : (limited : Bool) (range : ℕ) (g : Growth) → says (growth_rule limited range g) g ≢ said.Fails
    → MayGrow range g
unfolding rule_by
may_grow limited range g h =
    elim (not_failed g (eqb g.current g.desired) (ltb range g.desired) limited
    (within_maximum g.desired g.maximum) h) [
      | inl e ↦ inl (eqb-true _ _ e)
      | inr e ↦ inr (ltb-false _ _ e)
    ]

module _ (held : HeldParts) (limited : Bool) where
  pub memory_may : (g : MemoryGrowth) (x : Memory) → IsMemoryGrowth held limited g x → g.rule ≢ said.Fails
      → (m : Memory) →
      slice_get held.memories g.memory ≡ Some m → MayGrow (memory_range m.ty) (memory_growing m.ty (pages m) g.delta)
  memory_may g x is goes m found =
      let one : Some x ≡ Some m = sym is.found ∙ found in
      let same : x ≡ m = cc in
      let may : MayGrow (memory_range x.ty) (memory_growing x.ty g.before g.delta) =
      may_grow limited (memory_range x.ty) (memory_growing x.ty g.before g.delta)
      (subst (λ (r : GrowthRule). r ≢ said.Fails) is.rule goes) in
      subst (λ (y : Memory). MayGrow (memory_range y.ty) (memory_growing y.ty (pages y) g.delta)) same
      (subst (λ (n : ℕ). MayGrow (memory_range x.ty) (memory_growing x.ty n g.delta)) (sym is.before) may)

  pub table_may : (g : TableGrowth) (x : Table) → IsTableGrowth held limited g x → g.rule ≢ said.Fails → (t : Table) →
      slice_get held.tables g.table ≡ Some t → MayGrow table_range (table_growing t.ty (length t.elements) g.delta)
  table_may g x is goes t found =
      let one : Some x ≡ Some t = sym is.found ∙ found in
      let same : x ≡ t = cc in
      let may : MayGrow table_range (table_growing x.ty g.before g.delta) =
      may_grow limited table_range (table_growing x.ty g.before g.delta)
      (subst (λ (r : GrowthRule). r ≢ said.Fails) is.rule goes) in
      subst (λ (y : Table). MayGrow table_range (table_growing y.ty (length y.elements) g.delta)) same
      (subst (λ (n : ℕ). MayGrow table_range (table_growing x.ty n g.delta)) (sym is.before) may)
