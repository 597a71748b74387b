-- A memory or a table of a store that was changed where a test holds: what that is of the store.
use Rattle.std.proofs.Common.{◌≡◌, ℕ, Bool, true, false, List, ap, sym, ◌∙◌}
use Rattle.std.proofs.lemmas.Bool.{OnTrue_at, OnFalse_at}
use Rattle.std.specs.Prelude.{Some, slice_get}
use Rattle.wasm_types.specs.Memories.{Memory}
use Rattle.wasm_objects.specs.Tables.{Table}
use Rattle.spec_machine.specs.Changes.{set_memory, set_table}
use Rattle.spec_machine.specs.Machine.{Machine}
use Rattle.store_state.specs.Changes.{Changes}
use Rattle.store_state.specs.Machine.{run_machine}
use Rattle.store_state.specs.Parts.{ProgramParts, HeldParts}

module _ (base : Machine) (p : ProgramParts) (old new : HeldParts) (m : Machine) (seen : run_machine base p old ≡ m)
    (n : ℕ) (done : Bool) where
  module _ (x : Memory) (found : slice_get m.memories n ≡ Some x) (test : Memory → Bool) (after : Memory → Memory)
      (changes : Changes n test after old.memories done new.memories)
      (rest : new ≡ record old { memories = new.memories }) where
    there : slice_get old.memories n ≡ Some x
    there = ap (λ (k : Machine). slice_get k.memories n) seen ∙ found

    pub memory_tested : test x ≡ done
    memory_tested = sym (changes.tested x there)

    pub memory_changed : done ≡ true → run_machine base p new ≡ set_memory m n (after x)
    memory_changed e =
        ap (run_machine base p) (rest
        ∙ ap (λ (l : List Memory). record old { memories = l }) (OnTrue_at e (changes.changed x there)))
        ∙ ap (λ (k : Machine). set_memory k n (after x)) seen

    pub memory_unchanged : done ≡ false → run_machine base p new ≡ m
    memory_unchanged e =
        ap (run_machine base p) (rest
        ∙ ap (λ (l : List Memory). record old { memories = l }) (OnFalse_at e changes.refused)) ∙ seen

  module _ (x : Table) (found : slice_get m.tables n ≡ Some x) (test : Table → Bool) (after : Table → Table)
      (changes : Changes n test after old.tables done new.tables)
      (rest : new ≡ record old { tables = new.tables }) where
    found_table : slice_get old.tables n ≡ Some x
    found_table = ap (λ (k : Machine). slice_get k.tables n) seen ∙ found

    pub table_tested : test x ≡ done
    table_tested = sym (changes.tested x found_table)

    pub table_changed : done ≡ true → run_machine base p new ≡ set_table m n (after x)
    table_changed e =
        ap (run_machine base p) (rest
        ∙ ap (λ (l : List Table). record old { tables = l }) (OnTrue_at e (changes.changed x found_table)))
        ∙ ap (λ (k : Machine). set_table k n (after x)) seen

    pub table_unchanged : done ≡ false → run_machine base p new ≡ m
    table_unchanged e =
        ap (run_machine base p) (rest
        ∙ ap (λ (l : List Table). record old { tables = l }) (OnFalse_at e changes.refused)) ∙ seen
