-- Each named change of a store that a host's calls make leaves a later store, and keeps one well formed.
use Rattle.std.proofs.Common.{◌≡◌, ℕ, List, slice_get, Some}
use Rattle.wasm_types.specs.Each.{Each}
use Rattle.wasm_types.specs.Memories.{Memory}
use Rattle.wasm_types.specs.Signatures.{Signature}
use Rattle.wasm_objects.specs.Globals.{Global}
use Rattle.wasm_objects.specs.Tables.{Table}
use Rattle.spec_machine.specs.Changes.{set_memory, set_table, set_global, append_memories, append_tables, append_globals, append_tags, append_functions}
use Rattle.spec_machine.specs.Machine.{Machine, Function}
use Rattle.spec_machine.specs.WellFormed.{IsMemory, IsTable, IsGlobal, IsType, IsFunction, IsWellFormed}
use Rattle.law_store.specs.Later.{IsSame, IsLaterMemory, IsLaterTable, IsLaterGlobal, Extends}
use Rattle.law_store.proofs.LaterStoreLemmas.{same_is_same, memory_own, table_own, global_own, extends_memories, extends_tables, extends_globals, extends_tags, extends_functions}
use Rattle.law_store.proofs.WellFormedLemmas.{kept}
use Rattle.law_store.proofs.Lists.{each_append, each_set, later_append, later_set}

module _ (m : Machine) where
  -- one object becomes another, by its number
  pub extends_set_memory : (n : ℕ) (x y : Memory) → slice_get m.memories n ≡ Some x → IsLaterMemory x y →
      Extends m (set_memory m n y)
  extends_set_memory n x y found later = extends_memories m _
      (later_set IsLaterMemory m.memories n x y memory_own found later)

  pub extends_set_table : (n : ℕ) (x y : Table) → slice_get m.tables n ≡ Some x → IsLaterTable x y →
      Extends m (set_table m n y)
  extends_set_table n x y found later = extends_tables m _
      (later_set IsLaterTable m.tables n x y table_own found later)

  pub extends_set_global : (n : ℕ) (x y : Global) → slice_get m.globals n ≡ Some x → IsLaterGlobal x y →
      Extends m (set_global m n y)
  extends_set_global n x y found later = extends_globals m _
      (later_set IsLaterGlobal m.globals n x y global_own found later)

  -- new objects at the end
  pub extends_append_memories : (xs : List Memory) → Extends m (append_memories m xs)
  extends_append_memories xs = extends_memories m _ (later_append IsLaterMemory m.memories xs memory_own)

  pub extends_append_tables : (xs : List Table) → Extends m (append_tables m xs)
  extends_append_tables xs = extends_tables m _ (later_append IsLaterTable m.tables xs table_own)

  pub extends_append_globals : (xs : List Global) → Extends m (append_globals m xs)
  extends_append_globals xs = extends_globals m _ (later_append IsLaterGlobal m.globals xs global_own)

  pub extends_append_tags : (tys : List Signature) → Extends m (append_tags m tys)
  extends_append_tags tys = extends_tags m _ (later_append IsSame m.tags tys same_is_same)

  pub extends_append_functions : (fs : List Function) → Extends m (append_functions m fs)
  extends_append_functions fs = extends_functions m _ (later_append IsSame m.functions fs same_is_same)

  module _ (w : IsWellFormed m) where
    pub keeps_set_memory : (n : ℕ) (x y : Memory) → slice_get m.memories n ≡ Some x → IsLaterMemory x y →
        IsMemory y → IsWellFormed (set_memory m n y)
    keeps_set_memory n x y found later now =
        kept m (set_memory m n y) w (extends_set_memory n x y found later)
        (each_set IsMemory m.memories n y w.memories_are now) w.tables_are w.globals_are w.tags_are w.functions_are
        w.instances_are w.deadline_is w.debt_is

    pub keeps_set_table : (n : ℕ) (x y : Table) → slice_get m.tables n ≡ Some x → IsLaterTable x y →
        IsTable m y → IsWellFormed (set_table m n y)
    keeps_set_table n x y found later now =
        kept m (set_table m n y) w (extends_set_table n x y found later)
        w.memories_are (each_set (IsTable m) m.tables n y w.tables_are now) w.globals_are w.tags_are w.functions_are
        w.instances_are w.deadline_is w.debt_is

    pub keeps_set_global : (n : ℕ) (x y : Global) → slice_get m.globals n ≡ Some x → IsLaterGlobal x y →
        IsGlobal m y → IsWellFormed (set_global m n y)
    keeps_set_global n x y found later now =
        kept m (set_global m n y) w (extends_set_global n x y found later)
        w.memories_are w.tables_are (each_set (IsGlobal m) m.globals n y w.globals_are now) w.tags_are w.functions_are
        w.instances_are w.deadline_is w.debt_is

    pub keeps_append_memories : (xs : List Memory) → Each xs IsMemory → IsWellFormed (append_memories m xs)
    keeps_append_memories xs each =
        kept m (append_memories m xs) w (extends_append_memories xs)
        (each_append IsMemory m.memories xs w.memories_are each) w.tables_are w.globals_are w.tags_are w.functions_are
        w.instances_are w.deadline_is w.debt_is

    pub keeps_append_tables : (xs : List Table) → Each xs (IsTable m) → IsWellFormed (append_tables m xs)
    keeps_append_tables xs each =
        kept m (append_tables m xs) w (extends_append_tables xs)
        w.memories_are (each_append (IsTable m) m.tables xs w.tables_are each) w.globals_are w.tags_are w.functions_are
        w.instances_are w.deadline_is w.debt_is

    pub keeps_append_globals : (xs : List Global) → Each xs (IsGlobal m) → IsWellFormed (append_globals m xs)
    keeps_append_globals xs each =
        kept m (append_globals m xs) w (extends_append_globals xs)
        w.memories_are w.tables_are (each_append (IsGlobal m) m.globals xs w.globals_are each) w.tags_are
        w.functions_are w.instances_are w.deadline_is w.debt_is

    pub keeps_append_tags : (tys : List Signature) → Each tys (IsType m) → IsWellFormed (append_tags m tys)
    keeps_append_tags tys each =
        kept m (append_tags m tys) w (extends_append_tags tys)
        w.memories_are w.tables_are w.globals_are (each_append (IsType m) m.tags tys w.tags_are each) w.functions_are
        w.instances_are w.deadline_is w.debt_is

    pub keeps_append_functions : (fs : List Function) → Each fs (IsFunction m) → IsWellFormed (append_functions m fs)
    keeps_append_functions fs each =
        kept m (append_functions m fs) w (extends_append_functions fs)
        w.memories_are w.tables_are w.globals_are w.tags_are
        (each_append (IsFunction m) m.functions fs w.functions_are each) w.instances_are w.deadline_is w.debt_is
