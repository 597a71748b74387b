-- What is reached, computed: of three instances that share a table, the one whose function stands in it and the one that
-- is called are reached, and the third is not.
use Rattle.std.proofs.Common.{◌≡◌, ℕ, false, [], ◌∷◌, refl}
use Rattle.wasm_types.specs.Memories.{Memory}
use Rattle.wasm_types.specs.TableTypes.{TableParts}
use Rattle.wasm_syntax.specs.declared.declarations.ModuleDecl.{ModuleDecl}
use Rattle.wasm_values.specs.declared.store_id.StoreId.{StoreId}
use Rattle.wasm_objects.specs.Tables.{table as table_of}
use Rattle.wasm_objects.specs.declared.raw.RawRef.TheVariants as raw
use Rattle.spec_machine.specs.Machine.{Machine, EngineParts, InstanceParts, guest, new_machine}
use Rattle.spec_reach.specs.Nodes.{func, instance, memory, table, has}
use Rattle.spec_reach.specs.Reach.{reach}

module _ (id : StoreId) (engine : EngineParts) (d : ModuleDecl) (ty : TableParts) (empty : Memory) where
  -- an instance with one function, one memory and the shared table
  abbrev of : ℕ → InstanceParts
  of n = record {
    decl = d;
    functions = n ∷ [];
    memories = n ∷ [];
    tables = 0 ∷ [];
    globals = [];
    tags = [];
    elements = [];
    datas = [];
  }

  abbrev shared : Machine
  shared = record (new_machine id engine) {
    functions = guest 0 0 ∷ guest 1 0 ∷ guest 2 0 ∷ [];
    memories = empty ∷ empty ∷ empty ∷ [];
    tables = table_of ty (raw.Func 0 ∷ raw.Null ∷ []) ∷ [];
    instances = of 0 ∷ of 1 ∷ of 2 ∷ [];
  }

  reached : reach shared (func 1 ∷ [])
      ≡ func 0 ∷ func 1 ∷ instance 0 ∷ instance 1 ∷ memory 0 ∷ memory 1 ∷ table 0 ∷ []
  reached = refl

  third : has (reach shared (func 1 ∷ [])) (memory 2) ≡ false
  third = refl
