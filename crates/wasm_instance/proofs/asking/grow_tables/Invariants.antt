use Rattle.std.proofs.Common.{◌≡◌, ◌≤◌, length}
use Rattle.wasm_types.specs.Each.{Each}
use Rattle.wasm_syntax.specs.declared.declarations.TableDecl.{TableDecl}
use Rattle.law_store.specs.Granted.{IsGranted}
use Rattle.spec_execution.specs.Instantiation.{new_table_plan}
use Rattle.spec_machine.specs.Machine.{Machine}
use Rattle.wasm_instance.specs.Asking.{growing_tables, Reaches}
use Rattle.wasm_instance.proofs.asking.grow_tables.Given as goal

-- what is left is what is still to be decided, and those before it are granted
abbrev pub invariant-tables : goal.invariant-tables
invariant-tables g l = record {
  reached : (m : Machine) → m.is_limited ≡ l.limited → Reaches g.T.ResourceLimiter.growths m
      (growing_tables l.tables) (growing_tables l.rest) l.fn.store l.store;
  granted : (m : Machine) → m.is_limited ≡ l.limited →
      Each l.rest (λ (t : TableDecl). IsGranted m (new_table_plan m t.ty)) →
      Each l.tables (λ (t : TableDecl). IsGranted m (new_table_plan m t.ty));
  machine : l.store.machine ≡ l.fn.store.machine;
  within : l.store.turns ≤ l.most;
}

abbrev pub decreases-tables : goal.decreases-tables
decreases-tables g l = length l.rest
