use Rattle.std.proofs.Common.{◌≡◌, ◌≤◌, ◌++◌, drop, length}
use Rattle.std.specs.Rc.{rc_slice_items}
use Rattle.wasm_module.specs.Images.{table_images}
use Rattle.wasm_objects.specs.Objects.{tables_of}
use Rattle.law_images.specs.Leading.{imaged_tables}
use Rattle.instance_parts.proofs.objects.tables_over.Given as goal

abbrev pub invariant-tables : goal.invariant-tables
invariant-tables l = record {
  made : tables_of l.made.items
      ++ imaged_tables (rc_slice_items l.functions) l.globals l.rest (drop l.number (table_images l.validated))
      ≡ imaged_tables (rc_slice_items l.functions) l.globals l.validated.tables (table_images l.validated);
  place : l.rest ≡ drop l.number l.validated.tables;
  few : length l.validated.tables ≤ 1000000;
}

abbrev pub decreases-tables : goal.decreases-tables
decreases-tables l = length l.rest
