use Rattle.std.proofs.Common.{◌≡◌, ℕ, List, length, drop, map, ap, sym, ◌∙◌, subst}
use Rattle.wasm_syntax.specs.declared.declarations.ModuleDecl.{ModuleDecl}
use Rattle.wasm_values.specs.declared.externals.Extern.{Extern}
use Rattle.wasm_objects.specs.Objects.{tables_of}
use Rattle.wasm_objects.specs.declared.raw.RawVal.{RawVal}
use Rattle.spec_execution.specs.Allocation.{from, function_numbers, imported_values, values_from, global_values, globals_with, new_tags}
use Rattle.spec_machine.specs.Machine.{Machine, guest}
use Rattle.store_state.specs.Machine.{run_machine}
use Rattle.store_state.specs.Parts.{segment_parts}
use Rattle.wasm_module.specs.Images.{leading_elements, table_images}
use Rattle.law_images.specs.Leading.{imaged_tables, left_elements, kept_datas}
use Rattle.instance_parts.specs.Preparing.{IsBehind}
use Rattle.instance_parts.proofs.AddedLemmas.{instance_count, named_instance}
use Rattle.instance_parts.proofs.making.prepare.Goals as goal

module _ (c : goal.In_ok-instance) where
  abbrev d : ModuleDecl
  d = c.args.validated.now

  abbrev x : ModuleDecl
  x = c.decl-decl.result.now

  is : x ≡ d
  is = c.decl-decl.ensures.value

  abbrev fs : List ℕ
  fs = c.in_ok-numbered.numbered.functions.items

  abbrev gs : List RawVal
  gs = c.in_ok-numbered.numbered.imported.items

  abbrev vs : List RawVal
  vs = c.in_ok-values.values.items

  values_are : vs ≡ values_from fs gs d.globals
  values_are =
      c.in_ok-values.ensures
      ∙ ap (λ (ns : List ℕ). values_from ns gs c.as_slice-4.result.now) c.as_slice-3.ensures.value
      ∙ ap (values_from fs gs) (c.as_slice-4.ensures ∙ ap (λ (y : ModuleDecl). y.globals) is)

  tables_are : tables_of c.in_ok-tables.tables.items ≡ imaged_tables fs gs d.tables (table_images d)
  tables_are =
      c.in_ok-tables.ensures
      ∙ ap (λ (ns : List ℕ). imaged_tables ns c.as_slice-2.result.now d.tables (table_images d)) c.as_slice.ensures.value
      ∙ ap (λ (ws : List RawVal). imaged_tables fs ws d.tables (table_images d)) c.as_slice-2.ensures.value

  segments_are : c.in_ok-segments.segments
      ≡ segment_parts (left_elements fs vs (leading_elements d) d.elements) (kept_datas d)
  segments_are =
      c.in_ok-segments.ensures
      ∙ ap (λ (ns : List ℕ). segment_parts
      (left_elements ns c.as_slice-8.result.now (leading_elements d) d.elements) (kept_datas d))
      c.as_slice-7.ensures.value
      ∙ ap (λ (ws : List RawVal). segment_parts (left_elements fs ws (leading_elements d) d.elements) (kept_datas d))
      c.as_slice-8.ensures.value

  globals_are : c.in_ok-globals.globals.items ≡ globals_with (drop (length gs) vs) d.globals
  globals_are =
      c.in_ok-globals.ensures
      ∙ ap (λ (ws : List RawVal). globals_with ws c.as_slice-6.result.now)
      (c.skip-defined.ensures.items
      ∙ ap (λ (n : ℕ). drop n c.as_slice-5.result.now)
      (c.len-count.ensures ∙ sym c.as_slice-2.ensures.len ∙ ap length c.as_slice-2.ensures.value)
      ∙ ap (drop (length gs)) c.as_slice-5.ensures.value)
      ∙ ap (globals_with (drop (length gs) vs)) (c.as_slice-6.ensures ∙ ap (λ (y : ModuleDecl). y.globals) is)

  module _ (base : Machine) where
    abbrev m : Machine
    m = run_machine base c.args.program.now c.args.held.now

    abbrev imports : List Extern
    imports = c.args.imports.now

    fs_are : fs ≡ function_numbers m d imports
    fs_are = c.in_ok-numbered.ensures.functions base

    gs_are : gs ≡ imported_values m imports
    gs_are = c.in_ok-numbered.ensures.imported base

    vs_are : vs ≡ global_values m d imports
    vs_are =
        values_are
        ∙ ap (λ (ns : List ℕ). values_from ns gs d.globals) fs_are
        ∙ ap (λ (ws : List RawVal). values_from (function_numbers m d imports) ws d.globals) gs_are

pub returns-clause-objects : goal.returns-clause-objects
returns-clause-objects c = λ base.
    let dd : ModuleDecl = c.args.validated.now in
    let k : Machine = run_machine base c.args.program.now c.args.held.now in
    record {
      memories = c.in_ok-memories.ensures;
      tables =
          tables_are c
          ∙ ap (λ (ns : List ℕ). imaged_tables ns (gs c) dd.tables (table_images dd)) (fs_are c base)
          ∙ ap (λ (ws : List RawVal).
          imaged_tables (function_numbers k dd c.args.imports.now) ws dd.tables (table_images dd)) (gs_are c base);
      globals =
          globals_are c
          ∙ ap (λ (ws : List RawVal). globals_with (drop (length ws) (vs c)) dd.globals) (gs_are c base)
          ∙ ap (λ (ws : List RawVal).
          globals_with (drop (length (imported_values k c.args.imports.now)) ws) dd.globals) (vs_are c base);
      tags = c.in_ok-tags.ensures ∙ ap new_tags (is c);
      functions =
          c.in_ok-functions.ensures
          ∙ ap (λ (n : ℕ). map (guest n) (from 0 (length (x c).functions))) (c.instance_count.ensures
          ∙ sym (instance_count c.args.program.now.instances c.args.held.now.segments))
          ∙ ap (λ (y : ModuleDecl). map (guest (length k.instances)) (from 0 (length y.functions))) (is c);
      instance =
          named_instance k dd c.args.imports.now (fs c) c.in_ok-numbered.numbered.globals.items (vs c)
          c.in_ok-instance.instance c.in_ok-segments.segments
          (c.in_ok-instance.ensures base c.args.program.now) (fs_are c base) (c.in_ok-numbered.ensures.globals base)
          (vs_are c base) (segments_are c);
    }

pub returns-clause-shaped : goal.returns-clause-shaped
returns-clause-shaped c = record {
  functions = fs c;
  imported = gs c;
  values = vs c;
  memories = c.in_ok-memories.ensures;
  tables = tables_are c;
  segments = segments_are c;
}

pub returns-clause-values : goal.returns-clause-values
returns-clause-values c = λ base. vs_are c base

pub returns-clause-behind : goal.returns-clause-behind
returns-clause-behind c = λ base.
    let dd : ModuleDecl = c.args.validated.now in
    let due : IsBehind (fs c) dd.start c.behind_segments-behind.result =
    subst (λ (ns : List ℕ). IsBehind ns dd.start c.behind_segments-behind.result) c.as_slice-9.ensures.value
    (subst (λ (y : ModuleDecl). IsBehind c.as_slice-9.result.now y.start c.behind_segments-behind.result) (is c)
    c.behind_segments-behind.ensures) in
    subst (λ (ns : List ℕ). IsBehind ns dd.start c.behind_segments-behind.result) (fs_are c base) due
