-- What no call on an object changes: all but the objects.
use Rattle.std.proofs.Common.{◌≡◌, ℕ, List, Option, Ok, refl, ap, arith, ◌∙◌, le_trans, subst}
use Rattle.wasm_types.specs.GlobalTypes.{GlobalParts}
use Rattle.wasm_types.specs.Memories.{Memory}
use Rattle.wasm_types.specs.MemoryTypes.{MemoryParts}
use Rattle.wasm_types.specs.Signatures.{Signature}
use Rattle.wasm_types.specs.TableTypes.{TableParts}
use Rattle.wasm_values.specs.declared.externals.Extern.{Extern}
use Rattle.wasm_values.specs.declared.handles.Func.{Func}
use Rattle.wasm_values.specs.declared.handles.Global.{Global as GlobalHandle}
use Rattle.wasm_values.specs.declared.handles.Memory.{Memory as MemoryHandle}
use Rattle.wasm_values.specs.declared.handles.Table.{Table as TableHandle}
use Rattle.wasm_values.specs.declared.handles.Tag.{Tag}
use Rattle.wasm_values.specs.declared.references.Ref.{Ref}
use Rattle.wasm_values.specs.declared.values.Val.{Val}
use Rattle.wasm_objects.specs.Globals.{Global}
use Rattle.wasm_objects.specs.Tables.{Table}
use Rattle.spec_machine.specs.GlobalCalls.{global_new, global_set, tag_new}
use Rattle.spec_machine.specs.Growth.{Plan}
use Rattle.spec_machine.specs.Machine.{Machine, Function, debt}
use Rattle.spec_machine.specs.MemoryCalls.{memory_new, memory_write, memory_grow}
use Rattle.spec_machine.specs.TableCalls.{table_new, table_set, table_fill, table_grow, table_copy}
use Rattle.spec_machine.specs.ValueCalls.{func_new}
use Rattle.law_store.specs.Later.{LeavesRest, LeavesFlags}
use Rattle.law_store.proofs.Globals.{GlobalSet, global_set_passed, GlobalNew, global_new_passed, TagNew, tag_new_passed, FuncNew, func_new_passed}
use Rattle.law_store.proofs.Memories.{MemoryWrite, memory_write_passed, MemoryGrow, memory_grow_passed}
use Rattle.law_store.proofs.Tables.{TableSet, table_set_passed, TableFill, table_fill_passed, TableCopy, table_copy_passed, TableNew, table_new_passed, TableGrow, table_grow_passed}

pub rest_own : (m : Machine) → LeavesRest m m
rest_own m = record {
  engine = refl;
  instances = refl;
  fuel = refl;
  deadline = refl;
  counts = refl;
  limits = refl;
  is_limited = refl;
  is_hooked = refl;
  is_behaving = refl;
}

pub flags_of : (m after : Machine) → LeavesRest m after → LeavesFlags m after
flags_of m after q = record {
  engine = q.engine;
  instances = q.instances;
  counts = q.counts;
  limits = q.limits;
  is_limited = q.is_limited;
  is_hooked = q.is_hooked;
  is_behaving = q.is_behaving;
  owed = omega (arith, ap debt q.fuel);
}

pub flags_own : (m : Machine) → LeavesFlags m m
flags_own m = flags_of m m (rest_own m)

pub flags_on : (a b c : Machine) → LeavesFlags a b → LeavesFlags b c → LeavesFlags a c
flags_on a b c p q = record {
  engine = q.engine ∙ p.engine;
  instances = q.instances ∙ p.instances;
  counts = q.counts ∙ p.counts;
  limits = q.limits ∙ p.limits;
  is_limited = q.is_limited ∙ p.is_limited;
  is_hooked = q.is_hooked ∙ p.is_hooked;
  is_behaving = q.is_behaving ∙ p.is_behaving;
  owed = le_trans q.owed p.owed;
}

module _ (m : Machine) where
  -- other objects
  rest_objects : (memories : List Memory) (tables : List Table) (globals : List Global) (tags : List Signature)
      (functions : List Function) → LeavesRest m (record m {
        memories = memories;
        tables = tables;
        globals = globals;
        tags = tags;
        functions = functions;
      })
  rest_objects memories tables globals tags functions = record {
    engine = refl;
    instances = refl;
    fuel = refl;
    deadline = refl;
    counts = refl;
    limits = refl;
    is_limited = refl;
    is_hooked = refl;
    is_behaving = refl;
  }

  pub rest_global_set : (after : Machine) (h : GlobalHandle) (val : Val) → global_set m h val ≡ Ok after →
      LeavesRest m after
  rest_global_set after h val e = let p : GlobalSet m h val after = global_set_passed m after h val e in
      subst (LeavesRest m) p.is (rest_objects _ _ _ _ _)

  pub rest_global_new : (ty : GlobalParts) (val : Val) (made : Machine × GlobalHandle) →
      global_new m ty val ≡ Ok made → LeavesRest m made.0
  rest_global_new ty val made e =
      let p : GlobalNew m ty val made = global_new_passed m ty val made e in
      subst (λ (d : Machine × GlobalHandle). LeavesRest m d.0) p.is (rest_objects _ _ _ _ _)

  pub rest_tag_new : (ty : Signature) (made : Machine × Tag) → tag_new m ty ≡ Ok made → LeavesRest m made.0
  rest_tag_new ty made e =
      let p : TagNew m ty made = tag_new_passed m ty made e in
      subst (λ (d : Machine × Tag). LeavesRest m d.0) p.is (rest_objects _ _ _ _ _)

  pub rest_func_new : (ty : Signature) (body : ℕ) (stored : List Extern) (made : Machine × Func) →
      func_new m ty body stored ≡ Ok made → LeavesRest m made.0
  rest_func_new ty body stored made e =
      let p : FuncNew m ty body stored made = func_new_passed m ty body stored made e in
      subst (λ (d : Machine × Func). LeavesRest m d.0) p.is (rest_objects _ _ _ _ _)

  pub rest_memory_write : (after : Machine) (h : MemoryHandle) (at : ℕ) (bytes : List ℕ) →
      memory_write m h at bytes ≡ Ok after → LeavesRest m after
  rest_memory_write after h at bytes e =
      let p : MemoryWrite m h at bytes after = memory_write_passed m after h at bytes e in
      subst (LeavesRest m) p.is (rest_objects _ _ _ _ _)

  pub rest_memory_new : (ty : MemoryParts) → LeavesRest m (memory_new m ty).after
  rest_memory_new ty = rest_objects _ _ _ _ _

  pub rest_memory_grow : (h : MemoryHandle) (delta : ℕ) (p : Plan ℕ) → memory_grow m h delta ≡ Ok p →
      LeavesRest m p.after
  rest_memory_grow h delta p e =
      let q : MemoryGrow m h delta p = memory_grow_passed m h delta p e in
      subst (λ (r : Plan ℕ). LeavesRest m r.after) q.is (rest_objects _ _ _ _ _)

  pub rest_table_set : (after : Machine) (h : TableHandle) (at : ℕ) (val : Option Ref) →
      table_set m h at val ≡ Ok after → LeavesRest m after
  rest_table_set after h at val e =
      let p : TableSet m h at val after = table_set_passed m after h at val e in
      subst (LeavesRest m) p.is (rest_objects _ _ _ _ _)

  pub rest_table_fill : (after : Machine) (h : TableHandle) (at : ℕ) (val : Option Ref) (len : ℕ) →
      table_fill m h at val len ≡ Ok after → LeavesRest m after
  rest_table_fill after h at val len e =
      let p : TableFill m h at val len after = table_fill_passed m after h at val len e in
      subst (LeavesRest m) p.is (rest_objects _ _ _ _ _)

  pub rest_table_copy : (after : Machine) (dst : TableHandle) (dst_at : ℕ) (src : TableHandle) (src_at len : ℕ) →
      table_copy m dst dst_at src src_at len ≡ Ok after → LeavesRest m after
  rest_table_copy after dst dst_at src src_at len e =
      let p : TableCopy m dst dst_at src src_at len after = table_copy_passed m dst dst_at src src_at len after e in
      subst (LeavesRest m) p.is (rest_objects _ _ _ _ _)

  pub rest_table_new : (ty : TableParts) (init : Option Ref) (p : Plan TableHandle) → table_new m ty init ≡ Ok p →
      LeavesRest m p.after
  rest_table_new ty init p e =
      let q : TableNew m ty init p = table_new_passed m ty init p e in
      subst (λ (r : Plan TableHandle). LeavesRest m r.after) q.is (rest_objects _ _ _ _ _)

  pub rest_table_grow : (h : TableHandle) (delta : ℕ) (init : Option Ref) (p : Plan ℕ) →
      table_grow m h delta init ≡ Ok p → LeavesRest m p.after
  rest_table_grow h delta init p e =
      let q : TableGrow m h delta init p = table_grow_passed m h delta init p e in
      subst (λ (r : Plan ℕ). LeavesRest m r.after) q.is (rest_objects _ _ _ _ _)
