-- The turns of code, as a run beside another asks them of the members: straight instructions, what code names, and growth.
use Rattle.std.proofs.Common.{◌≡◌, ℕ, ◌*◌, ◌==◌, Bool, true, false, List, replicate, slice_get, Some, None}
use Rattle.std.specs.Prelude.{if◌then◌else◌}
use Rattle.wasm_types.specs.Each.{Each}
use Rattle.wasm_types.specs.Memories.{Memory}
use Rattle.wasm_types.specs.MemoryTypes.{page_size}
use Rattle.wasm_types.specs.FunctionParts.{is_nullable, heap_type}
use Rattle.wasm_types.specs.Matching.{heap_top}
use Rattle.wasm_types.specs.declared.plain.HeapTopType.{HeapTopType}
use Rattle.wasm_types.specs.declared.plain.HeapTopType.TheVariants as top
use Rattle.wasm_types.specs.declared.value_types.ValType.{ValType}
use Rattle.wasm_types.specs.declared.value_types.ValType.TheVariants as t
use Rattle.wasm_syntax.specs.Operators.{signed}
use Rattle.wasm_syntax.specs.declared.declarations.FuncDecl.{FuncDecl}
use Rattle.wasm_syntax.specs.declared.instr.Instr.{Instr}
use Rattle.wasm_values.specs.References.{null_of}
use Rattle.wasm_values.specs.Values.{val_of, default_of}
use Rattle.wasm_objects.specs.Growth.{longer_memory, longer_table}
use Rattle.wasm_objects.specs.Tables.{Table}
use Rattle.wasm_objects.specs.declared.raw.RawRef.{RawRef}
use Rattle.wasm_objects.specs.declared.raw.RawRef.TheVariants as r
use Rattle.wasm_objects.specs.declared.raw.RawVal.{RawVal}
use Rattle.wasm_objects.specs.declared.raw.RawVal.TheVariants as w
use Rattle.spec_machine.specs.Changes.{set_memory, set_table}
use Rattle.spec_machine.specs.Machine.{Machine, Function, guest, host, InstanceParts}
use Rattle.spec_machine.specs.Values.{raw_val}
use Rattle.law_store.proofs.Lists.{each_append, each_replicate}
use Rattle.spec_execution.specs.Askings.{Asking}
use Rattle.spec_execution.specs.Entering.{begun, begun_locals}
use Rattle.spec_execution.specs.Operands as on
use Rattle.spec_execution.specs.Straight.{Effect, Goes, Traps, Sticks, act}
use Rattle.spec_reach.specs.Nodes.{Node, func, instance}
use Rattle.law_courses.proofs.Bounds.{Bounds, IsEffectIn, LeadsIn, effect_in, reference}
use Rattle.law_confined.specs.Members.{IsMember, IsHeld, IsHeldRef, NamesMembers, IsIn}
use Rattle.law_confined.proofs.AllocationMembers.{each_map}
use Rattle.law_confined.proofs.MemberBounds.{bounds}
use Rattle.law_confined.proofs.MemberChanges.{memory_set, table_set}
use Rattle.law_confined.proofs.OtherStores.{Sees}
use Rattle.law_confined.proofs.StraightMembers.{GoesIn, act_in}

module _ (M : Node → Bool) (first : Machine) (other : Machine → Machine) (heard0 : List Asking)
    (sees : Sees M first other) where
  abbrev B : Bounds
  B = bounds M first other heard0

  -- ---- straight instructions

  goes_in : (e : Effect) → GoesIn M first other sees e → IsEffectIn B e
  goes_in (Goes m locals operands) h = (h.0.is, h.1.each, h.2.each)
  goes_in (Traps t) h = tt
  goes_in Sticks h = tt

  pub acts :
      (m : Machine) (n : ℕ) (locals operands : List RawVal) (j : Instr) → IsIn M first m → IsMember M (instance n)
      → Each locals (IsHeld M) → Each operands (IsHeld M)
      → IsEffectIn B (act n m locals j operands)
      × (act n (other m) locals j operands ≡ effect_in other (act n m locals j operands))
  acts m n locals operands j h home hl ho =
      let k = act_in M first other sees n home m h locals operands (record { each = hl }) (record { each = ho }) j in
      (goes_in (act n m locals j operands) k.by, k.same)

  -- ---- values

  pub callee_held : (f : ℕ) → IsHeld M (reference (r.Func f)) → IsMember M (func f)
  callee_held f h = h

  pub number_held : (n x : ℕ) → IsHeld M (on.integer n x)
  number_held n x = by (n == 32)
    where
      by : (b : Bool) → IsHeld M (if b then w.I32 (signed 32 x) else w.I64 (signed 64 x))
      by true = tt
      by false = tt

  null_held : (greatest : HeapTopType) → IsHeld M (raw_val (val_of (null_of greatest)))
  null_held top.Func = tt
  null_held top.Extern = tt
  null_held top.Any = tt

  null_if : (b : Bool) (greatest : HeapTopType) → IsHeld M (begun (if b then Some (val_of (null_of greatest)) else None))
  null_if true greatest = null_held greatest
  null_if false greatest = tt

  begun_held : (ty : ValType) → IsHeld M (begun (default_of ty))
  begun_held (t.Ref ty) = null_if (is_nullable ty) (heap_top (heap_type ty))
  begun_held ty = tt

  pub locals_held : (f : FuncDecl) → Each (begun_locals f) (IsHeld M)
  locals_held f = each_map (λ ty. begun (default_of ty)) (IsHeld M) f.locals begun_held

  -- ---- what code names

  module _ (m : Machine) (n : ℕ) (h : IsIn M first m) (home : IsMember M (instance n)) where
    pub instance_is : slice_get (other m).instances n ≡ slice_get m.instances n
    instance_is = sees.instances m n h home

    module _ (i : InstanceParts) (e : slice_get m.instances n ≡ Some i) where
      names : NamesMembers M i
      names = h.closed.instances n i home e

      pub function_named : (k f : ℕ) → slice_get i.functions k ≡ Some f → IsMember M (func f)
      function_named k f e' = names.functions k f e'

      module _ (k x : ℕ) (e' : slice_get i.memories k ≡ Some x) where
        pub memory_is : slice_get (other m).memories x ≡ slice_get m.memories x
        memory_is = sees.memories m x h (names.memories k x e')

        pub memory_grows :
            (delta : ℕ) (y : Memory)
            → IsIn M first (set_memory m x (longer_memory y (delta * page_size y.ty)))
            × (set_memory (other m) x (longer_memory y (delta * page_size y.ty))
            ≡ other (set_memory m x (longer_memory y (delta * page_size y.ty))))
        memory_grows delta y =
            let member = names.memories k x e' in (memory_set M first m h x _ member, sees.set_memory m x _ h member)

      module _ (k x : ℕ) (e' : slice_get i.tables k ≡ Some x) where
        pub table_is : slice_get (other m).tables x ≡ slice_get m.tables x
        table_is = sees.tables m x h (names.tables k x e')

        module _ (t : Table) (e'' : slice_get m.tables x ≡ Some t) where
          elements : Each t.elements (IsHeldRef M)
          elements = h.closed.tables x t (names.tables k x e') e''

          pub element_held : (at : ℕ) (y : RawRef) → slice_get t.elements at ≡ Some y → IsHeld M (reference y)
          element_held at y e3 = elements at y e3

          pub table_grows :
              (delta : ℕ) (y : RawRef) → IsHeld M (reference y)
              → IsIn M first (set_table m x (longer_table t delta y))
              × (set_table (other m) x (longer_table t delta y) ≡ other (set_table m x (longer_table t delta y)))
          table_grows delta y k' =
              let member = names.tables k x e' in (
                table_set M first m h x (longer_table t delta y) member
                    (each_append (IsHeldRef M) t.elements (replicate delta y) elements
                    (each_replicate (IsHeldRef M) delta y k')),
                sees.set_table m x (longer_table t delta y) h member,
              )

  -- ---- what a function leads to

  pub leads :
      (m : Machine) (n : ℕ) (f : Function) → IsIn M first m → IsMember M (func n) → slice_get m.functions n ≡ Some f
      → LeadsIn B f
  leads m n (guest i k) h member e = h.closed.functions n (guest i k) member e
  leads m n (host ty body stored) h member e = tt
