-- Operands, and what code names: words that take them apart, this project's own. Each has one way to go on; operands,
-- or an index, that it does not fit give what stands first. In well-typed code that never comes.
-- Operands are written topmost first.
use Rattle.std.specs.Prelude.{ℕ, ◌==◌, Bool, true, false, ◌&&◌, List, [], ◌∷◌, Option, Some, None, nat_le, length, take, drop, if◌then◌else◌, slice_get}
use Rattle.wasm_types.specs.Memories.{Memory}
use Rattle.wasm_types.specs.declared.value_types.ValType.{ValType}
use Rattle.wasm_types.specs.declared.value_types.ValType.TheVariants as t
use Rattle.wasm_syntax.specs.Operators.{signed, unsigned}
use Rattle.wasm_objects.specs.Globals.{Global}
use Rattle.wasm_objects.specs.Tables.{Table}
use Rattle.wasm_objects.specs.declared.raw.RawRef.{RawRef}
use Rattle.wasm_objects.specs.declared.raw.RawVal.{RawVal}
use Rattle.wasm_objects.specs.declared.raw.RawVal.TheVariants as w
use Rattle.spec_machine.specs.Machine.{Machine, InstanceParts}

-- an integer of 32 or 64 bits as an operand
abbrev pub integer : ℕ → ℕ → RawVal
integer n x = if n == 32 then w.I32 (signed 32 x) else w.I64 (signed 64 x)

-- the integer of so many bits that an operand holds
abbrev pub integer_in : ℕ → RawVal → Option ℕ
integer_in n (w.I32 z) = if n == 32 then Some (unsigned 32 z) else None
integer_in n (w.I64 z) = if n == 64 then Some (unsigned 64 z) else None
integer_in n _ = None

abbrev pub reference_in : RawVal → Option RawRef
reference_in (w.Reference r) = Some r
reference_in _ = None

-- a value is of a type's kind: an integer or a float of its width, a vector, or a reference
abbrev pub has_kind : ValType → RawVal → Bool
has_kind t.I32 (w.I32 z) = true
has_kind t.I64 (w.I64 z) = true
has_kind t.F32 (w.F32 bits) = true
has_kind t.F64 (w.F64 bits) = true
has_kind t.V128 (w.V128 bits) = true
has_kind (t.Ref ty) (w.Reference r) = true
has_kind _ _ = false

-- as many values as types, each of its type's kind
abbrev pub have_kinds : List ValType → List RawVal → Bool
have_kinds [] [] = true
have_kinds (ty ∷ tys) (v ∷ vs) = has_kind ty v && have_kinds tys vs
have_kinds _ _ = false

module _ {O : Type 0} (sticks : O) where
  -- what is there
  abbrev pub found : {A : Type 0} → Option A → (A → O) → O
  found None go = sticks
  found (Some a) go = go a

  -- the topmost operand, of any kind, an integer of so many bits, a reference
  abbrev pub on_value : List RawVal → (RawVal → List RawVal → O) → O
  on_value [] go = sticks
  on_value (v ∷ rest) go = go v rest

  abbrev pub on_integer : ℕ → List RawVal → (ℕ → List RawVal → O) → O
  on_integer n operands go = on_value operands (λ v rest. found (integer_in n v) (λ x. go x rest))

  abbrev pub on_i32 : List RawVal → (ℕ → List RawVal → O) → O
  on_i32 operands go = on_integer 32 operands go

  abbrev pub on_reference : List RawVal → (RawRef → List RawVal → O) → O
  on_reference operands go = on_value operands (λ v rest. found (reference_in v) (λ r. go r rest))

  -- the topmost n operands, and those below
  abbrev pub on_front : ℕ → List RawVal → (List RawVal → List RawVal → O) → O
  on_front n operands go = if nat_le n (length operands) then go (take n operands) (drop n operands) else sticks

  -- what an instance names under an index, by its number in the store
  abbrev pub on_instance : Machine → ℕ → (InstanceParts → O) → O
  on_instance m instance go = found (slice_get m.instances instance) go

  abbrev pub on_function : Machine → ℕ → ℕ → (ℕ → O) → O
  on_function m instance k go = on_instance m instance (λ i. found (slice_get i.functions k) go)

  abbrev pub on_memory : Machine → ℕ → ℕ → (ℕ → Memory → O) → O
  on_memory m instance k go =
      on_instance m instance (λ i. found (slice_get i.memories k) (λ n. found (slice_get m.memories n) (go n)))

  abbrev pub on_table : Machine → ℕ → ℕ → (ℕ → Table → O) → O
  on_table m instance k go =
      on_instance m instance (λ i. found (slice_get i.tables k) (λ n. found (slice_get m.tables n) (go n)))

  abbrev pub on_global : Machine → ℕ → ℕ → (ℕ → Global → O) → O
  on_global m instance k go =
      on_instance m instance (λ i. found (slice_get i.globals k) (λ n. found (slice_get m.globals n) (go n)))

  abbrev pub on_elements : Machine → ℕ → ℕ → (InstanceParts → List RawRef → O) → O
  on_elements m instance k go = on_instance m instance (λ i. found (slice_get i.elements k) (go i))

  abbrev pub on_data : Machine → ℕ → ℕ → (InstanceParts → List ℕ → O) → O
  on_data m instance k go = on_instance m instance (λ i. found (slice_get i.datas k) (go i))
