-- Operands, locals and references that are held, as records: what instructions do to them.
use Rattle.std.proofs.Common.{◌≡◌, ℕ, ◌==◌, Bool, true, false, List, ◌∷◌, set, replicate, Some, subst}
use Rattle.std.specs.Prelude.{if◌then◌else◌}
use Rattle.std.proofs.lemmas.Option.{same_Some, none-some}
use Rattle.wasm_types.specs.Each.{Each}
use Rattle.wasm_types.specs.Ranges.{range_of, with_range}
use Rattle.wasm_syntax.specs.Operators.{signed}
use Rattle.wasm_objects.specs.declared.raw.RawRef.{RawRef}
use Rattle.wasm_objects.specs.declared.raw.RawRef.TheVariants as raw
use Rattle.wasm_objects.specs.declared.raw.RawVal.{RawVal}
use Rattle.wasm_objects.specs.declared.raw.RawVal.TheVariants as w
use Rattle.spec_machine.specs.Machine.{Machine}
use Rattle.law_store.proofs.Lists.{each_more, each_set, each_range, each_with_range, each_replicate}
use Rattle.spec_execution.specs.Operands as on
use Rattle.spec_reach.specs.Nodes.{Node, func}
use Rattle.law_confined.specs.Members.{IsMember, IsHeld, IsHeldRef, IsIn}

module _ (M : Node → Bool) (first : Machine) where
  -- values that are held, and references; as records, for the search
  pub record AreHeld (vs : List RawVal) : Type 0 where
    pub each : Each vs (IsHeld M)

  pub record AreHeldRefs (rs : List RawRef) : Type 0 where
    pub each : Each rs (IsHeldRef M)

  pub record HoldsValue (v : RawVal) : Type 0 where
    pub is : IsHeld M v

  pub record HoldsRef (r : RawRef) : Type 0 where
    pub is : IsHeldRef M r

  pub record IsInStore (m : Machine) : Type 0 where
    pub is : IsIn M first m

  -- ---- values

  pub push : (v : RawVal) (vs : List RawVal) → HoldsValue v → AreHeld vs → AreHeld (v ∷ vs)
  push v vs h k = record { each = each_more (IsHeld M) v vs h.is k.each }

  pub held_if : (b : Bool) (x y : RawVal) → HoldsValue x → HoldsValue y → HoldsValue (if b then x else y)
  held_if true x y h k = h
  held_if false x y h k = k

  pub held_number : (n x : ℕ) → HoldsValue (on.integer n x)
  held_number n x =
      held_if (n == 32) (w.I32 (signed 32 x)) (w.I64 (signed 64 x)) (record { is = tt }) (record { is = tt })

  pub held_reference : (r : RawRef) → HoldsRef r → HoldsValue (w.Reference r)
  held_reference r h = record { is = h.is }

  pub held_function : (n : ℕ) → IsMember M (func n) → HoldsValue (w.Reference (raw.Func n))
  held_function n h = record { is = h }

  pub held_32 : (z : _) → HoldsValue (w.I32 z)
  held_32 z = record { is = tt }

  pub held_64 : (z : _) → HoldsValue (w.I64 z)
  held_64 z = record { is = tt }

  pub held_null : HoldsValue (w.Reference raw.Null)
  held_null = record { is = tt }

  pub set_local : (vs : List RawVal) (x : ℕ) (v : RawVal) → AreHeld vs → HoldsValue v → AreHeld (set vs x v)
  set_local vs x v h k = record { each = each_set (IsHeld M) vs x v h.each k.is }

  -- ---- references

  pub refs_set : (rs : List RawRef) (at : ℕ) (r : RawRef) → AreHeldRefs rs → HoldsRef r → AreHeldRefs (set rs at r)
  refs_set rs at r h k = record { each = each_set (IsHeldRef M) rs at r h.each k.is }

  pub refs_range : (at len : ℕ) (rs : List RawRef) → AreHeldRefs rs → AreHeldRefs (range_of at len rs)
  refs_range at len rs h = record { each = each_range (IsHeldRef M) at len rs h.each }

  pub refs_filled : (n : ℕ) (r : RawRef) → HoldsRef r → AreHeldRefs (replicate n r)
  refs_filled n r h = record { each = each_replicate (IsHeldRef M) n r h.is }

  pub refs_with :
      (at : ℕ) (piece rs : List RawRef) → AreHeldRefs piece → AreHeldRefs rs → AreHeldRefs (with_range at piece rs)
  refs_with at piece rs h k = record { each = each_with_range (IsHeldRef M) at piece rs h.each k.each }

  pub in_value : (x : RawVal) (y : RawRef) → on.reference_in x ≡ Some y → IsHeld M x → IsHeldRef M y
  in_value (w.Reference z) y e h = subst (IsHeldRef M) (same_Some z y e) h
  in_value x y e h = absurd (none-some y e)
