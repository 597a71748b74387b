-- Where functions in values are outside of a set.
use Rattle.std.proofs.Common.{◌≡◌, ℕ, suc, Bool, true, false, List, [], ◌∷◌, Option, Some, None, refl, ap, ◌∙◌}
use Rattle.std.specs.List.{list_any}
use Rattle.std.specs.Prelude.{if◌then◌else◌}
use Rattle.std.proofs.lemmas.Bool.{or_parts, true≢false}
use Rattle.wasm_values.specs.Handles.{func_index}
use Rattle.wasm_values.specs.declared.values.Val.{Val}
use Rattle.wasm_values.specs.declared.values.Val.TheVariants as v
use Rattle.spec_reach.specs.Nodes.{Node as Reached, func, has}
use Rattle.wasm_plugins.specs.Guests.{is_function, is_within, first_outside}

-- of two sets that are the same
module _ (a b : List Reached) (same : (x : Reached) → has a x ≡ has b x) where
  same_within : (val : Val) → is_within a val ≡ is_within b val
  same_within (v.FuncRef (Some f)) = same (func (func_index f))
  same_within (v.FuncRef None) = refl
  same_within (v.I32 n) = refl
  same_within (v.I64 n) = refl
  same_within (v.F32 n) = refl
  same_within (v.F64 n) = refl
  same_within (v.V128 n) = refl
  same_within (v.ExternRef n) = refl
  same_within (v.AnyRef n) = refl

  pub same_outside : (place : ℕ) (vals : List Val) → first_outside a place vals ≡ first_outside b place vals
  same_outside place [] = refl
  same_outside place (val ∷ vals) =
      ap (λ (t : Bool). if t then first_outside a (suc place) vals else Some place) (same_within val)
      ∙ ap (λ (o : Option ℕ). if is_within b val then o else Some place) (same_outside (suc place) vals)

-- where there are no functions
no_function : (set : List Reached) (val : Val) → is_function val ≡ false → is_within set val ≡ true
no_function set (v.FuncRef (Some f)) e = absurd (true≢false e)
no_function set (v.FuncRef None) e = refl
no_function set (v.I32 n) e = refl
no_function set (v.I64 n) e = refl
no_function set (v.F32 n) e = refl
no_function set (v.F64 n) e = refl
no_function set (v.V128 n) e = refl
no_function set (v.ExternRef n) e = refl
no_function set (v.AnyRef n) e = refl

pub none_outside : (set : List Reached) (place : ℕ) (vals : List Val) → list_any is_function vals ≡ false →
    first_outside set place vals ≡ None
none_outside set place [] e = refl
none_outside set place (val ∷ vals) e =
    let p = or_parts (is_function val) (list_any is_function vals) e in
    ap (λ (t : Bool). if t then first_outside set (suc place) vals else Some place) (no_function set val p.0)
    ∙ none_outside set (suc place) vals p.1
