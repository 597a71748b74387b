-- What texts spell, each by computation.
use Rattle.std.proofs.Common.{◌≡◌, ℕ, List, [], ◌∷◌, Option, Some, None, false, refl}
use Rattle.std.specs.Prelude.{codes}
use Rattle.std.specs.Str.{is_utf8, chars}
use Rattle.serde_json.proofs.OnLiterals.{serde_json_on_literals}
use Rattle.serde_json.specs.Data.{Data}
use Rattle.script_json.specs.Fields.{◌>>=◌}
use Rattle.script_json.specs.Json.{json_of}
use Rattle.wasm_types.specs.FunctionParts.{parts, from_parts, ref_type, nullable_ref}
use Rattle.wasm_types.specs.Signatures.{Signature}
use Rattle.wasm_types.specs.declared.plain.Finality.TheVariants.{Final, NonFinal}
use Rattle.wasm_types.specs.declared.value_types.HeapType.TheVariants as h
use Rattle.wasm_types.specs.declared.value_types.ValType.TheVariants as t
use Rattle.script_types.specs.Types.{val_type_of, type_list_of}

-- what a reader gives of the data that a text spells
abbrev reading : {A : Type 0} → (Data → Option A) → List ℕ → Option A
reading f text = json_of text >>= f

abbrev plain : Signature
plain = from_parts (parts 1 Final None [] [])

abbrev open_one : Signature
open_one = from_parts (parts 1 NonFinal None [] [])

-- a type may name an earlier one, in its parts and as its supertype
earlier : reading type_list_of (codes "[{},{\"params\":[{\"ref\":0}],\"results\":[{\"ref\":\"eq\",\"null\":false}]}]") ≡ Some (plain ∷ from_parts (parts 1 Final None (nullable_ref (h.ConcreteFunc plain) ∷ []) (t.Ref (ref_type false h.Eq) ∷ [])) ∷ [])
unfolding serde_json_on_literals is_utf8 chars
earlier = refl

below : reading type_list_of (codes "[{\"final\":false},{\"super\":0}]") ≡ Some (open_one ∷ from_parts (parts 1 Final (Some open_one) [] []) ∷ [])
unfolding serde_json_on_literals is_utf8 chars
below = refl

-- but neither itself nor a later one
itself : reading type_list_of (codes "[{\"params\":[{\"ref\":0}]}]") ≡ None
unfolding serde_json_on_literals is_utf8 chars
itself = refl

later : reading type_list_of (codes "[{\"super\":1},{\"final\":false}]") ≡ None
unfolding serde_json_on_literals is_utf8 chars
later = refl

-- a final type is no supertype, so these parts make no type
below_final : reading type_list_of (codes "[{},{\"super\":0}]") ≡ None
unfolding serde_json_on_literals is_utf8 chars
below_final = refl

null_supertype : reading type_list_of (codes "[{\"super\":null}]") ≡ None
unfolding serde_json_on_literals is_utf8 chars
null_supertype = refl

named_reference : reading (val_type_of []) (codes "\"funcref\"") ≡ Some (nullable_ref h.Func)
unfolding serde_json_on_literals is_utf8 chars
named_reference = refl

other_key_of_a_type : reading (val_type_of []) (codes "{\"ref\":\"func\",\"nullable\":true}") ≡ None
unfolding serde_json_on_literals is_utf8 chars
other_key_of_a_type = refl
