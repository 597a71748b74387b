-- What a static type stands for, and which types of functions it may be used with: the wasmtime crate's `WasmTy`,
-- `WasmParams` and `WasmResults`. That values are read back by kinds is this project's own.
use Rattle.std.specs.Prelude.{Bool, true, false, not, ◌&&◌, ◌||◌, List, [], ◌∷◌, Some, None, Result, Ok, Err, ⊤, if◌then◌else◌}
use Rattle.std.specs.List.{list_all}
use Rattle.wasm_types.specs.Matching.{val_matches, heap_top, is_concrete}
use Rattle.wasm_types.specs.FunctionParts.{heap_type}
use Rattle.wasm_types.specs.declared.plain.HeapTopType.{HeapTopType}
use Rattle.wasm_types.specs.declared.plain.HeapTopType.TheVariants as top
use Rattle.wasm_types.specs.declared.value_types.ValType.{ValType}
use Rattle.wasm_types.specs.declared.value_types.ValType.TheVariants as t
use Rattle.wasm_values.specs.declared.values.Val.{Val}
use Rattle.wasm_values.specs.declared.values.Val.TheVariants as v
use Rattle.wasm_values.specs.declared.refusals.Refusal.{Refusal}
use Rattle.wasm_values.specs.declared.refusals.Refusal.TheVariants.{TypeMismatch, ArgumentCount, ResultCount}
use Rattle.typed_values.specs.declared.checks.TypeCheckPosition.{TypeCheckPosition}
use Rattle.typed_values.specs.declared.checks.TypeCheckPosition.TheVariants as at

-- which values a static type has a way back from: an i32 number, for `i32` and `u32`; an i64 number, for `i64` and `u64`;
-- a function, for `Func`; a function reference, for `Option<Func>`; the null function reference, for `Option<NoFunc>`
pub data Kind : Type 0 where
  an_i32 : Kind
  an_i64 : Kind
  a_func : Kind
  a_func_or_null : Kind
  a_null_func : Kind

abbrev pub is_of_kind : Kind → Val → Bool
is_of_kind an_i32 (v.I32 n) = true
is_of_kind an_i64 (v.I64 n) = true
is_of_kind a_func (v.FuncRef (Some f)) = true
is_of_kind a_func_or_null (v.FuncRef f) = true
is_of_kind a_null_func (v.FuncRef None) = true
is_of_kind _ _ = false

-- as many values as kinds, each of its kind
abbrev pub are_of_kinds : List Kind → List Val → Bool
are_of_kinds [] [] = true
are_of_kinds [] (val ∷ vals) = false
are_of_kinds (kind ∷ kinds) [] = false
are_of_kinds (kind ∷ kinds) (val ∷ vals) = is_of_kind kind val && are_of_kinds kinds vals

-- no function type is in a type, in the types of a list
abbrev pub is_plain : ValType → Bool
is_plain (t.Ref r) = not (is_concrete (heap_type r))
is_plain _ = true

abbrev pub are_plain : List ValType → Bool
are_plain tys = list_all is_plain tys

abbrev pub same_top : HeapTopType → HeapTopType → Bool
same_top top.Func top.Func = true
same_top top.Extern top.Extern = true
same_top top.Any top.Any = true
same_top _ _ = false

-- two references below one greatest type, of which the second is to functions of one type: whether a value fits that
-- type is tested at each call
abbrev pub is_tested_later : ValType → ValType → Bool
is_tested_later (t.Ref own) (t.Ref actual) =
    is_concrete (heap_type actual) && same_top (heap_top (heap_type own)) (heap_top (heap_type actual))
is_tested_later _ _ = false

-- a type that a host has, `own`, may stand for one that a function has, `actual`: where the function gives a result, or
-- where it takes a parameter
abbrev pub pair_fits : ValType → ValType → TypeCheckPosition → Bool
pair_fits own actual at.Result = val_matches actual own
pair_fits own actual at.Param = val_matches own actual || is_tested_later own actual

abbrev pub checked : ValType → ValType → TypeCheckPosition → Result ⊤ Refusal
checked own actual position = if pair_fits own actual position then Ok tt else Err TypeMismatch

abbrev pub miscounted : TypeCheckPosition → Refusal
miscounted at.Param = ArgumentCount
miscounted at.Result = ResultCount

-- the pairs in order, then the number
abbrev pub all_checked : List ValType → List ValType → TypeCheckPosition → Result ⊤ Refusal
all_checked [] [] position = Ok tt
all_checked (own ∷ owns) (actual ∷ actuals) position =
    if pair_fits own actual position then all_checked owns actuals position else Err TypeMismatch
all_checked _ _ position = Err (miscounted position)
