-- What a host asks of functions, values, references and external values: the calls of the wasmtime crate.
-- WebAssembly core specification, "Validity, values", "external values"; "Validation, matching"
use Rattle.std.specs.Prelude.{ℕ, Bool, List, [], ◌∷◌, length, if◌then◌else◌, Result, Ok, Err}
use Rattle.std.specs.List.{list_all}
use Rattle.std.specs.Option.{ok_or}
use Rattle.wasm_types.specs.FunctionParts.{ref_is_of, val_is_of}
use Rattle.wasm_types.specs.Matching.{matches}
use Rattle.wasm_types.specs.Signatures.{Signature, is_of}
use Rattle.wasm_types.specs.declared.extern_type.ExternType.{ExternType}
use Rattle.wasm_types.specs.declared.extern_type.ExternType.TheVariants as ty
use Rattle.wasm_types.specs.declared.value_types.RefType.{RefType}
use Rattle.wasm_types.specs.declared.value_types.ValType.{ValType}
use Rattle.wasm_values.specs.Handles.{func_of, func_store, func_index}
use Rattle.wasm_values.specs.declared.externals.Extern.{Extern}
use Rattle.wasm_values.specs.declared.externals.Extern.TheVariants as x
use Rattle.wasm_values.specs.declared.handles.Func.{Func}
use Rattle.wasm_values.specs.declared.references.Ref.{Ref}
use Rattle.wasm_values.specs.declared.refusals.Refusal.{Refusal}
use Rattle.wasm_values.specs.declared.refusals.Refusal.TheVariants.{WrongStore, WrongEngine}
use Rattle.wasm_values.specs.declared.values.Val.{Val}
use Rattle.spec_machine.specs.GlobalCalls.{global_ty, tag_ty}
use Rattle.spec_machine.specs.Changes.{append_functions}
use Rattle.spec_machine.specs.Machine.{Machine, host}
use Rattle.spec_machine.specs.MemoryCalls.{memory_ty}
use Rattle.spec_machine.specs.Steps.{◌>>=◌, unless}
use Rattle.spec_machine.specs.TableCalls.{table_ty}
use Rattle.spec_machine.specs.Values.{is_id, function_type, type_of_ref, type_of_val, ref_fits, val_fits, owns_extern, owns_ref, owns_val}

-- a new function of the host at the end of the store
abbrev pub func_new : Machine → Signature → ℕ → List Extern → Result (Machine × Func) Refusal
func_new m ty body stored = do
  _ ← unless WrongStore (list_all (owns_extern m) stored)
  _ ← unless WrongEngine (is_of m.engine.number ty)
  Ok (append_functions m (host ty body stored ∷ []), func_of m.id (length m.functions))

-- the type of a function's handle
abbrev pub func_ty : Machine → Func → Result Signature Refusal
func_ty m f =
    if is_id (func_store f) m.id then ok_or (function_type m (func_index f)) WrongStore else Err WrongStore

abbrev pub func_matches_ty : Machine → Func → Signature → Result Bool Refusal
func_matches_ty m f wanted = do
  own ← func_ty m f
  _ ← unless WrongEngine (is_of m.engine.number wanted)
  Ok (matches own wanted)

abbrev pub val_ty : Machine → Val → Result ValType Refusal
val_ty m val = do
  _ ← unless WrongStore (owns_val m val)
  Ok (type_of_val m val)

abbrev pub val_matches_ty : Machine → Val → ValType → Result Bool Refusal
val_matches_ty m val wanted = do
  _ ← unless WrongStore (owns_val m val)
  _ ← unless WrongEngine (val_is_of m.engine.number wanted)
  Ok (val_fits m val wanted)

abbrev pub ref_ty : Machine → Ref → Result RefType Refusal
ref_ty m r = do
  _ ← unless WrongStore (owns_ref m r)
  Ok (type_of_ref m r)

abbrev pub ref_matches_ty : Machine → Ref → RefType → Result Bool Refusal
ref_matches_ty m r wanted = do
  _ ← unless WrongStore (owns_ref m r)
  _ ← unless WrongEngine (ref_is_of m.engine.number wanted)
  Ok (ref_fits m r wanted)

abbrev pub extern_ty : Machine → Extern → Result ExternType Refusal
extern_ty m (x.Func h) = do
  t ← func_ty m h
  Ok (ty.Func t)
extern_ty m (x.Global h) = do
  t ← global_ty m h
  Ok (ty.Global t)
extern_ty m (x.Table h) = do
  t ← table_ty m h
  Ok (ty.Table t)
extern_ty m (x.Memory h) = do
  t ← memory_ty m h
  Ok (ty.Memory t)
extern_ty m (x.Tag h) = do
  t ← tag_ty m h
  Ok (ty.Tag t)
