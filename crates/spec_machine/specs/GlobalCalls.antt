-- What a host does with globals and tags: the calls of the wasmtime crate.
-- WebAssembly core specification, "Execution, modules, allocation, globals", "tags"
use Rattle.std.specs.Prelude.{Bool, true, false, [], ◌∷◌, length, nat_eq, slice_get, if◌then◌else◌, Result, Ok, Err}
use Rattle.std.specs.Option.{ok_or}
use Rattle.wasm_types.specs.FunctionParts.{val_is_of}
use Rattle.wasm_types.specs.GlobalTypes.{GlobalParts}
use Rattle.wasm_types.specs.Signatures.{Signature, is_of}
use Rattle.wasm_types.specs.declared.plain.Mutability.{Mutability}
use Rattle.wasm_types.specs.declared.plain.Mutability.TheVariants.{Const, Var}
use Rattle.wasm_values.specs.Handles.{global_of, global_store, global_index, tag_of, tag_store, tag_index}
use Rattle.wasm_values.specs.declared.handles.Global.{Global as Handle}
use Rattle.wasm_values.specs.declared.handles.Tag.{Tag}
use Rattle.wasm_values.specs.declared.refusals.Refusal.{Refusal}
use Rattle.wasm_values.specs.declared.refusals.Refusal.TheVariants.{WrongStore, WrongEngine, ImmutableGlobal, TypeMismatch}
use Rattle.wasm_values.specs.declared.values.Val.{Val}
use Rattle.wasm_objects.specs.Globals.{Global, global}
use Rattle.spec_machine.specs.Changes.{set_global, append_globals, append_tags}
use Rattle.spec_machine.specs.Machine.{Machine}
use Rattle.spec_machine.specs.Steps.{◌>>=◌, unless}
use Rattle.spec_machine.specs.Values.{is_id, owns_val, raw_val, val_at, val_fits}

-- the global of a handle, and the store in which it has another value
abbrev pub global_at : Machine → Handle → Result Global Refusal
global_at m h =
    if is_id (global_store h) m.id then ok_or (slice_get m.globals (global_index h)) WrongStore else Err WrongStore

abbrev pub with_value : Machine → Handle → Global → Val → Machine
with_value m h x val = set_global m (global_index h) (global x.ty (raw_val val))

-- a new global at the end of the store
abbrev pub global_new : Machine → GlobalParts → Val → Result (Machine × Handle) Refusal
global_new m ty val = do
  _ ← unless WrongStore (owns_val m val)
  _ ← unless WrongEngine (val_is_of m.engine.number ty.content)
  _ ← unless TypeMismatch (val_fits m val ty.content)
  Ok (append_globals m (global ty (raw_val val) ∷ []), global_of m.id (length m.globals))

abbrev pub global_ty : Machine → Handle → Result GlobalParts Refusal
global_ty m h = do
  x ← global_at m h
  Ok x.ty

abbrev pub global_get : Machine → Handle → Result Val Refusal
global_get m h = do
  x ← global_at m h
  Ok (val_at m.id x.ty.content x.value)

abbrev pub is_variable : Mutability → Bool
is_variable Const = false
is_variable Var = true

abbrev pub global_set : Machine → Handle → Val → Result Machine Refusal
global_set m h val = do
  x ← global_at m h
  _ ← unless WrongStore (owns_val m val)
  _ ← unless ImmutableGlobal (is_variable x.ty.mutability)
  _ ← unless TypeMismatch (val_fits m val x.ty.content)
  Ok (with_value m h x val)

-- the type of a tag's handle
abbrev pub tag_ty : Machine → Tag → Result Signature Refusal
tag_ty m h = if is_id (tag_store h) m.id then ok_or (slice_get m.tags (tag_index h)) WrongStore else Err WrongStore

-- a new tag at the end of the store
abbrev pub tag_new : Machine → Signature → Result (Machine × Tag) Refusal
tag_new m ty = do
  _ ← unless WrongEngine (is_of m.engine.number ty)
  Ok (append_tags m (ty ∷ []), tag_of m.id (length m.tags))

-- whether two handles are of one tag
abbrev pub tag_eq : Machine → Tag → Tag → Result Bool Refusal
tag_eq m a b = do
  _ ← tag_ty m a
  _ ← tag_ty m b
  Ok (nat_eq (tag_index a) (tag_index b))
