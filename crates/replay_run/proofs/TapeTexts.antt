-- What is written of a tape has no number that is no integer, so its text is told.
use Rattle.std.proofs.Common.{◌≡◌, ℕ, ℤ, Bool, true, false, ◌||◌, List, [], ◌∷◌, Option, Some, None, Result, Ok, Err, refl, subst}
use Rattle.std.specs.Prelude.{pos, negsuc, codes, IfSome}
use Rattle.serde_json.specs.Data as json
use Rattle.serde_json.specs.Data.{Data, Items, Members, member}
use Rattle.serde_json.specs.Find.{is_float, of_integer}
use Rattle.serde_json.specs.Written.{has_float, items_have_float, members_have_float}
use Rattle.wasm_types.specs.FunctionParts.{heap_type, is_nullable}
use Rattle.wasm_types.specs.GlobalTypes.{GlobalParts}
use Rattle.wasm_types.specs.Signatures.{Signature}
use Rattle.wasm_types.specs.TableTypes.{TableParts}
use Rattle.wasm_types.specs.declared.plain.Mutability.{Mutability}
use Rattle.wasm_types.specs.declared.plain.Mutability.TheVariants as mutability
use Rattle.wasm_types.specs.declared.value_types.HeapType.{HeapType}
use Rattle.wasm_types.specs.declared.value_types.HeapType.TheVariants as h
use Rattle.wasm_types.specs.declared.value_types.RefType.{RefType}
use Rattle.wasm_types.specs.declared.value_types.ValType.{ValType}
use Rattle.wasm_types.specs.declared.value_types.ValType.TheVariants as t
use Rattle.wasm_values.specs.declared.handles.Func.{Func}
use Rattle.wasm_values.specs.declared.references.AnyRef.{AnyRef}
use Rattle.wasm_values.specs.declared.references.ExternRef.{ExternRef}
use Rattle.wasm_values.specs.declared.values.Val.{Val}
use Rattle.wasm_values.specs.declared.values.Val.TheVariants as v
use Rattle.wasm_meter.specs.declared.faults.EpochFailed.{EpochFailed}
use Rattle.wasm_meter.specs.declared.faults.LimiterFailed.{LimiterFailed}
use Rattle.spec_machine.specs.declared.name.Name.{Name}
use Rattle.spec_machine.specs.declared.name.Name.TheVariants as name
use Rattle.spec_machine.specs.declared.name.Operand.{Operand}
use Rattle.spec_machine.specs.declared.name.Operand.TheVariants as operand
use Rattle.spec_machine.specs.declared.operation.Op.{Op}
use Rattle.spec_machine.specs.declared.operation.Op.TheVariants as op
use Rattle.spec_execution.specs.declared.answer.Answer.{Answer}
use Rattle.spec_execution.specs.declared.answer.Answer.TheVariants as answer
use Rattle.spec_execution.specs.declared.answer.Event.{Event}
use Rattle.spec_execution.specs.declared.answer.Event.TheVariants as event
use Rattle.script_json.specs.Fields.{◌>>=◌}
use Rattle.law_replay.specs.Tapes.{TapeParts}
use Rattle.law_replay.specs.declared.step.TapedStep.{TapedStep}
use Rattle.tape_values.specs.Operands.{name_data, func_data, extern_data, any_data, val_data, operand_data}
use Rattle.tape_values.specs.Types.{number_of, type_data, heap_data, reference_by, reference_data, val_type_data, mutability_data}
use Rattle.tape_values.specs.Writing.{whole_data, integer_data, one_data, all_written, list_data}
use Rattle.tape_writers.specs.Written.{optional_member, table_new_by, global_new_by, tag_new_by, interval_data, argument_data, call_by, op_data}
use Rattle.wasm_tape.specs.Written.{event_data, returned_data, answer_data, step_by, step_data, reading_data, growth_data, tape_by, tape_data}

-- ---- parts that are there or not, and lists

-- data has no such number
abbrev pub IsPlain : Data → Type 0
IsPlain d = has_float d ≡ false

-- what is written has none
abbrev pub ArePlain : Option Data → Type 0
ArePlain o = IfSome o (λ d. IsPlain d)

then_plain : (o : Option Data) (f : Data → Option Data) → ArePlain o → ((d : Data) → IsPlain d → ArePlain (f d)) → ArePlain (o >>= f)
then_plain None f p q = tt
then_plain (Some d) f p q = q d p

number_plain : (o : Option ℕ) → ArePlain (o >>= (λ n. Some (whole_data n)))
number_plain None = tt
number_plain (Some n) = refl

abbrev ArePlainItems : Option Items → Type 0
ArePlainItems o = IfSome o (λ ds. items_have_float ds ≡ false)

with_item : (o : Option Data) (os : Option Items) → ArePlain o → ArePlainItems os →
    ArePlainItems (o >>= (λ d. os >>= (λ ds. Some (json.item d ds))))
with_item None os p q = tt
with_item (Some d) None p q = tt
with_item (Some d) (Some ds) p q = rw (p, q) refl

items_plain : {A : Type 0} (f : A → Option Data) → ((x : A) → ArePlain (f x)) → (xs : List A) → ArePlainItems (all_written f xs)
items_plain f p [] = refl
items_plain f p (x ∷ xs) = with_item (f x) (all_written f xs) (p x) (items_plain f p xs)

as_array : (os : Option Items) → ArePlainItems os → ArePlain (os >>= (λ ds. Some (json.array ds)))
as_array None p = tt
as_array (Some ds) p = p

list_plain : {A : Type 0} (f : A → Option Data) → ((x : A) → ArePlain (f x)) → (xs : List A) → ArePlain (list_data f xs)
list_plain f p xs = as_array (all_written f xs) (items_plain f p xs)

optional_plain : (key : List ℕ) (o : Option ℕ) (rest : Members) →
    members_have_float (optional_member key o rest) ≡ members_have_float rest
optional_plain key None rest = refl
optional_plain key (Some n) rest = refl

-- ---- names, values and operands

name_plain : (n : Name) → IsPlain (name_data n)
name_plain (name.Reply place) = refl
name_plain (name.Value place index) = refl
name_plain (name.Arg place) = refl
name_plain (name.Stored place) = refl
name_plain name.Caller = refl

integer_plain : (z : ℤ) → IsPlain (integer_data z)
integer_plain (pos n) = refl
integer_plain (negsuc n) = refl

func_plain : (o : Option Func) → IsPlain (func_data o)
func_plain None = refl
func_plain (Some f) = refl

extern_plain : (o : Option ExternRef) → IsPlain (extern_data o)
extern_plain None = refl
extern_plain (Some e) = refl

any_plain : (o : Option AnyRef) → IsPlain (any_data o)
any_plain None = refl
any_plain (Some a) = refl

val_plain : (val : Val) → IsPlain (val_data val)
val_plain (v.I32 n) = rw (integer_plain n) refl
val_plain (v.I64 n) = rw (integer_plain n) refl
val_plain (v.F32 bits) = refl
val_plain (v.F64 bits) = refl
val_plain (v.V128 bits) = refl
val_plain (v.FuncRef f) = rw (func_plain f) refl
val_plain (v.ExternRef e) = rw (extern_plain e) refl
val_plain (v.AnyRef a) = rw (any_plain a) refl

operand_plain : (o : Operand) → IsPlain (operand_data o)
operand_plain (operand.Val val) = val_plain val
operand_plain (operand.Named n) = rw (name_plain n) refl

-- ---- types

module _ (types : List Signature) where
  type_plain : (ty : Signature) → ArePlain (type_data types ty)
  type_plain ty = number_plain (number_of types ty)

  heap_plain : (ty : HeapType) → ArePlain (heap_data types ty)
  heap_plain h.Func = refl
  heap_plain h.NoFunc = refl
  heap_plain h.Extern = refl
  heap_plain h.NoExtern = refl
  heap_plain h.Any = refl
  heap_plain h.Eq = refl
  heap_plain h.I31 = refl
  heap_plain h.None = refl
  heap_plain (h.ConcreteFunc ty) = type_plain ty

  reference_plain : (ty : RefType) → ArePlain (reference_data types ty)
  reference_plain ty =
      then_plain (heap_data types (heap_type ty)) (λ heap. Some (reference_by (is_nullable ty) heap))
      (heap_plain (heap_type ty)) (λ heap p. rw p refl)

  val_type_plain : (ty : ValType) → ArePlain (val_type_data types ty)
  val_type_plain t.I32 = refl
  val_type_plain t.I64 = refl
  val_type_plain t.F32 = refl
  val_type_plain t.F64 = refl
  val_type_plain t.V128 = refl
  val_type_plain (t.Ref ty) = reference_plain ty

  mutability_plain : (m : Mutability) → IsPlain (mutability_data m)
  mutability_plain mutability.Const = refl
  mutability_plain mutability.Var = refl

  interval_plain : (o : Option ℕ) → IsPlain (interval_data o)
  interval_plain None = refl
  interval_plain (Some n) = refl

  -- ---- operations

  op_plain : (x : Op) → ArePlain (op_data types x)
  op_plain (op.MemoryNew ty) = rw (optional_plain (codes "max") ty.maximum _) refl
  op_plain (op.MemoryRead memory at len) = rw (name_plain memory) refl
  op_plain (op.MemoryWrite memory at bytes) = rw (name_plain memory) refl
  op_plain (op.MemorySize memory) = rw (name_plain memory) refl
  op_plain (op.MemoryGrow memory delta) = rw (name_plain memory) refl
  op_plain (op.TableNew ty init) =
      then_plain (reference_data types ty.element) (λ element. Some (table_new_by ty (operand_data init) element))
      (reference_plain ty.element)
      (λ element p. rw (operand_plain init, optional_plain (codes "max") ty.maximum _, p) refl)
  op_plain (op.TableGet table at) = rw (name_plain table) refl
  op_plain (op.TableSet table at value) = rw (name_plain table, operand_plain value) refl
  op_plain (op.TableSize table) = rw (name_plain table) refl
  op_plain (op.TableGrow table delta value) = rw (name_plain table, operand_plain value) refl
  op_plain (op.TableCopy dst dst_at src src_at len) = rw (name_plain dst, name_plain src) refl
  op_plain (op.TableFill table at value len) = rw (name_plain table, operand_plain value) refl
  op_plain (op.GlobalNew ty init) =
      then_plain (val_type_data types ty.content) (λ content. Some (global_new_by ty init content))
      (val_type_plain ty.content)
      (λ content p. rw (operand_plain init, mutability_plain ty.mutability, p) refl)
  op_plain (op.GlobalGet global) = rw (name_plain global) refl
  op_plain (op.GlobalSet global value) = rw (name_plain global, operand_plain value) refl
  op_plain (op.TagNew ty) =
      then_plain (type_data types ty) (λ number. Some (tag_new_by number)) (type_plain ty) (λ number p. rw p refl)
  op_plain (op.GetExport instance export) = rw (name_plain instance) refl
  op_plain op.GetFuel = refl
  op_plain (op.SetFuel fuel) = refl
  op_plain (op.YieldInterval interval) = rw (interval_plain interval) refl
  op_plain (op.SetEpochDeadline ticks) = refl
  op_plain (op.Call func args results) =
      then_plain (list_data argument_data args) (λ arguments. Some (call_by func results arguments))
      (list_plain argument_data operand_plain args)
      (λ arguments p. rw (p, name_plain func, optional_plain (codes "results") results _) refl)

  -- ---- steps, readings and growths

  answer_plain : (a : Answer) → ArePlain (answer_data types a)
  answer_plain (answer.Return vals) =
      then_plain (list_data returned_data vals) (λ values. Some (one_data (codes "return") values))
      (list_plain returned_data val_plain vals) (λ values p. rw p refl)
  answer_plain answer.Fail = refl
  answer_plain (answer.Call x) =
      then_plain (op_data types x) (λ command. Some (one_data (codes "call") command)) (op_plain x) (λ command p. rw p refl)

  event_plain : (e : Event) → IsPlain (event_data e)
  event_plain event.Start = refl
  event_plain event.Replied = refl

  step_plain : (s : TapedStep) → ArePlain (step_data types s)
  step_plain s =
      then_plain (answer_data types s.answer) (λ said. Some (step_by s said)) (answer_plain s.answer)
      (λ said p. rw (p, event_plain s.event) refl)

  reading_plain : (r : Result ℕ EpochFailed) → ArePlain (reading_data r)
  reading_plain (Ok ticks) = refl
  reading_plain (Err fault) = refl

  growth_plain : (r : Result Bool LimiterFailed) → ArePlain (growth_data r)
  growth_plain (Ok true) = refl
  growth_plain (Ok false) = refl
  growth_plain (Err fault) = refl

  tape_plain : (tape : TapeParts) → ArePlain (tape_data types tape)
  tape_plain tape =
      then_plain (list_data (step_data types) tape.steps) _ (list_plain (step_data types) step_plain tape.steps)
      (λ steps s. then_plain (list_data reading_data tape.readings) _ (list_plain reading_data reading_plain tape.readings)
      (λ readings r. then_plain (list_data growth_data tape.growths) _ (list_plain growth_data growth_plain tape.growths)
      (λ growths g. rw (s, r, g) refl)))

  -- what is written of a tape has no such number
  pub written_plain : (tape : TapeParts) (d : Data) → tape_data types tape ≡ Some d → has_float d ≡ false
  written_plain tape d e = subst (λ (o : Option Data). ArePlain o) e (tape_plain tape)
