-- Operations, as they are written and read.
use Rattle.std.proofs.Common.{◌≡◌, ℕ, Bool, List, Option, Some, None, Result, refl, ap, ◌∙◌, subst}
use Rattle.std.specs.List.{AllByRecursion}
use Rattle.hex.specs.Hex.{IsBytes, decode_of, encode_lower}
use Rattle.hex.specs.declared.FromHexError.{FromHexError}
use Rattle.hex.proofs.HexLemmas.{decode_of-encode_lower}
use Rattle.serde_json.specs.Data.{Data}
use Rattle.wasm_types.specs.GlobalTypes.{GlobalParts, global_parts}
use Rattle.wasm_types.specs.MemoryTypes.{memory_parts}
use Rattle.wasm_types.specs.TableTypes.{TableParts, table_parts}
use Rattle.wasm_types.specs.Signatures.{Signature}
use Rattle.wasm_types.specs.declared.plain.Mutability.{Mutability}
use Rattle.wasm_types.specs.declared.plain.Mutability.TheVariants.{Const, Var}
use Rattle.wasm_types.specs.declared.value_types.RefType.{RefType}
use Rattle.wasm_types.specs.declared.value_types.ValType.{ValType}
use Rattle.spec_machine.specs.declared.name.Name.{Name}
use Rattle.spec_machine.specs.declared.name.Operand.{Operand}
use Rattle.spec_machine.specs.declared.operation.Op.{Op}
use Rattle.spec_machine.specs.declared.operation.Op.TheVariants as op
use Rattle.script_json.specs.Fields.{◌>>=◌, decoded, list_of, whole_to}
use Rattle.script_types.specs.Types.{whole_32, ref_type_of, val_type_of, memory_type_by, memory_type_if, table_type_by, table_type_if}
use Rattle.script_commands.specs.Names.{name_of}
use Rattle.tape_values.specs.Operands.{name_data, operand_data, OperandInRange}
use Rattle.tape_values.specs.OperandsRead.{operand_in}
use Rattle.tape_values.specs.Types.{MemoryInRange, TableInRange, type_data, reference_data, val_type_data}
use Rattle.tape_values.specs.Writing.{whole_data, list_data}
use Rattle.tape_values.proofs.ListLemmas.{list_back}
use Rattle.tape_values.proofs.OperandLemmas.{name_back, operand_back}
use Rattle.tape_values.proofs.Options.{bind_some, some_is}
use Rattle.tape_values.proofs.TypeLemmas.{type_back, ref_type_back, val_type_back, whole_to_back, whole_32_back}
use Rattle.tape_writers.specs.Written.{memory_new_data, memory_write_data, table_new_by, table_new_data, table_set_data, table_grow_data, table_fill_data, table_copy_data, global_new_by, global_new_data, global_set_data, tag_new_by, tag_new_data, argument_data, call_by, call_data, op_data, OpInRange}
use Rattle.tape_readers.specs.Read.{op_in}

-- an operation goes on with a name, an operand that is read as it was
named : {A : Type 0} (n : Name) (go : Name → Option A) → (name_of (name_data n) >>= go) ≡ go n
named n go = ap (λ (o : Option Name). o >>= go) (name_back n)

valued : {A : Type 0} (o : Operand) → OperandInRange o → (go : Operand → Option A) → (operand_in (operand_data o) >>= go) ≡ go o
valued o f go = ap (λ (r : Option Operand). r >>= go) (operand_back o f)

module _ (types : List Signature) where
  abbrev Back : Op → Data → Type 0
  Back o d = op_in types d ≡ Some o

  -- what is written without fail
  back_of : (o : Op) (x d : Data) → Back o x → Some x ≡ Some d → Back o d
  back_of o x d h e = subst (Back o) (some_is x d e) h

  -- ---- memories

  memory_limits : (minimum : ℕ) (maximum : Option ℕ) (page : ℕ) → MemoryInRange (memory_parts minimum maximum page)
      → (memory_type_by minimum maximum page >>= (λ ty. Some (op.MemoryNew ty))) ≡ Some (op.MemoryNew (memory_parts minimum maximum page))
  memory_limits minimum maximum page f =
      ap (λ (b : Bool). memory_type_if (memory_parts minimum maximum page) b >>= (λ ty. Some (op.MemoryNew ty))) f.limits

  memory_new_back : (minimum : ℕ) (maximum : Option ℕ) (page : ℕ) → MemoryInRange (memory_parts minimum maximum page)
      → Back (op.MemoryNew (memory_parts minimum maximum page)) (memory_new_data (memory_parts minimum maximum page))
  memory_new_back minimum None page f =
      ap (λ (o : Option ℕ). o >>= (λ m. whole_to 16 (whole_data page) >>= (λ p. memory_type_by m None p)) >>= (λ ty. Some (op.MemoryNew ty)))
      (whole_32_back minimum f.minimum)
      ∙ ap (λ (o : Option ℕ). o >>= (λ p. memory_type_by minimum None p) >>= (λ ty. Some (op.MemoryNew ty))) (whole_to_back 16 page f.page)
      ∙ memory_limits minimum None page f
  memory_new_back minimum (Some most) page f =
      ap (λ (o : Option ℕ). o >>= (λ m. whole_32 (whole_data most) >>= (λ n. Some (Some n))
      >>= (λ n. whole_to 16 (whole_data page) >>= (λ p. memory_type_by m n p))) >>= (λ ty. Some (op.MemoryNew ty)))
      (whole_32_back minimum f.minimum)
      ∙ ap (λ (o : Option ℕ). o >>= (λ n. Some (Some n)) >>= (λ n. whole_to 16 (whole_data page) >>= (λ p. memory_type_by minimum n p))
      >>= (λ ty. Some (op.MemoryNew ty))) (whole_32_back most f.maximum)
      ∙ ap (λ (o : Option ℕ). o >>= (λ p. memory_type_by minimum (Some most) p) >>= (λ ty. Some (op.MemoryNew ty))) (whole_to_back 16 page f.page)
      ∙ memory_limits minimum (Some most) page f

  memory_write_back : (memory : Name) (at : ℕ) (bytes : List ℕ) → IsBytes bytes
      → Back (op.MemoryWrite memory at bytes) (memory_write_data memory at bytes)
  memory_write_back memory at bytes f =
      named memory (λ n. decoded (decode_of (encode_lower bytes)) >>= (λ b. Some (op.MemoryWrite n at b)))
      ∙ ap (λ (r : Result (List ℕ) FromHexError). decoded r >>= (λ b. Some (op.MemoryWrite memory at b))) (decode_of-encode_lower bytes f)

  -- ---- tables

  table_limits : (element : RefType) (minimum : ℕ) (maximum : Option ℕ) (init : Operand) → TableInRange (table_parts element minimum maximum)
      → OperandInRange init
      → (table_type_by element minimum maximum >>= (λ ty. operand_in (operand_data init) >>= (λ i. Some (op.TableNew ty i))))
      ≡ Some (op.TableNew (table_parts element minimum maximum) init)
  table_limits element minimum maximum init f g =
      ap (λ (b : Bool). table_type_if (table_parts element minimum maximum) b >>= (λ ty. operand_in (operand_data init) >>= (λ i. Some (op.TableNew ty i))))
      f.limits
      ∙ valued init g (λ i. Some (op.TableNew (table_parts element minimum maximum) i))

  table_with_back : (element : RefType) (minimum : ℕ) (maximum : Option ℕ) (init : Operand) (d : Data)
      → TableInRange (table_parts element minimum maximum) → OperandInRange init → ref_type_of types d ≡ Some element
      → Back (op.TableNew (table_parts element minimum maximum) init) (table_new_by (table_parts element minimum maximum) (operand_data init) d)
  table_with_back element minimum None init d f g e =
      ap (λ (o : Option RefType). o >>= (λ t. whole_32 (whole_data minimum) >>= (λ m. table_type_by t m None))
      >>= (λ ty. operand_in (operand_data init) >>= (λ i. Some (op.TableNew ty i)))) e
      ∙ ap (λ (o : Option ℕ). o >>= (λ m. table_type_by element m None)
      >>= (λ ty. operand_in (operand_data init) >>= (λ i. Some (op.TableNew ty i)))) (whole_32_back minimum f.minimum)
      ∙ table_limits element minimum None init f g
  table_with_back element minimum (Some most) init d f g e =
      ap (λ (o : Option RefType). o >>= (λ t. whole_32 (whole_data minimum) >>= (λ m. whole_32 (whole_data most) >>= (λ n. Some (Some n))
      >>= (λ n. table_type_by t m n))) >>= (λ ty. operand_in (operand_data init) >>= (λ i. Some (op.TableNew ty i)))) e
      ∙ ap (λ (o : Option ℕ). o >>= (λ m. whole_32 (whole_data most) >>= (λ n. Some (Some n)) >>= (λ n. table_type_by element m n))
      >>= (λ ty. operand_in (operand_data init) >>= (λ i. Some (op.TableNew ty i)))) (whole_32_back minimum f.minimum)
      ∙ ap (λ (o : Option ℕ). o >>= (λ n. Some (Some n)) >>= (λ n. table_type_by element minimum n)
      >>= (λ ty. operand_in (operand_data init) >>= (λ i. Some (op.TableNew ty i)))) (whole_32_back most f.maximum)
      ∙ table_limits element minimum (Some most) init f g

  table_new_back : (ty : TableParts) (init : Operand) (d : Data) → TableInRange ty → OperandInRange init
      → table_new_data types ty init ≡ Some d → Back (op.TableNew ty init) d
  table_new_back ty init d f g e =
      let element = bind_some (reference_data types ty.element) (λ (x : Data). Some (table_new_by ty (operand_data init) x)) d e in
      back_of (op.TableNew ty init) (table_new_by ty (operand_data init) element.0) d
      (table_with_back ty.element ty.minimum ty.maximum init element.0 f g (ref_type_back types ty.element element.0 element.1)) element.2

  table_set_back : (table : Name) (at : ℕ) (value : Operand) → OperandInRange value
      → Back (op.TableSet table at value) (table_set_data table at value)
  table_set_back table at value f =
      named table (λ n. operand_in (operand_data value) >>= (λ x. Some (op.TableSet n at x)))
      ∙ valued value f (λ x. Some (op.TableSet table at x))

  table_grow_back : (table : Name) (delta : ℕ) (value : Operand) → OperandInRange value
      → Back (op.TableGrow table delta value) (table_grow_data table delta value)
  table_grow_back table delta value f =
      named table (λ n. operand_in (operand_data value) >>= (λ x. Some (op.TableGrow n delta x)))
      ∙ valued value f (λ x. Some (op.TableGrow table delta x))

  table_fill_back : (table : Name) (at : ℕ) (value : Operand) (len : ℕ) → OperandInRange value
      → Back (op.TableFill table at value len) (table_fill_data table at value len)
  table_fill_back table at value len f =
      named table (λ n. operand_in (operand_data value) >>= (λ x. Some (op.TableFill n at x len)))
      ∙ valued value f (λ x. Some (op.TableFill table at x len))

  table_copy_back : (dst : Name) (dst_at : ℕ) (src : Name) (src_at len : ℕ)
      → Back (op.TableCopy dst dst_at src src_at len) (table_copy_data dst dst_at src src_at len)
  table_copy_back dst dst_at src src_at len =
      named dst (λ n. name_of (name_data src) >>= (λ m. Some (op.TableCopy n dst_at m src_at len)))
      ∙ named src (λ m. Some (op.TableCopy dst dst_at m src_at len))

  -- ---- globals and tags

  global_made : (content : ValType) (mutability : Mutability) (init : Operand) → OperandInRange init → (d : Data) → val_type_of types d ≡ Some content
      → Back (op.GlobalNew (global_parts content mutability) init) (global_new_by (global_parts content mutability) init d)
  global_made content Const init f d e =
      ap (λ (o : Option ValType). o >>= (λ c. Some (global_parts c Const)) >>= (λ ty. operand_in (operand_data init) >>= (λ i. Some (op.GlobalNew ty i)))) e
      ∙ valued init f (λ i. Some (op.GlobalNew (global_parts content Const) i))
  global_made content Var init f d e =
      ap (λ (o : Option ValType). o >>= (λ c. Some (global_parts c Var)) >>= (λ ty. operand_in (operand_data init) >>= (λ i. Some (op.GlobalNew ty i)))) e
      ∙ valued init f (λ i. Some (op.GlobalNew (global_parts content Var) i))

  global_new_back : (ty : GlobalParts) (init : Operand) (d : Data) → OperandInRange init
      → global_new_data types ty init ≡ Some d → Back (op.GlobalNew ty init) d
  global_new_back ty init d f e =
      let content = bind_some (val_type_data types ty.content) (λ (x : Data). Some (global_new_by ty init x)) d e in
      back_of (op.GlobalNew ty init) (global_new_by ty init content.0) d
      (global_made ty.content ty.mutability init f content.0 (val_type_back types ty.content content.0 content.1)) content.2

  global_set_back : (global : Name) (value : Operand) → OperandInRange value → Back (op.GlobalSet global value) (global_set_data global value)
  global_set_back global value f =
      named global (λ n. operand_in (operand_data value) >>= (λ x. Some (op.GlobalSet n x)))
      ∙ valued value f (λ x. Some (op.GlobalSet global x))

  tag_new_back : (ty : Signature) (d : Data) → tag_new_data types ty ≡ Some d → Back (op.TagNew ty) d
  tag_new_back ty d e =
      let number = bind_some (type_data types ty) (λ (x : Data). Some (tag_new_by x)) d e in
      back_of (op.TagNew ty) (tag_new_by number.0) d
      (ap (λ (o : Option Signature). o >>= (λ t. Some (op.TagNew t))) (type_back types ty number.0 number.1)) number.2

  -- ---- calls

  argument_back : (o : Operand) (d : Data) → OperandInRange o → argument_data o ≡ Some d → operand_in d ≡ Some o
  argument_back o d f e = subst (λ (y : Data). operand_in y ≡ Some o) (some_is (operand_data o) d e) (operand_back o f)

  call_made : (func : Name) (args : List Operand) (results : Option ℕ) (d : Data) → list_of operand_in d ≡ Some args
      → Back (op.Call func args results) (call_by func results d)
  call_made func args None d e =
      named func (λ n. list_of operand_in d >>= (λ xs. Some (op.Call n xs None)))
      ∙ ap (λ (o : Option (List Operand)). o >>= (λ xs. Some (op.Call func xs None))) e
  call_made func args (Some count) d e =
      named func (λ n. list_of operand_in d >>= (λ xs. Some (op.Call n xs (Some count))))
      ∙ ap (λ (o : Option (List Operand)). o >>= (λ xs. Some (op.Call func xs (Some count)))) e

  call_back : (func : Name) (args : List Operand) (results : Option ℕ) (d : Data) → AllByRecursion OperandInRange args
      → call_data func args results ≡ Some d → Back (op.Call func args results) d
  call_back func args results d f e =
      let arguments = bind_some (list_data argument_data args) (λ (x : Data). Some (call_by func results x)) d e in
      back_of (op.Call func args results) (call_by func results arguments.0) d
      (call_made func args results arguments.0
      (list_back argument_data operand_in OperandInRange argument_back args arguments.0 f arguments.1)) arguments.2

  -- an operation is read as it was written
  pub op_back : (o : Op) (d : Data) → OpInRange o → op_data types o ≡ Some d → op_in types d ≡ Some o
  op_back (op.MemoryNew ty) d f = back_of _ _ d (memory_new_back ty.minimum ty.maximum ty.page_size_log2 f)
  op_back (op.MemoryRead memory at len) d f = back_of _ _ d (named memory (λ n. Some (op.MemoryRead n at len)))
  op_back (op.MemoryWrite memory at bytes) d f = back_of _ _ d (memory_write_back memory at bytes f)
  op_back (op.MemorySize memory) d f = back_of _ _ d (named memory (λ n. Some (op.MemorySize n)))
  op_back (op.MemoryGrow memory delta) d f = back_of _ _ d (named memory (λ n. Some (op.MemoryGrow n delta)))
  op_back (op.TableNew ty init) d f = table_new_back ty init d f.0 f.1
  op_back (op.TableGet table at) d f = back_of _ _ d (named table (λ n. Some (op.TableGet n at)))
  op_back (op.TableSet table at value) d f = back_of _ _ d (table_set_back table at value f)
  op_back (op.TableSize table) d f = back_of _ _ d (named table (λ n. Some (op.TableSize n)))
  op_back (op.TableGrow table delta value) d f = back_of _ _ d (table_grow_back table delta value f)
  op_back (op.TableCopy dst dst_at src src_at len) d f = back_of _ _ d (table_copy_back dst dst_at src src_at len)
  op_back (op.TableFill table at value len) d f = back_of _ _ d (table_fill_back table at value len f)
  op_back (op.GlobalNew ty init) d f = global_new_back ty init d f
  op_back (op.GlobalGet global) d f = back_of _ _ d (named global (λ n. Some (op.GlobalGet n)))
  op_back (op.GlobalSet global value) d f = back_of _ _ d (global_set_back global value f)
  op_back (op.TagNew ty) d f = tag_new_back ty d
  op_back (op.GetExport instance name) d f = back_of _ _ d (named instance (λ n. Some (op.GetExport n name)))
  op_back op.GetFuel d f = back_of op.GetFuel _ d refl
  op_back (op.SetFuel fuel) d f = back_of (op.SetFuel fuel) _ d refl
  op_back (op.YieldInterval None) d f = back_of (op.YieldInterval None) _ d refl
  op_back (op.YieldInterval (Some n)) d f = back_of (op.YieldInterval (Some n)) _ d refl
  op_back (op.SetEpochDeadline ticks) d f = back_of (op.SetEpochDeadline ticks) _ d refl
  op_back (op.Call func args results) d f = call_back func args results d f
