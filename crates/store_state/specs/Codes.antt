-- The codes by which proofs tell stores, and the parts of which they are made, apart. This project's own.
use Rattle.std.specs.Prelude.{ℕ, ℤ, Bool, List, Option, ◌≡◌, ◌⊎◌, refl}
use Rattle.std.specs.Coded.{Coded, code_by, coded×, coded⊎, coded_ℕ, coded_ℤ, coded_bool, coded_list, coded_option}
use Rattle.std.proofs.Common.{inl, inr}
use Rattle.wasm_types.specs.Memories.{Memory, memory}
use Rattle.wasm_types.specs.MemoryTypes.{memory_parts}
use Rattle.wasm_types.specs.SignatureCode.{signature_code}
use Rattle.wasm_types.specs.Signatures.{Signature}
use Rattle.wasm_types.specs.TableTypes.{TableParts, table_code}
use Rattle.wasm_syntax.specs.DeclarationCodes.{module_decl_code}
use Rattle.wasm_syntax.specs.declared.declarations.ModuleDecl.{ModuleDecl}
use Rattle.wasm_meter.specs.Counts.{numbers_code}
use Rattle.wasm_values.specs.contracts.externals.Extern as extern
use Rattle.wasm_values.specs.contracts.store_id.StoreId as store_id
use Rattle.wasm_values.specs.declared.externals.Extern.{Extern}
use Rattle.wasm_values.specs.declared.store_id.StoreId.{StoreId}
use Rattle.wasm_objects.specs.Globals.{Global}
use Rattle.wasm_objects.specs.Objects.{object_global_code}
use Rattle.wasm_objects.specs.Tables.{Table, table}
use Rattle.wasm_objects.specs.contracts.raw.RawRef as raw_ref
use Rattle.wasm_objects.specs.declared.raw.RawRef.{RawRef}
use Rattle.spec_machine.specs.Machine.{Machine, EngineParts, Function, guest, host, InstanceParts, Numbers}
use Rattle.store_state.specs.Engines.{parts}
use Rattle.store_state.specs.Parts.{Names, names, SegmentParts, segment_parts, ProgramParts, program_parts, HeldParts, held_parts}

-- each is stored as its parts, in order
abbrev pub memory_code : Coded Memory
memory_code =
    code_by ((ℕ × (Option ℕ × ℕ)) × List ℕ)
    (coded× (coded× coded_ℕ (coded× (coded_option coded_ℕ) coded_ℕ)) (coded_list coded_ℕ))
    (λ m. ((m.ty.minimum, (m.ty.maximum, m.ty.page_size_log2)), m.bytes))
    (λ p. memory (memory_parts p.0.0 p.0.1.0 p.0.1.1) p.1) (λ _. refl)

abbrev pub stored_table_code : Coded Table
stored_table_code =
    code_by (TableParts × List RawRef) (coded× table_code (coded_list raw_ref.the_row.coded))
    (λ t. (t.ty, t.elements)) (λ p. table p.0 p.1) (λ _. refl)

abbrev EngineRow : Type 0
EngineRow = ℕ × (Bool × (Bool × (ℕ × ℕ)))

abbrev engine_row_code : Coded EngineRow
engine_row_code = coded× coded_ℕ (coded× coded_bool (coded× coded_bool (coded× coded_ℕ coded_ℕ)))

abbrev engine_code : Coded EngineParts
engine_code =
    code_by EngineRow engine_row_code (λ e. (e.number, (e.consumes_fuel, (e.reads_epochs, (e.frames, e.turns)))))
    (λ p. parts p.0 p.1.0 p.1.1.0 p.1.1.1.0 p.1.1.1.1) (λ _. refl)

-- a function is one of two
abbrev FunctionRow : Type 0
FunctionRow = (ℕ × ℕ) ⊎ (Signature × (ℕ × List Extern))

abbrev function_row_code : Coded FunctionRow
function_row_code =
    coded⊎ (coded× coded_ℕ coded_ℕ) (coded× signature_code (coded× coded_ℕ (coded_list extern.the_row.coded)))

abbrev function_row : Function → FunctionRow
function_row (guest instance n) = inl (instance, n)
function_row (host ty body stored) = inr (ty, (body, stored))

abbrev row_function : FunctionRow → Function
row_function (inl p) = guest p.0 p.1
row_function (inr p) = host p.0 p.1.0 p.1.1

pub row_function_row : (f : Function) → row_function (function_row f) ≡ f
row_function_row (guest instance n) = refl
row_function_row (host ty body stored) = refl

abbrev pub function_code : Coded Function
function_code = code_by FunctionRow function_row_code function_row row_function row_function_row

abbrev Numbered : Type 0
Numbered = List ℕ

abbrev NamesRow : Type 0
NamesRow = ModuleDecl × (Numbered × (Numbered × (Numbered × (Numbered × Numbered))))

abbrev pub names_code : Coded Names
names_code =
    let n = coded_list coded_ℕ in
    code_by NamesRow (coded× module_decl_code (coded× n (coded× n (coded× n (coded× n n)))))
    (λ i. (i.decl, (i.functions, (i.tables, (i.memories, (i.globals, i.tags))))))
    (λ p. names p.0 p.1.0 p.1.1.0 p.1.1.1.0 p.1.1.1.1.0 p.1.1.1.1.1) (λ _. refl)

abbrev pub segments_code : Coded SegmentParts
segments_code =
    code_by (List (List RawRef) × List (List ℕ))
    (coded× (coded_list (coded_list raw_ref.the_row.coded)) (coded_list (coded_list coded_ℕ)))
    (λ s. (s.elements, s.datas)) (λ p. segment_parts p.0 p.1) (λ _. refl)

abbrev pub program_code : Coded ProgramParts
program_code =
    code_by (List Function × List Names) (coded× (coded_list function_code) (coded_list names_code))
    (λ p. (p.functions, p.instances)) (λ p. program_parts p.0 p.1) (λ _. refl)

abbrev HeldObjects : Type 0
HeldObjects = List Memory × (List Table × (List Global × (List Signature × List SegmentParts)))

abbrev held_objects_code : Coded HeldObjects
held_objects_code =
    coded× (coded_list memory_code) (coded× (coded_list stored_table_code) (coded× (coded_list object_global_code)
    (coded× (coded_list signature_code) (coded_list segments_code))))

abbrev HeldRest : Type 0
HeldRest = ℤ × (ℕ × (Numbers × Numbers))

abbrev held_rest_code : Coded HeldRest
held_rest_code = coded× coded_ℤ (coded× coded_ℕ (coded× numbers_code numbers_code))

abbrev pub held_code : Coded HeldParts
held_code =
    code_by (HeldObjects × HeldRest) (coded× held_objects_code held_rest_code)
    (λ h. ((h.memories, (h.tables, (h.globals, (h.tags, h.segments)))), (h.fuel, (h.deadline, (h.counts, h.limits)))))
    (λ p. held_parts p.0.0 p.0.1.0 p.0.1.1.0 p.0.1.1.1.0 p.0.1.1.1.1 p.1.0 p.1.1.0 p.1.1.1.0 p.1.1.1.1) (λ _. refl)

-- ---- whole stores

abbrev InstanceRow : Type 0
InstanceRow =
    ModuleDecl × (Numbered × (Numbered × (Numbered × (Numbered × (Numbered × (List (List RawRef) × List (List ℕ)))))))

abbrev instance_row_code : Coded InstanceRow
instance_row_code =
    let n = coded_list coded_ℕ in
    coded× module_decl_code (coded× n (coded× n (coded× n (coded× n (coded× n
    (coded× (coded_list (coded_list raw_ref.the_row.coded)) (coded_list n)))))))

abbrev instance_row : InstanceParts → InstanceRow
instance_row i =
    (i.decl, (i.functions, (i.tables, (i.memories, (i.globals, (i.tags, (i.elements, i.datas)))))))

abbrev row_instance : InstanceRow → InstanceParts
row_instance p = record {
  decl = p.0;
  functions = p.1.0;
  tables = p.1.1.0;
  memories = p.1.1.1.0;
  globals = p.1.1.1.1.0;
  tags = p.1.1.1.1.1.0;
  elements = p.1.1.1.1.1.1.0;
  datas = p.1.1.1.1.1.1.1;
}

abbrev instance_code : Coded InstanceParts
instance_code = code_by InstanceRow instance_row_code instance_row row_instance (λ _. refl)

-- a store's objects, and all else of it
abbrev Objects : Type 0
Objects =
    List Memory × (List Table × (List Global × (List Signature × (List Function × List InstanceParts))))

abbrev objects_code : Coded Objects
objects_code =
    coded× (coded_list memory_code) (coded× (coded_list stored_table_code) (coded× (coded_list object_global_code)
    (coded× (coded_list signature_code) (coded× (coded_list function_code) (coded_list instance_code)))))

abbrev Rest : Type 0
Rest = ℤ × (ℕ × (Numbers × (Numbers × (Bool × (Bool × Bool)))))

abbrev rest_code : Coded Rest
rest_code =
    coded× coded_ℤ (coded× coded_ℕ (coded× numbers_code (coded× numbers_code
    (coded× coded_bool (coded× coded_bool coded_bool)))))

abbrev MachineRow : Type 0
MachineRow = (StoreId × EngineParts) × (Objects × Rest)

abbrev machine_row : Machine → MachineRow
machine_row m = (
  (m.id, m.engine),
  (
    (m.memories, (m.tables, (m.globals, (m.tags, (m.functions, m.instances))))),
    (m.fuel, (m.deadline, (m.counts, (m.limits, (m.is_limited, (m.is_hooked, m.is_behaving)))))),
  ),
)

abbrev row_machine : MachineRow → Machine
row_machine p = record {
  id = p.0.0;
  engine = p.0.1;
  memories = p.1.0.0;
  tables = p.1.0.1.0;
  globals = p.1.0.1.1.0;
  tags = p.1.0.1.1.1.0;
  functions = p.1.0.1.1.1.1.0;
  instances = p.1.0.1.1.1.1.1;
  fuel = p.1.1.0;
  deadline = p.1.1.1.0;
  counts = p.1.1.1.1.0;
  limits = p.1.1.1.1.1.0;
  is_limited = p.1.1.1.1.1.1.0;
  is_hooked = p.1.1.1.1.1.1.1.0;
  is_behaving = p.1.1.1.1.1.1.1.1;
}

abbrev pub machine_code : Coded Machine
machine_code =
    code_by MachineRow (coded× (coded× store_id.the_row.coded engine_code) (coded× objects_code rest_code)) machine_row
    row_machine (λ _. refl)
