-- A store of what a run reads and what it changes, put together. This project's own.
use Rattle.std.specs.Prelude.{◌≡◌, ℕ, List, [], ◌∷◌, set, slice_get, option_and_then, Option, Some}
use Rattle.std.proofs.Common.{get_or}
use Rattle.wasm_types.specs.Signatures.{Signature}
use Rattle.wasm_syntax.specs.declared.declarations.FuncDecl.{FuncDecl}
use Rattle.wasm_objects.specs.declared.raw.RawRef.{RawRef}
use Rattle.spec_machine.specs.Machine.{Machine, Function, guest, host, InstanceParts}
use Rattle.store_state.specs.Parts.{Names, SegmentParts, segment_parts, ProgramParts, HeldParts}

-- an instance: what it names, and its segments
abbrev pub instance_of : Names → SegmentParts → InstanceParts
instance_of n s = record {
  decl = n.decl;
  functions = n.functions;
  tables = n.tables;
  memories = n.memories;
  globals = n.globals;
  tags = n.tags;
  elements = s.elements;
  datas = s.datas;
}

-- an instance names this
abbrev pub IsNamed : InstanceParts → Names → Type 0
IsNamed i n = (s : SegmentParts) × (i ≡ instance_of n s)

-- the instances, each with its segments; one for which no segments are held has none
abbrev pub instances_of : List Names → List SegmentParts → List InstanceParts
instances_of [] ss = []
instances_of (n ∷ ns) [] = instance_of n (segment_parts [] []) ∷ instances_of ns []
instances_of (n ∷ ns) (s ∷ ss) = instance_of n s ∷ instances_of ns ss

-- the store of these: the base gives the id, the engine, and whether a limiter, a hook and a deadline behaviour are asked
abbrev pub run_machine : Machine → ProgramParts → HeldParts → Machine
run_machine base program held = record base {
  memories = held.memories;
  tables = held.tables;
  globals = held.globals;
  tags = held.tags;
  functions = program.functions;
  instances = instances_of program.instances held.segments;
  fuel = held.fuel;
  deadline = held.deadline;
  counts = held.counts;
  limits = held.limits;
}

-- the number in the store of what an instance names under an index
module _ (names : Names → List ℕ) where
  abbrev pub number_of : ProgramParts → ℕ → ℕ → Option ℕ
  number_of program instance k =
      option_and_then (λ (n : Names). slice_get (names n) k) (slice_get program.instances instance)

abbrev pub function_number : ProgramParts → ℕ → ℕ → Option ℕ
function_number = number_of (λ n. n.functions)

abbrev pub table_number : ProgramParts → ℕ → ℕ → Option ℕ
table_number = number_of (λ n. n.tables)

abbrev pub memory_number : ProgramParts → ℕ → ℕ → Option ℕ
memory_number = number_of (λ n. n.memories)

abbrev pub global_number : ProgramParts → ℕ → ℕ → Option ℕ
global_number = number_of (λ n. n.globals)

-- the type of a function of an instance, by its number among those that the module defines
abbrev pub type_in : Names → ℕ → Option Signature
type_in n number = option_and_then (λ (f : FuncDecl). slice_get n.decl.types f.ty) (slice_get n.decl.functions number)

abbrev pub callee_type : ProgramParts → ℕ → ℕ → Option Signature
callee_type program instance number = option_and_then (λ n. type_in n number) (slice_get program.instances instance)

-- the type of a function of the store, by its number
abbrev pub type_by : ProgramParts → Function → Option Signature
type_by program (guest instance number) = callee_type program instance number
type_by program (host ty body stored) = Some ty

abbrev pub type_named : ProgramParts → ℕ → Option Signature
type_named program n = option_and_then (type_by program) (slice_get program.functions n)

-- the segments of an instance; one for which none are held has none
abbrev pub segments_at : List SegmentParts → ℕ → SegmentParts
segments_at ss instance = get_or ss instance (segment_parts [] [])

abbrev pub elements_of : HeldParts → ℕ → ℕ → Option (List RawRef)
elements_of held instance k = slice_get (segments_at held.segments instance).elements k

abbrev pub data_of : HeldParts → ℕ → ℕ → Option (List ℕ)
data_of held instance k = slice_get (segments_at held.segments instance).datas k

-- what is held, with an empty segment in the place of one
abbrev pub without_elements : HeldParts → ℕ → ℕ → HeldParts
without_elements held instance k =
    let s = segments_at held.segments instance in
    record held { segments = set held.segments instance (segment_parts (set s.elements k []) s.datas) }

abbrev pub without_data : HeldParts → ℕ → ℕ → HeldParts
without_data held instance k =
    let s = segments_at held.segments instance in
    record held { segments = set held.segments instance (segment_parts s.elements (set s.datas k [])) }
