-- Stores, functions and calls for the worked examples.
use Rattle.std.proofs.Common.{ℕ, suc, [], ◌∷◌, Some, None, arith}
use Rattle.std.specs.Prelude.{ℤ, List, true, false, Option, Ok, Err, map, pos}
use Rattle.wasm_types.specs.FunctionParts.{ref_type}
use Rattle.wasm_types.specs.GlobalTypes.{global_parts}
use Rattle.wasm_types.specs.Memories.{Memory, memory}
use Rattle.wasm_types.specs.MemoryTypes.{memory_parts}
use Rattle.wasm_types.specs.Signatures.{Signature}
use Rattle.wasm_types.specs.Signatures as sig
use Rattle.wasm_types.specs.TableTypes.{table_parts}
use Rattle.wasm_types.specs.declared.plain.Finality.TheVariants.{Final, NonFinal}
use Rattle.wasm_types.specs.declared.plain.Mutability.TheVariants.{Var}
use Rattle.wasm_types.specs.declared.value_types.HeapType.TheVariants as h
use Rattle.wasm_types.specs.declared.value_types.ValType.TheVariants as t
use Rattle.wasm_syntax.specs.declared.declarations.Block.{Block}
use Rattle.wasm_syntax.specs.declared.declarations.FuncDecl.{FuncDecl}
use Rattle.wasm_syntax.specs.declared.declarations.ModuleDecl.{ModuleDecl}
use Rattle.wasm_syntax.specs.declared.instr.Instr.{Instr}
use Rattle.wasm_values.specs.declared.externals.Extern.{Extern}
use Rattle.wasm_values.specs.declared.refusals.Refusal.TheVariants.{FuelNotConfigured}
use Rattle.wasm_values.specs.declared.store_id.StoreId.{StoreId}
use Rattle.wasm_values.specs.declared.values.Val.{Val}
use Rattle.wasm_objects.specs.Globals.{Global, global}
use Rattle.wasm_objects.specs.Tables.{Table, table}
use Rattle.wasm_objects.specs.declared.raw.RawRef.{RawRef}
use Rattle.wasm_objects.specs.declared.raw.RawVal.{RawVal}
use Rattle.wasm_objects.specs.declared.raw.RawVal.TheVariants as w
use Rattle.spec_machine.specs.Machine.{EngineParts, Machine, guest, host, InstanceParts, new_machine}
use Rattle.spec_machine.specs.declared.reply.Reply.{Reply}
use Rattle.spec_execution.specs.Askings.{Question, Answer, Asking, Caller, View, Stepped}
use Rattle.spec_execution.specs.Bodies.{exec}
use Rattle.spec_execution.specs.Entering.{entry}
use Rattle.spec_execution.specs.Instantiation.{instantiate}
use Rattle.spec_execution.specs.Outcomes as outcomes
use Rattle.spec_execution.specs.Outcomes.{World, Outcome, Values, Branch, Return, Over, End}
use Rattle.spec_execution.specs.declared.answer.Answer.{Answer as Say}

-- ---- types of engine 1: () -> (), () -> i32, i32 -> i32, (i32, i32) -> i32, i32 -> ()

abbrev pub quiet : Signature
quiet = sig.signature 1 Final sig.root sig.end sig.end

abbrev pub answer : Signature
answer = sig.signature 1 NonFinal sig.root sig.end (sig.number sig.i32 sig.end)

abbrev pub change : Signature
change = sig.signature 1 Final sig.root (sig.number sig.i32 sig.end) (sig.number sig.i32 sig.end)

abbrev pub join : Signature
join = sig.signature 1 Final sig.root (sig.number sig.i32 (sig.number sig.i32 sig.end)) (sig.number sig.i32 sig.end)

abbrev pub take : Signature
take = sig.signature 1 Final sig.root (sig.number sig.i32 sig.end) sig.end

-- and one below () -> i32
abbrev pub answer_below : Signature
answer_below = sig.signature 1 Final (sig.below answer) sig.end (sig.number sig.i32 sig.end)

abbrev pub types : List Signature
types = quiet ∷ answer ∷ change ∷ join ∷ take ∷ answer_below ∷ []

-- ---- functions

abbrev pub block : ℕ → List Instr → Block
block ty is = record { ty = ty; instrs = is }

-- a function of this type with these blocks and target lists
abbrev pub branching : ℕ → List (List ℕ) → List Block → FuncDecl
branching ty targets blocks = record { ty = ty; locals = []; blocks = blocks; targets = targets }

abbrev pub function : ℕ → List Block → FuncDecl
function ty blocks = branching ty [] blocks

-- and one without inner blocks
abbrev pub straight : ℕ → List Instr → FuncDecl
straight ty is = function ty (block ty is ∷ [])

-- ---- stores

-- a store of the id of this number
abbrev pub id : StoreId
id = record { raw = record { value = 1; ok = omega arith }; within = omega arith }

abbrev pub engine : EngineParts
engine = record { number = 1; consumes_fuel = false; reads_epochs = false; frames = 1024; turns = 1000 }

abbrev pub decl : List FuncDecl → ModuleDecl
decl fs = record {
  engine = record { 0 = 1 };
  number = 0;
  types = types;
  imports = [];
  functions = fs;
  tables = [];
  memories = [];
  globals = [];
  tags = [];
  exports = [];
  elements = [];
  datas = [];
  start = None;
}

-- the numbers of so many items from this one on
abbrev pub places : {A : Type 0} → ℕ → List A → List ℕ
places n [] = []
places n (x ∷ xs) = n ∷ places (suc n) xs

abbrev pub instance : List FuncDecl → InstanceParts
instance fs = record {
  decl = decl fs;
  functions = places 0 fs;
  tables = [];
  memories = [];
  globals = [];
  tags = [];
  elements = [];
  datas = [];
}

-- a store with one instance of a module with these functions
abbrev pub store : List FuncDecl → Machine
store fs =
    record (new_machine id engine) { functions = map (guest 0) (places 0 fs); instances = instance fs ∷ [] }

-- with all its instances changed so
abbrev pub in_each : (InstanceParts → InstanceParts) → Machine → Machine
in_each change m = record m { instances = map change m.instances }

-- with a memory of at most so many pages of one byte, which has these bytes
abbrev pub pages : ℕ → List ℕ → Memory
pages most bytes = memory (memory_parts 1 (Some most) 0) bytes

abbrev pub with_memory : ℕ → List ℕ → Machine → Machine
with_memory most bytes m =
    in_each (λ i. record i { memories = 0 ∷ [] }) (record m { memories = pages most bytes ∷ [] })

-- with a table of functions
abbrev pub with_table : List RawRef → Machine → Machine
with_table elements m =
    in_each (λ i. record i { tables = 0 ∷ [] })
    (record m { tables = table (table_parts (ref_type true h.Func) 1 None) elements ∷ [] })

-- with a variable global of zero
abbrev pub with_global : Machine → Machine
with_global m =
    in_each (λ i. record i { globals = 0 ∷ [] })
    (record m { globals = global (global_parts t.I32 Var) (w.I32 (pos 0)) ∷ [] })

-- with segments
abbrev pub with_elements : List RawRef → Machine → Machine
with_elements refs m = in_each (λ i. record i { elements = refs ∷ [] }) m

abbrev pub with_data : List ℕ → Machine → Machine
with_data bytes m = in_each (λ i. record i { datas = bytes ∷ [] }) m

-- with another engine
abbrev pub with_frames : ℕ → Machine → Machine
with_frames frames m = record m { engine = record engine { frames = frames } }

abbrev pub with_fuel : ℤ → Machine → Machine
with_fuel fuel m = record m { engine = record engine { consumes_fuel = true }; fuel = fuel }

abbrev pub with_epochs : ℕ → Machine → Machine
with_epochs deadline m = record m { engine = record engine { reads_epochs = true }; deadline = deadline }

-- and with a host function in front of the functions of the instance, under index 0 of each instance
abbrev pub with_host : Signature → List Extern → Machine → Machine
with_host ty stored m =
    in_each (λ i. record i { functions = 0 ∷ map suc i.functions })
    (record m { functions = host ty 0 stored ∷ m.functions })

-- ---- calls and instantiations from outside, and what they leave

abbrev pub i32 : ℕ → RawVal
i32 n = w.I32 (pos n)

abbrev pub i64 : ℕ → RawVal
i64 n = w.I64 (pos n)

-- a store, with so many turns and these answers
abbrev pub world : Machine → ℕ → List Answer → World
world m turns answers = outcomes.world m turns [] answers

abbrev pub call : Machine → ℕ → List Answer → ℕ → List RawVal → Outcome
call m turns answers f args = entry exec 0 f args None (world m turns answers)

abbrev pub instantiated : Machine → ℕ → List Answer → ModuleDecl → List Extern → Outcome
instantiated m turns answers d imports = instantiate exec 0 (world m turns answers) d imports

-- the values, or why it ended
pub data Ending : Type 0 where
  Gives : List RawVal → Ending
  Ends : End → Ending
  Leaves : Ending

abbrev pub ending : Outcome → Ending
ending (Values s) = Gives s.operands
ending (Over e v) = Ends e
ending _ = Leaves

abbrev pub left : Outcome → World
left (Values s) = s.world
left (Branch l s) = s.world
left (Return s) = s.world
left (Over e v) = v

-- the questions that were asked
abbrev pub questions_in : List Asking → List Question
questions_in heard = map (λ (asking : Asking). asking.0) heard

abbrev pub asked : Outcome → List Question
asked o = questions_in (left o).heard

-- what is in each memory, table and global
abbrev pub bytes_left : Outcome → List (List ℕ)
bytes_left o = map (λ (m : Memory). m.bytes) (left o).machine.memories

abbrev pub elements_left : Outcome → List (List RawRef)
elements_left o = map (λ (x : Table). x.elements) (left o).machine.tables

abbrev pub globals_left : Outcome → List RawVal
globals_left o = map (λ (g : Global). g.value) (left o).machine.globals

-- ---- hosts

-- an answer of a step, with the body's new state
abbrev pub says : ℕ → Say → Answer
says after what = Stepped after (Ok what)

-- what a step sees of a call with these arguments and replies, of a function with these stored objects
abbrev pub seen : List Val → List Extern → List Reply → Option Caller → View
seen arguments stored replies caller = record {
  arguments = arguments;
  stored = stored;
  replies = replies;
  caller = caller;
  engine = engine;
  fuel = Err FuelNotConfigured;
}
