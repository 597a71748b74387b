-- Stores for the worked examples: a victim, whose function writes into its memory, and what may lead there; and when a set
-- is too small for what was changed.
use Rattle.std.proofs.Common.{◌≡◌, ℕ, false, List, [], ◌∷◌, Some, None, ap, arith}
use Rattle.std.specs.Prelude.{nat_eq, pos, slice_get, true, Ok}
use Rattle.std.proofs.lemmas.Bool.{both_ways, eq-eqb}
use Rattle.wasm_types.specs.FunctionParts.{ref_type}
use Rattle.wasm_types.specs.Memories.{Memory, memory}
use Rattle.wasm_types.specs.MemoryTypes.{memory_parts}
use Rattle.wasm_types.specs.Signatures.{Signature}
use Rattle.wasm_types.specs.Signatures as sig
use Rattle.wasm_types.specs.TableTypes.{table_parts}
use Rattle.wasm_types.specs.declared.plain.Finality.TheVariants.{Final}
use Rattle.wasm_types.specs.declared.value_types.HeapType.TheVariants as h
use Rattle.wasm_syntax.specs.declared.accesses.StoreOp.TheVariants as s
use Rattle.wasm_syntax.specs.declared.declarations.FuncDecl.{FuncDecl}
use Rattle.wasm_syntax.specs.declared.declarations.ModuleDecl.{ModuleDecl}
use Rattle.wasm_syntax.specs.declared.instr.Instr.{Instr}
use Rattle.wasm_syntax.specs.declared.instr.Instr.TheVariants as i
use Rattle.wasm_values.specs.declared.store_id.StoreId.{StoreId}
use Rattle.wasm_objects.specs.Tables.{table}
use Rattle.wasm_objects.specs.declared.raw.RawRef.{RawRef}
use Rattle.spec_machine.specs.Machine.{EngineParts, Machine, guest, InstanceParts, new_machine}
use Rattle.spec_execution.specs.Askings.{Answer, Stepped}
use Rattle.spec_execution.specs.Operands as on
use Rattle.spec_execution.specs.Outcomes.{World, world}
use Rattle.spec_execution.specs.declared.answer.Answer.{Answer as Say}
use Rattle.spec_reach.specs.Nodes.{Node, has}
use Rattle.spec_reach.specs.Nodes as node
use Rattle.spec_reach.specs.Outside.{SameOutside}

-- ---- types () -> () and () -> funcref

abbrev pub quiet : Signature
quiet = sig.signature 1 Final sig.root sig.end sig.end

abbrev pub giving : Signature
giving = sig.signature 1 Final sig.root sig.end (sig.ref true (sig.abstract sig.func) sig.end)

-- ---- functions and instances

abbrev pub id : StoreId
id = record { raw = record { value = 1; ok = omega arith }; within = omega arith }

abbrev pub engine : EngineParts
engine = record { number = 1; consumes_fuel = false; reads_epochs = false; frames = 1024; turns = 1000 }

-- of type () -> ()
abbrev pub doing : List Instr → FuncDecl
doing is = record { ty = 0; locals = []; blocks = record { ty = 0; instrs = is } ∷ []; targets = [] }

abbrev pub decl : List FuncDecl → ModuleDecl
decl fs = record {
  engine = record { 0 = 1 };
  number = 0;
  types = quiet ∷ giving ∷ [];
  imports = [];
  functions = fs;
  tables = [];
  memories = [];
  globals = [];
  tags = [];
  exports = [];
  elements = [];
  datas = [];
  start = None;
}

-- an instance with one function of its own, these functions and these memories
abbrev pub instance : FuncDecl → List ℕ → List ℕ → InstanceParts
instance f functions memories = record {
  decl = decl (f ∷ []);
  functions = functions;
  tables = [];
  memories = memories;
  globals = [];
  tags = [];
  elements = [];
  datas = [];
}

-- 255 is written to byte 0, and then this is done
abbrev pub writing : List Instr → FuncDecl
writing is = doing (i.Const32 (pos 0) ∷ i.Const32 (pos 255) ∷ i.Store s.I32Store8 0 0 ∷ is)

-- this is done, and then element 0 of table 0 is called
abbrev pub calling : List Instr → List Instr
calling [] = i.Const32 (pos 0) ∷ i.CallIndirect 0 0 ∷ []
calling (j ∷ is) = j ∷ calling is

-- the victim: instance 0, with its function 0, which does nothing behind its write, and its memory 0
abbrev pub victim : InstanceParts
victim = instance (writing (i.Nop ∷ [])) (0 ∷ []) (0 ∷ [])

-- a memory of one page of one byte, and of at most three
abbrev pub byte : Memory
byte = memory (memory_parts 1 (Some 3) 0) (0 ∷ [])

-- a store with the victim, and beside it an instance with this function and a memory of its own, whose table has these
-- elements
abbrev pub store : List Instr → List RawRef → Machine
store is elements = record (new_machine id engine) {
  memories = byte ∷ byte ∷ [];
  tables = table (table_parts (ref_type true h.Func) 1 None) elements ∷ [];
  functions = guest 0 0 ∷ guest 1 0 ∷ [];
  instances = victim ∷ record (instance (doing (calling is)) (1 ∷ []) (1 ∷ [])) { tables = 0 ∷ [] } ∷ [];
}

-- with more of the second instance
abbrev pub with_second : (InstanceParts → InstanceParts) → Machine → Machine
with_second change m = record m { instances = changed m.instances }
  where
    changed : List InstanceParts → List InstanceParts
    changed (a ∷ b ∷ more) = a ∷ change b ∷ more
    changed is = is

-- ---- a set that is too small

abbrev pub bytes_at : Machine → ℕ → List ℕ
bytes_at m n = on.found [] (slice_get m.memories n) (λ (x : Memory). x.bytes)

abbrev pub first : List ℕ → ℕ
first [] = 0
first (b ∷ bytes) = b

-- a memory that is not in it is another afterwards, by its first byte or its length
pub too_small :
    (set : List Node) (m after : Machine) (n : ℕ) (x : Memory) (measure : List ℕ → ℕ) → has set (node.memory n) ≡ false
    → slice_get m.memories n ≡ Some x → nat_eq (measure (bytes_at after n)) (measure x.bytes) ≡ false
    → SameOutside set m after → ⊥
too_small set m after n x measure out there differs same =
    let e : bytes_at after n ≡ x.bytes =
    ap (λ o. on.found [] o (λ (y : Memory). y.bytes)) (same.memories n x out there) in
    both_ways (nat_eq (measure (bytes_at after n)) (measure x.bytes)) differs
    (eq-eqb (measure (bytes_at after n)) (measure x.bytes) (ap measure e))

-- ---- answers

abbrev pub says : Say → Answer
says what = Stepped 0 (Ok what)

abbrev pub begun : Machine → ℕ → List Answer → World
begun m turns answers = world m turns [] answers
