-- What a run reads and never changes, and what it changes, apart from one another. This project's own: together
-- they are the objects of a store, WebAssembly core specification, "Execution, runtime structure, store".
use Rattle.std.specs.Prelude.{ℕ, ℤ, pos, List, []}
use Rattle.wasm_types.specs.Memories.{Memory}
use Rattle.wasm_types.specs.Signatures.{Signature}
use Rattle.wasm_syntax.specs.declared.declarations.ModuleDecl.{ModuleDecl}
use Rattle.wasm_objects.specs.Globals.{Global}
use Rattle.wasm_objects.specs.Tables.{Table}
use Rattle.wasm_objects.specs.declared.raw.RawRef.{RawRef}
use Rattle.spec_machine.specs.Machine.{Function, Numbers, numbers}

-- what an instance names: its module, and of each index space the numbers in the store
pub record Names : Type 0 where
  pub decl : ModuleDecl
  pub functions : List ℕ
  pub tables : List ℕ
  pub memories : List ℕ
  pub globals : List ℕ
  pub tags : List ℕ

abbrev pub names : ModuleDecl → List ℕ → List ℕ → List ℕ → List ℕ → List ℕ → Names
names decl functions tables memories globals tags = record {
  decl = decl;
  functions = functions;
  tables = tables;
  memories = memories;
  globals = globals;
  tags = tags;
}

-- the segments of an instance
pub record SegmentParts : Type 0 where
  pub elements : List (List RawRef)
  pub datas : List (List ℕ)

abbrev pub segment_parts : List (List RawRef) → List (List ℕ) → SegmentParts
segment_parts elements datas = record { elements = elements; datas = datas }

-- what a run reads and never changes
pub record ProgramParts : Type 0 where
  pub functions : List Function
  pub instances : List Names

abbrev pub program_parts : List Function → List Names → ProgramParts
program_parts functions instances = record { functions = functions; instances = instances }

-- what a run changes: objects, of which the segments are those of the instances, in order; the fuel, which is below zero
-- where more was consumed than there was; the deadline; and how much was made by instantiation, and the most of it
pub record HeldParts : Type 0 where
  pub memories : List Memory
  pub tables : List Table
  pub globals : List Global
  pub tags : List Signature
  pub segments : List SegmentParts
  pub fuel : ℤ
  pub deadline : ℕ
  pub counts : Numbers
  pub limits : Numbers

abbrev pub held_parts : List Memory → List Table → List Global → List Signature → List SegmentParts → ℤ → ℕ →
    Numbers → Numbers → HeldParts
held_parts memories tables globals tags segments fuel deadline counts limits = record {
  memories = memories;
  tables = tables;
  globals = globals;
  tags = tags;
  segments = segments;
  fuel = fuel;
  deadline = deadline;
  counts = counts;
  limits = limits;
}

-- no objects, no fuel, and what a store has by itself of the rest
abbrev pub held_nothing : HeldParts
held_nothing = held_parts [] [] [] [] [] (pos 0) 0 (numbers 0 0 0) (numbers 10000 10000 10000)
