-- What a store holds.
-- WebAssembly core specification, "Execution, runtime structure, store"; the id, the engine, fuel, deadline, counts, limits
-- and flags are this project's own, as the wasmtime crate has them.
use Rattle.std.specs.Prelude.{ℕ, suc, ℤ, pos, negsuc, Bool, false, ◌+◌, ◌^◌, ◌&&◌, nat_le, List, []}
use Rattle.wasm_types.specs.Memories.{Memory}
use Rattle.wasm_types.specs.Signatures.{Signature}
use Rattle.wasm_syntax.specs.declared.declarations.ModuleDecl.{ModuleDecl}
pub use Rattle.wasm_meter.specs.Counts.{Numbers, numbers}
use Rattle.wasm_values.specs.declared.externals.Extern.{Extern}
use Rattle.wasm_values.specs.declared.store_id.StoreId.{StoreId}
use Rattle.wasm_objects.specs.Globals.{Global}
use Rattle.wasm_objects.specs.Tables.{Table}
use Rattle.wasm_objects.specs.declared.raw.RawRef.{RawRef}

-- the parts of an engine: its number, whether it consumes fuel and reads epochs, and how many frames and turns a command
-- may have
pub record EngineParts : Type 0 where
  pub number : ℕ
  pub consumes_fuel : Bool
  pub reads_epochs : Bool
  pub frames : ℕ
  pub turns : ℕ

-- the frames are 1 to 1,024, and the turns of a command 1 to 1,000,000,000
abbrev pub are_engine_limits : ℕ → ℕ → Bool
are_engine_limits frames turns = nat_le 1 frames && nat_le frames 1024 && nat_le 1 turns && nat_le turns 1000000000

-- a function: one of an instance, by the instance and its number among the functions that the module defines; or one of
-- the host, by its type, the number of its body and the objects that were stored with it
-- "Runtime structure, function instances"
pub data Function : Type 0 where
  guest : ℕ → ℕ → Function
  host : Signature → ℕ → List Extern → Function

-- an instance: its module; of each index space the numbers in the store; and its segments
-- "Runtime structure, module instances", "element instances", "data instances"
pub record InstanceParts : Type 0 where
  pub decl : ModuleDecl
  pub functions : List ℕ
  pub tables : List ℕ
  pub memories : List ℕ
  pub globals : List ℕ
  pub tags : List ℕ
  pub elements : List (List RawRef)
  pub datas : List (List ℕ)

-- the store: all objects in the order in which they were made; the fuel, which is below zero where more was consumed than
-- there was; the deadline; how much was made by instantiation, and the most of it; and whether a limiter, a hook and a
-- deadline behaviour are asked
pub record Machine : Type 0 where
  pub id : StoreId
  pub engine : EngineParts
  pub memories : List Memory
  pub tables : List Table
  pub globals : List Global
  pub tags : List Signature
  pub functions : List Function
  pub instances : List InstanceParts
  pub fuel : ℤ
  pub deadline : ℕ
  pub counts : Numbers
  pub limits : Numbers
  pub is_limited : Bool
  pub is_hooked : Bool
  pub is_behaving : Bool

-- how much more fuel was consumed than there was
abbrev pub debt : ℤ → ℕ
debt (pos n) = 0
debt (negsuc n) = suc n

-- as much as is ever owed: nothing is charged before a check found fuel in it; behind that a bulk form takes at most 2^32,
-- and each other charge is one unit in a turn of its own, of which a command has at most 10^9
abbrev pub most_debt : ℕ
most_debt = 2 ^ 32 + 1000000000

-- a store without objects
abbrev pub new_machine : StoreId → EngineParts → Machine
new_machine id engine = record {
  id = id;
  engine = engine;
  memories = [];
  tables = [];
  globals = [];
  tags = [];
  functions = [];
  instances = [];
  fuel = pos 0;
  deadline = 0;
  counts = numbers 0 0 0;
  limits = numbers 10000 10000 10000;
  is_limited = false;
  is_hooked = false;
  is_behaving = false;
}
