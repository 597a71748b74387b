-- A host function that was entered, and what a step of its body sees. This project's own, in place of the wasmtime
-- crate's closures.
use Rattle.std.specs.Prelude.{ℕ, List, [], ◌∷◌, ◌++◌, map, Option, None, Some, option_map, Result, Ok, Err, if◌then◌else◌, slice_get}
use Rattle.wasm_types.specs.declared.value_types.ValType.{ValType}
use Rattle.wasm_syntax.specs.declared.declarations.ExportDecl.{ExportDecl}
use Rattle.wasm_meter.specs.Fuel.{fuel_left}
use Rattle.wasm_values.specs.Handles.{instance_of}
use Rattle.wasm_values.specs.declared.externals.Extern.{Extern}
use Rattle.wasm_values.specs.declared.refusals.Refusal.{Refusal}
use Rattle.wasm_values.specs.declared.refusals.Refusal.TheVariants as refusal
use Rattle.wasm_values.specs.declared.values.Val.{Val}
use Rattle.spec_machine.specs.InstanceCalls.{object}
use Rattle.spec_machine.specs.Machine.{Machine, InstanceParts}
use Rattle.spec_machine.specs.Names.{Scope}
use Rattle.spec_machine.specs.declared.reply.Reply.{Reply}
use Rattle.spec_execution.specs.Askings.{View, Caller, Exported}

-- its body's number and state, the types of its results, its arguments, the objects stored with it, the replies to its
-- operations so far, the number of the instance whose code called it, where code did, and how many functions are open
-- around it
pub record Activation : Type 0 where
  pub body : ℕ
  pub state : ℕ
  pub results : List ValType
  pub arguments : List Val
  pub stored : List Extern
  pub replies : List Reply
  pub caller : Option ℕ
  pub depth : ℕ

-- ---- what a step sees

abbrev pub exported : Machine → InstanceParts → ExportDecl → Exported
exported m i e = record { name = e.name; entity = e.entity; object = object m i e.entity }

abbrev pub seen_caller : Machine → InstanceParts → Caller
seen_caller m i = record { number = i.decl.number; exports = map (exported m i) i.decl.exports }

-- the fuel that a host is told of: none where more was consumed than there was
abbrev pub told_fuel : Machine → Result ℕ Refusal
told_fuel m = if m.engine.consumes_fuel then Ok (fuel_left m.fuel) else Err refusal.FuelNotConfigured

abbrev pub caller_of : Machine → Option ℕ → Option Caller
caller_of m None = None
caller_of m (Some n) = option_map (seen_caller m) (slice_get m.instances n)

abbrev pub view : Machine → Activation → View
view m a = record {
  arguments = a.arguments;
  stored = a.stored;
  replies = a.replies;
  caller = caller_of m a.caller;
  engine = m.engine;
  fuel = told_fuel m;
}

-- ---- its operations

-- names are looked up in this activation
abbrev pub scope_of : Machine → Activation → Scope
scope_of m a = record {
  replies = a.replies;
  arguments = a.arguments;
  stored = a.stored;
  caller = option_map (instance_of m.id) a.caller;
}

-- with the reply to one
abbrev pub replied : Activation → Reply → Activation
replied a answer = record a { replies = a.replies ++ answer ∷ [] }
