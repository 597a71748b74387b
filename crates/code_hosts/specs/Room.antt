-- Which operations may end in want of memory: one that takes memory, and is not refused. This project's own.
use Rattle.std.specs.Prelude.{◌≡◌, Bool, true, false, Option, Some, None}
use Rattle.wasm_values.specs.declared.refusals.Refusal.{Refusal}
use Rattle.spec_machine.specs.Commands.{Row, Refuse, operation}
use Rattle.spec_machine.specs.Machine.{Machine}
use Rattle.spec_machine.specs.Names.{Scope}
use Rattle.spec_machine.specs.declared.operation.Op.{Op}
use Rattle.spec_machine.specs.declared.operation.Op.TheVariants.{MemoryNew, MemoryRead, MemoryWrite, MemorySize, MemoryGrow, TableNew, TableGet, TableSet, TableSize, TableGrow, TableCopy, TableFill, GlobalNew, GlobalGet, GlobalSet, TagNew, GetExport, GetFuel, SetFuel, YieldInterval, SetEpochDeadline, Call}
use Rattle.store_state.specs.Parts.{HeldParts}
use Rattle.code_leaps.specs.Leading.{Setting}

-- it makes or lengthens an object, replies with a list, or runs code
abbrev pub takes_memory : Op → Bool
takes_memory (MemoryNew ty) = true
takes_memory (MemoryRead memory at len) = true
takes_memory (MemoryWrite memory at bytes) = false
takes_memory (MemorySize memory) = false
takes_memory (MemoryGrow memory delta) = true
takes_memory (TableNew ty init) = true
takes_memory (TableGet table at) = true
takes_memory (TableSet table at value) = false
takes_memory (TableSize table) = false
takes_memory (TableGrow table delta value) = true
takes_memory (TableCopy dst dst_at src src_at len) = false
takes_memory (TableFill table at value len) = false
takes_memory (GlobalNew ty init) = true
takes_memory (GlobalGet global) = true
takes_memory (GlobalSet global value) = false
takes_memory (TagNew ty) = true
takes_memory (GetExport instance name) = false
takes_memory GetFuel = false
takes_memory (SetFuel fuel) = false
takes_memory (YieldInterval interval) = false
takes_memory (SetEpochDeadline ticks) = false
takes_memory (Call func args results) = true

-- the refusal that a row is, where it is one
abbrev pub refusal_of : Row → Option Refusal
refusal_of (Refuse why) = Some why
refusal_of row = None

-- it is not refused in any store of a call
abbrev pub IsNotRefused : Setting HeldParts → HeldParts → Scope → Op → Type 0
IsNotRefused g held scope op =
    (base : Machine) → g.is_base base → refusal_of (operation (g.put base held) scope op) ≡ None
