-- Modules in bytes: what the bytes of a module in the binary format come to. This project's own.
use Rattle.std.specs.Prelude.{ℕ, List, Option, Some, None, Result, Ok, Err}
use Rattle.binary_types.specs.declared.faults.BinaryFault.{BinaryFault}
use Rattle.wasm_binary.specs.Modules.{module_of}
use Rattle.wasm_types.specs.declared.plain.EngineId.{EngineId}
use Rattle.wasm_syntax.specs.FirstBroken.{first_broken}
use Rattle.wasm_syntax.specs.declared.declarations.ModuleDecl.{ModuleDecl}
use Rattle.wasm_syntax.specs.declared.module_fault.Place.{Place}
use Rattle.wasm_syntax.specs.declared.module_fault.Rule.{Rule}
use Rattle.wasm_embedding.specs.HostFaults.{of_bytes}
use Rattle.wasm_embedding.specs.declared.faults.Fault.{Fault}
use Rattle.wasm_embedding.specs.declared.faults.Fault.TheVariants as fault

-- a declaration is a module where it breaks no rule; else the first rule that it breaks, and where it is broken first
abbrev pub unless_broken : ModuleDecl → Option (Rule × Place) → Result ModuleDecl Fault
unless_broken decl None = Ok decl
unless_broken decl (Some broken) = Err (fault.Invalid broken.0 broken.1)

abbrev pub valid : ModuleDecl → Result ModuleDecl Fault
valid decl = unless_broken decl (first_broken decl)

-- the module that was read, or the first fault of the bytes
abbrev pub of_read : Result ModuleDecl BinaryFault → Result ModuleDecl Fault
of_read (Ok decl) = valid decl
of_read (Err why) = Err (of_bytes why)

-- what bytes come to, as a module of this engine and with this number
abbrev pub module_in_bytes : EngineId → ℕ → List ℕ → Result ModuleDecl Fault
module_in_bytes engine number bytes = of_read (module_of engine number bytes)
