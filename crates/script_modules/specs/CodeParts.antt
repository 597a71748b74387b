-- The blocks and the target lists of a function, as they are read: both are numbered in the order in which they begin.
-- This project's own; the core specification writes inner code and target lists in place.
use Rattle.std.specs.Prelude.{◌≡◌, ℕ, List, [], ◌∷◌, ◌++◌, length, set, Option, Some, None, Result, Ok, Err}
use Rattle.script_json.specs.declared.faults.ScriptFault.{ScriptFault}
use Rattle.script_json.specs.declared.faults.ScriptFault.TheVariants.{NotScript, OutOfMemory}
use Rattle.wasm_syntax.specs.declared.declarations.Block.{Block}
use Rattle.wasm_syntax.specs.declared.instr.Instr.{Instr}
use Rattle.script_modules.specs.declared.code_parts.CodeParts.{CodeParts}

-- what a reader answers that also leaves parts, where the definition gives o; want of memory is free
abbrev pub ReadsIn : {T : Type 0} → Option (T × CodeParts) → Result T ScriptFault → CodeParts → Type 0
ReadsIn o (Ok t) left = o ≡ Some (t, left)
ReadsIn o (Err NotScript) left = o ≡ None
ReadsIn o (Err OutOfMemory) left = Unit {0}

abbrev pub block : ℕ → List Instr → Block
block ty instrs = record { ty = ty; instrs = instrs }

-- with a place for a block of this type: its number, and the parts
abbrev pub begun : ℕ → CodeParts → ℕ × CodeParts
begun ty parts = (length parts.blocks, record parts { blocks = parts.blocks ++ block ty [] ∷ [] })

-- with the block of this number and type whole
abbrev pub ended : ℕ → ℕ → List Instr → CodeParts → CodeParts
ended number ty instrs parts = record parts { blocks = set parts.blocks number (block ty instrs) }

-- with one more target list: its number, and the parts
abbrev pub listed : List ℕ → CodeParts → ℕ × CodeParts
listed labels parts = (length parts.targets, record parts { targets = parts.targets ++ labels ∷ [] })
