-- The types, the blocks and the target lists that the code of a function adds to, as it is read. The numbers of blocks and
-- of target lists are this project's own: both in the order in which they begin.
use Rattle.std.specs.Prelude.{ℕ, List, [], ◌∷◌, ◌++◌, set}
use Rattle.wasm_types.specs.Signatures.{Signature}
use Rattle.wasm_syntax.specs.declared.declarations.Block.{Block}
use Rattle.wasm_syntax.specs.declared.instr.Instr.{Instr}
use Rattle.binary_code.specs.declared.code_parts.CodeParts.{CodeParts}

abbrev pub block : ℕ → List Instr → Block
block ty instrs = record { ty = ty; instrs = instrs }

-- with a place for a block of this type, whose number is how many there were; and with the block of this number whole
abbrev pub begun : ℕ → CodeParts → CodeParts
begun ty parts = record parts { blocks = parts.blocks ++ block ty [] ∷ [] }

abbrev pub ended : ℕ → ℕ → List Instr → CodeParts → CodeParts
ended number ty instrs parts = record parts { blocks = set parts.blocks number (block ty instrs) }

abbrev pub with_types : List Signature → CodeParts → CodeParts
with_types types parts = record parts { types = types }

-- with one more target list, whose number is how many there were
abbrev pub listed_in : List ℕ → CodeParts → CodeParts
listed_in targets parts = record parts { targets = parts.targets ++ targets ∷ [] }

abbrev pub no_parts : List Signature → CodeParts
no_parts types = record { types = types; blocks = []; targets = [] }
