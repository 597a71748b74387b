-- Code as JSON data: arrays of instructions, in which inner code stands in place. This project's own format.
use Rattle.std.specs.Prelude.{ℕ, zero, suc, List, [], ◌∷◌, ◌++◌, Option, Some, None}
use Rattle.serde_json.specs.Data.{Data, Items, no_items, item}
use Rattle.serde_json.specs.Find.{as_array}
use Rattle.script_json.specs.Fields.{◌>>=◌, list_of}
use Rattle.script_types.specs.Types.{whole_32}
use Rattle.wasm_syntax.specs.declared.instr.Instr.{Instr}
use Rattle.wasm_syntax.specs.declared.instr.Instr.TheVariants as i
use Rattle.script_modules.specs.CodeParts.{begun, ended, listed}
use Rattle.script_modules.specs.Immediates.{head, two_immediates, three_immediates}
use Rattle.script_modules.specs.InstrNames.{name_of}
use Rattle.script_modules.specs.Instructions.{straight_by}
use Rattle.script_modules.specs.declared.code_parts.CodeParts.{CodeParts}
use Rattle.script_modules.specs.declared.instr_names.InstrName.{InstrName}
use Rattle.script_modules.specs.declared.instr_names.InstrName.TheVariants.{Straight, Structured}
use Rattle.script_modules.specs.declared.instr_names.StructuredName.{StructuredName}
use Rattle.script_modules.specs.declared.instr_names.StructuredName.TheVariants as structured

-- the labels of a branch table: those of an array, and then the last one
abbrev pub target_list_of : Data → Data → Option (List ℕ)
target_list_of front last = do
  labels ← list_of whole_32 front
  label ← whole_32 last
  Some (labels ++ label ∷ [])

-- a branch table names its target list by the number
abbrev pub branch_table_of : Data → CodeParts → Option (Instr × CodeParts)
branch_table_of d parts = do
  both ← two_immediates d
  labels ← target_list_of both.0 both.1
  Some (i.BrTable (listed labels parts).0, (listed labels parts).1)

-- what gives the instructions of a list of code, and the parts with the blocks and target lists within
abbrev pub Coder : Type 0
Coder = Data → CodeParts → Option (List Instr × CodeParts)

-- a list of code as a block of this type: its number, and the parts. It is numbered before the blocks within
abbrev pub block_of : Coder → ℕ → Data → CodeParts → Option (ℕ × CodeParts)
block_of coder ty d parts =
    coder d (begun ty parts).1 >>= (λ inner. Some ((begun ty parts).0, ended (begun ty parts).0 ty inner.0 inner.1))

-- the immediates of a block or a loop: the number of a type, and the code
abbrev pub one_block_of : Coder → Data → CodeParts → Option (ℕ × CodeParts)
one_block_of coder d parts = do
  both ← two_immediates d
  ty ← whole_32 both.0
  block_of coder ty both.1 parts

-- those of an if: the number of a type, the code of the first block and that of the second
abbrev pub choice_of : Coder → Data → CodeParts → Option (Instr × CodeParts)
choice_of coder d parts = do
  all ← three_immediates d
  ty ← whole_32 all.0
  first ← block_of coder ty all.1 parts
  second ← block_of coder ty all.2 first.1
  Some (i.If first.0 second.0, second.1)

abbrev pub structured_by : Coder → Data → StructuredName → CodeParts → Option (Instr × CodeParts)
structured_by coder d structured.Block parts = one_block_of coder d parts >>= (λ b. Some (i.Block b.0, b.1))
structured_by coder d structured.Loop parts = one_block_of coder d parts >>= (λ b. Some (i.Loop b.0, b.1))
structured_by coder d structured.If parts = choice_of coder d parts
structured_by coder d structured.BrTable parts = branch_table_of d parts

abbrev pub instr_by : Coder → Data → InstrName → CodeParts → Option (Instr × CodeParts)
instr_by coder d (Straight name) parts = straight_by d name >>= (λ instr. Some (instr, parts))
instr_by coder d (Structured name) parts = structured_by coder d name parts

-- an instruction: the name at its head, and its immediates
abbrev pub instr_of : Coder → Data → CodeParts → Option (Instr × CodeParts)
instr_of coder d parts = do
  word ← head d
  name ← name_of word
  instr_by coder d name parts

abbrev pub instrs_of : Coder → Items → CodeParts → Option (List Instr × CodeParts)
instrs_of coder no_items parts = Some ([], parts)
instrs_of coder (item d ds) parts = do
  first ← instr_of coder d parts
  rest ← instrs_of coder ds first.1
  Some (first.0 ∷ rest.0, rest.1)

-- an array of instructions, in which inner code is given by the coder
abbrev pub list_by : Coder → Coder
list_by coder d parts = as_array d >>= (λ ds. instrs_of coder ds parts)

-- code that nests at most so deep
unfoldable pub code_to : ℕ → Coder
code_to zero d parts = None
code_to (suc n) d parts = list_by (code_to n) d parts

-- more than any code nests: arrays of JSON nest at most 127 deep, and so a greater number gives the same
abbrev pub deepest : ℕ
deepest = 128
