-- Code in the binary format: instructions, of which some hold lists of instructions in place.
-- WebAssembly core specification, "Binary Format, Instructions, Expressions". The numbers of blocks and target lists are
-- this project's own: both in the order in which they begin.
use Rattle.std.specs.Prelude.{ℕ, zero, suc, List, [], ◌∷◌, ◌++◌, length, take}
use Rattle.wasm_types.specs.Signatures.{Signature}
use Rattle.wasm_syntax.specs.declared.instr.Instr.{Instr}
use Rattle.wasm_syntax.specs.declared.instr.Instr.TheVariants as i
use Rattle.binary_types.specs.Reading.{Read, ◌>>=◌, done, fails, here, some_or, byte, u32, listed}
use Rattle.binary_types.specs.declared.faults.BinaryFault.TheVariants.{Malformed, Unsupported}
use Rattle.binary_code.specs.BlockTypes.{block_type}
use Rattle.binary_code.specs.CodeParts.{begun, ended, with_types, listed_in, no_parts}
use Rattle.binary_code.specs.InstrCodes.{form_of}
use Rattle.binary_code.specs.Instructions.{straight}
use Rattle.binary_code.specs.declared.code_parts.CodeParts.{CodeParts}
use Rattle.binary_code.specs.declared.context.CodeContext.{CodeContext}
use Rattle.binary_code.specs.declared.forms.Form.{Form}
use Rattle.binary_code.specs.declared.forms.Form.TheVariants as form
use Rattle.binary_code.specs.declared.forms.Opener.{Opener}
use Rattle.binary_code.specs.declared.forms.Opener.TheVariants as opener

-- how a list of instructions ends
pub data Stop : Type 0 where
  at_end : Stop
  at_else : Stop

-- a list of instructions, how it ends, and the parts behind it
pub record Code : Type 0 where
  pub instrs : List Instr
  pub stop : Stop
  pub parts : CodeParts

abbrev pub code : List Instr → Stop → CodeParts → Code
code instrs stop parts = record { instrs = instrs; stop = stop; parts = parts }

abbrev pub behind : Instr → Code → Code
behind instr c = record c { instrs = instr ∷ c.instrs }

-- the labels of a branch table: a list, and then the last one
abbrev pub labels : Read (List ℕ)
labels = do
  front ← listed u32
  last ← u32
  done (front ++ last ∷ [])

abbrev pub Coder : Type 0
Coder = CodeParts → Read Code

-- a block of this type, which ends as it may: its number is how many blocks there were
abbrev pub unless_else : Stop → Read Stop
unless_else at_end = done at_end
unless_else at_else = fails Malformed

abbrev pub rest_behind : Coder → Instr → CodeParts → Read Code
rest_behind coder instr parts = do
  rest ← coder parts
  done (behind instr rest)

-- the second list of an if, by how the first one ended: none is an empty block, which is numbered there
abbrev pub second : Coder → ℕ → Stop → CodeParts → Read CodeParts
second coder ty at_end parts = done (begun ty parts)
second coder ty at_else parts = do
  inner ← coder (begun ty parts)
  _ ← unless_else inner.stop
  done (ended (length parts.blocks) ty inner.instrs inner.parts)

abbrev pub opened : Coder → Opener → ℕ → CodeParts → Read Code
opened coder opener.Block ty parts = do
  inner ← coder (begun ty parts)
  _ ← unless_else inner.stop
  rest_behind coder (i.Block (length parts.blocks)) (ended (length parts.blocks) ty inner.instrs inner.parts)
opened coder opener.Loop ty parts = do
  inner ← coder (begun ty parts)
  _ ← unless_else inner.stop
  rest_behind coder (i.Loop (length parts.blocks)) (ended (length parts.blocks) ty inner.instrs inner.parts)
opened coder opener.If ty parts = do
  first ← coder (begun ty parts)
  whole ← second coder ty first.stop (ended (length parts.blocks) ty first.instrs first.parts)
  rest_behind coder (i.If (length parts.blocks) (length first.parts.blocks)) whole

-- what follows the code of an instruction, and the rest of its list
abbrev pub code_by : CodeContext → Coder → Form → CodeParts → Read Code
code_by c coder form.End parts = done (code [] at_end parts)
code_by c coder form.Else parts = done (code [] at_else parts)
code_by c coder (form.Opens o) parts = do
  ty ← block_type c parts.types
  opened coder o ty.0 (with_types ty.1 parts)
code_by c coder form.BrTable parts = do
  targets ← labels
  rest_behind coder (i.BrTable (length parts.targets)) (listed_in targets parts)
code_by c coder (form.Straight f) parts = do
  instr ← straight (take c.declared parts.types) c.counted f
  rest_behind coder instr parts

-- a list of instructions, of at most so many with those within
abbrev pub code_to : ℕ → CodeContext → Coder
code_to zero c parts = fails Malformed
code_to (suc n) c parts = do
  at ← here
  b ← byte
  f ← some_or (Unsupported at b) (form_of b)
  code_by c (code_to n c) f parts

-- as many as there are bytes left: each takes one
abbrev pub instructions : CodeContext → Coder
instructions c parts p = code_to (suc (length p.left)) c parts p

-- the code of a function of this type: block 0 is the outermost list
abbrev pub code_of : CodeContext → ℕ → List Signature → Read CodeParts
code_of c ty types = do
  inner ← instructions c (begun ty (no_parts types))
  _ ← unless_else inner.stop
  done (ended 0 ty inner.instrs inner.parts)
