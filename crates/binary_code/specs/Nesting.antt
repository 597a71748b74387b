-- Code that is read without recursion: the lists of instructions that are open around the innermost one, how each form
-- changes them, and what is due of the outermost list where the code stands. This project's own.
use Rattle.std.specs.Prelude.{◌≡◌, ℕ, ◌≤◌, List, [], ◌∷◌, ◌++◌, length, take, Bool, true, false, Result, Ok, Err}
use Rattle.wasm_syntax.specs.declared.instr.Instr.{Instr}
use Rattle.wasm_syntax.specs.declared.instr.Instr.TheVariants as i
use Rattle.wasm_leb.specs.Places.{Place}
use Rattle.binary_types.specs.Reading.{Read, ◌>>=◌, then, done}
use Rattle.binary_types.specs.declared.faults.BinaryFault.{BinaryFault}
use Rattle.binary_types.specs.declared.faults.BinaryFault.TheVariants.{OutOfMemory}
use Rattle.binary_code.specs.BlockTypes.{block_type}
use Rattle.binary_code.specs.Code.{Code, code, Coder, at_end, code_by, code_to, labels, rest_behind, second, unless_else}
use Rattle.binary_code.specs.CodeParts.{begun, ended, listed_in, no_parts, with_types}
use Rattle.binary_code.specs.Instructions.{straight}
use Rattle.binary_code.specs.declared.code_parts.CodeParts.{CodeParts}
use Rattle.binary_code.specs.declared.context.CodeContext.{CodeContext}
use Rattle.binary_code.specs.declared.forms.Form.{Form}
use Rattle.binary_code.specs.declared.forms.Opener.{Opener}
use Rattle.binary_code.specs.declared.forms.Opener.TheVariants as opener
use Rattle.binary_code.specs.declared.forms.StraightForm.{StraightForm}
use Rattle.binary_code.specs.declared.nesting.Nesting.{Nesting}
use Rattle.binary_code.specs.declared.nesting.OpenList.{OpenList}
use Rattle.binary_code.specs.declared.nesting.Owner.{Owner}
use Rattle.binary_code.specs.declared.nesting.Owner.TheVariants as owner
use Rattle.wasm_types.specs.Signatures.{Signature}

-- at the beginning of a function's code
abbrev pub fresh : ℕ → List Signature → Nesting
fresh ty types = record { parts = begun ty (no_parts types); lists = []; instrs = [] }

-- with one more instruction in the innermost list
abbrev pub pushed : Instr → Nesting → Nesting
pushed instr s = record s { instrs = s.instrs ++ instr ∷ [] }

-- with a list of this type within the innermost one
abbrev pub open_list : Owner → ℕ → ℕ → List Instr → OpenList
open_list owner number ty before = record { owner = owner; number = number; ty = ty; before = before }

abbrev pub entered : Owner → ℕ → Nesting → Nesting
entered o ty s = record {
  parts = begun ty s.parts;
  lists = s.lists ++ open_list o (length s.parts.blocks) ty s.instrs ∷ [];
  instrs = [];
}

-- with the innermost list whole: its block is, and its instruction stands in the list around it. An if that has no second
-- list gets an empty block there
abbrev pub whole_parts : OpenList → Nesting → CodeParts
whole_parts l s = ended l.number l.ty s.instrs s.parts

abbrev pub left_parts : Owner → ℕ → CodeParts → CodeParts
left_parts owner.Block ty parts = parts
left_parts owner.Loop ty parts = parts
left_parts owner.First ty parts = begun ty parts
left_parts (owner.Second first) ty parts = parts

abbrev pub left_instr : Owner → ℕ → CodeParts → Instr
left_instr owner.Block number parts = i.Block number
left_instr owner.Loop number parts = i.Loop number
left_instr owner.First number parts = i.If number (length parts.blocks)
left_instr (owner.Second first) number parts = i.If first number

abbrev pub left_list : OpenList → Nesting → Nesting
left_list l s = record s {
  parts = left_parts l.owner l.ty (whole_parts l s);
  instrs = l.before ++ left_instr l.owner l.number (whole_parts l s) ∷ [];
}

-- with the first list of an if whole, and the second one begun
abbrev pub switched : OpenList → Nesting → Nesting
switched l s = record {
  parts = begun l.ty (whole_parts l s);
  lists = s.lists ++ open_list (owner.Second l.number) (length (whole_parts l s).blocks) l.ty l.before ∷ [];
  instrs = [];
}

-- what the code answers that leaves lists open, where the definition says what is due; want of memory is free
abbrev pub Leaves : {A : Type 0} → Result (Nesting × Place) BinaryFault → Result A BinaryFault → Nesting → Place → Type 0
Leaves due (Ok _) s p = due ≡ Ok (s, p)
Leaves due (Err OutOfMemory) s p = Unit {0}
Leaves due (Err fault) s p = due ≡ Err fault

-- a straight instruction, a branch table, and the beginning of a block
abbrev pub with_straight : CodeContext → StraightForm → Nesting → Read Nesting
with_straight c f s = do
  instr ← straight (take c.declared s.parts.types) c.counted f
  done (pushed instr s)

abbrev pub with_table : Nesting → Read Nesting
with_table s = do
  targets ← labels
  done (pushed (i.BrTable (length s.parts.targets)) (record s { parts = listed_in targets s.parts }))

abbrev pub owner_of : Opener → Owner
owner_of opener.Block = owner.Block
owner_of opener.Loop = owner.Loop
owner_of opener.If = owner.First

abbrev pub with_block : CodeContext → Opener → Nesting → Read Nesting
with_block c o s = do
  ty ← block_type c s.parts.types
  done (entered (owner_of o) ty.0 (record s { parts = with_types ty.1 s.parts }))

-- what is due of a list of which these instructions are read
abbrev pub Outcome : Type 0
Outcome = Result (Code × Place) BinaryFault

abbrev pub ahead : List Instr → Code → Code
ahead instrs rest = record rest { instrs = instrs ++ rest.instrs }

abbrev pub led : List Instr → Outcome → Outcome
led instrs due = then due (λ rest. done (ahead instrs rest))

-- what is due of a list by what is due of the one within it: what follows the end of that
abbrev pub closed : Coder → Owner → ℕ → ℕ → Code → Read Code
closed coder owner.Block number ty inner = do
  _ ← unless_else inner.stop
  rest_behind coder (i.Block number) (ended number ty inner.instrs inner.parts)
closed coder owner.Loop number ty inner = do
  _ ← unless_else inner.stop
  rest_behind coder (i.Loop number) (ended number ty inner.instrs inner.parts)
closed coder owner.First number ty inner = do
  whole ← second coder ty inner.stop (ended number ty inner.instrs inner.parts)
  rest_behind coder (i.If number (length inner.parts.blocks)) whole
closed coder (owner.Second first) number ty inner = do
  _ ← unless_else inner.stop
  rest_behind coder (i.If first number) (ended number ty inner.instrs inner.parts)

abbrev pub around : Coder → OpenList → Outcome → Outcome
around coder l inner = led l.before (then inner (closed coder l.owner l.number l.ty))

-- what is due of the outermost list by what is due of the innermost one, where each list may still have this many
-- instructions at least
abbrev pub Owes : CodeContext → ℕ → List OpenList → Outcome → Outcome → Type 0
Owes c m [] inner outer = outer ≡ inner
Owes c m (l ∷ ls) inner outer =
    (n : ℕ) × (m ≤ n) × (middle : Outcome) × Owes c m ls inner middle × (outer ≡ around (code_to n c) l middle)

pub record IsDue (c : CodeContext) (m : ℕ) (s : Nesting) (p : Place) (outer : Outcome) : Type 0 where
  pub most : ℕ
  pub enough : m ≤ most
  pub owes : Owes c m s.lists (led s.instrs (code_to most c s.parts p)) outer

-- the same, where the code of an instruction was read
pub record IsDueBy (c : CodeContext) (m : ℕ) (f : Form) (s : Nesting) (p : Place) (outer : Outcome) : Type 0 where
  pub most : ℕ
  pub enough : m ≤ most
  pub owes : Owes c m s.lists (led s.instrs (code_by c (code_to most c) f s.parts p)) outer

-- the outermost list ends, and no else stands in its place
abbrev pub whole : Outcome → Outcome
whole outer = then outer (λ c. unless_else c.stop >>= (λ _. done c))

-- what the code answers that goes on by one instruction: whether the outermost list is whole
abbrev pub Steps : CodeContext → ℕ → Outcome → Result Bool BinaryFault → Nesting → Place → Type 0
Steps c m outer (Ok false) s p = IsDue c m s p outer
Steps c m outer (Ok true) s p = outer ≡ Ok (code s.instrs at_end s.parts, p)
Steps c m outer (Err OutOfMemory) s p = Unit {0}
Steps c m outer (Err fault) s p = whole outer ≡ Err fault

-- an instruction that was read does not end the outermost list
abbrev pub not_whole : {A : Type 0} → Result A BinaryFault → Result Bool BinaryFault
not_whole (Ok _) = Ok false
not_whole (Err fault) = Err fault
