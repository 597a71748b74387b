-- Code: instructions, of which some hold lists of instructions in place, and the end.
-- WebAssembly core specification, "Binary Format, Instructions, Control Instructions, Expressions". A block type alone means
-- the first type of a list that gives its results, which is lengthened where it has none; blocks and target lists are numbered
-- in the order in which they begin: both are this project's own.
use Rattle.std.specs.Prelude.{◌≡◌, ◌≢◌, ℕ, ◌+◌, List, [], ◌∷◌, ◌++◌, length, take, true, false, Option, Some, None, option_map, position, nat_eq, if◌then◌else◌}
use Rattle.wasm_types.specs.Signatures.{Signature}
use Rattle.wasm_types.specs.FunctionParts.{from_parts}
use Rattle.wasm_types.specs.FunctionRules as rules
use Rattle.wasm_types.specs.declared.faults.TypeFault.{TypeFault}
use Rattle.wasm_types.specs.declared.value_types.ValType.{ValType}
use Rattle.wasm_syntax.specs.declared.declarations.Block.{Block}
use Rattle.wasm_syntax.specs.declared.instr.Instr.{Instr}
use Rattle.wasm_syntax.specs.declared.instr.Instr.TheVariants as i
use Rattle.binary_types.specs.Types.{is_code}
use Rattle.binary_types.specs.declared.faults.BinaryFault.{BinaryFault}
use Rattle.binary_code.specs.BlockTypes as codes
use Rattle.binary_code.specs.BlockTypes.{block_parts}
use Rattle.binary_code.specs.CodeParts.{block, no_parts}
use Rattle.binary_code.specs.declared.context.CodeContext.{CodeContext}
use Rattle.law_binary.specs.Formats.{Format, Rows, ◌>>=◌, gives, byte, u32, vector, unless_refused, by_code, by_first}
use Rattle.law_binary.specs.Instructions.{alone, straights}
use Rattle.law_binary.specs.Types.{TypeOf, signed_index, value_code, value_to}

-- the results that a block type names: none, or one
abbrev pub one_result : ValType → List ValType
one_result t = t ∷ []

abbrev pub results_code : ℕ → Option (List ValType)
results_code code = if nat_eq code 0x40 then Some [] else option_map one_result (value_code code)

abbrev pub reference_results : List Signature → Rows (List ValType)
reference_results types =
    (0x63, (do t ← value_to true types; gives (one_result t))) ∷ (0x64, (do t ← value_to false types; gives (one_result t))) ∷ []

abbrev pub results : List Signature → Format (List ValType)
results types = by_code byte results_code (reference_results types)

-- where no type gives these results, that of a block of them is to break no rule
abbrev pub rule_by : CodeContext → List ValType → Option ℕ → Option TypeFault
rule_by c rs (Some n) = None
rule_by c rs None = rules.fault (block_parts c rs)

abbrev pub block_rule : CodeContext → List Signature → List ValType → Option TypeFault
block_rule c types rs = rule_by c rs (position (codes.gives rs) types)

-- the number of the first type that gives these results, and the types; or those with one more
abbrev pub numbered_by : CodeContext → List Signature → List ValType → Option ℕ → ℕ × List Signature
numbered_by c types rs (Some n) = (n, types)
numbered_by c types rs None = (length types, types ++ from_parts (block_parts c rs) ∷ [])

abbrev pub numbered : CodeContext → List Signature → List ValType → ℕ × List Signature
numbered c types rs = numbered_by c types rs (position (codes.gives rs) types)

-- the types of the type section
abbrev pub declared : CodeContext → List Signature → List Signature
declared c types = take c.declared types

-- a block type: results, or the number of a type; with the types behind it
abbrev pub block_type_by_results : CodeContext → List Signature → Format (ℕ × List Signature)
block_type_by_results c types = do
  rs ← unless_refused (results (declared c types)) (block_rule c types)
  gives (numbered c types rs)

abbrev pub block_type_by_index : CodeContext → List Signature → Format (ℕ × List Signature)
block_type_by_index c types = do
  n ← signed_index (declared c types)
  gives (n, types)

abbrev pub block_type : CodeContext → List Signature → Format (ℕ × List Signature)
block_type c types = by_first is_code (block_type_by_results c types) (block_type_by_index c types)

-- the labels of a branch table: a list, and then the last one
abbrev pub labels : Format (List ℕ)
labels = do
  front ← vector u32
  last ← u32
  gives (front ++ last ∷ [])

-- the text of code: straight instructions, branch tables, and the borders of lists. What opens a list has the number of its
-- type.
pub data Opening : Type 0 where
  opens_block : Opening
  opens_loop : Opening
  opens_if : Opening

pub data Token : Type 0 where
  straight : Instr → Token
  table : List ℕ → Token
  opens : Opening → ℕ → Token
  has_else : Token
  has_end : Token

-- a token, with the types behind it
abbrev pub Written : Type 0
Written = Token × List Signature

abbrev pub opening : CodeContext → List Signature → Opening → Format Written
opening c types o = do
  ty ← block_type c types
  gives (opens o ty.0, ty.1)

abbrev pub branch_table : List Signature → Format Written
branch_table types = do
  targets ← labels
  gives (table targets, types)

abbrev pub borders : CodeContext → List Signature → Rows Written
borders c types =
    (0x02, opening c types opens_block) ∷ (0x03, opening c types opens_loop) ∷ (0x04, opening c types opens_if)
    ∷ (0x05, gives (has_else, types)) ∷ (0x0b, gives (has_end, types)) ∷ (0x0e, branch_table types) ∷ []

abbrev pub written : List Signature → Format Instr → Format Written
written types F = do
  instr ← F
  gives (straight instr, types)

abbrev pub written_rows : List Signature → Rows Instr → Rows Written
written_rows types [] = []
written_rows types (row ∷ rows) = (row.0, written types row.1) ∷ written_rows types rows

abbrev pub written_alone : List Signature → ℕ → Option Written
written_alone types code = option_map (λ instr. (straight instr, types)) (alone code)

abbrev pub token : CodeContext → List Signature → Format Written
token c types =
    by_code byte (written_alone types) (borders c types ++ written_rows types (straights (declared c types) c.counted))

-- tokens, one behind another, with the types before them and behind them
abbrev pub AreTokens : CodeContext → List Signature → List ℕ → List Token → List Signature → Type 0
AreTokens c types bytes [] after = (bytes ≡ []) × (after ≡ types)
AreTokens c types bytes (t ∷ ts) after =
    (front : List ℕ) × (rest : List ℕ) × (between : List Signature) × (bytes ≡ front ++ rest)
    × (token c types).Spells front (t, between) × AreTokens c between rest ts after

-- instructions with those that they hold; the numbers are those of the types of lists
mutual
  pub data Tree : Type 0 where
    leaf : Instr → Tree
    branches : List ℕ → Tree
    in_block : ℕ → Trees → Tree
    in_loop : ℕ → Trees → Tree
    if_alone : ℕ → Trees → Tree
    if_else : ℕ → Trees → Trees → Tree

  pub data Trees : Type 0 where
    end : Trees
    before : Tree → Trees → Trees

-- their text
abbrev mutual
  pub text_of : Tree → List Token
  text_of (leaf instr) = straight instr ∷ []
  text_of (branches targets) = table targets ∷ []
  text_of (in_block ty xs) = opens opens_block ty ∷ texts_of xs ++ has_end ∷ []
  text_of (in_loop ty xs) = opens opens_loop ty ∷ texts_of xs ++ has_end ∷ []
  text_of (if_alone ty xs) = opens opens_if ty ∷ texts_of xs ++ has_end ∷ []
  text_of (if_else ty xs ys) = opens opens_if ty ∷ ((texts_of xs ++ has_else ∷ []) ++ (texts_of ys ++ has_end ∷ []))

  pub texts_of : Trees → List Token
  texts_of end = []
  texts_of (before x xs) = text_of x ++ texts_of xs

-- blocks and target lists in the order in which they begin, outer before inner; a missing else is an empty block
pub record Flat : Type 0 where
  pub instrs : List Instr
  pub blocks : List Block
  pub targets : List (List ℕ)

-- behind so many blocks and so many target lists
abbrev mutual
  pub flat_of : ℕ → ℕ → Tree → Flat
  flat_of b t (leaf instr) = record { instrs = instr ∷ []; blocks = []; targets = [] }
  flat_of b t (branches targets) = record { instrs = i.BrTable t ∷ []; blocks = []; targets = targets ∷ [] }
  flat_of b t (in_block ty xs) =
      let f = flats_of (b + 1) t xs in
      record { instrs = i.Block b ∷ []; blocks = block ty f.instrs ∷ f.blocks; targets = f.targets }
  flat_of b t (in_loop ty xs) =
      let f = flats_of (b + 1) t xs in
      record { instrs = i.Loop b ∷ []; blocks = block ty f.instrs ∷ f.blocks; targets = f.targets }
  flat_of b t (if_alone ty xs) =
      let f = flats_of (b + 1) t xs in
      record {
        instrs = i.If b (b + 1 + length f.blocks) ∷ [];
        blocks = (block ty f.instrs ∷ f.blocks) ++ block ty [] ∷ [];
        targets = f.targets;
      }
  flat_of b t (if_else ty xs ys) =
      let f = flats_of (b + 1) t xs in
      let second = b + 1 + length f.blocks in
      let g = flats_of (second + 1) (t + length f.targets) ys in
      record {
        instrs = i.If b second ∷ [];
        blocks = (block ty f.instrs ∷ f.blocks) ++ block ty g.instrs ∷ g.blocks;
        targets = f.targets ++ g.targets;
      }

  pub flats_of : ℕ → ℕ → Trees → Flat
  flats_of b t end = record { instrs = []; blocks = []; targets = [] }
  flats_of b t (before x xs) =
      let f = flat_of b t x in
      let g = flats_of (b + length f.blocks) (t + length f.targets) xs in
      record { instrs = f.instrs ++ g.instrs; blocks = f.blocks ++ g.blocks; targets = f.targets ++ g.targets }

-- the code of a function of this type: block 0 is the outermost list
abbrev pub CodeParts : Type 0
CodeParts = TypeOf (no_parts [])

abbrev pub code_parts : ℕ → Trees → List Signature → CodeParts
code_parts ty xs types =
    let f = flats_of 1 0 xs in
    record { types = types; blocks = block ty f.instrs ∷ f.blocks; targets = f.targets }

-- code is the text of trees and an end
pub record IsCode (c : CodeContext) (ty : ℕ) (types : List Signature) (bytes : List ℕ) (parts : CodeParts) : Type 0 where
  pub trees : Trees
  pub spelled : AreTokens c types bytes (texts_of trees ++ has_end ∷ []) parts.types
  pub parts_are : parts ≡ code_parts ty trees parts.types

-- tokens are the front of code, and a token at fault stands behind them
pub record HasFault (c : CodeContext) (types : List Signature) (at : ℕ) (bytes : List ℕ) (f : BinaryFault) : Type 0 where
  pub tokens : List Token
  pub front : List ℕ
  pub rest : List ℕ
  pub after : List Signature
  pub split : bytes ≡ front ++ rest
  pub spelled : AreTokens c types front tokens after
  pub trees : Trees
  pub more : List Token
  pub goes_on : tokens ++ more ≡ texts_of trees ++ has_end ∷ []
  pub is_open : more ≢ []
  pub fails : (token c after).Fails (at + length front) rest f

abbrev pub code : CodeContext → ℕ → List Signature → Format CodeParts
code c ty types = record {
  Spells = λ bytes parts. IsCode c ty types bytes parts;
  Fails = λ at bytes f. HasFault c types at bytes f;
}
