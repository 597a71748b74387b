-- Tokens are read as the grammar has them, and code is read token by token.
use Rattle.std.proofs.Common.{◌≡◌, ℕ, suc, List, [], ◌∷◌, ◌++◌, length, Bool, true, false, Option, Some, None, refl, sym, ◌∙◌, cond, nat_eq}
use Rattle.std.specs.Option.{option_or}
use Rattle.std.specs.Prelude.{option_map}
use Rattle.wasm_leb.specs.Places.{Place}
use Rattle.wasm_types.specs.Signatures.{Signature}
use Rattle.wasm_syntax.specs.declared.accesses.LoadOp.TheVariants as l
use Rattle.wasm_syntax.specs.declared.accesses.StoreOp.TheVariants as s
use Rattle.wasm_syntax.specs.declared.instr.Instr.{Instr}
use Rattle.wasm_syntax.specs.declared.instr.Instr.TheVariants as i
use Rattle.binary_types.specs.Reading.{Read, then, done, some_or, ◌>>=◌, listed}
use Rattle.binary_types.specs.Reading as reading
use Rattle.binary_types.specs.declared.faults.BinaryFault.{BinaryFault}
use Rattle.binary_types.specs.declared.faults.BinaryFault.TheVariants.{Unsupported}
use Rattle.binary_code.specs.AccessCodes.{load_of, store_of}
use Rattle.binary_code.specs.BlockTypes as block_types
use Rattle.binary_code.specs.Code as read
use Rattle.binary_code.specs.Code.{Code, Coder, at_end, at_else, code, code_by, code_to, rest_behind, second, unless_else}
use Rattle.binary_code.specs.CodeParts.{begun, ended, listed_in, with_types}
use Rattle.binary_code.specs.InstrCodes.{border_of, form_of, immediate_of, indexed_of, opener_of, operator_of, plain_of}
use Rattle.binary_code.specs.Instructions as instructions
use Rattle.binary_code.specs.declared.context.CodeContext.{CodeContext}
use Rattle.law_binary.specs.Agreement.{Agree}
use Rattle.law_binary.specs.Code as grammar
use Rattle.law_binary.specs.Code.{CodeParts, Opening, opens_block, opens_loop, opens_if, Token, straight, table, opens, has_else, has_end, Written}
use Rattle.law_binary.specs.Formats.{Format}
use Rattle.law_binary.specs.Formats as formats
use Rattle.law_binary.specs.Instructions as instr_grammar
use Rattle.law_binary.proofs.Combining.{agree_gives, agree_then}
use Rattle.law_binary.proofs.Parts.{Chain, EachRow, agree_by_code, apart, chained, chained_then, coded, each_of_both, stands_in}
use Rattle.law_binary.proofs.Rows.{also, row}
use Rattle.law_binary.proofs.Lists.{agree_byte}
use Rattle.law_binary.proofs.Items.{agree_u32, agree_listed}
use Rattle.law_binary.proofs.TypeAgreement.{then_then}
use Rattle.law_binary.proofs.DeclarationAgreement.{agree_as}
use Rattle.law_binary.proofs.BlockTypeAgreement.{agree_block_type}
use Rattle.law_binary.proofs.InstructionAgreement.{none_if, one, agree_one, agree_load, agree_store, agree_const_32, agree_const_64, agree_null, agree_call_indirect, agree_long}

-- ---- tokens

pub agree_labels : Agree read.labels grammar.labels
agree_labels =
    agree_then (listed reading.u32) _ (formats.vector formats.u32) _ (agree_listed reading.u32 formats.u32 agree_u32) (λ front.
    agree_as reading.u32 formats.u32 (λ last. front ++ last ∷ []) agree_u32)

abbrev as_token : List Signature → Instr → Written
as_token ts instr = (straight instr, ts)

abbrev written : List Signature → Read Instr → Read Written
written ts r = r >>= (λ instr. done (as_token ts instr))

agree_written : {r : Read Instr} {F : Format Instr} (ts : List Signature) → Agree r F → Agree (written ts r) (grammar.written ts F)
agree_written {r} {F} ts a = agree_as r F (as_token ts) a

abbrev written_rows : List Signature → Chain Instr → Chain Written
written_rows ts [] = []
written_rows ts (row ∷ rows) = (row.0, written ts row.1) ∷ written_rows ts rows

abbrev as_opening : Opening → ℕ × List Signature → Written
as_opening o ty = (opens o ty.0, ty.1)

abbrev opening : CodeContext → List Signature → Opening → Read Written
opening c ts o = block_types.block_type c ts >>= (λ ty. done (as_opening o ty))

agree_opening : (c : CodeContext) (ts : List Signature) (o : Opening) → Agree (opening c ts o) (grammar.opening c ts o)
agree_opening c ts o = agree_as (block_types.block_type c ts) (grammar.block_type c ts) (as_opening o) (agree_block_type c ts)

abbrev as_table : List Signature → List ℕ → Written
as_table ts targets = (table targets, ts)

abbrev branch_table : List Signature → Read Written
branch_table ts = read.labels >>= (λ targets. done (as_table ts targets))

agree_branch_table : (ts : List Signature) → Agree (branch_table ts) (grammar.branch_table ts)
agree_branch_table ts = agree_as read.labels grammar.labels (as_table ts) agree_labels

abbrev else_token : List Signature → Read Written
else_token ts = done (has_else, ts)

abbrev end_token : List Signature → Read Written
end_token ts = done (has_end, ts)

abbrev borders : CodeContext → List Signature → Chain Written
borders c ts =
    (0x02, opening c ts opens_block) ∷ (0x03, opening c ts opens_loop) ∷ (0x04, opening c ts opens_if)
    ∷ (0x05, else_token ts) ∷ (0x0b, end_token ts) ∷ (0x0e, branch_table ts) ∷ []

-- straight instructions of one code, in the order of the grammar
abbrev straights : List Signature → Bool → Chain Instr
straights ts counted =
    (0x0c, one i.Br) ∷ (0x0d, one i.BrIf) ∷ (0x10, one i.Call) ∷ (0x11, instructions.call_indirect ts)
    ∷ (0xd0, instructions.null ts) ∷ (0xd2, one i.RefFunc)
    ∷ (0x20, one i.LocalGet) ∷ (0x21, one i.LocalSet) ∷ (0x22, one i.LocalTee) ∷ (0x23, one i.GlobalGet) ∷ (0x24, one i.GlobalSet)
    ∷ (0x25, one i.TableGet) ∷ (0x26, one i.TableSet) ∷ (0x3f, one i.MemorySize) ∷ (0x40, one i.MemoryGrow)
    ∷ (0x28, instructions.load l.I32Load) ∷ (0x29, instructions.load l.I64Load) ∷ (0x2c, instructions.load l.I32Load8S)
    ∷ (0x2d, instructions.load l.I32Load8U) ∷ (0x2e, instructions.load l.I32Load16S) ∷ (0x2f, instructions.load l.I32Load16U)
    ∷ (0x30, instructions.load l.I64Load8S) ∷ (0x31, instructions.load l.I64Load8U) ∷ (0x32, instructions.load l.I64Load16S)
    ∷ (0x33, instructions.load l.I64Load16U) ∷ (0x34, instructions.load l.I64Load32S) ∷ (0x35, instructions.load l.I64Load32U)
    ∷ (0x36, instructions.store s.I32Store) ∷ (0x37, instructions.store s.I64Store) ∷ (0x3a, instructions.store s.I32Store8)
    ∷ (0x3b, instructions.store s.I32Store16) ∷ (0x3c, instructions.store s.I64Store8) ∷ (0x3d, instructions.store s.I64Store16)
    ∷ (0x3e, instructions.store s.I64Store32)
    ∷ (0x41, instructions.const_32) ∷ (0x42, instructions.const_64) ∷ (0xfc, instructions.long_instr counted) ∷ []

abbrev rows : CodeContext → List Signature → Chain Written
rows c ts = borders c ts ++ written_rows ts (straights (grammar.declared c ts) c.counted)

abbrev pub token : CodeContext → List Signature → Read Written
token c ts = coded (grammar.written_alone ts) reading.byte (rows c ts)

pub agree_token : (c : CodeContext) (ts : List Signature) → Agree (token c ts) (grammar.token c ts)
agree_token c ts =
    let own = grammar.declared c ts in
    agree_by_code (grammar.written_alone ts) reading.byte formats.byte (rows c ts)
    (grammar.borders c ts ++ grammar.written_rows ts (instr_grammar.straights own c.counted)) agree_byte
    (row refl refl refl (agree_opening c ts opens_block)
    (row refl refl refl (agree_opening c ts opens_loop)
    (row refl refl refl (agree_opening c ts opens_if)
    (row refl refl refl (agree_gives _)
    (row refl refl refl (agree_gives _)
    (row refl refl refl (agree_branch_table ts)
    (row refl refl refl (agree_written ts (agree_one i.Br))
    (row refl refl refl (agree_written ts (agree_one i.BrIf))
    (row refl refl refl (agree_written ts (agree_one i.Call))
    (row refl refl refl (agree_written ts (agree_call_indirect own))
    (row refl refl refl (agree_written ts (agree_null own))
    (row refl refl refl (agree_written ts (agree_one i.RefFunc))
    (row refl refl refl (agree_written ts (agree_one i.LocalGet))
    (row refl refl refl (agree_written ts (agree_one i.LocalSet))
    (row refl refl refl (agree_written ts (agree_one i.LocalTee))
    (row refl refl refl (agree_written ts (agree_one i.GlobalGet))
    (row refl refl refl (agree_written ts (agree_one i.GlobalSet))
    (row refl refl refl (agree_written ts (agree_one i.TableGet))
    (row refl refl refl (agree_written ts (agree_one i.TableSet))
    (row refl refl refl (agree_written ts (agree_one i.MemorySize))
    (row refl refl refl (agree_written ts (agree_one i.MemoryGrow))
    (row refl refl refl (agree_written ts (agree_load l.I32Load))
    (row refl refl refl (agree_written ts (agree_load l.I64Load))
    (row refl refl refl (agree_written ts (agree_load l.I32Load8S))
    (row refl refl refl (agree_written ts (agree_load l.I32Load8U))
    (row refl refl refl (agree_written ts (agree_load l.I32Load16S))
    (row refl refl refl (agree_written ts (agree_load l.I32Load16U))
    (row refl refl refl (agree_written ts (agree_load l.I64Load8S))
    (row refl refl refl (agree_written ts (agree_load l.I64Load8U))
    (row refl refl refl (agree_written ts (agree_load l.I64Load16S))
    (row refl refl refl (agree_written ts (agree_load l.I64Load16U))
    (row refl refl refl (agree_written ts (agree_load l.I64Load32S))
    (row refl refl refl (agree_written ts (agree_load l.I64Load32U))
    (row refl refl refl (agree_written ts (agree_store s.I32Store))
    (row refl refl refl (agree_written ts (agree_store s.I64Store))
    (row refl refl refl (agree_written ts (agree_store s.I32Store8))
    (row refl refl refl (agree_written ts (agree_store s.I32Store16))
    (row refl refl refl (agree_written ts (agree_store s.I64Store8))
    (row refl refl refl (agree_written ts (agree_store s.I64Store16))
    (row refl refl refl (agree_written ts (agree_store s.I64Store32))
    (row refl refl refl (agree_written ts agree_const_32)
    (row refl refl refl (agree_written ts agree_const_64)
    (row refl refl refl (agree_written ts (agree_long c.counted)) tt)))))))))))))))))))))))))))))))))))))))))))

-- ---- code, token by token

abbrev pub opened : Coder → Opening → ℕ → CodeParts → Read Code
opened coder opens_block ty parts = do
  inner ← coder (begun ty parts)
  _ ← unless_else inner.stop
  rest_behind coder (i.Block (length parts.blocks)) (ended (length parts.blocks) ty inner.instrs inner.parts)
opened coder opens_loop ty parts = do
  inner ← coder (begun ty parts)
  _ ← unless_else inner.stop
  rest_behind coder (i.Loop (length parts.blocks)) (ended (length parts.blocks) ty inner.instrs inner.parts)
opened coder opens_if ty parts = do
  first ← coder (begun ty parts)
  whole ← second coder ty first.stop (ended (length parts.blocks) ty first.instrs first.parts)
  rest_behind coder (i.If (length parts.blocks) (length first.parts.blocks)) whole

-- what follows a token
abbrev pub next : Coder → Token → CodeParts → Read Code
next coder (straight instr) parts = rest_behind coder instr parts
next coder (table targets) parts = rest_behind coder (i.BrTable (length parts.targets)) (listed_in targets parts)
next coder (opens o ty) parts = opened coder o ty parts
next coder has_else parts = done (code [] at_else parts)
next coder has_end parts = done (code [] at_end parts)

abbrev pub goes : Coder → CodeParts → Written → Read Code
goes coder parts t = next coder t.0 (with_types t.1 parts)

module _ (c : CodeContext) (coder : Coder) (parts : CodeParts) (at : ℕ) where
  -- what follows a code
  abbrev by_code : ℕ → Read Code
  by_code b q = then (some_or (Unsupported at b) (form_of b) q) (λ f. code_by c coder f parts)

  abbrev Each : Chain Written → Type 0
  Each reads = EachRow (grammar.written_alone parts.types) (goes coder parts) at by_code reads

  abbrev EachStraight : Chain Instr → Type 0
  EachStraight [] = Unit {0}
  EachStraight (row ∷ rows) = ((q : Place) → then (row.1 q) (λ instr. rest_behind coder instr parts) ≡ by_code row.0 q) × EachStraight rows

  each_written : (reads : Chain Instr) → EachStraight reads → Each (written_rows parts.types reads)
  each_written [] e = tt
  each_written (row ∷ rows) e =
      ((λ q. sym (then_then (row.1 q) (λ instr. done (as_token parts.types instr)) (goes coder parts)) ∙ e.0 q), each_written rows e.1)

  each_straight : EachStraight (straights (grammar.declared c parts.types) c.counted)
  each_straight =
      also (λ q. refl) (also (λ q. refl) (also (λ q. refl) (also (λ q. refl) (also (λ q. refl) (also (λ q. refl)
      (also (λ q. refl) (also (λ q. refl) (also (λ q. refl) (also (λ q. refl) (also (λ q. refl) (also (λ q. refl)
      (also (λ q. refl) (also (λ q. refl) (also (λ q. refl) (also (λ q. refl) (also (λ q. refl) (also (λ q. refl)
      (also (λ q. refl) (also (λ q. refl) (also (λ q. refl) (also (λ q. refl) (also (λ q. refl) (also (λ q. refl)
      (also (λ q. refl) (also (λ q. refl) (also (λ q. refl) (also (λ q. refl) (also (λ q. refl) (also (λ q. refl)
      (also (λ q. refl) (also (λ q. refl) (also (λ q. refl) (also (λ q. refl) (also (λ q. refl) (also (λ q. refl)
      (also (λ q. refl) tt))))))))))))))))))))))))))))))))))))

  each_border : Each (borders c parts.types)
  each_border =
      also (λ q. sym (then_then (block_types.block_type c parts.types q) (λ ty. done (as_opening opens_block ty)) (goes coder parts)))
      (also (λ q. sym (then_then (block_types.block_type c parts.types q) (λ ty. done (as_opening opens_loop ty)) (goes coder parts)))
      (also (λ q. sym (then_then (block_types.block_type c parts.types q) (λ ty. done (as_opening opens_if ty)) (goes coder parts)))
      (also (λ q. refl) (also (λ q. refl)
      (also (λ q. sym (then_then (read.labels q) (λ targets. done (as_table parts.types targets)) (goes coder parts))) tt)))))

-- what no row has is an instruction of which nothing follows, or no code
abbrev shape : {F I L S O T : Type 0} → (T → F) → (I → T) → (Instr → T) → (L → T) → (S → T) → (O → F) → Option I → Option T → Option Instr → Option L → Option S → Option Instr → Option F → Option O → Option F
shape straight' indexed' plain' load' store' opens' indexed immediate operator load store plain border opener =
    option_or (option_map straight' (option_or (option_map indexed' indexed) (option_or immediate (option_or (option_map plain' operator) (option_or (option_or (option_map load' load) (option_map store' store)) (option_map plain' plain))))))
    (option_or border (option_map opens' opener))

alone_by : {F I L S O T : Type 0} (straight' : T → F) (indexed' : I → T) (plain' : Instr → T) (load' : L → T) (store' : S → T) (opens' : O → F) (indexed : Option I) (immediate : Option T) (operator : Option Instr) (load : Option L) (store : Option S) (plain : Option Instr) (border : Option F) (opener : Option O) (f : BinaryFault) (ts : List Signature) (q : Place) (K : F → Read Code) (next' : Written → Read Code) →
    indexed ≡ None → immediate ≡ None → load ≡ None → store ≡ None → border ≡ None → opener ≡ None → ((instr : Instr) → next' (straight instr, ts) q ≡ K (straight' (plain' instr)) q)
    → then (some_or f (option_map (as_token ts) (option_or operator plain)) q) next' ≡ then (some_or f (shape straight' indexed' plain' load' store' opens' indexed immediate operator load store plain border opener) q) K
alone_by straight' indexed' plain' load' store' opens' indexed immediate operator load store plain border opener f ts q K next' a b d e g h same =
    by operator plain
    ∙ (λ i. then (some_or f (shape straight' indexed' plain' load' store' opens' (sym a i) (sym b i) operator (sym d i) (sym e i) plain (sym g i) (sym h i)) q) K)
  where
    by : (operator plain : Option Instr) → then (some_or f (option_map (as_token ts) (option_or operator plain)) q) next' ≡ then (some_or f (shape straight' indexed' plain' load' store' opens' None None operator None None plain None None) q) K
    by (Some instr) plain = same instr
    by None (Some instr) = same instr
    by None None = refl

module _ (c : CodeContext) (coder : Coder) (parts : CodeParts) (at : ℕ) where
  each_row : EachRow (grammar.written_alone parts.types) (goes coder parts) at (by_code c coder parts at) (rows c parts.types)
  each_row = each_of_both (grammar.written_alone parts.types) (goes coder parts) at (by_code c coder parts at)
      (borders c parts.types) (written_rows parts.types (straights (grammar.declared c parts.types) c.counted))
      (each_border c coder parts at) (each_written c coder parts at (straights (grammar.declared c parts.types) c.counted) (each_straight c coder parts at))

  not_in : (b k : ℕ) → stands_in (rows c parts.types) b ≡ false → stands_in (rows c parts.types) k ≡ true → nat_eq b k ≡ false
  not_in b k h s = apart (rows c parts.types) b k h s

  otherwise : (b : ℕ) (q : Place) → stands_in (rows c parts.types) b ≡ false → then (some_or (Unsupported at b) (grammar.written_alone parts.types b) q) (goes coder parts) ≡ by_code c coder parts at b q
  otherwise b q h =
      alone_by _ _ _ _ _ _ (indexed_of b) (immediate_of b) (operator_of b) (load_of b) (store_of b) (plain_of b) (border_of b) (opener_of b)
      (Unsupported at b) parts.types q (λ f. code_by c coder f parts) (goes coder parts)
      (out 0x0c _ _ refl (out 0x0d _ _ refl (out 0x10 _ _ refl (out 0x20 _ _ refl (out 0x21 _ _ refl (out 0x22 _ _ refl (out 0x23 _ _ refl (out 0x24 _ _ refl (out 0x25 _ _ refl (out 0x26 _ _ refl (out 0x3f _ _ refl (out 0x40 _ _ refl (out 0xd2 _ _ refl refl)))))))))))))
      (out 0x41 _ _ refl (out 0x42 _ _ refl (out 0xd0 _ _ refl (out 0x11 _ _ refl (out 0xfc _ _ refl refl)))))
      (out 0x28 _ _ refl (out 0x29 _ _ refl (out 0x2c _ _ refl (out 0x2d _ _ refl (out 0x2e _ _ refl (out 0x2f _ _ refl (out 0x30 _ _ refl (out 0x31 _ _ refl (out 0x32 _ _ refl (out 0x33 _ _ refl (out 0x34 _ _ refl (out 0x35 _ _ refl refl))))))))))))
      (out 0x36 _ _ refl (out 0x37 _ _ refl (out 0x3a _ _ refl (out 0x3b _ _ refl (out 0x3c _ _ refl (out 0x3d _ _ refl (out 0x3e _ _ refl refl)))))))
      (out 0x0e _ _ refl (out 0x05 _ _ refl (out 0x0b _ _ refl refl)))
      (out 0x02 _ _ refl (out 0x03 _ _ refl (out 0x04 _ _ refl refl)))
      (λ instr. refl)
    where
      out : {A : Type 0} (k : ℕ) (x rest : Option A) → stands_in (rows c parts.types) k ≡ true → rest ≡ None → cond (nat_eq b k) x rest ≡ None
      out k x rest s e = none_if (nat_eq b k) x rest (not_in b k h s) e

  by_code_is : (b : ℕ) (q : Place) → then (chained (grammar.written_alone parts.types) (rows c parts.types) at b q) (goes coder parts) ≡ by_code c coder parts at b q
  by_code_is b q = chained_then (grammar.written_alone parts.types) (goes coder parts) at (by_code c coder parts at) (rows c parts.types) each_row b q (otherwise b q)

pub code_is : (c : CodeContext) (n : ℕ) (parts : CodeParts) (p : Place) → code_to (suc n) c parts p ≡ then (token c parts.types p) (goes (code_to n c) parts)
code_is c n parts p =
    (λ i. then (reading.byte p) (λ b q. sym (by_code_is c (code_to n c) parts p.at b q) i))
    ∙ then_then (reading.byte p) (chained (grammar.written_alone parts.types) (rows c parts.types) p.at) (goes (code_to n c) parts)
