-- Code that is read is the text of trees, numbered as they are.
use Rattle.std.proofs.Common.{◌≡◌, ℕ, ◌+◌, List, [], ◌∷◌, ◌++◌, length, set, refl, sym, ◌∙◌, ap, subst, append_assoc, append-nil}
use Rattle.std.proofs.lemmas.List.{length-append}
use Rattle.std.proofs.Math.Seq.{set-append_seam}
use Rattle.wasm_leb.specs.Items.{Lie}
use Rattle.wasm_leb.specs.Places.{Place}
use Rattle.wasm_types.specs.Signatures.{Signature}
use Rattle.wasm_syntax.specs.declared.declarations.Block.{Block}
use Rattle.wasm_syntax.specs.declared.instr.Instr.{Instr}
use Rattle.wasm_syntax.specs.declared.instr.Instr.TheVariants as i
use Rattle.binary_code.specs.Code.{Code, Stop, at_end, at_else, behind}
use Rattle.binary_code.specs.CodeParts.{begun, block}
use Rattle.binary_code.specs.declared.context.CodeContext.{CodeContext}
use Rattle.law_binary.specs.Code.{AreTokens, CodeParts, Flat, Opening, opens_block, opens_loop, opens_if, Token, straight, table, opens, has_else, has_end, Tree, leaf, branches, in_block, in_loop, if_alone, if_else, Trees, end, before, Written, flat_of, flats_of, text_of, texts_of}
use Rattle.law_binary.specs.Code as grammar
use Rattle.law_binary.proofs.Combining.{both_lie}

-- ---- tokens, one behind another

module _ (c : CodeContext) where
  pub tokens_both : (ts us : List Token) (xs ys : List ℕ) (types between after : List Signature) → AreTokens c types xs ts between → AreTokens c between ys us after → AreTokens c types (xs ++ ys) (ts ++ us) after
  tokens_both [] us xs ys types between after s t =
      subst (λ (zs : List ℕ). AreTokens c types (zs ++ ys) us after) (sym s.0) (subst (λ (ks : List Signature). AreTokens c ks ys us after) s.1 t)
  tokens_both (t ∷ ts) us xs ys types between after s r =
      (s.0, s.1 ++ ys, s.2, ap (λ (zs : List ℕ). zs ++ ys) s.3 ∙ append_assoc s.0 s.1 ys, s.4, tokens_both ts us s.1 ys s.2 between after s.5 r)

  pub one_token : (t : Token) (item : List ℕ) (types after : List Signature) → (grammar.token c types).Spells item (t, after) → AreTokens c types item (t ∷ []) after
  one_token t item types after s = (item, [], after, sym (append-nil item), s, (refl {a = []}, refl {a = after}))

  pub record Halves (ts us : List Token) (bytes : List ℕ) (types after : List Signature) : Type 0 where
    pub front : List ℕ
    pub rest : List ℕ
    pub between : List Signature
    pub split : bytes ≡ front ++ rest
    pub first : AreTokens c types front ts between
    pub second : AreTokens c between rest us after

  pub tokens_split : (ts us : List Token) (bytes : List ℕ) (types after : List Signature) → AreTokens c types bytes (ts ++ us) after → Halves ts us bytes types after
  tokens_split [] us bytes types after s = record { front = []; rest = bytes; between = types; split = refl; first = (refl, refl); second = s }
  tokens_split (t ∷ ts) us bytes types after s =
      let h = tokens_split ts us s.1 s.2 after s.5 in
      record {
        front = s.0 ++ h.front;
        rest = h.rest;
        between = h.between;
        split = s.3 ∙ ap (λ (zs : List ℕ). s.0 ++ zs) h.split ∙ sym (append_assoc s.0 h.front h.rest);
        first = (s.0, h.front, s.2, refl {a = s.0 ++ h.front}, s.4, h.first);
        second = h.second;
      }

-- ---- what was read

abbrev pub stop_token : Stop → Token
stop_token at_end = has_end
stop_token at_else = has_else

-- a list of code that was read, behind so many blocks and target lists
pub record Found (c : CodeContext) (b t : ℕ) (parts : CodeParts) (p : Place) (r : Code) (q : Place) : Type 0 where
  pub trees : Trees
  pub item : List ℕ
  pub spelled : AreTokens c parts.types item (texts_of trees ++ stop_token r.stop ∷ []) r.parts.types
  pub lie : Lie p item q
  pub instrs_are : r.instrs ≡ (flats_of b t trees).instrs
  pub blocks_are : r.parts.blocks ≡ parts.blocks ++ (flats_of b t trees).blocks
  pub targets_are : r.parts.targets ≡ parts.targets ++ (flats_of b t trees).targets

-- the instruction of a tree
abbrev pub instr_of : ℕ → ℕ → Tree → Instr
instr_of b t (leaf instr) = instr
instr_of b t (branches targets) = i.BrTable t
instr_of b t (in_block ty xs) = i.Block b
instr_of b t (in_loop ty xs) = i.Loop b
instr_of b t (if_alone ty xs) = i.If b (b + 1 + length (flats_of (b + 1) t xs).blocks)
instr_of b t (if_else ty xs ys) = i.If b (b + 1 + length (flats_of (b + 1) t xs).blocks)

pub one_instr : (b t : ℕ) (x : Tree) → (flat_of b t x).instrs ≡ instr_of b t x ∷ []
one_instr b t (leaf instr) = refl
one_instr b t (branches targets) = refl
one_instr b t (in_block ty xs) = refl
one_instr b t (in_loop ty xs) = refl
one_instr b t (if_alone ty xs) = refl
one_instr b t (if_else ty xs ys) = refl

-- the parts behind a tree
pub record Grown (b t : ℕ) (x : Tree) (parts later : CodeParts) : Type 0 where
  pub blocks_are : later.blocks ≡ parts.blocks ++ (flat_of b t x).blocks
  pub targets_are : later.targets ≡ parts.targets ++ (flat_of b t x).targets

pub both_parts : {A : Type 0} (last middle first xs ys : List A) → last ≡ middle ++ ys → middle ≡ first ++ xs → last ≡ first ++ (xs ++ ys)
both_parts last middle first xs ys e f = e ∙ ap (λ (zs : List _). zs ++ ys) f ∙ append_assoc first xs ys

-- a tree and the rest of its list
pub found_tree : (c : CodeContext) (b t : ℕ) (x : Tree) (parts later : CodeParts) (p p1 : Place) (item : List ℕ) (r : Code) (q : Place) → AreTokens c parts.types item (text_of x) later.types → Lie p item p1 → Grown b t x parts later → Found c (b + length (flat_of b t x).blocks) (t + length (flat_of b t x).targets) later p1 r q → Found c b t parts p (behind (instr_of b t x) r) q
found_tree c b t x parts later p p1 item r q s l g f = record {
  trees = before x f.trees;
  item = item ++ f.item;
  spelled = subst (λ (ts : List Token). AreTokens c parts.types (item ++ f.item) ts r.parts.types)
      (sym (append_assoc (text_of x) (texts_of f.trees) (stop_token r.stop ∷ [])))
      (tokens_both c (text_of x) (texts_of f.trees ++ stop_token r.stop ∷ []) item f.item parts.types later.types r.parts.types s f.spelled);
  lie = both_lie p p1 q item f.item l f.lie;
  instrs_are =
      ap (λ (is : List Instr). instr_of b t x ∷ is) f.instrs_are
      ∙ ap (λ (is : List Instr). is ++ (flats_of (b + length (flat_of b t x).blocks) (t + length (flat_of b t x).targets) f.trees).instrs) (sym (one_instr b t x));
  blocks_are = both_parts r.parts.blocks later.blocks parts.blocks (flat_of b t x).blocks _ f.blocks_are g.blocks_are;
  targets_are = both_parts r.parts.targets later.targets parts.targets (flat_of b t x).targets _ f.targets_are g.targets_are;
}

-- how many blocks and target lists there are
pub record Counts (b t : ℕ) (parts : CodeParts) : Type 0 where
  pub blocks : length parts.blocks ≡ b
  pub targets : length parts.targets ≡ t

pub counts_later : (b t : ℕ) (x : Tree) (parts later : CodeParts) → Counts b t parts → Grown b t x parts later → Counts (b + length (flat_of b t x).blocks) (t + length (flat_of b t x).targets) later
counts_later b t x parts later n g = record {
  blocks = ap length g.blocks_are ∙ length-append parts.blocks (flat_of b t x).blocks ∙ ap (λ (k : ℕ). k + length (flat_of b t x).blocks) n.blocks;
  targets = ap length g.targets_are ∙ length-append parts.targets (flat_of b t x).targets ∙ ap (λ (k : ℕ). k + length (flat_of b t x).targets) n.targets;
}

pub counts_begun : (b t ty : ℕ) (parts : CodeParts) → Counts b t parts → Counts (b + 1) t (begun ty parts)
counts_begun b t ty parts n = record {
  blocks = length-append parts.blocks (block ty [] ∷ []) ∙ ap (λ (k : ℕ). k + 1) n.blocks;
  targets = n.targets;
}

-- a block whose place was made and that was then filled
pub filled : (ty : ℕ) (instrs : List Instr) (old inner later : List Block) → later ≡ (old ++ block ty [] ∷ []) ++ inner → set later (length old) (block ty instrs) ≡ old ++ block ty instrs ∷ inner
filled ty instrs old inner later e =
    ap (λ (xs : List Block). set xs (length old) (block ty instrs)) (e ∙ append_assoc old (block ty [] ∷ []) inner)
    ∙ set-append_seam old (block ty []) inner (block ty instrs)
