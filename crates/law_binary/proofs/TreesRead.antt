-- The text of trees is read, and gives them as they are numbered.
use Rattle.std.proofs.Common.{◌≡◌, ℕ, zero, suc, ◌+◌, ◌<◌, ◌≤◌, List, [], ◌∷◌, ◌++◌, length, Result, arith, refl, sym, ◌∙◌, ap, subst, append_assoc, append-nil}
use Rattle.std.proofs.lemmas.List.{length-append}
use Rattle.wasm_leb.specs.Places.{Place, place}
use Rattle.wasm_types.specs.Signatures.{Signature}
use Rattle.wasm_syntax.specs.declared.declarations.Block.{Block}
use Rattle.wasm_syntax.specs.declared.instr.Instr.{Instr}
use Rattle.wasm_syntax.specs.declared.instr.Instr.TheVariants as i
use Rattle.binary_types.specs.Reading.{Read, then, done, ◌>>=◌}
use Rattle.binary_types.specs.declared.faults.BinaryFault.{BinaryFault}
use Rattle.binary_code.specs.Code.{Code, Coder, Stop, at_end, at_else, behind, code, code_to, rest_behind, second, unless_else}
use Rattle.binary_code.specs.CodeParts.{begun, block, ended, with_types}
use Rattle.binary_code.specs.declared.context.CodeContext.{CodeContext}
use Rattle.law_binary.specs.Code.{AreTokens, CodeParts, Flat, Opening, opens_block, opens_loop, opens_if, Token, straight, table, opens, has_else, has_end, Tree, leaf, branches, in_block, in_loop, if_alone, if_else, Trees, end, before, Written, flat_of, flats_of, text_of, texts_of}
use Rattle.law_binary.specs.Code as grammar
use Rattle.law_binary.proofs.TokenAgreement.{agree_token, code_is, goes, next, opened}
use Rattle.law_binary.proofs.Trees.{Counts, Halves, counts_begun, counts_later, filled, instr_of, one_instr, stop_token, tokens_split}

-- ---- what is given

abbrev parts_with : List Signature → List Block → List (List ℕ) → CodeParts
parts_with types blocks targets = record { types = types; blocks = blocks; targets = targets }

parts_alike : (types : List Signature) (bs bs' : List Block) (ts ts' : List (List ℕ)) → bs ≡ bs' → ts ≡ ts' → parts_with types bs ts ≡ parts_with types bs' ts'
parts_alike types bs bs' ts ts' e f = λ j. parts_with types (e j) (f j)

-- the parts behind a tree, and behind a list of trees
abbrev pub later_of : ℕ → ℕ → Tree → CodeParts → List Signature → CodeParts
later_of b t x parts after = parts_with after (parts.blocks ++ (flat_of b t x).blocks) (parts.targets ++ (flat_of b t x).targets)

abbrev pub whole_of : ℕ → ℕ → Trees → Stop → CodeParts → List Signature → Code
whole_of b t xs s parts after =
    code (flats_of b t xs).instrs s (parts_with after (parts.blocks ++ (flats_of b t xs).blocks) (parts.targets ++ (flats_of b t xs).targets))

-- what a reader of at most so many instructions reads
abbrev pub ReadsAll : CodeContext → ℕ → Type 0
ReadsAll c k =
    (xs : Trees) (s : Stop) (b t : ℕ) (parts : CodeParts) → Counts b t parts → (p : Place) (item rest : List ℕ) (after : List Signature) → p.left ≡ item ++ rest
    → AreTokens c parts.types item (texts_of xs ++ stop_token s ∷ []) after → length (texts_of xs) < k
    → code_to k c parts p ≡ done (whole_of b t xs s parts after) (place (p.at + length item) rest)

rest_alike : (coder : Coder) (x y : Instr) (parts parts' : CodeParts) (at end' : ℕ) (rest : List ℕ) → x ≡ y → parts ≡ parts' → at ≡ end' → rest_behind coder x parts (place at rest) ≡ rest_behind coder y parts' (place end' rest)
rest_alike coder x y parts parts' at end' rest e f g = λ j. rest_behind coder (e j) (f j) (place (g j) rest)

-- ---- one token

pub token_of_one : (c : CodeContext) (tok : Token) (item : List ℕ) (types after : List Signature) → AreTokens c types item (tok ∷ []) after → (grammar.token c types).Spells item (tok, after)
token_of_one c tok item types after s =
    let whole : s.0 ≡ item = sym (append-nil s.0) ∙ ap (λ (xs : List ℕ). s.0 ++ xs) (sym s.5.0) ∙ sym s.3 in
    subst (λ (xs : List ℕ). (grammar.token c types).Spells xs (tok, after)) whole
    (subst (λ (ts : List Signature). (grammar.token c types).Spells s.0 (tok, ts)) (sym s.5.1) s.4)

-- what follows a token that is there
pub by_token : (c : CodeContext) (k : ℕ) (parts : CodeParts) (tok : Token) (after : List Signature) (p : Place) (item rest : List ℕ) → p.left ≡ item ++ rest → (grammar.token c parts.types).Spells item (tok, after) → code_to (suc k) c parts p ≡ next (code_to k c) tok (with_types after parts) (place (p.at + length item) rest)
by_token c k parts tok after p item rest e s =
    code_is c k parts p
    ∙ ap (λ (o : Result (Written × Place) BinaryFault). then o (goes (code_to k c) parts)) ((agree_token c parts.types).only p item rest (tok, after) e s)

module _ (c : CodeContext) (k : ℕ) (ih : ReadsAll c k) (b t : ℕ) (parts : CodeParts) (n : Counts b t parts) (p : Place) (item rest : List ℕ) (after : List Signature) (split : p.left ≡ item ++ rest) where
  abbrev coder : Coder
  coder = code_to k c

  -- a list within, behind the token that opens it
  module _ (o : Opening) (ty : ℕ) (xs : Trees) (s : Stop) (between middle : List Signature) (first inside behind' : List ℕ) (split' : item ++ rest ≡ first ++ (inside ++ behind')) (few : length (texts_of xs) < k) (tok : (grammar.token c parts.types).Spells first (opens o ty, between)) (spelled : AreTokens c between inside (texts_of xs ++ stop_token s ∷ []) middle) where
    abbrev flat : Flat
    flat = flats_of (b + 1) t xs

    abbrev begun_parts : CodeParts
    begun_parts = begun ty (with_types between parts)

    abbrev inner : Code
    inner = whole_of (b + 1) t xs s begun_parts middle

    abbrev here : Place
    here = place (p.at + length first) (inside ++ behind')

    opens_so : code_to (suc k) c parts p ≡ opened coder o ty (with_types between parts) here
    opens_so = by_token c k parts (opens o ty) between p first (inside ++ behind') (split ∙ split') tok

    inner_read : coder begun_parts here ≡ done inner (place (here.at + length inside) behind')
    inner_read = ih xs s (b + 1) t begun_parts (counts_begun b t ty (with_types between parts) (record { blocks = n.blocks; targets = n.targets })) here inside behind' middle refl spelled few

    abbrev inner_parts : CodeParts
    inner_parts = ended (length parts.blocks) ty inner.instrs inner.parts

    inner_blocks : inner_parts.blocks ≡ parts.blocks ++ block ty flat.instrs ∷ flat.blocks
    inner_blocks = filled ty flat.instrs parts.blocks flat.blocks inner.parts.blocks refl

    inner_count : length inner.parts.blocks ≡ b + 1 + length flat.blocks
    inner_count =
        length-append (parts.blocks ++ block ty [] ∷ []) flat.blocks
        ∙ ap (λ (m : ℕ). m + length flat.blocks) (length-append parts.blocks (block ty [] ∷ []) ∙ ap (λ (m : ℕ). m + 1) n.blocks)

    inner_counts : Counts (b + 1 + length flat.blocks) (t + length flat.targets) inner_parts
    inner_counts = record {
      blocks = ap length inner_blocks ∙ length-append parts.blocks (block ty flat.instrs ∷ flat.blocks) ∙ omega (arith, n.blocks);
      targets = length-append parts.targets flat.targets ∙ ap (λ (m : ℕ). m + length flat.targets) n.targets;
    }

    -- the place behind it, as it is counted from the beginning
    place_behind : (whole : List ℕ) → whole ≡ first ++ inside → here.at + length inside ≡ p.at + length whole
    place_behind whole e = omega (arith, ap length e, length-append first inside)

  -- a tree is read, and what is behind it is to be
  abbrev IsRead : Tree → Type 0
  IsRead x = code_to (suc k) c parts p ≡ rest_behind coder (instr_of b t x) (later_of b t x parts after) (place (p.at + length item) rest)

  module _ (ty : ℕ) (xs : Trees) (few : length (texts_of xs) < k) where
    read_block : (between : List Signature) (first inside : List ℕ) → item ≡ first ++ inside → (grammar.token c parts.types).Spells first (opens opens_block ty, between) → AreTokens c between inside (texts_of xs ++ has_end ∷ []) after → IsRead (in_block ty xs)
    read_block between first inside whole tok spelled =
        let split' : item ++ rest ≡ first ++ (inside ++ rest) = ap (λ (zs : List ℕ). zs ++ rest) whole ∙ append_assoc first inside rest in
        opens_so opens_block ty xs at_end between after first inside rest split' few tok spelled
        ∙ ap (λ (r : Result (Code × Place) BinaryFault). then r (λ inner. unless_else inner.stop >>= (λ _. rest_behind coder (i.Block (length parts.blocks)) (ended (length parts.blocks) ty inner.instrs inner.parts))))
        (inner_read opens_block ty xs at_end between after first inside rest split' few tok spelled)
        ∙ rest_alike coder _ _ _ _ _ _ rest (ap i.Block n.blocks)
        (parts_alike after _ _ _ _ (inner_blocks opens_block ty xs at_end between after first inside rest split' few tok spelled) refl)
        (place_behind opens_block ty xs at_end between after first inside rest split' few tok spelled item whole)

    read_loop : (between : List Signature) (first inside : List ℕ) → item ≡ first ++ inside → (grammar.token c parts.types).Spells first (opens opens_loop ty, between) → AreTokens c between inside (texts_of xs ++ has_end ∷ []) after → IsRead (in_loop ty xs)
    read_loop between first inside whole tok spelled =
        let split' : item ++ rest ≡ first ++ (inside ++ rest) = ap (λ (zs : List ℕ). zs ++ rest) whole ∙ append_assoc first inside rest in
        opens_so opens_loop ty xs at_end between after first inside rest split' few tok spelled
        ∙ ap (λ (r : Result (Code × Place) BinaryFault). then r (λ inner. unless_else inner.stop >>= (λ _. rest_behind coder (i.Loop (length parts.blocks)) (ended (length parts.blocks) ty inner.instrs inner.parts))))
        (inner_read opens_loop ty xs at_end between after first inside rest split' few tok spelled)
        ∙ rest_alike coder _ _ _ _ _ _ rest (ap i.Loop n.blocks)
        (parts_alike after _ _ _ _ (inner_blocks opens_loop ty xs at_end between after first inside rest split' few tok spelled) refl)
        (place_behind opens_loop ty xs at_end between after first inside rest split' few tok spelled item whole)

    abbrev if_behind : Code → Read Code
    if_behind first = second coder ty first.stop (ended (length parts.blocks) ty first.instrs first.parts) >>= rest_behind coder (i.If (length parts.blocks) (length first.parts.blocks))

    read_alone : (between : List Signature) (first inside : List ℕ) → item ≡ first ++ inside → (grammar.token c parts.types).Spells first (opens opens_if ty, between) → AreTokens c between inside (texts_of xs ++ has_end ∷ []) after → IsRead (if_alone ty xs)
    read_alone between first inside whole tok spelled =
        let split' : item ++ rest ≡ first ++ (inside ++ rest) = ap (λ (zs : List ℕ). zs ++ rest) whole ∙ append_assoc first inside rest in
        let f : Flat = flats_of (b + 1) t xs in
        opens_so opens_if ty xs at_end between after first inside rest split' few tok spelled
        ∙ ap (λ (r : Result (Code × Place) BinaryFault). then r if_behind) (inner_read opens_if ty xs at_end between after first inside rest split' few tok spelled)
        ∙ rest_alike coder _ _ _ _ _ _ rest (λ j. i.If (n.blocks j) (inner_count opens_if ty xs at_end between after first inside rest split' few tok spelled j))
        (parts_alike after _ _ _ _
        (ap (λ (bs : List Block). bs ++ block ty [] ∷ []) (inner_blocks opens_if ty xs at_end between after first inside rest split' few tok spelled)
        ∙ append_assoc parts.blocks (block ty f.instrs ∷ f.blocks) (block ty [] ∷ []))
        refl)
        (place_behind opens_if ty xs at_end between after first inside rest split' few tok spelled item whole)

    -- the second list of an if
    module _ (ys : Trees) (few' : length (texts_of ys) < k) (between middle : List Signature) (first inside behind' : List ℕ) (whole : item ≡ first ++ (inside ++ behind')) (tok : (grammar.token c parts.types).Spells first (opens opens_if ty, between)) (spelled : AreTokens c between inside (texts_of xs ++ has_else ∷ []) middle) (spelled' : AreTokens c middle behind' (texts_of ys ++ has_end ∷ []) after) where
      split_three : item ++ rest ≡ first ++ (inside ++ (behind' ++ rest))
      split_three =
          ap (λ (zs : List ℕ). zs ++ rest) whole ∙ append_assoc first (inside ++ behind') rest
          ∙ ap (λ (zs : List ℕ). first ++ zs) (append_assoc inside behind' rest)

      abbrev F : Flat
      F = flats_of (b + 1) t xs

      abbrev start : Place
      start = place ((p.at + length first) + length inside) (behind' ++ rest)

      abbrev middle_parts : CodeParts
      middle_parts = inner_parts opens_if ty xs at_else between middle first inside (behind' ++ rest) split_three few tok spelled

      abbrev G : Flat
      G = flats_of (b + 1 + length F.blocks + 1) (t + length F.targets) ys

      abbrev last : Code
      last = whole_of (b + 1 + length F.blocks + 1) (t + length F.targets) ys at_end (begun ty middle_parts) after

      second_read : coder (begun ty middle_parts) start ≡ done last (place (start.at + length behind') rest)
      second_read = ih ys at_end (b + 1 + length F.blocks + 1) (t + length F.targets) (begun ty middle_parts)
          (counts_begun (b + 1 + length F.blocks) (t + length F.targets) ty middle_parts (inner_counts opens_if ty xs at_else between middle first inside (behind' ++ rest) split_three few tok spelled))
          start behind' rest after refl spelled' few'

      last_blocks : (ended (length middle_parts.blocks) ty last.instrs last.parts).blocks ≡ parts.blocks ++ ((block ty F.instrs ∷ F.blocks) ++ block ty G.instrs ∷ G.blocks)
      last_blocks =
          filled ty G.instrs middle_parts.blocks G.blocks last.parts.blocks refl
          ∙ ap (λ (bs : List Block). bs ++ block ty G.instrs ∷ G.blocks) (inner_blocks opens_if ty xs at_else between middle first inside (behind' ++ rest) split_three few tok spelled)
          ∙ append_assoc parts.blocks (block ty F.instrs ∷ F.blocks) (block ty G.instrs ∷ G.blocks)

      abbrev filling : Code → Read CodeParts
      filling inner = unless_else inner.stop >>= (λ _. done (ended (length middle_parts.blocks) ty inner.instrs inner.parts))

      read_both : IsRead (if_else ty xs ys)
      read_both =
          opens_so opens_if ty xs at_else between middle first inside (behind' ++ rest) split_three few tok spelled
          ∙ ap (λ (r : Result (Code × Place) BinaryFault). then r if_behind) (inner_read opens_if ty xs at_else between middle first inside (behind' ++ rest) split_three few tok spelled)
          ∙ ap (λ (r : Result (Code × Place) BinaryFault). then (then r filling) (rest_behind coder (i.If (length parts.blocks) (length (inner opens_if ty xs at_else between middle first inside (behind' ++ rest) split_three few tok spelled).parts.blocks)))) second_read
          ∙ rest_alike coder _ _ _ _ _ _ rest (λ j. i.If (n.blocks j) (inner_count opens_if ty xs at_else between middle first inside (behind' ++ rest) split_three few tok spelled j))
          (parts_alike after _ _ _ _ last_blocks (append_assoc parts.targets F.targets G.targets))
          (omega (arith, ap length whole, length-append first (inside ++ behind'), length-append inside behind'))

  -- any tree, of few enough tokens
  tree_read : (x : Tree) → AreTokens c parts.types item (text_of x) after → length (text_of x) ≤ suc k → IsRead x
  tree_read (leaf instr) s few =
      by_token c k parts (straight instr) after p item rest split (token_of_one c (straight instr) item parts.types after s)
      ∙ rest_alike coder instr instr _ _ _ _ rest refl (parts_alike after _ _ _ _ (sym (append-nil parts.blocks)) (sym (append-nil parts.targets))) refl
  tree_read (branches targets) s few =
      by_token c k parts (table targets) after p item rest split (token_of_one c (table targets) item parts.types after s)
      ∙ rest_alike coder _ _ _ _ _ _ rest (ap i.BrTable n.targets) (parts_alike after _ _ _ _ (sym (append-nil parts.blocks)) refl) refl
  tree_read (in_block ty xs) s few =
      read_block ty xs (omega (arith, length-append (texts_of xs) (has_end ∷ []))) s.2 s.0 s.1 s.3 s.4 s.5
  tree_read (in_loop ty xs) s few =
      read_loop ty xs (omega (arith, length-append (texts_of xs) (has_end ∷ []))) s.2 s.0 s.1 s.3 s.4 s.5
  tree_read (if_alone ty xs) s few =
      read_alone ty xs (omega (arith, length-append (texts_of xs) (has_end ∷ []))) s.2 s.0 s.1 s.3 s.4 s.5
  tree_read (if_else ty xs ys) s few =
      let h = tokens_split c (texts_of xs ++ has_else ∷ []) (texts_of ys ++ has_end ∷ []) s.1 s.2 after s.5 in
      let one : length (texts_of xs ++ has_else ∷ []) ≡ length (texts_of xs) + 1 = length-append (texts_of xs) (has_else ∷ []) in
      let two : length (texts_of ys ++ has_end ∷ []) ≡ length (texts_of ys) + 1 = length-append (texts_of ys) (has_end ∷ []) in
      let all : length ((texts_of xs ++ has_else ∷ []) ++ (texts_of ys ++ has_end ∷ [])) ≡ length (texts_of xs ++ has_else ∷ []) + length (texts_of ys ++ has_end ∷ []) = length-append (texts_of xs ++ has_else ∷ []) (texts_of ys ++ has_end ∷ []) in
      read_both ty xs (omega arith) ys (omega arith) s.2 h.between s.0 h.front h.rest
      (s.3 ∙ ap (λ (zs : List ℕ). s.0 ++ zs) h.split) s.4 h.first h.second

-- ---- lists

-- a list ends
pub next_stop : (coder' : Coder) (s : Stop) (parts : CodeParts) (q : Place) → next coder' (stop_token s) parts q ≡ done (code [] s parts) q
next_stop coder' at_end parts q = refl
next_stop coder' at_else parts q = refl

code_alike : (is is' : List Instr) (s : Stop) (types : List Signature) (bs bs' : List Block) (ts ts' : List (List ℕ)) (at end' : ℕ) (rest : List ℕ) → is ≡ is' → bs ≡ bs' → ts ≡ ts' → at ≡ end' → done (code is s (parts_with types bs ts)) (place at rest) ≡ done (code is' s (parts_with types bs' ts')) (place end' rest)
code_alike is is' s types bs bs' ts ts' at end' rest e f g h = λ j. done (code (e j) s (parts_with types (f j) (g j))) (place (h j) rest)

one_at_least : (x : Tree) → 1 ≤ length (text_of x)
one_at_least (leaf instr) = omega arith
one_at_least (branches targets) = omega arith
one_at_least (in_block ty xs) = omega arith
one_at_least (in_loop ty xs) = omega arith
one_at_least (if_alone ty xs) = omega arith
one_at_least (if_else ty xs ys) = omega arith

list_read : (c : CodeContext) (k : ℕ) → ReadsAll c k → ReadsAll c (suc k)
list_read c k ih end s b t parts n p item rest after e spelled few =
    by_token c k parts (stop_token s) after p item rest e (token_of_one c (stop_token s) item parts.types after spelled)
    ∙ next_stop (code_to k c) s (with_types after parts) (place (p.at + length item) rest)
    ∙ code_alike [] [] s after _ _ _ _ _ _ rest refl (sym (append-nil parts.blocks)) (sym (append-nil parts.targets)) refl
list_read c k ih (before x xs) s b t parts n p item rest after e spelled few =
    let f : Flat = flat_of b t x in
    let g : Flat = flats_of (b + length f.blocks) (t + length f.targets) xs in
    let whole = subst (λ (ts : List Token). AreTokens c parts.types item ts after) (append_assoc (text_of x) (texts_of xs) (stop_token s ∷ [])) spelled in
    let h : Halves c (text_of x) (texts_of xs ++ stop_token s ∷ []) item parts.types after = tokens_split c (text_of x) (texts_of xs ++ stop_token s ∷ []) item parts.types after whole in
    let all : length (text_of x ++ texts_of xs) ≡ length (text_of x) + length (texts_of xs) = length-append (text_of x) (texts_of xs) in
    let least : 1 ≤ length (text_of x) = one_at_least x in
    let later : CodeParts = later_of b t x parts h.between in
    let split : p.left ≡ h.front ++ (h.rest ++ rest) = e ∙ ap (λ (zs : List ℕ). zs ++ rest) h.split ∙ append_assoc h.front h.rest rest in
    let there : Place = place (p.at + length h.front) (h.rest ++ rest) in
    tree_read c k ih b t parts n p h.front (h.rest ++ rest) h.between split x h.first (omega arith)
    ∙ ap (λ (r : Result (Code × Place) BinaryFault). then r (λ z. done (behind (instr_of b t x) z)))
    (ih xs s (b + length f.blocks) (t + length f.targets) later (counts_later b t x parts later n (record { blocks_are = refl; targets_are = refl })) there h.rest rest after refl h.second (omega arith))
    ∙ code_alike _ _ s after _ _ _ _ _ _ rest
    (ap (λ (is : List Instr). is ++ g.instrs) (sym (one_instr b t x)))
    (append_assoc parts.blocks f.blocks g.blocks) (append_assoc parts.targets f.targets g.targets)
    (omega (arith, ap length h.split, length-append h.front h.rest))

pub again : (c : CodeContext) (k : ℕ) → ReadsAll c k
again c zero xs s b t parts n p item rest after e spelled few = absurd (omega arith)
again c (suc k) xs s b t parts n p item rest after e spelled few = list_read c k (again c k) xs s b t parts n p item rest after e spelled few
