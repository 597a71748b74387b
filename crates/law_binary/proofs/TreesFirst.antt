-- Where the text of trees goes on with a token at fault, that fault is read.
use Rattle.std.proofs.Common.{◌≡◌, ◌≢◌, ◌⊎◌, ℕ, zero, suc, ◌+◌, ◌<◌, List, [], ◌∷◌, ◌++◌, length, Result, Err, inl, inr, arith, refl, sym, ◌∙◌, ap, subst, append_assoc}
use Rattle.std.proofs.lemmas.List.{length-append}
use Rattle.wasm_leb.specs.Places.{Place, place}
use Rattle.wasm_types.specs.Signatures.{Signature}
use Rattle.wasm_syntax.specs.declared.instr.Instr.{Instr}
use Rattle.wasm_syntax.specs.declared.instr.Instr.TheVariants as i
use Rattle.binary_types.specs.Reading.{Read, then, done, ◌>>=◌}
use Rattle.binary_types.specs.declared.faults.BinaryFault.{BinaryFault}
use Rattle.binary_code.specs.Code.{Code, Coder, Stop, at_end, at_else, behind, code_to, rest_behind, second, unless_else}
use Rattle.binary_code.specs.CodeParts.{begun, ended, listed_in, with_types}
use Rattle.binary_code.specs.declared.context.CodeContext.{CodeContext}
use Rattle.law_binary.specs.Code.{AreTokens, CodeParts, Opening, opens_block, opens_loop, opens_if, Token, straight, table, opens, has_else, has_end, Tree, leaf, branches, in_block, in_loop, if_alone, if_else, Trees, end, before, Written, text_of, texts_of}
use Rattle.law_binary.specs.Code as grammar
use Rattle.law_binary.proofs.TokenAgreement.{agree_token, code_is, goes, next, opened}
use Rattle.law_binary.proofs.Trees.{Halves, stop_token, tokens_split}
use Rattle.law_binary.proofs.TreesFaults.{own_counts}
use Rattle.law_binary.proofs.TreesRead.{again, by_token, whole_of}

-- two ways to cut one text: the first front ends within the other one, or goes beyond it
pub record Within (xs zs : List Token) : Type 0 where
  pub more : List Token
  pub is_open : more ≢ []
  pub whole : xs ++ more ≡ zs

pub record Beyond (xs ys zs us : List Token) : Type 0 where
  pub more : List Token
  pub front : xs ≡ zs ++ more
  pub rest : more ++ ys ≡ us

same_head : (x y : Token) (xs ys : List Token) → x ∷ xs ≡ y ∷ ys → x ≡ y
same_head x y xs ys e = cc e

same_tail : (x y : Token) (xs ys : List Token) → x ∷ xs ≡ y ∷ ys → xs ≡ ys
same_tail x y xs ys e = cc e

overlap : (xs ys zs us : List Token) → xs ++ ys ≡ zs ++ us → Within xs zs ⊎ Beyond xs ys zs us
overlap xs ys [] us e = inr (record { more = xs; front = refl; rest = e })
overlap [] ys (z ∷ zs) us e = inl (record { more = z ∷ zs; is_open = λ h. cc h; whole = refl })
overlap (x ∷ xs) ys (z ∷ zs) us e =
    let head : x ≡ z = same_head x z (xs ++ ys) (zs ++ us) e in
    elim (overlap xs ys zs us (same_tail x z (xs ++ ys) (zs ++ us) e)) [
      | inl w ↦ inl (record { more = w.more; is_open = w.is_open; whole = (λ j. head j ∷ w.whole j) })
      | inr w ↦ inr (record { more = w.more; front = (λ j. head j ∷ w.front j); rest = w.rest })
    ]

none_left : (xs ys : List Token) → xs ++ ys ≡ [] → ys ≡ []
none_left [] ys e = e
none_left (x ∷ xs) ys e = absurd (cc e)

-- the fault that a reader of at most so many instructions meets
abbrev pub FirstBy : CodeContext → ℕ → Type 0
FirstBy c k =
    (tokens more : List Token) (xs : Trees) (s : Stop) (parts : CodeParts) (p : Place) (front rest : List ℕ) (after : List Signature) (f : BinaryFault) → p.left ≡ front ++ rest
    → AreTokens c parts.types front tokens after → tokens ++ more ≡ texts_of xs ++ stop_token s ∷ [] → more ≢ []
    → (grammar.token c after).Fails (p.at + length front) rest f → length tokens < k → code_to k c parts p ≡ Err f

module _ (c : CodeContext) (k : ℕ) (ih : FirstBy c k) where
  abbrev coder : Coder
  coder = code_to k c

  -- the token at fault is the next one
  here_first : (parts : CodeParts) (p : Place) (front rest : List ℕ) (after : List Signature) (f : BinaryFault) → p.left ≡ front ++ rest → AreTokens c parts.types front [] after → (grammar.token c after).Fails (p.at + length front) rest f → code_to (suc k) c parts p ≡ Err f
  here_first parts p front rest after f e s h =
      let at : p.at + length front ≡ p.at = omega (arith, ap length s.0) in
      let left : rest ≡ p.left = sym (e ∙ ap (λ (zs : List ℕ). zs ++ rest) s.0) in
      let now : (grammar.token c parts.types).Fails p.at p.left f =
      subst (λ (ts : List Signature). (grammar.token c ts).Fails p.at p.left f) s.1
      (subst (λ (zs : List ℕ). (grammar.token c after).Fails p.at zs f) left
      (subst (λ (m : ℕ). (grammar.token c after).Fails m rest f) at h)) in
      code_is c k parts p ∙ ap (λ (o : Result (Written × Place) BinaryFault). then o (goes coder parts)) ((agree_token c parts.types).first p f now)

  -- within lists that are open: the tokens that are left, and how they go on
  module _ (p : Place) (others rest : List ℕ) (split : p.left ≡ others ++ rest) (after : List Signature) (ts more : List Token) (f : BinaryFault) (is_open : more ≢ []) (fails : (grammar.token c after).Fails (p.at + length others) rest f) (few : length ts < k) where
    -- the fault lies within this list
    inside : (parts : CodeParts) → AreTokens c parts.types others ts after → (ys : Trees) (s : Stop) → Within ts (texts_of ys ++ stop_token s ∷ []) → coder parts p ≡ Err f
    inside parts spelled ys s w = ih ts w.more ys s parts p others rest after f split spelled w.whole w.is_open fails few

    -- or beyond it
    module _ (parts : CodeParts) (spelled : AreTokens c parts.types others ts after) (ys : Trees) (s : Stop) (us : List Token) (b : Beyond ts more (texts_of ys ++ stop_token s ∷ []) us) where
      halves : Halves c (texts_of ys ++ stop_token s ∷ []) b.more others parts.types after
      halves = tokens_split c (texts_of ys ++ stop_token s ∷ []) b.more others parts.types after (subst (λ (zs : List Token). AreTokens c parts.types others zs after) b.front spelled)

      abbrev inner : Code
      inner = whole_of (length parts.blocks) (length parts.targets) ys s parts halves.between

      abbrev beyond : Place
      beyond = place (p.at + length halves.front) (halves.rest ++ rest)

      all_tokens : length ts ≡ (length (texts_of ys) + 1) + length b.more
      all_tokens =
          ap length b.front ∙ length-append (texts_of ys ++ stop_token s ∷ []) b.more
          ∙ ap (λ (m : ℕ). m + length b.more) (length-append (texts_of ys) (stop_token s ∷ []))

      passed : coder parts p ≡ done inner beyond
      passed = again c k ys s (length parts.blocks) (length parts.targets) parts (own_counts parts) p halves.front (halves.rest ++ rest) halves.between
          (split ∙ ap (λ (zs : List ℕ). zs ++ rest) halves.split ∙ append_assoc halves.front halves.rest rest)
          halves.first (omega (arith, all_tokens))

      fails_beyond : (grammar.token c after).Fails (beyond.at + length halves.rest) rest f
      fails_beyond = subst (λ (m : ℕ). (grammar.token c after).Fails m rest f) (omega (arith, ap length halves.split, length-append halves.front halves.rest)) fails

      few_beyond : length b.more < k
      few_beyond = omega (arith, all_tokens)

    -- what comes next is the rest of the list that holds this one
    rest_first : (instr : Instr) (parts : CodeParts) (q : Place) (left : List ℕ) → q.left ≡ left ++ rest → (us : List Token) → AreTokens c parts.types left us after → (xs : Trees) (s : Stop) → us ++ more ≡ texts_of xs ++ stop_token s ∷ [] → (grammar.token c after).Fails (q.at + length left) rest f → length us < k → rest_behind coder instr parts q ≡ Err f
    rest_first instr parts q left e us spelled xs s goes_on h l =
        ap (λ (o : Result (Code × Place) BinaryFault). then o (λ z. done (behind instr z))) (ih us more xs s parts q left rest after f e spelled goes_on is_open h l)

    -- behind the token that opens a list: blocks, loops, ifs
    module _ (parts : CodeParts) (ty : ℕ) (between : List Signature) (spelled : AreTokens c between others ts after) (ys : Trees) (xs : Trees) (s : Stop) where
      abbrev opened_parts : CodeParts
      opened_parts = begun ty (with_types between parts)

      block_first : (o : Opening) (instr : Instr) → ((q : Place) → opened coder o ty (with_types between parts) q ≡ then (coder opened_parts q) (λ z. unless_else z.stop >>= (λ _. rest_behind coder instr (ended (length parts.blocks) ty z.instrs z.parts)))) → ts ++ more ≡ (texts_of ys ++ has_end ∷ []) ++ (texts_of xs ++ stop_token s ∷ []) → opened coder o ty (with_types between parts) p ≡ Err f
      block_first o instr is goes_on = is p ∙ elim (overlap ts more (texts_of ys ++ has_end ∷ []) (texts_of xs ++ stop_token s ∷ []) goes_on) [
        | inl w ↦ ap (λ (r : Result (Code × Place) BinaryFault). then r (λ z. unless_else z.stop >>= (λ _. rest_behind coder instr (ended (length parts.blocks) ty z.instrs z.parts)))) (inside opened_parts spelled ys at_end w)
        | inr b ↦
            let h = halves opened_parts spelled ys at_end (texts_of xs ++ stop_token s ∷ []) b in
            let r : Code = inner opened_parts spelled ys at_end (texts_of xs ++ stop_token s ∷ []) b in
            ap (λ (r : Result (Code × Place) BinaryFault). then r (λ z. unless_else z.stop >>= (λ _. rest_behind coder instr (ended (length parts.blocks) ty z.instrs z.parts)))) (passed opened_parts spelled ys at_end (texts_of xs ++ stop_token s ∷ []) b)
            ∙ rest_first instr (ended (length parts.blocks) ty r.instrs r.parts) (beyond opened_parts spelled ys at_end (texts_of xs ++ stop_token s ∷ []) b) h.rest refl b.more h.second xs s b.rest
            (fails_beyond opened_parts spelled ys at_end (texts_of xs ++ stop_token s ∷ []) b) (few_beyond opened_parts spelled ys at_end (texts_of xs ++ stop_token s ∷ []) b)
      ]

      abbrev if_behind : Code → Read Code
      if_behind z = second coder ty z.stop (ended (length parts.blocks) ty z.instrs z.parts) >>= rest_behind coder (i.If (length parts.blocks) (length z.parts.blocks))

      alone_first : ts ++ more ≡ (texts_of ys ++ has_end ∷ []) ++ (texts_of xs ++ stop_token s ∷ []) → opened coder opens_if ty (with_types between parts) p ≡ Err f
      alone_first goes_on = elim (overlap ts more (texts_of ys ++ has_end ∷ []) (texts_of xs ++ stop_token s ∷ []) goes_on) [
        | inl w ↦ ap (λ (r : Result (Code × Place) BinaryFault). then r if_behind) (inside opened_parts spelled ys at_end w)
        | inr b ↦
            let h = halves opened_parts spelled ys at_end (texts_of xs ++ stop_token s ∷ []) b in
            let r : Code = inner opened_parts spelled ys at_end (texts_of xs ++ stop_token s ∷ []) b in
            ap (λ (r : Result (Code × Place) BinaryFault). then r if_behind) (passed opened_parts spelled ys at_end (texts_of xs ++ stop_token s ∷ []) b)
            ∙ rest_first (i.If (length parts.blocks) (length r.parts.blocks)) (begun ty (ended (length parts.blocks) ty r.instrs r.parts)) (beyond opened_parts spelled ys at_end (texts_of xs ++ stop_token s ∷ []) b) h.rest refl b.more h.second xs s b.rest
            (fails_beyond opened_parts spelled ys at_end (texts_of xs ++ stop_token s ∷ []) b) (few_beyond opened_parts spelled ys at_end (texts_of xs ++ stop_token s ∷ []) b)
      ]

  -- the second list of an if
  module _ (p : Place) (others rest : List ℕ) (split : p.left ≡ others ++ rest) (after : List Signature) (ts more : List Token) (f : BinaryFault) (is_open : more ≢ []) (fails : (grammar.token c after).Fails (p.at + length others) rest f) (few : length ts < k) (parts : CodeParts) (ty : ℕ) (spelled : AreTokens c parts.types others ts after) (zs : Trees) (xs : Trees) (s : Stop) (going : CodeParts → Read Code) (instr : Instr) (same : (later : CodeParts) (q : Place) → going later q ≡ rest_behind coder instr later q) where
    abbrev filling : Code → Read CodeParts
    filling z = unless_else z.stop >>= (λ _. done (ended (length parts.blocks) ty z.instrs z.parts))

    second_first : ts ++ more ≡ (texts_of zs ++ has_end ∷ []) ++ (texts_of xs ++ stop_token s ∷ []) → then (then (coder (begun ty parts) p) filling) going ≡ Err f
    second_first goes_on = elim (overlap ts more (texts_of zs ++ has_end ∷ []) (texts_of xs ++ stop_token s ∷ []) goes_on) [
      | inl w ↦ ap (λ (r : Result (Code × Place) BinaryFault). then (then r filling) going) (inside p others rest split after ts more f is_open fails few (begun ty parts) spelled zs at_end w)
      | inr b ↦
          let h = halves p others rest split after ts more f is_open fails few (begun ty parts) spelled zs at_end (texts_of xs ++ stop_token s ∷ []) b in
          let r : Code = inner p others rest split after ts more f is_open fails few (begun ty parts) spelled zs at_end (texts_of xs ++ stop_token s ∷ []) b in
          let q : Place = beyond p others rest split after ts more f is_open fails few (begun ty parts) spelled zs at_end (texts_of xs ++ stop_token s ∷ []) b in
          ap (λ (r : Result (Code × Place) BinaryFault). then (then r filling) going) (passed p others rest split after ts more f is_open fails few (begun ty parts) spelled zs at_end (texts_of xs ++ stop_token s ∷ []) b)
          ∙ same (ended (length parts.blocks) ty r.instrs r.parts) q
          ∙ rest_first p others rest split after ts more f is_open fails few instr (ended (length parts.blocks) ty r.instrs r.parts) q h.rest refl b.more h.second xs s b.rest
          (fails_beyond p others rest split after ts more f is_open fails few (begun ty parts) spelled zs at_end (texts_of xs ++ stop_token s ∷ []) b)
          (few_beyond p others rest split after ts more f is_open fails few (begun ty parts) spelled zs at_end (texts_of xs ++ stop_token s ∷ []) b)
    ]

  module _ (p : Place) (others rest : List ℕ) (split : p.left ≡ others ++ rest) (after : List Signature) (ts more : List Token) (f : BinaryFault) (is_open : more ≢ []) (fails : (grammar.token c after).Fails (p.at + length others) rest f) (few : length ts < k) (parts : CodeParts) (ty : ℕ) (between : List Signature) (spelled : AreTokens c between others ts after) (ys zs : Trees) (xs : Trees) (s : Stop) where
    abbrev last_text : List Token
    last_text = (texts_of zs ++ has_end ∷ []) ++ (texts_of xs ++ stop_token s ∷ [])

    abbrev opening_parts : CodeParts
    opening_parts = begun ty (with_types between parts)

    abbrev whole_if : Code → Read Code
    whole_if z = second coder ty z.stop (ended (length parts.blocks) ty z.instrs z.parts) >>= rest_behind coder (i.If (length parts.blocks) (length z.parts.blocks))

    both_first : ts ++ more ≡ (texts_of ys ++ has_else ∷ []) ++ last_text → opened coder opens_if ty (with_types between parts) p ≡ Err f
    both_first goes_on = elim (overlap ts more (texts_of ys ++ has_else ∷ []) last_text goes_on) [
      | inl w ↦ ap (λ (r : Result (Code × Place) BinaryFault). then r whole_if) (inside p others rest split after ts more f is_open fails few opening_parts spelled ys at_else w)
      | inr b ↦
          let h = halves p others rest split after ts more f is_open fails few opening_parts spelled ys at_else last_text b in
          let r : Code = inner p others rest split after ts more f is_open fails few opening_parts spelled ys at_else last_text b in
          let q : Place = beyond p others rest split after ts more f is_open fails few opening_parts spelled ys at_else last_text b in
          ap (λ (r : Result (Code × Place) BinaryFault). then r whole_if) (passed p others rest split after ts more f is_open fails few opening_parts spelled ys at_else last_text b)
          ∙ second_first q h.rest rest refl after b.more more f is_open
          (fails_beyond p others rest split after ts more f is_open fails few opening_parts spelled ys at_else last_text b)
          (few_beyond p others rest split after ts more f is_open fails few opening_parts spelled ys at_else last_text b)
          (ended (length parts.blocks) ty r.instrs r.parts) ty h.second zs xs s
          (rest_behind coder (i.If (length parts.blocks) (length r.parts.blocks))) (i.If (length parts.blocks) (length r.parts.blocks)) (λ later z. refl) b.rest
    ]

  -- a token that is whole, at the beginning of a tree
  module _ (parts : CodeParts) (p : Place) (tok : Token) (ts more : List Token) (front rest : List ℕ) (after : List Signature) (f : BinaryFault) (split : p.left ≡ front ++ rest) (s : AreTokens c parts.types front (tok ∷ ts) after) (is_open : more ≢ []) (fails : (grammar.token c after).Fails (p.at + length front) rest f) (few : length ts < k) (xs : Trees) (stop : Stop) where
    abbrev behind_it : Place
    behind_it = place (p.at + length s.0) (s.1 ++ rest)

    abbrev Follows : Type 0
    Follows = code_to (suc k) c parts p ≡ Err f

    -- what is behind the token is read next
    token_first : (t : Token) → tok ≡ t → next coder t (with_types s.2 parts) behind_it ≡ Err f → Follows
    token_first t e h =
        by_token c k parts t s.2 p s.0 (s.1 ++ rest) (split ∙ ap (λ (zs : List ℕ). zs ++ rest) s.3 ∙ append_assoc s.0 s.1 rest)
        (subst (λ (z : Token). (grammar.token c parts.types).Spells s.0 (z, s.2)) e s.4)
        ∙ h

    fails_behind : (grammar.token c after).Fails (behind_it.at + length s.1) rest f
    fails_behind = subst (λ (m : ℕ). (grammar.token c after).Fails m rest f) (omega (arith, ap length s.3, length-append s.0 s.1)) fails

    -- the text of a tree and of those behind it begins with a token
    regroup : (t : Token) (own : List Token) → tok ∷ (ts ++ more) ≡ ((t ∷ own) ++ texts_of xs) ++ stop_token stop ∷ [] → (tok ≡ t) × (ts ++ more ≡ own ++ (texts_of xs ++ stop_token stop ∷ []))
    regroup t own e =
        let whole : tok ∷ (ts ++ more) ≡ t ∷ (own ++ (texts_of xs ++ stop_token stop ∷ [])) = e ∙ append_assoc (t ∷ own) (texts_of xs) (stop_token stop ∷ []) in
        (same_head tok t _ _ whole, same_tail tok t _ _ whole)

    tree_first : (x : Tree) → tok ∷ (ts ++ more) ≡ (text_of x ++ texts_of xs) ++ stop_token stop ∷ [] → Follows
    tree_first (leaf instr) e =
        let g = regroup (straight instr) [] e in
        token_first (straight instr) g.0
        (rest_first behind_it s.1 rest refl after ts more f is_open fails_behind few instr (with_types s.2 parts) behind_it s.1 refl ts s.5 xs stop g.1 fails_behind few)
    tree_first (branches targets) e =
        let g = regroup (table targets) [] e in
        token_first (table targets) g.0
        (rest_first behind_it s.1 rest refl after ts more f is_open fails_behind few (i.BrTable (length parts.targets)) (listed_in targets (with_types s.2 parts)) behind_it s.1 refl ts s.5 xs stop g.1 fails_behind few)
    tree_first (in_block ty ys) e =
        let g = regroup (opens opens_block ty) (texts_of ys ++ has_end ∷ []) e in
        token_first (opens opens_block ty) g.0
        (block_first behind_it s.1 rest refl after ts more f is_open fails_behind few parts ty s.2 s.5 ys xs stop opens_block (i.Block (length parts.blocks)) (λ q. refl) g.1)
    tree_first (in_loop ty ys) e =
        let g = regroup (opens opens_loop ty) (texts_of ys ++ has_end ∷ []) e in
        token_first (opens opens_loop ty) g.0
        (block_first behind_it s.1 rest refl after ts more f is_open fails_behind few parts ty s.2 s.5 ys xs stop opens_loop (i.Loop (length parts.blocks)) (λ q. refl) g.1)
    tree_first (if_alone ty ys) e =
        let g = regroup (opens opens_if ty) (texts_of ys ++ has_end ∷ []) e in
        token_first (opens opens_if ty) g.0
        (alone_first behind_it s.1 rest refl after ts more f is_open fails_behind few parts ty s.2 s.5 ys xs stop g.1)
    tree_first (if_else ty ys zs) e =
        let g = regroup (opens opens_if ty) ((texts_of ys ++ has_else ∷ []) ++ (texts_of zs ++ has_end ∷ [])) e in
        token_first (opens opens_if ty) g.0
        (both_first behind_it s.1 rest refl after ts more f is_open fails_behind few parts ty s.2 s.5 ys zs xs stop
        (g.1 ∙ append_assoc (texts_of ys ++ has_else ∷ []) (texts_of zs ++ has_end ∷ []) (texts_of xs ++ stop_token stop ∷ [])))

  first_read : FirstBy c (suc k)
  first_read [] more xs s parts p front rest after f e spelled goes_on is_open h few = here_first parts p front rest after f e spelled h
  first_read (tok ∷ ts) more end s parts p front rest after f e spelled goes_on is_open h few =
      absurd (is_open (none_left ts more (same_tail tok (stop_token s) (ts ++ more) [] goes_on)))
  first_read (tok ∷ ts) more (before x xs) s parts p front rest after f e spelled goes_on is_open h few =
      tree_first parts p tok ts more front rest after f e spelled is_open h (omega arith) xs s x goes_on

pub first : (c : CodeContext) (k : ℕ) → FirstBy c k
first c zero tokens more xs s parts p front rest after f e spelled goes_on is_open h few = absurd (omega arith)
first c (suc k) tokens more xs s parts p front rest after f e spelled goes_on is_open h few =
    first_read c k (first c k) tokens more xs s parts p front rest after f e spelled goes_on is_open h few
