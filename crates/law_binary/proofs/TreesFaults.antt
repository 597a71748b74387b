-- A fault in code is read where the text of trees goes on with a token at fault.
use Rattle.std.proofs.Common.{◌≡◌, ◌≢◌, ◌⊎◌, ℕ, zero, suc, ◌+◌, List, [], ◌∷◌, ◌++◌, length, Ok, Err, inl, inr, arith, refl, sym, ◌∙◌, ap, subst, append_assoc, append-nil}
use Rattle.std.proofs.lemmas.List.{length-append}
use Rattle.wasm_leb.specs.Items.{Lie}
use Rattle.wasm_leb.specs.Places.{Place, place}
use Rattle.wasm_types.specs.Signatures.{Signature}
use Rattle.wasm_syntax.specs.declared.instr.Instr.{Instr}
use Rattle.wasm_syntax.specs.declared.instr.Instr.TheVariants as i
use Rattle.binary_types.specs.Reading.{Read, then, done, ◌>>=◌}
use Rattle.binary_types.specs.declared.faults.BinaryFault.{BinaryFault}
use Rattle.binary_types.specs.declared.faults.BinaryFault.TheVariants.{Malformed}
use Rattle.binary_code.specs.Code.{Code, Coder, Stop, at_end, at_else, behind, code_to, rest_behind, second, unless_else}
use Rattle.binary_code.specs.CodeParts.{begun, block, ended, listed_in, with_types}
use Rattle.binary_code.specs.declared.context.CodeContext.{CodeContext}
use Rattle.law_binary.specs.Code.{AreTokens, CodeParts, HasFault, Opening, opens_block, opens_loop, opens_if, Token, straight, table, opens, has_else, has_end, Tree, leaf, branches, in_block, in_loop, if_alone, if_else, Trees, end, before, Written, text_of, texts_of}
use Rattle.law_binary.specs.Code as grammar
use Rattle.law_binary.proofs.Combining.{then_ok, then_err, both, both_lie, lie_on, same_value, same_place}
use Rattle.law_binary.proofs.TokenAgreement.{agree_token, code_is, goes, next, opened, token}
use Rattle.law_binary.proofs.Trees.{Counts, Found, one_token, stop_token, tokens_both}
use Rattle.law_binary.proofs.TreesFound.{found, unless_else_ok}

no_more : (ts : List Token) (t : Token) → ts ++ t ∷ [] ≢ []
no_more [] t e = cc e
no_more (x ∷ xs) t e = cc e

module _ (c : CodeContext) (types : List Signature) (at : ℕ) (bytes : List ℕ) (f : BinaryFault) where
  fails_at : (ts : List Signature) (k m : ℕ) (left : List ℕ) → k ≡ m → (grammar.token c ts).Fails k left f → (grammar.token c ts).Fails m left f
  fails_at ts k m left e h = subst (λ (z : ℕ). (grammar.token c ts).Fails z left f) e h

  -- at once
  fault_here : (grammar.token c types).Fails at bytes f → HasFault c types at bytes f
  fault_here h = record {
    tokens = [];
    front = [];
    rest = bytes;
    after = types;
    split = refl;
    spelled = (refl, refl);
    trees = end;
    more = has_end ∷ [];
    goes_on = refl;
    is_open = no_more [] has_end;
    fails = fails_at types at (at + 0) bytes (omega arith) h;
  }

  -- behind a tree
  fault_behind : (x : Tree) (item : List ℕ) (between : List Signature) (p : Place) → AreTokens c types item (text_of x) between → Lie (place at bytes) item p → HasFault c between p.at p.left f → HasFault c types at bytes f
  fault_behind x item between p s l h = record {
    tokens = text_of x ++ h.tokens;
    front = item ++ h.front;
    rest = h.rest;
    after = h.after;
    split = l.left ∙ ap (λ (zs : List ℕ). item ++ zs) h.split ∙ sym (append_assoc item h.front h.rest);
    spelled = tokens_both c (text_of x) h.tokens item h.front types between h.after s h.spelled;
    trees = before x h.trees;
    more = h.more;
    goes_on =
        append_assoc (text_of x) h.tokens h.more ∙ ap (λ (ts : List Token). text_of x ++ ts) h.goes_on
        ∙ sym (append_assoc (text_of x) (texts_of h.trees) (has_end ∷ []));
    is_open = h.is_open;
    fails = fails_at h.after (p.at + length h.front) (at + length (item ++ h.front)) h.rest (omega (arith, l.at, length-append item h.front)) h.fails;
  }

  -- within a list that these tokens open, which is the last one of a tree
  fault_within : (x : Trees → Tree) (opening : List Token) → ((xs : Trees) → text_of (x xs) ≡ opening ++ (texts_of xs ++ has_end ∷ [])) → (item : List ℕ) (between : List Signature) (p : Place) → AreTokens c types item opening between → Lie (place at bytes) item p → HasFault c between p.at p.left f → HasFault c types at bytes f
  fault_within x opening text item between p s l h = record {
    tokens = opening ++ h.tokens;
    front = item ++ h.front;
    rest = h.rest;
    after = h.after;
    split = l.left ∙ ap (λ (zs : List ℕ). item ++ zs) h.split ∙ sym (append_assoc item h.front h.rest);
    spelled = tokens_both c opening h.tokens item h.front types between h.after s h.spelled;
    trees = before (x h.trees) end;
    more = h.more ++ has_end ∷ [];
    goes_on =
        append_assoc opening h.tokens (h.more ++ has_end ∷ [])
        ∙ ap (λ (ts : List Token). opening ++ ts) (sym (append_assoc h.tokens h.more (has_end ∷ [])) ∙ ap (λ (ts : List Token). ts ++ has_end ∷ []) h.goes_on)
        ∙ sym (append_assoc opening (texts_of h.trees ++ has_end ∷ []) (has_end ∷ []))
        ∙ ap (λ (ts : List Token). ts ++ has_end ∷ []) (sym (text h.trees) ∙ sym (append-nil (text_of (x h.trees))));
    is_open = no_more h.more has_end;
    fails = fails_at h.after (p.at + length h.front) (at + length (item ++ h.front)) h.rest (omega (arith, l.at, length-append item h.front)) h.fails;
  }

-- ---- a fault that is read is one of the grammar

-- what a reader of lists of code meets
abbrev pub FaultBy : CodeContext → Coder → Type 0
FaultBy c coder = (parts : CodeParts) (p : Place) (f : BinaryFault) → coder parts p ≡ Err f → (f ≡ Malformed) ⊎ HasFault c parts.types p.at p.left f

lift : {A B C : Type 0} → (B → C) → A ⊎ B → A ⊎ C
lift g (inl a) = inl a
lift g (inr b) = inr (g b)

pub unless_else_err : (s : Stop) (p : Place) (f : BinaryFault) → unless_else s p ≡ Err f → f ≡ Malformed
unless_else_err at_end p f e = absurd (cc e)
unless_else_err at_else p f e = let s : Malformed ≡ f = cc e in sym s

rest_err : (coder : Coder) (instr : Instr) (parts : CodeParts) (p : Place) (f : BinaryFault) → rest_behind coder instr parts p ≡ Err f → coder parts p ≡ Err f
rest_err coder instr parts p f e = elim (then_err (coder parts p) (λ s. done (behind instr s)) f e) [ inl h ↦ h | inr h ↦ absurd (cc h.3) ]

pub own_counts : (parts : CodeParts) → Counts (length parts.blocks) (length parts.targets) parts
own_counts parts = record { blocks = refl; targets = refl }

module _ (c : CodeContext) (k : ℕ) (ih : FaultBy c (code_to k c)) (parts : CodeParts) (p : Place) (f : BinaryFault) (types : List Signature) (item : List ℕ) (p1 : Place) (l : Lie p item p1) where
  abbrev coder : Coder
  coder = code_to k c

  abbrev Owed : Type 0
  Owed = (f ≡ Malformed) ⊎ HasFault c parts.types p.at p.left f

  -- a list within, which is read
  module _ (ty : ℕ) (o : Opening) (tok : (grammar.token c parts.types).Spells item (opens o ty, types)) (r1 : Code) (p2 : Place) (read : coder (begun ty (with_types types parts)) p1 ≡ Ok (both r1 p2)) where
    inner : Found c (length (parts.blocks ++ block ty [] ∷ [])) (length parts.targets) (begun ty (with_types types parts)) p1 r1 p2
    inner = found c k _ _ (begun ty (with_types types parts)) (own_counts (begun ty (with_types types parts))) p1 r1 p2 read

    inner_tokens : (s : Stop) → r1.stop ≡ s → AreTokens c parts.types (item ++ inner.item) (opens o ty ∷ texts_of inner.trees ++ stop_token s ∷ []) r1.parts.types
    inner_tokens s e =
        tokens_both c (opens o ty ∷ []) (texts_of inner.trees ++ stop_token s ∷ []) item inner.item parts.types types r1.parts.types
        (one_token c (opens o ty) item parts.types types tok)
        (subst (λ (z : Stop). AreTokens c types inner.item (texts_of inner.trees ++ stop_token z ∷ []) r1.parts.types) e inner.spelled)

    inner_lies : (q : Place) → p2 ≡ q → Lie p (item ++ inner.item) q
    inner_lies q e = lie_on p p2 q (item ++ inner.item) (both_lie p p1 p2 item inner.item l inner.lie) e

    abbrev inner_parts : CodeParts
    inner_parts = ended (length parts.blocks) ty r1.instrs r1.parts

    -- the rest behind a block or a loop
    behind_one : (x : Trees → Tree) (instr : Instr) → ((xs : Trees) → text_of (x xs) ≡ opens o ty ∷ texts_of xs ++ has_end ∷ []) → then (unless_else r1.stop p2) (λ _. rest_behind coder instr inner_parts) ≡ Err f → Owed
    behind_one x instr text e = elim (then_err (unless_else r1.stop p2) (λ _. rest_behind coder instr inner_parts) f e) [
      | inl h ↦ inl (unless_else_err r1.stop p2 f h)
      | inr h ↦
          let u = unless_else_ok r1.stop p2 h.0 h.1 h.2 in
          lift (fault_behind c parts.types p.at p.left f (x inner.trees) (item ++ inner.item) r1.parts.types h.1
          (subst (λ (ts : List Token). AreTokens c parts.types (item ++ inner.item) ts r1.parts.types) (sym (text inner.trees)) (inner_tokens at_end u.0))
          (inner_lies h.1 u.1))
          (ih inner_parts h.1 f (rest_err coder instr inner_parts h.1 f h.3))
    ]

    -- the rest behind an if without a second list
    abbrev going : CodeParts → Read Code
    going whole = rest_behind coder (i.If (length parts.blocks) (length r1.parts.blocks)) whole

    behind_alone : o ≡ opens_if → r1.stop ≡ at_end → (whole : CodeParts) (p3 : Place) → done (begun ty inner_parts) p2 ≡ Ok (both whole p3) → going whole p3 ≡ Err f → Owed
    behind_alone e stop whole p3 d g =
        let same : begun ty inner_parts ≡ whole = same_value (begun ty inner_parts) whole p2 p3 d in
        let types_are : r1.parts.types ≡ whole.types = ap (λ (z : CodeParts). z.types) same in
        lift (fault_behind c parts.types p.at p.left f (if_alone ty inner.trees) (item ++ inner.item) whole.types p3
        (subst (λ (ts : List Signature). AreTokens c parts.types (item ++ inner.item) (text_of (if_alone ty inner.trees)) ts) types_are
        (subst (λ (z : Opening). AreTokens c parts.types (item ++ inner.item) (opens z ty ∷ texts_of inner.trees ++ has_end ∷ []) r1.parts.types) e (inner_tokens at_end stop)))
        (inner_lies p3 (same_place (begun ty inner_parts) whole p2 p3 d)))
        (ih whole p3 f (rest_err coder (i.If (length parts.blocks) (length r1.parts.blocks)) whole p3 f g))

    -- the text in front of the second list of an if
    abbrev first_text : List Token
    first_text = opens opens_if ty ∷ texts_of inner.trees ++ has_else ∷ []

    first_tokens : o ≡ opens_if → r1.stop ≡ at_else → AreTokens c parts.types (item ++ inner.item) first_text r1.parts.types
    first_tokens e stop = subst (λ (z : Opening). AreTokens c parts.types (item ++ inner.item) (opens z ty ∷ texts_of inner.trees ++ has_else ∷ []) r1.parts.types) e (inner_tokens at_else stop)

    -- within the second list, and behind it
    within_second : o ≡ opens_if → r1.stop ≡ at_else → coder (begun ty inner_parts) p2 ≡ Err f → Owed
    within_second e stop g =
        lift (fault_within c parts.types p.at p.left f (if_else ty inner.trees) first_text (λ xs. refl) (item ++ inner.item) r1.parts.types p2
        (first_tokens e stop) (inner_lies p2 refl))
        (ih (begun ty inner_parts) p2 f g)

    module _ (r2 : Code) (p4 : Place) (read' : coder (begun ty inner_parts) p2 ≡ Ok (both r2 p4)) where
      second_found : Found c (length (inner_parts.blocks ++ block ty [] ∷ [])) (length inner_parts.targets) (begun ty inner_parts) p2 r2 p4
      second_found = found c k _ _ (begun ty inner_parts) (own_counts (begun ty inner_parts)) p2 r2 p4 read'

      abbrev last_parts : CodeParts
      last_parts = ended (length inner_parts.blocks) ty r2.instrs r2.parts

      behind_both : o ≡ opens_if → r1.stop ≡ at_else → r2.stop ≡ at_end → (p5 : Place) → p4 ≡ p5 → (whole : CodeParts) (p3 : Place) → done last_parts p5 ≡ Ok (both whole p3) → going whole p3 ≡ Err f → Owed
      behind_both e first last p5 here whole p3 d g =
          let same : last_parts ≡ whole = same_value last_parts whole p5 p3 d in
          let types_are : r2.parts.types ≡ whole.types = ap (λ (z : CodeParts). z.types) same in
          lift (fault_behind c parts.types p.at p.left f (if_else ty inner.trees second_found.trees) ((item ++ inner.item) ++ second_found.item) whole.types p3
          (subst (λ (ts : List Signature). AreTokens c parts.types ((item ++ inner.item) ++ second_found.item) (text_of (if_else ty inner.trees second_found.trees)) ts) types_are
          (tokens_both c first_text (texts_of second_found.trees ++ has_end ∷ []) (item ++ inner.item) second_found.item parts.types r1.parts.types r2.parts.types
          (first_tokens e first)
          (subst (λ (z : Stop). AreTokens c r1.parts.types second_found.item (texts_of second_found.trees ++ stop_token z ∷ []) r2.parts.types) last second_found.spelled)))
          (lie_on p p4 p3 ((item ++ inner.item) ++ second_found.item) (both_lie p p2 p4 (item ++ inner.item) second_found.item (inner_lies p2 refl) second_found.lie) (here ∙ same_place last_parts whole p5 p3 d)))
          (ih whole p3 f (rest_err coder (i.If (length parts.blocks) (length r1.parts.blocks)) whole p3 f g))

    abbrev filling : Code → Read CodeParts
    filling z = unless_else z.stop >>= (λ _. done (ended (length inner_parts.blocks) ty z.instrs z.parts))

    second_fault : o ≡ opens_if → (s : Stop) → r1.stop ≡ s → then (second coder ty s inner_parts p2) going ≡ Err f → Owed
    second_fault e at_end stop g = elim (then_err (done (begun ty inner_parts) p2) going f g) [
      | inl h ↦ absurd (cc h)
      | inr h ↦ behind_alone e stop h.0 h.1 h.2 h.3
    ]
    second_fault e at_else stop g = elim (then_err (second coder ty at_else inner_parts p2) going f g) [
      | inl h ↦ elim (then_err (coder (begun ty inner_parts) p2) filling f h) [
        | inl m ↦ within_second e stop m
        | inr m ↦ elim (then_err (unless_else m.0.stop m.1) (λ _. done (ended (length inner_parts.blocks) ty m.0.instrs m.0.parts)) f m.3) [
          | inl u ↦ inl (unless_else_err m.0.stop m.1 f u)
          | inr u ↦ absurd (cc u.3)
        ]
      ]
      | inr h ↦
          let m = then_ok (coder (begun ty inner_parts) p2) filling h.0 h.1 h.2 in
          let u = then_ok (unless_else m.0.stop m.1) (λ _. done (ended (length inner_parts.blocks) ty m.0.instrs m.0.parts)) h.0 h.1 m.3 in
          let s = unless_else_ok m.0.stop m.1 u.0 u.1 u.2 in
          behind_both m.0 m.1 m.2 e stop s.0 u.1 s.1 h.0 h.1 u.3 h.3
    ]

  -- what follows a token
  opened_fault : (o : Opening) (ty : ℕ) → (grammar.token c parts.types).Spells item (opens o ty, types) → opened coder o ty (with_types types parts) p1 ≡ Err f → Owed
  opened_fault opens_block ty tok e =
      elim (then_err (coder (begun ty (with_types types parts)) p1) (λ z. unless_else z.stop >>= (λ _. rest_behind coder (i.Block (length parts.blocks)) (ended (length parts.blocks) ty z.instrs z.parts))) f e) [
        | inl h ↦ lift (fault_within c parts.types p.at p.left f (in_block ty) (opens opens_block ty ∷ []) (λ xs. refl) item types p1 (one_token c (opens opens_block ty) item parts.types types tok) l) (ih (begun ty (with_types types parts)) p1 f h)
        | inr h ↦ behind_one ty opens_block tok h.0 h.1 h.2 (in_block ty) (i.Block (length parts.blocks)) (λ xs. refl) h.3
      ]
  opened_fault opens_loop ty tok e =
      elim (then_err (coder (begun ty (with_types types parts)) p1) (λ z. unless_else z.stop >>= (λ _. rest_behind coder (i.Loop (length parts.blocks)) (ended (length parts.blocks) ty z.instrs z.parts))) f e) [
        | inl h ↦ lift (fault_within c parts.types p.at p.left f (in_loop ty) (opens opens_loop ty ∷ []) (λ xs. refl) item types p1 (one_token c (opens opens_loop ty) item parts.types types tok) l) (ih (begun ty (with_types types parts)) p1 f h)
        | inr h ↦ behind_one ty opens_loop tok h.0 h.1 h.2 (in_loop ty) (i.Loop (length parts.blocks)) (λ xs. refl) h.3
      ]
  opened_fault opens_if ty tok e =
      elim (then_err (coder (begun ty (with_types types parts)) p1) (λ z. second coder ty z.stop (ended (length parts.blocks) ty z.instrs z.parts) >>= rest_behind coder (i.If (length parts.blocks) (length z.parts.blocks))) f e) [
        | inl h ↦ lift (fault_within c parts.types p.at p.left f (if_alone ty) (opens opens_if ty ∷ []) (λ xs. refl) item types p1 (one_token c (opens opens_if ty) item parts.types types tok) l) (ih (begun ty (with_types types parts)) p1 f h)
        | inr h ↦ second_fault ty opens_if tok h.0 h.1 h.2 refl h.0.stop refl h.3
      ]

  token_fault : (tok : Token) → (grammar.token c parts.types).Spells item (tok, types) → next coder tok (with_types types parts) p1 ≡ Err f → Owed
  token_fault (straight instr) tok e =
      lift (fault_behind c parts.types p.at p.left f (leaf instr) item types p1 (one_token c (straight instr) item parts.types types tok) l)
      (ih (with_types types parts) p1 f (rest_err coder instr (with_types types parts) p1 f e))
  token_fault (table targets) tok e =
      lift (fault_behind c parts.types p.at p.left f (branches targets) item types p1 (one_token c (table targets) item parts.types types tok) l)
      (ih (listed_in targets (with_types types parts)) p1 f (rest_err coder (i.BrTable (length parts.targets)) (listed_in targets (with_types types parts)) p1 f e))
  token_fault (opens o ty) tok e = opened_fault o ty tok e
  token_fault has_else tok e = absurd (cc e)
  token_fault has_end tok e = absurd (cc e)

pub faulty : (c : CodeContext) (k : ℕ) → FaultBy c (code_to k c)
faulty c zero parts p f e = let s : Malformed ≡ f = cc e in inl (sym s)
faulty c (suc k) parts p f e =
    elim (then_err (token c parts.types p) (goes (code_to k c) parts) f (sym (code_is c k parts p) ∙ e)) [
      | inl h ↦ lift (fault_here c parts.types p.at p.left f) ((agree_token c parts.types).fault p f h)
      | inr h ↦
          let m = (agree_token c parts.types).found p h.0 h.1 h.2 in
          token_fault c k (faulty c k) parts p f h.0.1 m.0 h.1 m.2 h.0.0 m.1 h.3
    ]
