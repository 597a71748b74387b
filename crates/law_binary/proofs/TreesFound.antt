-- Code that is read is the text of trees.
use Rattle.std.proofs.Common.{◌≡◌, ℕ, zero, suc, ◌+◌, List, [], ◌∷◌, ◌++◌, length, Ok, arith, refl, sym, ◌∙◌, ap, subst, append-nil}
use Rattle.std.proofs.lemmas.List.{length-append}
use Rattle.wasm_leb.specs.Items.{Lie}
use Rattle.wasm_leb.specs.Places.{Place}
use Rattle.wasm_types.specs.Signatures.{Signature}
use Rattle.wasm_syntax.specs.declared.instr.Instr.{Instr}
use Rattle.wasm_syntax.specs.declared.instr.Instr.TheVariants as i
use Rattle.binary_types.specs.Reading.{Read, then, done, ◌>>=◌}
use Rattle.binary_code.specs.Code.{Code, Coder, Stop, at_end, at_else, behind, code, code_to, rest_behind, second, unless_else}
use Rattle.binary_code.specs.CodeParts.{begun, block, ended, listed_in, with_types}
use Rattle.binary_code.specs.declared.context.CodeContext.{CodeContext}
use Rattle.law_binary.specs.Code.{AreTokens, CodeParts, Flat, Opening, opens_block, opens_loop, opens_if, Token, straight, table, opens, has_else, has_end, Tree, leaf, branches, in_block, in_loop, if_alone, if_else, Trees, end, Written, flat_of, flats_of, text_of, texts_of}
use Rattle.law_binary.specs.Code as grammar
use Rattle.law_binary.proofs.Combining.{then_ok, both, both_lie, lie_on, same_value, same_place}
use Rattle.law_binary.proofs.TokenAgreement.{agree_token, code_is, goes, next, opened, token}
use Rattle.law_binary.proofs.Trees.{Counts, both_parts, Found, Grown, counts_begun, counts_later, filled, found_tree, instr_of, one_token, stop_token, tokens_both}

-- what a reader of lists of code finds
abbrev pub FoundBy : CodeContext → Coder → Type 0
FoundBy c coder = (b t : ℕ) (parts : CodeParts) → Counts b t parts → (p : Place) (r : Code) (q : Place) → coder parts p ≡ Ok (both r q) → Found c b t parts p r q

pub unless_else_ok : (s : Stop) (p : Place) (r : Stop) (q : Place) → unless_else s p ≡ Ok (both r q) → (s ≡ at_end) × (p ≡ q)
unless_else_ok at_end p r q e = (refl, same_place at_end r p q e)
unless_else_ok at_else p r q e = absurd (cc e)

rest_ok : (coder : Coder) (instr : Instr) (parts : CodeParts) (p : Place) (r : Code) (q : Place) → rest_behind coder instr parts p ≡ Ok (both r q) → (s : Code) × (coder parts p ≡ Ok (both s q)) × (behind instr s ≡ r)
rest_ok coder instr parts p r q e =
    let h = then_ok (coder parts p) (λ s. done (behind instr s)) r q e in
    let here : h.1 ≡ q = same_place (behind instr h.0) r h.1 q h.3 in
    (h.0, subst (λ (z : Place). coder parts p ≡ Ok (both h.0 z)) here h.2, same_value (behind instr h.0) r h.1 q h.3)

module _ (c : CodeContext) (coder : Coder) (ih : FoundBy c coder) (b t : ℕ) (parts : CodeParts) (n : Counts b t parts) (p : Place) where
  rest_found : (x : Tree) (later : CodeParts) (item : List ℕ) (p1 : Place) (instr : Instr) (r : Code) (q : Place) → AreTokens c parts.types item (text_of x) later.types → Lie p item p1 → Grown b t x parts later → instr ≡ instr_of b t x → rest_behind coder instr later p1 ≡ Ok (both r q) → Found c b t parts p r q
  rest_found x later item p1 instr r q s l g same e =
      let k = rest_ok coder instr later p1 r q e in
      let f = ih (b + length (flat_of b t x).blocks) (t + length (flat_of b t x).targets) later (counts_later b t x parts later n g) p1 k.0 q k.1 in
      subst (λ (z : Code). Found c b t parts p z q) (ap (λ (z : Instr). behind z k.0) (sym same) ∙ k.2) (found_tree c b t x parts later p p1 item k.0 q s l g f)

  -- the end of a list, or an else in its place
  stop_found : (s : Stop) (types : List Signature) (item : List ℕ) (p1 : Place) (r : Code) (q : Place) → (grammar.token c parts.types).Spells item (stop_token s, types) → Lie p item p1 → done (code [] s (with_types types parts)) p1 ≡ Ok (both r q) → Found c b t parts p r q
  stop_found s types item p1 r q spelled l e =
      subst (λ (z : Code). Found c b t parts p z q) (same_value (code [] s (with_types types parts)) r p1 q e)
      (record {
        trees = end;
        item = item;
        spelled = one_token c (stop_token s) item parts.types types spelled;
        lie = lie_on p p1 q item l (same_place (code [] s (with_types types parts)) r p1 q e);
        instrs_are = refl;
        blocks_are = sym (append-nil parts.blocks);
        targets_are = sym (append-nil parts.targets);
      })

  -- a list of code that is the content of a block of this type, which begins with this item
  module _ (types : List Signature) (ty : ℕ) (item : List ℕ) (p1 : Place) (l : Lie p item p1) (r1 : Code) (p2 : Place) (f : Found c (b + 1) t (begun ty (with_types types parts)) p1 r1 p2) where
    abbrev inner_parts : CodeParts
    inner_parts = ended (length parts.blocks) ty r1.instrs r1.parts

    inner_blocks : inner_parts.blocks ≡ parts.blocks ++ block ty (flats_of (b + 1) t f.trees).instrs ∷ (flats_of (b + 1) t f.trees).blocks
    inner_blocks =
        filled ty r1.instrs parts.blocks (flats_of (b + 1) t f.trees).blocks r1.parts.blocks f.blocks_are
        ∙ ap (λ (is : List Instr). parts.blocks ++ block ty is ∷ (flats_of (b + 1) t f.trees).blocks) f.instrs_are

    inner_tokens : (o : Opening) (s : Stop) → r1.stop ≡ s → (grammar.token c parts.types).Spells item (opens o ty, types) → AreTokens c parts.types (item ++ f.item) (opens o ty ∷ texts_of f.trees ++ stop_token s ∷ []) inner_parts.types
    inner_tokens o s e spelled =
        tokens_both c (opens o ty ∷ []) (texts_of f.trees ++ stop_token s ∷ []) item f.item parts.types types r1.parts.types
        (one_token c (opens o ty) item parts.types types spelled)
        (subst (λ (z : Stop). AreTokens c types f.item (texts_of f.trees ++ stop_token z ∷ []) r1.parts.types) e f.spelled)

    inner_lies : Lie p (item ++ f.item) p2
    inner_lies = both_lie p p1 p2 item f.item l f.lie

    inner_count : length r1.parts.blocks ≡ b + 1 + length (flats_of (b + 1) t f.trees).blocks
    inner_count =
        ap length f.blocks_are
        ∙ length-append (parts.blocks ++ block ty [] ∷ []) (flats_of (b + 1) t f.trees).blocks
        ∙ ap (λ (k : ℕ). k + length (flats_of (b + 1) t f.trees).blocks) (length-append parts.blocks (block ty [] ∷ []) ∙ ap (λ (k : ℕ). k + 1) n.blocks)

    block_found : (r : Code) (q : Place) → (grammar.token c parts.types).Spells item (opens opens_block ty, types) → then (unless_else r1.stop p2) (λ _. rest_behind coder (i.Block (length parts.blocks)) inner_parts) ≡ Ok (both r q) → Found c b t parts p r q
    block_found r q spelled e =
        let h = then_ok (unless_else r1.stop p2) (λ _. rest_behind coder (i.Block (length parts.blocks)) inner_parts) r q e in
        let u = unless_else_ok r1.stop p2 h.0 h.1 h.2 in
        rest_found (in_block ty f.trees) inner_parts (item ++ f.item) h.1 (i.Block (length parts.blocks)) r q
        (inner_tokens opens_block at_end u.0 spelled) (lie_on p p2 h.1 (item ++ f.item) inner_lies u.1)
        (record { blocks_are = inner_blocks; targets_are = f.targets_are }) (ap i.Block n.blocks) h.3

    loop_found : (r : Code) (q : Place) → (grammar.token c parts.types).Spells item (opens opens_loop ty, types) → then (unless_else r1.stop p2) (λ _. rest_behind coder (i.Loop (length parts.blocks)) inner_parts) ≡ Ok (both r q) → Found c b t parts p r q
    loop_found r q spelled e =
        let h = then_ok (unless_else r1.stop p2) (λ _. rest_behind coder (i.Loop (length parts.blocks)) inner_parts) r q e in
        let u = unless_else_ok r1.stop p2 h.0 h.1 h.2 in
        rest_found (in_loop ty f.trees) inner_parts (item ++ f.item) h.1 (i.Loop (length parts.blocks)) r q
        (inner_tokens opens_loop at_end u.0 spelled) (lie_on p p2 h.1 (item ++ f.item) inner_lies u.1)
        (record { blocks_are = inner_blocks; targets_are = f.targets_are }) (ap i.Loop n.blocks) h.3

    abbrev Goes : CodeParts → Read Code
    Goes whole = rest_behind coder (i.If (length parts.blocks) (length r1.parts.blocks)) whole

    if_instr : i.If (length parts.blocks) (length r1.parts.blocks) ≡ i.If b (b + 1 + length (flats_of (b + 1) t f.trees).blocks)
    if_instr = λ j. i.If (n.blocks j) (inner_count j)

    -- an if without a second list
    alone_found : (r : Code) (q : Place) (whole : CodeParts) (p3 : Place) → r1.stop ≡ at_end → (grammar.token c parts.types).Spells item (opens opens_if ty, types) → done (begun ty inner_parts) p2 ≡ Ok (both whole p3) → Goes whole p3 ≡ Ok (both r q) → Found c b t parts p r q
    alone_found r q whole p3 stop spelled e g =
        let same : begun ty inner_parts ≡ whole = same_value (begun ty inner_parts) whole p2 p3 e in
        let goes : Goes (begun ty inner_parts) p3 ≡ Ok (both r q) = subst (λ (z : CodeParts). Goes z p3 ≡ Ok (both r q)) (sym same) g in
        rest_found (if_alone ty f.trees) (begun ty inner_parts) (item ++ f.item) p3 (i.If (length parts.blocks) (length r1.parts.blocks)) r q
        (inner_tokens opens_if at_end stop spelled) (lie_on p p2 p3 (item ++ f.item) inner_lies (same_place (begun ty inner_parts) whole p2 p3 e))
        (record {
          blocks_are = both_parts (begun ty inner_parts).blocks inner_parts.blocks parts.blocks (block ty (flats_of (b + 1) t f.trees).instrs ∷ (flats_of (b + 1) t f.trees).blocks) (block ty [] ∷ []) refl inner_blocks;
          targets_are = f.targets_are;
        })
        if_instr goes

    -- how many there are before the second list of an if
    inner_counts : Counts (b + 1 + length (flats_of (b + 1) t f.trees).blocks) (t + length (flats_of (b + 1) t f.trees).targets) inner_parts
    inner_counts = record {
      blocks =
          ap length inner_blocks
          ∙ length-append parts.blocks (block ty (flats_of (b + 1) t f.trees).instrs ∷ (flats_of (b + 1) t f.trees).blocks)
          ∙ omega (arith, n.blocks);
      targets = ap length f.targets_are ∙ length-append parts.targets (flats_of (b + 1) t f.trees).targets ∙ ap (λ (k : ℕ). k + length (flats_of (b + 1) t f.trees).targets) n.targets;
    }

    module _ (r2 : Code) (p4 : Place) (g : Found c (b + 1 + length (flats_of (b + 1) t f.trees).blocks + 1) (t + length (flats_of (b + 1) t f.trees).targets) (begun ty inner_parts) p2 r2 p4) where
      abbrev both_lists : CodeParts
      both_lists = ended (length inner_parts.blocks) ty r2.instrs r2.parts

      abbrev second_flat : Flat
      second_flat = flats_of (b + 1 + length (flats_of (b + 1) t f.trees).blocks + 1) (t + length (flats_of (b + 1) t f.trees).targets) g.trees

      both_blocks : both_lists.blocks ≡ inner_parts.blocks ++ block ty second_flat.instrs ∷ second_flat.blocks
      both_blocks =
          filled ty r2.instrs inner_parts.blocks second_flat.blocks r2.parts.blocks g.blocks_are
          ∙ ap (λ (is : List Instr). inner_parts.blocks ++ block ty is ∷ second_flat.blocks) g.instrs_are

      both_found : (r : Code) (q : Place) (p5 p3 : Place) (whole : CodeParts) → r1.stop ≡ at_else → r2.stop ≡ at_end → p4 ≡ p5 → (grammar.token c parts.types).Spells item (opens opens_if ty, types) → done both_lists p5 ≡ Ok (both whole p3) → Goes whole p3 ≡ Ok (both r q) → Found c b t parts p r q
      both_found r q p5 p3 whole first last here spelled e k =
          let same : both_lists ≡ whole = same_value both_lists whole p5 p3 e in
          let goes : Goes both_lists p3 ≡ Ok (both r q) = subst (λ (z : CodeParts). Goes z p3 ≡ Ok (both r q)) (sym same) k in
          rest_found (if_else ty f.trees g.trees) both_lists ((item ++ f.item) ++ g.item) p3 (i.If (length parts.blocks) (length r1.parts.blocks)) r q
          (tokens_both c (opens opens_if ty ∷ texts_of f.trees ++ has_else ∷ []) (texts_of g.trees ++ has_end ∷ []) (item ++ f.item) g.item parts.types inner_parts.types both_lists.types
          (inner_tokens opens_if at_else first spelled)
          (subst (λ (z : Stop). AreTokens c inner_parts.types g.item (texts_of g.trees ++ stop_token z ∷ []) r2.parts.types) last g.spelled))
          (lie_on p p4 p3 ((item ++ f.item) ++ g.item) (both_lie p p2 p4 (item ++ f.item) g.item inner_lies g.lie) (here ∙ same_place both_lists whole p5 p3 e))
          (record {
            blocks_are = both_parts both_lists.blocks inner_parts.blocks parts.blocks (block ty (flats_of (b + 1) t f.trees).instrs ∷ (flats_of (b + 1) t f.trees).blocks) (block ty second_flat.instrs ∷ second_flat.blocks) both_blocks inner_blocks;
            targets_are = both_parts both_lists.targets inner_parts.targets parts.targets (flats_of (b + 1) t f.trees).targets second_flat.targets g.targets_are f.targets_are;
          })
          if_instr goes

    if_found : (s : Stop) → r1.stop ≡ s → (r : Code) (q : Place) → (grammar.token c parts.types).Spells item (opens opens_if ty, types) → then (second coder ty s inner_parts p2) Goes ≡ Ok (both r q) → Found c b t parts p r q
    if_found at_end stop r q spelled e =
        let h = then_ok (done (begun ty inner_parts) p2) Goes r q e in
        alone_found r q h.0 h.1 stop spelled h.2 h.3
    if_found at_else stop r q spelled e =
        let h = then_ok (second coder ty at_else inner_parts p2) Goes r q e in
        let k = then_ok (coder (begun ty inner_parts) p2) (λ inner. unless_else inner.stop >>= (λ _. done (ended (length inner_parts.blocks) ty inner.instrs inner.parts))) h.0 h.1 h.2 in
        let u = then_ok (unless_else k.0.stop k.1) (λ _. done (ended (length inner_parts.blocks) ty k.0.instrs k.0.parts)) h.0 h.1 k.3 in
        let o = unless_else_ok k.0.stop k.1 u.0 u.1 u.2 in
        let g = ih (b + 1 + length (flats_of (b + 1) t f.trees).blocks + 1) (t + length (flats_of (b + 1) t f.trees).targets) (begun ty inner_parts)
        (counts_begun (b + 1 + length (flats_of (b + 1) t f.trees).blocks) (t + length (flats_of (b + 1) t f.trees).targets) ty inner_parts inner_counts) p2 k.0 k.1 k.2 in
        both_found k.0 k.1 g r q u.1 h.1 h.0 stop o.0 o.1 spelled u.3 h.3

-- what follows a token
module _ (c : CodeContext) (coder : Coder) (ih : FoundBy c coder) (b t : ℕ) (parts : CodeParts) (n : Counts b t parts) (p : Place) where
  opened_found : (o : Opening) (ty : ℕ) (types : List Signature) (item : List ℕ) (p1 : Place) (r : Code) (q : Place) → (grammar.token c parts.types).Spells item (opens o ty, types) → Lie p item p1 → opened coder o ty (with_types types parts) p1 ≡ Ok (both r q) → Found c b t parts p r q
  opened_found opens_block ty types item p1 r q s l e =
      let h = then_ok (coder (begun ty (with_types types parts)) p1) (λ inner. unless_else inner.stop >>= (λ _. rest_behind coder (i.Block (length parts.blocks)) (ended (length parts.blocks) ty inner.instrs inner.parts))) r q e in
      let f = ih (b + 1) t (begun ty (with_types types parts)) (counts_begun b t ty (with_types types parts) (record { blocks = n.blocks; targets = n.targets })) p1 h.0 h.1 h.2 in
      block_found c coder ih b t parts n p types ty item p1 l h.0 h.1 f r q s h.3
  opened_found opens_loop ty types item p1 r q s l e =
      let h = then_ok (coder (begun ty (with_types types parts)) p1) (λ inner. unless_else inner.stop >>= (λ _. rest_behind coder (i.Loop (length parts.blocks)) (ended (length parts.blocks) ty inner.instrs inner.parts))) r q e in
      let f = ih (b + 1) t (begun ty (with_types types parts)) (counts_begun b t ty (with_types types parts) (record { blocks = n.blocks; targets = n.targets })) p1 h.0 h.1 h.2 in
      loop_found c coder ih b t parts n p types ty item p1 l h.0 h.1 f r q s h.3
  opened_found opens_if ty types item p1 r q s l e =
      let h = then_ok (coder (begun ty (with_types types parts)) p1) (λ first. second coder ty first.stop (ended (length parts.blocks) ty first.instrs first.parts) >>= rest_behind coder (i.If (length parts.blocks) (length first.parts.blocks))) r q e in
      let f = ih (b + 1) t (begun ty (with_types types parts)) (counts_begun b t ty (with_types types parts) (record { blocks = n.blocks; targets = n.targets })) p1 h.0 h.1 h.2 in
      if_found c coder ih b t parts n p types ty item p1 l h.0 h.1 f h.0.stop refl r q s h.3

  token_found : (tok : Token) (types : List Signature) (item : List ℕ) (p1 : Place) (r : Code) (q : Place) → (grammar.token c parts.types).Spells item (tok, types) → Lie p item p1 → next coder tok (with_types types parts) p1 ≡ Ok (both r q) → Found c b t parts p r q
  token_found (straight instr) types item p1 r q s l e =
      rest_found c coder ih b t parts n p (leaf instr) (with_types types parts) item p1 instr r q (one_token c (straight instr) item parts.types types s) l
      (record { blocks_are = sym (append-nil parts.blocks); targets_are = sym (append-nil parts.targets) }) refl e
  token_found (table targets) types item p1 r q s l e =
      rest_found c coder ih b t parts n p (branches targets) (listed_in targets (with_types types parts)) item p1 (i.BrTable (length parts.targets)) r q (one_token c (table targets) item parts.types types s) l
      (record { blocks_are = sym (append-nil parts.blocks); targets_are = refl }) (ap i.BrTable n.targets) e
  token_found (opens o ty) types item p1 r q s l e = opened_found o ty types item p1 r q s l e
  token_found has_else types item p1 r q s l e = stop_found c coder ih b t parts n p at_else types item p1 r q s l e
  token_found has_end types item p1 r q s l e = stop_found c coder ih b t parts n p at_end types item p1 r q s l e

pub found : (c : CodeContext) (k : ℕ) → FoundBy c (code_to k c)
found c zero b t parts n p r q e = absurd (cc e)
found c (suc k) b t parts n p r q e =
    let h = then_ok (token c parts.types p) (goes (code_to k c) parts) r q (sym (code_is c k parts p) ∙ e) in
    let m = (agree_token c parts.types).found p h.0 h.1 h.2 in
    token_found c (code_to k c) (found c k) b t parts n p h.0.0 h.0.1 m.0 h.1 r q m.1 m.2 h.3
