-- Along a chain of declared supertypes the parameters and results keep fitting.
use Rattle.std.specs.Prelude.{true, ◌&&◌, ◌≡◌, refl, List, [], ◌∷◌}
use Rattle.std.proofs.Common.{subst, sym}
use Rattle.std.specs.Cmp.Derive.{both_true}
use Rattle.wasm_types.specs.Signatures.{Signature, Supertype, chain, chain_above, is_of, depth, size}
use Rattle.wasm_types.specs.Equality.{same}
use Rattle.wasm_types.specs.Signatures as sig
use Rattle.wasm_types.specs.EqualityLaws.{same_is, both}
use Rattle.wasm_types.specs.FunctionParts.{params, results, finality, option_of, val_types, parts, from_parts}
use Rattle.wasm_types.specs.Matching.{has, all_match, val_matches}
use Rattle.wasm_types.specs.FunctionRules.{IsSound, IsAboveSound, fits_below, may_be_below}
use Rattle.wasm_types.specs.Laws.{IsReflexive, IsTransitive, FitsAlongChains}
use Rattle.wasm_types.proofs.MatchingLemmas.{no, either, val_reflexive, val_transitive}
use Rattle.wasm_types.proofs.SoundTypeLemmas.{taken}
use Rattle.wasm_types.specs.declared.value_types.ValType.{ValType}

pub all_reflexive : IsReflexive all_match
all_reflexive [] = refl
all_reflexive (t ∷ ts) = both_true (val_reflexive t) (all_reflexive ts)

pub all_transitive : IsTransitive all_match
all_transitive [] [] c p q = q
all_transitive [] (u ∷ us) c p q = no p
all_transitive (t ∷ ts) [] c p q = no p
all_transitive (t ∷ ts) (u ∷ us) [] p q = no q
all_transitive (t ∷ ts) (u ∷ us) (w ∷ ws) p q =
    let x : (val_matches t u ≡ true) × (all_match ts us ≡ true) = both _ _ p in
    let y : (val_matches u w ≡ true) × (all_match us ws ≡ true) = both _ _ q in
    both_true (val_transitive t u w x.0 y.0) (all_transitive ts us ws x.1 y.1)

abbrev Fits : List ValType → List ValType → Signature → Type 0
Fits ps rs u = (all_match (params u) ps ≡ true) × (all_match rs (results u) ≡ true)

mutual
  fits_on : (t u : Signature) → IsSound t → has u (chain t) ≡ true → Fits (params t) (results t) u
  fits_on (sig.signature e f s ps rs) u h p =
      either (same u (sig.signature e f s ps rs)) (has u (chain_above s)) p
      (λ own. subst (Fits (val_types ps) (val_types rs)) (sym (same_is u (sig.signature e f s ps rs) own)) (all_reflexive (val_types ps), all_reflexive (val_types rs)))
      (λ up. fits_above s u (val_types ps) (val_types rs) h.1 up (taken (is_of e (from_parts (parts e f (option_of s) (val_types ps) (val_types rs)))) (fits_below (option_of s) (val_types ps) (val_types rs)) _ h.0).1)

  fits_above : (s : Supertype) (u : Signature) (ps rs : List ValType) → IsAboveSound s → has u (chain_above s) ≡ true → fits_below (option_of s) ps rs ≡ true → Fits ps rs u
  fits_above sig.root u ps rs h p b = no p
  fits_above (sig.below t) u ps rs h p b =
      let x : (may_be_below (finality t) ≡ true) × ((all_match (params t) ps && all_match rs (results t)) ≡ true) = both _ _ b in
      let y : (all_match (params t) ps ≡ true) × (all_match rs (results t) ≡ true) = both _ _ x.1 in
      let z : Fits (params t) (results t) u = fits_on t u h p in
      (all_transitive (params u) (params t) ps z.0 y.0, all_transitive rs (results t) (results u) y.1 z.1)

pub fits_along_chains : FitsAlongChains
fits_along_chains t u h p = fits_on t u h p
