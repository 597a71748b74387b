-- Matching never leaves an engine.
use Rattle.std.specs.Prelude.{ℕ, eqb, true, ◌&&◌, ◌≡◌, refl}
use Rattle.std.proofs.Common.{sym, subst}
use Rattle.std.proofs.lemmas.Bool.{eqb-true}
use Rattle.wasm_types.specs.Signatures.{Signature, Supertype, is_of, is_above_of, are_of, chain, chain_above}
use Rattle.wasm_types.specs.Signatures as sig
use Rattle.wasm_types.specs.Equality.{same}
use Rattle.wasm_types.specs.EqualityLaws.{same_is, both}
use Rattle.wasm_types.specs.FunctionParts.{engine}
use Rattle.wasm_types.specs.Laws.{StaysInEngine, KeepsEngine, KeepsHeapEngine}
use Rattle.wasm_types.specs.Matching.{has}
use Rattle.wasm_types.proofs.SoundTypeLemmas.{own_engine}
use Rattle.wasm_types.proofs.MatchingLemmas.{no, either}
use Rattle.wasm_types.specs.declared.value_types.HeapType.TheVariants as h

above_of : (n e : ℕ) (f : _) (s : Supertype) (ps rs : _) → is_of n (sig.signature e f s ps rs) ≡ true → is_above_of n s ≡ true
above_of n e f s ps rs p =
    let q : (eqb e n ≡ true) × ((is_above_of n s && (are_of n ps && are_of n rs)) ≡ true) = both _ _ p in
    (both (is_above_of n s) _ q.1).0

mutual
  kept_on : (n : ℕ) (t u : Signature) → has u (chain t) ≡ true → is_of n t ≡ true → is_of n u ≡ true
  kept_on n (sig.signature e f s ps rs) u m p =
      either (same u (sig.signature e f s ps rs)) (has u (chain_above s)) m
      (λ own. subst (λ t. is_of n t ≡ true) (sym (same_is u (sig.signature e f s ps rs) own)) p)
      (λ up. kept_above n s u up (above_of n e f s ps rs p))

  kept_above : (n : ℕ) (s : Supertype) (u : Signature) → has u (chain_above s) ≡ true → is_above_of n s ≡ true → is_of n u ≡ true
  kept_above n sig.root u m p = no m
  kept_above n (sig.below t) u m p = kept_on n t u m p

pub keeps_engine : KeepsEngine
keeps_engine = kept_on

engine_is : (n : ℕ) (u : Signature) → is_of n u ≡ true → n ≡ engine u
engine_is n (sig.signature e f s ps rs) p = sym (eqb-true e n (both (eqb e n) _ p).0)

pub stays_in_engine : StaysInEngine
stays_in_engine t u sound m = engine_is (engine t) u (kept_on (engine t) t u m (own_engine t sound))

pub keeps_heap_engine : KeepsHeapEngine
keeps_heap_engine n (h.ConcreteFunc t) (h.ConcreteFunc u) c m p = kept_on n t u m p
keeps_heap_engine n (h.ConcreteFunc t) h.Func c m p = refl
keeps_heap_engine n (h.ConcreteFunc t) _ c m p = no m
keeps_heap_engine n _ b c m p = no c
