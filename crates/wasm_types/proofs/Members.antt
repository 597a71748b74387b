-- A function type matches exactly the members of its chain.
use Rattle.std.proofs.lemmas.Map.Views.{list_any-from_Contains, Contains-from_any}
use Rattle.wasm_types.specs.Signatures.{chain}
use Rattle.wasm_types.specs.EqualityLaws.{same_is, same_laws}
use Rattle.wasm_types.specs.Laws.{MatchesItsChain}

pub matches_its_chain : MatchesItsChain
matches_its_chain t u = (λ p. Contains-from_any same_is u (chain t) p, λ p. list_any-from_Contains same_laws u (chain t) p)
