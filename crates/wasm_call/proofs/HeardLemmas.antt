-- What was heard: the types in the answers are types.
use Rattle.std.proofs.Common.{List, [], ◌∷◌, ◌++◌}
use Rattle.spec_execution.specs.Askings.{Asking, Outside, Relations, Chain, answers_in}
use Rattle.spec_execution.specs.Askings as askings
use Rattle.law_code.specs.Answers.{AreTyped}
use Rattle.wasm_call.specs.Outside.{typed}

module _ {T H E : Type 0} (r : Relations T H E) where
  pub heard_typed : (old new : Outside T H E) (heard : List Asking) → Chain (typed r) old heard new →
      AreTyped (answers_in heard ++ [])
  heard_typed old new [] c = tt
  heard_typed old new (x ∷ heard) c = (c.1.0, heard_typed c.0 new heard c.2)

  pub heard_moves : (old new : Outside T H E) (heard : List Asking) → Chain (typed r) old heard new →
      Chain (askings.Moves r) old heard new
  heard_moves old new [] c = c
  heard_moves old new (x ∷ heard) c = (c.0, c.1.1, heard_moves c.0 new heard c.2)
