-- Two calls, by their clauses, in stores that are the same inside of what they reach. This project's own.
use Rattle.std.specs.Prelude.{◌≡◌, ℕ, ◌+◌, List, ◌++◌, flat_map, Option, Some}
use Rattle.wasm_syntax.specs.declared.declarations.ModuleDecl.{ModuleDecl}
use Rattle.wasm_values.specs.declared.externals.Extern.{Extern}
use Rattle.wasm_values.specs.declared.handles.Func.{Func}
use Rattle.wasm_values.specs.declared.values.Val.{Val}
use Rattle.spec_machine.specs.Commands.{Row, Instantiate}
use Rattle.spec_machine.specs.Machine.{Machine}
use Rattle.spec_machine.specs.declared.reply.Reply.{Reply}
use Rattle.spec_execution.specs.Askings.{Answer, Asking, answers_in}
use Rattle.spec_execution.specs.Outcomes.{world}
use Rattle.spec_reach.specs.Inside.{SameInside}
use Rattle.spec_reach.specs.Nodes.{Node}
use Rattle.spec_reach.specs.Outside.{new_nodes}
use Rattle.spec_reach.specs.Reach.{in_object, reach}
use Rattle.spec_reach.specs.ReachLaws.{HoldsReach}
use Rattle.law_confined.specs.Shown.{unshown}
use Rattle.wasm_call.specs.Calls.{call_row}
use Rattle.wasm_call.specs.Confined.{handled}
use Rattle.wasm_call.specs.Outcomes.{by_row, answer_of}

-- a command by its row gave this reply: with the engine's turns, of which it took so many, by what was heard. So much each
-- of the clauses says that are of `AnsweredRow`, whatever the host, the host data and the epochs are
pub record Gave (row : Row) (old : Machine) (answer : Reply) (new : Machine) (turns : ℕ) : Type 0 where
  pub heard : List Asking
  pub left : ℕ
  pub within : turns + left ≡ old.engine.turns
  pub ends : (before : List Asking) (rest : List Answer) →
      answer_of (by_row row (world old old.engine.turns before (answers_in heard ++ rest)))
      ≡ Some (answer, world new left (before ++ heard) rest)

-- two that began in these stores came to the same, and left stores that are the same inside of what is reached there
pub record AreAlike (set : List Node) (m after after' : Machine) (answer answer' : Reply) (turns turns' : ℕ)
    (heard heard' : List Asking) : Type 0 where
  pub answers : answer' ≡ answer
  pub same_turns : turns' ≡ turns
  pub same_heard : heard' ≡ heard
  pub inside : SameInside (reach after (set ++ new_nodes m after)) after after'

-- where the set holds what leads from these nodes, and from the functions that bodies handed out unshown in the first
abbrev pub SeeAlike : (Machine → Row) → List Node → Machine → Machine → Type 0
SeeAlike row from m m' =
    (after after' : Machine) (answer answer' : Reply) (turns turns' : ℕ) (set : List Node)
    (first : Gave (row m) m answer after turns) (second : Gave (row m') m' answer' after' turns')
    → HoldsReach m (from ++ unshown m.id first.heard) set → SameInside set m m'
    → answers_in second.heard ≡ answers_in first.heard
    → AreAlike set m after after' answer answer' turns turns' first.heard second.heard

abbrev pub CallsSeeAlike : Type 0
CallsSeeAlike =
    (m m' : Machine) (f : Func) (args : List Val) (wanted : Option ℕ)
    → SeeAlike (λ n. call_row n f args wanted) (handled m.id f args) m m'

abbrev pub InstantiationsSeeAlike : Type 0
InstantiationsSeeAlike =
    (m m' : Machine) (d : ModuleDecl) (imports : List Extern)
    → SeeAlike (λ n. Instantiate d imports) (flat_map (in_object m.id) imports) m m'
