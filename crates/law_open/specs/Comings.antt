-- That a run with more answers comes by the place where it waited for one. This project's own.
use Rattle.std.specs.Prelude.{◌≡◌, ◌⊎◌, ℕ, List, [], ◌∷◌, ◌++◌, Option}
use Rattle.wasm_syntax.specs.declared.declarations.ModuleDecl.{ModuleDecl}
use Rattle.wasm_values.specs.declared.externals.Extern.{Extern}
use Rattle.wasm_objects.specs.declared.raw.RawVal.{RawVal}
use Rattle.spec_machine.specs.Names.{Scope}
use Rattle.spec_machine.specs.declared.command.Command.{Command}
use Rattle.spec_execution.specs.Askings.{Question, Answer, Asking}
use Rattle.spec_execution.specs.Bodies.{exec}
use Rattle.spec_execution.specs.Commands.{Early, command}
use Rattle.spec_execution.specs.Entering.{entry}
use Rattle.spec_execution.specs.Instantiation.{instantiate}
use Rattle.spec_execution.specs.Outcomes.{World, Over, End, Waiting}
use Rattle.law_answers.specs.Fronts.{world_with, outcome_heard, finish_heard}

-- of runs that may end early
module _ {O : Type 0} (early : End → World → O) (heard_by : O → List Asking) where
  -- it waits for an answer to this question, behind this heard
  pub record WaitsThere (heard : List Asking) (q : Question) (o : O) : Type 0 where
    pub world : World
    pub waits : o ≡ early (Waiting q) world
    pub place : world.heard ≡ heard

  -- or it asked it there, and heard the first of these answers
  pub record HearsThere (heard : List Asking) (q : Question) (rest : List Answer) (o : O) : Type 0 where
    pub answer : Answer
    pub others : List Answer
    pub more : List Asking
    pub first : rest ≡ answer ∷ others
    pub course : heard_by o ≡ heard ++ (q, answer) ∷ more

  -- where a run waits that took all its answers, it comes by with any more of them
  abbrev pub ComesBy : (World → O) → World → Type 0
  ComesBy run w =
      (answers rest : List Answer) (q : Question) (v : World) →
      run (world_with answers w) ≡ early (Waiting q) v → v.answers ≡ [] →
      let o = run (world_with (answers ++ rest) w) in
      WaitsThere v.heard q o ⊎ HearsThere v.heard q rest o

-- each call from outside of all code, each instantiation and each command
pub record MoreAnswersComeBy : Type 0 where
  pub calls :
      (depth n : ℕ) (args : List RawVal) (caller : Option ℕ) (w : World)
      → ComesBy Over outcome_heard (entry exec depth n args caller) w
  pub instantiations :
      (depth : ℕ) (w : World) (d : ModuleDecl) (imports : List Extern)
      → ComesBy Over outcome_heard (λ v. instantiate exec depth v d imports) w
  pub commands :
      (modules : List ModuleDecl) (s : Scope) (c : Command) (w : World)
      → ComesBy Early finish_heard (command exec modules s c) w
