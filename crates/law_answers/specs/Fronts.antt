-- How two runs go whose answers begin alike: they come to the same, or ask the same question where the common answers end.
-- This project's own.
use Rattle.std.specs.Prelude.{◌≡◌, ◌⊎◌, ℕ, List, ◌∷◌, ◌++◌, Option}
use Rattle.wasm_syntax.specs.declared.declarations.ModuleDecl.{ModuleDecl}
use Rattle.wasm_values.specs.declared.externals.Extern.{Extern}
use Rattle.wasm_objects.specs.declared.raw.RawVal.{RawVal}
use Rattle.spec_machine.specs.Names.{Scope}
use Rattle.spec_machine.specs.declared.command.Command.{Command}
use Rattle.spec_execution.specs.Askings.{Question, Answer, Asking, answers_in}
use Rattle.spec_execution.specs.Bodies.{exec}
use Rattle.spec_execution.specs.Commands.{Finish, Replied, Early, command}
use Rattle.spec_execution.specs.Entering.{entry}
use Rattle.spec_execution.specs.Instantiation.{instantiate}
use Rattle.spec_execution.specs.Outcomes.{World, State, Outcome, Values, Branch, Return, Over, End, Waiting}

-- with these answers left
abbrev pub world_with : List Answer → World → World
world_with answers w = record w { answers = answers }

abbrev pub state_with : List Answer → State → State
state_with answers s = record s { world = world_with answers s.world }

abbrev pub outcome_with : List Answer → Outcome → Outcome
outcome_with answers (Values s) = Values (state_with answers s)
outcome_with answers (Branch l s) = Branch l (state_with answers s)
outcome_with answers (Return s) = Return (state_with answers s)
outcome_with answers (Over e w) = Over e (world_with answers w)

abbrev pub finish_with : List Answer → Finish → Finish
finish_with answers (Replied reply w) = Replied reply (world_with answers w)
finish_with answers (Early e w) = Early e (world_with answers w)

-- what was heard by its end
abbrev pub outcome_heard : Outcome → List Asking
outcome_heard (Values s) = s.world.heard
outcome_heard (Branch l s) = s.world.heard
outcome_heard (Return s) = s.world.heard
outcome_heard (Over e w) = w.heard

abbrev pub finish_heard : Finish → List Asking
finish_heard (Replied reply w) = w.heard
finish_heard (Early e w) = w.heard

-- of runs that may end early
module _ {O : Type 0} (early : End → World → O) (with_left : List Answer → O → O) (heard_by : O → List Asking) where
  -- it waits for an answer to this question here, behind this heard
  pub record WaitsAt (heard : List Asking) (q : Question) (o : O) : Type 0 where
    pub world : World
    pub waits : o ≡ early (Waiting q) world
    pub place : world.heard ≡ heard

  -- it asked it here, and heard an answer
  pub record HeardAt (heard : List Asking) (q : Question) (o : O) : Type 0 where
    pub answer : Answer
    pub more : List Asking
    pub course : heard_by o ≡ heard ++ (q, answer) ∷ more

  abbrev pub AsksAt : List Asking → Question → O → Type 0
  AsksAt heard q o = WaitsAt heard q o ⊎ HeardAt heard q o

  -- both came to the same, with the same answers left before their own rests
  pub record ComeToTheSame (rest rest' : List Answer) (o o' : O) : Type 0 where
    pub end : O
    pub left : List Answer
    pub first : o ≡ with_left (left ++ rest) end
    pub second : o' ≡ with_left (left ++ rest') end

  -- both took all common answers, heard the same meanwhile, and ask the same question there
  pub record AskTheSame (before : List Asking) (common : List Answer) (o o' : O) : Type 0 where
    pub more : List Asking
    pub taken : answers_in more ≡ common
    pub question : Question
    pub first : AsksAt (before ++ more) question o
    pub second : AsksAt (before ++ more) question o'

  abbrev pub GoTogether : (World → O) → World → Type 0
  GoTogether run w =
      (common rest rest' : List Answer) →
      let o = run (world_with (common ++ rest) w) in
      let o' = run (world_with (common ++ rest') w) in
      ComeToTheSame rest rest' o o' ⊎ AskTheSame w.heard common o o'

-- each call from outside of all code, each instantiation and each command
pub record LawOfFronts : Type 0 where
  pub calls :
      (depth n : ℕ) (args : List RawVal) (caller : Option ℕ) (w : World)
      → GoTogether Over outcome_with outcome_heard (entry exec depth n args caller) w
  pub instantiations :
      (depth : ℕ) (w : World) (d : ModuleDecl) (imports : List Extern)
      → GoTogether Over outcome_with outcome_heard (λ v. instantiate exec depth v d imports) w
  pub commands :
      (modules : List ModuleDecl) (s : Scope) (c : Command) (w : World)
      → GoTogether Early finish_with finish_heard (command exec modules s c) w
