-- Runs that hear what one outside answers are one run. This project's own.
use Rattle.std.specs.Prelude.{◌≡◌, ℕ, false, List, [], ◌++◌, nat_lt, Some}
use Rattle.wasm_syntax.specs.declared.declarations.ModuleDecl.{ModuleDecl}
use Rattle.wasm_types.specs.Each.{Each}
use Rattle.spec_machine.specs.Machine.{Machine}
use Rattle.spec_machine.specs.declared.command.Command.{Command}
use Rattle.spec_execution.specs.Askings.{Question, Having, Answer, Has, Asking, answers_in}
use Rattle.spec_execution.specs.Runs.{State, run}
use Rattle.law_replay.specs.Tapes.{TapeParts, Holds, IsTapable}

-- commands were run from a state and came to another: what was answered is what was heard, and no answer is left
pub record RanBy (modules : List ModuleDecl) (commands : List Command) (s : State) (heard : List Asking) (t : State) :
    Type 0 where
  pub ran : run modules (record s { answers = answers_in heard }) commands ≡ Some t
  pub course : t.heard ≡ s.heard ++ heard
  pub used : t.answers ≡ []

-- an outside that has one answer at most to each question, and goes on in one way
abbrev pub IsFunction : {W : Type 0} → (W → Question → Answer → W → Type 0) → Type 0
IsFunction moves =
    (w : _) (q : Question) (a b : Answer) (u v : _) → moves w q a u → moves w q b v → (a ≡ b) × (u ≡ v)

-- whether there is a body goes by a number
abbrev pub HasIs : ℕ → Question → Answer → Type 0
HasIs bodies (Having body) (Has answer) = answer ≡ nat_lt body bodies
HasIs bodies q a = Unit {0}

abbrev pub HasBelow : ℕ → List Asking → Type 0
HasBelow bodies heard = Each heard (λ (asking : Asking). HasIs bodies asking.0 asking.1)

-- no hook and no deadline behaviour is set
abbrev pub IsOff : Machine → Type 0
IsOff m = (m.is_hooked ≡ false) × (m.is_behaving ≡ false)

-- commands were run from a state with these answers and came to another: what was heard was answered by the first of them,
-- and the others are left
pub record RanWith (modules : List ModuleDecl) (commands : List Command) (s : State) (answers : List Answer)
    (heard : List Asking) (t : State) : Type 0 where
  pub ran : run modules (record s { answers = answers }) commands ≡ Some t
  pub course : t.heard ≡ s.heard ++ heard
  pub used : answers ≡ answers_in heard ++ t.answers

-- a state without the answers that were left
abbrev pub without_answers : State → State
without_answers t = record t { answers = [] }

-- two runs from one state of a store without a hook and a deadline behaviour, over hosts that have just the bodies below one
-- number, are equal where one tape holds the questions and the used answers of both
abbrev pub LawOfTapes : Type 0
LawOfTapes =
    (bodies : ℕ) (modules : List ModuleDecl) (commands : List Command) (s : State) (tape : TapeParts)
    (answers answers' : List Answer) (heard heard' : List Asking) (t t' : State)
    → IsOff s.machine
    → RanWith modules commands s answers heard t → HasBelow bodies heard → Holds tape heard
    → RanWith modules commands s answers' heard' t' → HasBelow bodies heard' → Holds tape heard'
    → (heard ≡ heard') × (without_answers t ≡ without_answers t')

-- what a run to its end heard from such a state is on its tape, or says whether there is a body
abbrev pub LawOfTapable : Type 0
LawOfTapable =
    (bodies : ℕ) (modules : List ModuleDecl) (commands : List Command) (s : State) (answers : List Answer)
    (heard : List Asking) (t : State)
    → IsOff s.machine → RanWith modules commands s answers heard t → HasBelow bodies heard
    → Each heard (λ (asking : Asking). IsTapable bodies asking.0 asking.1)
