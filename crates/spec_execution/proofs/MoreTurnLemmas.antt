-- A run with more turns, and with more answers behind, is the same where it did not end for want of them.
use Rattle.std.proofs.Common.{◌≡◌, ℕ, zero, suc, ◌+◌, List, [], ◌∷◌, ◌++◌, Option, refl, arith}
use Rattle.wasm_syntax.specs.declared.declarations.ModuleDecl.{ModuleDecl}
use Rattle.wasm_values.specs.declared.externals.Extern.{Extern}
use Rattle.wasm_objects.specs.declared.raw.RawVal.{RawVal}
use Rattle.spec_execution.specs.Askings.{Answer}
use Rattle.spec_machine.specs.Names.{Scope}
use Rattle.spec_machine.specs.declared.command.Command.{Command}
use Rattle.spec_execution.specs.Bodies.{exec}
use Rattle.spec_execution.specs.Commands.{Finish, Replied, Early, command}
use Rattle.spec_execution.specs.Entering.{Code, enter, entry}
use Rattle.spec_execution.specs.Instantiation.{instantiate}
use Rattle.spec_execution.specs.Outcomes.{World, State, Outcome, Values, Branch, Return, Over, End, Stopped, Waiting}
use Rattle.spec_execution.proofs.Ways.{Way, Alike, here}
use Rattle.spec_execution.proofs.WaysOfCalls.{enter_alike, entry_alike}
use Rattle.spec_execution.proofs.WaysOfCommands.{Together, command_alike}
use Rattle.spec_execution.proofs.WaysOfInstantiation.{instantiate_alike}
use Rattle.spec_execution.proofs.EquationLemmas.{exec_alike, exec_fits}

-- a world with so many turns more, and with these answers behind those it has
abbrev pub longer : ℕ → List Answer → World → World
longer k more w = record w { turns = w.turns + k; answers = w.answers ++ more }

abbrev pub longer_state : ℕ → List Answer → State → State
longer_state k more s = record s { world = longer k more s.world }

abbrev pub longer_outcome : ℕ → List Answer → Outcome → Outcome
longer_outcome k more (Values s) = Values (longer_state k more s)
longer_outcome k more (Branch l s) = Branch l (longer_state k more s)
longer_outcome k more (Return s) = Return (longer_state k more s)
longer_outcome k more (Over e w) = Over e (longer k more w)

abbrev pub longer_finish : ℕ → List Answer → Finish → Finish
longer_finish k more (Replied answer w) = Replied answer (longer k more w)
longer_finish k more (Early e w) = Early e (longer k more w)

-- a run that was cut off: by want of a turn where there are to be more, or of an answer where there are to be more
abbrev pub IsSome : ℕ → Type 0
IsSome zero = ⊥
IsSome (suc k) = Unit {0}

abbrev pub AreSome : List Answer → Type 0
AreSome [] = ⊥
AreSome (a ∷ more) = Unit {0}

abbrev pub IsCutEnd : ℕ → List Answer → End → Type 0
IsCutEnd k more Stopped = IsSome k
IsCutEnd k more (Waiting q) = AreSome more
IsCutEnd k more e = ⊥

abbrev pub IsCut : ℕ → List Answer → Outcome → Type 0
IsCut k more (Over e w) = IsCutEnd k more e
IsCut k more o = ⊥

abbrev pub IsCutFinish : ℕ → List Answer → Finish → Type 0
IsCutFinish k more (Early e w) = IsCutEnd k more e
IsCutFinish k more (Replied answer w) = ⊥

none : (k : ℕ) → (IsSome k → ⊥) → zero + k ≡ zero
none zero h = refl
none (suc k) h = absurd (h tt)

empty : (more : List Answer) → (AreSome more → ⊥) → [] ++ more ≡ []
empty [] h = refl
empty (a ∷ more) h = absurd (h tt)

module _ (k : ℕ) (more : List Answer) where
  -- the run beside the one with more
  abbrev with_more : Way
  with_more = record {
    turns = λ t. t + k;
    answers = λ answers. answers ++ more;
    stops = IsSome k → ⊥;
    waits = AreSome more → ⊥;
    Holds = λ w. Unit {0};
    a_turn = λ t. omega arith;
    no_turn = none k;
    an_answer = λ a answers. refl;
    no_answer = empty more;
    spent = λ w t e h. tt;
    changed = λ w m h. tt;
    heard = λ w q a rest e h. tt;
  }

  uncut :
      (n : ℕ) (o o' : Outcome) → Alike with_more n o o' → (IsCut k more o → ⊥) → o' ≡ longer_outcome k more o
  uncut n (Values s) o' h not_cut = h.by.0
  uncut n (Branch l s) o' h not_cut = h.by.0
  uncut n (Return s) o' h not_cut = h.by.0
  uncut n (Over Stopped w) o' h not_cut = h.by.0 not_cut
  uncut n (Over (Waiting q) w) o' h not_cut = h.by.0 not_cut
  uncut n (Over e w) o' h not_cut = h.by.0 tt

  pub exec_longer :
      (c : Code) (s : State) → (IsCut k more (exec c s) → ⊥)
      → exec c (longer_state k more s) ≡ longer_outcome k more (exec c s)
  exec_longer c s not_cut =
      uncut (suc s.world.turns) (exec c s) (exec c (longer_state k more s)) (exec_alike with_more c s tt) not_cut

  pub enter_longer :
      (depth f : ℕ) (args : List RawVal) (caller : Option ℕ) (w : World)
      → (IsCut k more (enter exec depth f args caller w) → ⊥)
      → enter exec depth f args caller (longer k more w) ≡ longer_outcome k more (enter exec depth f args caller w)
  enter_longer depth f args caller w not_cut =
      uncut (suc w.turns) _ _
      (enter_alike with_more (suc w.turns) exec exec (exec_fits with_more (suc w.turns)) depth f args caller w
      (here with_more w tt)) not_cut

  pub entry_longer :
      (depth f : ℕ) (args : List RawVal) (caller : Option ℕ) (w : World)
      → (IsCut k more (entry exec depth f args caller w) → ⊥)
      → entry exec depth f args caller (longer k more w) ≡ longer_outcome k more (entry exec depth f args caller w)
  entry_longer depth f args caller w not_cut =
      uncut (suc w.turns) _ _
      (entry_alike with_more (suc w.turns) exec exec (exec_fits with_more (suc w.turns)) depth f args caller w
      (here with_more w tt)) not_cut

  pub instantiate_longer :
      (depth : ℕ) (w : World) (d : ModuleDecl) (imports : List Extern)
      → (IsCut k more (instantiate exec depth w d imports) → ⊥)
      → instantiate exec depth (longer k more w) d imports
      ≡ longer_outcome k more (instantiate exec depth w d imports)
  instantiate_longer depth w d imports not_cut =
      uncut (suc w.turns) _ _
      (instantiate_alike with_more (suc w.turns) exec exec (exec_fits with_more (suc w.turns)) depth d imports w
      (here with_more w tt)) not_cut

  uncut_finish :
      (o o' : Finish) → Together with_more o o' → (IsCutFinish k more o → ⊥) → o' ≡ longer_finish k more o
  uncut_finish (Replied answer w) o' h not_cut = h.by.0
  uncut_finish (Early Stopped w) o' h not_cut = h.by.0 not_cut
  uncut_finish (Early (Waiting q) w) o' h not_cut = h.by.0 not_cut
  uncut_finish (Early e w) o' h not_cut = h.by.0 tt

  pub command_longer :
      (modules : List ModuleDecl) (s : Scope) (c : Command) (w : World)
      → (IsCutFinish k more (command exec modules s c w) → ⊥)
      → command exec modules s c (longer k more w) ≡ longer_finish k more (command exec modules s c w)
  command_longer modules s c w not_cut =
      uncut_finish _ _ (command_alike with_more exec exec modules s c w (λ V. exec_fits V (suc w.turns)) tt) not_cut
