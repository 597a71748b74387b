-- What each command of a run leaves as it was, and an unfinished one. This project's own.
use Rattle.std.specs.Prelude.{◌≡◌, ℕ, List, [], ◌∷◌, ◌++◌, length, drop, take, slice_get, Some}
use Rattle.wasm_syntax.specs.declared.declarations.ModuleDecl.{ModuleDecl}
use Rattle.wasm_values.specs.declared.store_id.StoreId.{StoreId}
use Rattle.spec_machine.specs.Names.{outermost}
use Rattle.spec_machine.specs.declared.command.Command.{Command}
use Rattle.spec_execution.specs.Askings.{Asking}
use Rattle.spec_execution.specs.Runs.{State, step, run, IsStop}
use Rattle.spec_reach.specs.Nodes.{Node}
use Rattle.spec_reach.specs.Outside.{SameOutside}
use Rattle.spec_reach.specs.Reach.{reach}
use Rattle.spec_reach.specs.Roots.{roots}
use Rattle.law_confined.specs.Shown.{unshown}

-- what a command reaches that began in one state and came to another: from what it names, and from the functions that
-- bodies handed out meanwhile and were not shown
abbrev pub reached : State → Command → State → List Node
reached s c t =
    reach s.machine
    (roots s.machine.id (outermost s.replies) c ++ unshown s.machine.id (drop (length s.heard) t.heard))

-- nothing outside of it is changed
abbrev pub Confines : State → Command → State → Type 0
Confines s c t = SameOutside (reached s c t) s.machine t.machine

-- over the modules of a session
module _ (modules : List ModuleDecl) where
  -- so it is with each command of a run
  abbrev pub RunConfines : State → List Command → Type 0
  RunConfines s [] = Unit {0}
  RunConfines s (c ∷ commands) = (t : State) → step modules s c ≡ Some t → Confines s c t × RunConfines t commands

  -- and with the command behind the first n that is unfinished in a state
  abbrev pub StopConfines : State → List Command → ℕ → State → Type 0
  StopConfines s commands n t =
      (u : State) (c : Command) → run modules s (take n commands) ≡ Some u → slice_get commands n ≡ Some c
      → Confines u c t

-- each run is such, from any state
abbrev pub RunsConfine : Type 0
RunsConfine = (modules : List ModuleDecl) (s : State) (commands : List Command) → RunConfines modules s commands

-- and so is each stop of a run: at any number of turns, at a step of the host that had no memory, and before an
-- instantiation counts
abbrev pub StopsConfine : Type 0
StopsConfine =
    (modules : List ModuleDecl) (s : State) (commands : List Command) (n turns : ℕ) (t : State)
    → IsStop modules s commands n turns t → StopConfines modules s commands n t

-- ---- where bodies handed out no function that they were not shown

-- nothing of what was heard handed out such a function
abbrev pub IsShown : List Asking → Type 0
IsShown heard = (id : StoreId) → unshown id heard ≡ []

-- a command leaves all as it was outside of what leads from the objects that it names
abbrev pub ConfinesNamed : State → Command → State → Type 0
ConfinesNamed s c t = SameOutside (reach s.machine (roots s.machine.id (outermost s.replies) c)) s.machine t.machine

module _ (modules : List ModuleDecl) where
  -- so it is with each command of a run
  abbrev pub RunConfinesNamed : State → List Command → Type 0
  RunConfinesNamed s [] = Unit {0}
  RunConfinesNamed s (c ∷ commands) =
      (t : State) → step modules s c ≡ Some t → ConfinesNamed s c t × RunConfinesNamed t commands

  -- and with the command behind the first n that is unfinished in a state
  abbrev pub StopConfinesNamed : State → List Command → ℕ → State → Type 0
  StopConfinesNamed s commands n t =
      (u : State) (c : Command) → run modules s (take n commands) ≡ Some u → slice_get commands n ≡ Some c
      → ConfinesNamed u c t

-- each run is such
abbrev pub RunsConfineNamed : Type 0
RunsConfineNamed =
    (modules : List ModuleDecl) (s : State) (commands : List Command) (t : State) → run modules s commands ≡ Some t
    → IsShown t.heard → RunConfinesNamed modules s commands

-- and so is each stop of a run, with the commands before it
abbrev pub StopsConfineNamed : Type 0
StopsConfineNamed =
    (modules : List ModuleDecl) (s : State) (commands : List Command) (n turns : ℕ) (t : State)
    → IsStop modules s commands n turns t → IsShown t.heard
    → RunConfinesNamed modules s (take n commands) × StopConfinesNamed modules s commands n t
