-- A run of commands, and a stop of one, keep the store well formed, and no command is stuck.
use Rattle.std.proofs.Common.{ℕ, ◌≤◌, List, subst, le_trans}
use Rattle.std.specs.Prelude.{nat_le, ◌&&◌}
use Rattle.std.proofs.lemmas.Bool.{leb-true}
use Rattle.wasm_types.specs.Each.{Each}
use Rattle.wasm_types.specs.EqualityLaws.{both}
use Rattle.wasm_syntax.specs.Modules.{IsModule}
use Rattle.wasm_syntax.specs.declared.declarations.ModuleDecl.{ModuleDecl}
use Rattle.spec_machine.specs.Machine.{Machine}
use Rattle.spec_machine.specs.Names.{outermost}
use Rattle.spec_machine.specs.WellFormed.{IsWellFormed}
use Rattle.spec_machine.specs.declared.command.Command.{Command}
use Rattle.law_store.specs.Rows.{IsTyped}
use Rattle.law_store.specs.Later.{Extends}
use Rattle.law_store.proofs.LaterStoreLemmas.{extends_own, extends_on}
use Rattle.law_store.proofs.Objects.{keeps_objects}
use Rattle.spec_execution.specs.Bodies.{exec}
use Rattle.spec_execution.specs.Askings.{Answer}
use Rattle.spec_execution.specs.Commands.{Finish, Replied, Early}
use Rattle.spec_execution.specs.Outcomes.{World, End, Trapped, Refused, Stopped, Waiting, Exhausted, Stuck}
use Rattle.spec_execution.specs.Runs.{State, world_in, turns_of, finish_of}
use Rattle.spec_execution.proofs.LaterWorldLemmas.{end_of}
use Rattle.law_code.specs.Answers.{AreTyped}
use Rattle.law_code.specs.Good.{IsGoodWorld, IsGoodEnd}
use Rattle.law_code.specs.RunLaws.{MayRun, IsKept, RunKeepsWellFormed, StopKeepsWellFormed, CommandsAreNeverStuck}
use Rattle.law_code.proofs.Commands.{IsGoodFinish, command_good}
use Rattle.law_code.proofs.FollowLemmas.{run_holds, stop_holds}
use Rattle.law_code.proofs.Runs.{exec_sound}
use Rattle.law_code.proofs.Worlds.{later_own}

-- at most as many turns as an engine gives to a command
abbrev pub AreFew : ℕ → Type 0
AreFew turns = turns ≤ 1000000000

few_turns : (m : Machine) → IsWellFormed m → AreFew (turns_of m)
few_turns m w =
    let frames : ℕ = m.engine.frames in
    let turns : ℕ = m.engine.turns in
    leb-true turns 1000000000
    (both (nat_le 1 frames && nat_le frames 1024 && nat_le 1 turns) (nat_le turns 1000000000) w.engine_is).1

module _ (base : Machine) where
  -- a state in which commands may run, later than the base
  pub record IsGoodState (m : Machine) (answers : List Answer) : Type 0 where
    pub well : IsWellFormed m
    pub later : Extends base m
    pub typed : AreTyped answers

  begun : (turns : ℕ) (s : State) → AreFew turns → IsGoodState s.machine s.answers →
      IsGoodWorld (world_in turns s) (world_in turns s)
  begun turns s few g = record { well = g.well; later = later_own (world_in turns s); turns = few; typed = g.typed }

  pub ends_good : (modules : List ModuleDecl) → Each modules IsModule → (turns : ℕ) (s : State) (c : Command) →
      AreFew turns → IsGoodState s.machine s.answers → IsTyped c →
      IsGoodFinish (world_in turns s) (finish_of modules turns s c)
  ends_good modules are turns s c few g h =
      command_good (world_in turns s) exec exec_sound modules (outermost s.replies) c (world_in turns s) h are
      (begun turns s few g)

  end_world : (u : World) (e : End) (w : World) → IsGoodEnd u e w → IsGoodWorld u w
  end_world u (Trapped t) w g = g
  end_world u (Refused why) w g = g
  end_world u Stopped w g = g
  end_world u (Waiting q) w g = g
  end_world u Exhausted w g = g
  end_world u Stuck w g = absurd g

  finish_world : (u : World) (x : Finish) → IsGoodFinish u x → IsGoodWorld u (end_of x)
  finish_world u (Replied reply w) g = g
  finish_world u (Early e w) g = end_world u e w g

  pub keeps : (modules : List ModuleDecl) → Each modules IsModule → (turns : ℕ) (s : State) (c : Command) →
      AreFew turns → IsGoodState s.machine s.answers → IsTyped c →
      IsGoodState (end_of (finish_of modules turns s c)).machine (end_of (finish_of modules turns s c)).answers
  keeps modules are turns s c few g h =
      let x : Finish = finish_of modules turns s c in
      let w : IsGoodWorld (world_in turns s) (end_of x) =
      finish_world (world_in turns s) x (ends_good modules are turns s c few g h) in
      record {
        well = w.well;
        later = extends_on base s.machine (end_of x).machine g.later w.later.store;
        typed = w.typed;
      }

  few_in : (s : State) → IsGoodState s.machine s.answers → AreFew (turns_of s.machine)
  few_in s g = few_turns s.machine g.well

begins : (s : State) → MayRun s → IsGoodState s.machine s.machine s.answers
begins s b = record { well = b.well; later = extends_own s.machine; typed = b.typed }

kept_by : (base : Machine) (t : State) → IsGoodState base t.machine t.answers → IsKept base t.machine
kept_by base t g = record { well = g.well; later = g.later; objects = keeps_objects base t.machine g.later }

pub run_keeps : RunKeepsWellFormed
run_keeps modules s t commands are b h p =
    kept_by s.machine t
    (run_holds modules (IsGoodState s.machine) AreFew IsTyped (few_in s.machine) (keeps s.machine modules are) s t
    commands (begins s b) h p)

pub stop_keeps : StopKeepsWellFormed
stop_keeps modules s t commands n turns are b h stop =
    kept_by s.machine t
    (stop_holds modules (IsGoodState s.machine) AreFew IsTyped (few_in s.machine) (keeps s.machine modules are) s t
    commands n turns (λ k within. le_trans within (few_turns s.machine b.well)) (begins s b) h stop)

pub commands_never_stuck : CommandsAreNeverStuck
commands_never_stuck modules turns s c w are within b t e =
    subst (IsGoodFinish (world_in turns s)) e
    (ends_good s.machine modules are turns s c (le_trans within (few_turns s.machine b.well)) (begins s b) t)
