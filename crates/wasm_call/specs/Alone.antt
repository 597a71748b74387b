-- The same clauses of what asks the limiter alone: operations that run no code and read no epoch; and whom each that runs
-- no code asks. This project's own.
use Rattle.std.specs.Prelude.{◌≡◌, ℕ, ◌≤◌, List, ⊤, Result}
use Rattle.wasm_types.specs.declared.faults.OutOfMemory.{OutOfMemory as NoMemory}
use Rattle.spec_machine.specs.Commands.{Row}
use Rattle.spec_machine.specs.declared.command.Command.{Command}
use Rattle.spec_machine.specs.declared.reply.Reply.{Reply}
use Rattle.spec_execution.specs.Askings.{Growing, Grown, Reading, Read, Asking, Outside, Chain}
use Rattle.spec_execution.specs.Outcomes.{World}
use Rattle.wasm_store.specs.Stores.{StoreParts}
use Rattle.wasm_call.specs.Commands as commands
use Rattle.wasm_call.specs.Outcomes as outcomes
use Rattle.wasm_call.specs.Outside.{Growths, Readings, Moving, Surrounded, surrounded}

-- the limiter is asked, and nobody else
abbrev pub limiter_alone : {T : Type 0} → Growths T → Moving T ⊤ ⊤
limiter_alone {T} growths old (Growing g) (Grown answer) new =
    (t : T) × growths old.host_data g answer t × (new ≡ record old { host_data = t })
limiter_alone growths old q a new = ⊥

-- the limiter or the epoch source is asked, and nobody else
abbrev pub codeless : {T E : Type 0} → Growths T → Readings E → Moving T ⊤ E
codeless {T} growths readings old (Growing g) (Grown answer) new =
    (t : T) × growths old.host_data g answer t × (new ≡ record old { host_data = t })
codeless {E = E} growths readings old Reading (Read answer) new =
    (e : E) × readings old.epochs answer e × (new ≡ record old { epochs = e })
codeless growths readings old q a new = ⊥

abbrev pub alone : {T : Type 0} → StoreParts T → Surrounded T ⊤ ⊤
alone s = surrounded s tt tt

-- the host data went so by what was heard
abbrev pub outside_of : {T : Type 0} → T → Outside T ⊤ ⊤
outside_of host_data = record { host_data = host_data; host = tt; epochs = tt }

abbrev pub Hears : {T : Type 0} → Growths T → T → List Asking → T → Type 0
Hears growths old heard new = Chain (limiter_alone growths) (outside_of old) heard (outside_of new)

abbrev pub Leads : {T O : Type 0} → Growths T → (World → O) → ℕ → StoreParts T → (World → O) → StoreParts T → Type 0
Leads growths command turns old ending new =
    outcomes.Leads (limiter_alone growths) command turns (alone old) ending (alone new)

abbrev pub AnsweredWithin : {T : Type 0} → Growths T → ℕ → Row → StoreParts T → Reply → StoreParts T → Type 0
AnsweredWithin growths limit row old reply new =
    outcomes.AnsweredWithin (limiter_alone growths) limit row (alone old) reply (alone new)

abbrev pub AnsweredRow : {T : Type 0} → Growths T → Row → StoreParts T → Reply → StoreParts T → Type 0
AnsweredRow growths row old reply new = outcomes.AnsweredRow (limiter_alone growths) row (alone old) reply (alone new)

abbrev pub ShortWithin : {T : Type 0} → Growths T → ℕ → Row → StoreParts T → StoreParts T → Type 0
ShortWithin growths limit row old new = outcomes.ShortWithin (limiter_alone growths) limit row (alone old) (alone new)

abbrev pub ShortRow : {T : Type 0} → Growths T → Row → StoreParts T → StoreParts T → Type 0
ShortRow growths row old new = outcomes.ShortRow (limiter_alone growths) row (alone old) (alone new)

abbrev pub CutRow : {T : Type 0} → Growths T → Row → StoreParts T → StoreParts T → Type 0
CutRow growths row old new = outcomes.CutRow (limiter_alone growths) row (alone old) (alone new)

abbrev pub PerformedWithin : {T : Type 0} → Growths T → ℕ → Row → StoreParts T → Result Reply NoMemory → StoreParts T →
    Type 0
PerformedWithin growths limit row old result new =
    outcomes.PerformedWithin (limiter_alone growths) limit row (alone old) result (alone new)

-- one turn is enough
abbrev pub AnsweredAtOnce : {T : Type 0} → Growths T → Row → StoreParts T → Reply → StoreParts T → Type 0
AnsweredAtOnce growths row old reply new =
    (limit : ℕ) → 1 ≤ limit → AnsweredWithin growths limit row old reply new

abbrev pub PerformedAtOnce : {T : Type 0} → Growths T → Row → StoreParts T → Result Reply NoMemory → StoreParts T →
    Type 0
PerformedAtOnce growths row old result new =
    (limit : ℕ) → 1 ≤ limit → PerformedWithin growths limit row old result new

abbrev pub CommandAnswered : {T : Type 0} → Growths T → List Reply → Command → StoreParts T → Reply → StoreParts T →
    Type 0
CommandAnswered growths replies command old reply new =
    commands.CommandAnswered (limiter_alone growths) replies command (alone old) reply (alone new)

abbrev pub CommandCut : {T : Type 0} → Growths T → List Reply → Command → StoreParts T → StoreParts T → Type 0
CommandCut growths replies command old new =
    commands.CommandCut (limiter_alone growths) replies command (alone old) (alone new)
