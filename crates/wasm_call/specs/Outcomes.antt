-- What a command of a store came to, with what was heard on its way. This project's own.
use Rattle.std.specs.Prelude.{◌≡◌, ℕ, suc, ◌+◌, ◌<◌, ◌≤◌, ◌⊎◌, List, ◌++◌, Option, Some, None, Result, Ok, Err}
use Rattle.wasm_types.specs.declared.faults.OutOfMemory.{OutOfMemory as NoMemory}
use Rattle.wasm_values.specs.declared.refusals.Refusal.TheVariants.{TurnLimit}
use Rattle.spec_machine.specs.Commands.{Row, operation}
use Rattle.spec_machine.specs.Names.{Scope}
use Rattle.spec_machine.specs.declared.operation.Op.{Op}
use Rattle.spec_machine.specs.declared.operation.Op.TheVariants.{Call}
use Rattle.spec_machine.specs.declared.reply.Reply.{Reply}
use Rattle.spec_machine.specs.declared.reply.Reply.TheVariants.{Refused}
use Rattle.spec_execution.specs.Askings.{Answer, Asking, answers_in}
use Rattle.spec_execution.specs.Bodies.{exec}
use Rattle.spec_execution.specs.Commands.{Finish, Replied, Early, perform, replied}
use Rattle.spec_execution.specs.Outcomes.{World, world, Stopped, Exhausted}
use Rattle.wasm_call.specs.Outside.{Moving, Surrounded, Hears, turns_heard}

-- a command with so many turns took one store to another, with the turns that it made, and ended so: by what was heard.
-- Whatever was heard before stands before it, and whatever answers are left over stay
pub record Leads {T H E O : Type 0} (moves : Moving T H E) (command : World → O) (turns : ℕ) (old : Surrounded T H E)
    (ending : World → O) (new : Surrounded T H E) : Type 0 where
  pub heard : List Asking
  pub left : ℕ
  pub within : new.store.turns + left ≡ turns
  pub chained : Hears moves old heard new
  pub ends : (before : List Asking) (rest : List Answer) →
      command (world old.store.machine turns before (answers_in heard ++ rest))
      ≡ ending (world new.store.machine left (before ++ heard) rest)

-- an outermost command by its row
abbrev pub by_row : Row → World → Finish
by_row row w = perform Early exec 0 w row replied

-- its reply, and where it stands then: one that was stopped had as many turns as it was given
abbrev pub answer_of : Finish → Option (Reply × World)
answer_of (Replied reply w) = Some (reply, w)
answer_of (Early Stopped w) = Some (Refused TurnLimit, w)
answer_of (Early e w) = None

-- where it stands that came to its reply, or was stopped
abbrev pub stop_of : Finish → Option World
stop_of (Replied reply w) = Some w
stop_of (Early Stopped w) = Some w
stop_of (Early e w) = None

-- where it stands in which a step of a body of the host had no memory
abbrev pub lack_of : Finish → Option World
lack_of (Early Exhausted w) = Some w
lack_of finish = None

-- with so many turns it gave this reply
abbrev pub AnsweredBy : {T H E : Type 0} → Moving T H E → ℕ → (World → Finish) → Surrounded T H E → Reply →
    Surrounded T H E → Type 0
AnsweredBy moves limit command old reply new =
    Leads moves (λ w. answer_of (command w)) limit old (λ w. Some (reply, w)) new

-- with the engine's number of turns
abbrev pub Answered : {T H E : Type 0} → Moving T H E → (World → Finish) → Surrounded T H E → Reply →
    Surrounded T H E → Type 0
Answered moves command old reply new = AnsweredBy moves old.store.machine.engine.turns command old reply new

-- memory ran out at its act, which was due: it is stopped with the turns that it made, and one was left for the act. Each
-- of these was a question, and nothing of the store but host data changed
pub record ShortBy {T H E : Type 0} (moves : Moving T H E) (limit : ℕ) (command : World → Finish)
    (old new : Surrounded T H E) : Type 0 where
  pub led : Leads moves command new.store.turns old (Early Stopped) new
  pub unchanged : new.store.machine ≡ old.store.machine
  pub questions : new.store.turns ≡ turns_heard led.heard
  pub within : new.store.turns < limit

abbrev pub Short : {T H E : Type 0} → Moving T H E → (World → Finish) → Surrounded T H E → Surrounded T H E → Type 0
Short moves command old new = ShortBy moves old.store.machine.engine.turns command old new

-- memory ran out in it, at its act, at its refusal or in the code that it runs: with the turns that it made, none of
-- which is left, it is stopped or has come to its end
pub record Cut {T H E : Type 0} (moves : Moving T H E) (command : World → Finish) (old new : Surrounded T H E) : Type 0
  where
    pub led : Leads moves (λ w. stop_of (command w)) new.store.turns old (λ w. Some w) new
    pub within : new.store.turns ≤ old.store.machine.engine.turns

-- memory ran out in a step of a body of the host: it was asked with the turns that were made, and the one that it would
-- have taken is left
pub record Lacked {T H E : Type 0} (moves : Moving T H E) (command : World → Finish) (old new : Surrounded T H E) : Type 0
  where
    pub led : Leads moves (λ w. lack_of (command w)) (suc new.store.turns) old (λ w. Some w) new
    pub within : new.store.turns < old.store.machine.engine.turns

-- the same of a row
abbrev pub AnsweredWithin : {T H E : Type 0} → Moving T H E → ℕ → Row → Surrounded T H E → Reply → Surrounded T H E →
    Type 0
AnsweredWithin moves limit row old reply new = AnsweredBy moves limit (by_row row) old reply new

abbrev pub ShortWithin : {T H E : Type 0} → Moving T H E → ℕ → Row → Surrounded T H E → Surrounded T H E → Type 0
ShortWithin moves limit row old new = ShortBy moves limit (by_row row) old new

abbrev pub AnsweredRow : {T H E : Type 0} → Moving T H E → Row → Surrounded T H E → Reply → Surrounded T H E → Type 0
AnsweredRow moves row old reply new = Answered moves (by_row row) old reply new

abbrev pub ShortRow : {T H E : Type 0} → Moving T H E → Row → Surrounded T H E → Surrounded T H E → Type 0
ShortRow moves row old new = Short moves (by_row row) old new

abbrev pub CutRow : {T H E : Type 0} → Moving T H E → Row → Surrounded T H E → Surrounded T H E → Type 0
CutRow moves row old new = Cut moves (by_row row) old new

abbrev pub LackedRow : {T H E : Type 0} → Moving T H E → Row → Surrounded T H E → Surrounded T H E → Type 0
LackedRow moves row old new = Lacked moves (by_row row) old new

-- memory ran out in a row that runs code
abbrev pub UnfinishedRow : {T H E : Type 0} → Moving T H E → Row → Surrounded T H E → Surrounded T H E → Type 0
UnfinishedRow moves row old new = CutRow moves row old new ⊎ LackedRow moves row old new

-- the reply of a row, or that memory ran out at its act: with so many turns, and with the engine's number of turns
abbrev pub PerformedWithin : {T H E : Type 0} → Moving T H E → ℕ → Row → Surrounded T H E → Result Reply NoMemory →
    Surrounded T H E → Type 0
PerformedWithin moves limit row old (Ok reply) new = AnsweredWithin moves limit row old reply new
PerformedWithin moves limit row old (Err none) new = ShortWithin moves limit row old new

abbrev pub Performed : {T H E : Type 0} → Moving T H E → Row → Surrounded T H E → Result Reply NoMemory →
    Surrounded T H E → Type 0
Performed moves row old result new = PerformedWithin moves old.store.machine.engine.turns row old result new

-- the same of a call, in which memory may run out after any turn
abbrev pub Called : {T H E : Type 0} → Moving T H E → Row → Surrounded T H E → Result Reply NoMemory →
    Surrounded T H E → Type 0
Called moves row old (Ok reply) new = AnsweredRow moves row old reply new
Called moves row old (Err none) new = UnfinishedRow moves row old new

-- of an operation in a scope
abbrev pub Operated : {T H E : Type 0} → Moving T H E → Scope → Op → Surrounded T H E → Result Reply NoMemory →
    Surrounded T H E → Type 0
Operated moves s (Call func args results) old result new =
    Called moves (operation old.store.machine s (Call func args results)) old result new
Operated moves s op old result new = Performed moves (operation old.store.machine s op) old result new
