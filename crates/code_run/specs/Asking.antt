-- What code asks of what is outside of it, and the stores in which it runs. This project's own.
use Rattle.std.specs.Prelude.{◌≡◌, true}
use Rattle.spec_execution.specs.Askings.{Question, Growing, Reading, Behaving, Answer, Grown, Read, Behaved}
use Rattle.store_state.specs.Parts.{HeldParts}
use Rattle.code_leaps.specs.Leading.{Setting}
use Rattle.code_leaps.specs.Running.{ruled}
use Rattle.code_stack.specs.declared.rules.Rules.{Rules}
use Rattle.code_run.specs.declared.context.CodeContext.{CodeContext}

-- how what is outside goes from one state to another by a question and its answer
abbrev pub Moving : Type 0 → Type 1
Moving W = W → Question → Answer → W → Type 0

-- code asks whether a memory or a table may grow, the epoch where it is read, and what is done at the deadline where the
-- epoch is read and a behaviour is set; it asks nothing else
abbrev pub Asks : {W : Type 0} → Rules → Moving W → Moving W
Asks rules moves old (Growing g) (Grown answer) new = moves old (Growing g) (Grown answer) new
Asks rules moves old Reading (Read answer) new = (rules.reads_epochs ≡ true) × moves old Reading (Read answer) new
Asks rules moves old Behaving (Behaved answer) new =
    (rules.reads_epochs ≡ true) × (rules.behaving ≡ true) × moves old Behaving (Behaved answer) new
Asks rules moves old q a new = ⊥

-- the stores in which code runs
abbrev pub ruled_in : CodeContext → Setting HeldParts
ruled_in context = ruled context.program.now context.rules
