-- Instantiation by a host, as an outermost command.
-- WebAssembly core specification, "Execution, modules, instantiation"; turns and want of memory are this project's own
use Rattle.std.specs.Prelude.{◌≡◌, ◌⊎◌, ℕ, ◌+◌, ◌<◌, List, ◌++◌, ⊤, Some, slice_get, Result, Ok, Err}
use Rattle.wasm_syntax.specs.declared.declarations.ModuleDecl.{ModuleDecl}
use Rattle.wasm_values.specs.declared.externals.Extern.{Extern}
use Rattle.wasm_values.specs.declared.handles.Instance.{Instance}
use Rattle.wasm_values.specs.declared.refusals.Refusal.{Refusal}
use Rattle.wasm_values.specs.declared.refusals.Refusal.TheVariants.{WrongStore, WrongEngine, ImportCount, ImportType, ResourceLimit, GrowFailed, LimiterFault, HookFault, EpochFault, NoHostBody, HostFault, HostResultType, TurnLimit, Trap, OutOfMemory}
use Rattle.spec_machine.specs.Commands.{Instantiate}
use Rattle.spec_machine.specs.Machine.{Machine}
use Rattle.spec_machine.specs.Names.{outermost, named_objects}
use Rattle.spec_machine.specs.declared.name.Name.{Name}
use Rattle.spec_machine.specs.declared.reply.Reply.{Reply}
use Rattle.spec_machine.specs.declared.reply.Reply.TheVariants as reply
use Rattle.spec_execution.specs.Askings.{Answer, Asking, answers_in}
use Rattle.spec_execution.specs.Instantiation.{imports_fit, Within, counted, ask_memories, ask_tables}
use Rattle.spec_execution.specs.Outcomes.{World, world, Outcome}
use Rattle.spec_execution.specs.Segments.{Done, make}
use Rattle.wasm_call.specs.Outcomes.{AnsweredRow, UnfinishedRow}
use Rattle.wasm_call.specs.Outside.{Moving, Surrounded, surrounded, Hears}

-- but for the turns, of which there was none, all is as it was
abbrev pub IsUntouched : {T H E : Type 0} → Surrounded T H E → Surrounded T H E → Type 0
IsUntouched old new = new ≡ surrounded (record old.store { turns = 0 }) old.host old.epochs

-- memory ran out in an instantiation, after so many turns
abbrev pub InstantiationCut : {T H E : Type 0} → Moving T H E → ModuleDecl → List Extern → Surrounded T H E →
    Surrounded T H E → Type 0
InstantiationCut moves d imports old new = UnfinishedRow moves (Instantiate d imports) old new

abbrev pub InstantiationFailed : {T H E : Type 0} → Moving T H E → ModuleDecl → List Extern → Surrounded T H E →
    Refusal → Surrounded T H E → Type 0
InstantiationFailed moves d imports old OutOfMemory new = InstantiationCut moves d imports old new
InstantiationFailed moves d imports old why new = AnsweredRow moves (Instantiate d imports) old (reply.Refused why) new

-- what an instantiation answers, and what it leaves
abbrev pub Instantiated : {T H E : Type 0} → Moving T H E → ModuleDecl → List Extern → Surrounded T H E →
    Result Instance Refusal → Surrounded T H E → Type 0
Instantiated moves d imports old (Ok instance) new =
    AnsweredRow moves (Instantiate d imports) old (reply.Instance instance) new
Instantiated moves d imports old (Err why) new = InstantiationFailed moves d imports old why new

-- why an instantiation may be refused: by a condition of its imports that does not hold, and it is that one; or by a count
-- past its limit, by a growth, and in its run as a call is
abbrev pub InstantiationRefuses : Machine → ModuleDecl → List Extern → Refusal → Type 0
InstantiationRefuses m d imports WrongStore = imports_fit m d imports ≡ Err WrongStore
InstantiationRefuses m d imports WrongEngine = imports_fit m d imports ≡ Err WrongEngine
InstantiationRefuses m d imports ImportCount = imports_fit m d imports ≡ Err ImportCount
InstantiationRefuses m d imports (ImportType n) = imports_fit m d imports ≡ Err (ImportType n)
InstantiationRefuses m d imports (ResourceLimit which) = Unit {0}
InstantiationRefuses m d imports GrowFailed = Unit {0}
InstantiationRefuses m d imports LimiterFault = Unit {0}
InstantiationRefuses m d imports HookFault = Unit {0}
InstantiationRefuses m d imports EpochFault = Unit {0}
InstantiationRefuses m d imports NoHostBody = Unit {0}
InstantiationRefuses m d imports HostFault = Unit {0}
InstantiationRefuses m d imports HostResultType = Unit {0}
InstantiationRefuses m d imports TurnLimit = Unit {0}
InstantiationRefuses m d imports (Trap t) = Unit {0}
InstantiationRefuses m d imports OutOfMemory = Unit {0}
InstantiationRefuses m d imports why = ⊥

-- the instance is made whole in a store, and its module has a start function, which is entered then
pub record Starts (d : ModuleDecl) (imports : List Extern) (old : Machine) : Type 0 where
  pub start : ℕ
  pub made : Machine
  pub declared : d.start ≡ Some start
  pub whole : make old d imports ≡ Done made

-- the turn that makes the instance is due: the imports fit, the counts that are raised are within the limits, each growth
-- was granted, by the rule or by the limiter, and a turn is left
pub record IsMakingDue {T H E : Type 0} (moves : Moving T H E) (d : ModuleDecl) (imports : List Extern)
    (old new : Surrounded T H E) : Type 0 where
  pub fits : imports_fit old.store.machine d imports ≡ Ok tt
  pub within : counted old.store.machine d ≡ Within new.store.machine
  pub heard : List Asking
  pub chained : Hears moves old heard new
  pub granted : (go : World → Outcome) (left : ℕ) (before : List Asking) (rest : List Answer) →
      ask_memories d.memories (world new.store.machine (new.store.turns + left) before (answers_in heard ++ rest))
      (λ w. ask_tables d.tables w go) ≡ go (world new.store.machine left (before ++ heard) rest)
  pub left : new.store.turns < old.store.machine.engine.turns

-- memory ran out where that turn was due, or behind it in the start function
abbrev pub MakingShort : {T H E : Type 0} → Moving T H E → ModuleDecl → List Extern → Surrounded T H E →
    Surrounded T H E → Type 0
MakingShort {T} {H} {E} moves d imports old new =
    (due : Surrounded T H E) × IsMakingDue moves d imports old due
    × ((new ≡ due) ⊎ Starts d imports due.store.machine)

-- of a command, whose names stand for objects and whose module there is: or before that, for a list of the objects
pub record NamedRanShort {T H E : Type 0} (moves : Moving T H E) (modules : List ModuleDecl) (replies : List Reply)
    (number : ℕ) (imports : List Name) (old new : Surrounded T H E) : Type 0 where
  pub «module» : ModuleDecl
  pub objects : List Extern
  pub module_is : slice_get modules number ≡ Some «module»
  pub objects_are : named_objects (outermost replies) imports ≡ Some objects
  pub short : IsUntouched old new ⊎ MakingShort moves «module» objects old new

-- what is told of an instance by what its start function came to
abbrev pub told_of : Instance → Result ⊤ Refusal → Result Instance Refusal
told_of instance (Ok _) = Ok instance
told_of instance (Err why) = Err why
