-- What a call runs: its commands, from a new store on. This project's own.
use Rattle.std.specs.Prelude.{ℕ, ◌*◌, pos, false, List, [], ◌∷◌, Option, Some, None, is_some, ⊤}
use Rattle.wasm_syntax.specs.declared.declarations.ModuleDecl.{ModuleDecl}
use Rattle.spec_machine.specs.Changes.{set_fuel}
use Rattle.spec_machine.specs.Machine.{EngineParts, Machine, numbers, new_machine}
use Rattle.spec_machine.specs.declared.command.Command.{Command}
use Rattle.spec_machine.specs.declared.command.Command.TheVariants as command
use Rattle.spec_machine.specs.declared.name.Name.TheVariants as named
use Rattle.spec_machine.specs.declared.name.Operand.{Operand}
use Rattle.spec_machine.specs.declared.operation.Op.TheVariants as op
use Rattle.spec_machine.specs.declared.reply.Reply.{Reply}
use Rattle.store_state.specs.Engines.{parts}
use Rattle.wasm_pool.specs.Pools.{pool}
use Rattle.wasm_pool.specs.declared.pooled.Pooled.{Pooled}
use Rattle.wasm_store.specs.Meters.{limited}
use Rattle.wasm_store.specs.Stores.{StoreParts, store_parts}
use Rattle.wasm_call.specs.Outside.{Moving, Surrounded}
use Rattle.wasm_session.specs.Sessions.{Runs}
use Rattle.wasm_run.specs.Starts.{first_id}
use Rattle.binary_run.specs.Bytes.{RunsWithBytes}
use Rattle.binary_run.specs.Calls.{Call}
use Rattle.binary_run.specs.Words.{frames}
use Rattle.binary_run.specs.declared.options.Options.{Options}

-- the engine: number 1, which consumes fuel where some is given, reads no epochs, and has 1,024 frames
abbrev pub engine_for : Options → EngineParts
engine_for options = parts 1 (is_some options.fuel) false frames options.turns

abbrev pub fuelled : Option ℕ → Machine → Machine
fuelled None m = m
fuelled (Some fuel) m = set_fuel m (pos fuel)

-- the store before the first command: there are no objects in it, its fuel is what was given, and its limiter is asked
abbrev pub start_machine : Options → Machine
start_machine options =
    fuelled options.fuel (limited (new_machine first_id (engine_for options)) (numbers 10000 10000 10000))

-- its limiter: a pool of pages of 65,536 bytes for all memories together, and of elements for all tables
abbrev pub pool_for : Options → Pooled ⊤
pool_for options = pool tt (options.pages * 65536) options.elements

abbrev pub start : Options → StoreParts (Pooled ⊤)
start options = store_parts (start_machine options) 0 (pool_for options)

-- an instance of the module without imports, its export of the name, and the call of that: a call that is given no bytes
abbrev pub commands_of : List ℕ → List Operand → List Command
commands_of name arguments =
    command.Instantiate 0 []
    ∷ command.Op (op.GetExport (named.Reply 0) name)
    ∷ command.Op (op.Call (named.Reply 1) arguments None)
    ∷ []

-- the commands of a call were run, with these replies: without bytes those three, and with some the parts of their convention
abbrev pub RunsBy : {T H E : Type 0} → Moving T H E → List ModuleDecl → List ℕ → List Operand → Option (List ℕ) →
    Surrounded T H E → Surrounded T H E → List Reply → Type 0
RunsBy moves modules name arguments None old new replies =
    Runs moves modules (commands_of name arguments) old [] new replies
RunsBy moves modules name arguments (Some bytes) old new replies =
    RunsWithBytes moves modules name arguments bytes old new replies

abbrev pub RunsCall : {T H E : Type 0} → Moving T H E → Call → Surrounded T H E → Surrounded T H E → List Reply → Type 0
RunsCall moves call old new replies = RunsBy moves (call.decl ∷ []) call.name call.arguments call.bytes old new replies

-- how many commands there are
abbrev pub command_count : Option (List ℕ) → ℕ
command_count None = 3
command_count (Some bytes) = 8
