-- The store of a call before its first command, and what its commands come to.
use Rattle.std.proofs.Common.{◌≡◌, ℕ, List, Some, None, [], ◌∷◌, length, refl, ap, ◌∙◌}
use Rattle.std.specs.Prelude.{⊤, Result, Ok, Err, IfOk}
use Rattle.wasm_syntax.specs.declared.declarations.ModuleDecl.{ModuleDecl}
use Rattle.wasm_values.specs.StoreIds.{Gives}
use Rattle.wasm_values.specs.declared.store_id.StoreId.{StoreId}
use Rattle.spec_machine.specs.Machine.{EngineParts, numbers, new_machine}
use Rattle.spec_machine.specs.declared.command.Command.{Command}
use Rattle.spec_machine.specs.declared.name.Operand.{Operand}
use Rattle.spec_machine.specs.declared.reply.Reply.{Reply}
use Rattle.wasm_host.specs.declared.no_host.NoHost.{NoHost}
use Rattle.wasm_pool.specs.declared.pooled.Pooled.{Pooled}
use Rattle.wasm_store.specs.Meters.{limited}
use Rattle.wasm_store.specs.Stores.{StoreParts, store_parts}
use Rattle.wasm_call.specs.Outside.{Readings, Surrounded, surrounded}
use Rattle.wasm_session.specs.Sessions.{Runs}
use Rattle.wasm_run.specs.Starts.{first_id}
use Rattle.wasm_run.proofs.StartLemmas.{first_is}
use Rattle.binary_run.specs.Calls.{Call}
use Rattle.binary_run.specs.Bytes.{first_part, second_part, third_part, pointer_in, region_in}
use Rattle.binary_run.specs.Starts.{commands_of, command_count, engine_for, fuelled, pool_for, start, RunsBy}
use Rattle.binary_run.specs.Statuses.{relations, no_host, HasRun}
use Rattle.binary_run.specs.declared.options.Options.{Options}

-- a store of the first id, whose limiter is asked, and which is filled
pub starts : (options : Options) (none bounded filled : StoreParts (Pooled ⊤)) (engine : EngineParts) (before next : ℕ)
    (limit : Pooled ⊤) → Gives before none.machine.id next → before ≡ 1 → engine ≡ engine_for options →
    none ≡ store_parts (new_machine none.machine.id engine) 0 limit → limit ≡ pool_for options →
    bounded ≡ record none { machine = limited none.machine (numbers 10000 10000 10000) } →
    filled ≡ record bounded { machine = fuelled options.fuel bounded.machine } → filled ≡ start options
starts options none bounded filled engine before next limit gives first same made is_limit is_bounded is_filled =
    let begun : none ≡ store_parts (new_machine first_id (engine_for options)) 0 (pool_for options) =
    made
    ∙ ap (λ (id : StoreId). store_parts (new_machine id engine) 0 limit) (first_is none.machine.id (gives.0 ∙ first))
    ∙ ap (λ (e : EngineParts). store_parts (new_machine first_id e) 0 limit) same
    ∙ ap (λ (d : Pooled ⊤). store_parts (new_machine first_id (engine_for options)) 0 d) is_limit in
    rw (is_filled, is_bounded, begun) refl

-- without bytes these commands were run from the first reply on
pub runs_alone : {E : Type 0} (readings : Readings E) (modules : List ModuleDecl) (name : List ℕ) (arguments : List Operand)
    (commands : List Command) (old new : Surrounded (Pooled ⊤) NoHost E) (before replies : List Reply) →
    commands ≡ commands_of name arguments → before ≡ [] →
    Runs (relations readings) modules commands old before new replies →
    RunsBy (relations readings) modules name arguments None old new replies
runs_alone readings modules name arguments commands old new before replies c b ran = rw (c, b) at ran

-- with bytes those of the parts, each on what the one before it left
pub runs_with_bytes : {E : Type 0} (readings : Readings E) (modules : List ModuleDecl) (name : List ℕ)
    (arguments : List Operand) (bytes : List ℕ) (first second third : List Command)
    (old made done new : Surrounded (Pooled ⊤) NoHost E) (before room answer replies : List Reply) →
    first ≡ first_part name (length bytes) → second ≡ second_part (pointer_in room) bytes arguments →
    third ≡ third_part (region_in answer) → before ≡ [] →
    Runs (relations readings) modules first old before made room →
    Runs (relations readings) modules second made room done answer →
    Runs (relations readings) modules third done answer new replies →
    RunsBy (relations readings) modules name arguments (Some bytes) old new replies
runs_with_bytes readings modules name arguments bytes first second third old made done new before room answer replies f s t b
    makes_room calls reads =
    record {
      made = made;
      room = room;
      makes_room = rw (f, b) at makes_room;
      done = done;
      answer = answer;
      calls = rw s at calls;
      reads = rw t at reads;
    }

-- what a call comes to on its module and from its first store on
pub has_run : {E : Type 0} (readings : Readings E) (epochs epochs_after : E) (call : Call) (modules : List ModuleDecl)
    (old new : StoreParts (Pooled ⊤)) (replies : List Reply) → modules ≡ call.decl ∷ [] → old ≡ start call.options →
    RunsBy (relations readings) modules call.name call.arguments call.bytes (surrounded old no_host epochs)
    (surrounded new no_host epochs_after) replies →
    length replies ≡ command_count call.bytes → HasRun readings epochs epochs_after call replies
has_run readings epochs epochs_after call modules old new replies m o ran answered =
    record { store = new; ran = rw (m, o) at ran; answered = answered }

-- where memory did not run out
pub has_run_if : {E X : Type 0} (readings : Readings E) (epochs epochs_after : E) (call : Call) (modules : List ModuleDecl)
    (old new : StoreParts (Pooled ⊤)) (result : Result (List Reply) X) → modules ≡ call.decl ∷ [] →
    old ≡ start call.options →
    IfOk result (λ replies. RunsBy (relations readings) modules call.name call.arguments call.bytes
    (surrounded old no_host epochs) (surrounded new no_host epochs_after) replies) →
    IfOk result (λ replies. length replies ≡ command_count call.bytes) →
    IfOk result (λ replies. HasRun readings epochs epochs_after call replies)
has_run_if readings epochs epochs_after call modules old new (Ok replies) m o ran answered =
    has_run readings epochs epochs_after call modules old new replies m o ran answered
has_run_if readings epochs epochs_after call modules old new (Err e) m o ran answered = tt
