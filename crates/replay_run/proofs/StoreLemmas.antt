-- The store of a script before its first command, where the script is recorded or replayed.
use Rattle.std.proofs.Common.{◌≡◌, ℕ, false, [], Option, Some, None, refl, ap, ◌∙◌}
use Rattle.std.specs.Prelude.{Bool, is_some}
use Rattle.law_replay.specs.Tapes.{TapeParts}
use Rattle.wasm_values.specs.StoreIds.{Gives}
use Rattle.wasm_values.specs.declared.store_id.StoreId.{StoreId}
use Rattle.spec_machine.specs.Machine.{EngineParts, Machine, new_machine}
use Rattle.wasm_store.specs.Stores.{StoreParts, store_parts}
use Rattle.script_commands.specs.declared.engine.ScriptEngine.{ScriptEngine}
use Rattle.script_commands.specs.declared.host_answers.HostAnswers.{HostAnswers}
use Rattle.script_commands.specs.declared.host_answers.LimiterAnswers.{LimiterAnswers}
use Rattle.script_data.specs.HostData.{limiter_by}
use Rattle.script_data.specs.declared.script_data.ScriptData.{ScriptData}
use Rattle.wasm_replay.specs.Kept.{kept}
use Rattle.wasm_replay.specs.Played.{new_replayed}
use Rattle.wasm_replay.specs.declared.recorded.Recorded.{Recorded}
use Rattle.wasm_replay.specs.declared.replayed.Replayed.{Replayed}
use Rattle.wasm_run.specs.Starts.{first_id, script_engine, start_machine, start_data, most_by}
use Rattle.wasm_run.proofs.StartLemmas.{first_is}
use Rattle.replay_run.specs.Starts.{IsUnhooked, IsStart, IsRecordedStart, IsReplayedStart, room, limited_if, most_of}
use Rattle.replay_run.specs.declared.stores.Most.{Most}

-- a store of the first id, for the engine of a script
pub first_store :
    {T : Type 0} (asked : ScriptEngine) (s : StoreParts T) (engine : EngineParts) (before next : ℕ) (d : T)
    → Gives before s.machine.id next → before ≡ 1 → engine ≡ script_engine asked
    → s ≡ store_parts (new_machine s.machine.id engine) 0 d
    → s ≡ store_parts (new_machine first_id (script_engine asked)) 0 d
first_store asked s engine before next d gives first same made =
    made
    ∙ ap (λ (id : StoreId). store_parts (new_machine id engine) 0 d) (first_is s.machine.id (gives.0 ∙ first))
    ∙ ap (λ (e : EngineParts). store_parts (new_machine first_id e) 0 d) same

-- a script without a limiter bounds instantiation as a store without one does
limited_start :
    (engine : EngineParts) (limiter : Option LimiterAnswers)
    → limited_if (is_some limiter) (limiter_by limiter).instances (limiter_by limiter).memories (limiter_by limiter).tables
    (new_machine first_id engine)
    ≡ record (new_machine first_id engine) { limits = most_by (limiter_by limiter); is_limited = is_some limiter }
limited_start engine None = refl
limited_start engine (Some limiter) = refl

-- no hook and no deadline behaviour is set then
unhooked_start :
    (engine : ScriptEngine) (answers : HostAnswers) → IsUnhooked answers
    → limited_if (is_some answers.limiter) (limiter_by answers.limiter).instances (limiter_by answers.limiter).memories
    (limiter_by answers.limiter).tables (new_machine first_id (script_engine engine))
    ≡ start_machine engine answers
unhooked_start engine answers u = rw (u.hook, u.deadline) (limited_start (script_engine engine) answers.limiter)

-- a store that keeps the data of a recording
pub recorded_start :
    (engine : ScriptEngine) (answers : HostAnswers) (none limited : StoreParts (Recorded ScriptData)) (asks : Bool)
    (d : Recorded ScriptData) (inner : ScriptData)
    → IsUnhooked answers → asks ≡ is_some answers.limiter → inner ≡ start_data answers → d.inner ≡ inner
    → d.kept ≡ kept [] room → d.past ≡ false
    → none ≡ store_parts (new_machine first_id (script_engine engine)) 0 d
    → limited ≡ record none {
      machine = limited_if asks none.host_data.inner.answers.instances
          none.host_data.inner.answers.memories none.host_data.inner.answers.tables none.machine;
    }
    → IsRecordedStart engine answers limited
recorded_start engine answers none limited asks d inner u a i0 i1 k p e0 e1 =
    rw (e1, e0) (record {
      starts = record {
        machine =
            ap (λ (b : Bool). limited_if b d.inner.answers.instances d.inner.answers.memories d.inner.answers.tables
            (new_machine first_id (script_engine engine))) a
            ∙ ap (λ (x : ScriptData). limited_if (is_some answers.limiter) x.answers.instances x.answers.memories
            x.answers.tables (new_machine first_id (script_engine engine))) (i1 ∙ i0)
            ∙ unhooked_start engine answers u;
        turns = refl;
      };
      inner = i1 ∙ i0;
      kept = k;
      past = p;
    })

-- a store that gives the answers of a tape
pub replayed_start :
    (engine : ScriptEngine) (answers : HostAnswers) (tape : TapeParts) (none limited : StoreParts Replayed) (asks : Bool)
    (d : Replayed) (most : Most)
    → IsUnhooked answers → asks ≡ is_some answers.limiter → most ≡ most_of answers.limiter
    → d ≡ new_replayed tape.growths most.instances most.memories most.tables
    → none ≡ store_parts (new_machine first_id (script_engine engine)) 0 d
    → limited ≡ record none {
      machine = limited_if asks none.host_data.instances none.host_data.memories
          none.host_data.tables none.machine;
    }
    → IsReplayedStart engine answers tape limited
replayed_start engine answers tape none limited asks d most u a m i e0 e1 =
    let machine_is : limited.machine ≡ start_machine engine answers =
    rw (e1, e0, i, m, a) (unhooked_start engine answers u) in
    record {
      starts = record { machine = machine_is; turns = rw (e1, e0) refl };
      unasked = record {
        growths = rw (e1, e0, i) refl;
        played = rw (e1, e0, i) refl;
        off = rw (machine_is, u.hook, u.deadline) (refl, refl);
      };
    }
