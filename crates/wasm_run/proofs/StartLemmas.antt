-- The store of a script before its first command.
use Rattle.std.proofs.Common.{◌≡◌, ℕ, ℤ, List, [], Option, Some, None, refl, ap, ◌∙◌}
use Rattle.std.specs.Prelude.{Bool, is_some}
use Rattle.std.proofs.lemmas.Bool.{eq-eqb}
use Rattle.wasm_meter.specs.declared.lists.BehaviourAnswer.{BehaviourAnswer}
use Rattle.wasm_meter.specs.declared.lists.HookAnswer.{HookAnswer}
use Rattle.wasm_values.specs.StoreIds.{Gives, number}
use Rattle.wasm_values.specs.declared.store_id.StoreId.{StoreId}
use Rattle.wasm_values.proofs.EqualityLemmas.{id_exact}
use Rattle.spec_machine.specs.Machine.{EngineParts, Machine, new_machine}
use Rattle.wasm_store.specs.Stores.{StoreParts, store_parts}
use Rattle.script_commands.specs.declared.engine.ScriptEngine.{ScriptEngine}
use Rattle.script_commands.specs.declared.host_answers.HostAnswers.{HostAnswers}
use Rattle.script_commands.specs.declared.host_answers.LimiterAnswers.{LimiterAnswers}
use Rattle.script_data.specs.HostData.{answering, limiter_by}
use Rattle.script_data.specs.declared.script_data.ScriptData.{ScriptData}
use Rattle.wasm_run.specs.Starts.{Starts, first_id, script_engine, start_data, most_by, limited_by}

-- the id of number 1 is the first
pub first_is : (id : StoreId) → number id ≡ 1 → id ≡ first_id
first_is id e = (id_exact id first_id).0 (eq-eqb (number id) 1 e)

-- a store of the first id, for the engine of a script
pub first_store : (asked : ScriptEngine) (s : StoreParts ScriptData) (engine : EngineParts) (before next : ℕ)
    (d : ScriptData) → Gives before s.machine.id next → before ≡ 1 → engine ≡ script_engine asked →
    s ≡ store_parts (new_machine s.machine.id engine) 0 d →
    s ≡ store_parts (new_machine first_id (script_engine asked)) 0 d
first_store asked s engine before next d gives first same made =
    made
    ∙ ap (λ (id : StoreId). store_parts (new_machine id engine) 0 d) (first_is s.machine.id (gives.0 ∙ first))
    ∙ ap (λ (e : EngineParts). store_parts (new_machine first_id e) 0 d) same

-- a script without a limiter bounds instantiation as a store without one does
limited_start : (engine : EngineParts) (number : ℤ) (hooks : List HookAnswer) (behaviours : List BehaviourAnswer)
    (limiter : Option LimiterAnswers) →
    limited_by (is_some limiter)
    (record { number = number; answers = answering (limiter_by limiter) hooks behaviours; events = [] })
    (new_machine first_id engine)
    ≡ record (new_machine first_id engine) { limits = most_by (limiter_by limiter); is_limited = is_some limiter }
limited_start engine number hooks behaviours None = refl
limited_start engine number hooks behaviours (Some limiter) = refl

pub starts : (engine : ScriptEngine) (answers : HostAnswers) (none limited hooked behaving : StoreParts ScriptData)
    (d : ScriptData) (limits hooks behaves : Bool) → limits ≡ is_some answers.limiter → hooks ≡ is_some answers.hook →
    behaves ≡ is_some answers.deadline → d ≡ start_data answers →
    none ≡ store_parts (new_machine first_id (script_engine engine)) 0 d →
    limited ≡ record none { machine = limited_by limits none.host_data none.machine } →
    hooked ≡ record limited { machine = record limited.machine { is_hooked = hooks } } →
    behaving ≡ record hooked { machine = record hooked.machine { is_behaving = behaves } } →
    Starts engine answers behaving
starts engine answers none limited hooked behaving d limits hooks behaves l h b begins e0 e1 e2 e3 =
    rw (e3, e2, e1, e0, begins, l, h, b) (record {
      machine =
          ap (λ (m : Machine). record m { is_hooked = is_some answers.hook; is_behaving = is_some answers.deadline })
          (limited_start (script_engine engine) answers.number _ _ answers.limiter);
      turns = refl;
      host_data = refl;
    })
