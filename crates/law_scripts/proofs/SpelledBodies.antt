-- No script spells a body with a literal function: each reader of an operand gives null, a number, data of the host or a
-- name.
use Rattle.std.proofs.Common.{◌≡◌, ℕ, List, [], ◌∷◌, Option, Some, None, ap, subst}
use Rattle.std.specs.Prelude.{codes}
use Rattle.std.proofs.lemmas.Option.{same_Some, none-some}
use Rattle.serde_json.specs.Data.{Data}
use Rattle.wasm_types.specs.Each.{Each}
use Rattle.wasm_types.specs.Signatures.{Signature}
use Rattle.spec_machine.specs.declared.command.Command.{Command}
use Rattle.spec_machine.specs.declared.command.Command.TheVariants as command
use Rattle.spec_machine.specs.declared.operation.Op.{Op}
use Rattle.script_json.specs.Fields.{◌>>=◌, field, field_or, only, required, list_of, one_member}
use Rattle.script_json.specs.Json.{json_of}
use Rattle.script_commands.specs.Commands.{command_of}
use Rattle.script_commands.specs.Engines.{engine_in}
use Rattle.script_commands.specs.ScriptModules.{modules_in}
use Rattle.script_commands.specs.HostAnswers.{host_answers_in}
use Rattle.script_commands.specs.HostBodies.{action_kind_of, operation_in, action_by, action_of, body_of, bodies_in}
use Rattle.script_types.specs.Types.{type_list_of}
use Rattle.script_commands.specs.Operands.{operand_of}
use Rattle.script_commands.specs.Scripts.{script_of, Spelling, Spells, spelling, spelling_of_script, spelling_of_json}
use Rattle.script_commands.specs.declared.host_bodies.Action.TheVariants as action
use Rattle.script_commands.specs.declared.script.Script.{Script}
use Rattle.law_scripts.specs.Literals.{IsNoFunction, OperatesByNames, ActsByNames, AreByNames}
use Rattle.law_scripts.proofs.ReadOperands.{Gives, some, none, bind, step, Behind, by_key, list_gives, list_or_empty_gives, operand_gives}
use Rattle.law_scripts.proofs.ReadOperations.{CommandByNames, command_gives}

-- ---- actions, bodies and scripts

operation_is : (c : Command) (o : Op) → operation_in c ≡ Some o → CommandByNames c → OperatesByNames o
operation_is (command.Op x) o e h = subst OperatesByNames (same_Some x o e) h
operation_is _ o e h = absurd (none-some o e)

done_gives : (types : List Signature) (d : Data) → Gives OperatesByNames (command_of types d >>= operation_in)
done_gives types d =
    bind OperatesByNames (command_of types d) operation_in
    (λ c e. record { is = λ o f. operation_is c o f ((command_gives types d).is c e) })

by_action : (types : List Signature) (d : Data) (key : List ℕ) → Behind ActsByNames (action_by types d) (action_kind_of key)
by_action types d key =
    by_key ActsByNames (action_by types d) key (codes "note") _ _
    (record { gives = bind ActsByNames _ _ (λ parts e. some ActsByNames (action.Note parts) tt) })
    (by_key ActsByNames (action_by types d) key (codes "do") _ _
    (record {
      gives = bind ActsByNames (command_of types d >>= operation_in) _
          (λ o e. some ActsByNames (action.Do o) ((done_gives types d).is o e));
    })
    (by_key ActsByNames (action_by types d) key (codes "return") _ _
    (record {
      gives = bind ActsByNames (list_of operand_of d) _
          (λ operands e. some ActsByNames (action.Return operands)
          ((list_gives IsNoFunction operand_of operand_gives d).is operands e));
    })
    (by_key ActsByNames (action_by types d) key (codes "fail") _ _
    (record { gives = bind ActsByNames _ _ (λ u e. some ActsByNames action.Fail tt) })
    (record { gives = none ActsByNames }))))

action_gives : (types : List Signature) (d : Data) → Gives ActsByNames (action_of types d)
action_gives types d =
    bind ActsByNames (one_member d) _ (λ m e. (by_action types m.1 m.0).gives)

body_gives : (types : List Signature) (d : Data) → Gives (λ actions. Each actions ActsByNames) (body_of types d)
unfolding body_of
body_gives types d = list_gives ActsByNames (action_of types) (action_gives types) d

bodies_give : (types : List Signature) (d : Data) → Gives AreByNames (bodies_in types d)
bodies_give types d =
    list_or_empty_gives (λ actions. Each actions ActsByNames) (body_of types) (body_gives types) (codes "host") d

abbrev HasBodies : Script → Type 0
HasBodies script = AreByNames script.bodies

script_gives : (d : Data) → Gives HasBodies (script_of d)
script_gives d =
    step HasBodies (only
    (codes "engine" ∷ codes "types" ∷ codes "modules" ∷ codes "data" ∷ codes "host" ∷ codes "commands" ∷ []) d) _ (λ keys.
    step HasBodies (engine_in d) _ (λ engine.
    step HasBodies (field_or [] type_list_of (field (codes "types") d)) _ (λ types.
    step HasBodies (modules_in types d) _ (λ modules.
    bind HasBodies (bodies_in types d)
    (λ bodies. host_answers_in d >>= λ answers. required (list_of (command_of types)) (codes "commands") d >>= λ commands.
    Some (record { engine = engine; modules = modules; answers = answers; bodies = bodies; commands = commands }))
    (λ bodies i. step HasBodies (host_answers_in d) _ (λ answers.
    step HasBodies (required (list_of (command_of types)) (codes "commands") d) _ (λ commands.
    some HasBodies (record { engine = engine; modules = modules; answers = answers; bodies = bodies; commands = commands })
    ((bodies_give types d).is bodies i))))))))

spelled : Spelling → Option Script
spelled (Spells script) = Some script
spelled _ = None

by_script : (o : Option Script) (script : Script) → spelling_of_script o ≡ Spells script → o ≡ Some script
unfolding spelled
by_script None script e = ap spelled e
by_script (Some s) script e = ap spelled e

by_json : (o : Option Data) (script : Script) → spelling_of_json o ≡ Spells script → HasBodies script
unfolding spelled
by_json None script e = absurd (none-some script (ap spelled e))
by_json (Some d) script e = (script_gives d).is script (by_script (script_of d) script e)

-- the bodies of each script that bytes spell
pub bodies_are_by_names : (input : List ℕ) (script : Script) → spelling input ≡ Spells script → AreByNames script.bodies
bodies_are_by_names input script e = by_json (json_of input) script e
