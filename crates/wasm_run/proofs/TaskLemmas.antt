-- What comes of the run of a script, by where it comes from.
use Rattle.std.proofs.Common.{inl, ◌≡◌, ℕ, List, [], Option, Some, None, ap, sym, ◌∙◌, subst}
use Rattle.std.specs.Option.{option_or}
use Rattle.std.specs.Prelude.{option_map}
use Rattle.wasm_syntax.specs.declared.module_fault.Place.{Place}
use Rattle.wasm_syntax.specs.declared.module_fault.Rule.{Rule}
use Rattle.wasm_call.specs.Outside.{Readings}
use Rattle.script_commands.specs.Scripts.{Spells, spelling}
use Rattle.script_commands.specs.declared.host_bodies.Action.{Action}
use Rattle.script_commands.specs.declared.script.Script.{Script}
use Rattle.script_generated.proofs.ModuleLemmas.{generated_is_valid}
use Rattle.script_generated.specs.Scripts.{generated}
use Rattle.script_generated.specs.declared.words.Origin.{Origin}
use Rattle.script_generated.specs.declared.words.Origin.TheVariants.{Input, Generated}
use Rattle.law_scripts.specs.Literals.{AreByNames}
use Rattle.law_scripts.proofs.SpelledBodies.{bodies_are_by_names}
use Rattle.wasm_run.specs.ModuleFaults.{first_invalid, IsFaultOf}
use Rattle.wasm_run.specs.Sessions.{SessionParts, Task, RunOf, task_by_modules, task_for, task_of_spelling}
use Rattle.wasm_run.specs.Statuses.{Ends, Quiet}
use Rattle.wasm_run.specs.declared.status.Status.{Status}
use Rattle.wasm_run.specs.declared.status.Status.TheVariants.{Done, BadWords, ReadFault, TooLong, BadJson, BadScript, InvalidModule, OutOfMemory, WriteFault}

-- the bodies of a script that is read name no function but by its name, and a script that is generated has none
pub read_by_names : (text : List ℕ) (script : Script) → spelling text ≡ Spells script → AreByNames script.bodies
read_by_names text script e = bodies_are_by_names text script e

none_by_names : (bodies : List (List Action)) → bodies ≡ [] → AreByNames bodies
none_by_names bodies e n a at = cc

pub generated_by_names : (n : ℕ) (script : Script) → script ≡ generated n → AreByNames script.bodies
generated_by_names n script e = none_by_names script.bodies (ap (λ (s : Script). s.bodies) e)

-- a script that is generated is run
generated_is : (n : ℕ) → task_for (Generated n) (generated n) ≡ RunOf (Generated n) (generated n)
generated_is n =
    ap (λ (o : Option (Rule × Place)).
    task_by_modules (Generated n) (generated n) (option_or (option_map (λ broken. (0, broken)) o) None))
    generated_is_valid

module _ {E : Type 0} (readings : Readings E) (epochs epochs_after : E) (h : SessionParts) (held written : Option (List ℕ))
    (status : Status) where
  abbrev EndsWith : Task → Type 0
  EndsWith task = Ends readings epochs epochs_after h held written task status

  pub ends_of_text : (text : List ℕ) (script : Script) → spelling text ≡ Spells script →
      EndsWith (task_for Input script) → EndsWith (task_of_spelling (spelling text))
  ends_of_text text script e =
      let P : Task → Type 0 = λ t. EndsWith t in
      subst P (sym (ap task_of_spelling e))

  pub ends_of_generated : (n : ℕ) (script : Script) → script ≡ generated n →
      EndsWith (task_for (Generated n) script) → EndsWith (RunOf (Generated n) (generated n))
  ends_of_generated n script e =
      let P : Task → Type 0 = λ t. EndsWith t in
      subst P (ap (task_for (Generated n)) e ∙ generated_is n)

-- a script of which a module breaks a rule, or for whose modules there was no memory, is not run
pub ends_of_fault : {E : Type 0} (readings : Readings E) (epochs epochs_after : E) (h : SessionParts)
    (held written : Option (List ℕ)) (origin : Origin) (script : Script) (status : Status) →
    IsFaultOf script.modules status → Quiet epochs epochs_after h held written →
    Ends readings epochs epochs_after h held written (task_for origin script) status
ends_of_fault readings epochs epochs_after h held written origin script Done fault quiet = absurd fault
ends_of_fault readings epochs epochs_after h held written origin script BadWords fault quiet = absurd fault
ends_of_fault readings epochs epochs_after h held written origin script ReadFault fault quiet = absurd fault
ends_of_fault readings epochs epochs_after h held written origin script TooLong fault quiet = absurd fault
ends_of_fault readings epochs epochs_after h held written origin script BadJson fault quiet = absurd fault
ends_of_fault readings epochs epochs_after h held written origin script BadScript fault quiet = absurd fault
ends_of_fault readings epochs epochs_after h held written origin script (InvalidModule n rule place) fault quiet =
    (ap (task_by_modules origin script) fault, quiet)
ends_of_fault readings epochs epochs_after h held written origin script OutOfMemory fault quiet = inl quiet
ends_of_fault readings epochs epochs_after h held written origin script WriteFault fault quiet = absurd fault
