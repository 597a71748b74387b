-- What steps of a script's host do, each by computation.
use Rattle.std.proofs.Common.{◌≡◌, ◌^◌, ◌-◌, ℤ, pos, negsuc, List, [], ◌∷◌, None, Err, refl}
use Rattle.std.specs.Prelude.{codes}
use Rattle.std.specs.Fmt.{digits}
use Rattle.wasm_values.specs.declared.refusals.Refusal.TheVariants as refusal
use Rattle.wasm_values.specs.declared.refusals.Trap.TheVariants as trap
use Rattle.wasm_values.specs.declared.values.Val.{Val}
use Rattle.wasm_values.specs.declared.values.Val.TheVariants as v
use Rattle.spec_machine.specs.Machine.{EngineParts}
use Rattle.spec_machine.specs.declared.name.Name.TheVariants as name
use Rattle.spec_machine.specs.declared.name.Operand.TheVariants as operand
use Rattle.spec_machine.specs.declared.operation.Op.TheVariants as op
use Rattle.spec_machine.specs.declared.reply.Reply.{Reply}
use Rattle.spec_machine.specs.declared.reply.Reply.TheVariants as reply
use Rattle.spec_execution.specs.Askings.{View}
use Rattle.spec_execution.specs.declared.answer.Answer.TheVariants.{Return, Fail, Call}
use Rattle.script_commands.specs.declared.host_bodies.Action.{Action}
use Rattle.script_commands.specs.declared.host_bodies.Action.TheVariants as action
use Rattle.script_commands.specs.declared.notes.NotePart.TheVariants as part
use Rattle.script_commands.specs.HostAnswers.{no_answers}
use Rattle.script_data.specs.HostData.{script_data}
use Rattle.script_data.specs.declared.script_data.ScriptData.{ScriptData}
use Rattle.script_host.specs.ScriptSteps.{HostParts, host_parts, step}

-- what is seen of arguments and replies, with nothing stored and no code that called
abbrev sees : EngineParts → List Val → List Reply → View
sees engine arguments replies = record {
  arguments = arguments;
  stored = [];
  replies = replies;
  caller = None;
  engine = engine;
  fuel = Err refusal.FuelNotConfigured;
}

abbrev bodies : List (List Action)
bodies =
    (action.Note (part.Text (codes "Got ") ∷ part.Arg 0 ∷ part.Text (codes " from WebAssembly") ∷ []) ∷ action.Note (part.Text (codes "my host state is: ") ∷ part.Data ∷ []) ∷ [])
    ∷ (action.Do (op.Call (name.Arg 0) [] None) ∷ action.Note (part.Text (codes "got ") ∷ part.Last ∷ []) ∷ action.Return (operand.Named (name.Value 0 0) ∷ []) ∷ [])
    ∷ (action.Fail ∷ [])
    ∷ []

-- the host data of a script that says no more of it than its number
abbrev data_of : ℤ → ScriptData
data_of number = script_data (record no_answers { number = number })

abbrev fresh : HostParts
fresh = host_parts bodies 0 []

-- two notes, and the end of the list
hello : (e : EngineParts) → step fresh (data_of (pos 4)) 0 0 (sees e (v.I32 (pos 3) ∷ []) []) ≡ record { host = host_parts bodies 0 (codes "Got 3 from WebAssembly" ∷ codes "my host state is: 4" ∷ []); state = 2; answer = Return [] }
unfolding digits
hello e = refl

-- what is no integer leaves nothing
no_integer : (e : EngineParts) → step fresh (data_of (negsuc 0)) 0 0 (sees e (v.F32 0 ∷ []) []) ≡ record { host = host_parts bodies 0 (codes "Got  from WebAssembly" ∷ codes "my host state is: -1" ∷ []); state = 2; answer = Return [] }
unfolding digits
no_integer e = refl

-- a body asks for an operation; the next step notes its reply, and fails since that has no value
asks : (e : EngineParts) → step fresh (data_of (pos 0)) 1 0 (sees e [] []) ≡ record { host = fresh; state = 1; answer = Call (op.Call (name.Arg 0) [] None) }
asks e = refl

hears_a_trap : (e : EngineParts) → step fresh (data_of (pos 0)) 1 1 (sees e [] (reply.Refused (refusal.Trap trap.UnreachableCodeReached) ∷ [])) ≡ record { host = host_parts bodies 1 (codes "got trap UnreachableCodeReached" ∷ []); state = 3; answer = Fail }
hears_a_trap e = refl

hears_a_value : (e : EngineParts) → step fresh (data_of (pos 0)) 1 1 (sees e [] (reply.Values (v.I64 (pos 7) ∷ []) ∷ [])) ≡ record { host = host_parts bodies 0 (codes "got ok values i64:7" ∷ []); state = 3; answer = Return (v.I64 (pos 7) ∷ []) }
unfolding digits
hears_a_value e = refl

fails : (e : EngineParts) → step fresh (data_of (pos 0)) 2 0 (sees e [] []) ≡ record { host = host_parts bodies 1 []; state = 1; answer = Fail }
fails e = refl

-- the count of faults stops at its last value
fails_again : (e : EngineParts) → step (host_parts bodies (2 ^ 64 - 1) []) (data_of (pos 0)) 2 0 (sees e [] []) ≡ record { host = host_parts bodies (2 ^ 64 - 1) []; state = 1; answer = Fail }
fails_again e = refl

-- at the end of its list, and where there is no such body, a step returns no values
ended : (e : EngineParts) → step fresh (data_of (pos 0)) 2 1 (sees e [] []) ≡ record { host = fresh; state = 1; answer = Return [] }
ended e = refl
