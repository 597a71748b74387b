-- A command over the modules of a session.
use Rattle.std.proofs.Common.{ℕ, List, [], ◌∷◌, ◌++◌, ap}
use Rattle.std.specs.Prelude.{⊤, Result, Ok, Err, IfOk, OnErr}
use Rattle.wasm_types.specs.Signatures.{Signature}
use Rattle.wasm_syntax.specs.declared.declarations.ModuleDecl.{ModuleDecl}
use Rattle.spec_machine.specs.declared.command.Command.{Command}
use Rattle.spec_machine.specs.declared.command.Command.TheVariants as command
use Rattle.spec_machine.specs.declared.name.Name.{Name}
use Rattle.spec_machine.specs.declared.reply.Reply.{Reply}
use Rattle.spec_execution.specs.Askings.{Relations}
use Rattle.wasm_store.specs.Stores.{StoreParts}
use Rattle.wasm_call.specs.Alone as alone
use Rattle.wasm_call.specs.Commands.{CommandAnswered, CommandCut}
use Rattle.wasm_call.specs.Outside.{Growths, Moving, Surrounded, surrounded, typed}
use Rattle.wasm_call.specs.Runs.{Steps, Breaks}
use Rattle.wasm_call.proofs.SurroundedLemmas.{steps_around, breaks_around}
use Rattle.wasm_instance.specs.Instances.{IsUntouched}
use Rattle.wasm_session.proofs.UnmadeLemmas.{unmade}

module _ {T H E : Type 0} (rel : Moving T H E) (modules : List ModuleDecl) (replies : List Reply) (c : Command) where
  -- one that may ask all that is outside
  pub command_over : {F : Type 0} (old new : Surrounded T H E) (result : Result Reply F) →
      IfOk result (λ reply. CommandAnswered rel replies c old reply new) →
      IfOk result (λ reply. Steps rel modules c old replies new (replies ++ reply ∷ []))
  command_over old new (Ok reply) h = h modules
  command_over old new (Err e) h = tt

  pub cut_over : {A F : Type 0} (old new : Surrounded T H E) (result : Result A F) →
      OnErr result (CommandCut rel replies c old new) →
      OnErr result (Breaks rel modules c new.store.turns old replies new replies)
  cut_over old new (Ok a) h = tt
  cut_over old new (Err e) h = h modules

-- and one that asks the limiter alone
module _ {T H E : Type 0} (r : Relations T H E) (host : H) (epochs : E) (modules : List ModuleDecl)
    (replies : List Reply) (c : Command) (old new : StoreParts T) where
  abbrev around : StoreParts T → Surrounded T H E
  around s = surrounded s host epochs

  pub command_around : {F : Type 0} (result : Result Reply F) →
      IfOk result (λ reply. alone.CommandAnswered r.growths replies c old reply new) →
      IfOk result (λ reply. Steps (typed r) modules c (around old) replies (around new) (replies ++ reply ∷ []))
  command_around (Ok reply) h =
      steps_around r host epochs modules c old replies new (replies ++ reply ∷ []) (h modules)
  command_around (Err e) h = tt

  pub cut_around : {A F : Type 0} (result : Result A F) →
      OnErr result (alone.CommandCut r.growths replies c old new) →
      OnErr result (Breaks (typed r) modules c new.turns (around old) replies (around new) replies)
  cut_around (Ok a) h = tt
  cut_around (Err e) h = breaks_around r host epochs modules c new.turns old replies new replies (h modules)

-- one that makes a function of the host, where memory ran out
pub func_short : {T H E A F : Type 0} (growths : Growths T) (host : H) (epochs : E) (replies : List Reply)
    (ty : Signature) (body : ℕ) (stored : List Name) (old new : StoreParts T) (result : Result A F) →
    OnErr result (alone.CommandCut growths replies (command.FuncNew ty body stored) old new) →
    OnErr result (IsUntouched (surrounded old host epochs) (surrounded new host epochs))
func_short growths host epochs replies ty body stored old new (Ok a) h = tt
func_short {T} growths host epochs replies ty body stored old new (Err e) h =
    ap (λ (s : Surrounded T ⊤ ⊤). surrounded s.store host epochs)
    (unmade [] ty body stored (alone.limiter_alone growths) replies (alone.alone old) (alone.alone new) (h []))
