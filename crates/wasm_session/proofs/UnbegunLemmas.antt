-- Memory ran out before a command made its first turn: that is a stop of it, whatever it is.
use Rattle.std.proofs.Common.{inr, ◌≡◌, List, [], Some, refl, ap, sym, subst, append-nil}
use Rattle.wasm_syntax.specs.declared.declarations.ModuleDecl.{ModuleDecl}
use Rattle.spec_machine.specs.Commands.{row}
use Rattle.spec_machine.specs.Names.{outermost}
use Rattle.spec_machine.specs.WellFormed.{IsWellFormed}
use Rattle.spec_machine.specs.declared.command.Command.{Command}
use Rattle.spec_machine.specs.declared.command.Command.TheVariants as command
use Rattle.spec_machine.specs.declared.operation.Op.TheVariants.{Call}
use Rattle.spec_machine.specs.declared.reply.Reply.{Reply}
use Rattle.spec_execution.specs.Askings.{Asking, Relations}
use Rattle.law_store.specs.Rows.{RunsNoCode}
use Rattle.wasm_store.specs.Stores.{StoreParts}
use Rattle.wasm_call.specs.Alone.{limiter_alone, alone}
use Rattle.wasm_call.specs.Outside.{Surrounded, surrounded, typed}
use Rattle.wasm_call.specs.Runs.{state_of, Breaks}
use Rattle.wasm_call.proofs.CommandLemmas.{IsCut, command_was_cut}
use Rattle.wasm_call.proofs.Plain.{codeless}
use Rattle.wasm_call.proofs.StopLemmas.{row_idle, call_cut}
use Rattle.wasm_call.proofs.SurroundedLemmas.{breaks_around}

module _ {T H E : Type 0} (r : Relations T H E) (host : H) (epochs : E) (modules : List ModuleDecl) (old : StoreParts T)
    (replies : List Reply) (well : IsWellFormed old.machine) where
  abbrev fresh : StoreParts T
  fresh = record old { turns = 0 }

  abbrev around : StoreParts T → Surrounded T H E
  around s = surrounded s host epochs

  abbrev IsBroken : Command → StoreParts T → Type 0
  IsBroken c new = Breaks (typed r) modules c 0 (around old) replies (around new) replies

  -- its row was cut, and nothing but a limiter was asked
  by_row : (c : Command) →
      IsCut (limiter_alone r.growths) c (row modules old.machine (outermost replies) c) (alone fresh) (alone fresh) →
      IsBroken c fresh
  by_row c k =
      breaks_around r host epochs modules c 0 old replies fresh replies
      (command_was_cut (limiter_alone r.growths) modules replies c (alone old) (alone fresh) (alone fresh) refl k)

  plain_breaks : (c : Command) → RunsNoCode c → IsBroken c fresh
  plain_breaks c none =
      let idle = row_idle r.growths fresh refl (row modules old.machine (outermost replies) c)
      (codeless modules old.machine (outermost replies) c none) in
      by_row c (record { cut = idle.cut; questions = λ none. idle.questions })

  unbegun : (c : Command) → IsBroken c fresh
  unbegun (command.Instantiate number imports) = record {
    stops = record {
      heard = [];
      chained = refl;
      stop = λ before rest. inr (inr (
        refl,
        ap (λ (heard : List Asking). Some (state_of fresh replies heard rest)) (sym (append-nil before)),
      ));
    };
    questions = λ none. refl;
    unanswered = refl;
    told = refl;
  }
  unbegun (command.Op (Call func args wanted)) =
      command_was_cut (typed r) modules replies (command.Op (Call func args wanted)) (around old) (around fresh)
      (around fresh) refl (record {
        cut =
            call_cut r (around fresh) refl well (outermost replies) func args wanted;
        questions = λ none. absurd none;
      })
  unbegun c = plain_breaks c tt

  pub unbegun_breaks : (c : Command) (new : StoreParts T) → new ≡ fresh → IsBroken c new
  unbegun_breaks c new e = subst (λ (s : StoreParts T). IsBroken c s) (sym e) (unbegun c)
