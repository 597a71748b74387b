use Rattle.std.proofs.Common.{[], List, Option, ap, sym, ◌∙◌}
use Rattle.std.proofs.lemmas.Option.{none-some}
use Rattle.spec_machine.specs.Commands.{makes, named, row}
use Rattle.spec_machine.specs.ValueCalls.{func_new}
use Rattle.spec_machine.specs.declared.command.Command.TheVariants as command
use Rattle.spec_machine.specs.declared.reply.Reply.TheVariants.{Object}
use Rattle.wasm_values.specs.declared.externals.Extern.{Extern}
use Rattle.wasm_values.specs.declared.externals.Extern.TheVariants as x
use Rattle.wasm_values.specs.declared.refusals.Refusal.TheVariants.{NoReply}
use Rattle.wasm_host.specs.Scopes.{scope_of}
use Rattle.wasm_call.specs.Room.{refusal_of}
use Rattle.wasm_call.proofs.ArgumentLemmas.{told_is}
use Rattle.wasm_call.proofs.ReplyLemmas.{mapped_none, mapped_some, refused_row, named_answered, named_performed, made_done, made_undone, honest_func, answered_of}
use Rattle.wasm_call.proofs.functions.new_func.Goals as goal

pub returns-in-Some-clause-answered : goal.returns-in-Some-clause-answered
returns-in-Some-clause-answered g c =
    refused_row _ _ (row [] c.args.store.now.machine (scope_of c.args.scope.now)
    (command.FuncNew c.args.ty.now c.args.body c.args.stored.now)) c.in-Some.why c.args.store.now
    (told_is (row [] c.args.store.now.machine (scope_of c.args.scope.now)
    (command.FuncNew c.args.ty.now c.args.body c.args.stored.now)) c.due_refusal.result
    (c.due_refusal.ensures c.args.body) c.in-Some.why c.in-Some.is) c.requires.fresh

pub unreachable-requires : goal.unreachable-requires
unreachable-requires g c =
    none-some NoReply (sym c.in_default.is ∙ c.due_refusal.ensures c.args.body
    ∙ ap (λ (o : Option (List Extern)). refusal_of (named o (λ found. makes (λ h. Object (x.Func h))
    (func_new c.args.store.now.machine c.args.ty.now c.args.body found))))
    (sym (mapped_none _ _ _ c.in_default-named.is c.in_ok-named.ensures)))

pub returns-in-Ok-clause-answered : goal.returns-in-Ok-clause-answered
returns-in-Ok-clause-answered g c = named_answered _ _ _ _ _ _ _ _
    (mapped_some _ _ _ _ c.in-Some-named.is c.in_ok-named.ensures)
    (made_done _ _ (λ h. Object (x.Func h)) _ _ _ _ _
    (rw (c.in_ok-copy.ensures, c.as_slice.ensures.value) at c.in-Ok.ensures.machine) c.in-Ok.ensures.rest
    c.requires.fresh c.requires.some_turns c.count_act.ensures)

pub returns-clause-answered : goal.returns-clause-answered
returns-clause-answered g c =
    answered_of _ _ (row [] c.args.store.now.machine (scope_of c.args.scope.now)
    (command.FuncNew c.args.ty.now c.args.body c.args.stored.now)) _ _ _
    (named_performed _ _ _ _ _ _ _ _ (mapped_some _ _ _ _ c.in-Some-named.is c.in_ok-named.ensures)
    (made_undone _ _ (λ h. Object (x.Func h))
    (func_new c.args.store.now.machine c.args.ty.now c.args.body c.in-Some-named.found.items) _ _ _ _
    (honest_func c.args.store.now.machine c.args.ty.now c.args.body c.in-Some-named.found.items)
    (rw (c.in_ok-copy.ensures, c.as_slice.ensures.value) at c.in-Err.ensures.machine) c.in-Err.ensures.rest
    c.requires.fresh c.requires.some_turns c.unmade.ensures.short c.unmade.ensures.refused))
