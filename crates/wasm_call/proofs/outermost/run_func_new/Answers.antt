use Rattle.std.proofs.Common.{◌≡◌, ap, subst}
use Rattle.std.specs.Prelude.{[], IfSome, Ok}
use Rattle.spec_machine.specs.Commands.{row}
use Rattle.spec_machine.specs.Machine.{Machine}
use Rattle.spec_machine.specs.Names.{outermost}
use Rattle.spec_machine.specs.declared.command.Command.TheVariants as command
use Rattle.spec_machine.specs.declared.reply.Reply.TheVariants.{Refused}
use Rattle.wasm_store.specs.Stores.{StoreParts}
use Rattle.wasm_call.specs.Room.{refusal_of}
use Rattle.wasm_call.proofs.CommandLemmas.{answered_all, func_cut_on, func_engine}
use Rattle.wasm_call.proofs.RoomLemmas.{row_refused}
use Rattle.wasm_call.proofs.outermost.run_func_new.Goals as goal

pub returns-clause-answered : goal.returns-clause-answered
returns-clause-answered g c =
    answered_all _ c.args.ty.now c.args.body c.args.stored.now c.new_func.result c.args.store.now
    c.begin_turns.new.store c.new_func.new.store c.begin_turns.ensures.begun c.args.replies.now
    (rw c.outermost-scope.ensures at c.new_func.ensures.answered)

pub returns-clause-cut : goal.returns-clause-cut
returns-clause-cut g c =
    func_cut_on _ c.args.ty.now c.args.body c.args.stored.now c.new_func.result c.args.store.now
    c.begin_turns.new.store c.new_func.new.store c.begin_turns.ensures.begun c.args.replies.now
    c.new_func.ensures.short

pub returns-clause-refused : goal.returns-clause-refused
returns-clause-refused g c =
    subst (λ (m : Machine). IfSome (refusal_of (row [] m (outermost c.args.replies.now)
    (command.FuncNew c.args.ty.now c.args.body c.args.stored.now))) (λ why. c.new_func.result ≡ Ok (Refused why)))
    (ap (λ (s : StoreParts _). s.machine) c.begin_turns.ensures.begun)
    (row_refused _ _ _ c.new_func.result _ _ (rw c.outermost-scope.ensures at c.new_func.ensures.answered)
    (rw c.outermost-scope.ensures at c.new_func.ensures.met))

pub returns-clause-engine : goal.returns-clause-engine
returns-clause-engine g c =
    func_engine _ c.args.ty.now c.args.body c.args.stored.now c.new_func.result c.args.store.now
    c.begin_turns.new.store c.new_func.new.store c.begin_turns.ensures.begun _ c.new_func.ensures.answered
    c.new_func.ensures.short
