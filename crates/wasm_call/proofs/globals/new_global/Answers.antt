use Rattle.spec_machine.specs.declared.reply.Reply.TheVariants.{Object}
use Rattle.wasm_values.specs.declared.externals.Extern.TheVariants as x
use Rattle.spec_machine.specs.GlobalCalls.{global_new}
use Rattle.wasm_call.proofs.ReplyLemmas.{unnamed, named_answered, named_performed, made_done, made_undone, honest_global}
use Rattle.wasm_call.proofs.globals.new_global.Goals as goal

pub returns-in_default : goal.returns-in_default
returns-in_default g c = λ limit some. unnamed _ limit _ _ _ c.in_default.ensures c.requires

pub returns-in-Ok-new : goal.returns-in-Ok-new
returns-in-Ok-new g c = λ limit some. named_answered _ limit _ _ _ _ _ _ c.in-Some.ensures
    (made_done _ limit (λ h. Object (x.Global h)) _ _ _ _ _ (rw c.in-Ok.ensures at c.in-Ok-new.ensures.machine)
    c.in-Ok-new.ensures.rest c.requires some c.count_act.ensures)

pub returns-in-Err : goal.returns-in-Err
returns-in-Err g c = λ limit some. named_performed _ limit _ _ _ _ _ _ c.in-Some.ensures
    (made_undone _ limit (λ h. Object (x.Global h)) (global_new c.args.store.now.machine c.args.ty.now c.in-Some.val) _ _ _
    _ (honest_global c.args.store.now.machine c.args.ty.now c.in-Some.val)
    (rw c.in-Ok.ensures at c.in-Err.ensures.machine) c.in-Err.ensures.rest c.requires some c.unmade.ensures.short
    c.unmade.ensures.refused)
