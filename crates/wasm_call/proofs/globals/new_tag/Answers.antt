use Rattle.spec_machine.specs.declared.reply.Reply.TheVariants.{Object}
use Rattle.wasm_values.specs.declared.externals.Extern.TheVariants as x
use Rattle.spec_machine.specs.GlobalCalls.{tag_new}
use Rattle.wasm_call.proofs.ReplyLemmas.{made_done, made_undone, honest_tag}
use Rattle.wasm_call.proofs.globals.new_tag.Goals as goal

pub returns-in-Ok : goal.returns-in-Ok
returns-in-Ok g c = λ limit some. made_done _ limit (λ h. Object (x.Tag h)) _ _ _ _ _ c.in-Ok.ensures.machine c.in-Ok.ensures.rest
    c.requires some c.count_act.ensures

pub returns-in-Err : goal.returns-in-Err
returns-in-Err g c = λ limit some. made_undone _ limit (λ h. Object (x.Tag h)) (tag_new c.args.store.now.machine c.args.ty.now) _ _ _ _
    (honest_tag c.args.store.now.machine c.args.ty.now) c.in-Err.ensures.machine c.in-Err.ensures.rest
    c.requires some c.unmade.ensures.short c.unmade.ensures.refused
