use Rattle.spec_machine.specs.declared.reply.Reply.TheVariants.{Object}
use Rattle.wasm_values.specs.declared.externals.Extern.TheVariants as x
use Rattle.std.proofs.Common.{ap, sym, ◌∙◌, Ok}
use Rattle.wasm_call.proofs.ReplyLemmas.{global_short, global_unfit, global_refused}
use Rattle.wasm_call.proofs.globals.unmade_global.Goals as goal

pub returns-in-Ok-true : goal.returns-in-Ok-true
returns-in-Ok-true g c = λ limit some. global_short _ limit (λ h. Object (x.Global h)) c.args.ty.now c.args.val _
    (ap (λ b. Ok b) (sym c.in-Ok-true.field-0-test) ∙ (rw c.content.ensures at c.in-Ok-true.ensures)) c.requires some

pub returns-in-Ok-false : goal.returns-in-Ok-false
returns-in-Ok-false g c = λ limit some. global_unfit _ limit (λ h. Object (x.Global h)) c.args.ty.now c.args.val _
    (ap (λ b. Ok b) (sym c.in-Ok-false.field-0-test) ∙ (rw c.content.ensures at c.in-Ok-false.ensures)) c.requires

pub returns-in-Err : goal.returns-in-Err
returns-in-Err g c = λ limit some. global_refused _ limit (λ h. Object (x.Global h)) c.args.ty.now c.args.val _ _
    (rw c.content.ensures at c.in-Err.ensures) c.requires
