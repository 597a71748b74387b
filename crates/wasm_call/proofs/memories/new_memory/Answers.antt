use Rattle.std.proofs.Common.{ap, Ok}
use Rattle.spec_machine.specs.Commands.{operation}
use Rattle.spec_machine.specs.declared.operation.Op.TheVariants as op
use Rattle.wasm_host.specs.Scopes.{scope_of}
use Rattle.spec_machine.specs.MemoryCalls.{memory_new}
use Rattle.spec_machine.specs.declared.reply.Reply.TheVariants.{Object}
use Rattle.wasm_values.specs.declared.externals.Extern.TheVariants as x
use Rattle.wasm_call.proofs.ReplyLemmas.{performed_short}
use Rattle.wasm_call.proofs.GrowthReplyLemmas.{growth_turns, growth_short, growth_acted}
use Rattle.wasm_call.proofs.memories.new_memory.Goals as goal

pub returns-in_err-memory : goal.returns-in_err-memory
returns-in_err-memory g c =
    performed_short _ c.args.limit (operation c.args.store.now.machine (scope_of c.args.scope.now) (op.MemoryNew c.args.ty.now)) _
    _ _ c.from_residual-in_err-memory.ensures.0
    (growth_short _ c.args.limit (λ h. Object (x.Memory h)) (λ m. Ok (memory_new m c.args.ty.now)) _ _ _ _ _
    (ap (λ r. Ok r) c.memory_new_rule-rule.ensures) c.in_default.ensures
    (rw c.in_ok-clone.ensures.value at c.in_err-memory.ensures.acts) c.in_err-memory.ensures.rest)

pub count_act-requires : goal.count_act-requires
count_act-requires g c = growth_turns _ c.args.limit (λ h. Object (x.Memory h))
    (Ok (memory_new c.args.store.now.machine c.args.ty.now)) _ _ _ _ (ap (λ r. Ok r) c.memory_new_rule-rule.ensures)
    c.in_default.ensures c.in_ok-memory.ensures.rest

pub returns : goal.returns
returns g c = growth_acted _ c.args.limit (λ h. Object (x.Memory h)) (λ m. Ok (memory_new m c.args.ty.now)) _ _ _ _ _ _
    (ap (λ r. Ok r) c.memory_new_rule-rule.ensures) c.in_default.ensures
    (rw c.in_ok-clone.ensures.value at c.in_ok-memory.ensures.acts) c.in_ok-memory.ensures.rest c.count_act.ensures
