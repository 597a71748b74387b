use Rattle.spec_machine.specs.Commands.{operation}
use Rattle.spec_machine.specs.declared.operation.Op.TheVariants as op
use Rattle.wasm_host.specs.Scopes.{scope_of}
use Rattle.spec_machine.specs.MemoryCalls.{memory_grow}
use Rattle.spec_machine.specs.declared.reply.Reply.TheVariants.{Number}
use Rattle.wasm_call.proofs.ReplyLemmas.{unnamed, named_answered, named_short, performed_short}
use Rattle.wasm_call.proofs.GrowthReplyLemmas.{growth_refused, growth_answered, growth_granted, growth_turns, growth_short, growth_acted}
use Rattle.wasm_call.proofs.memories.grow_memory.Goals as goal

pub returns-in_default : goal.returns-in_default
returns-in_default g c = unnamed _ c.args.limit _ _ _ c.in_default.ensures c.requires.fresh

pub returns-in-Err : goal.returns-in-Err
returns-in-Err g c = named_answered _ c.args.limit _ _ _ _ _ _ c.in-Some.ensures
    (growth_refused _ c.args.limit Number _ _ _ c.in-Err.ensures c.requires.fresh)

pub returns-in-Err-begin : goal.returns-in-Err-begin
returns-in-Err-begin g c = named_answered _ c.args.limit _ _ _ _ _ _ c.in-Some.ensures
    (growth_answered _ c.args.limit Number _ _ _ _ _ c.in-Ok.ensures c.in-Err-begin.ensures)

pub memory_grow-requires : goal.memory_grow-requires
memory_grow-requires g c = growth_granted _ c.args.limit Number (λ m. memory_grow m c.in-Some.memory c.args.delta) _ _ _
    c.in-Ok.ensures c.in_default-begin.ensures

pub returns-in_err-pages : goal.returns-in_err-pages
returns-in_err-pages g c =
    performed_short _ c.args.limit (operation c.args.store.now.machine (scope_of c.args.scope.now)
    (op.MemoryGrow c.args.memory c.args.delta)) _ _ _ c.from_residual.ensures.0
    (named_short _ c.args.limit _ _ _ _ _ c.in-Some.ensures
    (growth_short _ c.args.limit Number (λ m. memory_grow m c.in-Some.memory c.args.delta) _ _ _ _ _ c.in-Ok.ensures
    c.in_default-begin.ensures c.in_err-pages.ensures.acts c.in_err-pages.ensures.rest))

pub count_act-requires : goal.count_act-requires
count_act-requires g c = growth_turns _ c.args.limit Number _ _ _ _ _ c.in-Ok.ensures c.in_default-begin.ensures
    c.in_ok-pages.ensures.rest

pub returns : goal.returns
returns g c = named_answered _ c.args.limit _ _ _ _ _ _ c.in-Some.ensures
    (growth_acted _ c.args.limit Number (λ m. memory_grow m c.in-Some.memory c.args.delta) _ _ _ _ _ _ c.in-Ok.ensures
    c.in_default-begin.ensures c.in_ok-pages.ensures.acts c.in_ok-pages.ensures.rest c.count_act.ensures)
