use Rattle.std.proofs.Common.{List, sym, ap, ◌∙◌}
use Rattle.wasm_types.specs.declared.value_types.ValType.{ValType}
use Rattle.spec_execution.specs.Operands.{have_kinds}
use Rattle.store_state.specs.Engines.{engine_parts}
use Rattle.code_hosts.proofs.EnterLemmas.{bodiless, unfit, waits, opens, refused, limited}
use Rattle.code_hosts.proofs.body_entry.enter_body.Goals as goal

pub returns-then-not-has_body-clause-enters : goal.returns-then-not-has_body-clause-enters
returns-then-not-has_body-clause-enters g c = λ held.
    bodiless c.args.context.now.bounds
    g.W.Surroundings.moves
    c.args.context.now.program.now c.args.context.now.id (engine_parts c.args.context.now.engine.now) held c.args.call c.args.depth c.args.arguments.now c.args.caller
    c.args.world.now c.args.left
    (rw c.if-not-has_body.true at c.has_body.ensures)

pub returns-then-not-have_kinds-clause-enters : goal.returns-then-not-have_kinds-clause-enters
returns-then-not-have_kinds-clause-enters g c = λ held.
    unfit c.args.context.now.bounds
    g.W.Surroundings.moves
    c.args.context.now.program.now c.args.context.now.id (engine_parts c.args.context.now.engine.now) held c.args.call c.args.depth c.args.arguments.now c.args.caller
    c.args.world.now c.args.left
    (rw c.if-not-has_body.false at c.has_body.ensures) (sym (c.have_kinds.ensures ∙ ap (λ (l : List ValType). have_kinds l
    c.args.arguments.now) c.params.ensures) ∙ c.if-not-have_kinds.true)

pub returns-in_default-clause-waits : goal.returns-in_default-clause-waits
returns-in_default-clause-waits g c = λ held.
    waits c.args.context.now.bounds
    g.W.Surroundings.moves
    c.args.context.now.program.now c.args.context.now.id (engine_parts c.args.context.now.engine.now) held c.args.call c.args.depth c.args.arguments.now c.args.caller
    c.args.world.now c.args.left
    (rw c.if-not-has_body.false at c.has_body.ensures) (sym (c.have_kinds.ensures ∙ ap (λ (l : List ValType). have_kinds l
    c.args.arguments.now) c.params.ensures) ∙ c.if-not-have_kinds.false)

pub returns-in-Passes-clause-enters : goal.returns-in-Passes-clause-enters
returns-in-Passes-clause-enters g c = λ held.
    opens c.args.context.now.bounds
    g.W.Surroundings.moves
    c.args.context.now.program.now c.args.context.now.id (engine_parts c.args.context.now.engine.now) held c.args.call c.args.depth c.args.arguments.now c.args.caller
    c.args.world.now c.args.left
    (rw c.if-not-has_body.false at c.has_body.ensures)
    (sym (c.have_kinds.ensures ∙ ap (λ (l : List ValType). have_kinds l c.args.arguments.now) c.params.ensures) ∙ c.if-not-have_kinds.false)
    c.in-Ok.activation c.in-Ok.ensures c.tell-told.result.spent c.tell-told.result.word
    c.tell-told.new.world
    (c.tell-told.ensures.tells held) c.in-Passes.is

pub returns-in-Fails-clause-enters : goal.returns-in-Fails-clause-enters
returns-in-Fails-clause-enters g c = λ held.
    refused c.args.context.now.bounds
    g.W.Surroundings.moves
    c.args.context.now.program.now c.args.context.now.id (engine_parts c.args.context.now.engine.now) held c.args.call c.args.depth c.args.arguments.now c.args.caller
    c.args.world.now c.args.left
    (rw c.if-not-has_body.false at c.has_body.ensures)
    (sym (c.have_kinds.ensures ∙ ap (λ (l : List ValType). have_kinds l c.args.arguments.now) c.params.ensures) ∙ c.if-not-have_kinds.false)
    c.in-Ok.activation c.in-Ok.ensures c.tell-told.result.spent c.tell-told.result.word
    c.tell-told.new.world
    (c.tell-told.ensures.tells held) c.in-Fails.is

pub returns-clause-enters : goal.returns-clause-enters
returns-clause-enters g c = λ held.
    limited c.args.context.now.bounds
    g.W.Surroundings.moves
    c.args.context.now.program.now c.args.context.now.id (engine_parts c.args.context.now.engine.now) held c.args.call c.args.depth c.args.arguments.now c.args.caller
    c.args.world.now c.args.left
    (rw c.if-not-has_body.false at c.has_body.ensures)
    (sym (c.have_kinds.ensures ∙ ap (λ (l : List ValType). have_kinds l c.args.arguments.now) c.params.ensures) ∙ c.if-not-have_kinds.false)
    c.in-Ok.activation c.in-Ok.ensures c.tell-told.result.spent c.tell-told.result.word
    c.tell-told.new.world
    (c.tell-told.ensures.tells held) c.in-Limit.is
