use Rattle.std.proofs.Common.{ap, sym, ◌∙◌, length, List}
use Rattle.wasm_types.specs.declared.value_types.ValType.{ValType}
use Rattle.spec_machine.specs.FunctionCalls.{is_count}
use Rattle.store_state.specs.Machine.{run_machine}
use Rattle.wasm_host.specs.Scopes.{scope_of}
use Rattle.wasm_call.specs.Arguments.{are_fitting}
use Rattle.wasm_call.proofs.ArgumentLemmas.{type_found, type_none, not_given, stranger, not_owned, not_counted, not_wanted, not_fitting, all_met}
use Rattle.wasm_call.proofs.arguments.unmet.Goals as goal

pub returns-then-not-are_given : goal.returns-then-not-are_given
returns-then-not-are_given c = λ base held e.
    sym (not_given (run_machine base c.args.program.now held) (scope_of c.args.scope.now) c.args.func c.args.args.now c.args.results
    (sym c.are_given.ensures ∙ c.if-not-are_given.true))

pub returns-in_default : goal.returns-in_default
returns-in_default c = λ base held e.
    sym (stranger (run_machine base c.args.program.now held) (scope_of c.args.scope.now) c.args.func c.args.args.now
    c.args.results (sym c.are_given.ensures ∙ c.if-not-are_given.false)
    (type_none base c.args.program.now held c.args.func c.args.id e c.in_default.ensures))

pub returns-then-not-are_owned : goal.returns-then-not-are_owned
returns-then-not-are_owned c = λ base held e.
    sym (not_owned (run_machine base c.args.program.now held) (scope_of c.args.scope.now) c.args.func c.args.args.now
    c.args.results (sym c.are_given.ensures ∙ c.if-not-are_given.false) c.in-Some.ty.now
    (type_found base c.args.program.now held c.args.func c.args.id e c.in-Some.ty.now c.in-Some.ensures)
    (sym (c.are_owned.ensures base held e) ∙ c.if-not-are_owned.true))

pub returns-then-args-params : goal.returns-then-args-params
returns-then-args-params c = λ base held e.
    sym (not_counted (run_machine base c.args.program.now held) (scope_of c.args.scope.now) c.args.func c.args.args.now
    c.args.results (sym c.are_given.ensures ∙ c.if-not-are_given.false) c.in-Some.ty.now
    (type_found base c.args.program.now held c.args.func c.args.id e c.in-Some.ty.now c.in-Some.ensures)
    (sym (c.are_owned.ensures base held e) ∙ c.if-not-are_owned.false)
    (λ same. c.if-args-params.true (same ∙ sym (ap length c.params.ensures))))

pub returns-then-not-is_count : goal.returns-then-not-is_count
returns-then-not-is_count c = λ base held e.
    sym (not_wanted (run_machine base c.args.program.now held) (scope_of c.args.scope.now) c.args.func c.args.args.now
    c.args.results (sym c.are_given.ensures ∙ c.if-not-are_given.false) c.in-Some.ty.now
    (type_found base c.args.program.now held c.args.func c.args.id e c.in-Some.ty.now c.in-Some.ensures)
    (sym (c.are_owned.ensures base held e) ∙ c.if-not-are_owned.false) (c.if-args-params.false ∙ ap length c.params.ensures)
    (ap (is_count c.args.results) (sym (ap length c.results.ensures)) ∙ sym c.is_count.ensures ∙ c.if-not-is_count.true))

pub returns-then-not-are_fitting : goal.returns-then-not-are_fitting
returns-then-not-are_fitting c = λ base held e.
    sym (not_fitting (run_machine base c.args.program.now held) (scope_of c.args.scope.now) c.args.func c.args.args.now
    c.args.results (sym c.are_given.ensures ∙ c.if-not-are_given.false) c.in-Some.ty.now
    (type_found base c.args.program.now held c.args.func c.args.id e c.in-Some.ty.now c.in-Some.ensures)
    (sym (c.are_owned.ensures base held e) ∙ c.if-not-are_owned.false) (c.if-args-params.false ∙ ap length c.params.ensures)
    (ap (is_count c.args.results) (sym (ap length c.results.ensures)) ∙ sym c.is_count.ensures ∙ c.if-not-is_count.false)
    (ap (λ (tys : List ValType). are_fitting (run_machine base c.args.program.now held) (scope_of c.args.scope.now)
    c.args.args.now tys) (sym c.params-2.ensures) ∙ sym (c.are_fitting.ensures base held) ∙ c.if-not-are_fitting.true))

pub returns : goal.returns
returns c = λ base held e.
    sym (all_met (run_machine base c.args.program.now held) (scope_of c.args.scope.now) c.args.func c.args.args.now
    c.args.results (sym c.are_given.ensures ∙ c.if-not-are_given.false) c.in-Some.ty.now
    (type_found base c.args.program.now held c.args.func c.args.id e c.in-Some.ty.now c.in-Some.ensures)
    (sym (c.are_owned.ensures base held e) ∙ c.if-not-are_owned.false) (c.if-args-params.false ∙ ap length c.params.ensures)
    (ap (is_count c.args.results) (sym (ap length c.results.ensures)) ∙ sym c.is_count.ensures ∙ c.if-not-is_count.false)
    (ap (λ (tys : List ValType). are_fitting (run_machine base c.args.program.now held) (scope_of c.args.scope.now)
    c.args.args.now tys) (sym c.params-2.ensures) ∙ sym (c.are_fitting.ensures base held) ∙ c.if-not-are_fitting.false))
