use Rattle.std.proofs.Common.{◌∙◌, ap}
use Rattle.std.specs.Prelude.{slice_get}
use Rattle.wasm_syntax.specs.declared.declarations.ModuleDecl.{ModuleDecl}
use Rattle.code_run.specs.Choosing.{chosen_by}
use Rattle.code_leaps.specs.Choosing.{table_in}
use Rattle.code_leaps.specs.Running.{charged}
use Rattle.code_run.specs.Steps.{came}
use Rattle.code_run.proofs.IndirectCallLemmas.{no_table, element_of, indirect_lacks, indirect_untyped, indirect_tableless, indirect_fails, indirect_calls}
use Rattle.code_run.proofs.thread.Thread.call_indirect.Goals as goal

pub returns-in_default-clause-steps : goal.returns-in_default-clause-steps
returns-in_default-clause-steps c = λ rules owed ef.
    indirect_lacks c.args.program.now rules (charged rules.consumes_fuel c.args.held.now owed) c.args.ty c.args.index c.args.self.now
    (record c.args.self.now { values = c.pop_i32.new.self }) c.in_default.ensures.value

pub returns-in_default-item-clause-steps : goal.returns-in_default-item-clause-steps
returns-in_default-item-clause-steps c = λ rules owed ef.
    indirect_untyped c.args.program.now rules (charged rules.consumes_fuel c.args.held.now owed) c.args.ty c.args.index c.args.self.now
    (record c.args.self.now { values = c.pop_i32.new.self }) c.pop_i32.new.self c.in-Some.ensures.locals
    c.in-Some.ensures.below c.in-Some.place c.in-Some.ensures.value.0
    ((rw c.as_slice.ensures at c.in_default-item.ensures)
    ∙ ap (λ (d : ModuleDecl). slice_get d.types c.args.ty) c.decl.ensures.value)

pub returns-in_default-element_in-clause-steps : goal.returns-in_default-element_in-clause-steps
returns-in_default-element_in-clause-steps c =
    rw c.element_in.ensures.same (λ rules owed ef.
    indirect_tableless c.args.program.now rules (charged rules.consumes_fuel c.args.held.now owed) c.args.ty c.args.index c.args.self.now
    (record c.args.self.now { values = c.pop_i32.new.self }) c.pop_i32.new.self c.in-Some.ensures.locals
    c.in-Some.ensures.below c.in-Some.place c.in-Some.ensures.value.0 c.in-Some-item.wanted.now
    ((rw c.as_slice.ensures at c.in-Some-item.ensures)
    ∙ ap (λ (d : ModuleDecl). slice_get d.types c.args.ty) c.decl.ensures.value)
    (no_table (table_in c.args.program.now c.args.held.now c.args.self.now.activation.instance c.args.index) c.in-Some.place
    c.in_default-element_in.ensures.value))

pub returns-in-Fails-clause-steps : goal.returns-in-Fails-clause-steps
returns-in-Fails-clause-steps c =
    let found = element_of (table_in c.args.program.now c.args.held.now c.args.self.now.activation.instance c.args.index)
    c.in-Some.place c.in-Some-element_in.element c.in-Some-element_in.ensures.value in
    rw c.element_in.ensures.same (λ rules owed ef.
    indirect_fails c.args.program.now rules (charged rules.consumes_fuel c.args.held.now owed) c.args.ty c.args.index c.args.self.now
    (record c.args.self.now { values = c.pop_i32.new.self }) c.pop_i32.new.self c.in-Some.ensures.locals
    c.in-Some.ensures.below c.in-Some.place c.in-Some.ensures.value.0 c.in-Some-item.wanted.now
    ((rw c.as_slice.ensures at c.in-Some-item.ensures)
    ∙ ap (λ (d : ModuleDecl). slice_get d.types c.args.ty) c.decl.ensures.value) found.0 found.1 c.in-Fails.fault
    (c.in-Fails.ensures ∙ ap chosen_by found.2))

pub returns-in_ok-step-in-Function-clause-steps : goal.returns-in_ok-step-in-Function-clause-steps
returns-in_ok-step-in-Function-clause-steps c =
    let found = element_of (table_in c.args.program.now c.args.held.now c.args.self.now.activation.instance c.args.index)
    c.in-Some.place c.in-Some-element_in.element c.in-Some-element_in.ensures.value in
    rw c.element_in.ensures.same (λ rules owed ef.
    indirect_calls c.args.program.now rules (charged rules.consumes_fuel c.args.held.now owed) c.args.ty c.args.index c.args.self.now
    c.call_signed.new.self c.pop_i32.new.self c.in-Some.ensures.locals
    c.in-Some.ensures.below c.in-Some.place c.in-Some.ensures.value.0 c.in-Some-item.wanted.now
    ((rw c.as_slice.ensures at c.in-Some-item.ensures)
    ∙ ap (λ (d : ModuleDecl). slice_get d.types c.args.ty) c.decl.ensures.value) found.0 found.1 c.args.frames ef c.in-Function.number
    (came c.in_ok-step-in-Function.step c.call_signed.new.self) (c.in-Function.ensures ∙ ap chosen_by found.2)
    c.in_ok-step-in-Function.ensures)
