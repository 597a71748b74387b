use Rattle.std.proofs.Common.{ℕ, true, ap, sym, ◌∙◌, Bool}
use Rattle.wasm_types.specs.Signatures.{is_of}
use Rattle.spec_machine.specs.Machine.{EngineParts}
use Rattle.wasm_host.specs.Scopes.{scope_of}
use Rattle.wasm_call.proofs.FunctionLemmas.{checked, checked_due, unnamed_due}
use Rattle.wasm_call.proofs.functions.due_refusal.Goals as goal

pub returns-then-not-are_objects : goal.returns-then-not-are_objects
returns-then-not-are_objects g c = λ body.
    sym (unnamed_due c.args.store.now.machine (scope_of c.args.scope.now) c.args.ty.now body c.args.stored.now
    (sym c.are_objects.ensures ∙ c.if-not-are_objects.true))

pub returns-then-not-are_owned : goal.returns-then-not-are_owned
returns-then-not-are_owned g c = λ body.
    sym (checked_due c.args.store.now.machine (scope_of c.args.scope.now) c.args.ty.now body c.args.stored.now
    (sym c.are_objects.ensures ∙ c.if-not-are_objects.false)
    ∙ ap (λ (b : Bool). checked b (is_of c.args.store.now.machine.engine.number c.args.ty.now))
    (sym c.are_owned.ensures ∙ c.if-not-are_owned.true))

pub returns-then-not-comes_from_same_engine : goal.returns-then-not-comes_from_same_engine
returns-then-not-comes_from_same_engine g c = λ body.
    sym (checked_due c.args.store.now.machine (scope_of c.args.scope.now) c.args.ty.now body c.args.stored.now
    (sym c.are_objects.ensures ∙ c.if-not-are_objects.false)
    ∙ ap (λ (b : Bool). checked b (is_of c.args.store.now.machine.engine.number c.args.ty.now))
    (sym c.are_owned.ensures ∙ c.if-not-are_owned.false)
    ∙ ap (checked true) (sym (c.comes_from_same_engine.ensures ∙ ap (λ (k : ℕ). is_of k c.args.ty.now)
    (c.id.ensures ∙ ap (λ (e : EngineParts). e.number) c.engine.ensures)) ∙ c.if-not-comes_from_same_engine.true))

pub returns : goal.returns
returns g c = λ body.
    sym (checked_due c.args.store.now.machine (scope_of c.args.scope.now) c.args.ty.now body c.args.stored.now
    (sym c.are_objects.ensures ∙ c.if-not-are_objects.false)
    ∙ ap (λ (b : Bool). checked b (is_of c.args.store.now.machine.engine.number c.args.ty.now))
    (sym c.are_owned.ensures ∙ c.if-not-are_owned.false)
    ∙ ap (checked true) (sym (c.comes_from_same_engine.ensures ∙ ap (λ (k : ℕ). is_of k c.args.ty.now)
    (c.id.ensures ∙ ap (λ (e : EngineParts). e.number) c.engine.ensures)) ∙ c.if-not-comes_from_same_engine.false))
