use Rattle.std.proofs.Common.{◌∙◌, sym, ap, List}
use Rattle.std.specs.Borrow.{Bor}
use Rattle.wasm_types.specs.declared.value_types.ValType.{ValType}
use Rattle.wasm_syntax.specs.Typing.{type_one, typing_to}
use Rattle.module_typing.specs.declared.reach.Reach.{Reach}
use Rattle.module_typing.specs.Imported.{seen}
use Rattle.module_typing.specs.Answers.{typed_as, behind_condition}
use Rattle.module_typing.specs.Code.{in_code}
use Rattle.module_typing.specs.Operands.{types_in}
use Rattle.module_typing.proofs.Walks.{typing_to-nested, first_instr, no_other, unlike_other}
use Rattle.module_typing.proofs.code.Code.+walk.Goals as goal

pub type_code-returns-clause-typed : goal.type_code-returns-clause-typed
type_code-returns-clause-typed t c =
    typing_to-nested c.type_list.result (in_code c.args.self.now) c.args.depth (seen c.args.labels.now) (types_in c.args.self.now c.args.operands.now)
    (types_in c.args.self.now c.type_list.new.operands) c.args.instrs.now c.if-depth-eq0.false c.type_list.ensures.typed

pub type_list-loop-instr-preserved : goal.type_list-loop-instr-preserved
type_list-loop-instr-preserved t c =
    let inner = typing_to (in_code c.args.self.now) c.args.depth in
    let kept = ap (λ (held : List (Bor (List ValType))). type_one (in_code c.args.self.now) inner (seen held) c.in-Some.instr.now (types_in c.args.self.now c.loop-instr.operands)) c.loop-instr.invariant.labels in
    let went = ap (λ (reach : Reach). typed_as reach (types_in c.args.self.now c.type_one.new.operands)) c.in-Reached.is in
    record {
      typed =
          sym (first_instr (in_code c.args.self.now) inner (seen c.args.labels.now) (types_in c.args.self.now c.loop-instr.operands) (types_in c.args.self.now c.type_one.new.operands)
          c.loop-instr.rest.now c.in-Some.tail.now c.in-Some.instr.now c.in-Some.ensures.cases.0
          (sym kept ∙ c.in_ok-type_one.ensures.typed ∙ went))
          ∙ c.loop-instr.invariant.typed;
      labels = c.in_ok-type_one.ensures.labels ∙ c.loop-instr.invariant.labels;
    }

pub type_if-returns-clause-typed : goal.type_if-returns-clause-typed
type_if-returns-clause-typed t c =
    c.if-not-want.ensures
    (λ us. behind_condition (in_code c.args.self.now) (typing_to (in_code c.args.self.now) c.args.depth)
    (seen c.args.labels.now) c.args.index c.args.other us)
    ∙ c.in_ok-reach.ensures.typed

pub type_branches-returns-in_default-typed_block-clause-typed : goal.type_branches-returns-in_default-typed_block-clause-typed
type_branches-returns-in_default-typed_block-clause-typed t c =
    no_other (in_code c.args.self.now) (typing_to (in_code c.args.self.now) c.args.depth) (seen c.args.labels.now)
    c.args.index c.args.other (types_in c.args.self.now c.args.operands.now) c.in-Some.block.now c.in-Some.ty.now c.in-Some.ensures
    c.in_default-typed_block.ensures

pub type_branches-returns-then-block-other-clause-typed : goal.type_branches-returns-then-block-other-clause-typed
type_branches-returns-then-block-other-clause-typed t c =
    unlike_other (in_code c.args.self.now) (typing_to (in_code c.args.self.now) c.args.depth) (seen c.args.labels.now)
    c.args.index c.args.other (types_in c.args.self.now c.args.operands.now) c.in-Some.block.now c.in-Some-typed_block.other.now c.in-Some.ty.now
    c.in-Some-typed_block.field-0-1.now c.in-Some.ensures c.in-Some-typed_block.ensures c.if-block-other.true
