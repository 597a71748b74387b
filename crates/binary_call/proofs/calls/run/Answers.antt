use Rattle.std.proofs.Common.{List, length, sym, ap, ◌∙◌}
use Rattle.std.specs.Option.{option_copied}
use Rattle.spec_machine.specs.declared.reply.Reply.{Reply}
use Rattle.wasm_meter.specs.Epochs.{CountsReadings}
use Rattle.binary_run.specs.Statuses.{verdict}
use Rattle.binary_run.proofs.SpelledLemmas.{one_is_told}
use Rattle.binary_call.specs.Calls.{asked_for, call_of}
use Rattle.binary_call.proofs.AnswerLemmas.{call_answers, is_kind, is_reply, is_told, same_call}
use Rattle.binary_call.proofs.calls.run.Goals as goal

pub answer_of-requires : goal.answer_of-requires
answer_of-requires c =
    let asked = asked_for c.args.bounds c.args.name.now c.args.arguments.now c.args.bytes in
    let has = same_call CountsReadings 0 c.run_call.new.epochs c.new-epochs.result asked c.args.guest _ _ _
    c.options.ensures c.in_ok-operands_of.ensures c.new-epochs.ensures c.in_ok-replies.ensures in
    is_told c.args.bytes c.in-Some.reply.now
    (call_answers CountsReadings 0 c.run_call.new.epochs (call_of asked c.args.guest) c.in_ok-replies.replies
    c.in-Some.reply.now has
    (ap (λ (rs : List Reply). verdict rs) (sym c.as_slice.ensures)
    ∙ sym c.verdict.ensures
    ∙ ap option_copied c.in-Some.is))

pub unreachable-requires : goal.unreachable-requires
unreachable-requires c =
    one_is_told c.args.bytes c.as_slice.result.now
    (ap (λ (rs : List Reply). length rs) c.as_slice.ensures ∙ c.in_ok-replies.ensures.answered)
    (sym c.verdict.ensures ∙ ap option_copied c.in-None.is)

pub returns-clause-answered : goal.returns-clause-answered
returns-clause-answered c =
    let asked = asked_for c.args.bounds c.args.name.now c.args.arguments.now c.args.bytes in
    let has = same_call CountsReadings 0 c.run_call.new.epochs c.new-epochs.result asked c.args.guest _ _ _
    c.options.ensures c.in_ok-operands_of.ensures c.new-epochs.ensures c.in_ok-replies.ensures in
    is_reply CountsReadings 0 c.run_call.new.epochs (call_of asked c.args.guest) c.in_ok-replies.replies c.in-Some.reply.now
    c.answer_of.result has
    (ap (λ (rs : List Reply). verdict rs) (sym c.as_slice.ensures)
    ∙ sym c.verdict.ensures
    ∙ ap option_copied c.in-Some.is)
    c.answer_of.ensures

pub returns-clause-kind : goal.returns-clause-kind
returns-clause-kind c =
    let asked = asked_for c.args.bounds c.args.name.now c.args.arguments.now c.args.bytes in
    let has = same_call CountsReadings 0 c.run_call.new.epochs c.new-epochs.result asked c.args.guest _ _ _
    c.options.ensures c.in_ok-operands_of.ensures c.new-epochs.ensures c.in_ok-replies.ensures in
    is_kind c.args.bytes c.in-Some.reply.now c.answer_of.result
    (call_answers CountsReadings 0 c.run_call.new.epochs (call_of asked c.args.guest) c.in_ok-replies.replies
    c.in-Some.reply.now has
    (ap (λ (rs : List Reply). verdict rs) (sym c.as_slice.ensures)
    ∙ sym c.verdict.ensures
    ∙ ap option_copied c.in-Some.is))
    c.answer_of.ensures
