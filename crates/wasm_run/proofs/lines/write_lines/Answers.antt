use Rattle.script_lines.specs.Lines.{hooks_part}
use Rattle.wasm_run.specs.Statuses.{hook_events}
use Rattle.wasm_run.proofs.BufferLemmas.{buffered_front, buffered_line, cut_before_hooks, cut_of_longer, front_of_longer, in_failure}
use Rattle.wasm_run.proofs.lines.write_lines.Goals as goal

pub returns-in-Err-clause-front : goal.returns-in-Err-clause-front
returns-in-Err-clause-front g c =
    front_of_longer _ (hooks_part (hook_events c.args.hooked c.args.events.now)) _ _ c.write_replies.ensures.front

pub returns-in_default-append_last-clause-front : goal.returns-in_default-append_last-clause-front
returns-in_default-append_last-clause-front g c =
    front_of_longer _ (hooks_part (hook_events c.args.hooked c.args.events.now)) _ _ c.write_replies.ensures.front

pub returns-in-Ok-write_last-clause-front : goal.returns-in-Ok-write_last-clause-front
returns-in-Ok-write_last-clause-front g c =
    let more = buffered_line _ _ (hooks_part (hook_events c.args.hooked c.args.events.now)) _ _ _
    c.in_default.ensures.buffered c.in-Ok.ensures.appended in
    buffered_front _ _ _ _ _ more (rw c.as_str.ensures.value at c.write_last.ensures.front)

pub returns-clause-front : goal.returns-clause-front
returns-clause-front g c =
    let more = buffered_line _ _ (hooks_part (hook_events c.args.hooked c.args.events.now)) _ _ _
    c.in_default.ensures.buffered c.in-Ok.ensures.appended in
    buffered_front _ _ _ _ _ more (rw c.as_str.ensures.value at c.write_last.ensures.front)

pub returns-in-Err-clause-short : goal.returns-in-Err-clause-short
returns-in-Err-clause-short g c = λ same.
    cut_of_longer _ (hooks_part (hook_events c.args.hooked c.args.events.now)) _ _ (c.in-Err.ensures.short same)

pub returns-in_default-append_last-clause-short : goal.returns-in_default-append_last-clause-short
returns-in_default-append_last-clause-short g c = λ same.
    cut_before_hooks _ _ c.args.hooked c.args.events.now _ _ c.in_default.ensures.buffered
    (in_failure c.append_last.result c.in_default-append_last.not-Ok c.append_last.ensures.hooked)
