use Rattle.std.proofs.Common.{◌≡◌, ◌++◌, drop, string_bytes}
use Rattle.script_lines.specs.Lines.{lines_of}
use Rattle.replay_run.proofs.lines.append_lines.Given as goal

abbrev pub invariant-loop-reply : goal.invariant-loop-reply
invariant-loop-reply l =
    string_bytes l.initial.text ++ lines_of l.replies
    ≡ string_bytes l.text ++ lines_of (drop l.reply-index l.replies)
