-- The summary of a generated session. This project's own format.
use Rattle.std.specs.Prelude.{ℕ, ◌-◌, Bool, true, false, List, [], ◌++◌, length, filter, slice_get, Option, Some, None, codes}
use Rattle.std.specs.Fmt.{decimal}
use Rattle.spec_machine.specs.declared.reply.Reply.{Reply}
use Rattle.spec_machine.specs.declared.reply.Reply.TheVariants.{Refused}
use Rattle.script_lines.specs.Lines.{line_of}

-- a refusal, or a trap
abbrev pub is_refused : Reply → Bool
is_refused (Refused cause) = true
is_refused answer = false

abbrev pub line_if_any : Option Reply → List ℕ
line_if_any None = []
line_if_any (Some answer) = line_of answer

-- how many calls the session has; how many replies there are, and how many of them are refusals; and the line of the last
-- reply, where there is one
abbrev pub summary : ℕ → List Reply → List ℕ
summary n replies =
    codes "gen " ++ decimal n ++ codes "\ncommands " ++ decimal (length replies) ++ codes " refused "
    ++ decimal (length (filter is_refused replies)) ++ codes "\n" ++ line_if_any (slice_get replies (length replies - 1))
