-- The host data of a script, as JSON data: its number, and what it answers. This project's own format.
use Rattle.std.specs.Prelude.{ℕ, pos, List, [], ◌∷◌, Option, Some, None, codes, if◌then◌else◌}
use Rattle.std.specs.Str.{bytes_eq}
use Rattle.serde_json.specs.Data.{Data}
use Rattle.wasm_meter.specs.declared.lists.BehaviourAnswer.{BehaviourAnswer}
use Rattle.wasm_meter.specs.declared.lists.BehaviourAnswer.TheVariants as behaviour
use Rattle.wasm_meter.specs.declared.lists.GrowthAnswer.{GrowthAnswer}
use Rattle.wasm_meter.specs.declared.lists.GrowthAnswer.TheVariants as growth
use Rattle.wasm_meter.specs.declared.lists.HookAnswer.{HookAnswer}
use Rattle.wasm_meter.specs.declared.lists.HookAnswer.TheVariants as hook
use Rattle.script_json.specs.Fields.{◌>>=◌, field, field_or, optional, only, signed_64, whole, text, list_of, list_or_empty}
use Rattle.script_commands.specs.declared.host_answers.HostAnswers.{HostAnswers}
use Rattle.script_commands.specs.declared.host_answers.LimiterAnswers.{LimiterAnswers}

-- what a limiter answers
abbrev pub growth_named : List ℕ → Option GrowthAnswer
growth_named name =
    if bytes_eq name (codes "yes") then Some growth.Yes else
    (if bytes_eq name (codes "no") then Some growth.No else
    (if bytes_eq name (codes "fault") then Some growth.Fault else None))

abbrev pub growth_answer_of : Data → Option GrowthAnswer
growth_answer_of d = text d >>= growth_named

-- what a hook answers
abbrev pub hook_named : List ℕ → Option HookAnswer
hook_named name =
    if bytes_eq name (codes "ok") then Some hook.Done else
    (if bytes_eq name (codes "fault") then Some hook.Fault else None)

abbrev pub hook_answer_of : Data → Option HookAnswer
hook_answer_of d = text d >>= hook_named

-- what a deadline behaviour answers: so many ticks more, or a word
abbrev pub behaviour_named : List ℕ → Option BehaviourAnswer
behaviour_named name =
    if bytes_eq name (codes "interrupt") then Some behaviour.Interrupt else
    (if bytes_eq name (codes "fault") then Some behaviour.Fault else None)

abbrev pub behaviour_by : Option ℕ → Data → Option BehaviourAnswer
behaviour_by (Some ticks) d = Some (behaviour.Continue ticks)
behaviour_by None d = text d >>= behaviour_named

abbrev pub behaviour_answer_of : Data → Option BehaviourAnswer
behaviour_answer_of d = behaviour_by (whole d) d

-- how many instances, tables and memories there may be, 10,000 each by default, and what the limiter answers, in order
abbrev pub limiter_of : Data → Option LimiterAnswers
limiter_of d = do
  _ ← only (codes "instances" ∷ codes "tables" ∷ codes "memories" ∷ codes "answers" ∷ []) d
  instances ← field_or 10000 whole (field (codes "instances") d)
  tables ← field_or 10000 whole (field (codes "tables") d)
  memories ← field_or 10000 whole (field (codes "memories") d)
  answers ← list_or_empty growth_answer_of (codes "answers") d
  Some (record { instances = instances; tables = tables; memories = memories; answers = answers })

-- a script that says nothing of its host data has the number 0, no limiter, no hook and no deadline behaviour
abbrev pub no_answers : HostAnswers
no_answers = record { number = pos 0; limiter = None; hook = None; deadline = None }

-- the number, 0 by default; the limiter, and what the hook and the deadline behaviour answer, in order, each of which is
-- there where its key is
abbrev pub host_answers_of : Data → Option HostAnswers
host_answers_of d = do
  _ ← only (codes "number" ∷ codes "limiter" ∷ codes "hook" ∷ codes "deadline" ∷ []) d
  number ← field_or (pos 0) signed_64 (field (codes "number") d)
  limiter ← optional limiter_of (field (codes "limiter") d)
  hook ← optional (list_of hook_answer_of) (field (codes "hook") d)
  deadline ← optional (list_of behaviour_answer_of) (field (codes "deadline") d)
  Some (record { number = number; limiter = limiter; hook = hook; deadline = deadline })

-- the host data at the key "data" of a script
abbrev pub host_answers_in : Data → Option HostAnswers
host_answers_in d = field_or no_answers host_answers_of (field (codes "data") d)
