-- Answers in which types are types: this project's own.
use Rattle.std.specs.Prelude.{List, [], ◌∷◌, Ok}
use Rattle.law_store.specs.Rows.{IsTypedOperation}
use Rattle.spec_execution.specs.Askings.{Answer, Stepped}
use Rattle.spec_execution.specs.declared.answer.Answer.{Answer as Say}
use Rattle.spec_execution.specs.declared.answer.Answer.TheVariants as say

-- the types in an operation that a body of the host asks for are types: what each type's own constructors assure
abbrev pub IsTypedSaying : Say → Type 0
IsTypedSaying (say.Call op) = IsTypedOperation op
IsTypedSaying _ = Unit {0}

abbrev pub IsTypedAnswer : Answer → Type 0
IsTypedAnswer (Stepped after (Ok what)) = IsTypedSaying what
IsTypedAnswer _ = Unit {0}

abbrev pub AreTyped : List Answer → Type 0
AreTyped [] = Unit {0}
AreTyped (a ∷ answers) = IsTypedAnswer a × AreTyped answers
