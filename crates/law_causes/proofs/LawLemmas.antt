-- A call, an instantiation and a command are refused by what is outside only where the cause was heard since they began.
use Rattle.std.proofs.Common.{◌≡◌, List, [], sym, subst}
use Rattle.std.proofs.lemmas.List.{append-nil}
use Rattle.wasm_syntax.specs.declared.declarations.ModuleDecl.{ModuleDecl}
use Rattle.wasm_values.specs.declared.externals.Extern.{Extern}
use Rattle.wasm_values.specs.declared.refusals.Refusal.{Refusal}
use Rattle.wasm_values.specs.declared.refusals.Refusal.TheVariants as refusal
use Rattle.spec_machine.specs.Commands.{Row, row}
use Rattle.spec_machine.specs.Machine.{Machine}
use Rattle.spec_machine.specs.declared.reply.Reply.TheVariants as reply
use Rattle.spec_execution.specs.Askings.{Asking}
use Rattle.spec_execution.specs.Bodies.{exec}
use Rattle.spec_execution.specs.Commands.{Finish, Replied, Early, perform, replied}
use Rattle.spec_execution.specs.Outcomes.{World, Outcome, Over, Refused}
use Rattle.law_causes.specs.Causes.{Reasons, CodeRefuses, code_reasons, MakingRefuses, making_reasons, RowRefuses, row_reasons}
use Rattle.law_causes.specs.CauseLaws.{CausedSince, CallsHaveCauses, InstantiationsHaveCauses, CommandsHaveCauses}
use Rattle.law_causes.proofs.OwnRefusals.{IsOwnRow, row_own}
use Rattle.law_causes.proofs.Worlds.{Since, Caused, EndSince, Ends}
use Rattle.law_causes.proofs.Outcomes.{Keeps}
use Rattle.law_causes.proofs.Functions.{entry_keeps}
use Rattle.law_causes.proofs.Instantiation.{instantiate_keeps}
use Rattle.law_causes.proofs.Operations.{Said, perform_since}
use Rattle.law_causes.proofs.CodeLemmas.{exec_good}

begun : (w : World) → Since w.heard w
begun w = record { more = []; course = sym (append-nil w.heard) }

since : (reason : Reasons) (w v : World) (why : Refusal) → Caused w.heard reason why v → CausedSince reason w v why
since reason w v why h = record { more = h.more; course = h.course; cause = h.cause }

refused : (reason : Reasons) (w v : World) (why : Refusal) (o : Outcome) → Keeps w.heard reason o →
    o ≡ Over (Refused why) v → CausedSince reason w v why
refused reason w v why o h e =
    let there : Keeps w.heard reason (Over (Refused why) v) = subst (Keeps w.heard reason) e h in
    since reason w v why there.by

pub calls_have_causes : CallsHaveCauses
calls_have_causes depth n args caller w v why e =
    refused code_reasons w v why _
    (entry_keeps w.heard code_reasons exec (exec_good w.heard code_reasons (λ x is. is)) depth n args caller w (begun w)) e

-- what code refuses by itself, an instantiation and a command do
code_makes : (m : Machine) (d : ModuleDecl) (imports : List Extern) (why : Refusal) → CodeRefuses why →
    MakingRefuses m d imports why
code_makes m d imports refusal.NoHostBody is = tt
code_makes m d imports refusal.HostResultType is = tt
code_makes m d imports why is = absurd is

code_row : (m : Machine) (r : Row) (why : Refusal) → CodeRefuses why → RowRefuses m r why
code_row m r refusal.NoHostBody is = tt
code_row m r refusal.HostResultType is = tt
code_row m r why is = absurd is

pub instantiations_have_causes : InstantiationsHaveCauses
instantiations_have_causes depth w v d imports why e =
    let reason : Reasons = making_reasons w.machine d imports in
    refused reason w v why _
    (instantiate_keeps w.heard reason exec (exec_good w.heard reason (code_makes w.machine d imports)) depth d imports w
    (record { own = λ x is. is; grows = λ x. x }) (begun w)) e

-- ---- commands

abbrev FinishSince : List Asking → Reasons → Finish → Type 0
FinishSince B reason (Replied answer w) = Said B reason answer w
FinishSince B reason (Early e w) = EndSince B reason e w

record Finishes (B : List Asking) (reason : Reasons) (o : Finish) : Type 0 where
  by : FinishSince B reason o

finish_ends : (B : List Asking) (reason : Reasons) → Ends B Early reason (Finishes B reason)
finish_ends B reason = record { by = λ e w h. record { by = h } }

-- by its row
pub row_caused : (r : Row) → IsOwnRow r → (w v : World) (why : Refusal) →
    perform Early exec 0 w r replied ≡ Replied (reply.Refused why) v → CausedSince (row_reasons w.machine r) w v why
row_caused r own w v why e =
    let reason : Reasons = row_reasons w.machine r in
    let all : Finishes w.heard reason (perform Early exec 0 w r replied) =
    perform_since w.heard reason (finish_ends w.heard reason) replied (λ u answer h. record { by = h }) exec
    (exec_good w.heard reason (code_row w.machine r)) 0 w r own
    (record { own = λ x is. is; grows = λ x. x }) (begun w) in
    let there : Finishes w.heard reason (Replied (reply.Refused why) v) = subst (Finishes w.heard reason) e all in
    since reason w v why there.by.by

pub commands_have_causes : CommandsHaveCauses
commands_have_causes modules s c w v why e =
    row_caused (row modules w.machine s c) (row_own modules w.machine s c) w v why e
