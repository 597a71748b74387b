-- Of a host that hands out nothing unshown a call keeps to what it names.
use Rattle.std.proofs.Common.{◌≡◌, List, [], ◌++◌, inl, inr, ap, ◌∙◌, subst, append-nil}
use Rattle.std.specs.Prelude.{Result, Ok, Err}
use Rattle.wasm_types.specs.declared.faults.OutOfMemory.{OutOfMemory as NoMemory}
use Rattle.spec_machine.specs.Commands.{Row}
use Rattle.spec_machine.specs.Machine.{Machine}
use Rattle.spec_machine.specs.declared.reply.Reply.{Reply}
use Rattle.spec_execution.specs.Askings.{Asking, Relations}
use Rattle.spec_reach.specs.Nodes.{Node}
use Rattle.law_confined.specs.Shown.{unshown}
use Rattle.law_plugins.specs.Showing.{ShowsAlone}
use Rattle.law_plugins.proofs.ShowingLemmas.{shows_alone}
use Rattle.wasm_call.specs.Confined.{KeepsTo, heard_in}
use Rattle.wasm_call.specs.Outcomes.{Called}
use Rattle.wasm_call.specs.Outside.{Moving, Surrounded, outside, typed, Hears}
use Rattle.wasm_call.proofs.HeardLemmas.{heard_moves}
use Rattle.law_calls.specs.Plain.{KeepsToNames}

-- what is outside went so by what was heard in a call
pub heard_hears : {T H E : Type 0} (moves : Moving T H E) (row : Row) (old new : Surrounded T H E)
    (result : Result Reply NoMemory) (ran : Called moves row old result new) →
    Hears moves old (heard_in moves row old new result ran) new
heard_hears moves row old new (Ok answer) l = l.chained
heard_hears moves row old new (Err none) (inl k) = k.led.chained
heard_hears moves row old new (Err none) (inr k) = k.led.chained

pub keeps_to_names : {T H E : Type 0} (r : Relations T H E) → ShowsAlone r → KeepsToNames (typed r)
keeps_to_names r alone row from old new result c =
    let m : Machine = old.store.machine in
    let heard : List Asking = heard_in (typed r) row old new result c.ran in
    let none : unshown m.id heard ≡ [] =
    shows_alone r alone (outside old) (outside new) heard
    (heard_moves r (outside old) (outside new) heard (heard_hears (typed r) row old new result c.ran)) m.id in
    subst (λ (ns : List Node). KeepsTo ns m new.store.machine)
    (ap (λ (ns : List Node). from ++ ns) none ∙ append-nil from) c.keeps
