-- Calls from outside of all code, and instantiations.
use Rattle.std.proofs.Common.{length, None, refl, subst}
use Rattle.spec_execution.specs.Bodies.{exec}
use Rattle.spec_execution.specs.Runs.{outermost_call}
use Rattle.spec_execution.specs.Outcomes.{World}
use Rattle.law_code.specs.Good.{IsGoodWorld, IsReturned, IsInstantiated}
use Rattle.law_code.specs.Laws.{MayBegin, CallsReturn, HostCallsReturn, InstantiationsReturn, InstantiationsAreNeverStuck, CallsAreNeverStuck}
use Rattle.law_code.proofs.EntryLemmas.{entry_good}
use Rattle.law_code.proofs.Conditions.{IsSafeCall, safe_call}
use Rattle.law_code.proofs.InstantiationLemmas.{instantiate_good}
use Rattle.law_code.proofs.Runs.{exec_sound}
use Rattle.law_code.proofs.Worlds.{later_own}

pub good_begin : (w : World) → MayBegin w → IsGoodWorld w w
good_begin w b =
    record { well = b.well; later = later_own w; turns = b.turns; typed = b.typed }

pub calls_return : CallsReturn
calls_return w depth n args caller own b e h =
    entry_good w exec exec_sound w depth n args caller own e (good_begin w b) h

pub host_calls_return : HostCallsReturn
host_calls_return w f args wanted c b e =
    let s : IsSafeCall w.machine c = safe_call w.machine f args wanted c e in
    subst (λ res. IsReturned w res (outermost_call w c)) s.are
    (calls_return w 0 c.function c.arguments None s.own b s.found s.arguments)

pub never_stuck : CallsAreNeverStuck
never_stuck w v f args wanted c b e s =
    subst (IsReturned w c.results) s (host_calls_return w f args wanted c b e)

pub instantiations_return : InstantiationsReturn
instantiations_return w depth d imports b is =
    instantiate_good exec exec_sound w depth d is imports (length w.machine.instances) w refl (good_begin w b)

pub instantiations_never_stuck : InstantiationsAreNeverStuck
instantiations_never_stuck w v depth d imports b is e =
    subst (IsInstantiated w (length w.machine.instances) d) e (instantiations_return w depth d imports b is)
