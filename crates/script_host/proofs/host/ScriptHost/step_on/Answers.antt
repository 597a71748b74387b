use Rattle.std.proofs.Common.{◌≡◌, length, map, string_bytes, ap, sym, arith}
use Rattle.std.proofs.lemmas.List.{length-map}
use Rattle.script_host.specs.ScriptSteps.{HostParts}
use Rattle.script_host.proofs.HostLemmas.{cut_back}
use Rattle.script_host.proofs.host.ScriptHost.step_on.Goals as goal

pub returns-in-Err-clause-short : goal.returns-in-Err-clause-short
returns-in-Err-clause-short c =
    let notes = c.self.inside.notes in
    let seen : length c.args.self.now.notes ≡ length (map string_bytes notes.items) = ap (λ (h : HostParts). length h.notes) (sym c.self.view_is) in (
      cut_back c.args.self.now c.go.new.self c.self-2.inside.bodies c.self-2.inside.faults c.self-2.inside.notes.items
          c.truncate.new.self.items c.len-before.result c.self-2.view_is c.go.ensures.bodies c.in-Err.ensures.faults
          c.in-Err.ensures.notes c.truncate.ensures.items (omega (arith, notes.ok.0, seen, length-map notes.items string_bytes)),
      c.in-Err.ensures.state,
    )
