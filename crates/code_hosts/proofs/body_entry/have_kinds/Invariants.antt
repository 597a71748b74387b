use Rattle.std.proofs.Common.{◌≡◌, length}
use Rattle.spec_execution.specs.Operands.{have_kinds}
use Rattle.code_hosts.proofs.body_entry.have_kinds.Given as goal

abbrev pub invariant-loop-wanted : goal.invariant-loop-wanted
invariant-loop-wanted l = have_kinds l.wanted l.rest ≡ have_kinds l.types l.values

abbrev pub decreases-loop-wanted : goal.decreases-loop-wanted
decreases-loop-wanted l = length l.wanted
