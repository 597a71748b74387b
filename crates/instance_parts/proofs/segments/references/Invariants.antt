use Rattle.std.proofs.Common.{◌≡◌, ◌++◌, map, length}
use Rattle.spec_execution.specs.Allocation.{reference_of}
use Rattle.instance_parts.proofs.segments.references.Given as goal

abbrev pub invariant-items : goal.invariant-items
invariant-items l =
    l.made.items ++ map (reference_of l.functions l.globals) l.rest ≡ map (reference_of l.functions l.globals) l.items

abbrev pub decreases-items : goal.decreases-items
decreases-items l = length l.rest
