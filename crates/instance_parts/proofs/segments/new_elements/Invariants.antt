use Rattle.std.proofs.Common.{◌≡◌, ◌+◌, ◌-◌, ◌++◌, length}
use Rattle.law_images.specs.Leading.{left_elements}
use Rattle.instance_parts.proofs.segments.new_elements.Given as goal

abbrev pub invariant-elements : goal.invariant-elements
invariant-elements l = record {
  made : l.made.items ++ left_elements l.functions l.globals (l.leading - l.segment) l.rest
      ≡ left_elements l.functions l.globals l.leading l.declared;
  so_far : l.segment + length l.rest ≡ length l.declared;
}

abbrev pub decreases-elements : goal.decreases-elements
decreases-elements l = length l.rest
