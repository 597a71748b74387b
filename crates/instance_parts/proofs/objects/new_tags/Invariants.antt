use Rattle.std.proofs.Common.{◌≡◌, ◌++◌, length}
use Rattle.std.specs.List.{filter_map}
use Rattle.std.specs.Prelude.{slice_get}
use Rattle.spec_execution.specs.Allocation.{new_tags}
use Rattle.instance_parts.proofs.objects.new_tags.Given as goal

abbrev pub invariant-tags : goal.invariant-tags
invariant-tags l = l.made.items ++ filter_map (slice_get l.decl.types) l.rest ≡ new_tags l.decl

abbrev pub decreases-tags : goal.decreases-tags
decreases-tags l = length l.rest
