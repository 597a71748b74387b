use Rattle.std.proofs.Common.{◌≡◌, ◌+◌, ◌-◌, ◌++◌, length}
use Rattle.law_images.specs.Leading.{left_datas}
use Rattle.instance_parts.proofs.segments.new_datas.Given as goal

abbrev pub invariant-datas : goal.invariant-datas
invariant-datas l = record {
  made : l.made.items ++ left_datas (l.leading - l.segment) l.rest ≡ left_datas l.leading l.declared;
  so_far : l.segment + length l.rest ≡ length l.declared;
}

abbrev pub decreases-datas : goal.decreases-datas
decreases-datas l = length l.rest
