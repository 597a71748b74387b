use Rattle.std.proofs.Common.{◌≡◌, ◌+◌, ◌-◌, ◌^◌, ◌≤◌, drop, length}
use Rattle.store_objects.specs.Links.{counted, segment_places}
use Rattle.store_objects.proofs.links.with_items.Given as goal

-- the total, which is in range, and what is left are the whole
abbrev pub invariant-loop-segment : goal.invariant-loop-segment
invariant-loop-segment l = record {
  whole : counted (l.total + length (segment_places (drop l.segment-index l.segments)))
      ≡ counted (l.before + length (segment_places l.segments));
  fits : l.total ≤ 2 ^ 64 - 1;
}
