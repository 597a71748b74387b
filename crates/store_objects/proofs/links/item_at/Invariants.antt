use Rattle.std.proofs.Common.{◌≡◌, drop, slice_get}
use Rattle.store_objects.specs.Links.{segment_places}
use Rattle.store_objects.proofs.links.item_at.Given as goal

-- what is left has at the rest of the place what all have at the place
abbrev pub invariant-loop-segment : goal.invariant-loop-segment
invariant-loop-segment l =
    slice_get (segment_places (drop l.segment-index l.segments)) l.rest ≡ slice_get (segment_places l.segments) l.place
