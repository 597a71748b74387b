-- A call in slices is the call whole.
use Rattle.law_open.proofs.PartLemmas.{beginnings_stand, goes_on_stands, slices_are_whole, slices_end_alike, slices_are_few}
use Rattle.law_open.proofs.laws.law_slices.Goals as goal

pub returns : goal.returns
returns c = record {
  begins = beginnings_stand;
  goes_on = goes_on_stands;
  whole = slices_are_whole;
  alike = slices_end_alike;
  few = slices_are_few;
}
