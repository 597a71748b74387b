use Rattle.std.proofs.Common.{◌≤◌, length}
use Rattle.store_state.specs.Parts.{HeldParts}
use Rattle.code_hosts.specs.Contexts.{moves_in, opened_in}
use Rattle.code_hosts.specs.Rounds.{ends_in, IsEnd, Rounds}
use Rattle.code_hosts.specs.declared.rounds.Round.TheVariants as round
use Rattle.code_hosts.proofs.end_part.settle.Given as goal

abbrev pub invariant-loop-frame : goal.invariant-loop-frame
invariant-loop-frame g l = record {
  shorter : length l.around.items ≤ length l.initial.around.items;
  within : l.spent ≤ l.left;
  end : IsEnd l.how;
  reached :
      (held : HeldParts) →
      Rounds (opened_in l.context) (moves_in l.context g.W.Surroundings.moves)
      (ends_in l.initial.around.items l.initial.how) held
      l.initial.world l.left l.spent (round.Ends l.how) l.around.items held
      l.world;
}

abbrev pub decreases-loop-frame : goal.decreases-loop-frame
decreases-loop-frame g l = length l.around.items
