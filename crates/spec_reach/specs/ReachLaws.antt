-- What reach is: the least set that holds its roots and all that its members lead to, as far as the store has them.
-- This project's own.
use Rattle.std.specs.Prelude.{◌≡◌, true, List}
use Rattle.spec_machine.specs.Machine.{Machine}
use Rattle.spec_reach.specs.Nodes.{Node, has, nodes}
use Rattle.spec_reach.specs.Reach.{links, reach}

-- a set holds the roots, and what its members lead to, as far as the store has them
pub record HoldsReach (m : Machine) (roots set : List Node) : Type 0 where
  pub rooted : (x : Node) → has roots x ≡ true → has (nodes m) x ≡ true → has set x ≡ true
  pub closed :
      (x y : Node) → has set x ≡ true → has (links m x) y ≡ true → has (nodes m) y ≡ true → has set y ≡ true

-- reach is such a set
abbrev pub ReachIsClosed : Type 0
ReachIsClosed = (m : Machine) (roots : List Node) → HoldsReach m roots (reach m roots)

-- and is within each such set
abbrev pub ReachIsLeast : Type 0
ReachIsLeast =
    (m : Machine) (roots set : List Node) → HoldsReach m roots set → (x : Node) → has (reach m roots) x ≡ true
    → has set x ≡ true

-- so it grows with its roots
abbrev pub ReachGrows : Type 0
ReachGrows =
    (m : Machine) (roots more : List Node) → ((x : Node) → has roots x ≡ true → has more x ≡ true) → (x : Node)
    → has (reach m roots) x ≡ true → has (reach m more) x ≡ true
