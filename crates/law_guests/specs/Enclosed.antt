-- What a well-formed store leads to, and sets of nodes that lead nowhere else. This project's own.
use Rattle.std.specs.Prelude.{◌≡◌, true, List}
use Rattle.spec_machine.specs.Machine.{Machine}
use Rattle.spec_machine.specs.WellFormed.{IsWellFormed}
use Rattle.spec_reach.specs.Nodes.{Node, has, is_there}
use Rattle.spec_reach.specs.Reach.{links, reach}

-- what is there leads to what is there
abbrev pub LinksAreThere : Type 0
LinksAreThere =
    (m : Machine) (from to : Node) → IsWellFormed m → is_there m from ≡ true → has (links m from) to ≡ true
    → is_there m to ≡ true

-- a set of what is there, whose members lead to members alone
pub record IsEnclosed (m : Machine) (set : List Node) : Type 0 where
  pub there : (x : Node) → has set x ≡ true → is_there m x ≡ true
  pub closed : (x y : Node) → has set x ≡ true → has (links m x) y ≡ true → has set y ≡ true

-- what is reached is such a set
abbrev pub ReachIsEnclosed : Type 0
ReachIsEnclosed = (m : Machine) (from : List Node) → IsWellFormed m → IsEnclosed m (reach m from)
