-- That what a host reads of links is that by which reach goes. This project's own.
use Rattle.std.specs.Prelude.{◌≡◌, ◌↔◌, ℕ, true, Some}
use Rattle.spec_machine.specs.Machine.{Machine}
use Rattle.spec_reach.specs.Nodes.{Node as Reached, func, instance, memory, table, global, has}
use Rattle.spec_reach.specs.Reach.{links}
use Rattle.store_objects.specs.Links.{link_at}
use Rattle.store_objects.specs.declared.node.Node.{Node}
use Rattle.store_objects.specs.declared.node.Node.TheVariants as node

-- a node as the definitions of reach have it
abbrev pub as_reached : Node → Reached
as_reached (node.Func n) = func n
as_reached (node.Instance n) = instance n
as_reached (node.Memory n) = memory n
as_reached (node.Table n) = table n
as_reached (node.Global n) = global n

-- an object leads to another, as reach goes, exactly where that is the member at some place of it
abbrev pub LinksLeadOn : Type 0
LinksLeadOn =
    (m : Machine) (from to : Node) →
    (has (links m (as_reached from)) (as_reached to) ≡ true) ↔ ((place : ℕ) × (link_at m from place ≡ Some to))
