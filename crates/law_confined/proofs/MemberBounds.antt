-- The members as bounds of a run: which stores are on the way, and what code, activations, steps and replies may hold there.
use Rattle.std.proofs.Common.{◌≡◌, ℕ, Bool, List, Some}
use Rattle.std.specs.Prelude.{flat_map}
use Rattle.spec_machine.specs.Machine.{Machine}
use Rattle.spec_execution.specs.Activations.{Activation}
use Rattle.spec_execution.specs.Askings.{Asking}
use Rattle.spec_reach.specs.Nodes.{Node, func, instance}
use Rattle.spec_reach.specs.Reach.{in_object}
use Rattle.spec_reach.specs.Roots.{in_val}
use Rattle.law_courses.proofs.Bounds.{Bounds}
use Rattle.law_confined.specs.Members.{IsMember, IsHeld, IsIn}
use Rattle.law_confined.specs.Shown.{in_reply, handed_out}
use Rattle.law_confined.proofs.AllMembers.{AllIn}
use Rattle.law_confined.proofs.CountMembers.{AreGiven}
use Rattle.law_confined.proofs.ShownLemmas.{Began, Strays}

module _ (M : Node → Bool) (first : Machine) where
  -- a function of the host that was entered holds members alone, and an instance called it that is one
  pub record IsOpen (a : Activation) : Type 0 where
    pub arguments : AllIn M (flat_map (in_val first.id) a.arguments)
    pub stored : AllIn M (flat_map (in_object first.id) a.stored)
    pub replies : AllIn M (flat_map (in_reply first.id) a.replies)
    pub caller : (n : ℕ) → a.caller ≡ Some n → IsMember M (instance n)

  -- beside another store, and behind what was heard before
  abbrev pub bounds : (Machine → Machine) → List Asking → Bounds
  bounds other heard0 = record {
    IsIn = IsIn M first;
    IsHeld = IsHeld M;
    IsCallee = λ n. IsMember M (func n);
    IsHome = λ n. IsMember M (instance n);
    IsOpen = IsOpen;
    IsSaid = λ a what. AllIn M (handed_out first.id what);
    IsReply = λ answer. AllIn M (in_reply first.id answer);
    AreNamed = λ imports. AllIn M (flat_map (in_object first.id) imports);
    AreGiven = AreGiven M;
    other = other;
    Began = Began M first.id heard0;
    Strays = Strays M first.id heard0;
  }
