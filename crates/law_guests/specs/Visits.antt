-- What a host does that loads guests and calls them, one after another. This project's own.
use Rattle.std.specs.Prelude.{◌≡◌, ℕ, if◌then◌else◌, List, [], ◌∷◌, ◌++◌, length, flat_map, Some, None, slice_get}
use Rattle.wasm_types.specs.Each.{Each}
use Rattle.wasm_syntax.specs.declared.declarations.ModuleDecl.{ModuleDecl}
use Rattle.wasm_values.specs.declared.externals.Extern.{Extern}
use Rattle.spec_machine.specs.FunctionCalls.{Called}
use Rattle.spec_machine.specs.Machine.{Machine}
use Rattle.spec_execution.specs.Outcomes.{World}
use Rattle.spec_reach.specs.Nodes.{instance, is_there}
use Rattle.spec_reach.specs.Reach.{in_object, reach}
use Rattle.spec_reach.specs.Roots.{call_roots}
use Rattle.law_confined.specs.Laws.{heard_since}
use Rattle.law_confined.specs.RunLaws.{IsShown}
use Rattle.law_plugins.specs.Laws.{IsWithin}
use Rattle.law_plugins.specs.Meeting.{first_meeting, GuestsAreApart, KeepsGuest}
use Rattle.law_guests.specs.Deeds.{Deed, Calls, Makes, behind, Begins}

-- a call of the guest at a place, or one more guest, made of a module over imports
pub data Visit : Type 0 where
  Call : ℕ → Called → Visit
  Load : ModuleDecl → List Extern → Visit

abbrev pub deed : Visit → Deed
deed (Call place c) = Calls c
deed (Load d imports) = Makes d imports

-- the guests behind it: an instance that was made is one of them
abbrev pub guests_behind : Machine → Machine → List ℕ → Visit → List ℕ
guests_behind m after guests (Call place c) = guests
guests_behind m after guests (Load d imports) =
    if is_there after (instance (length m.instances)) then guests ++ length m.instances ∷ [] else guests

-- the guest that is called reaches the function and the functions among the arguments; imports lead to nothing that a guest
-- reaches, but what all may share
pub record IsReaching (m : Machine) (guests : List ℕ) (place : ℕ) (c : Called) : Type 0 where
  pub guest : ℕ
  pub found : slice_get guests place ≡ Some guest
  pub within : IsWithin m (call_roots c.function c.arguments None) guest

abbrev pub IsAllowed : Machine → List ℕ → Visit → Type 0
IsAllowed m guests (Call place c) = IsReaching m guests place c
IsAllowed m guests (Load d imports) = first_meeting m (reach m (flat_map (in_object m.id) imports)) guests ≡ None

-- it begins beside these guests, and bodies of the host hand out no function in it that they were not shown
pub record Comes (m : Machine) (guests : List ℕ) (w : World) (visit : Visit) : Type 0 where
  pub begins : Begins m w (deed visit)
  pub allowed : IsAllowed m guests visit
  pub shown : IsShown (heard_since w (behind (deed visit) w))

-- visits one after another, from one store and these guests to another store and those guests
abbrev pub Visiting : Machine → List ℕ → List (World × Visit) → Machine → List ℕ → Type 0
Visiting m guests [] after all = (after ≡ m) × (all ≡ guests)
Visiting m guests (v ∷ visits) after all =
    let next = (behind (deed v.1) v.0).machine in
    Comes m guests v.0 v.1 × Visiting next (guests_behind m next guests v.1) visits after all

-- no call of the guest at a place
abbrev pub IsNotOf : ℕ → Visit → Type 0
IsNotOf place (Call other c) = other ≡ place → ⊥
IsNotOf place (Load d imports) = Unit {0}

-- all guests are apart at the end, those that were loaded too; and each of the first ones that was not called is kept
pub record AllStayApart (m after : Machine) (guests all : List ℕ) (visits : List (World × Visit)) : Type 0 where
  pub apart : GuestsAreApart after all
  pub kept :
      (place guest : ℕ) → slice_get guests place ≡ Some guest → Each visits (λ v. IsNotOf place v.1)
      → KeepsGuest m after guest

-- so it is with guests that are apart at the beginning
abbrev pub VisitsKeepGuests : Type 0
VisitsKeepGuests =
    (m after : Machine) (guests all : List ℕ) (visits : List (World × Visit)) → Visiting m guests visits after all
    → GuestsAreApart m guests → AllStayApart m after guests all visits
