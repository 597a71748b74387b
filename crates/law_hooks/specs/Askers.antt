-- Whom a store asks: no hook and no deadline behaviour that it does not have, and nobody behind a step of the host that had
-- no memory. This project's own.
use Rattle.std.specs.Prelude.{◌≡◌, Bool, true, List, Err}
use Rattle.wasm_types.specs.Each.{Each}
use Rattle.spec_machine.specs.Machine.{Machine}
use Rattle.spec_execution.specs.Askings.{Question, Passing, Behaving, Stepping, Answer, Stepped, Asking, is_answer}
use Rattle.spec_execution.specs.Commands.{Finish, Replied, Early}
use Rattle.spec_execution.specs.Outcomes.{World, Stopped}
use Rattle.law_hooks.specs.HookLaws.{HeardSince, AtEnd, OfCalls, OfInstantiations, OfCommands}

-- whether a store has a hook, and a deadline behaviour
pub record Flags : Type 0 where
  pub hooked : Bool
  pub behaving : Bool

abbrev pub flags_of : Machine → Flags
flags_of m = record { hooked = m.is_hooked; behaving = m.is_behaving }

-- a hook is told only where one is set, and a deadline behaviour is asked only where one is; a step of the host that had no
-- memory is not among what was heard by an end; and each answer is of the question's kind
abbrev pub MayHear : Flags → Question → Answer → Type 0
MayHear flags (Passing event) a = flags.hooked ≡ true
MayHear flags Behaving a = flags.behaving ≡ true
MayHear flags (Stepping body state event view) (Stepped after (Err no_memory)) = ⊥
MayHear flags q a = is_answer q a ≡ true

abbrev pub AreHeard : Flags → List Asking → Type 0
AreHeard flags heard = Each heard (λ (asking : Asking). MayHear flags asking.0 asking.1)

-- of what a command heard that came to a reply, or was stopped at its last turn
abbrev pub AtFinish : (List Asking → Type 0) → World → Finish → Type 0
AtFinish Says w (Replied answer v) = HeardSince w v Says
AtFinish Says w (Early Stopped v) = HeardSince w v Says
AtFinish Says w (Early early v) = Unit {0}

-- and whether its store has a hook and a deadline behaviour stays
abbrev pub KeepsFlags : World → Finish → Type 0
KeepsFlags w (Replied answer v) = flags_of v.machine ≡ flags_of w.machine
KeepsFlags w (Early Stopped v) = flags_of v.machine ≡ flags_of w.machine
KeepsFlags w (Early early v) = Unit {0}

-- of each call and each instantiation that ends by results, a trap or a refusal, and of each command that has a reply or was
-- stopped at its last turn
pub record OnlyWhatIsSetIsAsked : Type 0 where
  pub calls : OfCalls (λ w o. AtEnd (AreHeard (flags_of w.machine)) w o)
  pub instantiations : OfInstantiations (λ w o. AtEnd (AreHeard (flags_of w.machine)) w o)
  pub commands : OfCommands (λ w o. AtFinish (AreHeard (flags_of w.machine)) w o)
  pub flags : OfCommands KeepsFlags
