-- The conditions of calls and commands refuse by no cause outside of the store: one lemma for each way to go on, and then a
-- search.
use Rattle.std.proofs.Common.{◌≡◌, ℕ, Bool, true, false, List, Option, Some, None}
use Rattle.std.specs.Prelude.{Result, Ok, Err, ok_or, if◌then◌else◌}
use Rattle.wasm_syntax.specs.declared.declarations.ModuleDecl.{ModuleDecl}
use Rattle.wasm_values.specs.declared.externals.Extern.{Extern}
use Rattle.wasm_values.specs.declared.handles.Func.{Func}
use Rattle.wasm_values.specs.declared.references.Ref.{Ref}
use Rattle.wasm_values.specs.declared.refusals.Refusal.{Refusal}
use Rattle.wasm_values.specs.declared.refusals.Refusal.TheVariants.{ResourceLimit, GrowFailed, LimiterFault, HookFault, EpochFault, NoHostBody, HostFault, HostResultType}
use Rattle.wasm_values.specs.declared.values.Val.{Val}
use Rattle.spec_machine.specs.Commands.{Row, Refuse, Act, ActAt, Grow, Instantiate, reads, changes, makes, grows, invokes, named, one_value, element_reply, operation, row}
use Rattle.spec_machine.specs.FuelCalls.{move_deadline}
use Rattle.spec_machine.specs.FunctionCalls.{Called, called}
use Rattle.spec_machine.specs.Growth.{Plan}
use Rattle.spec_machine.specs.Machine.{Machine}
use Rattle.spec_machine.specs.Names.{Scope}
use Rattle.spec_machine.specs.Steps.{◌>>=◌, unless}
use Rattle.spec_machine.specs.declared.command.Command.{Command}
use Rattle.spec_machine.specs.declared.command.Command.TheVariants as command
use Rattle.spec_machine.specs.declared.operation.Op.{Op}
use Rattle.spec_machine.specs.declared.operation.Op.TheVariants.{SetEpochDeadline}
use Rattle.spec_machine.specs.declared.reply.Reply.{Reply}
use Rattle.spec_machine.specs.declared.reply.Reply.TheVariants as reply
use Rattle.spec_execution.specs.Askings.{Asking}
use Rattle.spec_execution.specs.Instantiation.{no_unmatched_import, imports_fit}
use Rattle.law_causes.specs.Causes.{Reasons, HasCause, MakingRefuses, making_reasons, RowRefuses, row_reasons}
use Rattle.law_causes.proofs.CausesHeard.{Gives}

-- a refusal that nothing outside gives, so that there is nothing to say of what was heard
abbrev pub IsOwn : Refusal → Type 0
IsOwn GrowFailed = ⊥
IsOwn LimiterFault = ⊥
IsOwn HookFault = ⊥
IsOwn EpochFault = ⊥
IsOwn HostFault = ⊥
IsOwn why = Unit {0}

pub own_cause : (reason : Reasons) (why : Refusal) (heard : List Asking) → IsOwn why → reason.own why →
    HasCause reason why heard
own_cause reason GrowFailed heard own is = absurd own
own_cause reason LimiterFault heard own is = absurd own
own_cause reason HookFault heard own is = absurd own
own_cause reason EpochFault heard own is = absurd own
own_cause reason HostFault heard own is = absurd own
own_cause reason why heard own is = is

-- of a command it may be any such
pub own_row_refuses : (m : Machine) (r : Row) (why : Refusal) → IsOwn why → RowRefuses m r why
own_row_refuses m r GrowFailed own = absurd own
own_row_refuses m r why own = tt

-- of an instantiation it is the condition of its imports that does not hold
pub unfit_refuses : (m : Machine) (d : ModuleDecl) (imports : List Extern) (why : Refusal) → IsOwn why →
    imports_fit m d imports ≡ Err why → MakingRefuses m d imports why
unfit_refuses m d imports GrowFailed own e = absurd own
unfit_refuses m d imports (ResourceLimit which) own e = tt
unfit_refuses m d imports NoHostBody own e = tt
unfit_refuses m d imports HostResultType own e = tt
unfit_refuses m d imports why own e = e

-- which a command that instantiates may be refused by
pub row_makes : (m : Machine) (d : ModuleDecl) (imports : List Extern) (reason : Reasons) →
    Gives (row_reasons m (Instantiate d imports)) reason → Gives (making_reasons m d imports) reason
row_makes m d imports reason rows = record { own = refuses; grows = rows.grows } where
  refuses : (why : Refusal) → MakingRefuses m d imports why → reason.own why
  refuses GrowFailed is = rows.own GrowFailed is
  refuses why is = rows.own why tt

-- ---- conditions

abbrev RefusesOwn : {A : Type 0} → Result A Refusal → Type 0
RefusesOwn (Ok a) = Unit {0}
RefusesOwn (Err why) = IsOwn why

pub record IsCondition {A : Type 0} (r : Result A Refusal) : Type 0 where
  pub by : RefusesOwn r

holds : {A : Type 0} (a : A) → IsCondition (Ok a)
holds a = record { by = tt }

unless_own : (why : Refusal) (b : Bool) → IsOwn why → IsCondition (unless why b)
unless_own why true own = record { by = tt }
unless_own why false own = record { by = own }

or_own : {A : Type 0} (o : Option A) (why : Refusal) → IsOwn why → IsCondition (ok_or o why)
or_own (Some a) why own = record { by = tt }
or_own None why own = record { by = own }

refuses_own : {A : Type 0} (why : Refusal) → IsOwn why → IsCondition {A = A} (Err why)
refuses_own why own = record { by = own }

either_own : {A : Type 0} (b : Bool) (x y : Result A Refusal) → IsCondition x → IsCondition y →
    IsCondition (if b then x else y)
either_own true x y h j = h
either_own false x y h j = j

then_own : {A C : Type 0} (r : Result A Refusal) (go : A → Result C Refusal) → IsCondition r →
    ((a : A) → IsCondition (go a)) → IsCondition (r >>= go)
then_own (Ok a) go h j = j a
then_own (Err why) go h j = record { by = h.by }

-- ---- replies

abbrev pub RepliesOwn : Reply → Type 0
RepliesOwn (reply.Refused why) = IsOwn why
RepliesOwn answer = Unit {0}

pub record IsOwnReply (answer : Reply) : Type 0 where
  pub by : RepliesOwn answer

done_own : IsOwnReply reply.Done
done_own = record { by = tt }

number_own : (n : ℕ) → IsOwnReply (reply.Number n)
number_own n = record { by = tt }

bytes_own : (bytes : List ℕ) → IsOwnReply (reply.Bytes bytes)
bytes_own bytes = record { by = tt }

object_own : (o : Extern) → IsOwnReply (reply.Object o)
object_own o = record { by = tt }

value_own : (val : Val) → IsOwnReply (one_value val)
value_own val = record { by = tt }

element_own : (o : Option Ref) → IsOwnReply (element_reply o)
element_own None = record { by = tt }
element_own (Some r) = record { by = tt }

-- ---- rows

abbrev pub RefusesOwnRow : Row → Type 0
RefusesOwnRow (Refuse why) = IsOwn why
RefusesOwnRow (Act after answer) = IsOwnReply answer
RefusesOwnRow (ActAt after answer) = IsOwnReply answer
RefusesOwnRow (Grow p) = IsOwnReply p.gives
RefusesOwnRow row = Unit {0}

pub record IsOwnRow (r : Row) : Type 0 where
  pub by : RefusesOwnRow r

reads_own : {A : Type 0} (m : Machine) (say : A → Reply) (r : Result A Refusal) → ((a : A) → IsOwnReply (say a)) →
    IsCondition r → IsOwnRow (reads m say r)
reads_own m say (Ok a) j h = record { by = j a }
reads_own m say (Err why) j h = record { by = h.by }

changes_own : (r : Result Machine Refusal) → IsCondition r → IsOwnRow (changes r)
changes_own (Ok after) h = record { by = done_own }
changes_own (Err why) h = record { by = h.by }

makes_own : {A : Type 0} (say : A → Reply) (r : Result (Machine × A) Refusal) → ((a : A) → IsOwnReply (say a)) →
    IsCondition r → IsOwnRow (makes say r)
makes_own say (Ok made) j h = record { by = j made.1 }
makes_own say (Err why) j h = record { by = h.by }

grows_own : {A : Type 0} (say : A → Reply) (r : Result (Plan A) Refusal) → ((a : A) → IsOwnReply (say a)) →
    IsCondition r → IsOwnRow (grows say r)
grows_own say (Ok p) j h = record { by = j p.gives }
grows_own say (Err why) j h = record { by = h.by }

invokes_own : (r : Result Called Refusal) → IsCondition r → IsOwnRow (invokes r)
invokes_own (Ok c) h = record { by = tt }
invokes_own (Err why) h = record { by = h.by }

named_own : {A : Type 0} (o : Option A) (go : A → Row) → ((a : A) → IsOwnRow (go a)) → IsOwnRow (named o go)
named_own None go j = record { by = tt }
named_own (Some a) go j = j a

at_reading : (after : ℕ → Machine) → IsOwnRow (ActAt after reply.Done)
at_reading after = record { by = done_own }

instantiates_own : (d : ModuleDecl) (imports : List Extern) → IsOwnRow (Instantiate d imports)
instantiates_own d imports = record { by = tt }

pub operation_own : (m : Machine) (s : Scope) (op : Op) → IsOwnRow (operation m s op)
operation_own m s (SetEpochDeadline ticks) = at_reading (move_deadline m ticks)
operation_own m s _ =
    search (
      named_own,
      reads_own,
      changes_own,
      makes_own,
      grows_own,
      invokes_own,
      then_own,
      unless_own,
      or_own,
      either_own,
      refuses_own,
      holds,
      number_own,
      bytes_own,
      object_own,
      value_own,
      element_own,
    ) depth 30

pub call_own : (m : Machine) (f : Func) (args : List Val) (wanted : Option ℕ) → IsOwnRow (invokes (called m f args wanted))
call_own m f args wanted = search (invokes_own, then_own, unless_own, or_own, either_own, refuses_own, holds) depth 30

pub row_own : (modules : List ModuleDecl) (m : Machine) (s : Scope) (c : Command) → IsOwnRow (row modules m s c)
row_own modules m s (command.Op op) = operation_own m s op
row_own modules m s _ =
    search (named_own, makes_own, instantiates_own, then_own, unless_own, holds, object_own) depth 30

-- ---- the checks of an instantiation

place_own : (o : Option ℕ) → IsCondition (no_unmatched_import o)
place_own None = record { by = tt }
place_own (Some n) = record { by = tt }

pub imports_own : (m : Machine) (d : ModuleDecl) (imports : List Extern) → IsCondition (imports_fit m d imports)
imports_own m d imports = search (then_own, unless_own, place_own) depth 30
