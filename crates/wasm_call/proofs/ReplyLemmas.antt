-- The reply of each kind of row.
use Rattle.std.proofs.Common.{◌≡◌, ℕ, ◌+◌, ◌≤◌, Bool, true, false, List, [], ◌∷◌, ◌++◌, length, Option, Some, None, refl, ap, sym, ◌∙◌, subst, arith}
use Rattle.std.specs.Prelude.{option_map, ⊤, Result, Ok, Err, OnOk, OnErr, IfOk, IfErr, IsOk, IsErr}
use Rattle.std.specs.List.{list_all}
use Rattle.wasm_types.specs.declared.faults.OutOfMemory.{OutOfMemory as NoMemory}
use Rattle.wasm_values.specs.declared.refusals.Refusal.{Refusal}
use Rattle.wasm_types.specs.FunctionParts.{val_is_of}
use Rattle.wasm_values.specs.Handles.{func_of, global_of, tag_of}
use Rattle.wasm_objects.specs.Globals.{global}
use Rattle.spec_machine.specs.Values.{owns_extern, owns_val, val_fits, raw_val}
use Rattle.wasm_types.specs.GlobalTypes.{GlobalParts}
use Rattle.wasm_types.specs.Signatures.{Signature, is_of}
use Rattle.wasm_values.specs.declared.externals.Extern.{Extern}
use Rattle.wasm_values.specs.declared.handles.Global.{Global as Handle}
use Rattle.wasm_values.specs.declared.refusals.Refusal.TheVariants.{NoReply, WrongStore, WrongEngine, TypeMismatch, OutOfMemory}
use Rattle.wasm_values.specs.declared.values.Val.{Val}
use Rattle.spec_machine.specs.Commands.{Row, Refuse, Act, named, reads, changes, makes}
use Rattle.spec_machine.specs.GlobalCalls.{global_new, tag_new}
use Rattle.spec_machine.specs.Machine.{Machine, host}
use Rattle.spec_machine.specs.Steps.{◌>>=◌, unless}
use Rattle.spec_machine.specs.ValueCalls.{func_new, val_matches_ty}
use Rattle.spec_machine.specs.declared.reply.Reply.{Reply}
use Rattle.spec_machine.specs.declared.reply.Reply.TheVariants.{Done, Refused}
use Rattle.store_state.specs.Calls.{cause, Changes, Makes}
use Rattle.wasm_store.specs.Stores.{StoreParts, KeepsRest}
use Rattle.wasm_call.specs.Alone.{AnsweredWithin, PerformedWithin, ShortWithin}
use Rattle.wasm_call.specs.Outside.{Growths}
use Rattle.wasm_call.proofs.Rows.{gave, refuse_leads, act_leads, act_due}

-- a refusal changes nothing
pub refused_row : {T : Type 0} (growths : Growths T) (limit : ℕ) (row : Row) (why : Refusal) (old : StoreParts T) →
    row ≡ Refuse why → old.turns ≡ 0 → AnsweredWithin growths limit row old (Refused why) old
refused_row {T} growths limit row why old e fresh =
    let P : Row → Type 0 = λ r. AnsweredWithin growths limit r old (Refused why) old in
    subst P (sym e) (gave growths limit (Refuse why) (Refused why) old old
    (refuse_leads growths limit old old why fresh refl refl))

-- an act
pub acted_row : {T : Type 0} (growths : Growths T) (limit : ℕ) (row : Row) (after : Machine) (reply : Reply)
    (old new : StoreParts T) → row ≡ Act after reply → 1 ≤ limit → new.turns ≡ 1 →
    new.machine ≡ after → new.host_data ≡ old.host_data → AnsweredWithin growths limit row old reply new
acted_row {T} growths limit row after reply old new e h one same keeps =
    let P : Row → Type 0 = λ r. AnsweredWithin growths limit r old reply new in
    subst P (sym e) (gave growths limit (Act after reply) reply old new
    (act_leads growths limit old new after reply h one same keeps))

-- an act for which memory ran out
pub short_row : {T : Type 0} (growths : Growths T) (limit : ℕ) (row : Row) (after : Machine) (reply : Reply)
    (old : StoreParts T) → row ≡ Act after reply → old.turns ≡ 0 → 1 ≤ limit → ShortWithin growths limit row old old
short_row {T} growths limit row after reply old e fresh some =
    let P : Row → Type 0 = λ r. ShortWithin growths limit r old old in
    subst P (sym e) (record {
      led = act_due growths old.turns old old after reply fresh fresh refl refl;
      unchanged = refl;
      questions = fresh;
      within = omega (arith, fresh, some);
    })

-- a name that stands for nothing of the kind, and one that does
pub unnamed : {T A : Type 0} (growths : Growths T) (limit : ℕ) (o : Option A) (go : A → Row) (old : StoreParts T) → None ≡ o →
    old.turns ≡ 0 → AnsweredWithin growths limit (named o go) old (Refused NoReply) old
unnamed growths limit o go old e fresh = refused_row growths limit (named o go) NoReply old (ap (λ x. named x go) (sym e)) fresh

-- the same of what was found as another thing
pub mapped_none : {A B : Type 0} (f : A → B) (o : Option A) (due : Option B) → o ≡ None → option_map f o ≡ due →
    None ≡ due
mapped_none f o due e h = ap (option_map f) (sym e) ∙ h

pub mapped_some : {A B : Type 0} (f : A → B) (o : Option A) (a : A) (due : Option B) → o ≡ Some a →
    option_map f o ≡ due → Some (f a) ≡ due
mapped_some f o a due e h = ap (option_map f) (sym e) ∙ h

pub named_answered : {T A : Type 0} (growths : Growths T) (limit : ℕ) (o : Option A) (a : A) (go : A → Row)
    (old new : StoreParts T) (reply : Reply) → Some a ≡ o → AnsweredWithin growths limit (go a) old reply new →
    AnsweredWithin growths limit (named o go) old reply new
named_answered {T} {A} growths limit o a go old new reply e h =
    let P : Option A → Type 0 = λ x. AnsweredWithin growths limit (named x go) old reply new in subst P e h

pub named_short : {T A : Type 0} (growths : Growths T) (limit : ℕ) (o : Option A) (a : A) (go : A → Row)
    (old new : StoreParts T) → Some a ≡ o → ShortWithin growths limit (go a) old new → ShortWithin growths limit (named o go) old new
named_short {T} {A} growths limit o a go old new e h =
    let P : Option A → Type 0 = λ x. ShortWithin growths limit (named x go) old new in subst P e h

pub named_performed : {T A : Type 0} (growths : Growths T) (limit : ℕ) (o : Option A) (a : A) (go : A → Row)
    (result : Result Reply NoMemory) (old new : StoreParts T) → Some a ≡ o → PerformedWithin growths limit (go a) old result new →
    PerformedWithin growths limit (named o go) old result new
named_performed {T} {A} growths limit o a go result old new e h =
    let P : Option A → Type 0 = λ x. PerformedWithin growths limit (named x go) old result new in subst P e h

-- a call that changes the store, or is refused
pub change_answered : {T : Type 0} (growths : Growths T) (limit : ℕ) (due : Result Machine Refusal) (answer : Result ⊤ Refusal)
    (old mid new : StoreParts T) (reply : Reply) → Changes due old.machine answer mid.machine → KeepsRest old mid →
    old.turns ≡ 0 → 1 ≤ limit → OnOk answer ((reply ≡ Done) × (new ≡ record mid { turns = 1 })) →
    IfErr answer (λ why. (reply ≡ Refused why) × (new ≡ mid)) → AnsweredWithin growths limit (changes due) old reply new
change_answered {T} growths limit due (Ok _) old mid new reply change rest fresh some done refused =
    let P : Reply → Type 0 = λ r. AnsweredWithin growths limit (changes due) old r new in
    let e = ap (λ (s : StoreParts T). s.machine) done.1 in
    subst P (sym done.0) (acted_row growths limit (changes due) mid.machine Done old new (ap changes change) some
    (ap (λ (s : StoreParts T). s.turns) done.1) e
    (ap (λ (s : StoreParts T). s.host_data) done.1 ∙ ap (λ (s : StoreParts T). s.host_data) rest))
change_answered {T} growths limit due (Err why) old mid new reply change rest fresh some done refused =
    let P : Reply → Type 0 = λ r. AnsweredWithin growths limit (changes due) old r new in
    let same : mid ≡ old = rest ∙ ap (λ (m : Machine). record old { machine = m }) change.1 in
    let Q : StoreParts T → Type 0 = λ s. AnsweredWithin growths limit (changes due) old reply s in
    let R : StoreParts T → Type 0 = λ s. AnsweredWithin growths limit (changes due) old (Refused why) s in
    subst P (sym refused.0) (subst R (sym (refused.1 ∙ same))
    (refused_row growths limit (changes due) why old (ap changes change.0) fresh))

-- a call that reads
pub read_answered : {T A : Type 0} (growths : Growths T) (limit : ℕ) (say : A → Reply) (due : Result A Refusal) (a : A)
    (reply : Reply) (old new : StoreParts T) → Ok a ≡ due → reply ≡ say a → 1 ≤ limit →
    old.turns ≡ 0 → new ≡ record old { turns = old.turns + 1 } → AnsweredWithin growths limit (reads old.machine say due) old
    reply new
read_answered {T} growths limit say due a reply old new e gave some fresh done =
    let P : Reply → Type 0 = λ r. AnsweredWithin growths limit (reads old.machine say due) old r new in
    let one = ap (λ (s : StoreParts T). s.turns) done in
    subst P (sym gave) (acted_row growths limit (reads old.machine say due) old.machine (say a) old new
    (ap (reads old.machine say) (sym e)) some
    (omega (arith, one, fresh)) (ap (λ (s : StoreParts T). s.machine) done)
    (ap (λ (s : StoreParts T). s.host_data) done))

pub read_refused : {T A : Type 0} (growths : Growths T) (limit : ℕ) (say : A → Reply) (due : Result A Refusal) (why : Refusal)
    (old : StoreParts T) → Err why ≡ due → old.turns ≡ 0 → AnsweredWithin growths limit (reads old.machine say due) old
    (Refused why) old
read_refused growths limit say due why old e fresh = refused_row growths limit (reads old.machine say due) why old
    (ap (reads old.machine say) (sym e)) fresh

pub read_short : {T A : Type 0} (growths : Growths T) (limit : ℕ) (say : A → Reply) (due : Result A Refusal)
    (old : StoreParts T) → IsOk due → old.turns ≡ 0 → 1 ≤ limit →
    ShortWithin growths limit (reads old.machine say due) old old
read_short growths limit say (Ok a) old e fresh some =
    short_row growths limit (reads old.machine say (Ok a)) old.machine (say a) old refl fresh some
read_short growths limit say (Err why) old e fresh some = cc

pub is_ok : {A : Type 0} (due : Result A Refusal) (a : A) → Ok a ≡ due → IsOk due
is_ok due a e = let P : Result _ Refusal → Type 0 = λ r. IsOk r in subst P e refl

-- memory ran out
pub performed_short : {T : Type 0} (growths : Growths T) (limit : ℕ) (row : Row) (result : Result Reply NoMemory)
    (old new : StoreParts T) → IsErr result → ShortWithin growths limit row old new → PerformedWithin growths limit row old result new
performed_short growths limit row (Ok reply) old new e h = cc
performed_short growths limit row (Err none) old new e h = h

-- no condition of a call is refused for want of memory
abbrev pub Honest : {A : Type 0} → Result A Refusal → Type 0
Honest r = IfErr r (λ why. ¬ (why ≡ OutOfMemory))

honest_one : {A : Type 0} (a : Bool) (made : A) → Honest (unless WrongEngine a >>= (λ (_ : ⊤). Ok made))
honest_one true made = tt
honest_one false made = λ e. cc

honest_two : {A : Type 0} (a b : Bool) (made : A) →
    Honest (unless WrongStore a >>= (λ (_ : ⊤). unless WrongEngine b >>= (λ (_ : ⊤). Ok made)))
honest_two true b made = honest_one b made
honest_two false b made = λ e. cc

honest_last : {A : Type 0} (a : Bool) (made : A) → Honest (unless TypeMismatch a >>= (λ (_ : ⊤). Ok made))
honest_last true made = tt
honest_last false made = λ e. cc

honest_three : {A : Type 0} (a b c : Bool) (made : A) →
    Honest (unless WrongStore a >>=
    (λ (_ : ⊤). unless WrongEngine b >>= (λ (_ : ⊤). unless TypeMismatch c >>= (λ (_ : ⊤). Ok made))))
honest_three true true c made = honest_last c made
honest_three true false c made = λ e. cc
honest_three false b c made = λ e. cc

abbrev GlobalMade : Machine → GlobalParts → Val → Machine × Handle
GlobalMade m ty val = (
  record m { globals = m.globals ++ global ty (raw_val val) ∷ [] },
  global_of m.id (length m.globals),
)

pub honest_global : (m : Machine) (ty : GlobalParts) (val : Val) → Honest (global_new m ty val)
honest_global m ty val = honest_three (owns_val m val) (val_is_of m.engine.number ty.content)
    (val_fits m val ty.content) (GlobalMade m ty val)

pub honest_tag : (m : Machine) (ty : Signature) → Honest (tag_new m ty)
honest_tag m ty = honest_one (is_of m.engine.number ty)
    (record m { tags = m.tags ++ ty ∷ [] }, tag_of m.id (length m.tags))

pub honest_func : (m : Machine) (ty : Signature) (body : ℕ) (stored : List Extern) → Honest (func_new m ty body stored)
honest_func m ty body stored = honest_two (list_all (owns_extern m) stored) (is_of m.engine.number ty)
    (record m { functions = m.functions ++ host ty body stored ∷ [] }, func_of m.id (length m.functions))

-- a call that makes an object
pub made_done : {T A : Type 0} (growths : Growths T) (limit : ℕ) (say : A → Reply) (due : Result (Machine × A) Refusal)
    (handle : A) (old mid new : StoreParts T) → Makes due old.machine (Ok handle) mid.machine → KeepsRest old mid →
    old.turns ≡ 0 → 1 ≤ limit → new ≡ record mid { turns = mid.turns + 1 } →
    AnsweredWithin growths limit (makes say due) old (say handle) new
made_done {T} growths limit say due handle old mid new made rest fresh some counted =
    let turns = ap (λ (s : StoreParts T). s.turns) counted ∙ ap (λ (s : StoreParts T). s.turns + 1) rest in
    acted_row growths limit (makes say due) mid.machine (say handle) old new (ap (makes say) made) some
    (omega (arith, turns, fresh))
    (ap (λ (s : StoreParts T). s.machine) counted)
    (ap (λ (s : StoreParts T). s.host_data) counted ∙ ap (λ (s : StoreParts T). s.host_data) rest)

unmade : {T : Type 0} (old mid : StoreParts T) → KeepsRest old mid → mid.machine ≡ old.machine → mid ≡ old
unmade old mid rest same = rest ∙ ap (λ (m : Machine). record old { machine = m }) same

pub made_undone : {T A : Type 0} (growths : Growths T) (limit : ℕ) (say : A → Reply) (due : Result (Machine × A) Refusal)
    (why : Refusal) (result : Result Reply NoMemory) (old mid : StoreParts T) → Honest due →
    Makes due old.machine (Err why) mid.machine → KeepsRest old mid → old.turns ≡ 0 → 1 ≤ limit →
    OnErr result (why ≡ OutOfMemory) → IfOk result (λ reply. (reply ≡ Refused why) × ¬ (why ≡ OutOfMemory)) →
    PerformedWithin growths limit (makes say due) old result mid
made_undone growths limit say (Ok made) why (Ok reply) old mid honest m rest fresh some short refused = absurd (refused.1 m.0)
made_undone {T} growths limit say (Err cause) why (Ok reply) old mid honest m rest fresh some short refused =
    let P : StoreParts T → Type 0 = λ s. AnsweredWithin growths limit (makes say (Err cause)) old reply s in
    let Q : Reply → Type 0 = λ r. AnsweredWithin growths limit (makes say (Err cause)) old r old in
    subst P (sym (unmade old mid rest m.1))
    (subst Q (sym (refused.0 ∙ ap Refused m.0)) (refused_row growths limit (makes say (Err cause)) cause old refl fresh))
made_undone {T} growths limit say (Ok made) why (Err none) old mid honest m rest fresh some short refused =
    let P : StoreParts T → Type 0 = λ s. ShortWithin growths limit (makes say (Ok made)) old s in
    subst P (sym (unmade old mid rest m.1)) (short_row growths limit (makes say (Ok made)) made.0 (say made.1) old refl fresh some)
made_undone growths limit say (Err cause) why (Err none) old mid honest m rest fresh some short refused =
    absurd (honest (sym m.0 ∙ short))

-- a new global, by what is answered of its value
fitting : {A : Type 0} → A → Result Bool Refusal → Result A Refusal
fitting made (Ok true) = Ok made
fitting made (Ok false) = Err TypeMismatch
fitting made (Err why) = Err why

same_checks : {A : Type 0} (owned of_engine fits : Bool) (made : A) →
    (unless WrongStore owned >>=
    (λ (_ : ⊤). unless WrongEngine of_engine >>= (λ (_ : ⊤). unless TypeMismatch fits >>= (λ (_ : ⊤). Ok made)))) ≡
    fitting made (unless WrongStore owned >>= (λ (_ : ⊤). unless WrongEngine of_engine >>= (λ (_ : ⊤). Ok fits)))
unfolding fitting
same_checks true true true made = refl
same_checks true true false made = refl
same_checks true false fits made = refl
same_checks false of_engine fits made = refl

global_fits : (m : Machine) (ty : GlobalParts) (val : Val) → global_new m ty val ≡ fitting (GlobalMade m ty val)
    (val_matches_ty m val ty.content)
global_fits m ty val = same_checks (owns_val m val) (val_is_of m.engine.number ty.content) (val_fits m val ty.content)
    (GlobalMade m ty val)

pub global_short : {T : Type 0} (growths : Growths T) (limit : ℕ) (say : Handle → Reply) (ty : GlobalParts) (val : Val)
    (old : StoreParts T) → Ok true ≡ val_matches_ty old.machine val ty.content → old.turns ≡ 0 → 1 ≤ limit →
    ShortWithin growths limit (makes say (global_new old.machine ty val)) old old
unfolding fitting
global_short growths limit say ty val old e fresh some =
    let made = GlobalMade old.machine ty val in
    short_row growths limit (makes say (global_new old.machine ty val)) made.0 (say made.1) old
    (ap (makes say) (global_fits old.machine ty val ∙ ap (fitting made) (sym e))) fresh some

pub global_unfit : {T : Type 0} (growths : Growths T) (limit : ℕ) (say : Handle → Reply) (ty : GlobalParts) (val : Val)
    (old : StoreParts T) → Ok false ≡ val_matches_ty old.machine val ty.content → old.turns ≡ 0 →
    AnsweredWithin growths limit (makes say (global_new old.machine ty val)) old (Refused TypeMismatch) old
unfolding fitting
global_unfit growths limit say ty val old e fresh =
    let made = GlobalMade old.machine ty val in
    refused_row growths limit (makes say (global_new old.machine ty val)) TypeMismatch old
    (ap (makes say) (global_fits old.machine ty val ∙ ap (fitting made) (sym e))) fresh

pub global_refused : {T : Type 0} (growths : Growths T) (limit : ℕ) (say : Handle → Reply) (ty : GlobalParts) (val : Val)
    (why : Refusal) (old : StoreParts T) → Err why ≡ val_matches_ty old.machine val ty.content → old.turns ≡ 0 →
    AnsweredWithin growths limit (makes say (global_new old.machine ty val)) old (Refused why) old
unfolding fitting
global_refused growths limit say ty val why old e fresh =
    let made = GlobalMade old.machine ty val in
    refused_row growths limit (makes say (global_new old.machine ty val)) why old
    (ap (makes say) (global_fits old.machine ty val ∙ ap (fitting made) (sym e))) fresh

-- the reply of what was performed
pub answered_of : {T : Type 0} (growths : Growths T) (limit : ℕ) (row : Row) (result : Result Reply NoMemory)
    (old new : StoreParts T) → PerformedWithin growths limit row old result new →
    IfOk result (λ reply. AnsweredWithin growths limit row old reply new)
answered_of growths limit row (Ok reply) old new p = p
answered_of growths limit row (Err none) old new p = tt

pub unmade_same : {T A : Type 0} (due : Result (Machine × A) Refusal) (why : Refusal) (old mid : StoreParts T) →
    Makes due old.machine (Err why) mid.machine → KeepsRest old mid → mid ≡ old
unmade_same due why old mid m rest = unmade old mid rest m.1
