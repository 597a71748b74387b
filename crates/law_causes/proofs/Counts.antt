-- What was heard in a chain of askings raised the counts of what is outside: one that holds a failure raised its count.
use Rattle.std.proofs.Common.{eq-or-lt_of_le, ◌≡◌, ◌⊎◌, inl, inr, ℕ, ◌≤◌, ◌<◌, arith, List, [], ◌∷◌, Bool, true, false, subst, sym, ◌∙◌}
use Rattle.std.specs.Prelude.{Ok, Err}
use Rattle.std.specs.List.{list_any}
use Rattle.std.proofs.lemmas.Bool.{or_cases}
use Rattle.wasm_meter.specs.Counting.{Rose, NoneFell}
use Rattle.wasm_values.specs.declared.refusals.Refusal.{Refusal}
use Rattle.wasm_values.specs.declared.refusals.Refusal.TheVariants.{GrowFailed, LimiterFault, HookFault, EpochFault, HostFault}
use Rattle.spec_execution.specs.Askings.{Question, Growing, Having, Passing, Reading, Behaving, Stepping, Answer, Grown, Has, Passed, Read, Behaved, Stepped, Asking, answers_in, Outside, Relations, Moves, Chain}
use Rattle.spec_execution.specs.declared.answer.Answer.TheVariants.{Fail}
use Rattle.law_causes.specs.Causes.{Reasons, is_denial, is_limiter_fault, is_hook_fault, is_reading_fault, is_behaviour_fault, is_host_fault, Given, HasCause}
use Rattle.law_causes.specs.Tallies.{IsCounted, RefusedByCounts}

-- ---- counts that rise

-- a count rose on the way of what falls never
rose_behind : (a b c : ℕ) → a ≤ b → Rose a b → b ≤ c → Rose a c
rose_behind a b c keeps (inl less) le = inl (omega (arith, less, le))
rose_behind a b c keeps (inr last) le = by_order (eq-or-lt_of_le le) where
  by_order : (b ≡ c) ⊎ (b < c) → Rose a c
  by_order (inl same) = inr (sym same ∙ last)
  by_order (inr less) = inl (omega (arith, keeps, less))

rose_before : (a b c : ℕ) → a ≤ b → Rose b c → Rose a c
rose_before a b c le (inl less) = inl (omega (arith, less, le))
rose_before a b c le (inr last) = inr last

-- one count, which no asking lowers, and which an answer of a kind raises
module _ {W : Type 0} (moves : W → Question → Answer → W → Type 0) (count : W → ℕ) (is : Answer → Bool)
    (keeps : (old : W) (q : Question) (a : Answer) (new : W) → moves old q a new → count old ≤ count new)
    (rises : (old : W) (q : Question) (a : Answer) (new : W) → moves old q a new → is a ≡ true →
    Rose (count old) (count new)) where
  chain_keeps : (old : W) (heard : List Asking) (new : W) → Chain moves old heard new → count old ≤ count new
  chain_keeps old [] new e = subst (λ (w : W). count old ≤ count w) (sym e) (omega arith)
  chain_keeps old (x ∷ heard) new c =
      let first : count old ≤ count c.0 = keeps old x.0 x.1 c.0 c.1 in
      let rest : count c.0 ≤ count new = chain_keeps c.0 heard new c.2 in
      omega (arith, first, rest)

  rises_first : (old mid new : W) (x : Asking) (heard : List Asking) → moves old x.0 x.1 mid →
      Chain moves mid heard new → (Given is heard → Rose (count mid) (count new)) →
      (is x.1 ≡ true) ⊎ (list_any is (answers_in heard) ≡ true) → Rose (count old) (count new)
  rises_first old mid new x heard m c more (inl here) =
      rose_behind (count old) (count mid) (count new) (keeps old x.0 x.1 mid m) (rises old x.0 x.1 mid m here)
      (chain_keeps mid heard new c)
  rises_first old mid new x heard m c more (inr later) =
      rose_before (count old) (count mid) (count new) (keeps old x.0 x.1 mid m) (more later)

  chain_rises : (old : W) (heard : List Asking) (new : W) → Chain moves old heard new → Given is heard →
      Rose (count old) (count new)
  chain_rises old [] new e given = absurd cc
  chain_rises old (x ∷ heard) new c given =
      rises_first old c.0 new x heard c.1 c.2 (chain_rises c.0 heard new c.2)
      (or_cases (is x.1) (list_any is (answers_in heard)) given)

-- ---- the counts of what is outside

module _ {T H E : Type 0} (r : Relations T H E) (denials limiter_faults hook_faults behaviour_faults : T → ℕ)
    (epoch_faults : E → ℕ) (host_faults : H → ℕ) where
  abbrev AllKeep : T → T → Type 0
  AllKeep s t = NoneFell denials limiter_faults hook_faults behaviour_faults s t

  module _ (counted : IsCounted r denials limiter_faults hook_faults behaviour_faults epoch_faults host_faults) where
    -- no count is lower
    pub record Kept (old new : Outside T H E) : Type 0 where
      data_keep : AllKeep old.host_data new.host_data
      epochs_keep : epoch_faults old.epochs ≤ epoch_faults new.epochs
      host_keeps : host_faults old.host ≤ host_faults new.host

    same_keep : (old new : Outside T H E) → new ≡ old → Kept old new
    same_keep old new e = subst (Kept old) (sym e) (record {
      data_keep = (omega arith, omega arith, omega arith, omega arith);
      epochs_keep = omega arith;
      host_keeps = omega arith;
    })

    data_kept : (old new : Outside T H E) (t : T) → AllKeep old.host_data t → new ≡ record old { host_data = t } →
        Kept old new
    data_kept old new t h e = subst (Kept old) (sym e)
        (record { data_keep = h; epochs_keep = omega arith; host_keeps = omega arith })

    kept : (old : Outside T H E) (q : Question) (a : Answer) (new : Outside T H E) → Moves r old q a new → Kept old new
    kept old (Growing g) (Grown answer) new m =
        data_kept old new m.0 (counted.growths_keep old.host_data m.0 g answer m.1) m.2
    kept old (Having body) (Has answer) new m = same_keep old new m.1
    kept old (Passing event) (Passed answer) new m =
        data_kept old new m.0 (counted.hooks_keep old.host_data m.0 event answer m.1) m.2
    kept old Reading (Read answer) new m = subst (Kept old) (sym m.2) (record {
      data_keep = (omega arith, omega arith, omega arith, omega arith);
      epochs_keep = counted.readings_keep old.epochs m.0 answer m.1;
      host_keeps = omega arith;
    })
    kept old Behaving (Behaved answer) new m =
        data_kept old new m.0 (counted.behaves_keep old.host_data m.0 answer m.1) m.2
    kept old (Stepping body place event view) (Stepped after say) new m =
        let h = counted.steps_keep old.host new.host old.host_data new.host_data body place after event view say m.0 in
        record {
          data_keep = h.1;
          epochs_keep = subst (λ (e : E). epoch_faults old.epochs ≤ epoch_faults e) (sym m.1) (omega arith);
          host_keeps = h.0;
        }
    kept old q a new m = absurd m

    kept_then : (old mid new : Outside T H E) → Kept old mid → Kept mid new → Kept old new
    kept_then old mid new h k = record {
      data_keep = (
        omega (arith, h.data_keep.0, k.data_keep.0),
        omega (arith, h.data_keep.1, k.data_keep.1),
        omega (arith, h.data_keep.2, k.data_keep.2),
        omega (arith, h.data_keep.3, k.data_keep.3),
      );
      epochs_keep = omega (arith, h.epochs_keep, k.epochs_keep);
      host_keeps = omega (arith, h.host_keeps, k.host_keeps);
    }

    pub chain_kept : (old : Outside T H E) (heard : List Asking) (new : Outside T H E) → Chain (Moves r) old heard new →
        Kept old new
    chain_kept old [] new e = same_keep old new e
    chain_kept old (x ∷ heard) new c =
        kept_then old c.0 new (kept old x.0 x.1 c.0 c.1) (chain_kept c.0 heard new c.2)

    -- ---- each failure, and each no

    rises_to : (count : T → ℕ) (old new : Outside T H E) (t : T) → Rose (count old.host_data) (count t) →
        new ≡ record old { host_data = t } → Rose (count old.host_data) (count new.host_data)
    rises_to count old new t h e =
        subst (λ (o : Outside T H E). Rose (count old.host_data) (count o.host_data)) (sym e) h

    denied : (old : Outside T H E) (q : Question) (a : Answer) (new : Outside T H E) → Moves r old q a new →
        is_denial a ≡ true → Rose (denials old.host_data) (denials new.host_data)
    denied old (Growing g) (Grown (Ok false)) new m e =
        rises_to denials old new m.0 (counted.growths_deny old.host_data m.0 g m.1) m.2
    denied old q (Grown (Ok false)) new m e = absurd m
    denied old q a new m e = absurd cc

    limiter_failed : (old : Outside T H E) (q : Question) (a : Answer) (new : Outside T H E) → Moves r old q a new →
        is_limiter_fault a ≡ true → Rose (limiter_faults old.host_data) (limiter_faults new.host_data)
    limiter_failed old (Growing g) (Grown (Err fault)) new m e =
        rises_to limiter_faults old new m.0 (counted.growths_fail old.host_data m.0 g fault m.1) m.2
    limiter_failed old q (Grown (Err fault)) new m e = absurd m
    limiter_failed old q a new m e = absurd cc

    hook_failed : (old : Outside T H E) (q : Question) (a : Answer) (new : Outside T H E) → Moves r old q a new →
        is_hook_fault a ≡ true → Rose (hook_faults old.host_data) (hook_faults new.host_data)
    hook_failed old (Passing event) (Passed (Err fault)) new m e =
        rises_to hook_faults old new m.0 (counted.hooks_fail old.host_data m.0 event fault m.1) m.2
    hook_failed old q (Passed (Err fault)) new m e = absurd m
    hook_failed old q a new m e = absurd cc

    behaviour_failed : (old : Outside T H E) (q : Question) (a : Answer) (new : Outside T H E) → Moves r old q a new →
        is_behaviour_fault a ≡ true → Rose (behaviour_faults old.host_data) (behaviour_faults new.host_data)
    behaviour_failed old Behaving (Behaved (Err fault)) new m e =
        rises_to behaviour_faults old new m.0 (counted.behaves_fail old.host_data m.0 fault m.1) m.2
    behaviour_failed old q (Behaved (Err fault)) new m e = absurd m
    behaviour_failed old q a new m e = absurd cc

    reading_failed : (old : Outside T H E) (q : Question) (a : Answer) (new : Outside T H E) → Moves r old q a new →
        is_reading_fault a ≡ true → Rose (epoch_faults old.epochs) (epoch_faults new.epochs)
    reading_failed old Reading (Read (Err fault)) new m e =
        subst (λ (o : Outside T H E). Rose (epoch_faults old.epochs) (epoch_faults o.epochs)) (sym m.2)
        (counted.readings_fail old.epochs m.0 fault m.1)
    reading_failed old q (Read (Err fault)) new m e = absurd m
    reading_failed old q a new m e = absurd cc

    host_failed : (old : Outside T H E) (q : Question) (a : Answer) (new : Outside T H E) → Moves r old q a new →
        is_host_fault a ≡ true → Rose (host_faults old.host) (host_faults new.host)
    host_failed old (Stepping body place event view) (Stepped after (Ok Fail)) new m e =
        counted.steps_fail old.host new.host old.host_data new.host_data body place after event view m.0
    host_failed old q (Stepped after (Ok Fail)) new m e = absurd m
    host_failed old q a new m e = absurd cc

    -- ---- before and behind

    module _ (old mid new : Outside T H E) (h : Kept old mid) (reason : Type 0) where
      abbrev Refuses : Outside T H E → Outside T H E → Refusal → Type 0
      Refuses o n why =
          RefusedByCounts denials limiter_faults hook_faults behaviour_faults epoch_faults host_faults o n reason why

      pub refused_behind : (why : Refusal) → Refuses mid new why → Refuses old new why
      refused_behind GrowFailed (inl x) = inl (rose_before _ _ _ h.data_keep.0 x)
      refused_behind GrowFailed (inr x) = inr x
      refused_behind LimiterFault x = rose_before _ _ _ h.data_keep.1 x
      refused_behind HookFault x = rose_before _ _ _ h.data_keep.2 x
      refused_behind EpochFault (inl x) = inl (rose_before _ _ _ h.epochs_keep x)
      refused_behind EpochFault (inr x) = inr (rose_before _ _ _ h.data_keep.3 x)
      refused_behind HostFault x = rose_before _ _ _ h.host_keeps x
      refused_behind why x = tt

      pub refused_before : Kept mid new → (why : Refusal) → Refuses old mid why → Refuses old new why
      refused_before k GrowFailed (inl x) = inl (rose_behind _ _ _ h.data_keep.0 x k.data_keep.0)
      refused_before k GrowFailed (inr x) = inr x
      refused_before k LimiterFault x = rose_behind _ _ _ h.data_keep.1 x k.data_keep.1
      refused_before k HookFault x = rose_behind _ _ _ h.data_keep.2 x k.data_keep.2
      refused_before k EpochFault (inl x) = inl (rose_behind _ _ _ h.epochs_keep x k.epochs_keep)
      refused_before k EpochFault (inr x) = inr (rose_behind _ _ _ h.data_keep.3 x k.data_keep.3)
      refused_before k HostFault x = rose_behind _ _ _ h.host_keeps x k.host_keeps
      refused_before k why x = tt

    -- ---- by what was heard

    module _ (old new : Outside T H E) (heard : List Asking) (chained : Chain (Moves r) old heard new)
        (reason : Reasons) where
      abbrev data_count : (T → ℕ) → Outside T H E → ℕ
      data_count count o = count o.host_data

      pub refused_by_counts : (why : Refusal) → HasCause reason why heard →
          RefusedByCounts denials limiter_faults hook_faults behaviour_faults epoch_faults host_faults old new
          (reason.own GrowFailed) why
      refused_by_counts GrowFailed (inl g) =
          inl (chain_rises (Moves r) (data_count denials) is_denial (λ o q a n m. (kept o q a n m).data_keep.0) denied old
          heard new chained g.1)
      refused_by_counts GrowFailed (inr h) = inr h
      refused_by_counts LimiterFault h =
          chain_rises (Moves r) (data_count limiter_faults) is_limiter_fault
          (λ o q a n m. (kept o q a n m).data_keep.1) limiter_failed old heard new chained h
      refused_by_counts HookFault h =
          chain_rises (Moves r) (data_count hook_faults) is_hook_fault (λ o q a n m. (kept o q a n m).data_keep.2)
          hook_failed old heard new chained h
      refused_by_counts EpochFault (inl h) =
          inl (chain_rises (Moves r) (λ o. epoch_faults o.epochs) is_reading_fault
          (λ o q a n m. (kept o q a n m).epochs_keep) reading_failed old heard new chained h)
      refused_by_counts EpochFault (inr h) =
          inr (chain_rises (Moves r) (data_count behaviour_faults) is_behaviour_fault
          (λ o q a n m. (kept o q a n m).data_keep.3) behaviour_failed old heard new chained h)
      refused_by_counts HostFault h =
          chain_rises (Moves r) (λ o. host_faults o.host) is_host_fault (λ o q a n m. (kept o q a n m).host_keeps)
          host_failed old heard new chained h
      refused_by_counts why h = tt

-- for another reason of a growth
pub refused_for :
    {T H E : Type 0} (denials limiter_faults hook_faults behaviour_faults : T → ℕ) (epoch_faults : E → ℕ)
    (host_faults : H → ℕ) (old new : Outside T H E) {reason other : Type 0} → (reason → other) → (why : Refusal)
    → RefusedByCounts denials limiter_faults hook_faults behaviour_faults epoch_faults host_faults old new reason why
    → RefusedByCounts denials limiter_faults hook_faults behaviour_faults epoch_faults host_faults old new other why
refused_for a b c d e f old new so GrowFailed (inl h) = inl h
refused_for a b c d e f old new so GrowFailed (inr h) = inr (so h)
refused_for a b c d e f old new so LimiterFault h = h
refused_for a b c d e f old new so HookFault h = h
refused_for a b c d e f old new so EpochFault h = h
refused_for a b c d e f old new so HostFault h = h
refused_for a b c d e f old new so why h = tt
