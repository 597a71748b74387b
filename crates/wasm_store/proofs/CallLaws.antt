-- What follows of a call of the host: what a growth answered, and that every object stays.
use Rattle.std.proofs.Common.{◌≡◌, ◌+◌, refl, sym, ap, ◌∙◌, subst, inl, inr}
use Rattle.std.specs.Prelude.{⊤, Some, Result, Ok, Err}
use Rattle.wasm_values.specs.declared.handles.Memory.{Memory}
use Rattle.wasm_values.specs.declared.refusals.Refusal.{Refusal}
use Rattle.wasm_values.specs.declared.refusals.Refusal.TheVariants.{GrowFailed, LimiterFault}
use Rattle.spec_machine.specs.GlobalCalls.{global_new, global_set, tag_new}
use Rattle.spec_machine.specs.Growth.{Rule, Grows, Fails, Asks, Decision, Granted, Failed, Faulted, Plan, plan_rule, answered_growth}
use Rattle.spec_machine.specs.Machine.{Machine}
use Rattle.spec_machine.specs.MemoryCalls.{memory_new, memory_size, memory_write, memory_grow}
use Rattle.spec_machine.specs.TableCalls.{table_new, table_size, table_set, table_fill, table_copy, table_grow}
use Rattle.spec_machine.specs.ValueCalls.{func_new}
use Rattle.law_store.proofs.Objects.{objects_stay_own, calls_keep_objects}
use Rattle.law_store.proofs.ReadLemmas.{grown_memory_size}
use Rattle.law_store.proofs.RefusalLemmas.{given_is}
use Rattle.law_store.proofs.TableReadLemmas.{grown_table_size}
use Rattle.law_store.specs.Granted.{IsGranted}
use Rattle.law_store.specs.Laws.{KeepsObjects}
use Rattle.store_state.specs.Calls.{Changes, Makes}
use Rattle.wasm_store.proofs.Growths.{yes}
use Rattle.wasm_store.specs.Growths.{Decides, GrowsBy, GrowsAs}
use Rattle.wasm_store.specs.Laws.{Limiter, IsGrown, GrowthsAreGranted, MemoryGrowthSize, TableGrowthSize, MemoryNewKeeps, MemoryGrowthKeeps, TableNewKeeps, TableGrowthKeeps, MemoryWriteKeeps, TableSetKeeps, TableFillKeeps, TableCopyKeeps, GlobalSetKeeps, GlobalNewKeeps, TagNewKeeps, FuncNewKeeps}
use Rattle.wasm_store.specs.Stores.{StoreParts}

-- a decision that answered
record HasAnswered {A : Type 0} (d : Decision) (p : Plan A) (n : A) (new : Machine) : Type 0 where
  is : d ≡ Granted
  gives : n ≡ p.gives
  after : new ≡ p.after

has_answered : {A : Type 0} (d : Decision) (p : Plan A) (old new : Machine) (n : A) → Decides d p old (Ok n) new →
    HasAnswered d p n new
has_answered Granted p old new n h = record { is = refl; gives = h.0; after = h.1 }
has_answered Failed p old new n h = absurd (let e : Ok n ≡ Err GrowFailed = h.0 in cc)
has_answered Faulted p old new n h = absurd (let e : Ok n ≡ Err LimiterFault = h.0 in cc)

module _ {T : Type 0} (growths : Limiter T) where
  grown_by : {A : Type 0} (p : Plan A) (old new : StoreParts T) (n : A) (r : Rule) → plan_rule old.machine p ≡ r →
      GrowsBy growths r p old (Ok n) new → IsGrown (Ok p) old.machine n new.machine
  grown_by p old new n Grows is h =
      let a : HasAnswered Granted p n new.machine = has_answered Granted p old.machine new.machine n h.0 in
      record { plan = p; is = refl; granted = inl is; gives = a.gives; after = a.after }
  grown_by p old new n Fails is h = absurd (let e : Ok n ≡ Err GrowFailed = h.0.0 in cc)
  grown_by p old new n Asks is h =
      let a : HasAnswered (answered_growth p.growth h.0) p n new.machine =
      has_answered (answered_growth p.growth h.0) p old.machine new.machine n h.2 in
      record {
        plan = p;
        is = refl;
        granted = inr (is, yes p.growth h.0 a.is);
        gives = a.gives;
        after = a.after;
      }

  grown : {A : Type 0} (old new : StoreParts T) (due : Result (Plan A) Refusal) (n : A) →
      GrowsAs growths due old (Ok n) new → IsGrown due old.machine n new.machine
  grown old new (Ok p) n h = grown_by p old new n (plan_rule old.machine p) refl h
  grown old new (Err why) n h = absurd (let e : Ok n ≡ Err why = h.0 in cc)

  pub growths_are_granted : GrowthsAreGranted growths
  growths_are_granted = grown

  pub memory_growth_size : MemoryGrowthSize growths
  memory_growth_size old new h delta n w g =
      let a : IsGrown (memory_grow old.machine h delta) old.machine n new.machine =
      growths_are_granted old new (memory_grow old.machine h delta) n g in
      let s : (memory_size old.machine h ≡ Ok a.plan.gives)
      × (memory_size a.plan.after h ≡ Ok (a.plan.gives + delta)) =
      grown_memory_size old.machine h delta a.plan w a.is in (
        s.0 ∙ ap Ok (sym a.gives),
        ap (λ (m : Machine). memory_size m h) a.after ∙ s.1 ∙ ap (λ k. Ok (k + delta)) (sym a.gives),
      )

  pub table_growth_size : TableGrowthSize growths
  table_growth_size old new h delta n r g =
      let a : IsGrown (table_grow old.machine h delta (Some r)) old.machine n new.machine =
      growths_are_granted old new (table_grow old.machine h delta (Some r)) n g in
      let s : (table_size old.machine h ≡ Ok a.plan.gives)
      × (table_size a.plan.after h ≡ Ok (a.plan.gives + delta)) =
      grown_table_size old.machine h delta r a.plan a.is in (
        s.0 ∙ ap Ok (sym a.gives),
        ap (λ (m : Machine). table_size m h) a.after ∙ s.1 ∙ ap (λ k. Ok (k + delta)) (sym a.gives),
      )

  -- a growth that was refused left the store as it was
  refused_as : {A : Type 0} (d : Decision) (p : Plan A) (old new : Machine) (why : Refusal) → Decides d p old (Err why) new →
      new ≡ old
  refused_as Granted p old new why h = h.1
  refused_as Failed p old new why h = h.1
  refused_as Faulted p old new why h = h.1

  refused_by : {A : Type 0} (p : Plan A) (old new : StoreParts T) (why : Refusal) (r : Rule) →
      GrowsBy growths r p old (Err why) new → new.machine ≡ old.machine
  refused_by p old new why Grows h = refused_as Granted p old.machine new.machine why h.0
  refused_by p old new why Fails h = refused_as Failed p old.machine new.machine why h.0
  refused_by p old new why Asks h =
      refused_as (answered_growth p.growth h.0) p old.machine new.machine why h.2

  refused : {A : Type 0} (old new : StoreParts T) (due : Result (Plan A) Refusal) (why : Refusal) →
      GrowsAs growths due old (Err why) new → new.machine ≡ old.machine
  refused old new (Ok p) why h = refused_by p old new why (plan_rule old.machine p) h
  refused old new (Err cause) why h = ap (λ (s : StoreParts T). s.machine) h.1

  kept : {A : Type 0} (old new : StoreParts T) (due : Result (Plan A) Refusal) (answer : Result A Refusal) →
      ((p : Plan A) → due ≡ Ok p → IsGranted old.machine p → KeepsObjects old.machine p.after) →
      GrowsAs growths due old answer new → KeepsObjects old.machine new.machine
  kept old new due (Ok n) f h =
      let a : IsGrown due old.machine n new.machine = grown old new due n h in
      subst (KeepsObjects old.machine) (sym a.after) (f a.plan a.is a.granted)
  kept old new due (Err why) f h =
      subst (KeepsObjects old.machine) (sym (refused old new due why h)) (objects_stay_own old.machine)

  pub memory_new_keeps : MemoryNewKeeps growths
  memory_new_keeps old new ty answer = kept old new (Ok (memory_new old.machine ty)) answer
      (λ p e g. subst (λ (q : Plan Memory). IsGranted old.machine q → KeepsObjects old.machine q.after)
      (given_is (memory_new old.machine ty) p e) ((calls_keep_objects old.machine).memory_new ty tt) g)

  pub table_new_keeps : TableNewKeeps growths
  table_new_keeps old new ty init answer = kept old new (table_new old.machine ty init) answer
      (λ p e. (calls_keep_objects old.machine).table_new ty init p tt e)

  pub memory_growth_keeps : MemoryGrowthKeeps growths
  memory_growth_keeps old new h delta answer = kept old new (memory_grow old.machine h delta) answer
      ((calls_keep_objects old.machine).memory_grow h delta)

  pub table_growth_keeps : TableGrowthKeeps growths
  table_growth_keeps old new h delta r answer = kept old new (table_grow old.machine h delta r) answer
      ((calls_keep_objects old.machine).table_grow h delta r)

-- a call that changes objects, and one that makes one
changes_keep : (due : Result Machine Refusal) (old new : Machine) (answer : Result ⊤ Refusal) →
    ((after : Machine) → due ≡ Ok after → KeepsObjects old after) → Changes due old answer new → KeepsObjects old new
changes_keep due old new (Ok done) f h = f new h
changes_keep due old new (Err why) f h = subst (KeepsObjects old) (sym h.1) (objects_stay_own old)

makes_keep : {A : Type 0} (due : Result (Machine × A) Refusal) (old new : Machine) (answer : Result A Refusal) →
    ((made : Machine × A) → due ≡ Ok made → KeepsObjects old made.0) → Makes due old answer new → KeepsObjects old new
makes_keep due old new (Ok handle) f h = f (new, handle) h
makes_keep due old new (Err why) f h = subst (KeepsObjects old) (sym h.1) (objects_stay_own old)

pub memory_write_keeps : MemoryWriteKeeps
memory_write_keeps old new h at bytes answer =
    changes_keep (memory_write old h at bytes) old new answer ((calls_keep_objects old).memory_write h at bytes)

pub table_set_keeps : TableSetKeeps
table_set_keeps old new h at val answer =
    changes_keep (table_set old h at val) old new answer ((calls_keep_objects old).table_set h at val)

pub table_fill_keeps : TableFillKeeps
table_fill_keeps old new h at val len answer =
    changes_keep (table_fill old h at val len) old new answer ((calls_keep_objects old).table_fill h at val len)

pub table_copy_keeps : TableCopyKeeps
table_copy_keeps old new dst dst_at src src_at len answer =
    changes_keep (table_copy old dst dst_at src src_at len) old new answer
    ((calls_keep_objects old).table_copy dst dst_at src src_at len)

pub global_set_keeps : GlobalSetKeeps
global_set_keeps old new h val answer =
    changes_keep (global_set old h val) old new answer ((calls_keep_objects old).global_set h val)

pub global_new_keeps : GlobalNewKeeps
global_new_keeps old new ty val answer =
    makes_keep (global_new old ty val) old new answer (λ made. (calls_keep_objects old).global_new ty val made tt)

pub tag_new_keeps : TagNewKeeps
tag_new_keeps old new ty answer =
    makes_keep (tag_new old ty) old new answer (λ made. (calls_keep_objects old).tag_new ty made tt)

pub func_new_keeps : FuncNewKeeps
func_new_keeps old new ty body stored answer =
    makes_keep (func_new old ty body stored) old new answer
    (λ made. (calls_keep_objects old).func_new ty body stored made tt)
