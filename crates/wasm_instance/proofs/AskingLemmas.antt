-- The questions of an instantiation, by the growths of its memories and tables.
use Rattle.std.proofs.Common.{◌≡◌, ℕ, suc, ◌+◌, Bool, List, [], ◌∷◌, ◌++◌, length, refl, sym, ap, ◌∙◌, subst, inl, inr, arith, zero-add, append-nil, append_assoc}
use Rattle.std.specs.Prelude.{⊤, Result, Ok, Err, IfOk}
use Rattle.wasm_types.specs.Each.{Each}
use Rattle.wasm_types.specs.MemoryTypes.{MemoryParts}
use Rattle.wasm_meter.specs.Growths.{Growth}
use Rattle.wasm_meter.specs.declared.faults.LimiterFailed.{LimiterFailed}
use Rattle.wasm_syntax.specs.declared.declarations.ModuleDecl.{ModuleDecl}
use Rattle.wasm_syntax.specs.declared.declarations.TableDecl.{TableDecl}
use Rattle.wasm_values.specs.declared.refusals.Refusal.{Refusal}
use Rattle.wasm_values.specs.declared.refusals.Refusal.TheVariants.{TurnLimit, GrowFailed, OutOfMemory}
use Rattle.spec_machine.specs.Growth.{Plan, plan_rule, Rule, Grows, Fails, Asks, Decision, Granted, Failed, Faulted, answered_growth}
use Rattle.spec_machine.specs.Machine.{Machine}
use Rattle.spec_execution.specs.Askings.{Question, Growing, Answer, Grown, Asking, answers_in, Chain}
use Rattle.spec_execution.specs.Checks.{by_answer, by_rule}
use Rattle.spec_execution.specs.Instantiation.{where_granted, new_memory_plan, new_table_plan}
use Rattle.spec_execution.specs.Outcomes.{World, world, Outcome, Over, Refused, hear, on_turn}
use Rattle.law_store.specs.Granted.{IsGranted}
use Rattle.law_store.proofs.Lists.{each_more}
use Rattle.store_state.specs.Growing.{growth_of, question_of, says, decided}
use Rattle.store_state.specs.declared.growth.GrowthRule.{GrowthRule}
use Rattle.store_state.specs.declared.growth.GrowthRule.TheVariants as said
use Rattle.wasm_store.specs.Growths.{Settles}
use Rattle.wasm_store.specs.Stores.{StoreParts}
use Rattle.wasm_store.proofs.Growths.{asked_is, yes}
use Rattle.wasm_call.specs.Growths.{questions}
use Rattle.wasm_call.specs.Outside.{Growths}
use Rattle.wasm_instance.specs.Asking.{Part, growing, growing_memories, growing_tables, growing_all, Moves, Reaches, Comes, AreGranted, CountsQuestion}

-- ---- parts one after another

pub chain_then : {W : Type 0} (moves : W → Question → Answer → W → Type 0) (old mid new : W)
    (first second : List Asking) → Chain moves old first mid → Chain moves mid second new →
    Chain moves old (first ++ second) new
chain_then moves old mid new [] second c d = let P : _ → Type 0 = λ x. Chain moves x second new in subst P c d
chain_then moves old mid new (asking ∷ first) second c d = (c.0, c.1, chain_then moves c.0 mid new first second c.2 d)

pub answers_then : (first second : List Asking) (rest : List Answer) →
    answers_in (first ++ second) ++ rest ≡ answers_in first ++ (answers_in second ++ rest)
answers_then [] second rest = refl
answers_then (asking ∷ first) second rest =
    ap (λ (answers : List Answer). asking.1 ∷ answers) (answers_then first second rest)

module _ {T : Type 0} (growths : Growths T) (m : Machine) where
  -- nothing was asked yet
  pub reaches_none : (part : Part) (s : StoreParts T) → Reaches growths m part part s s
  reaches_none part s = record {
    heard = [];
    made = 0;
    counted = omega arith;
    chained = refl;
    ends = λ go left before rest.
        ap (λ (n : ℕ). part go (world m n before rest)) (zero-add left)
        ∙ ap (λ (bs : List Asking). part go (world m left bs rest)) (sym (append-nil before));
  }

  -- a part behind which another goes on
  behind : (part next go_on : Part) (old new : StoreParts T) → Reaches growths m part next old new →
      Reaches growths m (λ go w. part (go_on go) w) (λ go w. next (go_on go) w) old new
  behind part next go_on old new a = record {
    heard = a.heard;
    made = a.made;
    counted = a.counted;
    chained = a.chained;
    ends = λ go left before rest. a.ends (go_on go) left before rest;
  }

  reaches_then : (first mid next : Part) (old s new : StoreParts T) → Reaches growths m first mid old s →
      Reaches growths m mid next s new → Reaches growths m first next old new
  reaches_then first mid next old s new a b = record {
    heard = a.heard ++ b.heard;
    made = a.made + b.made;
    counted = omega (arith, a.counted, b.counted);
    chained =
        chain_then (Moves growths) old.host_data s.host_data new.host_data a.heard b.heard a.chained b.chained;
    ends = λ go left before rest.
        let more : a.made + b.made + left ≡ a.made + (b.made + left) = omega arith in
        ap (λ (n : ℕ). first go (world m n before (answers_in (a.heard ++ b.heard) ++ rest))) more
        ∙ ap (λ (answers : List Answer). first go (world m (a.made + (b.made + left)) before answers))
        (answers_then a.heard b.heard rest)
        ∙ a.ends go (b.made + left) before (answers_in b.heard ++ rest)
        ∙ b.ends go left (before ++ a.heard) rest
        ∙ ap (λ (bs : List Asking). next go (world m left bs rest)) (append_assoc before a.heard b.heard);
  }

  -- what a growth came to, behind others and before more
  comes_then : (first part go_on : Part) (most : ℕ) (old s new : StoreParts T) (why : Refusal) →
      Reaches growths m first (λ go w. part (go_on go) w) old s → Comes growths m part most s (Err why) new →
      Comes growths m first most old (Err why) new
  comes_then first part go_on most old s new TurnLimit a c = (
    λ go w. c.0 (go_on go) w,
    (
      reaches_then first (λ go w. part (go_on go) w) (λ go w. on_turn Over w (λ v. c.0 (go_on go) v) w.turns) old s new
          a (behind part (λ go w. on_turn Over w (c.0 go) w.turns) go_on s new c.1.0),
      c.1.1,
    ),
  )
  comes_then first part go_on most old s new why a c =
      reaches_then first (λ go w. part (go_on go) w) (λ go w. Over (Refused why) w) old s new a
      (behind part (λ go w. Over (Refused why) w) go_on s new c)

  goes_then : (first part go_on : Part) (old s new : StoreParts T) →
      Reaches growths m first (λ go w. part (go_on go) w) old s → Reaches growths m part (λ go. go) s new →
      Reaches growths m first go_on old new
  goes_then first part go_on old s new a c =
      reaches_then first (λ go w. part (go_on go) w) go_on old s new a (behind part (λ go. go) go_on s new c)

  -- ---- one growth

  module _ (plan_in : Machine → Plan ⊤) (most : ℕ) where
    abbrev p : Plan ⊤
    p = plan_in m

    -- it was decided, by what was heard
    decided_so : (d : Decision) (old new : StoreParts T) (heard : List Asking) (made : ℕ) →
        new.turns ≡ old.turns + made → Chain (Moves growths) old.host_data heard new.host_data →
        ((go : World → Outcome) (left : ℕ) (before : List Asking) (rest : List Answer) →
        growing plan_in go (world m (made + left) before (answers_in heard ++ rest))
        ≡ where_granted go d (world m left (before ++ heard) rest)) →
        Comes growths m (growing plan_in) most old (decided d) new
    decided_so Granted old new heard made n c ends =
        record { heard = heard; made = made; counted = n; chained = c; ends = ends }
    decided_so Failed old new heard made n c ends =
        record { heard = heard; made = made; counted = n; chained = c; ends = ends }
    decided_so Faulted old new heard made n c ends =
        record { heard = heard; made = made; counted = n; chained = c; ends = ends }

    -- by the rule alone
    ruled : (r : Rule) (d : Decision) → plan_rule m p ≡ r →
        ((go : World → Outcome) (w : World) → by_rule Over w p (where_granted go) r ≡ where_granted go d w) →
        (old new : StoreParts T) → new.turns ≡ old.turns → new.host_data ≡ old.host_data →
        Comes growths m (growing plan_in) most old (decided d) new
    ruled r d e is old new same data_is =
        decided_so d old new [] 0 (omega (arith, same)) data_is (λ go left before rest.
        ap (λ (n : ℕ). growing plan_in go (world m n before rest)) (zero-add left)
        ∙ ap (by_rule Over (world m left before rest) p (where_granted go)) e
        ∙ is go (world m left before rest)
        ∙ ap (λ (bs : List Asking). where_granted go d (world m left bs rest)) (sym (append-nil before)))

    -- the question is due in a turn
    asked_at : plan_rule m p ≡ Asks → (go : World → Outcome) (w : World) → w.machine ≡ m →
        growing plan_in go w
        ≡ on_turn Over w (λ v. hear Over v (Growing p.growth) (by_answer Over p.growth (where_granted go)) v.answers)
        w.turns
    asked_at e go w here =
        ap (λ (k : Machine). by_rule Over w (plan_in k) (where_granted go) (plan_rule k (plan_in k))) here
        ∙ ap (by_rule Over w p (where_granted go)) e

    heard_at : plan_rule m p ≡ Asks → (answer : Result Bool LimiterFailed) (go : World → Outcome) (left : ℕ)
        (before : List Asking) (rest : List Answer) →
        growing plan_in go (world m (1 + left) before (Grown answer ∷ rest))
        ≡ where_granted go (answered_growth p.growth answer)
        (world m left (before ++ (Growing p.growth, Grown answer) ∷ []) rest)
    heard_at e answer go left before rest =
        let next : 1 + left ≡ suc left = omega arith in
        ap (λ (n : ℕ). growing plan_in go (world m n before (Grown answer ∷ rest))) next
        ∙ asked_at e go (world m (suc left) before (Grown answer ∷ rest)) refl

    -- by what the limiter answered
    answered : plan_rule m p ≡ Asks → (old new : StoreParts T) (answer : Result Bool LimiterFailed) →
        new.turns ≡ old.turns + 1 → growths old.host_data p.growth answer new.host_data →
        Comes growths m (growing plan_in) most old (decided (answered_growth p.growth answer)) new
    answered e old new answer n moved =
        decided_so (answered_growth p.growth answer) old new ((Growing p.growth, Grown answer) ∷ []) 1 n
        (new.host_data, moved, refl) (heard_at e answer)

    -- no turn was left for the question
    pub stopped : (r : Rule) → plan_rule m p ≡ r → (old new : StoreParts T) (why : Refusal) →
        CountsQuestion (says r p.growth) most old (Err why) new →
        Comes growths m (growing plan_in) most old (Err why) new
    stopped Grows e old new why h = absurd h
    stopped Fails e old new why h = absurd h
    stopped Asks e old new why h =
        subst (λ (x : Refusal). Comes growths m (growing plan_in) most old (Err x) new) (sym h.0)
        (subst (λ (x : StoreParts T). Comes growths m (growing plan_in) most old (Err TurnLimit) x) (sym h.1.0) (
          λ go v. hear Over v (Growing p.growth) (by_answer Over p.growth (where_granted go)) v.answers,
          (
            record {
              heard = [];
              made = 0;
              counted = omega arith;
              chained = refl;
              ends = λ go left before rest.
                  ap (λ (n : ℕ). growing plan_in go (world m n before rest)) (zero-add left)
                  ∙ asked_at e go (world m left before rest) refl
                  ∙ ap (λ (bs : List Asking). on_turn Over (world m left bs rest)
                  (λ v. hear Over v (Growing p.growth) (by_answer Over p.growth (where_granted go)) v.answers) left)
                  (sym (append-nil before));
            },
            h.1.1,
          ),
        ))

    -- it was settled
    pub settled : (r : Rule) → plan_rule m p ≡ r → (old mid new : StoreParts T) (result : Result ⊤ Refusal) →
        mid ≡ record old { turns = old.turns + questions (says r p.growth) } → new.turns ≡ mid.turns →
        Settles growths (says r p.growth) mid.host_data result new.host_data →
        Comes growths m (growing plan_in) most old result new
    settled Grows e old mid new result was same s =
        let P : Result ⊤ Refusal → Type 0 = λ x. Comes growths m (growing plan_in) most old x new in
        subst P (sym s.0) (ruled Grows Granted e (λ go w. refl) old new
        (same ∙ ap (λ (x : StoreParts T). x.turns) was ∙ omega arith)
        (s.1 ∙ ap (λ (x : StoreParts T). x.host_data) was))
    settled Fails e old mid new result was same s =
        let P : Result ⊤ Refusal → Type 0 = λ x. Comes growths m (growing plan_in) most old x new in
        subst P (sym s.0) (ruled Fails Failed e (λ go w. refl) old new
        (same ∙ ap (λ (x : StoreParts T). x.turns) was ∙ omega arith)
        (s.1 ∙ ap (λ (x : StoreParts T). x.host_data) was))
    settled Asks e old mid new result was same s =
        let P : Result ⊤ Refusal → Type 0 = λ x. Comes growths m (growing plan_in) most old x new in
        let data_is : mid.host_data ≡ old.host_data = ap (λ (x : StoreParts T). x.host_data) was in
        let moved : growths old.host_data p.growth s.0 new.host_data =
        subst (λ (t : T). growths t p.growth s.0 new.host_data) data_is
        (subst (λ (g : Growth). growths mid.host_data g s.0 new.host_data) (asked_is p.growth) s.1) in
        subst P (sym (s.2 ∙ ap (λ (g : Growth). decided (answered_growth g s.0)) (asked_is p.growth)))
        (answered e old new s.0 (same ∙ ap (λ (x : StoreParts T). x.turns) was) moved)

    granted_when : (d : Decision) → IfOk (decided d) (λ _. d ≡ Granted)
    granted_when Granted = refl
    granted_when Failed = tt
    granted_when Faulted = tt

    if_ok : (result : Result ⊤ Refusal) (d : Decision) (P : Type 0) → result ≡ decided d → (d ≡ Granted → P) →
        IfOk result (λ _. P)
    if_ok (Ok u) d P e go = go (granted_ok d e) where
      granted_ok : (d : Decision) → ◌≡◌ {A = Result ⊤ Refusal} (Ok u) (decided d) → d ≡ Granted
      granted_ok Granted q = refl
      granted_ok Failed q = absurd cc
      granted_ok Faulted q = absurd cc
    if_ok (Err why) d P e go = tt

    pub settled_granted : (r : Rule) → plan_rule m p ≡ r → (old new : T) (result : Result ⊤ Refusal) →
        Settles growths (says r p.growth) old result new → IfOk result (λ _. IsGranted m p)
    settled_granted Grows e old new result s = if_ok result Granted (IsGranted m p) s.0 (λ d. inl e)
    settled_granted Fails e old new result s = if_ok result Failed (IsGranted m p) s.0 (λ d. absurd cc)
    settled_granted Asks e old new result s =
        if_ok result (answered_growth (growth_of (question_of p.growth)) s.0) (IsGranted m p) s.2 (λ d.
        inr (e, yes p.growth s.0 (ap (λ (g : Growth). answered_growth g s.0) (sym (asked_is p.growth)) ∙ d)))

  -- ---- growths one after another

  module _ (all tail : List MemoryParts) (ty : MemoryParts) (rest : List MemoryParts) (first : rest ≡ ty ∷ tail)
      (most : ℕ) (old s new : StoreParts T)
      (a : Reaches growths m (growing_memories all) (growing_memories rest) old s) where
    memory_first : Reaches growths m (growing_memories all)
        (λ go w. growing (λ k. new_memory_plan k ty) (growing_memories tail go) w) old s
    memory_first =
        subst (λ (l : List MemoryParts). Reaches growths m (growing_memories all) (growing_memories l) old s) first a

    pub memory_grown : Comes growths m (growing (λ k. new_memory_plan k ty)) most s (Ok tt) new →
        Reaches growths m (growing_memories all) (growing_memories tail) old new
    memory_grown c = goes_then (growing_memories all) (growing (λ k. new_memory_plan k ty)) (growing_memories tail)
        old s new memory_first c

    pub memory_refused : (why : Refusal) → Comes growths m (growing (λ k. new_memory_plan k ty)) most s (Err why) new →
        Comes growths m (growing_memories all) most old (Err why) new
    memory_refused why c =
        comes_then (growing_memories all) (growing (λ k. new_memory_plan k ty)) (growing_memories tail) most old s new
        why memory_first c

  module _ (all tail : List TableDecl) (t : TableDecl) (rest : List TableDecl) (first : rest ≡ t ∷ tail)
      (most : ℕ) (old s new : StoreParts T)
      (a : Reaches growths m (growing_tables all) (growing_tables rest) old s) where
    table_first : Reaches growths m (growing_tables all)
        (λ go w. growing (λ k. new_table_plan k t.ty) (growing_tables tail go) w) old s
    table_first =
        subst (λ (l : List TableDecl). Reaches growths m (growing_tables all) (growing_tables l) old s) first a

    pub table_grown : Comes growths m (growing (λ k. new_table_plan k t.ty)) most s (Ok tt) new →
        Reaches growths m (growing_tables all) (growing_tables tail) old new
    table_grown c = goes_then (growing_tables all) (growing (λ k. new_table_plan k t.ty)) (growing_tables tail)
        old s new table_first c

    pub table_refused : (why : Refusal) → Comes growths m (growing (λ k. new_table_plan k t.ty)) most s (Err why) new →
        Comes growths m (growing_tables all) most old (Err why) new
    table_refused why c =
        comes_then (growing_tables all) (growing (λ k. new_table_plan k t.ty)) (growing_tables tail) most old s new
        why table_first c

  -- none is left
  pub memories_end : (all rest : List MemoryParts) (old new : StoreParts T) → length rest ≡ 0 →
      Reaches growths m (growing_memories all) (growing_memories rest) old new →
      Reaches growths m (growing_memories all) (λ go. go) old new
  memories_end all [] old new none a = a
  memories_end all (ty ∷ rest) old new none a = absurd (omega (arith, none))

  pub tables_end : (all rest : List TableDecl) (old new : StoreParts T) → length rest ≡ 0 →
      Reaches growths m (growing_tables all) (growing_tables rest) old new →
      Reaches growths m (growing_tables all) (λ go. go) old new
  tables_end all [] old new none a = a
  tables_end all (t ∷ rest) old new none a = absurd (omega (arith, none))

  -- ---- all of them

  module _ (d : ModuleDecl) (most : ℕ) (old s new : StoreParts T) where
    pub memories_refused : (why : Refusal) → Comes growths m (growing_memories d.memories) most old (Err why) new →
        Comes growths m (growing_all d) most old (Err why) new
    memories_refused why c =
        comes_then (growing_all d) (growing_memories d.memories) (growing_tables d.tables) most old old new why
        (reaches_none (growing_all d) old) c

    memories_first : Reaches growths m (growing_memories d.memories) (λ go. go) old s →
        Reaches growths m (growing_all d) (growing_tables d.tables) old s
    memories_first a =
        goes_then (growing_all d) (growing_memories d.memories) (growing_tables d.tables) old old s
        (reaches_none (growing_all d) old) a

    pub all_come : Reaches growths m (growing_memories d.memories) (λ go. go) old s → (result : Result ⊤ Refusal) →
        Comes growths m (growing_tables d.tables) most s result new →
        Comes growths m (growing_all d) most old result new
    all_come a (Ok u) c =
        goes_then (growing_all d) (growing_tables d.tables) (λ go. go) old s new (memories_first a) c
    all_come a (Err why) c =
        comes_then (growing_all d) (growing_tables d.tables) (λ go. go) most old s new why (memories_first a) c

pub all_granted : (m : Machine) (d : ModuleDecl) (result : Result ⊤ Refusal) →
    Each d.memories (λ ty. IsGranted m (new_memory_plan m ty)) →
    IfOk result (λ _. Each d.tables (λ (t : TableDecl). IsGranted m (new_table_plan m t.ty))) →
    IfOk result (λ _. AreGranted m d)
all_granted m d (Ok u) h k = record { memories = h; tables = k }
all_granted m d (Err why) h k = tt

-- what holds of each that is left, and of the one before it
pub each_before : {A : Type 0} (P : A → Type 0) (all rest tail : List A) (x : A) → rest ≡ x ∷ tail →
    (Each rest P → Each all P) → P x → Each tail P → Each all P
each_before P all rest tail x first go p h =
    go (subst (λ l. Each l P) (sym first) (each_more P x tail p h))

-- ---- what is told is no want of memory

decided_told : (d : Decision) → decided d ≡ Err OutOfMemory → ⊥
decided_told Granted e = cc
decided_told Failed e = cc
decided_told Faulted e = cc

pub settled_told : {T : Type 0} (growths : Growths T) (rule : GrowthRule) (old new : T) (result : Result ⊤ Refusal) →
    Settles growths rule old result new → result ≡ Err OutOfMemory → ⊥
settled_told growths said.Grows old new result h e = let is : Ok tt ≡ Err OutOfMemory = sym h.0 ∙ e in cc
settled_told growths said.Fails old new result h e = let is : Err GrowFailed ≡ Err OutOfMemory = sym h.0 ∙ e in cc
settled_told growths (said.Asks q) old new result h e = decided_told _ (sym h.2 ∙ e)

pub counted_told : {T : Type 0} (rule : GrowthRule) (most : ℕ) (old new : StoreParts T) (why : Refusal) →
    CountsQuestion rule most old (Err why) new → (result : Result ⊤ Refusal) → result ≡ Err why →
    result ≡ Err OutOfMemory → ⊥
counted_told (said.Asks q) most old new why h result told e =
    let is : Err TurnLimit ≡ Err OutOfMemory = ap Err (sym h.0) ∙ sym told ∙ e in cc
counted_told said.Grows most old new why h result told e = h
counted_told said.Fails most old new why h result told e = h

-- what follows of want of memory in a part follows of the whole that passes it on
pub passed_told : {A P : Type 0} (why : Refusal) (result : Result A Refusal) → result ≡ Err why →
    (◌≡◌ {A = Result ⊤ Refusal} (Err why) (Err OutOfMemory) → P) → result ≡ Err OutOfMemory → P
passed_told {A} why result told h e =
    let is : ◌≡◌ {A = Result A Refusal} (Err why) (Err OutOfMemory) = sym told ∙ e in
    let same : why ≡ OutOfMemory = cc in h (ap Err same)
