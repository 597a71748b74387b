-- Instructions that lead to other code of instances, with their turns, and ends of blocks and functions, behind others.
use Rattle.std.proofs.Common.{◌≡◌, ℕ, ◌+◌, ◌-◌, ◌*◌, ◌≤◌, ◌<◌, List, [], inl, inr, Bool, true, false, nat_lt, refl, sym, ap, ◌∙◌, subst, arith, ◌++◌, take}
use Rattle.std.proofs.lemmas.List.{take_all, drop_all, append-nil}
use Rattle.std.proofs.lemmas.Bool.{ltb-true}
use Rattle.std.specs.Prelude.{◌⊎◌, map, reverse, length}
use Rattle.wasm_syntax.specs.declared.instr.Instr.{Instr}
use Rattle.wasm_objects.specs.Tables.{Table}
use Rattle.wasm_objects.specs.declared.raw.RawVal.{RawVal}
use Rattle.spec_execution.specs.Outcomes.{World}
use Rattle.spec_execution.proofs.EquationLemmas.{run_cons}
use Rattle.store_state.specs.Parts.{ProgramParts, HeldParts}
use Rattle.code_stack.specs.Cuts.{RowParts}
use Rattle.code_stack.specs.Lending.{left_over}
use Rattle.code_stack.specs.Values.{below}
use Rattle.code_straight.specs.Frames.{topmost}
use Rattle.code_straight.specs.declared.frames.Framed.{Framed}
use Rattle.code_leaps.specs.Bursts.{standing, behind}
use Rattle.code_stack.specs.Layers.{Configuration, frame_at, state_at, owing, means}
use Rattle.code_leaps.specs.Leading.{Doing, at, Leads}
use Rattle.code_leaps.specs.Leaps.{amid, placed, Ends, LeapsTo, LeadsBehind, Leaps, Enters}
use Rattle.code_leaps.specs.Rounds.{Passes, IsFree}
use Rattle.code_leaps.specs.Running.{ruled, charged}
use Rattle.code_leaps.specs.Turns.{passing}
use Rattle.code_leaps.specs.declared.burst.Burst.{Burst}
use Rattle.code_stack.specs.declared.layers.Activation.{Activation}
use Rattle.code_stack.specs.declared.layers.Layer.{Layer}
use Rattle.code_leaps.specs.declared.entries.Led.{Led}
use Rattle.code_stack.specs.declared.rules.Rules.{Rules}
use Rattle.code_stack.specs.declared.steps.Step.TheVariants as step
use Rattle.code_leaps.proofs.InstructionTurnLemmas.{is_of}
use Rattle.code_leaps.proofs.LoopLemmas.{check_passes, free_on}
use Rattle.code_leaps.proofs.PartLemmas.{leads_from, leads_into, leads_owing}
use Rattle.code_leaps.proofs.RoundLemmas.{Led as LedTo, led_on}
use Rattle.code_leaps.proofs.TurnLemmas.{spends_owing}

-- as many items were left as were lent
pub left_all : (items left : List RawVal) → length left ≡ length items → left_over items left ≡ left
left_all items left e =
    ap (λ xs. take (length items) (left ++ xs)) (drop_all (length left) items (omega (arith, e)))
    ∙ ap (take (length items)) (append-nil left) ∙ take_all (length items) left (omega (arith, e))

-- an instruction, with its turn
module _ (program : ProgramParts) (rules : Rules) (owed : ℕ) (held : HeldParts) (old new : Configuration) (passes : Bool)
    (lets : passes ≡ true → Passes rules held.fuel (owed + 1)) (h : LeapsTo program held.tables rules.frames passes old new) where
  abbrev mid : Configuration
  mid = record old { code = h.rest }

  first : (w : World) → means old w ≡ passing mid h.instr w
  first w =
      ap (λ is. means (record old { code = is }) w) h.code_is
      ∙ ap (λ o. owing mid o) (run_cons (frame_at mid) h.instr h.rest (state_at mid w))

  pub leap : Leads (ruled program rules) (means old) (charged rules.consumes_fuel held owed) 1 [] (means new)
      (charged rules.consumes_fuel held (owed + 1))
  leap =
      let g = ruled program rules in
      let start = charged rules.consumes_fuel held owed in
      let after = charged rules.consumes_fuel held (owed + 1) in
      leads_from g (means old) (passing mid h.instr) start
      (λ base b turns before answers. first (at g base start turns before answers)) 1 [] (means new) after
      (spends_owing program rules mid h.instr h.quiet held owed 1 new held (λ e. absurd (cc e)) step.Goes (record {
        by = λ base b turns before answers. h.leads (at g base after turns before answers)
            (is_of program rules base after b) refl (λ e go. check_passes program rules held (owed + 1) (lets e) go base b turns before answers);
      })).turns.0

-- so many turns, and an instruction that passes no check
module _ (program : ProgramParts) (rules : Rules) (owed : ℕ) (due : Doing) (first : HeldParts) (turns left : ℕ)
    (le : left ≤ turns) (some : 0 < left) (held : HeldParts) (old new : Configuration) where
  pub leap_on : LeapsTo program held.tables rules.frames false old new →
      LedTo program rules owed due first turns left le held left (means old) held →
      LedTo program rules owed due first turns left le held (left - 1) (means new) held
  leap_on h here =
      let made = turns - left in
      let start = charged rules.consumes_fuel first owed in
      let count : made + 1 ≡ turns - (left - 1) = omega (arith, le, some) in
      subst (λ n. Leads (ruled program rules) due start n [] (means new) (charged rules.consumes_fuel held (owed + n)))
      count
      (leads_owing program rules due first owed made (means old) held here 1 (means new) held
      (leap program rules (owed + made) held old new false (λ e. absurd (cc e)) h))

-- what is done behind a burst, once the loans of the last segments end
pub behind_loan : (a : Activation) (ls : List Layer) (row row' own own' : RowParts) (code : List Instr)
    (slice locals : List RawVal) (f : Framed) → row'.last ≡ slice → row'.before ≡ row.before → own'.last ≡ locals →
    own'.before ≡ own.before →
    behind (amid a ls row own.before) code slice locals f
    ≡ behind (amid a ls row' own'.before) code row'.last own'.last f
behind_loan a ls row row' own own' code slice locals f last before own_last own_before =
    ap (λ segments. behind (record { activation = a; layers = ls; below = below (map reverse segments) own.before })
    code slice locals f) (sym before)
    ∙ ap (λ further. behind (amid a ls row' further) code slice locals f) (sym own_before)
    ∙ ap (λ xs. behind (amid a ls row' own'.before) code xs locals f) (sym last)
    ∙ ap (λ xs. behind (amid a ls row' own'.before) code row'.last xs f) (sym own_last)

-- the same, where nothing that counts changed after that
pub behind_same : (a a' : Activation) (ls ls' : List Layer) (row row' own own' : RowParts) (code : List Instr)
    (f : Framed) → a' ≡ a → ls' ≡ ls → row'.last ≡ row.last → row'.before ≡ row.before → own'.last ≡ own.last →
    own'.before ≡ own.before →
    behind (amid a ls row own.before) code row.last own.last f
    ≡ behind (amid a' ls' row' own'.before) code row'.last own'.last f
behind_same a a' ls ls' row row' own own' code f same_function same_layers last before own_last own_before =
    ap (λ a. behind (amid a ls row own.before) code row.last own.last f) (sym same_function)
    ∙ ap (λ ls. behind (amid a' ls row own.before) code row.last own.last f) (sym same_layers)
    ∙ behind_loan a' ls' row row' own own' code row.last own.last f last before own_last own_before

-- turns of a burst over the last segments, which were lent for it
module _ (program : ProgramParts) (rules : Rules) (owed : ℕ) (held held' : HeldParts) (a : Activation) (ls : List Layer)
    (row row' own own' : RowParts) (code : List Instr) (height turns : ℕ) where
  pub lent_round : (slice slice' locals locals' : List RawVal) → slice ≡ row.last → row'.last ≡ slice' →
      row'.before ≡ row.before → locals ≡ own.last → own'.last ≡ locals' → own'.before ≡ own.before → (ran : Burst) →
      Leads (ruled program rules) (means (standing (amid a ls row own.before) code (topmost height slice) locals))
      (charged rules.consumes_fuel held owed) (turns - ran.left) []
      (behind (amid a ls row own.before) ran.rest.now slice' locals' ran.framed)
      (charged rules.consumes_fuel held' (owed + (turns - ran.left))) →
      Leads (ruled program rules) (means (placed a ls row own.before code height own.last))
      (charged rules.consumes_fuel held owed) (turns - ran.left) []
      (behind (amid a ls row' own'.before) ran.rest.now row'.last own'.last ran.framed)
      (charged rules.consumes_fuel held' (owed + (turns - ran.left)))
  lent_round slice slice' locals locals' lent last before own_lent own_last own_before ran l =
      let s = amid a ls row own.before in
      let start = charged rules.consumes_fuel held owed in
      let after = charged rules.consumes_fuel held' (owed + (turns - ran.left)) in
      let more = behind s ran.rest.now slice' locals' ran.framed in
      subst (λ (d : Doing). Leads (ruled program rules) (means (placed a ls row own.before code height own.last)) start
      (turns - ran.left) [] d after)
      (behind_loan a ls row row' own own' ran.rest.now slice' locals' ran.framed last before own_last own_before)
      (subst (λ xs. Leads (ruled program rules) (means (standing s code (topmost height xs) own.last)) start
      (turns - ran.left) [] more after) lent
      (subst (λ xs. Leads (ruled program rules) (means (standing s code (topmost height slice) xs)) start
      (turns - ran.left) [] more after) own_lent l))

-- checks pass on
pub free_left : (rules : Rules) (owed turns left floor : ℕ) (first held : HeldParts) → left ≤ turns →
    held.fuel ≡ first.fuel → IsFree rules first.fuel owed (turns - floor) →
    IsFree rules held.fuel (owed + (turns - left)) (left - floor)
free_left rules owed turns left floor first held le fuel free =
    subst (λ z. IsFree rules z (owed + (turns - left)) (left - floor)) (sym fuel)
    (free_on rules first.fuel owed (turns - floor) (turns - left) free (left - floor) (omega (arith, le)))

-- so many turns, blocks that were entered, and instructions behind that
module _ (program : ProgramParts) (rules : Rules) (owed : ℕ) (due : Doing) (first : HeldParts) (turns left : ℕ)
    (le : left ≤ turns) (held held' : HeldParts) (floor : ℕ) (fuel : held.fuel ≡ first.fuel)
    (free : IsFree rules first.fuel owed (turns - floor)) (a : Activation) (ls ls' : List Layer)
    (row row' row'' own own' : RowParts) (code : List Instr) (height : ℕ) (entered : Led) (ran : Burst) where
  pub led_part : LedTo program rules owed due first turns left le held left
      (means (placed a ls row own.before code height own.last)) held →
      Enters a ls code height row left entered ls' row' → entered.left ≤ left →
      Leaps program rules.frames floor held a ls' entered.hop.code.now entered.hop.height row' own entered.left ran held'
      a ls' row'' own' → ran.left ≤ entered.left →
      LedTo program rules owed due first turns left le held ran.left
      (behind (amid a ls' row'' own'.before) ran.rest.now row''.last own'.last ran.framed) held'
  led_part here enters fewer leads less =
      let within : entered.left ≤ turns = omega (arith, le, fewer) in
      let mid = means (placed a ls' row' own.before entered.hop.code.now entered.hop.height own.last) in
      led_on program rules owed due first turns entered.left within held mid
      (led_on program rules owed due first turns left le held
      (means (placed a ls row own.before code height own.last)) here entered.left fewer mid held
      (enters program rules (owed + (turns - left)) held own.before own.last)) ran.left less
      (behind (amid a ls' row'' own'.before) ran.rest.now row''.last own'.last ran.framed) held'
      (leads rules (owed + (turns - entered.left)) refl
      (free_left rules owed turns entered.left floor first held within fuel free))

module _ (program : ProgramParts) (tables : List Table) (frames : ℕ) (ran : Burst) (floor : ℕ) (a a' : Activation) (ls ls' : List Layer) (row row' own own' : RowParts) (l : Led)
  where
    -- at the end of a block or a function, and with a turn
    abbrev Ended : ℕ → Type 0
    Ended top =
        (ran.rest.now ≡ []) × (l.left ≡ ran.left) × (length ls' < length ls)
        × Ends a ls row own top a' ls' row' own' l.hop

    abbrev Turned : ℕ → Type 0
    Turned top =
        (0 < ran.left) × (l.left ≡ ran.left - 1) × (length ls' < length ls + 2)
        × LeapsTo program tables frames (nat_lt floor (ran.left - 1)) (placed a ls row own.before ran.rest.now top own.last)
        (placed a' ls' row' own'.before l.hop.code.now l.hop.height own'.last)

    fewer_by : (top : ℕ) → Ended top ⊎ Turned top → 2 * l.left + length ls' < 2 * ran.left + length ls
    fewer_by top (inl x) = omega (arith, x.1, x.2)
    fewer_by top (inr x) = omega (arith, x.0, x.1, x.2)

    -- with fewer turns, or with as many and fewer labels
    pub led_fewer : LeadsBehind program tables frames ran floor a ls row own a' ls' row' own' l → 2 * l.left + length ls' < 2 * ran.left + length ls
    led_fewer b = fewer_by b.top b.leads

    left_by : (top : ℕ) → Ended top ⊎ Turned top → l.left ≤ ran.left
    left_by top (inl x) = omega (arith, x.1)
    left_by top (inr x) = omega (arith, x.1)

    pub led_left : LeadsBehind program tables frames ran floor a ls row own a' ls' row' own' l → l.left ≤ ran.left
    led_left b = left_by b.top b.leads

    module _ (turns : ℕ) (le : ran.left ≤ turns) (code : List Instr) (some : code ≡ [] → ⊥)
        (still : ran.left ≡ turns → ran.rest.now ≡ code) where
      moved_by : (top : ℕ) → Ended top ⊎ Turned top → l.left ≡ turns → ⊥
      moved_by top (inl x) e = some (sym (still (sym x.1 ∙ e)) ∙ x.0)
      moved_by top (inr x) e = absurd (omega (arith, x.0, x.1, e, le))

      -- some code takes a turn
      pub led_moved : LeadsBehind program tables frames ran floor a ls row own a' ls' row' own' l → l.left ≡ turns → ⊥
      led_moved b e = moved_by b.top b.leads e

-- so many turns and a burst, and how it goes on behind that
module _ (program : ProgramParts) (rules : Rules) (owed : ℕ) (due : Doing) (first : HeldParts) (turns : ℕ) (ran : Burst)
    (le : ran.left ≤ turns) (held : HeldParts) (a a' : Activation) (ls ls' : List Layer) (row row' own own' : RowParts)
    (floor : ℕ) (fuel : held.fuel ≡ first.fuel)
    (free : IsFree rules first.fuel owed (turns - floor)) (l : Led)
    (b : LeadsBehind program held.tables rules.frames ran floor a ls row own a' ls' row' own' l) where
  abbrev made : ℕ
  made = turns - ran.left

  abbrev next : Doing
  next = means (placed a' ls' row' own'.before l.hop.code.now l.hop.height own'.last)

  abbrev LedBy : ℕ → Doing → Type 0
  LedBy n more =
      Leads (ruled program rules) due (charged rules.consumes_fuel first owed) (turns - n) [] more
      (charged rules.consumes_fuel held (owed + (turns - n)))

  lets : 0 < ran.left → nat_lt floor (ran.left - 1) ≡ true → Passes rules held.fuel (owed + made + 1)
  lets some e =
      let same : owed + (turns - (ran.left - 1)) ≡ owed + made + 1 = omega (arith, le, some) in
      let more : floor < ran.left - 1 = ltb-true floor (ran.left - 1) e in
      subst (λ z. Passes rules z (owed + made + 1)) (sym fuel)
      (subst (λ k. Passes rules first.fuel k) same (free (turns - (ran.left - 1)) (omega (arith, le, some, more))))

  module _ (here : LedBy ran.left (means (placed a ls row own.before ran.rest.now b.top own.last))) where
    by_end : ran.rest.now ≡ [] → l.left ≡ ran.left →
        ((w : World) → means (placed a ls row own.before [] b.top own.last) w ≡ next w) → LedBy l.left next
    by_end none same e =
        let g = ruled program rules in
        subst (λ n. LedBy n next) (sym same)
        (leads_into g due (charged rules.consumes_fuel first owed) made []
        (means (placed a ls row own.before ran.rest.now b.top own.last)) next
        (charged rules.consumes_fuel held (owed + made)) here
        (λ base is turns before answers.
        let w = at g base (charged rules.consumes_fuel held (owed + made)) turns before answers in
        ap (λ is. means (placed a ls row own.before is b.top own.last) w) none ∙ e w))

    by_turn : 0 < ran.left → l.left ≡ ran.left - 1 →
        LeapsTo program held.tables rules.frames (nat_lt floor (ran.left - 1)) (placed a ls row own.before ran.rest.now b.top own.last)
        (placed a' ls' row' own'.before l.hop.code.now l.hop.height own'.last) → LedBy l.left next
    by_turn some same h =
        let start = charged rules.consumes_fuel first owed in
        let old = placed a ls row own.before ran.rest.now b.top own.last in
        let new = placed a' ls' row' own'.before l.hop.code.now l.hop.height own'.last in
        let count : made + 1 ≡ turns - (ran.left - 1) = omega (arith, le, some) in
        subst (λ n. LedBy n next) (sym same)
        (subst (λ n. Leads (ruled program rules) due start n [] next (charged rules.consumes_fuel held (owed + n))) count
        (leads_owing program rules due first owed made (means old) held here 1 next held
        (leap program rules (owed + made) held old new (nat_lt floor (ran.left - 1)) (lets some) h)))

  by_case : LedBy ran.left (means (placed a ls row own.before ran.rest.now b.top own.last)) →
      Ended program held.tables rules.frames ran floor a a' ls ls' row row' own own' l b.top
      ⊎ Turned program held.tables rules.frames ran floor a a' ls ls' row row' own own' l b.top →
      LedBy l.left next
  by_case here (inl x) = by_end here x.0 x.1 x.3
  by_case here (inr x) = by_turn here x.0 x.1 x.3

  pub led_behind : LedBy ran.left (behind (amid a ls row own.before) ran.rest.now row.last own.last ran.framed) →
      LedBy l.left next
  led_behind k =
      by_case (subst (λ (f : Framed). LedBy ran.left (behind (amid a ls row own.before) ran.rest.now row.last own.last f))
      b.goes k) b.leads
