-- An operation on a store, in each store of the call for which it is done.
use Rattle.std.proofs.Common.{◌≡◌, inl, ℕ, zero, suc, ◌+◌, ◌≤◌, List, [], ◌++◌, Some, refl, ap, sym, ◌∙◌, subst, arith}
use Rattle.std.specs.Prelude.{Result, Ok, Err, ⊤}
use Rattle.std.proofs.lemmas.List.{append-nil}
use Rattle.wasm_types.specs.declared.faults.OutOfMemory.{OutOfMemory as NoMemory}
use Rattle.spec_machine.specs.Commands.{Row, operation}
use Rattle.spec_machine.specs.Machine.{Machine}
use Rattle.spec_machine.specs.Names.{Scope}
use Rattle.spec_machine.specs.declared.command.Command.TheVariants as command
use Rattle.spec_machine.specs.declared.operation.Op.{Op}
use Rattle.spec_machine.specs.declared.reply.Reply.{Reply}
use Rattle.spec_execution.specs.Askings.{Answer, Asking, answers_in}
use Rattle.spec_execution.specs.Bodies.{exec}
use Rattle.spec_execution.specs.Commands.{perform}
use Rattle.spec_execution.specs.Outcomes.{World, world, Outcome, Over, Stopped}
use Rattle.law_store.specs.Rows.{RunsNoCode}
use Rattle.store_state.specs.Parts.{HeldParts}
use Rattle.code_leaps.specs.Leading.{Setting, Leads, Stops, Halts, halted}
use Rattle.code_hosts.specs.Hosting.{opened}
use Rattle.code_hosts.specs.Operating.{operating, IsDue}
use Rattle.code_hosts.specs.declared.operations.Operated.{Operated}
use Rattle.code_hosts.specs.declared.operations.Operated.TheVariants as operated
use Rattle.wasm_call.specs.Alone.{codeless}
use Rattle.wasm_call.specs.Operating.{IsHeld, Does, Lacks}
use Rattle.wasm_call.specs.Outcomes.{by_row, answer_of, PerformedWithin, AnsweredWithin, ShortWithin}
use Rattle.wasm_call.specs.Outside.{Growths, Readings, Surrounded}
use Rattle.wasm_call.proofs.OperateLemmas.{on_reply, row_on, row_replied, reply_due, row_due}
use Rattle.wasm_call.proofs.Plain.{IsCodeless, codeless as codeless_row}

-- ---- in each store of a call

module _ (g : Setting HeldParts) (scope : Scope) (op : Op) (h h' : HeldParts) (m after : Machine) (was : IsHeld g h m)
    (is : IsHeld g h' after) where
  abbrev r : Row
  r = operation m scope op

  pub begins : (base : Machine) → g.is_base base → (depth : ℕ) (go : World → Reply → Outcome) (turns : ℕ)
      (before : List Asking) (answers : List Answer) →
      operating scope op depth go (world (g.put base h) turns before answers)
      ≡ perform Over exec depth (world m turns before answers) r go
  begins base b depth go turns before answers =
      ap (λ (x : Machine). operating scope op depth go (world x turns before answers)) (was base b)

  pub ends_in : (base : Machine) → g.is_base base → (turns : ℕ) (heard : List Asking) (rest : List Answer) →
      world after turns heard rest ≡ world (g.put base h') turns heard rest
  ends_in base b turns heard rest = ap (λ (x : Machine). world x turns heard rest) (sym (is base b))

  module _ (plain : IsCodeless r) (spent : ℕ) (heard : List Asking) (depth : ℕ) (go : World → Reply → Outcome) where
    -- replied to while turns were left
    pub row_leads : (left : ℕ) (answer : Reply) → 1 ≤ left → ((before : List Asking) (rest : List Answer) →
        answer_of (by_row r (world m (spent + left) before (answers_in heard ++ rest)))
        ≡ Some (answer, world after left (before ++ heard) rest)) →
        Leads g (operating scope op depth go) h spent heard (λ w. go w answer) h'
    row_leads left answer some e = record {
      by = λ base b extra before rest.
          begins base b depth go (spent + extra) before (answers_in heard ++ rest)
          ∙ row_on go depth r plain (world m (spent + extra) before (answers_in heard ++ rest))
          ∙ ap (on_reply go) (row_replied r plain m after before (before ++ heard) (answers_in heard ++ rest) rest spent
          left extra answer some (e before rest))
          ∙ ap (λ (w : World). go w answer) (ends_in base b extra (before ++ heard) rest);
    }

    -- with the last turn
    pub row_stops : (answer : Reply) → IsDue go → ((before : List Asking) (rest : List Answer) →
        answer_of (by_row r (world m spent before (answers_in heard ++ rest)))
        ≡ Some (answer, world after 0 (before ++ heard) rest)) →
        Stops g (operating scope op depth go) h spent heard h'
    row_stops answer due e = record {
      by = λ base b before rest.
          begins base b depth go spent before (answers_in heard ++ rest)
          ∙ row_on go depth r plain (world m spent before (answers_in heard ++ rest))
          ∙ reply_due go due _ answer (world after 0 (before ++ heard) rest) refl (e before rest)
          ∙ ap (Over Stopped) (ends_in base b 0 (before ++ heard) rest);
    }

  -- where it is stopped with so many turns, it halts there
  pub stops_halts : (depth : ℕ) (go : World → Reply → Outcome) (spent : ℕ) (heard : List Asking) →
      Stops g (operating scope op depth go) h spent heard h' → Halts g (operating scope op depth go) h spent heard h'
  stops_halts depth go spent heard s = record { by = λ base b before rest. ap halted (s.by base b before rest) }

-- ---- with no turn it is stopped where it stands

module _ (scope : Scope) (op : Op) (m : Machine) (plain : IsCodeless (operation m scope op)) where
  pub stops_at_once : (g : Setting HeldParts) (h h' : HeldParts) → IsHeld g h m → IsHeld g h' m → (depth : ℕ)
      (go : World → Reply → Outcome) → IsDue go → Stops g (operating scope op depth go) h 0 [] h'
  stops_at_once g h h' was is depth go due = record {
    by = λ base b before rest.
        begins g scope op h h' m m was is base b depth go 0 before rest
        ∙ row_due go due depth (operation m scope op) plain m before rest
        ∙ ap (λ (heard : List Asking). Over Stopped (world m 0 heard rest)) (sym (append-nil before))
        ∙ ap (Over Stopped) (ends_in g scope op h h' m m was is base b 0 (before ++ []) rest);
  }

-- ---- on a store

module _ {T E : Type 0} (growths : Growths T) (readings : Readings E) (scope : Scope) (op : Op) (left : ℕ)
    (old : Surrounded T ⊤ E) (none : RunsNoCode (command.Op op)) where
  abbrev m : Machine
  m = old.store.machine

  plain : IsCodeless (operation m scope op)
  plain = codeless_row [] m scope (command.Op op) none

  pub none_left : left ≡ 0 → Does growths readings scope op left old old (record { what = operated.Limit; spent = 0 })
  none_left e = λ program bounds id engine h h' types was is. record {
    within = omega arith;
    heard = [];
    chain = refl;
    by = (λ depth go due. stops_at_once scope op m plain (opened program bounds id engine) h h' was is depth go due, sym e);
  }

  module _ (new : Surrounded T ⊤ E) where
    -- it was replied to, or took the last turn
    performed_by : (answer : Reply) →
        AnsweredWithin (codeless growths readings) left (operation m scope op) old answer new →
        (what : Operated) → (new.store.turns ≡ left → what ≡ operated.Limit) →
        (¬ (new.store.turns ≡ left) → what ≡ operated.Replies answer) →
        Does growths readings scope op left old new (record { what = what; spent = new.store.turns })
    performed_by answer l what limit replies = by_left l.left refl where
      at_first : (n : ℕ) → l.left ≡ n → (before : List Asking) (rest : List Answer) →
          answer_of (by_row (operation m scope op) (world m (new.store.turns + n) before (answers_in l.heard ++ rest)))
          ≡ Some (answer, world new.store.machine n (before ++ l.heard) rest)
      at_first n e before rest =
          let all : new.store.turns + n ≡ left = ap (λ k. new.store.turns + k) (sym e) ∙ l.within in
          ap (λ k. answer_of (by_row (operation m scope op) (world m k before (answers_in l.heard ++ rest)))) all
          ∙ l.ends before rest
          ∙ ap (λ k. Some (answer, world new.store.machine k (before ++ l.heard) rest)) e

      Comes : Operated → Type 0
      Comes x = Does growths readings scope op left old new (record { what = x; spent = new.store.turns })

      by_left : (n : ℕ) → l.left ≡ n → Comes what
      by_left zero e =
          let all : new.store.turns + 0 ≡ left = ap (λ k. new.store.turns + k) (sym e) ∙ l.within in
          let same : new.store.turns + 0 ≡ new.store.turns = omega arith in
          let last : new.store.turns ≡ left = sym same ∙ all in
          subst Comes (sym (limit last)) (λ program bounds id engine h h' types was is. record {
            within = omega (arith, last);
            heard = l.heard;
            chain = l.chained;
            by = (
              λ depth go due.
                  row_stops (opened program bounds id engine) scope op h h' m new.store.machine was is plain
                  new.store.turns l.heard depth go answer due
                  (λ before rest. ap (λ k. answer_of (by_row (operation m scope op)
                  (world m k before (answers_in l.heard ++ rest)))) (sym same) ∙ at_first 0 e before rest),
              last,
            );
          })
      by_left (suc n) e =
          let all : new.store.turns + suc n ≡ left = ap (λ k. new.store.turns + k) (sym e) ∙ l.within in
          let more : ¬ (new.store.turns ≡ left) = λ last. omega (arith, all, last) in
          let some : 1 ≤ suc n = omega arith in
          subst Comes (sym (replies more)) (λ program bounds id engine h h' types was is. record {
            within = omega (arith, all);
            heard = l.heard;
            chain = l.chained;
            by = λ depth go.
                row_leads (opened program bounds id engine) scope op h h' m new.store.machine was is plain
                new.store.turns l.heard depth go (suc n) answer some (at_first (suc n) e);
          })

    -- there was no memory
    short_by : ShortWithin (codeless growths readings) left (operation m scope op) old new →
        Lacks growths readings scope op left old new new.store.turns
    short_by s = λ program bounds id engine h h' types was is. record {
      within = omega (arith, s.within);
      heard = s.led.heard;
      chain = s.led.chained;
      misses = inl (λ depth go due. stops_halts (opened program bounds id engine) scope op h h' m new.store.machine was is
          depth go new.store.turns s.led.heard (record {
            by = λ base b before rest.
                begins (opened program bounds id engine) scope op h h' m new.store.machine was is base b depth go
                new.store.turns before (answers_in s.led.heard ++ rest)
                ∙ row_on go depth (operation m scope op) plain
                (world m new.store.turns before (answers_in s.led.heard ++ rest))
                ∙ ap (on_reply go) (s.led.ends before rest)
                ∙ ap (λ k. Over Stopped (world new.store.machine k (before ++ s.led.heard) rest)) none_more
                ∙ ap (Over Stopped) (ends_in (opened program bounds id engine) scope op h h' m new.store.machine was is
                base b 0 (before ++ s.led.heard) rest);
          }));
    } where
      none_more : s.led.left ≡ 0
      none_more = omega (arith, s.led.within)

    pub performed_does : (result : Result Reply NoMemory) →
        PerformedWithin (codeless growths readings) left (operation m scope op) old result new → (answer : Reply) →
        result ≡ Ok answer → (spent : ℕ) → spent ≡ new.store.turns → (what : Operated) →
        (spent ≡ left → what ≡ operated.Limit) → (¬ (spent ≡ left) → what ≡ operated.Replies answer) →
        Does growths readings scope op left old new (record { what = what; spent = spent })
    performed_does result p answer e spent turns what limit replies =
        subst (λ n. (n ≡ left → what ≡ operated.Limit) → (¬ (n ≡ left) → what ≡ operated.Replies answer) →
        Does growths readings scope op left old new (record { what = what; spent = n })) (sym turns)
        (performed_by answer (subst (λ (x : Result Reply NoMemory).
        PerformedWithin (codeless growths readings) left (operation m scope op) old x new) e p) what) limit replies

    pub short_lacks : (result : Result Reply NoMemory) →
        PerformedWithin (codeless growths readings) left (operation m scope op) old result new → (why : NoMemory) →
        result ≡ Err why → (spent : ℕ) → spent ≡ new.store.turns →
        Lacks growths readings scope op left old new spent
    short_lacks result p why e spent turns =
        subst (Lacks growths readings scope op left old new) (sym turns)
        (short_by (subst (λ (x : Result Reply NoMemory).
        PerformedWithin (codeless growths readings) left (operation m scope op) old x new) e p))
