-- Memory ran out before an operation made its first turn: that is a stop of it.
use Rattle.std.proofs.Common.{◌≡◌, ℕ, List, [], ◌++◌, Option, Some, None, refl, ap, sym, ◌∙◌, arith}
use Rattle.std.specs.Prelude.{Result, Ok, Err}
use Rattle.std.proofs.lemmas.List.{append-nil}
use Rattle.wasm_values.specs.declared.handles.Func.{Func}
use Rattle.wasm_values.specs.declared.refusals.Refusal.{Refusal}
use Rattle.wasm_values.specs.declared.refusals.Refusal.TheVariants.{NoReply}
use Rattle.wasm_values.specs.declared.values.Val.{Val}
use Rattle.spec_machine.specs.Commands.{Row, Refuse, Act, ActAt, Grow, Invoke, Instantiate, invokes, named, operation}
use Rattle.spec_machine.specs.FunctionCalls.{Called, called}
use Rattle.spec_machine.specs.Growth.{Plan, plan_rule, Rule, Grows, Fails, Asks}
use Rattle.spec_machine.specs.Machine.{Machine}
use Rattle.spec_machine.specs.Names.{Scope, named_func, operand_values}
use Rattle.spec_machine.specs.WellFormed.{IsWellFormed}
use Rattle.spec_machine.specs.declared.name.Name.{Name}
use Rattle.spec_machine.specs.declared.name.Operand.{Operand}
use Rattle.spec_machine.specs.declared.operation.Op.TheVariants.{Call}
use Rattle.spec_machine.specs.declared.reply.Reply.{Reply}
use Rattle.spec_machine.specs.declared.reply.Reply.TheVariants.{Refused}
use Rattle.spec_execution.specs.Askings.{Answer, Asking, Relations, answers_in}
use Rattle.spec_execution.specs.Commands.{Finish, Replied, Early, call_reply}
use Rattle.spec_execution.specs.Outcomes.{World, world, Stopped}
use Rattle.wasm_store.specs.Stores.{StoreParts}
use Rattle.wasm_call.specs.Alone as alone
use Rattle.wasm_call.specs.Alone.{Leads}
use Rattle.wasm_call.specs.Outcomes.{CutRow, by_row, stop_of}
use Rattle.wasm_call.specs.Outside.{Growths, Moving, Surrounded, outside, typed, turns_heard}
use Rattle.wasm_call.proofs.HeardLemmas.{heard_typed}
use Rattle.wasm_call.proofs.IdleCallLemmas.{Idles, idles, idle_halts}
use Rattle.wasm_call.proofs.Plain.{IsCodeless}
use Rattle.wasm_call.proofs.RepliedCallLemmas.{call_safe}
use Rattle.wasm_call.proofs.Rows.{refused_due, act_due, grow_is}
use Rattle.wasm_call.proofs.RunEndLemmas.{stops}

-- it is a stop, and each of its turns was a question
pub record IsIdle {T : Type 0} (growths : Growths T) (r : Row) (s : StoreParts T) : Type 0 where
  pub cut : alone.CutRow growths r s s
  pub questions : s.turns ≡ turns_heard cut.led.heard

module _ {T : Type 0} (growths : Growths T) (s : StoreParts T) (none : s.turns ≡ 0) where
  idle_row : (r : Row) (ending : World → Finish) (l : Leads growths (by_row r) s.turns s ending s) →
      s.turns ≡ turns_heard l.heard → ((w : World) → stop_of (ending w) ≡ Some w) → IsIdle growths r s
  idle_row r ending l questions ended = record {
    cut = record {
      led = record {
        heard = l.heard;
        left = l.left;
        within = l.within;
        chained = l.chained;
        ends = λ before rest. ap stop_of (l.ends before rest) ∙ ended (world s.machine l.left (before ++ l.heard) rest);
      };
      within = omega (arith, none);
    };
    questions = questions;
  }

  pub refused_idle : (why : Refusal) → IsIdle growths (Refuse why) s
  refused_idle why = idle_row (Refuse why) (Replied (Refused why)) (refused_due growths s why none) none (λ w. refl)

  acted_idle : (after : Machine) (reply : Reply) → IsIdle growths (Act after reply) s
  acted_idle after reply = idle_row (Act after reply) (Early Stopped)
      (act_due growths s.turns s s after reply none none refl refl) none (λ w. refl)

  -- a growth: it is stopped, but where the rule lets it fail
  grow_stops : (p : Plan Reply) (rule : Rule) (before : List Asking) (rest : List Answer) →
      plan_rule s.machine p ≡ rule → stop_of (by_row (Grow p) (world s.machine 0 before rest)) ≡ Some
      (world s.machine 0 before rest)
  grow_stops p Grows before rest e = ap stop_of (grow_is 0 s.machine p Grows e before rest)
  grow_stops p Fails before rest e = ap stop_of (grow_is 0 s.machine p Fails e before rest)
  grow_stops p Asks before rest e = ap stop_of (grow_is 0 s.machine p Asks e before rest)

  grow_idle : (p : Plan Reply) → IsIdle growths (Grow p) s
  grow_idle p = record {
    cut = record {
      led = record {
        heard = [];
        left = 0;
        within = omega arith;
        chained = refl;
        ends = λ before rest.
            ap (λ (t : ℕ). stop_of (by_row (Grow p) (world s.machine t before rest))) none
            ∙ grow_stops p (plan_rule s.machine p) before rest refl
            ∙ ap (λ (heard : List Asking). Some (world s.machine 0 heard rest)) (sym (append-nil before));
      };
      within = omega (arith, none);
    };
    questions = none;
  }

  -- an act at the reading of the epoch: it is stopped before the reading
  dated_stops : (after : ℕ → Machine) (reply : Reply) (turns : ℕ) (before : List Asking) (rest : List Answer) →
      turns ≡ 0 → stop_of (by_row (ActAt after reply) (world s.machine turns before rest))
      ≡ Some (world s.machine 0 before rest)
  dated_stops after reply turns before rest e =
      ap (λ (t : ℕ). stop_of (by_row (ActAt after reply) (world s.machine t before rest))) e

  dated_idle : (after : ℕ → Machine) (reply : Reply) → IsIdle growths (ActAt after reply) s
  dated_idle after reply = record {
    cut = record {
      led = record {
        heard = [];
        left = 0;
        within = omega arith;
        chained = refl;
        ends = λ before rest.
            dated_stops after reply s.turns before rest none
            ∙ ap (λ (heard : List Asking). Some (world s.machine 0 heard rest)) (sym (append-nil before));
      };
      within = omega (arith, none);
    };
    questions = none;
  }

  -- each row that runs no code
  pub row_idle : (r : Row) → IsCodeless r → IsIdle growths r s
  row_idle (Refuse why) plain = refused_idle why
  row_idle (Act after reply) plain = acted_idle after reply
  row_idle (Grow p) plain = grow_idle p
  row_idle (ActAt after reply) plain = dated_idle after reply
  row_idle (Invoke c) plain = absurd plain
  row_idle (Instantiate d imports) plain = absurd plain

-- ---- a call

-- a refusal hears nothing
pub refused_cut : {T H E : Type 0} (moves : Moving T H E) (s : Surrounded T H E) → s.store.turns ≡ 0 →
    (why : Refusal) → CutRow moves (Refuse why) s s
refused_cut moves s none why = record {
  led = record {
    heard = [];
    left = 0;
    within = omega arith;
    chained = refl;
    ends = λ before rest.
        ap (λ (t : ℕ). Some (world s.store.machine t before rest)) none
        ∙ ap (λ (heard : List Asking). Some (world s.store.machine 0 heard rest)) (sym (append-nil before));
  };
  within = omega (arith, none);
}

module _ {T H E : Type 0} (r : Relations T H E) (s : Surrounded T H E) (none : s.store.turns ≡ 0)
    (well : IsWellFormed s.store.machine) where
  abbrev m : Machine
  m = s.store.machine

  module _ (f : Func) (args : List Val) (wanted : Option ℕ) (c : Called) (e : called m f args wanted ≡ Ok c) where
    invoked_by : Idles r (outside s) c.function c.arguments None m → CutRow (typed r) (Invoke c) s s
    invoked_by y = record {
      led = record {
        heard = y.heard;
        left = 0;
        within = omega arith;
        chained = y.chain;
        ends = λ before rest.
            ap (λ (t : ℕ). stop_of (by_row (Invoke c) (world m t before (answers_in y.heard ++ rest)))) none
            ∙ stops m c.function c.arguments None c.results 0 (call_safe m f args wanted c e well 0 (omega arith)) 0
            (omega arith) y.heard (heard_typed r (outside s) (outside s) y.heard y.chain) m
            (idle_halts r (outside s) c.function c.arguments None m y) (call_reply c)
            before rest;
      };
      within = omega (arith, none);
    }

    pub invoked_cut : CutRow (typed r) (Invoke c) s s
    invoked_cut = invoked_by (idles r (outside s) c.function c.arguments None m)

  called_cut : (f : Func) (args : List Val) (wanted : Option ℕ) (due : Result Called Refusal) →
      called m f args wanted ≡ due → CutRow (typed r) (invokes due) s s
  called_cut f args wanted (Ok c) e = invoked_cut f args wanted c e
  called_cut f args wanted (Err why) e = refused_cut (typed r) s none why

  named_cut : {A : Type 0} (o : Option A) (go : A → Row) → ((a : A) → CutRow (typed r) (go a) s s) →
      CutRow (typed r) (named o go) s s
  named_cut None go h = refused_cut (typed r) s none NoReply
  named_cut (Some a) go h = h a

  pub call_cut : (v : Scope) (func : Name) (args : List Operand) (wanted : Option ℕ) →
      CutRow (typed r) (operation m v (Call func args wanted)) s s
  call_cut v func args wanted =
      named_cut (named_func v func) _
      (λ f. named_cut (operand_values v args) _
      (λ vals. called_cut f vals wanted (called m f vals wanted) refl))
