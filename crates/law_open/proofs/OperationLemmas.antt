-- How an operation that a step asks for comes to its reply, by its row.
use Rattle.std.proofs.Common.{◌≡◌, ℕ, suc, ◌+◌, List, [], ◌∷◌, ◌++◌, refl, sym, ap, ◌∙◌, arith}
use Rattle.std.specs.Prelude.{Bool, Result, Ok, Err}
use Rattle.std.proofs.lemmas.List.{append-nil}
use Rattle.wasm_meter.specs.declared.faults.EpochFailed.{EpochFailed}
use Rattle.wasm_meter.specs.declared.faults.LimiterFailed.{LimiterFailed}
use Rattle.wasm_values.specs.declared.refusals.Refusal.{Refusal}
use Rattle.wasm_values.specs.declared.refusals.Refusal.TheVariants as refusal
use Rattle.spec_machine.specs.Commands.{Row, Refuse, Act, ActAt, Grow}
use Rattle.spec_machine.specs.Commands as command
use Rattle.spec_machine.specs.Growth.{Decision, Granted, Failed, Faulted, Rule, Grows, Fails, Asks, Plan, plan_rule, answered_growth}
use Rattle.spec_machine.specs.Machine.{Machine}
use Rattle.spec_machine.specs.Names.{Scope}
use Rattle.spec_machine.specs.declared.operation.Op.{Op}
use Rattle.spec_machine.specs.declared.reply.Reply.{Reply}
use Rattle.spec_machine.specs.declared.reply.Reply.TheVariants as reply
use Rattle.spec_execution.specs.Askings.{Growing, Reading, Answer, Grown, Read, Asking}
use Rattle.spec_execution.specs.Bodies.{exec}
use Rattle.spec_execution.specs.Checks.{by_rule}
use Rattle.spec_execution.specs.Commands.{grown, perform, operation}
use Rattle.spec_execution.specs.Outcomes.{World, world, Outcome, Over}
use Rattle.law_open.specs.Steps.{ComesTo}
use Rattle.law_open.specs.OpenLaws.{OperationsCome}

module _ (depth : ℕ) (scope : Scope) (op : Op) (m : Machine) where
  -- by its row
  by_row : (r : Row) → command.operation m scope op ≡ r → (w : World) → w.machine ≡ m → (go : World → Reply → Outcome)
      → operation Over exec depth scope op w go ≡ perform Over exec depth w r go
  by_row r e w same go =
      ap (λ (k : Machine). perform Over exec depth w (command.operation k scope op) go) same
      ∙ ap (λ (r : Row). perform Over exec depth w r go) e

  -- nothing was heard
  module _ (n : Machine) (answer : Reply) (go : World → Reply → Outcome) where
    quietly : (extra : ℕ) (before : List Asking) (rest : List Answer)
        → go (world n extra before rest) answer ≡ go (world n extra (before ++ []) rest) answer
    quietly extra before rest = ap (λ q. go (world n extra q rest) answer) (sym (append-nil before))

  refused : (why : Refusal) → command.operation m scope op ≡ Refuse why → ComesTo depth scope op m 0 [] (reply.Refused why) m
  refused why e go = record {
    by = λ extra before rest.
        let none : 0 + extra ≡ extra = omega arith in
        ap (λ t. operation Over exec depth scope op (world m t before rest) go) none
        ∙ by_row (Refuse why) e (world m extra before rest) refl go ∙ quietly m (reply.Refused why) go extra before rest;
  }

  acts : (n : Machine) (answer : Reply) → command.operation m scope op ≡ Act n answer
      → ComesTo depth scope op m 1 [] answer n
  acts n answer e go = record {
    by = λ extra before rest.
        let one : 1 + extra ≡ suc extra = omega arith in
        ap (λ t. operation Over exec depth scope op (world m t before rest) go) one
        ∙ by_row (Act n answer) e (world m (suc extra) before rest) refl go ∙ quietly n answer go extra before rest;
  }

  module _ (at : ℕ → Machine) (answer : Reply) (e : command.operation m scope op ≡ ActAt at answer) where
    dated : (reading : ℕ) → ComesTo depth scope op m 2 ((Reading, Read (Ok reading)) ∷ []) answer (at reading)
    dated reading go = record {
      by = λ extra before rest.
          let two : 2 + extra ≡ suc (suc extra) = omega arith in
          ap (λ t. operation Over exec depth scope op (world m t before (Read (Ok reading) ∷ rest)) go) two
          ∙ by_row (ActAt at answer) e (world m (suc (suc extra)) before (Read (Ok reading) ∷ rest)) refl go;
    }

    undated : (fault : EpochFailed)
        → ComesTo depth scope op m 1 ((Reading, Read (Err fault)) ∷ []) (reply.Refused refusal.EpochFault) m
    undated fault go = record {
      by = λ extra before rest.
          let one : 1 + extra ≡ suc extra = omega arith in
          ap (λ t. operation Over exec depth scope op (world m t before (Read (Err fault) ∷ rest)) go) one
          ∙ by_row (ActAt at answer) e (world m (suc extra) before (Read (Err fault) ∷ rest)) refl go;
    }

  module _ (p : Plan Reply) (e : command.operation m scope op ≡ Grow p) where
    -- by what the rule says
    ruled : (rule : Rule) → plan_rule m p ≡ rule → (turns : ℕ) (before : List Asking) (answers : List Answer)
        → (go : World → Reply → Outcome) → operation Over exec depth scope op (world m turns before answers) go
        ≡ by_rule Over (world m turns before answers) p (grown Over p go) rule
    ruled rule e1 turns before answers go =
        by_row (Grow p) e (world m turns before answers) refl go
        ∙ ap (λ (r : Rule). by_rule Over (world m turns before answers) p (grown Over p go) r) e1

    grows : plan_rule m p ≡ Grows → ComesTo depth scope op m 1 [] p.gives p.after
    grows e1 go = record {
      by = λ extra before rest.
          let one : 1 + extra ≡ suc extra = omega arith in
          ap (λ t. operation Over exec depth scope op (world m t before rest) go) one
          ∙ ruled Grows e1 (suc extra) before rest go ∙ quietly p.after p.gives go extra before rest;
    }

    fails : plan_rule m p ≡ Fails → ComesTo depth scope op m 0 [] (reply.Refused refusal.GrowFailed) m
    fails e1 go = record {
      by = λ extra before rest.
          let none : 0 + extra ≡ extra = omega arith in
          ap (λ t. operation Over exec depth scope op (world m t before rest) go) none
          ∙ ruled Fails e1 extra before rest go ∙ quietly m (reply.Refused refusal.GrowFailed) go extra before rest;
    }

    module _ (answer : Result Bool LimiterFailed) (e1 : plan_rule m p ≡ Asks) where
      -- by what the limiter answers
      decided : (d : Decision) → answered_growth p.growth answer ≡ d → (turns : ℕ) (before : List Asking)
          (rest : List Answer) (go : World → Reply → Outcome)
          → operation Over exec depth scope op (world m (suc turns) before (Grown answer ∷ rest)) go
          ≡ grown Over p go d (world m turns (before ++ (Growing p.growth, Grown answer) ∷ []) rest)
      decided d e2 turns before rest go =
          ruled Asks e1 (suc turns) before (Grown answer ∷ rest) go
          ∙ ap (λ (d : Decision). grown Over p go d (world m turns (before ++ (Growing p.growth, Grown answer) ∷ []) rest)) e2

      granted : answered_growth p.growth answer ≡ Granted
          → ComesTo depth scope op m 2 ((Growing p.growth, Grown answer) ∷ []) p.gives p.after
      granted e2 go = record {
        by = λ extra before rest.
            let two : 2 + extra ≡ suc (suc extra) = omega arith in
            ap (λ t. operation Over exec depth scope op (world m t before (Grown answer ∷ rest)) go) two
            ∙ decided Granted e2 (suc extra) before rest go;
      }

      failed : answered_growth p.growth answer ≡ Failed
          → ComesTo depth scope op m 1 ((Growing p.growth, Grown answer) ∷ []) (reply.Refused refusal.GrowFailed) m
      failed e2 go = record {
        by = λ extra before rest.
            let one : 1 + extra ≡ suc extra = omega arith in
            ap (λ t. operation Over exec depth scope op (world m t before (Grown answer ∷ rest)) go) one
            ∙ decided Failed e2 extra before rest go;
      }

      faulted : answered_growth p.growth answer ≡ Faulted
          → ComesTo depth scope op m 1 ((Growing p.growth, Grown answer) ∷ []) (reply.Refused refusal.LimiterFault) m
      faulted e2 go = record {
        by = λ extra before rest.
            let one : 1 + extra ≡ suc extra = omega arith in
            ap (λ t. operation Over exec depth scope op (world m t before (Grown answer ∷ rest)) go) one
            ∙ decided Faulted e2 extra before rest go;
      }

pub operations_come : OperationsCome
operations_come = record {
  refused = refused;
  acts = acts;
  dated = λ depth scope op m at answer reading e. dated depth scope op m at answer e reading;
  undated = λ depth scope op m at answer fault e. undated depth scope op m at answer e fault;
  grown = grows;
  not_grown = fails;
  granted = λ depth scope op m p answer e e1 e2. granted depth scope op m p e answer e1 e2;
  not_granted = λ depth scope op m p answer e e1 e2. failed depth scope op m p e answer e1 e2;
  not_limited = λ depth scope op m p answer e e1 e2. faulted depth scope op m p e answer e1 e2;
}
