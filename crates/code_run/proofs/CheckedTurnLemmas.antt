-- A check, and then the next turn.
use Rattle.std.proofs.Common.{◌≡◌, ℕ, ◌+◌, ◌-◌, sym, subst, true}
use Rattle.spec_execution.specs.Askings.{Question, Answer}
use Rattle.spec_execution.specs.Checks.{check}
use Rattle.store_state.specs.Parts.{ProgramParts, HeldParts}
use Rattle.code_run.specs.Checking.{ChecksBy, Checks}
use Rattle.code_stack.specs.Layers.{Configuration, means}
use Rattle.code_leaps.specs.Running.{ruled, charged}
use Rattle.code_leaps.specs.Turns.{going, Turns}
use Rattle.code_run.specs.declared.checks.Verdict.{Verdict}
use Rattle.code_run.specs.declared.checks.Verdict.TheVariants as check_is
use Rattle.code_run.specs.declared.checks.Checked.{Checked}
use Rattle.code_stack.specs.declared.rules.Rules.{Rules}
use Rattle.code_stack.specs.declared.steps.Fault.{Fault}
use Rattle.code_stack.specs.declared.turns.Ending.TheVariants as ending
use Rattle.code_stack.specs.declared.turns.Turn.{Turn}
use Rattle.code_stack.specs.declared.turns.Turn.TheVariants as turn
use Rattle.code_leaps.proofs.InstructionTurnLemmas.{charged_none}
use Rattle.code_run.proofs.Runs.{turns_on}

-- where the fuel that was owed is taken
module _ {W : Type 0} (program : ProgramParts) (rules : Rules) (moves : W → Question → Answer → W → Type 0)
    (mid : Configuration) (held : HeldParts) (owed : ℕ) (h : HeldParts)
    (taken : h ≡ charged rules.consumes_fuel held owed) (t : W) (left : ℕ) (c : Checked) (h' : HeldParts) (t' : W)
    (x : Checks (ruled program rules) moves check h t left c h' t') where
  from_taken : (what : Turn) (spent : ℕ) (new : Configuration) (k : HeldParts) (u : W) →
      Turns (ruled program rules) moves (going true mid) h t left what spent new k u →
      Turns (ruled program rules) moves (going true mid) (charged rules.consumes_fuel held owed) t left what spent new k u
  from_taken what spent new k u y =
      subst (λ (z : HeldParts). Turns (ruled program rules) moves (going true mid) z t left what spent new k u) taken y

  by_check : (what : Verdict) → c.what ≡ what →
      ChecksBy (ruled program rules) check (means mid) h left c.spent x.heard h' what
  by_check what e =
      subst (λ (k : Verdict). ChecksBy (ruled program rules) check (means mid) h left c.spent x.heard h' k) e
      (x.by (means mid))

  nothing_owed : (what : Turn) (new : Configuration) →
      Turns (ruled program rules) moves (going true mid) h t left what c.spent new h' t' →
      Turns (ruled program rules) moves (going true mid) (charged rules.consumes_fuel held owed) t left what c.spent new
      (charged rules.consumes_fuel h' 0) t'
  nothing_owed what new y =
      from_taken what c.spent new (charged rules.consumes_fuel h' 0) t'
      (subst (λ (z : HeldParts). Turns (ruled program rules) moves (going true mid) h t left what c.spent new z t')
      (sym (charged_none rules.consumes_fuel h')) y)

  pub check_fails : (new : Configuration) (f : Fault) → c.what ≡ check_is.Fails f →
      Turns (ruled program rules) moves (going true mid) (charged rules.consumes_fuel held owed) t left
      (turn.Ends (ending.Fails f)) c.spent new (charged rules.consumes_fuel h' 0) t'
  check_fails new f e = nothing_owed (turn.Ends (ending.Fails f)) new (record {
    within = x.within;
    heard = x.heard;
    chain = x.chain;
    turns = by_check (check_is.Fails f) e;
  })

  pub check_stops : (new : Configuration) → c.what ≡ check_is.Limit →
      Turns (ruled program rules) moves (going true mid) (charged rules.consumes_fuel held owed) t left
      (turn.Ends ending.Limit) c.spent new (charged rules.consumes_fuel h' 0) t'
  check_stops new e = nothing_owed (turn.Ends ending.Limit) new (record {
    within = x.within;
    heard = x.heard;
    chain = x.chain;
    turns = by_check check_is.Limit e;
  })

  pub check_then : c.what ≡ check_is.Passes → (what : Turn) (spent : ℕ) (new : Configuration) (k : HeldParts) (u : W) →
      Turns (ruled program rules) moves (means mid) (charged rules.consumes_fuel h' 0) t' (left - c.spent) what spent new
      k u →
      Turns (ruled program rules) moves (going true mid) (charged rules.consumes_fuel held owed) t left what
      (c.spent + spent) new k u
  check_then e what spent new k u y =
      from_taken what (c.spent + spent) new k u
      (turns_on (ruled program rules) moves (going true mid) h t c.spent (means mid) h' t' (record {
        heard = x.heard;
        chain = x.chain;
        leads = by_check check_is.Passes e;
      }) left x.within spent new k u what
      (subst (λ (z : HeldParts). Turns (ruled program rules) moves (means mid) z t' (left - c.spent) what spent new k u)
      (charged_none rules.consumes_fuel h') y))
