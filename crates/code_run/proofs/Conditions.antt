-- Instructions of control that take an operand, and calls by an index.
use Rattle.std.proofs.Common.{◌≡◌, ℕ, zero, suc, List, Option, Some, None, refl, sym, ap, ◌∙◌}
use Rattle.std.specs.Prelude.{cond, slice_get, option_map, option_and_then, ◌==◌}
use Rattle.wasm_syntax.specs.declared.instr.Instr.TheVariants as i
use Rattle.spec_machine.specs.Machine.{InstanceParts}
use Rattle.spec_execution.specs.Bodies.{stuck, block, branch_if, target, call, exec}
use Rattle.spec_execution.specs.Entering.{Run}
use Rattle.spec_execution.specs.Operands as on
use Rattle.spec_execution.specs.Outcomes.{World, State, state, Outcome, Branch, Over, Stuck}
use Rattle.store_state.specs.Machine.{function_number}
use Rattle.store_state.specs.Parts.{Names, ProgramParts}
use Rattle.code_stack.specs.Reading.{LacksI32, TakesI32}
use Rattle.code_stack.specs.Values.{Below, ValuesParts}
use Rattle.code_run.specs.Acting.{Executes, CallsIndex}
use Rattle.code_leaps.specs.Calling.{names_of, IsOf}
use Rattle.code_run.specs.Calling.{Calls}
use Rattle.code_run.specs.Control.{Enters, Branches}
use Rattle.code_stack.specs.Layers.{frame_at, state_at, outwards, owing}
use Rattle.code_leaps.specs.Running.{executing}
use Rattle.code_run.specs.Steps.{seen}
use Rattle.code_stack.specs.declared.steps.Fault.TheVariants as fault
use Rattle.code_stack.specs.declared.steps.Step.{Step}
use Rattle.code_stack.specs.declared.steps.Step.TheVariants.{Goes, Fails}
use Rattle.code_run.specs.declared.thread.Thread.{Thread}
use Rattle.code_stack.proofs.LayerLemmas.{owing_over}
use Rattle.code_run.proofs.Threads.{comes_from}
use Rattle.code_leaps.proofs.OperandLemmas.{i32_lacks, i32_takes}

-- what is done behind an operand that was taken
module _ (old : Thread) (val : ValuesParts) (el : val.locals ≡ old.values.locals) (eb : val.below ≡ old.values.below)
    (w : World) where
  abbrev pub taken : Thread
  taken = record old { values = val }

  pub behind : (go : State → Outcome) → owing (seen old) (go (state w old.values.locals val.operands)) ≡ owing
      (seen taken) (go (state_at (seen taken) w))
  behind go =
      ap (λ (b : Below). outwards old.activation old.layers b.operands b.locals
      (go (state w old.values.locals val.operands))) (sym eb)
      ∙ ap (λ locals. outwards old.activation old.layers val.below.operands val.below.locals
      (go (state w locals val.operands))) (sym el)

module _ (old new : Thread) where
  pub if_lacks : (a b : ℕ) → LacksI32 old.values.operands → Executes (i.If a b) old (Fails fault.Stuck) new
  if_lacks a b h = λ w. owing_over (seen old) _ Stuck w
      (i32_lacks (stuck (state_at (seen old) w)) old.values.operands _ h)

  pub br_if_lacks : (l : ℕ) → LacksI32 old.values.operands → Executes (i.BrIf l) old (Fails fault.Stuck) new
  br_if_lacks l h = λ w. owing_over (seen old) _ Stuck w
      (i32_lacks (stuck (state_at (seen old) w)) old.values.operands _ h)

  pub br_table_lacks : (k : ℕ) → LacksI32 old.values.operands → Executes (i.BrTable k) old (Fails fault.Stuck) new
  br_table_lacks k h = λ w. owing_over (seen old) _ Stuck w
      (i32_lacks (stuck (state_at (seen old) w)) old.values.operands _ h)

  module _ (val : ValuesParts) (el : val.locals ≡ old.values.locals) (eb : val.below ≡ old.values.below) (x : ℕ)
      (h : TakesI32 old.values.operands x val.operands) where
    if_is : (a b : ℕ) (w : World) → executing (seen old) (i.If a b) w
        ≡ owing (seen (taken old val el eb w)) (block exec (frame_at (seen old)) (cond (x == 0) b a) old.code.now
        (state_at (seen (taken old val el eb w)) w))
    if_is a b w =
        ap (λ o. owing (seen old) o) (i32_takes (stuck (state_at (seen old) w)) old.values.operands x val.operands
        (λ x rest. block exec (frame_at (seen old)) (cond (x == 0) b a) old.code.now
        (state w old.values.locals rest)) h)
        ∙ behind old val el eb w (λ s. block exec (frame_at (seen old)) (cond (x == 0) b a) old.code.now s)

    pub if_goes : (a b c : ℕ) (step : Step) → cond (x == 0) b a ≡ c → Enters c (record old { values = val }) step new
        → Executes (i.If a b) old step new
    if_goes a b c step e next = λ w.
        comes_from _ _ step (seen new) w
        (if_is a b w ∙ ap (λ k. owing (seen (taken old val el eb w))
        (block exec (frame_at (seen old)) k old.code.now (state_at (seen (taken old val el eb w)) w))) e) (next w)

    br_if_is : (l : ℕ) (w : World) → executing (seen old) (i.BrIf l) w
        ≡ owing (seen (taken old val el eb w)) (branch_if x l (state_at (seen (taken old val el eb w)) w)
        (exec (Run (frame_at (seen old)) old.code.now)))
    br_if_is l w =
        ap (λ o. owing (seen old) o) (i32_takes (stuck (state_at (seen old) w)) old.values.operands x val.operands
        (λ x rest. branch_if x l (state w old.values.locals rest) (exec (Run (frame_at (seen old)) old.code.now)))
        h)
        ∙ behind old val el eb w (λ s. branch_if x l s (exec (Run (frame_at (seen old)) old.code.now)))

    pub br_if_stays : (l : ℕ) → x ≡ 0 → Executes (i.BrIf l) old Goes (record old { values = val })
    br_if_stays l e = λ w.
        br_if_is l w ∙ ap (λ k. owing (seen (taken old val el eb w))
        (branch_if k l (state_at (seen (taken old val el eb w)) w)
        (exec (Run (frame_at (seen old)) old.code.now)))) e

    branches : (k l : ℕ) (s : State) (go : State → Outcome) → (k ≡ 0 → ⊥) → branch_if k l s go ≡ Branch l s
    branches zero l s go other = absurd (other refl)
    branches (suc k) l s go other = refl

    pub br_if_leaves : (l : ℕ) (step : Step) → (x ≡ 0 → ⊥) → Branches l (record old { values = val }) step new →
        Executes (i.BrIf l) old step new
    br_if_leaves l step other next = λ w.
        comes_from _ _ step (seen new) w
        (br_if_is l w ∙ ap (λ o. owing (seen (taken old val el eb w)) o)
        (branches x l (state_at (seen (taken old val el eb w)) w) (exec (Run (frame_at (seen old)) old.code.now))
        other)) (next w)

    by_table : Option ℕ → State → Outcome
    by_table o s = on.found (stuck s) o (λ l. Branch l s)

    flat : (s : State) (o : Option (List ℕ)) → on.found (stuck s) o
        (λ labels. on.found (stuck s) (target labels x) (λ l. Branch l s)) ≡ by_table
        (option_and_then (λ labels. target labels x) o) s
    unfolding by_table
    flat s None = refl
    flat s (Some labels) = refl

    br_table_is : (k : ℕ) (o : Option ℕ) (w : World) →
        o ≡ option_and_then (λ labels. target labels x) (slice_get old.activation.function.now.targets k) →
        executing (seen old) (i.BrTable k) w ≡ owing (seen (taken old val el eb w))
        (by_table o (state_at (seen (taken old val el eb w)) w))
    unfolding by_table
    br_table_is k o w e =
        ap (λ o. owing (seen old) o) (i32_takes (stuck (state_at (seen old) w)) old.values.operands x val.operands
        (λ x rest. on.found (stuck (state_at (seen old) w)) (slice_get old.activation.function.now.targets k)
        (λ labels. on.found (stuck (state_at (seen old) w)) (target labels x)
        (λ l. Branch l (state w old.values.locals rest)))) h)
        ∙ ap (λ o. owing (seen old) o) (flat (state w old.values.locals val.operands)
        (slice_get old.activation.function.now.targets k))
        ∙ ap (λ o. owing (seen old) (by_table o (state w old.values.locals val.operands))) (sym e)
        ∙ behind old val el eb w (λ s. by_table o s)

    pub br_table_none : (k : ℕ) → None ≡ option_and_then (λ labels. target labels x)
        (slice_get old.activation.function.now.targets k) → Executes (i.BrTable k) old (Fails fault.Stuck) new
    unfolding by_table
    br_table_none k e = λ w. br_table_is k None w e
        ∙ owing_over (seen (taken old val el eb w)) (Over Stuck w) Stuck w refl

    pub br_table_leaves : (k l : ℕ) (step : Step) →
        Some l ≡ option_and_then (λ labels. target labels x) (slice_get old.activation.function.now.targets k) →
        Branches l (record old { values = val }) step new → Executes (i.BrTable k) old step new
    unfolding by_table
    br_table_leaves k l step e next = λ w. comes_from _ _ step (seen new) w (br_table_is k (Some l) w e) (next w)

-- ---- calls by an index

module _ (program : ProgramParts) (frames k : ℕ) (old new : Thread) where
  numbered : (go : ℕ → Outcome) (u : Outcome) (o : Option InstanceParts) →
      on.found u o (λ i. on.found u (slice_get i.functions k) go) ≡ on.found u
      (option_and_then (λ (n : Names). slice_get n.functions k) (option_map names_of o)) go
  numbered go u None = refl
  numbered go u (Some i) = refl

  index_is : (w : World) → IsOf program frames w.machine → (o : Option ℕ) →
      o ≡ function_number program old.activation.instance k →
      executing (seen old) (i.Call k) w ≡ owing (seen old)
      (on.found (stuck (state_at (seen old) w)) o (call exec (frame_at (seen old)) old.code.now
      (state_at (seen old) w)))
  index_is w h o e =
      let go = call exec (frame_at (seen old)) old.code.now (state_at (seen old) w) in
      let u = stuck (state_at (seen old) w) in
      ap (λ o. owing (seen old) o) (numbered go u (slice_get w.machine.instances old.activation.instance)
      ∙ ap (λ o. on.found u (option_and_then (λ (n : Names). slice_get n.functions k) o) go)
      (h.instances old.activation.instance)
      ∙ ap (λ o. on.found u o go) (sym e))

  pub index_none : None ≡ function_number program old.activation.instance k →
      CallsIndex program frames k old (Fails fault.Stuck) new
  index_none e = λ w h. index_is w h None e ∙ owing_over (seen old) (Over Stuck w) Stuck w refl

  pub index_calls : (n : ℕ) (step : Step) → Some n ≡ function_number program old.activation.instance k →
      Calls program frames n old step new → CallsIndex program frames k old step new
  index_calls n step e next = λ w h. comes_from _ _ step (seen new) w (index_is w h (Some n) e) (next w h)
