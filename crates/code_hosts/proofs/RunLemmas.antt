-- A run of code among functions of the host.
use Rattle.std.proofs.Common.{◌≤◌, ℕ, List, [], ◌∷◌}
use Rattle.std.specs.Prelude.{take}
use Rattle.wasm_values.specs.declared.store_id.StoreId.{StoreId}
use Rattle.spec_machine.specs.Machine.{EngineParts}
use Rattle.spec_execution.specs.Askings.{Question, Growing, Reading, Behaving, Answer, Grown, Read, Behaved, Asking, Chain}
use Rattle.spec_execution.specs.Outcomes.{state, Values, Over}
use Rattle.store_state.specs.Parts.{ProgramParts, HeldParts}
use Rattle.code_run.specs.Asking.{Moving, Asks}
use Rattle.code_stack.specs.Layers.{Configuration}
use Rattle.code_leaps.specs.Leading.{Doing, Leads}
use Rattle.code_run.specs.Pausing.{due, IfEnds, IfPauses, Pauses, turns_of}
use Rattle.code_run.specs.Steps.{seen}
use Rattle.code_run.specs.declared.thread.Thread.{Thread}
use Rattle.code_run.specs.declared.turns.Went.{Went}
use Rattle.code_run.specs.declared.turns.Went.TheVariants as went
use Rattle.code_leaps.specs.Running.{ruled}
use Rattle.code_stack.specs.Steps.{end_of, hosted}
use Rattle.code_leaps.specs.Turns.{EndsBy, Ends}
use Rattle.code_stack.specs.declared.turns.Ended.{Ended}
use Rattle.code_stack.specs.declared.turns.Ending.{Ending}
use Rattle.code_stack.specs.declared.turns.Ending.TheVariants as ending
use Rattle.code_hosts.specs.declared.bounds.Bounds.{Bounds}
use Rattle.code_hosts.specs.Asked.{Moves}
use Rattle.code_hosts.specs.Hosting.{opened}

module _ {W : Type 0} (bounds : Bounds) (moves : Moving W) where
  goes : (old new : W) (q : Question) (a : Answer) → Asks bounds.rules moves old q a new → Moves bounds moves old q a new
  goes old new (Growing g) (Grown answer) m = (tt, tt, m)
  goes old new Reading (Read answer) m = (tt, tt, m.1)
  goes old new Behaving (Behaved answer) m = ((m.0, m.1), tt, m.2)
  goes old new q a m = absurd m

  chain_whole : (old new : W) (heard : List Asking) → Chain (Asks bounds.rules moves) old heard new →
      Chain (Moves bounds moves) old heard new
  chain_whole old new [] c = c
  chain_whole old new (asking ∷ heard) c =
      (c.0, goes old c.0 asking.0 asking.1 c.1, chain_whole c.0 new heard c.2)

  module _ (program : ProgramParts) (id : StoreId) (engine : EngineParts) where
    module _ (first : Doing) (h : HeldParts) (left spent : ℕ) (heard : List Asking) (new : Configuration)
        (h' : HeldParts) where
      leads_opened : (next : Doing) → Leads (ruled program bounds.rules) first h spent heard next h' →
          Leads (opened program bounds id engine) first h spent heard next h'
      leads_opened next l = record { by = λ base b. l.by base b.bounded.ruled }

      ends_opened : (e : Ending) → EndsBy (ruled program bounds.rules) first h left spent heard new h' e →
          EndsBy (opened program bounds id engine) first h left spent heard new h' e
      ends_opened (ending.Fails f) l = leads_opened (λ w. Over (end_of f) w) l
      ends_opened ending.Done l =
          leads_opened (λ w. Values (state w [] (take new.activation.results new.values.operands))) l
      ends_opened (ending.Calls call) l = leads_opened (hosted new call) l
      ends_opened ending.Limit l = (record { by = λ base b. l.0.by base b.bounded.ruled }, l.1)
      ends_opened ending.Exhausted l = record { by = λ base b. l.by base b.bounded.ruled }

    -- so a run by these rules is one by these bounds
    pub run_opened : (first : Doing) (h : HeldParts) (o o' : W) (turns : ℕ) (x : Ended) (new : Configuration)
        (h' : HeldParts) → Ends (ruled program bounds.rules) (Asks bounds.rules moves) first h o turns x new h' o' →
        Ends (opened program bounds id engine) (Moves bounds moves) first h o turns x new h' o'
    run_opened first h o o' turns x new h' y = record {
      within = y.within;
      heard = y.heard;
      chain = chain_whole o o' y.heard y.chain;
      ends = ends_opened first h turns x.spent y.heard new h' x.how y.ends;
    }

    -- and so a slice of it
    module _ (first : Doing) (h : HeldParts) (o o' : W) (turns slice : ℕ) (new : Thread) (h' : HeldParts) where
      abbrev ByRules : Ended → Type 0
      ByRules x = Ends (ruled program bounds.rules) (Asks bounds.rules moves) first h o turns x (seen new) h' o'

      abbrev PausesByRules : ℕ → Type 0
      PausesByRules n =
          Pauses (ruled program bounds.rules) (Asks bounds.rules moves) first h o turns slice n new h' o'

      pub slice_ends : (x : Went) → IfEnds x ByRules →
          IfEnds x (λ e. Ends (opened program bounds id engine) (Moves bounds moves) first h o turns e (seen new) h' o')
      slice_ends (went.Ends e) y = run_opened first h o o' turns e (seen new) h' y
      slice_ends (went.Pauses n) y = tt

      pub slice_pauses : (x : Went) → IfPauses x PausesByRules →
          IfPauses x (λ n. Pauses (opened program bounds id engine) (Moves bounds moves) first h o turns slice n new h' o')
      slice_pauses (went.Ends e) y = tt
      slice_pauses (went.Pauses n) y = record {
        within = y.within;
        whole = y.whole;
        some = y.some;
        checks = y.checks;
        passes = record {
          heard = y.passes.heard;
          chain = chain_whole o o' y.passes.heard y.passes.chain;
          leads = leads_opened first h 0 n y.passes.heard (seen new) h' (due new) y.passes.leads;
        };
      }

      pub slice_within : (x : Went) → IfEnds x ByRules → IfPauses x PausesByRules → turns_of x ≤ turns
      slice_within (went.Ends e) y z = y.within
      slice_within (went.Pauses n) y z = z.within
