-- A border where a hook is told, or none.
use Rattle.std.proofs.Common.{◌≡◌, ℕ, List, [], ◌∷◌, refl, sym, ap, ◌∙◌, arith, Bool, true, false}
use Rattle.std.specs.Prelude.{cond, not, Ok, Err, ⊤}
use Rattle.wasm_meter.specs.declared.call_hook.CallHook.{CallHook}
use Rattle.wasm_meter.specs.declared.faults.HookFailed.{HookFailed}
use Rattle.wasm_values.specs.declared.refusals.Refusal.TheVariants as refusal
use Rattle.wasm_values.specs.declared.store_id.StoreId.{StoreId}
use Rattle.spec_machine.specs.Machine.{Machine, EngineParts}
use Rattle.spec_execution.specs.Askings.{Question, Passing, Answer, Passed, Asking}
use Rattle.spec_execution.specs.Checks.{passed, pass}
use Rattle.spec_execution.specs.Outcomes.{Over, Refused, ask}
use Rattle.store_state.specs.Parts.{ProgramParts, HeldParts}
use Rattle.code_leaps.specs.Leading.{Doing, Setting, at, Leads}
use Rattle.code_leaps.proofs.PartLemmas.{leads_none, leads_from, stops_from}
use Rattle.code_run.proofs.QuestionLemmas as question
use Rattle.code_hosts.specs.declared.bounds.Bounds.{Bounds}
use Rattle.code_hosts.specs.Hosting.{IsOpen, opened}
use Rattle.code_hosts.specs.Telling.{Tells}
use Rattle.code_hosts.specs.declared.borders.Told.{Told}
use Rattle.code_hosts.specs.declared.borders.Word.{Word}
use Rattle.code_hosts.specs.declared.borders.Word.TheVariants as word

abbrev pub told_of : Word → ℕ → Told
told_of word spent = record { word = word; spent = spent }

-- by a test of the negation
pub denied : (b : Bool) → not b ≡ true → b ≡ false
denied true e = absurd (cc e)
denied false e = refl

pub affirmed : (b : Bool) → not b ≡ false → b ≡ true
affirmed true e = refl
affirmed false e = absurd (cc e)

module _ {W : Type 0} (program : ProgramParts) (bounds : Bounds) (id : StoreId) (engine : EngineParts)
    (moves : W → Question → Answer → W → Type 0) (event : CallHook) (h : HeldParts) (o : W) (left : ℕ) where
  abbrev stores : Setting HeldParts
  stores = opened program bounds id engine

  pass_at : (hooked : Bool) → bounds.hooked ≡ hooked → (go : Doing) (base : Machine) →
      IsOpen bounds id engine base → (turns : ℕ) (before : List Asking) (answers : List Answer) →
      pass event (at stores base h turns before answers) go
      ≡ cond hooked (ask Over (at stores base h turns before answers) (Passing event) (passed go))
      (go (at stores base h turns before answers))
  pass_at hooked e go base b turns before answers =
      let w = at stores base h turns before answers in
      ap (λ b. cond b (ask Over w (Passing event) (passed go)) (go w)) (b.bounded.hooked_is ∙ e)

  pub unhooked : bounds.hooked ≡ false → Tells stores moves event h o left (told_of word.Passes 0) o
  unhooked e = record {
    within = omega arith;
    heard = [];
    chain = refl;
    by = λ go.
        leads_from stores (λ w. pass event w go) go h (pass_at false e go) 0 [] go h (leads_none stores go h);
  }

  module _ (e : bounds.hooked ≡ true) where
    pub untold : left ≡ 0 → Tells stores moves event h o left (told_of word.Limit 0) o
    untold none = record {
      within = omega arith;
      heard = [];
      chain = refl;
      by = λ go. (
        stops_from stores (λ w. pass event w go) (λ w. ask Over w (Passing event) (passed go)) h
            (pass_at true e go) 0 [] h (question.unasked stores (Passing event) (passed go) h),
        sym none,
      );
    }

    module _ (some : left ≡ 0 → ⊥) (o' : W) where
      heard_of : (a : Answer) (next : Doing) (go : Doing) →
          Leads stores (λ w. ask Over w (Passing event) (passed go)) h 1 ((Passing event, a) ∷ []) next h →
          Leads stores (λ w. pass event w go) h 1 ((Passing event, a) ∷ []) next h
      heard_of a next go l =
          leads_from stores (λ w. pass event w go) (λ w. ask Over w (Passing event) (passed go)) h
          (pass_at true e go) 1 ((Passing event, a) ∷ []) next h l

      pub faults : (why : HookFailed) → moves o (Passing event) (Passed (Err why)) o' →
          Tells stores moves event h o left (told_of word.Fails 1) o'
      faults why m = record {
        within = omega (arith, some);
        heard = (Passing event, Passed (Err why)) ∷ [];
        chain = (o', m, refl);
        by = λ go.
            heard_of (Passed (Err why)) (λ w. Over (Refused refusal.HookFault) w) go
            (question.asked stores (Passing event) (passed go) h (Passed (Err why)) refl);
      }

      pub goes : (u : ⊤) → moves o (Passing event) (Passed (Ok u)) o' →
          Tells stores moves event h o left (told_of word.Passes 1) o'
      goes u m = record {
        within = omega (arith, some);
        heard = (Passing event, Passed (Ok u)) ∷ [];
        chain = (o', m, refl);
        by = λ go.
            heard_of (Passed (Ok u)) go go
            (question.asked stores (Passing event) (passed go) h (Passed (Ok u)) refl);
      }
