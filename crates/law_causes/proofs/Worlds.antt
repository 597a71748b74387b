-- Where a run stands: what was heard since it began; and how what may end early ends: by a refusal only where its cause was
-- heard.
use Rattle.std.proofs.Common.{◌≡◌, ℕ, zero, suc, Bool, true, false, List, [], ◌∷◌, ◌++◌, Option, Some, None, ap, ◌∙◌}
use Rattle.std.specs.Prelude.{if◌then◌else◌}
use Rattle.std.proofs.lemmas.List.{append_assoc}
use Rattle.wasm_values.specs.declared.refusals.Refusal.{Refusal}
use Rattle.spec_execution.specs.Askings.{Question, Answer, Asking, is_answer}
use Rattle.spec_execution.specs.Operands as on
use Rattle.spec_execution.specs.Outcomes.{World, End, Refused, Stopped, Waiting, Stuck, on_turn, turn, hear, ask}
use Rattle.law_causes.specs.Causes.{Reasons, HasCause}
use Rattle.law_causes.proofs.CausesHeard.{Gives, cause_before, cause_behind, cause_for}
use Rattle.law_causes.proofs.OwnRefusals.{IsOwn, own_cause}

-- what was heard where a run began
module _ (B : List Asking) where
  -- a world of the run
  pub record Since (w : World) : Type 0 where
    pub more : List Asking
    pub course : w.heard ≡ B ++ more

  -- behind an answer
  pub record Behind (a : Answer) (w : World) : Type 0 where
    pub question : Question
    pub before : List Asking
    pub course : w.heard ≡ B ++ (before ++ (question, a) ∷ [])

  -- where the cause of a refusal was heard
  pub record Caused (reason : Reasons) (why : Refusal) (w : World) : Type 0 where
    pub more : List Asking
    pub course : w.heard ≡ B ++ more
    pub cause : HasCause reason why more

  abbrev pub EndSince : Reasons → End → World → Type 0
  EndSince reason (Refused why) w = Caused reason why w
  EndSince reason e w = Since w

  -- ---- worlds

  pub since_as : (w v : World) → v.heard ≡ w.heard → Since w → Since v
  since_as w v e h = record { more = h.more; course = e ∙ h.course }

  pub since_behind : (a : Answer) (w : World) → Behind a w → Since w
  since_behind a w h = record { more = h.before ++ (h.question, a) ∷ []; course = h.course }

  -- by the last answer
  pub caused_behind :
      (reason : Reasons) (why : Refusal) (a : Answer) (w : World) (h : Behind a w)
      → HasCause reason why ((h.question, a) ∷ []) → Caused reason why w
  caused_behind reason why a w h c = record {
    more = h.before ++ (h.question, a) ∷ [];
    course = h.course;
    cause = cause_behind reason h.before ((h.question, a) ∷ []) why c;
  }

  pub caused_own :
      (reason : Reasons) (why : Refusal) (w : World) → IsOwn why → reason.own why → Since w
      → Caused reason why w
  caused_own reason why w own is h =
      record { more = h.more; course = h.course; cause = own_cause reason why h.more own is }

  pub caused_for :
      {reason other : Reasons} → Gives reason other → (why : Refusal) (w : World)
      → Caused reason why w → Caused other why w
  caused_for f why w h = record { more = h.more; course = h.course; cause = cause_for f why h.more h.cause }

  pub caused_since : {reason : Reasons} (why : Refusal) (w : World) → Caused reason why w → Since w
  caused_since why w h = record { more = h.more; course = h.course }

  -- ---- what turns and answers keep

  pub record Lasts (K : World → Type 0) : Type 0 where
    pub since : (w : World) → K w → Since w
    pub turned : (w : World) (turns : ℕ) → K w → K (record w { turns = turns })
    pub heard :
        (w : World) (q : Question) (a : Answer) (rest : List Answer) → K w
        → K (record w { heard = w.heard ++ (q, a) ∷ []; answers = rest })

  one_more :
      (w : World) (q : Question) (a : Answer) (more : List Asking) → w.heard ≡ B ++ more
      → w.heard ++ (q, a) ∷ [] ≡ B ++ (more ++ (q, a) ∷ [])
  one_more w q a more e = ap (λ (xs : List Asking). xs ++ (q, a) ∷ []) e ∙ append_assoc B more ((q, a) ∷ [])

  pub since_lasts : Lasts Since
  since_lasts = record {
    since = λ w h. h;
    turned = λ w turns h. record { more = h.more; course = h.course };
    heard = λ w q a rest h. record { more = h.more ++ (q, a) ∷ []; course = one_more w q a h.more h.course };
  }

  pub caused_lasts : (reason : Reasons) (why : Refusal) → Lasts (Caused reason why)
  caused_lasts reason why = record {
    since = λ w h. caused_since why w h;
    turned = λ w turns h. record { more = h.more; course = h.course; cause = h.cause };
    heard = λ w q a rest h. record {
      more = h.more ++ (q, a) ∷ [];
      course = one_more w q a h.more h.course;
      cause = cause_before reason h.more ((q, a) ∷ []) why h.cause;
    };
  }

  -- ---- what may end early

  -- a property of results that early ends have
  pub record Ends {O : Type 0} (early : End → World → O) (reason : Reasons) (P : O → Type 0) : Type 0
    where
      pub by : (e : End) (w : World) → EndSince reason e w → P (early e w)

  module _ {O : Type 0} {early : End → World → O} {reason : Reasons} {P : O → Type 0}
      (ends : Ends early reason P) where
    pub either : (b : Bool) (x y : O) → P x → P y → P (if b then x else y)
    either true x y h j = h
    either false x y h j = j

    -- of worlds of which something is kept
    module _ {K : World → Type 0} (lasts : Lasts K) where
      on_turn_since :
          (w : World) (go : World → O) (k : ℕ) → K w → ((v : World) → K v → P (go v)) → P (on_turn early w go k)
      on_turn_since w go zero h j = ends.by Stopped w (lasts.since w h)
      on_turn_since w go (suc turns) h j = j _ (lasts.turned w turns h)

      pub turn_since : (w : World) (go : World → O) → K w → ((v : World) → K v → P (go v)) → P (turn early w go)
      turn_since w go h j = on_turn_since w go w.turns h j

      pub hear_since :
          (w : World) (q : Question) (go : Answer → World → O) (answers : List Answer) → K w
          → ((a : Answer) (v : World) → K v → Behind a v → P (go a v)) → P (hear early w q go answers)
      hear_since w q go [] h j = ends.by (Waiting q) w (lasts.since w h)
      hear_since w q go (a ∷ rest) h j =
          let now : Since w = lasts.since w h in
          either (is_answer q a) _ _
          (j a _ (lasts.heard w q a rest h)
          (record { question = q; before = now.more; course = one_more w q a now.more now.course }))
          (ends.by (Waiting q) w now)

      pub ask_since :
          (w : World) (q : Question) (go : Answer → World → O) → K w
          → ((a : Answer) (v : World) → K v → Behind a v → P (go a v)) → P (ask early w q go)
      ask_since w q go h j =
          turn_since w (λ v. hear early v q go v.answers) h (λ v k. hear_since v q go v.answers k j)

    -- what code names
    pub found_since :
        {A : Type 0} (w : World) (o : Option A) (go : A → O) → Since w → ((a : A) → P (go a))
        → P (on.found (early Stuck w) o go)
    found_since w None go h j = ends.by Stuck w h
    found_since w (Some a) go h j = j a
