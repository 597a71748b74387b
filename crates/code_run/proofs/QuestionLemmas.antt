-- Checks by their questions, each with its turn.
use Rattle.std.proofs.Common.{◌≡◌, ℕ, ◌+◌, ◌-◌, List, [], ◌∷◌, ◌++◌, refl, sym, ap, ◌∙◌, subst, arith, one-add, true}
use Rattle.std.specs.Prelude.{cond}
use Rattle.std.proofs.lemmas.List.{append-nil}
use Rattle.spec_machine.specs.Machine.{Machine}
use Rattle.spec_execution.specs.Askings.{Question, Answer, Asking, is_answer}
use Rattle.spec_execution.specs.Outcomes.{Over, Waiting, Stopped, ask}
use Rattle.code_run.specs.Checking.{Part, ChecksBy, Checks}
use Rattle.code_leaps.specs.Leading.{Doing, Setting, at, Leads, Stops}
use Rattle.code_stack.specs.Steps.{end_of}
use Rattle.code_run.specs.declared.checks.Verdict.{Verdict}
use Rattle.code_run.specs.declared.checks.Verdict.TheVariants as check
use Rattle.code_run.specs.declared.checks.Checked.{Checked}
use Rattle.code_stack.specs.declared.steps.Fault.{Fault}
use Rattle.code_leaps.proofs.PartLemmas.{leads_none, leads_from, stops_from, leads_on, stops_on}

abbrev pub check_of : Verdict → ℕ → Checked
check_of what spent = record { what = what; spent = spent }

-- a question
module _ {H : Type 0} (g : Setting H) (q : Question) (k : Answer → Doing) (h : H) where
  abbrev pub asking : Doing
  asking w = ask Over w q k

  pub asked : (a : Answer) → is_answer q a ≡ true → Leads g asking h 1 ((q, a) ∷ []) (k a) h
  asked a e = record {
    by = λ base b extra before rest.
        let w = at g base h extra before (a ∷ rest) in
        ap (λ t. asking (at g base h t before (a ∷ rest))) (one-add extra)
        ∙ ap (λ b. cond b (k a (at g base h extra (before ++ (q, a) ∷ []) rest)) (Over (Waiting q) w)) e;
  }

  pub unasked : Stops g asking h 0 [] h
  unasked = record {
    by = λ base b before rest. ap (λ heard. Over Stopped (at g base h 0 heard rest)) (sym (append-nil before));
  }

-- a part in the stores of a run
module _ {H W : Type 0} (g : Setting H) (moves : W → Question → Answer → W → Type 0) (part : Part) (h : H) (t : W)
    (left : ℕ) where
  -- what it is in each of them, whatever is done behind it
  abbrev pub IsPart : (Doing → Doing) → Type 0
  IsPart does = (go : Doing) (base : Machine) → g.is_base base → (turns : ℕ) (before : List Asking)
      (answers : List Answer) → part (at g base h turns before answers) go ≡ does go (at g base h turns before answers)

  pub passes_now : IsPart (λ go. go) → Checks g moves part h t left (check_of check.Passes 0) h t
  passes_now e = record {
    within = omega arith;
    heard = [];
    chain = refl;
    by = λ go. leads_from g (λ w. part w go) go h (e go) 0 [] go h (leads_none g go h);
  }

  pub fails_now : (f : Fault) → IsPart (λ go w. Over (end_of f) w) →
      Checks g moves part h t left (check_of (check.Fails f) 0) h t
  fails_now f e = record {
    within = omega arith;
    heard = [];
    chain = refl;
    by = λ go.
        let end : Doing = λ w. Over (end_of f) w in
        leads_from g (λ w. part w go) end h (e go) 0 [] end h (leads_none g end h);
  }

  -- the same as another part
  pub is_part : (part' : Part) → IsPart (λ go w. part' w go) → (c : Checked) (h' : H) (t' : W) →
      Checks g moves part' h t left c h' t' → Checks g moves part h t left c h' t'
  is_part part' e c h' t' x = record {
    within = x.within;
    heard = x.heard;
    chain = x.chain;
    by = λ go. from go c.what (x.by go);
  }
    where
      from : (go : Doing) (what : Verdict) → ChecksBy g part' go h left c.spent x.heard h' what →
          ChecksBy g part go h left c.spent x.heard h' what
      from go check.Passes l = leads_from g (λ w. part w go) (λ w. part' w go) h (e go) c.spent x.heard go h' l
      from go (check.Fails f) l =
          leads_from g (λ w. part w go) (λ w. part' w go) h (e go) c.spent x.heard (λ w. Over (end_of f) w) h' l
      from go check.Limit l =
          (stops_from g (λ w. part w go) (λ w. part' w go) h (e go) c.spent x.heard h' l.0, l.1)

  -- a question comes first
  module _ (q : Question) (k : Doing → Answer → Doing) (e : IsPart (λ go w. ask Over w q (k go))) where
    pub stops_unasked : left ≡ 0 → Checks g moves part h t left (check_of check.Limit 0) h t
    stops_unasked none = record {
      within = omega arith;
      heard = [];
      chain = refl;
      by = λ go. (
        stops_from g (λ w. part w go) (λ w. ask Over w q (k go)) h (e go) 0 [] h (unasked g q (k go) h),
        sym none,
      );
    }

    -- and then another part
    module _ (a : Answer) (is : is_answer q a ≡ true) (t1 : W) (m : moves t q a t1) (some : left ≡ 0 → ⊥)
        (part' : Part) (e' : (go : Doing) (base : Machine) → g.is_base base → (turns : ℕ) (before : List Asking)
        (answers : List Answer) → k go a (at g base h turns before answers) ≡ part' (at g base h turns before answers) go)
      where
        first : (go : Doing) → Leads g (λ w. part w go) h 1 ((q, a) ∷ []) (k go a) h
        first go =
            leads_from g (λ w. part w go) (λ w. ask Over w q (k go)) h (e go) 1 ((q, a) ∷ []) (k go a) h
            (asked g q (k go) h a is)

        by_check : (c : Checked) (h' : H) (heard : List Asking) (go : Doing) (what : Verdict) →
            ChecksBy g part' go h (left - 1) c.spent heard h' what →
            ChecksBy g part go h left (1 + c.spent) ((q, a) ∷ heard) h' what
        by_check c h' heard go check.Passes l =
            leads_on g (λ w. part w go) (k go a) h h 1 ((q, a) ∷ []) (first go) c.spent heard go h'
            (leads_from g (k go a) (λ w. part' w go) h (e' go) c.spent heard go h' l)
        by_check c h' heard go (check.Fails f) l =
            leads_on g (λ w. part w go) (k go a) h h 1 ((q, a) ∷ []) (first go) c.spent heard (λ w. Over (end_of f) w) h'
            (leads_from g (k go a) (λ w. part' w go) h (e' go) c.spent heard (λ w. Over (end_of f) w) h' l)
        by_check c h' heard go check.Limit l = (
          stops_on g (λ w. part w go) (k go a) h h 1 ((q, a) ∷ []) (first go) c.spent heard h'
              (stops_from g (k go a) (λ w. part' w go) h (e' go) c.spent heard h' l.0),
          omega (arith, some, l.1),
        )

        pub answered : (c : Checked) (h' : H) (t' : W) → Checks g moves part' h t1 (left - 1) c h' t' → (n : ℕ) →
            1 + c.spent ≡ n → Checks g moves part h t left (check_of c.what n) h' t'
        answered c h' t' x n en =
            subst (λ (n : ℕ). Checks g moves part h t left (check_of c.what n) h' t') en (record {
              within = omega (arith, some, x.within);
              heard = (q, a) ∷ x.heard;
              chain = (t1, m, x.chain);
              by = λ go. by_check c h' x.heard go c.what (x.by go);
            })

-- an end, whatever was to be done
pub ends_now : {H W : Type 0} (g : Setting H) (moves : W → Question → Answer → W → Type 0) (h : H) (t : W) (left : ℕ)
    (f : Fault) → Checks g moves (λ w go. Over (end_of f) w) h t left (check_of (check.Fails f) 0) h t
ends_now g moves h t left f =
    fails_now g moves (λ w go. Over (end_of f) w) h t left f (λ go base b turns before answers. refl)
