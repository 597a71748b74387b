-- Parts of a run, one after another.
use Rattle.std.proofs.Common.{◌≡◌, ℕ, ◌+◌, List, [], ◌∷◌, ◌++◌, Some, refl, sym, ap, ◌∙◌, subst, arith, add_assoc, append_assoc}
use Rattle.std.proofs.lemmas.List.{append-nil}
use Rattle.spec_machine.specs.Machine.{Machine}
use Rattle.spec_execution.specs.Askings.{Question, Answer, Asking, answers_in, Chain}
use Rattle.spec_execution.specs.Outcomes.{World, Outcome, Over, Stopped}
use Rattle.store_state.specs.Parts.{ProgramParts, HeldParts}
use Rattle.code_leaps.specs.Leading.{Doing, Setting, at, halted, Leads, Stops, Halts}
use Rattle.code_leaps.specs.Running.{ruled, charged}
use Rattle.code_stack.specs.declared.rules.Rules.{Rules}

-- the answers of two parts, one after the other
pub answers_on : (xs ys : List Asking) → answers_in (xs ++ ys) ≡ answers_in xs ++ answers_in ys
answers_on [] ys = refl
answers_on (x ∷ xs) ys = ap (λ answers. x.1 ∷ answers) (answers_on xs ys)

pub chain_on : {W : Type 0} (moves : W → Question → Answer → W → Type 0) (old mid new : W) (heard heard' : List Asking)
    → Chain moves old heard mid → Chain moves mid heard' new → Chain moves old (heard ++ heard') new
chain_on {W} moves old mid new [] heard' c d = subst (λ (x : W). Chain moves x heard' new) c d
chain_on moves old mid new (x ∷ heard) heard' c d = (c.0, c.1, chain_on moves c.0 mid new heard heard' c.2 d)

module _ {H : Type 0} (g : Setting H) where
  pub leads_none : (a : Doing) (h : H) → Leads g a h 0 [] a h
  leads_none a h = record {
    by = λ base is extra before rest.
        let e : 0 + extra ≡ extra = omega arith in
        ap (λ t. a (at g base h t before rest)) e ∙ ap (λ q. a (at g base h extra q rest)) (sym (append-nil before));
  }

  -- to what means the same, in each world of this store
  pub leads_into : (a : Doing) (h : H) (n : ℕ) (heard : List Asking) (b c : Doing) (h' : H) →
      Leads g a h n heard b h' →
      ((base : Machine) → g.is_base base → (turns : ℕ) (before : List Asking) (answers : List Answer) →
      b (at g base h' turns before answers) ≡ c (at g base h' turns before answers)) →
      Leads g a h n heard c h'
  leads_into a h n heard b c h' l e = record {
    by = λ base is extra before rest. l.by base is extra before rest ∙ e base is extra _ rest;
  }

  -- what means the same, in each world of this store
  module _ (a b : Doing) (h : H) (e : (base : Machine) → g.is_base base → (turns : ℕ) (before : List Asking)
      (answers : List Answer) → a (at g base h turns before answers) ≡ b (at g base h turns before answers)) where
    pub leads_from : (n : ℕ) (heard : List Asking) (c : Doing) (h' : H) → Leads g b h n heard c h' →
        Leads g a h n heard c h'
    leads_from n heard c h' l = record {
      by = λ base is extra before rest. e base is (n + extra) before (answers_in heard ++ rest)
          ∙ l.by base is extra before rest;
    }

    pub stops_from : (n : ℕ) (heard : List Asking) (h' : H) → Stops g b h n heard h' →
        Stops g a h n heard h'
    stops_from n heard h' l = record {
      by = λ base is before rest. e base is n before (answers_in heard ++ rest)
          ∙ l.by base is before rest;
    }

    pub halts_from : (n : ℕ) (heard : List Asking) (h' : H) → Halts g b h n heard h' →
        Halts g a h n heard h'
    halts_from n heard h' l = record {
      by = λ base is before rest. ap halted (e base is n before (answers_in heard ++ rest))
          ∙ l.by base is before rest;
    }

  pub stops_halts : (a : Doing) (h : H) (n : ℕ) (heard : List Asking) (h' : H) →
      Stops g a h n heard h' → Halts g a h n heard h'
  stops_halts a h n heard h' l = record { by = λ base is before rest. ap halted (l.by base is before rest) }

  module _ (a b : Doing) (h h1 : H) (n : ℕ) (heard : List Asking) (l : Leads g a h n heard b h1) where
    first : (base : Machine) → g.is_base base → (m : ℕ) (before heard' : List Asking) (rest : List Answer) →
        a (at g base h (n + m) before (answers_in (heard ++ heard') ++ rest))
        ≡ b (at g base h1 m (before ++ heard) (answers_in heard' ++ rest))
    first base is m before heard' rest =
        ap (λ r. a (at g base h (n + m) before (r ++ rest))) (answers_on heard heard')
        ∙ ap (λ r. a (at g base h (n + m) before r)) (append_assoc (answers_in heard) (answers_in heard') rest)
        ∙ l.by base is m before (answers_in heard' ++ rest)

    pub leads_on : (m : ℕ) (heard' : List Asking) (c : Doing) (h2 : H) →
        Leads g b h1 m heard' c h2 → Leads g a h (n + m) (heard ++ heard') c h2
    leads_on m heard' c h2 k = record {
      by = λ base is extra before rest.
          ap (λ t. a (at g base h t before (answers_in (heard ++ heard') ++ rest))) (add_assoc n m extra)
          ∙ first base is (m + extra) before heard' rest ∙ k.by base is extra (before ++ heard) rest
          ∙ ap (λ q. c (at g base h2 extra q rest)) (append_assoc before heard heard');
    }

    pub stops_on : (m : ℕ) (heard' : List Asking) (h2 : H) → Stops g b h1 m heard' h2 →
        Stops g a h (n + m) (heard ++ heard') h2
    stops_on m heard' h2 k = record {
      by = λ base is before rest.
          first base is m before heard' rest ∙ k.by base is (before ++ heard) rest
          ∙ ap (λ q. Over Stopped (at g base h2 0 q rest)) (append_assoc before heard heard');
    }

    pub halts_on : (m : ℕ) (heard' : List Asking) (h2 : H) → Halts g b h1 m heard' h2 →
        Halts g a h (n + m) (heard ++ heard') h2
    halts_on m heard' h2 k = record {
      by = λ base is before rest.
          ap halted (first base is m before heard' rest) ∙ k.by base is (before ++ heard) rest
          ∙ ap (λ q. Some (at g base h2 0 q rest)) (append_assoc before heard heard');
    }

  -- within what is done with any outcome
  module _ (F : Outcome → Outcome) (a : Doing) (h : H) (n : ℕ) (heard : List Asking) (h' : H) where
    pub leads_within : (b : Doing) → Leads g a h n heard b h' → Leads g (λ w. F (a w)) h n heard (λ w. F (b w)) h'
    leads_within b l = record { by = λ base is extra before rest. ap F (l.by base is extra before rest) }

    pub stops_within : ((w : World) → F (Over Stopped w) ≡ Over Stopped w) → Stops g a h n heard h' →
        Stops g (λ w. F (a w)) h n heard h'
    stops_within strict l = record {
      by = λ base is before rest. ap F (l.by base is before rest) ∙ strict (at g base h' 0 (before ++ heard) rest);
    }

    pub halts_within :
        ((o : Outcome) (w : World) → w.turns ≡ 0 → halted o ≡ Some w → halted (F o) ≡ Some w) →
        Halts g a h n heard h' → Halts g (λ w. F (a w)) h n heard h'
    halts_within keeps l = record {
      by = λ base is before rest. keeps (a (at g base h n before (answers_in heard ++ rest)))
          (at g base h' 0 (before ++ heard) rest) refl (l.by base is before rest);
    }

module _ (program : ProgramParts) (rules : Rules) where
  -- so many turns, and more
  pub leads_owing : (due : Doing) (held : HeldParts) (owed made : ℕ) (next : Doing) (mid : HeldParts) →
      Leads (ruled program rules) due (charged rules.consumes_fuel held owed) made [] next
      (charged rules.consumes_fuel mid (owed + made)) →
      (spent : ℕ) (more : Doing) (held' : HeldParts) →
      Leads (ruled program rules) next (charged rules.consumes_fuel mid (owed + made)) spent [] more
      (charged rules.consumes_fuel held' (owed + made + spent)) →
      Leads (ruled program rules) due (charged rules.consumes_fuel held owed) (made + spent) [] more
      (charged rules.consumes_fuel held' (owed + (made + spent)))
  leads_owing due held owed made next mid l spent more held' k =
      let same : owed + made + spent ≡ owed + (made + spent) = omega arith in
      subst (λ n. Leads (ruled program rules) due (charged rules.consumes_fuel held owed) (made + spent) [] more
      (charged rules.consumes_fuel held' n)) same
      (leads_on (ruled program rules) due next (charged rules.consumes_fuel held owed)
      (charged rules.consumes_fuel mid (owed + made)) made [] l spent [] more
      (charged rules.consumes_fuel held' (owed + made + spent)) k)
