-- The turns of a run, one after another.
use Rattle.std.proofs.Common.{◌≡◌, ℕ, ◌+◌, ◌-◌, ◌≤◌, ◌<◌, List, [], ◌++◌, refl, sym, subst, arith, Bool, true, false}
use Rattle.std.specs.Prelude.{take}
use Rattle.spec_execution.specs.Askings.{Question, Answer, Asking, Chain}
use Rattle.spec_execution.specs.Outcomes.{state, Values, Over}
use Rattle.code_stack.specs.Layers.{Configuration}
use Rattle.code_leaps.specs.Leading.{Doing, Setting, Leads}
use Rattle.code_leaps.specs.Spending.{is_checked}
use Rattle.code_stack.specs.Steps.{end_of, hosted}
use Rattle.code_leaps.specs.Turns.{going, EndsBy, TurnsBy, Passes, Turns, Ends}
use Rattle.code_stack.specs.declared.turns.Ended.{Ended}
use Rattle.code_stack.specs.declared.turns.Ending.{Ending}
use Rattle.code_stack.specs.declared.turns.Ending.TheVariants as ending
use Rattle.code_stack.specs.declared.turns.Turn.{Turn}
use Rattle.code_stack.specs.declared.turns.Turn.TheVariants as turn
use Rattle.code_leaps.proofs.PartLemmas.{chain_on, leads_none, leads_on, stops_on, halts_on}

abbrev pub ended : Ending → ℕ → Ended
ended how spent = record { how = how; spent = spent }

module _ {H W : Type 0} (g : Setting H) (moves : W → Question → Answer → W → Type 0) where
  pub passes_none : (next : Doing) (h : H) (t : W) → Passes g moves next h t 0 next h t
  passes_none next h t = record { heard = []; chain = refl; leads = leads_none g next h }

  -- so many turns, and then those of what is next
  module _ (due : Doing) (h : H) (t : W) (made : ℕ) (next : Doing) (h1 : H) (t1 : W)
      (p : Passes g moves due h t made next h1 t1) (turns : ℕ) (le : made ≤ turns) (spent : ℕ) (new : Configuration)
      (h2 : H) (t2 : W) where
    both : (heard : List Asking) → Chain moves t1 heard t2 → Chain moves t (p.heard ++ heard) t2
    both heard c = chain_on moves t t1 t2 p.heard heard p.chain c

    ends_by : (heard : List Asking) (x : Ending) →
        EndsBy g next h1 (turns - made) spent heard new h2 x → spent ≤ turns - made →
        EndsBy g due h turns (made + spent) (p.heard ++ heard) new h2 x
    ends_by heard (ending.Fails f) l lt =
        leads_on g due next h h1 made p.heard p.leads spent heard (λ w. Over (end_of f) w) h2 l
    ends_by heard ending.Done l lt =
        leads_on g due next h h1 made p.heard p.leads spent heard
        (λ w. Values (state w [] (take new.activation.results new.values.operands))) h2 l
    ends_by heard (ending.Calls call) l lt =
        leads_on g due next h h1 made p.heard p.leads spent heard (hosted new call) h2 l
    ends_by heard ending.Limit l lt = (
      stops_on g due next h h1 made p.heard p.leads spent heard h2 l.0,
      omega (arith, le, l.1),
    )
    ends_by heard ending.Exhausted l lt =
        halts_on g due next h h1 made p.heard p.leads spent heard h2 l

    turns_by : (heard : List Asking) (x : Turn) →
        TurnsBy g next h1 (turns - made) spent heard new h2 x → spent ≤ turns - made →
        TurnsBy g due h turns (made + spent) (p.heard ++ heard) new h2 x
    turns_by heard turn.Goes l lt =
        (leads_on g due next h h1 made p.heard p.leads spent heard (going false new) h2 l.0, omega (arith, l.1))
    turns_by heard turn.Checks l lt =
        (leads_on g due next h h1 made p.heard p.leads spent heard (going true new) h2 l.0, omega (arith, l.1))
    turns_by heard (turn.Ends x) l lt = ends_by heard x l lt

    pub turns_on : (what : Turn) → Turns g moves next h1 t1 (turns - made) what spent new h2 t2 →
        Turns g moves due h t turns what (made + spent) new h2 t2
    turns_on what x = record {
      within = omega (arith, le, x.within);
      heard = p.heard ++ x.heard;
      chain = both x.heard x.chain;
      turns = turns_by x.heard what x.turns x.within;
    }

    passes_with : (heard : List Asking) → Chain moves t1 heard t2 → (b : Doing) →
        Leads g next h1 spent heard b h2 → Passes g moves due h t (made + spent) b h2 t2
    passes_with heard c b l = record {
      heard = p.heard ++ heard;
      chain = both heard c;
      leads = leads_on g due next h h1 made p.heard p.leads spent heard b h2 l;
    }

    pub goes_on : (what : Turn) → Turns g moves next h1 t1 (turns - made) what spent new h2 t2 → what ≡ turn.Goes →
        Passes g moves due h t (made + spent) (going false new) h2 t2
    goes_on what x e =
        passes_with x.heard x.chain (going false new)
        (subst (λ (k : Turn). TurnsBy g next h1 (turns - made) spent x.heard new h2 k) e x.turns).0

    pub checks_on : (what : Turn) → Turns g moves next h1 t1 (turns - made) what spent new h2 t2 →
        what ≡ turn.Checks → Passes g moves due h t (made + spent) (going true new) h2 t2
    checks_on what x e =
        passes_with x.heard x.chain (going true new)
        (subst (λ (k : Turn). TurnsBy g next h1 (turns - made) spent x.heard new h2 k) e x.turns).0

    moves_by : (what : Turn) (e : Turn) → Turns g moves next h1 t1 (turns - made) what spent new h2 t2 → what ≡ e →
        ((how : Ending) → e ≡ turn.Ends how → ⊥) → 0 < spent
    moves_by what turn.Goes x e other =
        (subst (λ (k : Turn). TurnsBy g next h1 (turns - made) spent x.heard new h2 k) e x.turns).1
    moves_by what turn.Checks x e other =
        (subst (λ (k : Turn). TurnsBy g next h1 (turns - made) spent x.heard new h2 k) e x.turns).1
    moves_by what (turn.Ends how) x e other = absurd (other how refl)

    pub moves_on : (what : Turn) → Turns g moves next h1 t1 (turns - made) what spent new h2 t2 →
        ((how : Ending) → what ≡ turn.Ends how → ⊥) → 0 < spent
    moves_on what x other = moves_by what what x refl other

    passes_by : (what : Turn) (e : Turn) → Turns g moves next h1 t1 (turns - made) what spent new h2 t2 → what ≡ e →
        ((how : Ending) → e ≡ turn.Ends how → ⊥) →
        Passes g moves due h t (made + spent) (going (is_checked e) new) h2 t2
    passes_by what turn.Goes x e other = goes_on what x e
    passes_by what turn.Checks x e other = checks_on what x e
    passes_by what (turn.Ends how) x e other = absurd (other how refl)

    pub passes_on : (what : Turn) → Turns g moves next h1 t1 (turns - made) what spent new h2 t2 →
        ((how : Ending) → what ≡ turn.Ends how → ⊥) → (b : Bool) → b ≡ is_checked what →
        Passes g moves due h t (made + spent) (going b new) h2 t2
    passes_on what x other b eb =
        subst (λ (b : Bool). Passes g moves due h t (made + spent) (going b new) h2 t2) (sym eb)
        (passes_by what what x refl other)

    pub ends_on : (what : Turn) (how : Ending) → Turns g moves next h1 t1 (turns - made) what spent new h2 t2 →
        what ≡ turn.Ends how → Ends g moves due h t turns (ended how (made + spent)) new h2 t2
    ends_on what how x e =
        let y = subst (λ (k : Turn). TurnsBy g next h1 (turns - made) spent x.heard new h2 k) e x.turns in
        record {
          within = omega (arith, le, x.within);
          heard = p.heard ++ x.heard;
          chain = both x.heard x.chain;
          ends = ends_by x.heard how y x.within;
        }
