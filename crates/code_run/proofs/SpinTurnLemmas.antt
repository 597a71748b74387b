-- Turns that ask nothing, as turns of a run, and a growth or a bulk form behind them.
use Rattle.std.proofs.Common.{◌≡◌, ℕ, ◌+◌, ◌-◌, [], refl, subst, true}
use Rattle.spec_execution.specs.Askings.{Question, Answer}
use Rattle.spec_execution.specs.Costs.{is_bulk}
use Rattle.code_stack.specs.Layers.{Configuration}
use Rattle.code_leaps.specs.Leading.{Doing, Setting}
use Rattle.wasm_syntax.specs.declared.instr.Instr.{Instr}
use Rattle.code_leaps.specs.Spending.{Spends}
use Rattle.code_run.specs.Spinning.{growth_instr, Ahead, Grown, Metered, Stepped, Spins}
use Rattle.code_leaps.specs.Turns.{passing, Passes, Turns}
use Rattle.code_run.specs.declared.spins.Growing.{Growing}
use Rattle.code_stack.specs.declared.turns.Turn.{Turn}
use Rattle.code_run.proofs.Runs.{turns_on}

module _ {H W : Type 0} (g : Setting H) (moves : W → Question → Answer → W → Type 0) (due : Doing) (h : H) (t : W)
    (left : ℕ) (x : Ahead) (spent : ℕ) (mid : Configuration) (h1 : H) (k : Spins g due h left x spent mid h1) where
  pub spun_turns : (what : Turn) → x ≡ Stepped what → Turns g moves due h t left what spent mid h1 t
  spun_turns what e = record {
    within = k.within;
    heard = [];
    chain = refl;
    turns = (subst (λ x. Spins g due h left x spent mid h1) e k).spins;
  }

  pub grown_turns : (y : Growing) → x ≡ Grown y → (what : Turn) (more : ℕ) (new : Configuration) (h2 : H)
      (t2 : W) → Turns g moves (passing mid (growth_instr y)) h1 t (left - spent) what more new h2 t2 →
      Turns g moves due h t left what (spent + more) new h2 t2
  grown_turns y e what more new h2 t2 z =
      let next : Doing = passing mid (growth_instr y) in
      let p : Passes g moves due h t spent next h1 t = record {
        heard = [];
        chain = refl;
        leads = (subst (λ x. Spins g due h left x spent mid h1) e k).spins;
      } in
      turns_on g moves due h t spent next h1 t p left k.within more new h2 t2 what z

  pub metered_turns : (j : Instr) → x ≡ Metered j → (what : Turn) (more : ℕ) (new : Configuration) (h2 : H) →
      Spends g (passing mid j) h1 (left - spent) what more new h2 →
      Turns g moves due h t left what (spent + more) new h2 t
  metered_turns j e what more new h2 z =
      let next : Doing = passing mid j in
      let p : Passes g moves due h t spent next h1 t = record {
        heard = [];
        chain = refl;
        leads = (subst (λ x. Spins g due h left x spent mid h1) e k).spins.0;
      } in
      turns_on g moves due h t spent next h1 t p left k.within more new h2 t what
      (record { within = z.within; heard = []; chain = refl; turns = z.turns })

  -- the instruction that was passed is a bulk form
  pub metered_bulk : (j : Instr) → x ≡ Metered j → is_bulk j ≡ true
  metered_bulk j e = (subst (λ x. Spins g due h left x spent mid h1) e k).spins.1
