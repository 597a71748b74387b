-- A call from outside of all code: its function, and the borders before and behind it.
use Rattle.std.proofs.Common.{◌≡◌, ℕ, ◌+◌, ◌-◌, ◌≤◌, List, [], ◌++◌, refl, subst, arith, true, false, inl, inr}
use Rattle.wasm_meter.specs.declared.call_hook.CallHook.{CallHook}
use Rattle.wasm_meter.specs.declared.call_hook.CallHook.TheVariants as event
use Rattle.wasm_values.specs.declared.refusals.Refusal.TheVariants as refusal
use Rattle.spec_execution.specs.Askings.{Question, Answer, Asking, Chain}
use Rattle.spec_execution.specs.Checks.{pass, pass_behind}
use Rattle.code_leaps.specs.Leading.{Doing, Setting, Leads, Halts}
use Rattle.code_leaps.proofs.PartLemmas.{chain_on, leads_on, stops_on, leads_within, stops_within, halts_within}
use Rattle.code_hosts.specs.Entering.{returned}
use Rattle.code_hosts.specs.Replies.{RepliesBy, Comes, is_told}
use Rattle.code_hosts.specs.declared.replies.How.{How}
use Rattle.code_hosts.specs.declared.replies.How.TheVariants as how
use Rattle.code_hosts.specs.declared.replies.Reply.{Reply}
use Rattle.code_hosts.specs.declared.replies.Unfinished.{Unfinished}
use Rattle.code_hosts.specs.Behind.{ended, PassesBy, Passes}
use Rattle.code_hosts.specs.Entrances.{Waits}
use Rattle.code_hosts.specs.Replies.{BreaksOff}
use Rattle.code_hosts.specs.Rounds.{LacksBy, Lacks}
use Rattle.code_hosts.specs.Telling.{TellsBy, Tells}
use Rattle.code_hosts.specs.declared.rounds.Lack.{Lack}
use Rattle.code_hosts.specs.declared.rounds.Lack.TheVariants as lack
use Rattle.code_hosts.specs.declared.borders.Word.{Word}
use Rattle.code_hosts.specs.declared.borders.Word.TheVariants as word
use Rattle.code_hosts.proofs.ContextLemmas.{border_halts, exhausts_within}
use Rattle.code_hosts.proofs.TellLemmas.{told_of}

abbrev pub reply : How → ℕ → Reply
reply how turns = record { how = how; turns = turns }

abbrev pub unfinished : ℕ → Unfinished
unfinished turns = record { turns = turns }

-- ---- the end of a call, behind a part that leads to it

module _ {H W : Type 0} (g : Setting H) (moves : W → Question → Answer → W → Type 0) (due mid : Doing) (h h1 : H)
    (o o1 : W) (left n : ℕ) (heard : List Asking) (within : n ≤ left) (chain : Chain moves o heard o1)
    (first : Leads g due h n heard mid h1) where
  pub replies_by : (m : ℕ) (heard' : List Asking) (h2 : H) (y : How) → RepliesBy g mid h1 (left - n) m heard' h2 y →
      RepliesBy g due h left (n + m) (heard ++ heard') h2 y
  replies_by m heard' h2 (how.Returned v) l =
      leads_on g due mid h h1 n heard first m heard' (ended (how.Returned v)) h2 l
  replies_by m heard' h2 (how.Trapped t) l =
      leads_on g due mid h h1 n heard first m heard' (ended (how.Trapped t)) h2 l
  replies_by m heard' h2 (how.Refused why) l =
      leads_on g due mid h h1 n heard first m heard' (ended (how.Refused why)) h2 l
  replies_by m heard' h2 how.Stuck l = leads_on g due mid h h1 n heard first m heard' (ended how.Stuck) h2 l
  replies_by m heard' h2 how.TurnLimit l = (
    stops_on g due mid h h1 n heard first m heard' h2 l.0,
    omega (arith, within, l.1),
  )

  pub comes_after : (r : Reply) (h2 : H) (o2 : W) → Comes g moves mid h1 o1 (left - n) r h2 o2 →
      Comes g moves due h o left (reply r.how (n + r.turns)) h2 o2
  comes_after r h2 o2 x = record {
    within = omega (arith, within, x.within);
    heard = heard ++ x.heard;
    chain = chain_on moves o o1 o2 heard x.heard chain x.chain;
    replies = replies_by r.turns x.heard h2 r.how x.replies;
  }

-- ---- the border behind it

module _ {H W : Type 0} (g : Setting H) (moves : W → Question → Answer → W → Type 0) (due : Doing) (h : H) (o : W)
    (left : ℕ) (h1 : H) where
  pub halts_behind : (n : ℕ) (heard : List Asking) → Halts g due h n heard h1 → Halts g (returned due) h n heard h1
  halts_behind n heard l =
      halts_within g (pass_behind event.ReturningFromWasm) due h n heard h1 (border_halts event.ReturningFromWasm) l

  lacks_by : (n : ℕ) (heard : List Asking) (k : Lack) → LacksBy g due h left n heard [] h1 k →
      LacksBy g (returned due) h left n heard [] h1 k
  lacks_by n heard lack.Run l = halts_behind n heard l
  lacks_by n heard lack.Step l = (
    exhausts_within g (pass_behind event.ReturningFromWasm) due h n heard h1 (λ w. refl) l.0,
    l.1,
  )

  pub lacks_behind : (n : ℕ) (k : Lack) (o1 : W) → Lacks g moves due h o left n k h1 o1 →
      Lacks g moves (returned due) h o left n k h1 o1
  lacks_behind n k o1 x = record {
    within = x.within;
    heard = x.heard;
    chain = x.chain;
    by = lacks_by n x.heard k x.by;
  }

  module _ (n : ℕ) (heard : List Asking) where
    told_end : (y : How) → is_told y ≡ true → RepliesBy g due h left n heard h1 y →
        Leads g due h n heard (ended y) h1
    told_end (how.Returned v) e l = l
    told_end (how.Trapped t) e l = l
    told_end (how.Refused why) e l = l
    told_end how.Stuck e l = absurd (cc e)
    told_end how.TurnLimit e l = absurd (cc e)

    untold_end : (y : How) → is_told y ≡ false → RepliesBy g due h left n heard h1 y →
        RepliesBy g (returned due) h left n heard h1 y
    untold_end (how.Returned v) e l = absurd (cc e)
    untold_end (how.Trapped t) e l = absurd (cc e)
    untold_end (how.Refused why) e l = absurd (cc e)
    untold_end how.Stuck e l =
        leads_within g (pass_behind event.ReturningFromWasm) due h n heard h1 (ended how.Stuck) l
    untold_end how.TurnLimit e l =
        (stops_within g (pass_behind event.ReturningFromWasm) due h n heard h1 (λ w. refl) l.0, l.1)

  pub comes_untold : (r : Reply) (o1 : W) → is_told r.how ≡ false → Comes g moves due h o left r h1 o1 →
      Comes g moves (returned due) h o left r h1 o1
  comes_untold r o1 e x = record {
    within = x.within;
    heard = x.heard;
    chain = x.chain;
    replies = untold_end r.turns x.heard r.how e x.replies;
  }

  module _ (r : Reply) (e : is_told r.how ≡ true) (o1 : W) (x : Comes g moves due h o left r h1 o1) (p : Reply) (o2 : W)
      (y : Passes g moves event.ReturningFromWasm r.how h1 o1 (left - r.turns) p o2) where
    abbrev border : Doing
    border w = pass_behind event.ReturningFromWasm (ended r.how w)

    reached : Leads g (returned due) h r.turns x.heard border h1
    reached =
        leads_within g (pass_behind event.ReturningFromWasm) due h r.turns x.heard h1 (ended r.how)
        (told_end r.turns x.heard r.how e x.replies)

    led : (next : Doing) → Leads g border h1 p.turns y.heard next h1 →
        Leads g (returned due) h (r.turns + p.turns) (x.heard ++ y.heard) next h1
    led next l = leads_on g (returned due) border h h1 r.turns x.heard reached p.turns y.heard next h1 l

    by_how : (k : How) →
        PassesBy g event.ReturningFromWasm r.how h1 (left - r.turns) p.turns y.heard k →
        RepliesBy g (returned due) h left (r.turns + p.turns) (x.heard ++ y.heard) h1 k
    by_how (how.Returned v) l = led (ended (how.Returned v)) l
    by_how (how.Trapped t) l = led (ended (how.Trapped t)) l
    by_how (how.Refused why) l = led (ended (how.Refused why)) l
    by_how how.Stuck l = led (ended how.Stuck) l
    by_how how.TurnLimit l = (
      stops_on g (returned due) border h h1 r.turns x.heard reached p.turns y.heard h1 l.0,
      omega (arith, x.within, l.1),
    )

    pub comes_behind : Comes g moves (returned due) h o left (reply p.how (r.turns + p.turns)) h1 o2
    comes_behind = record {
      within = omega (arith, x.within, y.within);
      heard = x.heard ++ y.heard;
      chain = chain_on moves o o1 o2 x.heard y.heard x.chain y.chain;
      replies = by_how p.how y.by;
    }

-- ---- the border before it

module _ {H W : Type 0} (g : Setting H) (moves : W → Question → Answer → W → Type 0) (event : CallHook) (go : Doing)
    (h : H) (o : W) (left spent : ℕ) (word_is : Word) (o1 : W)
    (t : Tells g moves event h o left (told_of word_is spent) o1) where
  abbrev before : Doing
  before w = pass event w go

  by_word : (k : Word) → word_is ≡ k → TellsBy g event go h left spent t.heard k
  by_word k e = subst (λ (k : Word). TellsBy g event go h left spent t.heard k) e (t.by go)

  pub leads_before : word_is ≡ word.Passes → Leads g before h spent t.heard go h
  leads_before e = by_word word.Passes e

  ends_with : (y : How) → RepliesBy g before h left spent t.heard h y →
      Comes g moves before h o left (reply y spent) h o1
  ends_with y l = record { within = t.within; heard = t.heard; chain = t.chain; replies = l }

  pub before_fails : word_is ≡ word.Fails → Comes g moves before h o left (reply (how.Refused refusal.HookFault) spent) h o1
  before_fails e = ends_with (how.Refused refusal.HookFault) (by_word word.Fails e)

  pub before_limit : word_is ≡ word.Limit → Comes g moves before h o left (reply how.TurnLimit spent) h o1
  before_limit e = ends_with how.TurnLimit (by_word word.Limit e)

-- ---- there was no memory

module _ {H W : Type 0} (g : Setting H) (moves : W → Question → Answer → W → Type 0) (due : Doing) (h : H) (o : W)
    (left : ℕ) where
  pub lacks_first : (o1 : W) → Waits g moves due h o o1 → Lacks g moves due h o left 0 lack.Run h o1
  lacks_first o1 x = record { within = omega arith; heard = x.heard; chain = x.chain; by = x.halts }

  pub breaks_off : (n : ℕ) (h1 : H) (o1 : W) (k : Lack) → Lacks g moves due h o left n k h1 o1 →
      BreaksOff g moves due h o left (unfinished n) h1 o1
  breaks_off n h1 o1 lack.Run x =
      inl (record { within = x.within; heard = x.heard; chain = x.chain; halts = x.by })
  breaks_off n h1 o1 lack.Step x =
      inr (record { within = x.by.1; heard = x.heard; chain = x.chain; exhausts = x.by.0 })
