-- Parts of a call, one after another, and where functions wait for them.
use Rattle.std.proofs.Common.{◌≡◌, ℕ, ◌+◌, ◌-◌, ◌≤◌, List, [], ◌++◌, arith}
use Rattle.spec_machine.specs.Machine.{Machine}
use Rattle.spec_execution.specs.Askings.{Question, Answer, Asking, Chain}
use Rattle.code_leaps.specs.Leading.{Doing, Setting, at, Leads}
use Rattle.code_leaps.proofs.PartLemmas.{chain_on, leads_from, stops_from, halts_from, leads_on, stops_on, halts_on}
use Rattle.code_hosts.specs.Hosting.{outwards}
use Rattle.code_hosts.specs.Rounds.{ends_in, RoundBy, LacksBy, Rounds, Lacks}
use Rattle.code_hosts.specs.States.{around_of, due_of}
use Rattle.code_hosts.specs.declared.rounds.Lack.{Lack}
use Rattle.code_hosts.specs.declared.rounds.Lack.TheVariants as lack
use Rattle.code_hosts.specs.declared.rounds.Round.{Round}
use Rattle.code_hosts.specs.declared.rounds.Round.TheVariants as round
use Rattle.code_hosts.specs.declared.states.Waiting.{Waiting}
use Rattle.code_hosts.proofs.ContextLemmas.{exhausts_from, exhausts_on, leads_outwards, stops_outwards, halts_outwards, exhausts_outwards}

module _ {H : Type 0} (g : Setting H) where
  -- ---- where these functions wait, too

  module _ (around : List Waiting) (due : Doing) (h : H) (left spent : ℕ) (heard : List Asking) (h' : H) where
    abbrev in_context : Doing
    in_context w = outwards (around_of around) (due w)

    pub round_outwards : (r : Round) → RoundBy g due h left spent heard [] h' r →
        RoundBy g in_context h left spent heard around h' r
    round_outwards (round.Goes now) l = leads_outwards g (around_of around) due h spent heard h' (due_of now []) l
    round_outwards (round.Ends how) l = (
      leads_outwards g (around_of around) due h spent heard h' (ends_in [] how) l.0,
      l.1,
    )
    round_outwards round.Limit l = (stops_outwards g (around_of around) due h spent heard h' l.0, l.1)

    pub lack_outwards : (r : Lack) → LacksBy g due h left spent heard [] h' r →
        LacksBy g in_context h left spent heard [] h' r
    lack_outwards lack.Run l = halts_outwards g (around_of around) due h spent heard h' l
    lack_outwards lack.Step l = (exhausts_outwards g (around_of around) due h spent heard h' l.0, l.1)

  -- ---- what means the same, in each world of this store

  module _ (a b : Doing) (h : H) (e : (base : Machine) → g.is_base base → (turns : ℕ) (before : List Asking)
      (answers : List Answer) → a (at g base h turns before answers) ≡ b (at g base h turns before answers))
      (left spent : ℕ) (heard : List Asking) (h' : H) where
    pub round_from : (around : List Waiting) (r : Round) → RoundBy g b h left spent heard around h' r →
        RoundBy g a h left spent heard around h' r
    round_from around (round.Goes now) l = leads_from g a b h e spent heard (due_of now around) h' l
    round_from around (round.Ends how) l = (leads_from g a b h e spent heard (ends_in around how) h' l.0, l.1)
    round_from around round.Limit l = (stops_from g a b h e spent heard h' l.0, l.1)

    pub lack_from : (r : Lack) → LacksBy g b h left spent heard [] h' r → LacksBy g a h left spent heard [] h' r
    lack_from lack.Run l = halts_from g a b h e spent heard h' l
    lack_from lack.Step l = (exhausts_from g a b h e spent heard h' l.0, l.1)

  -- ---- behind a part that leads on

  module _ (a b : Doing) (h h1 : H) (left n : ℕ) (heard : List Asking) (within : n ≤ left)
      (first : Leads g a h n heard b h1) (m : ℕ) (heard' : List Asking) (h2 : H) where
    pub round_on : (around : List Waiting) (r : Round) → RoundBy g b h1 (left - n) m heard' around h2 r →
        RoundBy g a h left (n + m) (heard ++ heard') around h2 r
    round_on around (round.Goes now) l = leads_on g a b h h1 n heard first m heard' (due_of now around) h2 l
    round_on around (round.Ends how) l = (leads_on g a b h h1 n heard first m heard' (ends_in around how) h2 l.0, l.1)
    round_on around round.Limit l = (
      stops_on g a b h h1 n heard first m heard' h2 l.0,
      omega (arith, within, l.1),
    )

    pub lack_on : (r : Lack) → LacksBy g b h1 (left - n) m heard' [] h2 r →
        LacksBy g a h left (n + m) (heard ++ heard') [] h2 r
    lack_on lack.Run l = halts_on g a b h h1 n heard first m heard' h2 l
    lack_on lack.Step l = (exhausts_on g a b h h1 n heard first m heard' h2 l.0, omega (arith, within, l.1))

-- ---- the same of whole rounds

module _ {H W : Type 0} (g : Setting H) (moves : W → Question → Answer → W → Type 0) where
  module _ (around : List Waiting) (due : Doing) (h : H) (o : W) (left spent : ℕ) (h' : H) (o' : W) where
    pub rounds_outwards : (r : Round) → Rounds g moves due h o left spent r [] h' o' →
        Rounds g moves (λ w. outwards (around_of around) (due w)) h o left spent r around h' o'
    rounds_outwards r x = record {
      within = x.within;
      heard = x.heard;
      chain = x.chain;
      by = round_outwards g around due h left spent x.heard h' r x.by;
    }

    pub lacks_outwards : (r : Lack) → Lacks g moves due h o left spent r h' o' →
        Lacks g moves (λ w. outwards (around_of around) (due w)) h o left spent r h' o'
    lacks_outwards r x = record {
      within = x.within;
      heard = x.heard;
      chain = x.chain;
      by = lack_outwards g around due h left spent x.heard h' r x.by;
    }

  module _ (a b : Doing) (h : H) (e : (base : Machine) → g.is_base base → (turns : ℕ) (before : List Asking)
      (answers : List Answer) → a (at g base h turns before answers) ≡ b (at g base h turns before answers))
      (o : W) (left spent : ℕ) (h' : H) (o' : W) where
    pub rounds_from : (around : List Waiting) (r : Round) → Rounds g moves b h o left spent r around h' o' →
        Rounds g moves a h o left spent r around h' o'
    rounds_from around r x = record {
      within = x.within;
      heard = x.heard;
      chain = x.chain;
      by = round_from g a b h e left spent x.heard h' around r x.by;
    }

    pub lacks_from : (r : Lack) → Lacks g moves b h o left spent r h' o' → Lacks g moves a h o left spent r h' o'
    lacks_from r x = record {
      within = x.within;
      heard = x.heard;
      chain = x.chain;
      by = lack_from g a b h e left spent x.heard h' r x.by;
    }

  module _ (a b : Doing) (h h1 : H) (o o1 : W) (left n : ℕ) (heard : List Asking) (within : n ≤ left)
      (chain : Chain moves o heard o1) (first : Leads g a h n heard b h1) (m : ℕ) (h2 : H) (o2 : W) where
    pub rounds_on : (around : List Waiting) (r : Round) → Rounds g moves b h1 o1 (left - n) m r around h2 o2 →
        Rounds g moves a h o left (n + m) r around h2 o2
    rounds_on around r x = record {
      within = omega (arith, within, x.within);
      heard = heard ++ x.heard;
      chain = chain_on moves o o1 o2 heard x.heard chain x.chain;
      by = round_on g a b h h1 left n heard within first m x.heard h2 around r x.by;
    }

    pub lacks_on : (r : Lack) → Lacks g moves b h1 o1 (left - n) m r h2 o2 →
        Lacks g moves a h o left (n + m) r h2 o2
    lacks_on r x = record {
      within = omega (arith, within, x.within);
      heard = heard ++ x.heard;
      chain = chain_on moves o o1 o2 heard x.heard chain x.chain;
      by = lack_on g a b h h1 left n heard within first m x.heard h2 r x.by;
    }
