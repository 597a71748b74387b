-- Memories and tables within a pool: all memories together have so many bytes, all tables together so many elements.
-- This project's own.
use Rattle.std.proofs.Common.{ap, subst, sym, true≢false}
use Rattle.std.proofs.lemmas.Bool.{false≢true}
use Rattle.std.specs.Prelude.{◌≡◌, ℕ, ◌-◌, ◌≤◌, nat_le, nat_lt, Bool, true, false, if◌then◌else◌, Option, Some, None, Result, Ok, Err, is_err}
use Rattle.std.specs.Result.{result_unwrap_or}
use Rattle.wasm_meter.specs.Counting.{Rose}
use Rattle.wasm_meter.specs.Growths.{Growth, Growing, Memory, Table}
use Rattle.wasm_meter.specs.Lists.{one_more}
use Rattle.wasm_meter.specs.ListLaws.{rises}
use Rattle.wasm_meter.specs.declared.faults.LimiterFailed.{LimiterFailed}
use Rattle.wasm_pool.specs.declared.pooled.Pooled.{Pooled}

-- a size is past a declared maximum, where there is one
abbrev pub passes : ℕ → Option ℕ → Bool
passes size None = false
passes size (Some most) = nat_lt most size

-- what a growth takes: as much as it adds, and nothing where it passes the declared maximum, since it then fails
abbrev pub taken : ℕ → ℕ → Option ℕ → ℕ
taken current desired maximum = if passes desired maximum then 0 else desired - current

abbrev pub takes : Growth → ℕ
takes question = taken question.current question.desired question.maximum

module _ {D : Type 0} where
  -- before the first growth
  abbrev pub pool : D → ℕ → ℕ → Pooled D
  pool own bytes elements = record { own = own; bytes_left = bytes; elements_left = elements; denials = 0 }

  -- how much is left of what the question is about
  abbrev pub left_of : Pooled D → Growing → ℕ
  left_of s Memory = s.bytes_left
  left_of s Table = s.elements_left

  abbrev pub less : Pooled D → Growing → ℕ → Pooled D
  less s Memory n = record s { bytes_left = s.bytes_left - n }
  less s Table n = record s { elements_left = s.elements_left - n }

  -- a growth is granted where so much is left
  abbrev pub grants : Pooled D → Growth → Bool
  grants s question = nat_le (takes question) (left_of s question.object)

  -- what is granted is taken off, and a denial is counted
  abbrev pub answered : Pooled D → Growth → Bool → Pooled D
  answered s question granted =
      if granted then less s question.object (takes question) else record s { denials = one_more s.denials }

  abbrev pub AnswersFromPool : Pooled D → Growth → Result Bool LimiterFailed → Pooled D → Type 0
  AnswersFromPool s question answer t =
      (answer ≡ Ok (grants s question)) × (t ≡ answered s question (grants s question)) × (s.denials ≤ t.denials)

  denied : (s : Pooled D) (question : Growth) (granted : Bool) → false ≡ granted →
      Rose s.denials (answered s question granted).denials
  denied s question true e = absurd (false≢true e)
  denied s question false e = rises s.denials

  pub pool_denies : (s t : Pooled D) (question : Growth) → AnswersFromPool s question (Ok false) t →
      Rose s.denials t.denials
  pool_denies s t question h =
      subst (λ (x : Pooled D). Rose s.denials x.denials) (sym h.1)
      (denied s question (grants s question) (ap (λ r. result_unwrap_or r true) h.0))

  -- it never fails
  pub pool_answers : {P : Type 0} (s t : Pooled D) (question : Growth) (fault : LimiterFailed) →
      AnswersFromPool s question (Err fault) t → P
  pool_answers s t question fault h = absurd (true≢false (ap is_err h.0))
