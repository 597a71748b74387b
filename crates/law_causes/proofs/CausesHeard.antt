-- The cause of a refusal, in what was heard before and behind it.
use Rattle.std.proofs.Common.{◌≡◌, inl, inr, List, ◌++◌, ap, ◌∙◌, Bool}
use Rattle.std.specs.List.{list_any}
use Rattle.std.proofs.lemmas.Bool.{or_left, or_right}
use Rattle.std.proofs.lemmas.List.{map-append}
use Rattle.std.proofs.lemmas.List.Folds.{list_any-append}
use Rattle.wasm_values.specs.declared.refusals.Refusal.{Refusal}
use Rattle.wasm_values.specs.declared.refusals.Refusal.TheVariants.{GrowFailed, LimiterFault, HookFault, EpochFault, HostFault}
use Rattle.spec_execution.specs.Askings.{Answer, Asking, answers_in}
use Rattle.law_causes.specs.Causes.{Reasons, is_denial, is_limiter_fault, is_hook_fault, is_reading_fault, is_behaviour_fault, is_host_fault, Given, HasCause}

module _ (is : Answer → Bool) (xs ys : List Asking) where
  both : list_any is (answers_in (xs ++ ys)) ≡ list_any is (answers_in xs ++ answers_in ys)
  both = ap (list_any is) (map-append (λ (asking : Asking). asking.1) xs ys)

  given_before : Given is xs → Given is (xs ++ ys)
  given_before h = both ∙ list_any-append is (answers_in xs) (answers_in ys) ∙ or_left _ _ h

  given_behind : Given is ys → Given is (xs ++ ys)
  given_behind h = both ∙ list_any-append is (answers_in xs) (answers_in ys) ∙ or_right _ _ h

module _ (reason : Reasons) (xs ys : List Asking) where
  pub cause_before : (why : Refusal) → HasCause reason why xs → HasCause reason why (xs ++ ys)
  cause_before GrowFailed (inl h) = inl (h.0, given_before is_denial xs ys h.1)
  cause_before GrowFailed (inr h) = inr h
  cause_before LimiterFault h = given_before is_limiter_fault xs ys h
  cause_before HookFault h = given_before is_hook_fault xs ys h
  cause_before EpochFault (inl h) = inl (given_before is_reading_fault xs ys h)
  cause_before EpochFault (inr h) = inr (given_before is_behaviour_fault xs ys h)
  cause_before HostFault h = given_before is_host_fault xs ys h
  cause_before why h = h

  pub cause_behind : (why : Refusal) → HasCause reason why ys → HasCause reason why (xs ++ ys)
  cause_behind GrowFailed (inl h) = inl (h.0, given_behind is_denial xs ys h.1)
  cause_behind GrowFailed (inr h) = inr h
  cause_behind LimiterFault h = given_behind is_limiter_fault xs ys h
  cause_behind HookFault h = given_behind is_hook_fault xs ys h
  cause_behind EpochFault (inl h) = inl (given_behind is_reading_fault xs ys h)
  cause_behind EpochFault (inr h) = inr (given_behind is_behaviour_fault xs ys h)
  cause_behind HostFault h = given_behind is_host_fault xs ys h
  cause_behind why h = h

-- each reason is one of the others
pub record Gives (reason other : Reasons) : Type 0 where
  pub own : (why : Refusal) → reason.own why → other.own why
  pub grows : reason.grows → other.grows

pub cause_for : {reason other : Reasons} → Gives reason other → (why : Refusal)
    (heard : List Asking) → HasCause reason why heard → HasCause other why heard
cause_for f GrowFailed heard (inl h) = inl (f.grows h.0, h.1)
cause_for f GrowFailed heard (inr h) = inr (f.own GrowFailed h)
cause_for f LimiterFault heard h = h
cause_for f HookFault heard h = h
cause_for f EpochFault heard h = h
cause_for f HostFault heard h = h
cause_for f why heard h = f.own why h
