-- What is answered by what a check answered, and by the refusal of the call that was made.
use Rattle.std.proofs.Common.{◌≡◌, ◌⊎◌, Result, Ok, Err, refl, sym, ap, ◌∙◌, inl, inr}
use Rattle.std.specs.Prelude.{IfErr}
use Rattle.wasm_values.specs.declared.refusals.Refusal.{Refusal}
use Rattle.wasm_values.specs.declared.refusals.Refusal.TheVariants as refusal
use Rattle.wasm_plugins.specs.Guests.{Answers, Refuses, told_fault}
use Rattle.wasm_plugins.specs.declared.faults.PluginFault.{PluginFault}
use Rattle.wasm_plugins.specs.declared.faults.PluginFault.TheVariants as fault

pub same_why : {A : Type 0} (a b : PluginFault) → ◌≡◌ {A = Result A PluginFault} (Err a) (Err b) → a ≡ b
same_why a b e = cc

pub same_told : {A : Type 0} (B : Type 0) (a b : PluginFault) → ◌≡◌ {A = Result A PluginFault} (Err a) (Err b) →
    ◌≡◌ {A = Result B PluginFault} (Err a) (Err b)
same_told {A} B a b e = ap (λ (w : PluginFault). Err w) (same_why {A = A} a b e)

-- ---- a check that passed

pub passed : {A : Type 0} (due : Result A PluginFault) (a : A) → Answers due (Ok a) → due ≡ Ok a
passed due a (inl e) = sym e
passed due a (inr e) = absurd cc

-- nothing is due to be refused
pub none_due : {A F : Type 0} (P : F → Type 0) (due : Result A F) (a : A) → due ≡ Ok a → IfErr due P
none_due P (Ok b) a e = tt
none_due P (Err why) a e = absurd cc

-- ---- a check that refused, with the fault that is told

module _ {A : Type 0} (B : Type 0) where
  pub refuses : (due : Result A PluginFault) (why : PluginFault) → Answers due (Err why) →
      IfErr due (λ d. Refuses {A = B} d (Err why))
  refuses (Ok a) why h = tt
  refuses (Err d) why (inl e) = inl (ap (λ (w : PluginFault). Err w) (same_why {A = A} why d e))
  refuses (Err d) why (inr e) = inr (ap (λ (w : PluginFault). Err w) (same_why {A = A} why fault.OutOfMemory e))

  -- it was due, where it is not that there was no memory
  pub is_due : (due : Result A PluginFault) (why own : PluginFault) → Answers due (Err why) →
      (own ≡ fault.OutOfMemory → ⊥) → ◌≡◌ {A = Result B PluginFault} (Err why) (Err own) → due ≡ Err own
  is_due due why own (inl e) none h = sym e ∙ ap (λ (w : PluginFault). Err w) (same_why {A = B} why own h)
  is_due due why own (inr e) none h =
      absurd (none (sym (same_why {A = B} why own h) ∙ same_why {A = A} why fault.OutOfMemory e))

pub short_why : {A : Type 0} (due : Result A PluginFault) (a : A) (why : PluginFault) → Answers due (Err why) →
    due ≡ Ok a → why ≡ fault.OutOfMemory
short_why due a why (inl e) p = absurd cc
short_why {A} due a why (inr e) p = same_why {A = A} why fault.OutOfMemory e

-- whatever is due behind it
pub short_refuses : {X : Type 0} (B : Type 0) (why : PluginFault) (due : Result X Refusal) → why ≡ fault.OutOfMemory →
    IfErr due (λ w. Refuses {A = B} (fault.Refused w) (Err why))
short_refuses B why (Ok x) e = tt
short_refuses B why (Err w) e = inr (ap (λ (f : PluginFault). Err f) e)

-- ---- the refusal of a call that was made, as it is told

pub told_is : (why : Refusal) → (told_fault why ≡ fault.Refused why) ⊎ (told_fault why ≡ fault.OutOfMemory)
told_is refusal.OutOfMemory = inr refl
told_is why = inl refl

told_short : (why : Refusal) → told_fault why ≡ fault.OutOfMemory → why ≡ refusal.OutOfMemory
told_short refusal.OutOfMemory e = refl
told_short why e = absurd cc

pub told_short_of : (B : Type 0) (why : Refusal) (what : PluginFault) → what ≡ told_fault why →
    ◌≡◌ {A = Result B PluginFault} (Err what) (Err fault.OutOfMemory) → why ≡ refusal.OutOfMemory
told_short_of B why what told e = told_short why (sym told ∙ same_why {A = B} what fault.OutOfMemory e)
