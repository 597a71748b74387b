-- What the parts of a reader that take no bytes answer.
use Rattle.std.proofs.Common.{◌≡◌, ℕ, Bool, true, false, Option, Some, None, Result, Ok, Err, IfOk, inl, inr, refl, sym, ap}
use Rattle.wasm_leb.specs.Places.{Place}
use Rattle.wasm_types.specs.Signatures.{Signature}
use Rattle.wasm_types.specs.FunctionRules.{Makes}
use Rattle.wasm_types.specs.declared.faults.TypeFault.{TypeFault}
use Rattle.wasm_types.specs.declared.faults.TypeFault.TheVariants as type_fault
use Rattle.binary_types.specs.FunctionTypes.{IsMadeBy, made_by}
use Rattle.binary_types.specs.Reading.{Reads}
use Rattle.binary_types.specs.declared.faults.BinaryFault.{BinaryFault}
use Rattle.binary_types.specs.declared.faults.BinaryFault.TheVariants as fault

pub not_true : (b : Bool) → (b ≡ true → ⊥) → b ≡ false
not_true true h = absurd (h refl)
not_true false h = refl

-- what a constructor made, and what it refused
pub made_ok : (at : ℕ) (o : Option TypeFault) (t x : Signature) → Makes o t (Ok x) → (o ≡ None) × (x ≡ t)
made_ok at None t x (inl e) = (refl, cc e)
made_ok at None t x (inr e) = absurd (cc e)
made_ok at (Some f) t x e = absurd (cc e)

pub made_err : (at : ℕ) (o : Option TypeFault) (t : Signature) (f : TypeFault) → Makes o t (Err f) → (f ≡ type_fault.OutOfMemory → ⊥) → IsMadeBy at o t (Err (fault.Refused at f))
made_err at None t f (inl e) h = absurd (cc e)
made_err at None t f (inr e) h = absurd (h (cc e))
made_err at (Some g) t f e h = cc e

pub made_reads : (at : ℕ) (o : Option TypeFault) (t : Signature) (r : Result Signature BinaryFault) (p : Place) → IsMadeBy at o t r → Reads (made_by at o t p) r p
made_reads at None t (Ok x) p h = ap (λ (y : Signature). Ok (y, p)) (sym h.1)
made_reads at (Some f) t (Ok x) p h = absurd (cc h.0)
made_reads at o t (Err fault.OutOfMemory) p h = tt
made_reads at None t (Err fault.Malformed) p h = absurd h
made_reads at None t (Err (fault.Unsupported a c)) p h = absurd h
made_reads at None t (Err (fault.Index a)) p h = absurd h
made_reads at None t (Err (fault.Alignment a)) p h = absurd h
made_reads at None t (Err (fault.Refused a f)) p h = absurd h
made_reads at (Some f) t (Err fault.Malformed) p h = absurd (cc h)
made_reads at (Some f) t (Err (fault.Unsupported a c)) p h = absurd (cc h)
made_reads at (Some f) t (Err (fault.Index a)) p h = absurd (cc h)
made_reads at (Some f) t (Err (fault.Alignment a)) p h = absurd (cc h)
made_reads at (Some f) t (Err (fault.Refused a g)) p h = ap (λ (e : BinaryFault). Err e) (sym h)

-- what holds of the type of the parts holds of what was made
pub made_is : (at : ℕ) (o : Option TypeFault) (t : Signature) (r : Result Signature BinaryFault) (P : Signature → Type 0) → IsMadeBy at o t r → ((x : Signature) → x ≡ t → P x) → IfOk r P
made_is at o t (Ok x) P h f = f x h.1
made_is at o t (Err e) P h f = tt
