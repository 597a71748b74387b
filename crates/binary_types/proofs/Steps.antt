-- A reader of two parts, by what the first one answers.
use Rattle.std.proofs.Common.{◌≡◌, Result, Ok, Err, ap, ◌∙◌}
use Rattle.wasm_leb.specs.Places.{Place}
use Rattle.binary_types.specs.Reading.{Read, Reads, then}
use Rattle.binary_types.specs.declared.faults.BinaryFault.{BinaryFault}
use Rattle.binary_types.specs.declared.faults.BinaryFault.TheVariants.{Malformed, Unsupported, Index, Alignment, Refused, OutOfMemory}

-- a fault of the first part is one of the whole
pub failed : {A B : Type 0} (due : Result (A × Place) BinaryFault) (f : A → Read B) (e : BinaryFault) (p q : Place) → Reads due (Err e) p → Reads (then due f) (Err e) q
failed due f Malformed p q h = ap (λ r. then r f) h
failed due f (Unsupported a c) p q h = ap (λ r. then r f) h
failed due f (Index a) p q h = ap (λ r. then r f) h
failed due f (Alignment a) p q h = ap (λ r. then r f) h
failed due f (Refused a t) p q h = ap (λ r. then r f) h
failed due f OutOfMemory p q h = tt

-- what the first part read, and then the rest
pub read_then : {A B : Type 0} (due : Result (A × Place) BinaryFault) (f : A → Read B) (x : A) (p q : Place) (r : Result B BinaryFault) → due ≡ Ok (x, p) → Reads (f x p) r q → Reads (then due f) r q
read_then due f x p q (Ok y) e h = ap (λ r. then r f) e ∙ h
read_then due f x p q (Err Malformed) e h = ap (λ r. then r f) e ∙ h
read_then due f x p q (Err (Unsupported a c)) e h = ap (λ r. then r f) e ∙ h
read_then due f x p q (Err (Index a)) e h = ap (λ r. then r f) e ∙ h
read_then due f x p q (Err (Alignment a)) e h = ap (λ r. then r f) e ∙ h
read_then due f x p q (Err (Refused a t)) e h = ap (λ r. then r f) e ∙ h
read_then due f x p q (Err OutOfMemory) e h = tt
