-- A reader that fills in sections, by what its first part answers.
use Rattle.std.proofs.Common.{◌≡◌, Result, Ok, Err, ap, ◌∙◌, subst, sym}
use Rattle.std.specs.Bool.{⊤}
use Rattle.std.specs.Result.{IsErr, IsErrAnd}
use Rattle.wasm_leb.specs.Places.{Place}
use Rattle.binary_types.specs.Reading.{Read, Reads, then}
use Rattle.binary_types.specs.declared.faults.BinaryFault.{BinaryFault}
use Rattle.binary_types.specs.declared.faults.BinaryFault.TheVariants.{Malformed, Unsupported, Index, Alignment, Refused, OutOfMemory}
use Rattle.wasm_binary.specs.Sections.{Fills}
use Rattle.wasm_binary.specs.declared.sections.Sections.{Sections}

-- a fault of the first part is one of the whole
pub failed : {A : Type 0} (due : Result (A × Place) BinaryFault) (f : A → Read Sections) (e : BinaryFault) (p : Place) (s : Sections) (q : Place) → Reads due (Err e) p → Fills (then due f) (Err e) s q
failed due f Malformed p s q h = ap (λ r. then r f) h
failed due f (Unsupported a c) p s q h = ap (λ r. then r f) h
failed due f (Index a) p s q h = ap (λ r. then r f) h
failed due f (Alignment a) p s q h = ap (λ r. then r f) h
failed due f (Refused a t) p s q h = ap (λ r. then r f) h
failed due f OutOfMemory p s q h = tt

-- the same of an answer that is passed on
pub passed_on : {A : Type 0} (due : Result (A × Place) BinaryFault) (f : A → Read Sections) (r : Result ⊤ BinaryFault) (e : BinaryFault) (p : Place) (s : Sections) (q : Place) → IsErr r × IsErrAnd r (λ (x : BinaryFault). x ≡ e) → Reads due (Err e) p → Fills (then due f) r s q
passed_on due f (Ok x) e p s q h k = absurd h.1
passed_on due f (Err x) e p s q h k = failed due f x p s q (subst (λ (y : BinaryFault). Reads due (Err y) p) (sym h.1) k)
