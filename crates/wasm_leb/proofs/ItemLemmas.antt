-- Items of the grammar at the front of the bytes left are read.
use Rattle.std.proofs.Common.{◌≡◌, ℕ, ℤ, ◌+◌, List, ◌++◌, length, Some, ◌∙◌, ap}
use Rattle.wasm_leb.specs.Names.{IsName, name}
use Rattle.wasm_leb.specs.Numbers.{IsSigned, IsUnsigned, signed, unsigned}
use Rattle.wasm_leb.specs.Places.{Place, place}
use Rattle.wasm_leb.proofs.NameLemmas.{name_again}
use Rattle.wasm_leb.proofs.NumberLemmas.{unsigned-again, signed_at-again}

pub unsigned_read : (bits : ℕ) (p : Place) (item rest : List ℕ) (n : ℕ) → p.left ≡ item ++ rest → IsUnsigned bits item n → unsigned bits p ≡ Some (n, place (p.at + length item) rest)
unsigned_read bits p item rest n e u = ap (λ (xs : List ℕ). unsigned bits (place p.at xs)) e ∙ unsigned-again bits p.at item rest n u

pub signed_read : (bits : ℕ) (p : Place) (item rest : List ℕ) (z : ℤ) → p.left ≡ item ++ rest → IsSigned bits item z → signed bits p ≡ Some (z, place (p.at + length item) rest)
unfolding signed
signed_read bits p item rest z e u = ap (λ (xs : List ℕ). signed bits (place p.at xs)) e ∙ signed_at-again bits p.at item rest z u

pub name_read : (p : Place) (item rest text : List ℕ) → p.left ≡ item ++ rest → IsName item text → name p ≡ Some (text, place (p.at + length item) rest)
name_read p item rest text e n = ap (λ (xs : List ℕ). name (place p.at xs)) e ∙ name_again p.at item rest text n
