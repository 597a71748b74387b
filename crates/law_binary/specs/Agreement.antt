-- That a reader reads a format. This project's own.
use Rattle.std.specs.Prelude.{◌≡◌, ◌⊎◌, ℕ, ◌+◌, List, [], ◌++◌, length, Ok, Err}
use Rattle.wasm_leb.specs.Items.{Lie}
use Rattle.wasm_leb.specs.Places.{Place, place}
use Rattle.binary_types.specs.Reading.{Read}
use Rattle.binary_types.specs.declared.faults.BinaryFault.{BinaryFault}
use Rattle.binary_types.specs.declared.faults.BinaryFault.TheVariants.{Malformed}
use Rattle.law_binary.specs.Formats.{Format}

pub record Agree {A : Type 0} (read : Read A) (F : Format A) : Type 0 where
  -- what is read is spelled so
  pub found : (p : Place) (x : A) (after : Place) → read p ≡ Ok (x, after) → (item : List ℕ) × F.Spells item x × Lie p item after
  -- what is spelled so is read, whatever follows
  pub only : (p : Place) (item rest : List ℕ) (x : A) → p.left ≡ item ++ rest → F.Spells item x → read p ≡ Ok (x, place (p.at + length item) rest)
  -- a fault that is read is one of the format, or the bytes are malformed
  pub fault : (p : Place) (f : BinaryFault) → read p ≡ Err f → (f ≡ Malformed) ⊎ F.Fails p.at p.left f
  -- a fault of the format is read
  pub first : (p : Place) (f : BinaryFault) → F.Fails p.at p.left f → read p ≡ Err f

-- that a reader reads a format up to the end of the bytes
pub record AgreeToEnd {A : Type 0} (read : Read A) (F : Format A) : Type 0 where
  pub found : (p : Place) (x : A) (after : Place) → read p ≡ Ok (x, after) → F.Spells p.left x × (after.left ≡ [])
  pub only : (p : Place) (x : A) → F.Spells p.left x → read p ≡ Ok (x, place (p.at + length p.left) [])
  pub fault : (p : Place) (f : BinaryFault) → read p ≡ Err f → (f ≡ Malformed) ⊎ F.Fails p.at p.left f
  pub first : (p : Place) (f : BinaryFault) → F.Fails p.at p.left f → read p ≡ Err f
