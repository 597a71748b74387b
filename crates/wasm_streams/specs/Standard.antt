-- What contracts see of a source over a reader and of a sink over a writer. This project's own.
use Rattle.std.specs.Prelude.{ℕ, Bool, refl}
use Rattle.std.specs.Coded.{Coded, code_by, coded×, coded_ℕ, coded_bool}

-- the reader, how many faults there were, and whether the end was given
pub record StdSourceParts (R : Type 0) : Type 0 where
  pub reader : R
  pub faults : ℕ
  pub ended : Bool

abbrev pub std_source_parts : {R : Type 0} → R → ℕ → Bool → StdSourceParts R
std_source_parts reader faults ended = record { reader = reader; faults = faults; ended = ended }

abbrev pub std_source_code : {R : Type 0} → Coded R → Coded (StdSourceParts R)
std_source_code {R} code =
    code_by (R × (ℕ × Bool)) (coded× code (coded× coded_ℕ coded_bool)) (λ s. (s.reader, (s.faults, s.ended)))
    (λ p. std_source_parts p.0 p.1.0 p.1.1) (λ _. refl)

-- the writer, how many faults there were, and whether the last call was a flush that did not fail
pub record StdSinkParts (W : Type 0) : Type 0 where
  pub writer : W
  pub faults : ℕ
  pub flushed : Bool

abbrev pub std_sink_parts : {W : Type 0} → W → ℕ → Bool → StdSinkParts W
std_sink_parts writer faults flushed = record { writer = writer; faults = faults; flushed = flushed }

abbrev pub std_sink_code : {W : Type 0} → Coded W → Coded (StdSinkParts W)
std_sink_code {W} code =
    code_by (W × (ℕ × Bool)) (coded× code (coded× coded_ℕ coded_bool)) (λ s. (s.writer, (s.faults, s.flushed)))
    (λ p. std_sink_parts p.0 p.1.0 p.1.1) (λ _. refl)
