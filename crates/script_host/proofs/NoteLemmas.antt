-- The notes that a step takes, and the actions behind them.
use Rattle.std.proofs.Common.{◌≡◌, ℕ, ◌+◌, ◌-◌, ◌<◌, ◌^◌, List, [], ◌∷◌, ◌++◌, length, map, take, String, string_bytes, refl, ap, sym, ◌∙◌, arith}
use Rattle.std.proofs.lemmas.List.{append-nil, append_assoc, length-append, length-map, map-append, take-map}
use Rattle.std.proofs.Math.Seq.{take-append_seam}
use Rattle.std.specs.declared.alloc.Global.{Global}
use Rattle.script_commands.specs.declared.host_bodies.Action.{Action}
use Rattle.script_commands.specs.declared.host_bodies.Action.TheVariants as action
use Rattle.script_commands.specs.declared.notes.NotePart.{NotePart}
use Rattle.script_host.specs.Notes.{notes_before, behind_notes}

-- notes of before, and the actions; and then the notes so far, and the actions that are left
pub record Taking (text : List NotePart → List ℕ) (old : List (String Global)) (actions : List Action) (notes : List (String Global)) (rest : List Action) : Type 0 where
  pub more : List (String Global)
  pub kept : notes ≡ old ++ more
  pub taken : map string_bytes more ++ notes_before text rest ≡ notes_before text actions
  pub behind : behind_notes rest ≡ behind_notes actions

module _ (text : List NotePart → List ℕ) (old : List (String Global)) (actions : List Action) where
  pub begins : Taking text old actions old actions
  begins = record { more = []; kept = sym (append-nil old); taken = refl; behind = refl }

  -- another note
  pub takes : (notes after : List (String Global)) (parts : List NotePart) (rest : List Action) (s : String Global) → Taking text old actions notes (action.Note parts ∷ rest) → string_bytes s ≡ text parts → after ≡ notes ++ s ∷ [] → Taking text old actions after rest
  takes notes after parts rest s h is pushed = record {
    more = h.more ++ s ∷ [];
    kept = pushed ∙ ap (λ (all : List (String Global)). all ++ s ∷ []) h.kept ∙ append_assoc old h.more (s ∷ []);
    taken =
        ap (λ (all : List (List ℕ)). all ++ notes_before text rest) (map-append string_bytes h.more (s ∷ []))
        ∙ append_assoc (map string_bytes h.more) (string_bytes s ∷ []) (notes_before text rest)
        ∙ ap (λ (t : List ℕ). map string_bytes h.more ++ t ∷ notes_before text rest) is
        ∙ h.taken;
    behind = h.behind;
  }

  -- the notes of before still stand
  pub kept_first : (notes : List (String Global)) (rest : List Action) → Taking text old actions notes rest → take (length old) notes ≡ old
  kept_first notes rest h = ap (take (length old)) h.kept ∙ take-append_seam old h.more

  -- the end: there is no further note
  pub all_taken : (notes : List (String Global)) (rest : List Action) → Taking text old actions notes rest → notes_before text rest ≡ [] → map string_bytes notes ≡ map string_bytes old ++ notes_before text actions
  all_taken notes rest h none =
      ap (map string_bytes) h.kept ∙ map-append string_bytes old h.more
      ∙ ap (λ (all : List (List ℕ)). map string_bytes old ++ all)
      (sym (append-nil (map string_bytes h.more)) ∙ ap (λ (all : List (List ℕ)). map string_bytes h.more ++ all) (sym none) ∙ h.taken)

  pub all_behind : (notes : List (String Global)) (rest : List Action) → Taking text old actions notes rest → behind_notes rest ≡ rest → rest ≡ behind_notes actions
  all_behind notes rest h same = sym same ∙ h.behind

-- an action that is no note
abbrev pub IsOther : Action → Type 0
IsOther a = (parts : List NotePart) → a ≡ action.Note parts → ⊥

pub other_behind : (a : Action) (rest : List Action) → IsOther a → behind_notes (a ∷ rest) ≡ a ∷ rest
other_behind (action.Note parts) rest h = absurd (h parts refl)
other_behind (action.Do op) rest h = refl
other_behind (action.Return operands) rest h = refl
other_behind action.Fail rest h = refl

pub other_before : (text : List NotePart → List ℕ) (a : Action) (rest : List Action) → IsOther a → notes_before text (a ∷ rest) ≡ []
other_before text (action.Note parts) rest h = absurd (h parts refl)
other_before text (action.Do op) rest h = refl
other_before text (action.Return operands) rest h = refl
other_before text action.Fail rest h = refl

-- the notes and what stands behind them are all of the actions
pub parted : (text : List NotePart → List ℕ) (actions : List Action) → length (notes_before text actions) + length (behind_notes actions) ≡ length actions
parted text [] = refl
parted text (action.Note parts ∷ rest) = let all = parted text rest in omega arith
parted text (action.Do op ∷ rest) = omega arith
parted text (action.Return operands ∷ rest) = omega arith
parted text (action.Fail ∷ rest) = omega arith

-- the notes were taken behind those of before, and the action behind them is within the body
pub fits_behind : (text : List NotePart → List ℕ) (actions rest : List Action) (old new : List (String Global)) (place before after : ℕ) → place + length actions < 2 ^ 64 → rest ≡ behind_notes actions → map string_bytes new ≡ map string_bytes old ++ notes_before text actions → before ≡ length old → after ≡ length new → place + (after - before) + length rest < 2 ^ 64
fits_behind text actions rest old new place before after within is taken b a =
    let all = parted text actions in
    let n : length new ≡ length old + length (notes_before text actions) = sym (length-map new string_bytes) ∙ ap length taken ∙ length-append (map string_bytes old) (notes_before text actions) ∙ ap (λ (k : ℕ). k + length (notes_before text actions)) (length-map old string_bytes) in
    let r : length rest ≡ length (behind_notes actions) = ap length is in
    omega arith

-- the notes of before still stand first, as texts
pub texts_first : (old all : List (String Global)) (notes : List (List ℕ)) → take (length old) all ≡ old → notes ≡ map string_bytes old → take (length notes) (map string_bytes all) ≡ notes
texts_first old all notes kept same =
    ap (λ (k : ℕ). take k (map string_bytes all)) (ap length same ∙ length-map old string_bytes)
    ∙ take-map string_bytes (length old) all ∙ ap (map string_bytes) kept ∙ sym same
