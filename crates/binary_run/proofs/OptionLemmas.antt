-- One option more was read.
use Rattle.std.proofs.Common.{◌≡◌, ℕ, ◌-◌, ◌≤◌, List, [], ◌∷◌, length, map, take, drop, get_or, Bool, true, false, Option, Some, None, refl, ap, sym, ◌∙◌, if◌then◌else◌, arith}
use Rattle.std.specs.Prelude.{option_map, option_and_then}
use Rattle.spec_machine.specs.Machine.{are_engine_limits}
use Rattle.binary_run.specs.Numbers.{unsigned}
use Rattle.binary_run.specs.Words.{Asked, asked_behind, asked_by, frames, option_named, with_number, with_turns}
use Rattle.binary_run.specs.declared.options.OptionName.{OptionName}
use Rattle.binary_run.specs.declared.options.OptionName.TheVariants.{Fuel, Turns, Pages, Elements, In}
use Rattle.binary_run.specs.declared.options.Options.{Options}
use Rattle.binary_run.proofs.WordLemmas.{behind_first}

-- behind an option and its number stand the words behind both
pub next_option : {W : Type 0} (bytes : W → List ℕ) (all : Option Asked) (options more : Options) (name : OptionName)
    (list : List W) (word number : W) → 1 ≤ length list → 1 ≤ length (take (length list - 1) (drop 1 list)) →
    word ≡ get_or list 0 word → number ≡ get_or (take (length list - 1) (drop 1 list)) 0 number →
    Some name ≡ option_named (bytes word) → Some more ≡ with_number options name (bytes number) →
    all ≡ asked_behind options (map bytes list) →
    all
    ≡ asked_behind more
    (map bytes (take (length (take (length list - 1) (drop 1 list)) - 1) (drop 1 (take (length list - 1) (drop 1 list)))))
next_option bytes all options more name [] word number t w first second is_name is_more so_far = absurd (omega (arith, t))
next_option bytes all options more name (x ∷ []) word number t w first second is_name is_more so_far =
    absurd (omega (arith, w))
next_option bytes all options more name (x ∷ y ∷ rest) word number t w first second is_name is_more so_far =
    let behind : number ≡ y = rw (behind_first x (y ∷ rest)) at second in
    rw (behind_first x (y ∷ rest), behind_first y rest)
    (so_far
    ∙ ap (λ (o : Option OptionName). asked_by options o (bytes x) (bytes y ∷ map bytes rest))
    (ap (λ z. option_named (bytes z)) (sym first) ∙ sym is_name)
    ∙ ap (λ (o : Option Options). option_and_then (λ m. asked_behind m (map bytes rest)) o)
    (ap (λ z. with_number options name (bytes z)) (sym behind) ∙ sym is_more))

-- the options of a number, where there is one, are within the limits
kept : (more : Options) (f : ℕ → Options) (o : Option ℕ) → ((n : ℕ) → are_engine_limits frames (f n).turns ≡ true) →
    Some more ≡ option_map f o → are_engine_limits frames more.turns ≡ true
kept more f None all e = absurd cc
kept more f (Some n) all e = let same : more ≡ f n = cc in rw same (all n)

turned : (options more : Options) (o : Option ℕ) → Some more ≡ option_and_then (with_turns options) o →
    are_engine_limits frames more.turns ≡ true
turned options more None e = absurd cc
turned options more (Some n) e = by_limit (are_engine_limits frames n) refl e
  where
    by_limit : (b : Bool) → are_engine_limits frames n ≡ b →
        Some more ≡ (if b then Some (record options { turns = n }) else None) → are_engine_limits frames more.turns ≡ true
    by_limit true l h = let same : more ≡ record options { turns = n } = cc in rw same l
    by_limit false l h = absurd cc

pub limits_kept : (options more : Options) (name : OptionName) (word : List ℕ) →
    are_engine_limits frames options.turns ≡ true → Some more ≡ with_number options name word →
    are_engine_limits frames more.turns ≡ true
limits_kept options more Fuel word l e = kept more (λ n. record options { fuel = Some n }) (unsigned 64 word) (λ n. l) e
limits_kept options more Turns word l e = turned options more (unsigned 64 word) e
limits_kept options more Pages word l e = kept more (λ n. record options { pages = n }) (unsigned 32 word) (λ n. l) e
limits_kept options more Elements word l e = kept more (λ n. record options { elements = n }) (unsigned 32 word) (λ n. l) e
limits_kept options more In word l e = kept more (λ n. record options { bytes = Some n }) (unsigned 32 word) (λ n. l) e
