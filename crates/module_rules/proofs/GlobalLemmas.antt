-- The globals that a constant expression may name.
use Rattle.std.proofs.Common.{◌≡◌, ◌∙◌, ap, refl, ℕ, zero, suc, ◌+◌, ◌<◌, ◌≤◌, add-zero, List, [], ◌∷◌, length, take, map, None, arith}
use Rattle.std.specs.Prelude.{slice_get}
use Rattle.std.proofs.lemmas.List.{take_all, length-append, length-map}
use Rattle.std.proofs.Math.Seq.{take-append_seam}
use Rattle.wasm_types.specs.GlobalTypes.{GlobalParts}
use Rattle.wasm_syntax.specs.Constants.{globals_before}
use Rattle.wasm_syntax.specs.Contexts.{as_global, globals, imported}
use Rattle.wasm_syntax.specs.declared.declarations.GlobalDecl.{GlobalDecl}
use Rattle.wasm_syntax.specs.declared.declarations.ModuleDecl.{ModuleDecl}

get_taken : {A : Type 0} (k : ℕ) (xs : List A) (i : ℕ) → i < k → slice_get (take k xs) i ≡ slice_get xs i
get_taken zero xs i h = absurd (omega (arith, h))
get_taken (suc k) [] i h = refl
get_taken (suc k) (x ∷ xs) zero h = refl
get_taken (suc k) (x ∷ xs) (suc i) h = get_taken k xs i (omega (arith, h))

get_left : {A : Type 0} (k : ℕ) (xs : List A) (i : ℕ) → k ≤ i → slice_get (take k xs) i ≡ None
get_left zero xs i h = refl
get_left (suc k) [] i h = refl
get_left (suc k) (x ∷ xs) zero h = absurd (omega (arith, h))
get_left (suc k) (x ∷ xs) (suc i) h = get_left k xs i (omega (arith, h))

-- a global that is known, and one that is not
pub get_known : (d : ModuleDecl) (n i : ℕ) → i < length (imported as_global d) + n → slice_get (globals_before d n) i ≡ slice_get (globals d) i
get_known d n i h = get_taken (length (imported as_global d) + n) (globals d) i h

pub get_unknown : (d : ModuleDecl) (n i : ℕ) → length (imported as_global d) + n ≤ i → slice_get (globals_before d n) i ≡ None
get_unknown d n i h = get_left (length (imported as_global d) + n) (globals d) i h

-- where no defined global is known, and where each is
pub none_known : (d : ModuleDecl) → globals_before d 0 ≡ imported as_global d
none_known d = ap (λ n. take n (globals d)) (add-zero (length (imported as_global d))) ∙ take-append_seam (imported as_global d) (map (λ (g : GlobalDecl). g.ty) d.globals)

pub all_known : (d : ModuleDecl) → globals_before d (length d.globals) ≡ globals d
all_known d =
    let f : GlobalDecl → GlobalParts = λ g. g.ty in
    let size : length (globals d) ≡ length (imported as_global d) + length (map f d.globals) = length-append (imported as_global d) (map f d.globals) in
    let defined : length (map f d.globals) ≡ length d.globals = length-map d.globals f in
    take_all (length (imported as_global d) + length d.globals) (globals d) (omega (arith, size, defined))
