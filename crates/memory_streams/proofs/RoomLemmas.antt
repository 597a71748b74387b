-- What a sink tells behind its room: the room stays, and the bytes behind it grow as they would without it.
use Rattle.std.proofs.Common.{◌≡◌, ℕ, List, [], ◌∷◌, Option, Some, None, ap}
use Rattle.wasm_streams.specs.Streams.{after, Fronts}

-- the number before a list, and the list behind it
abbrev first : Option (List ℕ) → ℕ
first None = 0
first (Some []) = 0
first (Some (x ∷ xs)) = x

abbrev behind : Option (List ℕ) → List ℕ
behind None = []
behind (Some []) = []
behind (Some (x ∷ xs)) = xs

pub same_behind : (room room_after : ℕ) (held held_after : List ℕ) → Some (room_after ∷ held_after) ≡ Some (room ∷ held) → (room_after ≡ room) × (Some held_after ≡ Some held)
same_behind room room_after held held_after e = (ap first e, ap (λ o. Some (behind o)) e)

pub after_behind : (text : List ℕ) (room room_after : ℕ) (held held_after : List ℕ) → Some (room_after ∷ held_after) ≡ after text (Some (room ∷ held)) → (room_after ≡ room) × (Some held_after ≡ after text (Some held))
after_behind text room room_after held held_after e = (ap first e, ap (λ o. Some (behind o)) e)

pub fronts_behind : (text : List ℕ) (room room_after : ℕ) (held held_after : List ℕ) → Fronts text (Some (room ∷ held)) (Some (room_after ∷ held_after)) → (room_after ≡ room) × Fronts text (Some held) (Some held_after)
fronts_behind text room room_after held held_after f =
    let e = after_behind f.0 room room_after held held_after f.3 in
    (e.0, (f.0, f.1, f.2, e.1))
