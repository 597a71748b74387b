-- What a status says of a sink behind its room is what it says of what the sink holds; and a count that stayed did not rise.
use Rattle.std.proofs.Common.{◌≡◌, ◌⊎◌, inl, inr, ℕ, ◌<◌, List, [], ◌∷◌, Option, Some, false, ap, subst, arith}
use Rattle.std.specs.Prelude.{Result}
use Rattle.wasm_meter.specs.Epochs.{CountsReadings}
use Rattle.wasm_call.specs.Outside.{Readings}
use Rattle.wasm_streams.specs.Streams.{Rose}
use Rattle.memory_streams.specs.InRoom.{RoomState, room_state}
use Rattle.memory_streams.proofs.RoomLemmas.{same_behind, after_behind, fronts_behind}
use Rattle.script_lines.specs.Lines.{line_of}
use Rattle.binary_run.specs.Calls.{Call}
use Rattle.binary_run.specs.Statuses.{Says}
use Rattle.binary_run.specs.declared.status.Status.{Status}
use Rattle.binary_run.specs.declared.status.Status.TheVariants.{Done, ReadFault, OutOfMemory, WriteFault}

pub not_rose : (old new : ℕ) → old ≡ 0 → new ≡ old → Rose old new → ⊥
not_rose old new none same (inl more) = omega arith
not_rose old new none same (inr last) = omega arith

module _ {E : Type 0} (readings : Readings E) (e0 e1 : E) (room room_after : ℕ) (held : List ℕ) (due : Result Call Status) where
  abbrev Told : Status → Type 0
  Told r = Says readings e0 e1 (Some (room ∷ [])) (Some (room_after ∷ held)) due r

  abbrev Behind : Status → Type 0
  Behind r = (room_after ≡ room) × Says readings e0 e1 (Some []) (Some held) due r

  pub says_behind : (r : Status) → Told r → Behind r
  says_behind Done s =
      let e = after_behind (line_of s.2.reply) room room_after [] held s.2.wrote in
      (e.0, (s.0, s.1, record { reply = s.2.reply; is_reply = s.2.is_reply; wrote = e.1 }))
  says_behind WriteFault s =
      let e = fronts_behind (line_of s.2.reply) room room_after [] held s.2.front in
      (e.0, (s.0, s.1, record { reply = s.2.reply; is_reply = s.2.is_reply; front = e.1 }))
  says_behind ReadFault s =
      let e = same_behind room room_after [] held s.sink in
      (e.0, record { sink = e.1; unread = s.unread })
  says_behind OutOfMemory s = same_behind room room_after [] held s
  says_behind _ s =
      let e = same_behind room room_after [] held s.1.sink in
      (e.0, (s.0, record { sink = e.1; unread = s.1.unread }))

-- and of a sink that held nothing before, where the epochs were counted from 0 on
pub held_run : (e0 e1 : ℕ) (old new : RoomState) (due : Result Call Status) (r : Status) → e0 ≡ 0 →
    old ≡ room_state old.room [] 0 false →
    Says CountsReadings e0 e1 (Some (old.room ∷ old.held)) (Some (new.room ∷ new.held)) due r →
    (new.room ≡ old.room) × Says CountsReadings 0 e1 (Some []) (Some new.held) due r
held_run e0 e1 old new due r first empty says =
    let after : Option (List ℕ) = Some (new.room ∷ new.held) in
    let counted : Says CountsReadings 0 e1 (Some (old.room ∷ old.held)) after due r =
    subst (λ (n : ℕ). Says CountsReadings n e1 (Some (old.room ∷ old.held)) after due r) first says in
    let behind : Says CountsReadings 0 e1 (Some (old.room ∷ [])) after due r =
    subst (λ (h : List ℕ). Says CountsReadings 0 e1 (Some (old.room ∷ h)) after due r) (ap (λ (s : RoomState). s.held) empty) counted in
    says_behind CountsReadings 0 e1 old.room new.room new.held due r behind
