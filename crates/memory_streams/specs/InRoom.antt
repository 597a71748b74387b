-- A source over bytes in memory, and a sink that has room for so many. All of it is this project's own.
use Rattle.std.specs.Prelude.{ℕ, ◌+◌, ◌-◌, ◌^◌, ◌&&◌, ◌||◌, ◌==◌, List, ◌++◌, length, take, drop, min, nat_lt, Bool, true, false}

-- a source over bytes in memory: the bytes left, and whether the end was given
pub record SliceState : Type 0 where
  pub left : List ℕ
  pub ended : Bool

abbrev pub slice_state : List ℕ → Bool → SliceState
slice_state left ended = record { left = left; ended = ended }

-- none of its calls fails
abbrev pub no_faults : SliceState → ℕ
no_faults s = 0

-- the source after a read into a buffer of so many places
abbrev pub slice_read : ℕ → SliceState → SliceState
slice_read size s =
    slice_state (drop size s.left) (s.ended || (nat_lt 0 size && (length s.left == 0)))

-- a sink: how many bytes it has room for, the bytes held, how many faults there were, and whether the last call was a flush
pub record RoomState : Type 0 where
  pub room : ℕ
  pub held : List ℕ
  pub faults : ℕ
  pub flushed : Bool

abbrev pub room_state : ℕ → List ℕ → ℕ → Bool → RoomState
room_state room held faults flushed = record { room = room; held = held; faults = faults; flushed = flushed }

-- the next call, a write of so many bytes, fails
abbrev pub is_full : ℕ → RoomState → Bool
is_full size s = (length s.held == s.room) && nat_lt 0 size

-- the sink after a write that failed: the count of faults stops at 2^64 - 1
abbrev pub room_failed : RoomState → RoomState
room_failed s = record s { faults = min (s.faults + 1) (2 ^ 64 - 1); flushed = false }

-- the sink after a write of this piece that did not fail
abbrev pub room_written : List ℕ → RoomState → RoomState
room_written piece s = record s { held = s.held ++ take (s.room - length s.held) piece; flushed = false }

-- the sink after a flush
abbrev pub room_flushed : RoomState → RoomState
room_flushed s = record s { flushed = true }
