-- A source and a sink in memory, whose calls fail at given numbers. All of it is this project's own.
use Rattle.std.specs.Prelude.{ℕ, ◌+◌, ◌-◌, ◌^◌, ◌&&◌, ◌||◌, ◌==◌, List, ◌++◌, length, take, drop, min, nat_lt, Bool, true, false}
use Rattle.std.specs.List.{list_any}

-- a source in memory: the bytes left, the number of the next call, the numbers of the calls that fail,
-- how many faults there were, and whether the end was given
pub record SourceState : Type 0 where
  pub left : List ℕ
  pub calls : ℕ
  pub fails : List ℕ
  pub faults : ℕ
  pub ended : Bool

abbrev pub source_state : List ℕ → ℕ → List ℕ → ℕ → Bool → SourceState
source_state left calls fails faults ended =
    record { left = left; calls = calls; fails = fails; faults = faults; ended = ended }

-- a sink in memory: the bytes held, the room left, the number of the next call, the numbers of the calls that fail,
-- how many faults there were, and whether the last call was a flush that did not fail
pub record SinkState : Type 0 where
  pub held : List ℕ
  pub room : ℕ
  pub calls : ℕ
  pub fails : List ℕ
  pub faults : ℕ
  pub flushed : Bool

abbrev pub sink_state : List ℕ → ℕ → ℕ → List ℕ → ℕ → Bool → SinkState
sink_state held room calls fails faults flushed =
    record { held = held; room = room; calls = calls; fails = fails; faults = faults; flushed = flushed }

-- a count after one more; it stops at 2^64 - 1
abbrev pub one_more : ℕ → ℕ
one_more n = min (n + 1) (2 ^ 64 - 1)

-- the call of this number is one of those that fail
abbrev pub is_listed : ℕ → List ℕ → Bool
is_listed number fails = list_any (λ n. n == number) fails

-- the next read fails
abbrev pub source_fails : SourceState → Bool
source_fails s = is_listed s.calls s.fails

-- the source after a read that failed
abbrev pub source_failed : SourceState → SourceState
source_failed s = record s { calls = one_more s.calls; faults = one_more s.faults }

-- the source after a read into a buffer of so many places that did not fail
abbrev pub source_read : ℕ → SourceState → SourceState
source_read size s = record s {
  left = drop size s.left;
  calls = one_more s.calls;
  ended = s.ended || (nat_lt 0 size && (length s.left == 0));
}

-- the next call, a write of so many bytes, fails
abbrev pub write_fails : ℕ → SinkState → Bool
write_fails size s = is_listed s.calls s.fails || (nat_lt 0 size && (s.room == 0))

-- the sink after a write or a flush that failed
abbrev pub sink_failed : SinkState → SinkState
sink_failed s = record s { calls = one_more s.calls; faults = one_more s.faults; flushed = false }

-- the sink after a write of this piece that did not fail
abbrev pub sink_written : List ℕ → SinkState → SinkState
sink_written piece s = record s {
  held = s.held ++ take s.room piece;
  room = s.room - length piece;
  calls = one_more s.calls;
  flushed = false;
}

-- the sink after a flush that did not fail
abbrev pub sink_flushed : SinkState → SinkState
sink_flushed s = record s { calls = one_more s.calls; flushed = true }
