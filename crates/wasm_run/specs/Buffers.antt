-- Text that waits to be written. This project's own.
use Rattle.std.specs.Prelude.{◌≡◌, ◌≢◌, ℕ, List, [], ◌++◌, Option}
use Rattle.wasm_streams.specs.Streams.{after}

-- of this text a front was written, and the rest waits
pub record IsBuffered (text waiting : List ℕ) (old new : Option (List ℕ)) : Type 0 where
  pub front : List ℕ
  pub whole : text ≡ front ++ waiting
  pub wrote : new ≡ after front old

-- a front of the text was put at the end, where that is told, and something of the text is missing
pub record IsCutShort (text : List ℕ) (old new : Option (List ℕ)) : Type 0 where
  pub front : List ℕ
  pub rest : List ℕ
  pub whole : text ≡ front ++ rest
  pub missing : rest ≢ []
  pub wrote : new ≡ after front old
