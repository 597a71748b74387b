-- What is written of a tape is read as that tape. This project's own.
use Rattle.std.specs.Prelude.{◌≡◌, List, Some}
use Rattle.serde_json.specs.Data.{Data}
use Rattle.wasm_types.specs.Signatures.{Signature}
use Rattle.law_replay.specs.Tapes.{TapeParts}
use Rattle.wasm_tape.specs.Written.{TapeInRange, tape_data}
use Rattle.wasm_tape.specs.Read.{tape_in}

-- what is written of a tape, over some types, is read over the same types as the tape itself
abbrev pub LawOfWayBack : Type 0
LawOfWayBack =
    (types : List Signature) (t : TapeParts) (d : Data)
    → TapeInRange t → tape_data types t ≡ Some d → tape_in types d ≡ Some t
