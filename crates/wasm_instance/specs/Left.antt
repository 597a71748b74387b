-- What is left of the exports of an instance, as a host goes over them. This project's own.
use Rattle.std.specs.Prelude.{◌≡◌, List, [], ◌∷◌, ◌++◌, Option, Some, None}
use Rattle.wasm_instance.specs.Exports.{Entry, entries_of}
use Rattle.wasm_instance.specs.declared.exports.Export.{Export}
use Rattle.wasm_instance.specs.declared.remaining.Exports.{Exports}

abbrev pub left : Exports → List Entry
left e = entries_of e.id e.instance.now e.rest.now

abbrev pub entry : Export → Entry
entry e = (e.name.now, Some e.object)

-- the next one was taken from the front, or from the back, or there is none
abbrev pub TakesFirst : Exports → Option Export → Exports → Type 0
TakesFirst old (Some e) new = left old ≡ entry e ∷ left new
TakesFirst old None new = (left old ≡ []) × (left new ≡ [])

abbrev pub TakesLast : Exports → Option Export → Exports → Type 0
TakesLast old (Some e) new = left old ≡ left new ++ entry e ∷ []
TakesLast old None new = (left old ≡ []) × (left new ≡ [])
