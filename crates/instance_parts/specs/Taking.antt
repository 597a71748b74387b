-- The segments of a new instance as code takes them: what follows each.
-- WebAssembly core specification, "Execution, modules, instantiation"
use Rattle.std.specs.Prelude.{◌≡◌, ℕ, ◌+◌, ◌<◌, List, length, slice_get, Option, Some}
use Rattle.wasm_syntax.specs.declared.segments.DataDecl.{DataDecl}
use Rattle.wasm_syntax.specs.declared.segments.ElemDecl.{ElemDecl}
use Rattle.spec_machine.specs.Machine.{Machine}
use Rattle.spec_execution.specs.Segments.{Taken, OutOfRange, StuckSegment}
use Rattle.store_state.specs.Machine.{run_machine, elements_of, data_of}
use Rattle.store_state.specs.Parts.{ProgramParts, HeldParts}
use Rattle.code_straight.specs.declared.acted.Acted.{Acted}
use Rattle.code_straight.specs.declared.acted.Acted.TheVariants as acted

-- by what was done so far, in the store that it left
abbrev pub followed : Acted → Machine → (Machine → Taken) → Taken
followed acted.Goes m go = go m
followed (acted.Traps t) m go = OutOfRange t m
followed acted.Sticks m go = StuckSegment m

-- so the taking of segments goes in each store of these objects, whatever follows
abbrev pub Takes : (List ℕ → Machine → (Machine → Taken) → Taken) → ProgramParts → HeldParts → Acted → HeldParts → Type 0
Takes take program held result after =
    (base : Machine) (fs : List ℕ) (go : Machine → Taken) →
    take fs (run_machine base program held) go ≡ followed result (run_machine base program after) go

-- ---- what the segments that are still to be taken hold: of each so many items as its declaration has

abbrev pub HasSize : {A : Type 0} → ℕ → Option (List A) → Type 0
HasSize {A} size found = (items : List A) → found ≡ Some items → length items ≡ size

-- of an instance, from the segment of this number on
abbrev pub ElementsStand : HeldParts → ℕ → ℕ → List ElemDecl → Type 0
ElementsStand held instance k declared =
    (j : ℕ) (e : ElemDecl) → slice_get declared j ≡ Some e → HasSize (length e.items) (elements_of held instance (k + j))

abbrev pub DatasStand : HeldParts → ℕ → ℕ → List DataDecl → Type 0
DatasStand held instance k declared =
    (j : ℕ) (e : DataDecl) → slice_get declared j ≡ Some e → HasSize (length e.bytes) (data_of held instance (k + j))

-- those behind the segment of this number are as they were
abbrev pub SameElementsBehind : ℕ → ℕ → HeldParts → HeldParts → Type 0
SameElementsBehind instance k old new = (j : ℕ) → k < j → elements_of new instance j ≡ elements_of old instance j

abbrev pub SameDatasBehind : ℕ → ℕ → HeldParts → HeldParts → Type 0
SameDatasBehind instance k old new = (j : ℕ) → k < j → data_of new instance j ≡ data_of old instance j

-- all data segments are
abbrev pub SameDatas : ℕ → HeldParts → HeldParts → Type 0
SameDatas instance old new = (j : ℕ) → data_of new instance j ≡ data_of old instance j
