-- What stands at a place of a table: a reference, or a cell of an image that no look-up has filled yet. This project's own.
use Rattle.std.specs.Prelude.{ℕ, ◌+◌, ◌≡◌, List, [], length, ◌∷◌, map, Option, Some, None, Bool, true, false, slice_get}
use Rattle.std.specs.Rc.{rc_slice_items}
use Rattle.std.specs.declared.rc.RcSlice.{RcSlice}
use Rattle.wasm_types.specs.declared.plain.Cell.{Cell}
use Rattle.wasm_types.specs.declared.plain.Cell.TheVariants as c
use Rattle.wasm_objects.specs.Lazy.{found_function}
use Rattle.wasm_objects.specs.declared.raw.RawRef.{RawRef}
use Rattle.wasm_objects.specs.declared.raw.RawRef.TheVariants as r
use Rattle.wasm_objects.specs.declared.slots.Slot.{Slot}
use Rattle.wasm_objects.specs.declared.slots.Slot.TheVariants as s

-- what it means in a table that begins with one reference, over the functions of a module
abbrev pub reference_in : RawRef → List ℕ → Slot → RawRef
reference_in init functions s.Null = r.Null
reference_in init functions (s.Func n) = r.Func n
reference_in init functions (s.Extern n) = r.Extern n
reference_in init functions (s.I31 n) = r.I31 n
reference_in init functions s.AtInit = init
reference_in init functions s.AtNull = r.Null
reference_in init functions (s.AtFunc f) = found_function (slice_get functions f)

-- a reference at its place
abbrev pub slot_of : RawRef → Slot
slot_of r.Null = s.Null
slot_of (r.Func n) = s.Func n
slot_of (r.Extern n) = s.Extern n
slot_of (r.I31 n) = s.I31 n

-- a cell of an image at its place, unfilled
abbrev pub cell_slot : Cell → Slot
cell_slot c.Init = s.AtInit
cell_slot c.Null = s.AtNull
cell_slot (c.Func f) = s.AtFunc f

-- nothing was filled in yet
abbrev pub is_open : Slot → Bool
is_open s.AtInit = true
is_open s.AtNull = true
is_open (s.AtFunc f) = true
is_open _ = false

-- filled in
abbrev pub settled : RawRef → List ℕ → Slot → Slot
settled init functions x = slot_of (reference_in init functions x)

-- how many places are filled
abbrev pub one_settled : Bool → ℕ
one_settled true = 0
one_settled false = 1

abbrev pub count_settled : List Slot → ℕ
count_settled [] = 0
count_settled (x ∷ xs) = one_settled (is_open x) + count_settled xs

-- the functions of a module, where a table has cells of its images
abbrev pub functions_of : {X Z : Type 0} → Option (RcSlice X Z) → List X
functions_of None = []
functions_of (Some functions) = rc_slice_items functions

-- what stands at each place, and whether it is unfilled
abbrev pub references_in : RawRef → List ℕ → List Slot → List RawRef
references_in init functions slots = map (reference_in init functions) slots

abbrev pub open_places : List Slot → List Bool
open_places slots = map is_open slots

-- every place is filled
abbrev pub AreSettled : List Slot → Type 0
AreSettled slots = count_settled slots ≡ length slots

-- where a table has no cells of an image, every place is filled
abbrev pub AreSettledWithout : {X Z : Type 0} → Option (RcSlice X Z) → List Slot → Type 0
AreSettledWithout functions slots = functions ≡ None → AreSettled slots
