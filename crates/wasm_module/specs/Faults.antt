-- What a fault tells of the first broken rule.
use Rattle.std.specs.Prelude.{◌≡◌, Option, Some, None, Result, Ok, Err}
use Rattle.std.specs.Bool.{⊤}
use Rattle.wasm_syntax.specs.declared.module_fault.ModuleFault.{ModuleFault}
use Rattle.wasm_syntax.specs.declared.module_fault.ModuleFault.TheVariants as fault
use Rattle.wasm_syntax.specs.declared.module_fault.Place.{Place}
use Rattle.wasm_syntax.specs.declared.module_fault.Rule.{Rule}

-- a fault names exactly this rule and this place, but want of memory tells nothing; this project's own
abbrev pub Tells : ModuleFault → Option (Rule × Place) → Type 0
Tells (fault.InvalidModule rule place) first = first ≡ Some (rule, place)
Tells fault.OutOfMemory first = ⊤

-- the place that a test answers, where it answers one
abbrev pub place_of : {A : Type 0} → Result A Place → Option Place
place_of (Ok a) = None
place_of (Err place) = Some place
