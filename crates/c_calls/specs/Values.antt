-- Lists of values that C gives. This project's own.
use Rattle.std.specs.Prelude.{◌≡◌, List, [], ◌∷◌, Option, Some, None}
use Rattle.wasm_values.specs.declared.values.Val.{Val}
use Rattle.spec_machine.specs.Names.{with_first}
use Rattle.c_values.specs.Values.{value_in}
use Rattle.c_values.specs.declared.c_value.CValue.{CValue}
use Rattle.binary_call.specs.declared.faults.CallFault.TheVariants as fault
use Rattle.c_calls.specs.declared.ends.End.{End}
use Rattle.c_calls.specs.declared.ends.End.TheVariants as end

-- the values, where each is one
abbrev pub values_in : List CValue → Option (List Val)
values_in [] = Some []
values_in (first ∷ others) = with_first (value_in first) (values_in others)

-- the ends of a call whose values were not read
abbrev pub IsUnread : Option (List Val) → End → Type 0
IsUnread read end.BadValue = read ≡ None
IsUnread read (end.Fault fault.OutOfMemory) = Unit {0}
IsUnread read end = ⊥
