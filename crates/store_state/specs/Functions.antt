-- Functions as code meets them. This project's own.
use Rattle.spec_machine.specs.Machine.{Function, guest, host}
use Rattle.store_state.specs.declared.function.FunctionKind.{FunctionKind}
use Rattle.store_state.specs.declared.function.FunctionKind.TheVariants as kind

abbrev pub kind_behind : FunctionKind → Function
kind_behind (kind.Guest instance number) = guest instance number
kind_behind (kind.Host ty body stored) = host ty.now body stored.now
