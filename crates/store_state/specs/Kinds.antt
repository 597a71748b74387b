-- Functions as code holds them. This project's own.
use Rattle.spec_machine.specs.Machine.{Function, guest, host}
use Rattle.store_state.specs.declared.function.Kind.{Kind}
use Rattle.store_state.specs.declared.function.Kind.TheVariants as kind

abbrev pub function_of : Kind → Function
function_of (kind.Guest instance number) = guest instance number
function_of (kind.Host ty body stored) = host ty body stored.items
