use Rattle.std.proofs.Common.{◌≡◌, ◌++◌, length}
use Rattle.wasm_syntax.specs.Contexts.{as_global}
use Rattle.module_typing.specs.Imported.{of_kind, seen}
use Rattle.module_typing.proofs.imported.imported_globals.Given as goal

abbrev pub invariant-loop-rest : goal.invariant-loop-rest
invariant-loop-rest l = seen l.found.items ++ of_kind as_global l.rest ≡ of_kind as_global l.imports

abbrev pub decreases-loop-rest : goal.decreases-loop-rest
decreases-loop-rest l = length l.rest
