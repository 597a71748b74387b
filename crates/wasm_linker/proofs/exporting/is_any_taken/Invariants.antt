use Rattle.std.proofs.Common.{◌≡◌, length}
use Rattle.wasm_instance.specs.Left.{left}
use Rattle.wasm_linker.specs.Defining.{objects_in, is_any_taken}
use Rattle.wasm_linker.proofs.exporting.is_any_taken.Given as goal

-- what is left decides
abbrev pub invariant-exports : goal.invariant-exports
invariant-exports l =
    is_any_taken l.map l.space (objects_in (left l.exports)) ≡ is_any_taken l.map l.space (objects_in (left l.fn.exports))

abbrev pub decreases-exports : goal.decreases-exports
decreases-exports l = length (left l.exports)
