use Rattle.std.proofs.Common.{length}
use Rattle.wasm_instance.specs.Left.{left}
use Rattle.wasm_linker.specs.Defining.{objects_in}
use Rattle.wasm_linker.proofs.ExportLemmas.{AreDefined}
use Rattle.wasm_linker.proofs.exporting.put_all.Given as goal

abbrev pub invariant-exports : goal.invariant-exports
invariant-exports l = AreDefined l.space (objects_in (left l.fn.exports)) (objects_in (left l.exports)) l.fn.map l.map

abbrev pub decreases-exports : goal.decreases-exports
decreases-exports l = length (left l.exports)
