use Rattle.wasm_types.proofs.Extents.{apart_in_depth, apart_in_size}
use Rattle.wasm_types.proofs.value_types.FuncType.is_same_as.Goals as goal

pub returns-then-depth : goal.returns-then-depth
returns-then-depth c =
    apart_in_depth c.args.self.now c.args.other.now _ _ c.depth.ensures.value c.depth-2.ensures.value c.if-depth.true

pub returns-then-size : goal.returns-then-size
returns-then-size c =
    apart_in_size c.args.self.now c.args.other.now _ _ c.size.ensures.value c.size-2.ensures.value c.if-size.true
