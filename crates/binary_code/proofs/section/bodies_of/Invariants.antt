use Rattle.std.proofs.Common.{◌≡◌, ◌+◌, drop}
use Rattle.binary_code.specs.Bodies.{bodies_of, locals_in}
use Rattle.binary_code.proofs.Repeats.{bodies_due}
use Rattle.binary_code.proofs.section.bodies_of.Given as goal

abbrev pub invariant-loop-ty : goal.invariant-loop-ty
invariant-loop-ty l = record {
  due : bodies_of l.fn.context l.fn.functions l.fn.types l.fn.input ≡ bodies_due l.context (drop l.ty-index l.functions) l.bodies.items l.types l.input;
  room : locals_in l.bodies.items + l.room ≡ 16777216;
}
