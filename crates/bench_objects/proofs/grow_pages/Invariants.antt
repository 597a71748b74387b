use Rattle.std.proofs.Common.{◌≡◌}
use Rattle.bench_objects.proofs.grow_pages.Given as goal

abbrev pub invariant-loop : goal.invariant-loop
invariant-loop l = l.object.memory.ty.page_size_log2 ≡ 16
