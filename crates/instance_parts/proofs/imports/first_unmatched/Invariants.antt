use Rattle.std.proofs.Common.{◌≡◌, ◌+◌, length}
use Rattle.spec_execution.specs.Instantiation.{first_unmatched_import}
use Rattle.instance_parts.proofs.imports.first_unmatched.Given as goal

-- what is left decides
abbrev pub invariant-imports : goal.invariant-imports
invariant-imports l = record {
  same : first_unmatched_import l.objects l.place l.rest l.left
      ≡ first_unmatched_import l.objects 0 l.declared l.imports;
  so_far : l.place + length l.rest ≡ length l.declared;
}

abbrev pub decreases-imports : goal.decreases-imports
decreases-imports l = length l.rest
