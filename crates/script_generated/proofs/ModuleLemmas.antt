-- The module of generated sessions breaks no rule, by computation.
use Rattle.std.proofs.Common.{◌≡◌, None, refl}
use Rattle.wasm_syntax.specs.FirstBroken.{broken, first_broken}
use Rattle.script_generated.specs.Modules.{generated_module}

pub generated_is_valid : first_broken generated_module ≡ None
unfolding broken
generated_is_valid = refl
