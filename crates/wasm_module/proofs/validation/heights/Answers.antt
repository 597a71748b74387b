use Rattle.wasm_syntax.specs.FirstBroken.{broken}
use Rattle.wasm_syntax.specs.declared.module_fault.Rule.TheVariants as rule
use Rattle.wasm_module.proofs.FaultLemmas.{place_is}
use Rattle.wasm_module.proofs.validation.heights.Goals as goal

pub returns-clause-place : goal.returns-clause-place
returns-clause-place c =
    place_is c.in_ok-found.found (broken rule.Body c.args.spaces.now.decl.now) c.in_ok-found.ensures.typed c.in_ok-found.ensures.place
