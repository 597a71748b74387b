use Rattle.std.proofs.Common.{refl, Some}
use Rattle.wasm_host.specs.Scopes.{scope_of}
use Rattle.wasm_call.specs.Arguments.{call_on}
use Rattle.wasm_call.proofs.ArgumentLemmas.{told_is}
use Rattle.wasm_call.proofs.arguments.unlisted.Goals as goal

pub returns-in-Some-clause-refused : goal.returns-in-Some-clause-refused
returns-in-Some-clause-refused g c = (
  c.in-Some.why,
  refl,
  told_is (call_on c.args.store.now.machine (scope_of c.args.scope.now) c.args.func c.args.args.now c.args.results)
      (Some c.in-Some.why) c.in-Some.ensures.due c.in-Some.why refl,
)
