use Rattle.wasm_call.proofs.ResultLemmas.{refuses, returns_them}
use Rattle.wasm_call.proofs.outside.OutsideHostSurroundings.returned.Goals as goal

pub returns-then-not-are_results-clause-returns : goal.returns-then-not-are_results-clause-returns
returns-then-not-are_results-clause-returns g c =
    refuses c.args.context.now c.args.types.now c.args.vals.now c.args.held.now c.are_results.new.held
    c.are_results.ensures.stays c.are_results.result c.are_results.ensures.are c.if-not-are_results.true

pub returns-clause-returns : goal.returns-clause-returns
returns-clause-returns g c =
    returns_them c.args.context.now c.args.types.now c.args.vals.now c.args.held.now c.are_results.new.held
    c.are_results.ensures.stays c.are_results.result c.are_results.ensures.are c.if-not-are_results.false
    c.in_ok-raws.raws.items c.in_ok-raws.ensures
