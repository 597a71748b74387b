use Rattle.std.proofs.Common.{◌∙◌, sym}
use Rattle.law_plugins.specs.Meeting.{reach_of}
use Rattle.wasm_plugins.proofs.OutsideLemmas.{none_outside, same_outside}
use Rattle.wasm_plugins.proofs.foreign.first_foreign.Goals as goal

pub returns-then-not-has_function : goal.returns-then-not-has_function
returns-then-not-has_function g c =
    sym (none_outside (reach_of c.args.store.now.machine c.args.instance) 0 c.args.vals.now
    (sym c.has_function.ensures ∙ c.if-not-has_function.true))

pub returns : goal.returns
returns g c =
    c.first_outside.ensures
    ∙ same_outside c.in_ok-set.set (reach_of c.args.store.now.machine c.args.instance) c.in_ok-set.ensures 0
    c.args.vals.now
