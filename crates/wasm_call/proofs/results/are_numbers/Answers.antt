use Rattle.std.proofs.Common.{length, sym, ◌∙◌}
use Rattle.std.proofs.lemmas.Bool.{eqb-true}
use Rattle.wasm_call.proofs.ResultLemmas.{fit_none, fit_more}
use Rattle.wasm_call.proofs.results.are_numbers.Goals as goal

pub loop-ty-preserved : goal.loop-ty-preserved
loop-ty-preserved c = λ m owns fits.
    let more = fit_more m c.in-Some-split_first.val.now c.in-Some.ty.now c.in-Some-split_first.tail.now
    c.loop-ty.rest.now c.in-Some.further.now c.loop-ty.wanted.now c.in-Some-split_first.ensures.cases.0
    c.in-Some.ensures.cases.0 (c.is_number.ensures c.if-not-is_number.false m) owns fits in
    c.loop-ty.invariant m more.0 more.1

pub returns : goal.returns
returns c = λ numbers m.
    let none = fit_none m c.loop-ty.rest.now c.loop-ty.wanted.now
    (eqb-true (length c.loop-ty.rest.now) 0 (sym c.is_empty.ensures ∙ numbers)) c.in_default.ensures.cases in
    c.loop-ty.invariant m none.0 none.1
