use Rattle.std.proofs.Common.{◌≡◌, suc, ◌+◌, ◌<◌, [], ◌∷◌, ◌++◌, length, take, get_or, sym, ap, ◌∙◌, arith, pos}
use Rattle.std.proofs.lemmas.List.{take_more_set, length-set}
use Rattle.std.proofs.Math.Seq.{take-suc}
use Rattle.wasm_objects.specs.declared.raw.RawVal.TheVariants as w
use Rattle.code_leaps.proofs.leap_calls.copy_front.Goals as goal

pub values-preserved : goal.values-preserved
values-preserved c =
    let to = c.values.to in
    let from = c.args.from.now in
    let at = c.values.at in
    let d = w.I32 (pos 0) in
    let lt : at < length from = omega (arith, c.values-test.true) in
    let there : at < length to = omega (arith, lt, c.values.invariant.long, c.requires) in
    let next : at + 1 ≡ suc at = omega arith in
    record {
      within = omega (arith, lt);
      long = ap length (c.copy_value_from.ensures d) ∙ length-set to at (get_or from at d) ∙ c.values.invariant.long;
      front = ap (λ xs. take (at + 1) xs) (c.copy_value_from.ensures d) ∙ take_more_set to at (get_or from at d) there
          ∙ ap (λ xs. xs ++ get_or from at d ∷ []) c.values.invariant.front
          ∙ sym (ap (λ n. take n from) next ∙ take-suc from at d lt);
    }
