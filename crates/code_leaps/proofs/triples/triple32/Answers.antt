use Rattle.std.proofs.Common.{◌<◌, ◌∷◌, length, get_or, drop, w32, of_z, to_z, refl, ap, subst, ◌∙◌, arith, rules, to_z-of_z, SFits, IfSome}
use Rattle.wasm_syntax.specs.declared.instr.Instr.TheVariants as i
use Rattle.wasm_objects.specs.declared.raw.RawVal.TheVariants as w
use Rattle.code_leaps.specs.Triples.{Operates, Triple}
use Rattle.code_leaps.proofs.TripleLemmas.{some_on, three_of}
use Rattle.code_leaps.proofs.triples.triple32.Goals as goal

pub returns-clause-does : goal.returns-clause-does
returns-clause-does c =
    let code = c.args.code.now in
    let any = i.Unreachable in
    let x = c.in_ok-x.x in
    let y = c.in_ok-y.y in
    let fits_x : SFits w32 x = search rules in
    let fits_y : SFits w32 y = search rules in
    let by = λ (a b : _). IfSome c.operated32.result
    (λ n. Operates (i.Binary c.in-Binary.op) (w.I32 a) (w.I32 b) (w.I32 n)) in
    let three : 2 < length code = omega (arith, c.if-code-stop-lt3.false, c.requires) in
    some_on c.operated32.result
    (λ n. Operates (i.Binary c.in-Binary.op) (w.I32 x) (w.I32 y) (w.I32 n))
    (λ n. Triple code c.args.locals.now (w.I32 n))
    (λ n made. record {
      first = i.LocalGet c.in-LocalGet.index;
      second = get_or code 1 any;
      third = i.Binary c.in-Binary.op;
      x = w.I32 x;
      y = w.I32 y;
      code_is = three_of code any three
          ∙ ap (λ j. j ∷ get_or code 1 any ∷ get_or code 2 any ∷ drop 3 code) c.in-LocalGet.is
          ∙ ap (λ j. i.LocalGet c.in-LocalGet.index ∷ get_or code 1 any ∷ j ∷ drop 3 code) c.in-Binary.is;
      first_frequent = refl;
      second_frequent = c.in_ok-y.ensures.frequent;
      third_frequent = refl;
      first_puts = c.in_ok-x.ensures;
      second_puts = c.in_ok-y.ensures.puts;
      third_operates = made;
    })
    (subst (λ a. by a y) (to_z-of_z fits_x) (subst (λ b. by (to_z w32 (of_z w32 x)) b) (to_z-of_z fits_y)
    c.operated32.ensures))
