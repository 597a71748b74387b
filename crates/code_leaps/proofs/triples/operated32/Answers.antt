use Rattle.std.proofs.Common.{◌≡◌, w32, of_z, sym, ap, ◌∙◌, subst, rules, to_z-of_z, SFits}
use Rattle.wasm_syntax.specs.Operators.{arith as number, unsigned}
use Rattle.wasm_syntax.specs.declared.instr.Instr.TheVariants as i
use Rattle.wasm_objects.specs.declared.raw.RawVal.TheVariants as w
use Rattle.code_arith.specs.Answers.{answer}
use Rattle.code_leaps.specs.Triples.{Operates}
use Rattle.code_leaps.proofs.TripleLemmas.{operates, unsigned_is}
use Rattle.code_leaps.proofs.triples.operated32.Goals as goal

pub returns-in-Ok : goal.returns-in-Ok
returns-in-Ok c =
    let fits : SFits w32 c.cast_signed.result = search rules in
    let fits_x : SFits w32 c.args.x = search rules in
    let fits_y : SFits w32 c.args.y = search rules in
    let x_is : c.cast_unsigned.result ≡ unsigned 32 c.args.x =
    c.cast_unsigned.ensures ∙ ap (of_z w32) (to_z-of_z fits_x) ∙ unsigned_is c.args.x in
    let y_is : c.cast_unsigned-2.result ≡ unsigned 32 c.args.y =
    c.cast_unsigned-2.ensures ∙ ap (of_z w32) (to_z-of_z fits_y) ∙ unsigned_is c.args.y in
    subst (λ z. Operates (i.Binary c.args.op) (w.I32 c.args.x) (w.I32 c.args.y) (w.I32 z)) (sym (to_z-of_z fits))
    (operates c.args.op c.args.x c.args.y c.cast_signed.result c.in-Ok.n c.requires c.in-Ok.ensures.result_width
    (c.in-Ok.ensures.value ∙ ap (λ k. answer (number c.args.op k c.cast_unsigned-2.result)) x_is
    ∙ ap (λ k. answer (number c.args.op (unsigned 32 c.args.x) k)) y_is) (search rules))
