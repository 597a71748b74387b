use Rattle.std.proofs.Common.{IfSome, sym, subst}
use Rattle.wasm_objects.specs.declared.raw.RawVal.TheVariants as w
use Rattle.code_leaps.specs.Triples.{Puts}
use Rattle.code_leaps.proofs.triples.put32.Goals as goal

pub returns-in-LocalGet-clause-puts : goal.returns-in-LocalGet-clause-puts
returns-in-LocalGet-clause-puts c =
    subst (λ j. IfSome c.local32.result (λ n. Puts j c.args.locals.now (w.I32 n))) (sym c.in-LocalGet.is)
    c.local32.ensures
