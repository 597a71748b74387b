use Rattle.std.proofs.Common.{◌≡◌, Bool, List, length, ap, eq-eqb, subst}
use Rattle.wasm_types.specs.Signatures.{Signature}
use Rattle.binary_types.proofs.Steps.{read_then}
use Rattle.binary_types.specs.Reading.{Reads, unless}
use Rattle.binary_types.specs.declared.faults.BinaryFault.TheVariants.{Malformed}
use Rattle.binary_code.specs.Bodies as forms
use Rattle.binary_code.proofs.section.code_section.Goals as goal

pub returns-clause-read : goal.returns-clause-read
returns-clause-read c =
    read_then _ _ c.in_ok-count.count _ _ c.bodies_of.result c.in_ok-count.ensures
    (read_then _ _ tt _ _ c.bodies_of.result
    (ap (λ (b : Bool). unless Malformed b c.whole_32.new.input) (eq-eqb c.in_ok-count.count (length c.args.functions.now) c.if-count-functions.false))
    (subst (λ (ts : List Signature). Reads (forms.bodies_of c.args.context c.args.functions.now ts c.whole_32.new.input) c.bodies_of.result c.bodies_of.new.input)
    c.in_ok-types.ensures.ok c.bodies_of.ensures.read))
