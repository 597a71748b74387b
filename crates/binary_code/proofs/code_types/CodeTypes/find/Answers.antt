use Rattle.std.proofs.Common.{◌≡◌, List, sym, ◌∙◌, ap, subst, position}
use Rattle.wasm_types.specs.Signatures.{Signature}
use Rattle.binary_code.specs.BlockTypes.{gives}
use Rattle.binary_code.specs.Slots.{IsBlockKey, block_of}
use Rattle.binary_code.proofs.BlockLemmas.{first_gives}
use Rattle.binary_code.proofs.code_types.CodeTypes.find.Goals as goal

pub returns : goal.returns
returns c =
    c.find.ensures (block_of c.args.results.now) (subst (λ (ts : List Signature). IsBlockKey ts c.args.results.now c.args.key.now) (sym c.self.view_is) c.requires)
    ∙ first_gives c.args.results.now c.self.inside.types
    ∙ ap (λ (ts : List Signature). position (gives c.args.results.now) ts) c.self.view_is
