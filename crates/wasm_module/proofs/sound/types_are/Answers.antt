use Rattle.std.proofs.Common.{List, subst}
use Rattle.wasm_types.specs.Each.{Each}
use Rattle.wasm_types.specs.SoundTypes.{IsTableSound}
use Rattle.wasm_syntax.specs.declared.declarations.TableDecl.{TableDecl}
use Rattle.wasm_module.proofs.sound.types_are.Goals as goal

pub returns-clause-tables : goal.returns-clause-tables
returns-clause-tables c =
    subst (λ (xs : List TableDecl). Each xs (λ (t : TableDecl). IsTableSound t.ty)) c.as_slice-4.ensures c.each-4.ensures
