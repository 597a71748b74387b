use Rattle.std.proofs.Common.{◌≡◌, length}
use Rattle.std.specs.List.{list_any}
use Rattle.wasm_syntax.specs.declared.declarations.ExportDecl.{ExportDecl}
use Rattle.wasm_instance.specs.Exports.{same_entity}
use Rattle.wasm_instance.proofs.exports.names_entity.Given as goal

-- what is left decides
abbrev pub invariant-exports : goal.invariant-exports
invariant-exports l =
    list_any (λ (e : ExportDecl). same_entity e.entity l.entity) l.rest
    ≡ list_any (λ (e : ExportDecl). same_entity e.entity l.entity) l.exports

abbrev pub decreases-exports : goal.decreases-exports
decreases-exports l = length l.rest
