use Rattle.std.proofs.Common.{◌∙◌, ap, List}
use Rattle.wasm_syntax.specs.declared.declarations.ImportDecl.{ImportDecl}
use Rattle.wasm_syntax.specs.declared.declarations.ModuleDecl.{ModuleDecl}
use Rattle.linker_map.specs.Imports.{first_unknown}
use Rattle.linker_map.specs.Linkers.{LinkerParts}
use Rattle.wasm_linker.proofs.LinkLemmas.{names_along}
use Rattle.wasm_linker.proofs.linker.Linker.resolve.Goals as goal

pub returns-clause-unknown : goal.returns-clause-unknown
returns-clause-unknown c =
    names_along c.resolve.result (first_unknown c.self.inside.map c.as_slice.result.now)
    (first_unknown c.args.self.now c.args.module.now.imports)
    (ap (λ (l : LinkerParts). first_unknown l c.as_slice.result.now) c.self.view_is
    ∙ ap (λ (imports : List ImportDecl). first_unknown c.args.self.now imports)
    (c.as_slice.ensures ∙ ap (λ (d : ModuleDecl). d.imports) c.decl.ensures.value))
    c.resolve.ensures.unknown
