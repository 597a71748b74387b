use Rattle.std.proofs.Common.{◌∙◌, ap}
use Rattle.wasm_syntax.specs.declared.declarations.ModuleDecl.{ModuleDecl}
use Rattle.spec_machine.specs.Machine.{Machine}
use Rattle.linker_map.specs.Linkers.{LinkerParts}
use Rattle.wasm_linker.specs.InPlace.{fit_in_place, told_unlisted}
use Rattle.wasm_linker.proofs.linker.Linker.unlisted.Goals as goal

pub returns : goal.returns
returns g c =
    c.unlisted_fault.ensures
    ∙ ap (λ (m : Machine). told_unlisted (fit_in_place m c.decl.result.now c.self.inside.map)) c.objects.ensures
    ∙ ap (λ (d : ModuleDecl). told_unlisted (fit_in_place c.args.store.now.machine d c.self.inside.map))
    c.decl.ensures.value
    ∙ ap (λ (l : LinkerParts). told_unlisted (fit_in_place c.args.store.now.machine c.args.module.now l)) c.self.view_is
