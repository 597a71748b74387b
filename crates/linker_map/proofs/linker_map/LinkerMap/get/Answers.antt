use Rattle.std.proofs.Common.{◌∙◌, ap, List, [], Option}
use Rattle.std.specs.Prelude.{unwrap_or}
use Rattle.std.specs.Map.{lookup}
use Rattle.std.specs.Str.{bytes_eq}
use Rattle.linker_map.specs.Linkers.{Entry, LinkerParts, found}
use Rattle.linker_map.proofs.NameLemmas.{lookup-named}
use Rattle.linker_map.proofs.linker_map.LinkerMap.get.Goals as goal

pub returns-in-Some : goal.returns-in-Some
returns-in-Some c =
    c.get-in-Some.ensures
    ∙ ap (λ (o : Option (List Entry)). lookup (bytes_eq c.args.name.now) (unwrap_or o []))
    (c.in-Some.ensures.value ∙ lookup-named c.self.inside.spaces.entries c.args.space.now)
    ∙ ap (λ (l : LinkerParts). found l c.args.space.now c.args.name.now) c.self.view_is

pub returns-in-None : goal.returns-in-None
returns-in-None c =
    ap (λ (o : Option (List Entry)). lookup (bytes_eq c.args.name.now) (unwrap_or o []))
    (c.in-None.ensures.value ∙ lookup-named c.self.inside.spaces.entries c.args.space.now)
    ∙ ap (λ (l : LinkerParts). found l c.args.space.now c.args.name.now) c.self.view_is
