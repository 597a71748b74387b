use Rattle.std.proofs.Common.{◌∙◌, ap, map, List}
use Rattle.std.specs.Map.{lookup}
use Rattle.std.specs.Str.{bytes_eq}
use Rattle.linker_map.specs.Linkers.{Entry, LinkerParts, with_item, with_name}
use Rattle.linker_map.proofs.NameLemmas.{named, put-new, linker_of}
use Rattle.linker_map.proofs.linker_map.LinkerMap.insert_space.Goals as goal

pub returns-clause-ok : goal.returns-clause-ok
returns-clause-ok c =
    ap (linker_of c.self.inside.shadowing)
    (ap (map named) c.in_ok-insert-2.ensures.entries
    ∙ put-new c.self.inside.spaces.entries c.args.space.now c.args.name.now c.args.item c.in_ok-space.space c.insert.new.self
    (ap (λ (l : LinkerParts). lookup (bytes_eq c.args.space.now) l.spaces) c.self.view_is ∙ c.requires)
    c.in_ok-space.ensures.ok
    (c.in_ok-insert.ensures.ok
    ∙ ap (λ (old : List Entry). with_name old c.args.name.now c.args.item) c.new-entries.ensures))
    ∙ ap (with_item c.args.space.now c.args.name.now c.args.item) c.self.view_is
