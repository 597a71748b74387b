use Rattle.std.proofs.Common.{◌∙◌, ap, sym, List, Some, map, String, Global}
use Rattle.std.specs.Map.{lookup}
use Rattle.std.specs.Str.{bytes_eq}
use Rattle.linker_map.specs.Linkers.{Entry, LinkerParts, with_item}
use Rattle.linker_map.proofs.NameLemmas.{named, lookup-named, on_ok, on_err, put-there, set-same, linker_of, none_found}
use Rattle.linker_map.proofs.linker_map.LinkerMap.put.Goals as goal

pub returns-in-Some-clause-ok : goal.returns-in-Some-clause-ok
returns-in-Some-clause-ok c =
    on_ok c.insert.result
    (λ is.
    ap (linker_of c.self.inside.shadowing)
    (put-there c.self.inside.spaces.entries c.args.space.now c.args.name.now c.args.item c.in-Some.place
    c.index_mut.result.now c.insert.new.self (sym c.in-Some.ensures.index)
    (sym c.in-Some.ensures.value ∙ c.index_mut.ensures.value) is)
    ∙ ap (with_item c.args.space.now c.args.name.now c.args.item) c.self.view_is)
    c.insert.ensures.ok

pub returns-in-Some-clause-err : goal.returns-in-Some-clause-err
returns-in-Some-clause-err c =
    on_err c.insert.result
    (λ same.
    ap (λ (es : List (String Global × List Entry)). linker_of c.self.inside.shadowing (map named es))
    (set-same c.self.inside.spaces.entries c.in-Some.place c.insert.new.self
    (c.index_mut.ensures.value ∙ ap Some (sym same)))
    ∙ c.self.view_is)
    c.insert.ensures.err

pub returns-in-None-clause-ok : goal.returns-in-None-clause-ok
returns-in-None-clause-ok c = c.insert_space.ensures.ok

pub insert_space-requires : goal.insert_space-requires
insert_space-requires c =
    ap (λ (l : LinkerParts). lookup (bytes_eq c.args.space.now) l.spaces) (sym c.self.view_is)
    ∙ sym (lookup-named c.self.inside.spaces.entries c.args.space.now)
    ∙ none_found _ c.in-None.ensures.found
