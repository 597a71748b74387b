use Rattle.std.proofs.Common.{◌∙◌, ap, List, ℕ, map}
use Rattle.std.specs.Prelude.{string_bytes}
use Rattle.linker_map.specs.Linkers.{Entry, with_name}
use Rattle.linker_map.proofs.NameLemmas.{named}
use Rattle.linker_map.proofs.OrderLemmas.{insert-ordered}
use Rattle.linker_map.proofs.entries.Entries.insert.Goals as goal

pub returns-clause-ok : goal.returns-clause-ok
returns-clause-ok c =
    ap (map named) c.in_ok-insert.ensures.entries
    ∙ insert-ordered c.self.inside.by_name.entries c.in_ok-name.name c.args.item
    ∙ ap (λ (es : List Entry). with_name es (string_bytes c.in_ok-name.name) c.args.item) c.self.view_is
    ∙ ap (λ (name : List ℕ). with_name c.args.self.now name c.args.item) c.in_ok-name.ensures.ok
