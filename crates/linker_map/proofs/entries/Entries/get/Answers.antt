use Rattle.std.proofs.Common.{◌∙◌, ap, List}
use Rattle.std.specs.Map.{lookup}
use Rattle.std.specs.Str.{bytes_eq}
use Rattle.linker_map.specs.Linkers.{Entry}
use Rattle.linker_map.proofs.OrderLemmas.{lookup-ordered}
use Rattle.linker_map.proofs.entries.Entries.get.Goals as goal

pub returns : goal.returns
returns c =
    c.copied.ensures ∙ c.get.ensures.value ∙ lookup-ordered c.self.inside.by_name.entries c.args.name.now
    ∙ ap (λ (es : List Entry). lookup (bytes_eq c.args.name.now) es) c.self.view_is
