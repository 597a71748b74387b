use Rattle.std.proofs.Common.{◌∙◌, List, ℕ, ap}
use Rattle.std.specs.Map.{lookup}
use Rattle.std.specs.Str.{bytes_eq}
use Rattle.binary_index.proofs.EntryLemmas.{found_by_items}
use Rattle.binary_index.proofs.index.Index.get.Goals as goal

pub returns : goal.returns
returns c =
    c.copied.ensures ∙ c.get.ensures.value ∙ found_by_items c.args.key.now c.self.inside.by_key.entries
    ∙ ap (λ (es : List (List ℕ × ℕ)). lookup (bytes_eq c.args.key.now) es) c.self.view_is
