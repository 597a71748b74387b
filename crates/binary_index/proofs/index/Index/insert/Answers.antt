use Rattle.std.proofs.Common.{List, ℕ, Some, cond, ◌∙◌, ap}
use Rattle.std.specs.Map.{lookup}
use Rattle.std.specs.Str.{bytes_eq}
use Rattle.binary_index.proofs.EntryLemmas.{Entry, keyed, inserted}
use Rattle.binary_index.proofs.index.Index.insert.Goals as goal

pub returns : goal.returns
returns c = λ q.
    ap (λ (es : List Entry). lookup (bytes_eq q) (keyed es)) c.in_ok-insert.ensures.entries
    ∙ inserted q c.in_ok-key.key c.args.number c.self.inside.by_key.entries
    ∙ ap (λ (l : List ℕ). cond (bytes_eq q l) (Some c.args.number) (lookup (bytes_eq q) (keyed c.self.inside.by_key.entries))) c.in_ok-key.ensures.items
    ∙ ap (λ (es : List (List ℕ × ℕ)). cond (bytes_eq q c.args.key.now) (Some c.args.number) (lookup (bytes_eq q) es)) c.self.view_is
