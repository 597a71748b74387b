use Rattle.std.proofs.Common.{◌≡◌, ◌∷◌, ◌++◌, take, string_bytes}
use Rattle.std.specs.List.{flat_map}
use Rattle.script_lines.specs.Lines.{value_text}
use Rattle.script_lines.proofs.values.append_each.Given as goal

abbrev pub invariant-loop-val : goal.invariant-loop-val
invariant-loop-val l =
    string_bytes l.text
    ≡ string_bytes l.fn.text ++ flat_map (λ val. 32 ∷ value_text val) (take l.val-index l.vals)
