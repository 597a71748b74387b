-- A store that has what is a member from one store and all else from another. This project's own.
use Rattle.std.specs.Prelude.{ℕ, suc, Bool, List, [], ◌∷◌, if◌then◌else◌}
use Rattle.spec_machine.specs.Machine.{Machine}
use Rattle.spec_reach.specs.Nodes.{Node, instance, memory, table, global}

-- where the test of a place holds what the first list has there, else what the second has; behind the second list the
-- first
abbrev pub mix : {A : Type 0} → (ℕ → Bool) → List A → List A → List A
mix p [] us = []
mix p (x ∷ xs) [] = x ∷ xs
mix p (x ∷ xs) (u ∷ us) = (if p 0 then x else u) ∷ mix (λ n. p (suc n)) xs us

abbrev pub mixed : (Node → Bool) → Machine → Machine → Machine
mixed M other m = record m {
  memories = mix (λ n. M (memory n)) m.memories other.memories;
  tables = mix (λ n. M (table n)) m.tables other.tables;
  globals = mix (λ n. M (global n)) m.globals other.globals;
  instances = mix (λ n. M (instance n)) m.instances other.instances;
}
