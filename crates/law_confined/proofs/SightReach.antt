-- Two stores that are the same inside of what is reached in the first reach the same.
use Rattle.std.proofs.Common.{◌≡◌, suc, Bool, true, false, List, [], ◌∷◌, ◌++◌, length, refl, sym, ap, ◌∙◌, subst}
use Rattle.std.specs.Prelude.{filter, slice_get, if◌then◌else◌}
use Rattle.wasm_types.specs.Each.{Each}
use Rattle.wasm_objects.specs.Globals.{Global}
use Rattle.wasm_objects.specs.Tables.{Table}
use Rattle.spec_machine.specs.Machine.{Machine}
use Rattle.spec_reach.specs.Nodes.{Node, func, instance, memory, table, global, has, nodes, numbered}
use Rattle.spec_reach.specs.Inside.{SameInside}
use Rattle.spec_reach.specs.Reach.{links, where_there, from_function, from_instance, in_references, in_value, is_near, reach}
use Rattle.spec_reach.proofs.FilterLemmas.{has_at, has_filter, filter_has}
use Rattle.spec_reach.proofs.ReachLemmas.{reach_is, reach_roots, reach_links, reach_least}

-- two filters of one list that pass the same of it
same_filter : {A : Type 0} (p q : A → Bool) (xs : List A) → Each xs (λ x. p x ≡ q x) → filter p xs ≡ filter q xs
same_filter p q [] h = refl
same_filter {A} p q (x ∷ xs) h =
    ap (λ b. if b then x ∷ filter p xs else filter p xs) (h 0 x refl)
    ∙ ap (λ (ys : List A). if q x then x ∷ ys else ys) (same_filter p q xs (λ n y e. h (suc n) y e))

-- two tests of which each passes what the other does
same_test : (b c : Bool) → (b ≡ true → c ≡ true) → (c ≡ true → b ≡ true) → b ≡ c
same_test true c h k = sym (h refl)
same_test false true h k = k refl
same_test false false h k = refl

module _ (m n : Machine) (from : List Node) (inside : SameInside (reach m from) m n) where
  nodes_are : nodes n ≡ nodes m
  nodes_are =
      let functions : length n.functions ≡ length m.functions = ap (λ (z : Machine). length z.functions) inside.rest in
      λ i. numbered func 0 (functions i) ++ (numbered instance 0 (inside.as_many_instances i)
      ++ (numbered memory 0 (inside.as_many_memories i)
      ++ (numbered table 0 (inside.as_many_tables i) ++ numbered global 0 (inside.as_many_globals i))))

  -- what a member leads to is the same
  links_are : (x : Node) → has (reach m from) x ≡ true → links n x ≡ links m x
  links_are (func k) e = ap (λ (z : Machine). where_there (slice_get z.functions k) (from_function z.id)) inside.rest
  links_are (instance k) e = ap (λ o. where_there o from_instance) (inside.instances k e)
  links_are (memory k) e = refl
  links_are (table k) e = ap (λ o. where_there o (λ (t : Table). in_references t.elements)) (inside.tables k e)
  links_are (global k) e = ap (λ o. where_there o (λ (g : Global). in_value g.value)) (inside.globals k e)

  there_too : (x : Node) → has (nodes m) x ≡ true → has (nodes n) x ≡ true
  there_too x e = subst (λ xs. has xs x ≡ true) (sym nodes_are) e

  there_before : (x : Node) → has (nodes n) x ≡ true → has (nodes m) x ≡ true
  there_before x e = subst (λ xs. has xs x ≡ true) nodes_are e

  first_way : (x : Node) → has (reach n from) x ≡ true → has (reach m from) x ≡ true
  first_way x e =
      reach_least n from (λ y. has (reach m from) y ≡ true) (λ y r there. reach_roots m from y r (there_before y there))
      (λ y z k l there.
      reach_links m from y z k (subst (λ xs. has xs z ≡ true) (links_are y k) l) (there_before z there)) x e

  second_way : (x : Node) → has (reach m from) x ≡ true → has (reach n from) x ≡ true
  second_way x e =
      (reach_least m from (λ y. (has (reach m from) y ≡ true) × (has (reach n from) y ≡ true))
      (λ y r there. (reach_roots m from y r there, reach_roots n from y r (there_too y there)))
      (λ y z k l there. (
        reach_links m from y z k.0 l there,
        reach_links n from y z k.1 (subst (λ xs. has xs z ≡ true) (sym (links_are y k.0)) l) (there_too z there),
      )) x e).1

  -- reach is a filter of all nodes
  near : (z : Machine) (x : Node) → has (reach z from) x ≡ true → is_near z (reach z from) x ≡ true
  near z x e =
      (filter_has (is_near z (reach z from)) (nodes z) x (subst (λ xs. has xs x ≡ true) (reach_is z from) e)).passes

  far :
      (z : Machine) (x : Node) → has (nodes z) x ≡ true → is_near z (reach z from) x ≡ true
      → has (reach z from) x ≡ true
  far z x there e =
      subst (λ xs. has xs x ≡ true) (sym (reach_is z from)) (has_filter (is_near z (reach z from)) (nodes z) x there e)

  same_near : Each (nodes m) (λ x. is_near n (reach n from) x ≡ is_near m (reach m from) x)
  same_near k x e =
      let there : has (nodes m) x ≡ true = has_at (nodes m) k x e in
      same_test (is_near n (reach n from) x) (is_near m (reach m from) x)
      (λ q. near m x (first_way x (far n x (there_too x there) q))) (λ q. near n x (second_way x (far m x there q)))

  pub reach_same : reach n from ≡ reach m from
  reach_same =
      reach_is n from ∙ ap (filter (is_near n (reach n from))) nodes_are
      ∙ same_filter (is_near n (reach n from)) (is_near m (reach m from)) (nodes m) same_near ∙ sym (reach_is m from)
