-- Segments that lead leave images that fit, and taken in a walk they are what they are one by one.
use Rattle.std.proofs.Common.{◌≡◌, ℕ, zero, suc, ◌+◌, ◌≤◌, List, [], ◌∷◌, length, get_or, take, drop, ◌-◌, replicate, Bool, true, false, Option, Some, None, refl, sym, ap, ◌∙◌, subst, arith}
use Rattle.std.specs.Prelude.{slice_get, nat_eq, if◌then◌else◌}
use Rattle.std.specs.List.{sum_by}
use Rattle.std.specs.Option.{option_map_or}
use Rattle.std.proofs.lemmas.List.{length-replicate, take_all}
use Rattle.std.proofs.lemmas.List.Folds.{sum_by-replicate}
use Rattle.std.proofs.lemmas.Option.{none-some, option_and_then_some}
use Rattle.wasm_types.specs.declared.plain.Cell.{Cell}
use Rattle.wasm_types.specs.declared.plain.Cell.TheVariants as cell
use Rattle.wasm_syntax.specs.Contexts.{imported, as_table, as_memory}
use Rattle.wasm_syntax.specs.declared.constants.ConstExpr.{ConstExpr}
use Rattle.wasm_syntax.specs.declared.declarations.ModuleDecl.{ModuleDecl}
use Rattle.wasm_syntax.specs.declared.segments.DataDecl.{DataDecl}
use Rattle.wasm_syntax.specs.declared.segments.DataMode.{DataMode}
use Rattle.wasm_syntax.specs.declared.segments.DataMode.TheVariants as data_mode
use Rattle.wasm_syntax.specs.declared.segments.ElemDecl.{ElemDecl}
use Rattle.wasm_syntax.specs.declared.segments.ElemMode.{ElemMode}
use Rattle.wasm_syntax.specs.declared.segments.ElemMode.TheVariants as elem_mode
use Rattle.wasm_module.specs.Images.{cells_of, fixed_offset, defined_number, holds_functions, led_element, led_data, led_by, one_more, led_alone, leading_elements, table_images, memory_images, most_cells, most_bytes}
use Rattle.wasm_module.specs.Fitting.{AreImages, AreTables, AreMemories, table_size, memory_size}
use Rattle.wasm_module.proofs.FrontLemmas.{some_is, where_so, written_keeps}

pub led_element_keeps : (d : ModuleDecl) (images : List (List Cell)) (mode : ElemMode) (items : List ConstExpr)
    (after : List (List Cell)) → AreTables d images → led_element d images mode items ≡ Some after → AreTables d after
led_element_keeps d images elem_mode.Passive items after are e = subst (AreTables d) (some_is images after e) are
led_element_keeps d images elem_mode.Declared items after are e = subst (AreTables d) (some_is images after e) are
led_element_keeps d images (elem_mode.Active table offset) items after are e =
    option_and_then_some _ (defined_number (length (imported as_table d)) table) after e (λ number _ e1.
    option_and_then_some _ (slice_get d.tables number) after e1 (λ t found e2.
    option_and_then_some _ (fixed_offset offset) after e2 (λ at _ e3.
    option_and_then_some _ (cells_of items) after e3 (λ cells _ e4.
    written_keeps table_size most_cells d.tables cell.Init images are number at cells t after found
    (where_so (holds_functions t) _ after e4).1))))

pub led_data_keeps : (d : ModuleDecl) (images : List (List ℕ)) (mode : DataMode) (bytes : List ℕ)
    (after : List (List ℕ)) → AreMemories d images → led_data d images mode bytes ≡ Some after → AreMemories d after
led_data_keeps d images data_mode.Passive bytes after are e = subst (AreMemories d) (some_is images after e) are
led_data_keeps d images (data_mode.Active memory offset) bytes after are e =
    option_and_then_some _ (defined_number (length (imported as_memory d)) memory) after e (λ number _ e1.
    option_and_then_some _ (slice_get d.memories number) after e1 (λ ty found e2.
    option_and_then_some _ (fixed_offset offset) after e2 (λ at _ e3.
    written_keeps memory_size most_bytes d.memories 0 images are number at bytes ty after found e3)))

module _ {State Item : Type 0} (P : State → Type 0) (step : State → Item → Option State)
    (keeps : (s : State) (item : Item) (after : State) → P s → step s item ≡ Some after → P after) where
  one_keeps : (s : State) (item : Item) (items : List Item) → P s → ((after : State) → P after → P (led_by step after items).1) →
      (o : Option State) → step s item ≡ o →
      P (option_map_or (λ after. one_more (led_by step after items)) o (zero, s)).1
  one_keeps s item items h rest None e = h
  one_keeps s item items h rest (Some after) e = rest after (keeps s item after h e)

  pub led_by_keeps : (s : State) (items : List Item) → P s → P (led_by step s items).1
  led_by_keeps s [] h = h
  led_by_keeps s (item ∷ items) h =
      one_keeps s item items h (λ after k. led_by_keeps after items k) (step s item) refl

-- images that were not written to
none_there : {A : Type 0} (n k : ℕ) (image : List A) → slice_get (replicate n []) k ≡ Some image → length image ≤ 0
none_there zero k image e = absurd (none-some image e)
none_there (suc n) zero image e = omega (arith, ap length (some_is [] image e))
none_there (suc n) (suc k) image e = none_there n k image e

none_in_all : (A : Type 0) (n : ℕ) → sum_by length (replicate {A = List A} n []) ≡ 0
none_in_all A n = omega (arith, sum_by-replicate {X = List A} length n [])

pub none_are : {A Object : Type 0} (size_of : Object → ℕ) (most : ℕ) (objects : List Object) →
    AreImages {A = A} size_of most objects (replicate (length objects) [])
none_are {A = A} size_of most objects =
    record {
      one_each = length-replicate (length objects) [];
      limited = omega (arith, none_in_all A (length objects));
      fits = λ k image object there owned. omega (arith, none_there (length objects) k image there);
    }

pub tables_are : (d : ModuleDecl) → AreTables d (table_images d)
tables_are d =
    led_by_keeps (AreTables d) (λ images (e : ElemDecl). led_element d images e.mode e.items)
    (λ images e after are led. led_element_keeps d images e.mode e.items after are led)
    (replicate (length d.tables) []) d.elements (none_are table_size most_cells d.tables)

alone_are : (d : ModuleDecl) → AreMemories d (led_alone d).1
alone_are d =
    led_by_keeps (AreMemories d) (λ images (e : DataDecl). led_data d images e.mode e.bytes)
    (λ images e after are led. led_data_keeps d images e.mode e.bytes after are led)
    (replicate (length d.memories) []) d.datas (none_are memory_size most_bytes d.memories)

pub memories_are : (d : ModuleDecl) → AreMemories d (memory_images d)
memories_are d = by (nat_eq (leading_elements d) (length d.elements))
  where
    by : (b : Bool) → AreMemories d (if b then led_alone d else (zero, replicate (length d.memories) [])).1
    by true = alone_are d
    by false = none_are memory_size most_bytes d.memories

-- a list that has a first item, as a pattern takes it apart
pub uncons : {A : Type 0} (xs : List A) (x : A) → 1 ≤ length xs → x ≡ get_or xs 0 x → xs ≡ x ∷ take (length xs - 1) (drop 1 xs)
uncons [] x some e = absurd (omega (arith, some))
uncons (y ∷ ys) x some e =
    ap (λ z. z ∷ ys) (sym e) ∙ ap (λ l. x ∷ l) (sym (take_all (length (y ∷ ys) - 1) ys (omega arith)))

-- ---- one walk: where so many led before those that are left, and what those before left

pub started : {State Item : Type 0} (step : State → Item → Option State) (state first : State) (rest items : List Item) →
    state ≡ first → rest ≡ items → led_by step state rest ≡ led_by step first items
started step state first rest items is all = ap (λ s. led_by step s rest) is ∙ ap (led_by step first) all

module _ {State Item : Type 0} (step : State → Item → Option State) (count : ℕ) (state : State) (rest : List Item) (all : ℕ)
    (last : State) (counts : count + (led_by step state rest).0 ≡ all) (leaves : (led_by step state rest).1 ≡ last) where
  module _ (item : Item) (tail : List Item) (is : rest ≡ item ∷ tail) where
    walked : (o : Option State) → step state item ≡ o →
        led_by step state rest ≡ option_map_or (λ after. one_more (led_by step after tail)) o (zero, state)
    walked o e =
        ap (led_by step state) is ∙ ap (λ p. option_map_or (λ after. one_more (led_by step after tail)) p (zero, state)) e

    pub walk_goes_on : (after : State) → step state item ≡ Some after →
        (count + 1 + (led_by step after tail).0 ≡ all) × ((led_by step after tail).1 ≡ last)
    walk_goes_on after e =
        let next : led_by step state rest ≡ one_more (led_by step after tail) = walked (Some after) e in
        (omega (arith, counts, ap (λ (r : ℕ × State). r.0) next), sym (ap (λ (r : ℕ × State). r.1) next) ∙ leaves)
