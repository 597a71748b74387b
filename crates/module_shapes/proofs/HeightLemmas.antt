-- What heights tell of blocks.
use Rattle.std.proofs.Common.{◌≡◌, ℕ, zero, suc, ◌+◌, ◌-◌, ◌<◌, ◌≤◌, Bool, true, false, ◌&&◌, List, [], ◌∷◌, ◌++◌, length, min, max, Option, Some, None, refl, ap, sym, ◌∙◌, subst, arith, add-zero, zero-add, append-nil, append_assoc, length-append}
use Rattle.std.specs.Prelude.{slice_get, nat_lt, nat_le, is_some, if◌then◌else◌, option_and_then}
use Rattle.std.specs.List.{list_all}
use Rattle.std.specs.Option.{option_map_or}
use Rattle.std.proofs.lemmas.Bool.Decides.{nat_tests}
use Rattle.std.proofs.lemmas.Bool.{ltb-true, le-leb, and_from, and_left, and_right}
use Rattle.std.proofs.lemmas.List.{nil_from_length}
use Rattle.std.proofs.lemmas.Option.{same_Some}
use Rattle.wasm_syntax.specs.Shapes.{all_from, are_later, are_within, names, is_within}
use Rattle.wasm_syntax.specs.declared.declarations.Block.{Block}
use Rattle.module_shapes.specs.Heights.{height_of, over_all}

and_true : (b : Bool) → (b && true) ≡ b
and_true true = refl
and_true false = refl

pub over_all-append : (own : ℕ) (hs : List ℕ) (t : ℕ) (xs ys : List ℕ) → over_all own hs t (xs ++ ys) ≡ option_and_then (λ u. over_all own hs u ys) (over_all own hs t xs)
over_all-append own hs t [] ys = refl
over_all-append own hs t (x ∷ xs) ys = by_height (height_of own hs x) (λ h. over_all-append own hs (max t h) xs ys)
  where
    by_height : (o : Option ℕ) → ((h : ℕ) → over_all own hs (max t h) (xs ++ ys) ≡ option_and_then (λ u. over_all own hs u ys) (over_all own hs (max t h) xs)) → option_and_then (λ h. over_all own hs (max t h) (xs ++ ys)) o ≡ option_and_then (λ u. over_all own hs u ys) (option_and_then (λ h. over_all own hs (max t h) xs) o)
    by_height None more = refl
    by_height (Some h) more = more h

-- the heights are there exactly where the blocks are later and there
there : {A : Type 0} (xs : List A) (k : ℕ) → is_some (slice_get xs k) ≡ nat_lt k (length xs)
there [] k = grind (arith, nat_tests)
there (x ∷ xs) zero = grind (arith, nat_tests)
there (x ∷ xs) (suc k) = there xs k ∙ grind (arith, nat_tests)

is_behind : (n own : ℕ) (hs : List ℕ) → suc own + length hs ≡ n → (b : ℕ) → is_some (height_of own hs b) ≡ (nat_lt own b && nat_lt b n)
is_behind n own hs e b = by_order (nat_lt own b) refl
  where
    by_order : (t : Bool) → nat_lt own b ≡ t → is_some (height_of own hs b) ≡ (nat_lt own b && nat_lt b n)
    by_order true p =
        let h : own < b = ltb-true own b p in
        rw p (there hs (b - suc own) ∙ grind (arith, nat_tests))
    by_order false p = rw p refl

over_is_later : (n own : ℕ) (hs : List ℕ) → suc own + length hs ≡ n → (t : ℕ) (bs : List ℕ) → is_some (over_all own hs t bs) ≡ are_later n own bs
over_is_later n own hs e t [] = refl
over_is_later n own hs e t (b ∷ bs) = ap (λ x. x) (by_height (height_of own hs b) (is_behind n own hs e b) (λ u. over_is_later n own hs e u bs))
  where
    by_height : (o : Option ℕ) → is_some o ≡ (nat_lt own b && nat_lt b n) → ((u : ℕ) → is_some (over_all own hs u bs) ≡ are_later n own bs) → is_some (option_and_then (λ h. over_all own hs (max t h) bs) o) ≡ ((nat_lt own b && nat_lt b n) && are_later n own bs)
    by_height None here more = rw (← here) refl
    by_height (Some h) here more = more (max t h) ∙ rw (← here) refl

-- the blocks that are named are nested at most k deep exactly where the greatest height is
le_max : (a b k : ℕ) → nat_le (max a b) k ≡ (nat_le a k && nat_le b k)
le_max a b k = grind (arith, nat_tests)

and_assoc : (a b c : Bool) → ((a && b) && c) ≡ (a && (b && c))
and_assoc true b c = refl
and_assoc false b c = refl

height_at : (own : ℕ) (hs : List ℕ) (b h : ℕ) → height_of own hs b ≡ Some h → (own < b) × (slice_get hs (b - suc own) ≡ Some h)
height_at own hs b h e =
    let c = cond_some' (nat_lt own b) (slice_get hs (b - suc own)) h e in
    (ltb-true own b c.0, c.1)
  where
    cond_some' : (t : Bool) (o : Option ℕ) (h : ℕ) → (if t then o else None) ≡ Some h → (t ≡ true) × (o ≡ Some h)
    cond_some' true o h e = (refl, e)
    cond_some' false o h e = absurd cc

module _ (own k : ℕ) (hs : List ℕ) (test : ℕ → Bool) (tested : (j h : ℕ) → slice_get hs j ≡ Some h → test (suc own + j) ≡ nat_le h k) where
  test_at : (b h : ℕ) → height_of own hs b ≡ Some h → test b ≡ nat_le h k
  test_at b h e =
      let at = height_at own hs b h e in
      let same : suc own + (b - suc own) ≡ b = omega (arith, at.0) in
      subst (λ (i : ℕ). test i ≡ nat_le h k) same (tested (b - suc own) h at.1)

  within_some : (t u : ℕ) (b : ℕ) (bs : List ℕ) → ((v : ℕ) → over_all own hs v bs ≡ Some u → (nat_le v k && list_all test bs) ≡ nat_le u k) → (o : Option ℕ) → height_of own hs b ≡ o → option_and_then (λ h. over_all own hs (max t h) bs) o ≡ Some u → (nat_le t k && (test b && list_all test bs)) ≡ nat_le u k
  within_some t u b bs more None p q = absurd cc
  within_some t u b bs more (Some h) p q =
      let here = test_at b h p in
      ap (λ (x : Bool). nat_le t k && (x && list_all test bs)) here
      ∙ sym (and_assoc (nat_le t k) (nat_le h k) (list_all test bs))
      ∙ ap (λ (x : Bool). x && list_all test bs) (sym (le_max t h k))
      ∙ more (max t h) q

  over_is_within : (t u : ℕ) (bs : List ℕ) → over_all own hs t bs ≡ Some u → (nat_le t k && list_all test bs) ≡ nat_le u k
  over_is_within t u [] e = and_true (nat_le t k) ∙ ap (λ (n : ℕ). nat_le n k) (same_Some t u e)
  over_is_within t u (b ∷ bs) e = within_some t u b bs (λ v. over_is_within v u bs) (height_of own hs b) refl e

-- what the heights of the blocks behind `rest` tell
pub record AreHeights (most : ℕ) (bs rest : List Block) (hs : List ℕ) : Type 0 where
  pub behind : List Block
  pub whole : rest ++ behind ≡ bs
  pub count : length hs ≡ length behind
  pub later : all_from (λ own b. are_later (length bs) own (names b)) (length rest) behind ≡ true
  pub heights : (j h k : ℕ) → slice_get hs j ≡ Some h → k ≤ most → is_within k bs (length rest + j) ≡ nat_le h k

pub none_behind : (most : ℕ) (bs : List Block) → AreHeights most bs bs []
none_behind most bs = record {
  behind = [];
  whole = append-nil bs;
  count = refl;
  later = refl;
  heights = λ j h k e l. absurd cc;
}

shifted : (n j : ℕ) → suc n + j ≡ n + suc j
shifted n j = omega arith

all_from-append : {A : Type 0} (test : ℕ → A → Bool) (n : ℕ) (xs ys : List A) → all_from test n (xs ++ ys) ≡ (all_from test n xs && all_from test (n + length xs) ys)
all_from-append test n [] ys = ap (λ (m : ℕ). all_from test m ys) (sym (add-zero n))
all_from-append test n (x ∷ xs) ys =
    ap (λ (t : Bool). test n x && t) (all_from-append test (suc n) xs ys ∙ ap (λ (m : ℕ). all_from test (suc n) xs && all_from test m ys) (shifted n (length xs)))
    ∙ sym (and_assoc (test n x) (all_from test (suc n) xs) (all_from test (n + suc (length xs)) ys))

slice_get_front : {A : Type 0} (xs : List A) (y : A) (ys : List A) → slice_get (xs ++ y ∷ ys) (length xs) ≡ Some y
slice_get_front [] y ys = refl
slice_get_front (x ∷ xs) y ys = slice_get_front xs y ys

-- one block more, in front
front_is_within : (most k : ℕ) (bs : List Block) (block : Block) (t own : ℕ) → k ≤ most → slice_get bs own ≡ Some block → ((m : ℕ) → m < k → list_all (is_within m bs) (names block) ≡ nat_le t m) → is_within k bs own ≡ nat_le (min t most + 1) k
front_is_within most zero bs block t own l at h = grind (arith, nat_tests)
front_is_within most (suc k) bs block t own l at h =
    ap (are_within (is_within k bs)) at ∙ h k (omega arith) ∙ grind (arith, nat_tests)

module _ (most : ℕ) (bs rest front : List Block) (block : Block) (hs : List ℕ) (are : AreHeights most bs rest hs) (split : rest ≡ front ++ block ∷ []) where
  joined : front ++ block ∷ are.behind ≡ bs
  joined = sym (append_assoc front (block ∷ []) are.behind) ∙ ap (λ (xs : List Block). xs ++ are.behind) (sym split) ∙ are.whole

  longer : length rest ≡ suc (length front)
  longer = ap length split ∙ length-append front (block ∷ []) ∙ omega arith

  lengths : suc (length front) + length hs ≡ length bs
  lengths = omega (arith, ap length joined, length-append front (block ∷ are.behind), are.count)

  at_own : slice_get bs (length front) ≡ Some block
  at_own = ap (λ (xs : List Block). slice_get xs (length front)) (sym joined) ∙ slice_get_front front block are.behind

  tested : (k : ℕ) → k ≤ most → (j h : ℕ) → slice_get hs j ≡ Some h → is_within k bs (suc (length front) + j) ≡ nat_le h k
  tested k l j h e = ap (λ (n : ℕ). is_within k bs (n + j)) (sym longer) ∙ are.heights j h k e l

  heights_more : (t : ℕ) → over_all (length front) hs 0 (names block) ≡ Some t → (j h k : ℕ) → slice_get ((min t most + 1) ∷ hs) j ≡ Some h → k ≤ most → is_within k bs (length front + j) ≡ nat_le h k
  heights_more t e zero h k at l =
      ap (is_within k bs) (add-zero (length front))
      ∙ front_is_within most k bs block t (length front) l at_own (λ m below. none_over m (list_all (is_within m bs) (names block)) ∙ over_is_within (length front) m hs (is_within m bs) (tested m (omega (arith, below, l))) 0 t (names block) e)
      ∙ ap (λ (n : ℕ). nat_le n k) (same_Some (min t most + 1) h at)
    where
      none_over : (m : ℕ) (b : Bool) → b ≡ (nat_le 0 m && b)
      none_over m b = ap (λ (t : Bool). t && b) (sym (le-leb 0 m (omega arith)))
  heights_more t e (suc j) h k at l = ap (is_within k bs) (sym (shifted (length front) j)) ∙ tested k l j h at

  pub one_more : (t : ℕ) → over_all (length front) hs 0 (names block) ≡ Some t → AreHeights most bs front ((min t most + 1) ∷ hs)
  one_more t e = record {
    behind = block ∷ are.behind;
    whole = joined;
    count = omega (arith, are.count);
    later = and_from _ _ (sym (over_is_later (length bs) (length front) hs lengths 0 (names block)) ∙ ap is_some e)
        (ap (λ (n : ℕ). all_from (λ own b. are_later (length bs) own (names b)) n are.behind) (sym longer) ∙ are.later);
    heights = heights_more t e;
  }

  pub not_later : over_all (length front) hs 0 (names block) ≡ None → false ≡ (all_from (λ own b. are_later (length bs) own (names b)) 0 bs && is_within most bs 0)
  not_later e =
      let test : ℕ → Block → Bool = λ own b. are_later (length bs) own (names b) in
      let here : test (length front) block ≡ false = sym (over_is_later (length bs) (length front) hs lengths 0 (names block)) ∙ ap is_some e in
      let all : all_from test 0 (front ++ block ∷ are.behind) ≡ false =
      all_from-append test 0 front (block ∷ are.behind) ∙ and_right (all_from test 0 front) _ (and_left _ _ (ap (λ (n : ℕ). test n block) (zero-add (length front)) ∙ here)) in
      sym (and_left _ _ (ap (all_from test 0) (sym joined) ∙ all))

-- all blocks
none_within : (n : ℕ) → is_within n [] 0 ≡ false
none_within zero = refl
none_within (suc n) = refl

pub at_first : (most : ℕ) (bs rest : List Block) (hs : List ℕ) → AreHeights most bs rest hs → length rest ≡ 0 → option_map_or (λ h. nat_le h most) (slice_get hs 0) false ≡ (all_from (λ own b. are_later (length bs) own (names b)) 0 bs && is_within most bs 0)
at_first most bs (r ∷ rest) hs are none = absurd cc
at_first most bs [] hs are none = sym (ap (λ (t : Bool). t && is_within most bs 0) later ∙ first hs are.count are.heights)
  where
    later : all_from (λ own b. are_later (length bs) own (names b)) 0 bs ≡ true
    later = ap (all_from (λ own b. are_later (length bs) own (names b)) 0) (sym are.whole) ∙ are.later

    first : (hs : List ℕ) → length hs ≡ length are.behind → ((j h k : ℕ) → slice_get hs j ≡ Some h → k ≤ most → is_within k bs (0 + j) ≡ nat_le h k) → is_within most bs 0 ≡ option_map_or (λ h. nat_le h most) (slice_get hs 0) false
    first [] e heights = ap (λ (xs : List Block). is_within most xs 0) (sym are.whole ∙ nil_from_length are.behind (sym e)) ∙ none_within most
    first (h ∷ hs) e heights = heights 0 h most refl (omega arith)
