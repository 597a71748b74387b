-- What a row is once it is cut elsewhere, or changed in its last segment.
use Rattle.std.proofs.Common.{Bool, true, false, nat_lt, ◌≡◌, ℕ, zero, suc, ◌+◌, ◌-◌, ◌<◌, ◌≤◌, List, [], ◌∷◌, ◌++◌, length, get_or, set, take, drop, refl, ap, sym, ◌∙◌, subst, arith, length-append, length-drop}
use Rattle.std.proofs.lemmas.List.{reverse-append, length-reverse, take-append-drop, take-take, take-append-le, drop-append-le, drop-drop, drop-take, drop_more, take-set-le, drop-set-add, length-take-le, take_all, drop_all}
use Rattle.std.proofs.lemmas.Bool.{ltb-true, ltb-false}
use Rattle.std.proofs.lemmas.List.Edits.{take-paste, length-paste}
use Rattle.std.proofs.Math.Seq.{paste, take-append_seam, drop-append_seam}
use Rattle.std.specs.Prelude.{reverse, MatchBool}
use Rattle.wasm_objects.specs.declared.raw.RawVal.{RawVal}
use Rattle.code_stack.specs.Cuts.{RowParts, row_parts, segments, AreStarts, IsCut, cut, HasJoined, HasMerged}
use Rattle.code_stack.specs.Lending.{left_over}

-- ---- the order of a list turned round

pub reverse_push : {A : Type 0} (xs ys : List A) (y : A) → ys ≡ xs ++ y ∷ [] → reverse ys ≡ y ∷ reverse xs
reverse_push xs ys y e = ap reverse e ∙ reverse-append xs (y ∷ [])

module _ {A : Type 0} (n : ℕ) (xs : List A) (le : n ≤ length xs) where
  cut_off : reverse xs ≡ reverse (drop (length xs - n) xs) ++ reverse (take (length xs - n) xs)
  cut_off =
      ap reverse (sym (take-append-drop (length xs - n) xs))
      ∙ reverse-append (take (length xs - n) xs) (drop (length xs - n) xs)

  length_front : length (reverse (drop (length xs - n) xs)) ≡ n
  length_front = omega (arith, length-reverse (drop (length xs - n) xs), length-drop (length xs - n) xs)

  -- the last n items are the first n from the other end
  pub reverse_last : reverse (drop (length xs - n) xs) ≡ take n (reverse xs)
  reverse_last =
      let front = reverse (drop (length xs - n) xs) in
      let back = reverse (take (length xs - n) xs) in
      sym (take-append_seam front back) ∙ ap (λ k. take k (front ++ back)) length_front ∙ ap (take n) (sym cut_off)

  pub reverse_rest : reverse (take (length xs - n) xs) ≡ drop n (reverse xs)
  reverse_rest =
      let front = reverse (drop (length xs - n) xs) in
      let back = reverse (take (length xs - n) xs) in
      sym (drop-append_seam front back) ∙ ap (λ k. drop k (front ++ back)) length_front ∙ ap (drop n) (sym cut_off)

-- ---- a row

module _ (xs : List RawVal) (s : ℕ) (hs : List ℕ) (room : ℕ) where
  abbrev old : RowParts
  old = cut s hs xs room

  -- cut once more, n items before the end
  module _ (n : ℕ) (in_last : n ≤ length xs - s) (within : s ≤ length xs) where
    abbrev m : ℕ
    m = length xs - n

    at_m : length (drop s xs) - n ≡ m - s
    at_m = omega (arith, length-drop s xs)

    pub split_last : drop m xs ≡ drop (length (drop s xs) - n) (drop s xs)
    split_last =
        let e : m ≡ s + (m - s) = omega arith in
        ap (λ k. drop k xs) e ∙ sym (drop-drop (m - s) s xs) ∙ ap (λ k. drop k (drop s xs)) (sym at_m)

    pub split_rest : drop s (take m xs) ≡ take (length (drop s xs) - n) (drop s xs)
    split_rest =
        let e : m ≡ s + (m - s) = omega arith in
        ap (λ k. drop s (take k xs)) e ∙ drop-take s (m - s) xs ∙ ap (λ k. take k (drop s xs)) (sym at_m)

    pub split_row : cut m (s ∷ hs) xs room ≡
        row_parts (drop (length old.last - n) old.last) (take (length old.last - n) old.last ∷ old.before) room
    split_row =
        let kept : take s (take m xs) ≡ take s xs = take-take s m xs (omega arith) in
        ap (λ l. row_parts l (segments (s ∷ hs) (take m xs)) room) split_last
        ∙ ap (λ l. row_parts (drop (length old.last - n) old.last) (l ∷ segments hs (take s (take m xs))) room)
        split_rest
        ∙ ap (λ l. row_parts (drop (length old.last - n) old.last)
        (take (length old.last - n) old.last ∷ segments hs l) room) kept

  -- another item in the last segment
  pub set_row : (i : ℕ) (v : RawVal) → cut s hs (set xs (s + i) v) room ≡ row_parts (set old.last i v) old.before room
  set_row i v =
      ap (λ l. row_parts l (segments hs (take s (set xs (s + i) v))) room) (drop-set-add s xs i v)
      ∙ ap (λ l. row_parts (set (drop s xs) i v) (segments hs l) room) (take-set-le s xs (s + i) v (omega arith))

  -- only the first n values of the last segment
  pub kept_row : (n r : ℕ) → cut s hs (take (s + n) xs) r ≡ row_parts (take n old.last) old.before r
  kept_row n r =
      ap (λ l. row_parts l (segments hs (take s (take (s + n) xs))) r) (drop-take s n xs)
      ∙ ap (λ l. row_parts (take n (drop s xs)) (segments hs l) r) (take-take s (s + n) xs (omega arith))

  -- the last segment joined with that before it
  pub merged : (h : ℕ) (rest : List ℕ) → hs ≡ h ∷ rest → AreStarts (s ∷ hs) xs → HasMerged old (cut h rest xs room)
  merged h rest e starts =
      let below : (h ≤ length (take s xs)) × AreStarts rest (take h (take s xs)) =
      subst (λ (l : List ℕ). AreStarts l (take s xs)) e starts.1 in
      let both : drop h xs ≡ drop h (take s xs) ++ drop s xs =
      ap (drop h) (sym (take-append-drop s xs)) ∙ drop-append-le h (take s xs) (drop s xs) below.0 in
      let kept : take h (take s xs) ≡ take h xs =
      take-take h s xs (omega (arith, below.0, length-take-le s xs starts.0)) in
      record {
        outer = drop h (take s xs);
        before = ap (λ l. segments l (take s xs)) e ∙ ap (λ l. drop h (take s xs) ∷ segments rest l) kept;
        last = both;
        room = refl;
      }

-- ---- further out

-- the start of a segment k before the last, and what lies before it
pub further_out : (k s : ℕ) (hs : List ℕ) (xs : List RawVal) (d : ℕ) → AreStarts (s ∷ hs) xs → k ≤ length hs →
    (get_or (s ∷ hs) k d ≤ s) × AreStarts (drop k hs) (take (get_or (s ∷ hs) k d) xs)
    × (drop k (segments hs (take s xs)) ≡ segments (drop k hs) (take (get_or (s ∷ hs) k d) xs))
further_out zero s hs xs d starts le = (omega arith, starts.1, refl)
further_out (suc k) s [] xs d starts le = absurd (omega (arith, le))
further_out (suc k) s (h ∷ hs) xs d starts le =
    let low : h ≤ s = omega (arith, starts.1.0, length-take-le s xs starts.0) in
    let kept : take h (take s xs) ≡ take h xs = take-take h s xs low in
    let inner : AreStarts (h ∷ hs) xs =
    (omega (arith, low, starts.0), subst (λ (l : List RawVal). AreStarts hs l) kept starts.1.1) in
    let out = further_out k h hs xs d inner (omega (arith, le)) in
    (omega (arith, low, out.0), out.1, ap (λ l. drop k (segments hs l)) kept ∙ out.2)

-- of the first `top` items the last n moved to the place e, and all behind them dropped
module _ (xs b : List RawVal) (top e n : ℕ) (held : top ≤ length xs) (within : e + n ≤ top)
    (moved : b ≡ take (e + n) (paste xs e (drop (top - n) xs) n)) where
  abbrev a : List RawVal
  a = take top xs

  pub moved_row : b ≡ take e a ++ drop (length a - n) a
  moved_row =
      let i = top - n in
      let all : i + n ≡ top = omega arith in
      let long : n ≤ length (drop i xs) = omega (arith, length-drop i xs) in
      moved ∙ take-paste xs e (drop i xs) n (omega arith) long
      ∙ ap (λ l. take e xs ++ l) (sym (drop-take i n xs)) ∙ ap (λ k. take e xs ++ drop i (take k xs)) all
      ∙ ap (λ l. l ++ drop i a) (sym (take-take e top xs (omega arith)))
      ∙ ap (λ k. take e a ++ drop (k - n) a) (sym (length-take-le top xs held))

module _ (a b : List RawVal) (s k n h e room new_room : ℕ) (hs rest : List ℕ) (starts : AreStarts (s ∷ hs) a)
    (there : k < length hs) (in_last : n ≤ length a - s) (end_is : e ≡ get_or (s ∷ hs) k e)
    (start_is : h ≡ get_or (s ∷ hs) (k + 1) h) (rest_is : rest ≡ drop (k + 1) hs)
    (row_is : b ≡ take e a ++ drop (length a - n) a) where
  out : (e ≤ s) × AreStarts (drop k hs) (take e a) × (drop k (segments hs (take s a)) ≡ segments (drop k hs) (take e a))
  out =
      subst (λ (x : ℕ). (x ≤ s) × AreStarts (drop k hs) (take x a)
      × (drop k (segments hs (take s a)) ≡ segments (drop k hs) (take x a))) (sym end_is)
      (further_out k s hs a e starts (omega (arith, there)))

  next : drop k hs ≡ h ∷ rest
  next =
      let one : k + 1 ≡ suc k = omega arith in
      let at : get_or hs k h ≡ h = sym (start_is ∙ ap (λ i. get_or (s ∷ hs) i h) one) in
      drop_more hs k h there ∙ ap (λ x. x ∷ drop (k + 1) hs) at ∙ ap (λ l. h ∷ l) (sym rest_is)

  below : (h ≤ length (take e a)) × AreStarts rest (take h (take e a))
  below = subst (λ (l : List ℕ). AreStarts l (take e a)) next out.1

  front_kept : take h b ≡ take h (take e a)
  front_kept = ap (take h) row_is ∙ take-append-le h (take e a) (drop (length a - n) a) below.0

  pub joined_starts : AreStarts (h ∷ rest) b
  joined_starts =
      let all : length b ≡ length (take e a) + length (drop (length a - n) a) =
      ap length row_is ∙ length-append (take e a) (drop (length a - n) a) in
      (omega (arith, all, below.0), subst (λ (l : List RawVal). AreStarts rest l) (sym front_kept) below.1)

  pub joined : HasJoined k n (cut s hs a room) (cut h rest b new_room)
  joined =
      let tail : drop (length a - n) a ≡ drop (length (drop s a) - n) (drop s a) =
      split_last a s hs room n in_last starts.0 in
      record {
        outer = drop h (take e a);
        further = segments rest (take h (take e a));
        before = out.2 ∙ ap (λ l. segments l (take e a)) next;
        last = ap (drop h) row_is ∙ drop-append-le h (take e a) (drop (length a - n) a) below.0
            ∙ ap (λ l. drop h (take e a) ++ l) tail;
        rest = ap (segments rest) front_kept;
      }

-- all that a move needs, in the terms of code
module _ (xs : List RawVal) (st : List ℕ) (top s k n e h known room : ℕ) (v : RowParts) (known_is : known ≡ length st)
    (there : k < known) (inv : IsCut (s ∷ reverse st) top xs) (view : cut s (reverse st) (take top xs) room ≡ v)
    (enough : n ≤ length v.last) (end_is : e ≡ get_or (s ∷ reverse st) k e)
    (start_is : h ≡ get_or (s ∷ reverse st) (k + 1) h) where
  abbrev values : List RawVal
  values = take top xs

  fewer : k < length (reverse st)
  fewer = omega (arith, length-reverse st, known_is, there)

  held : n ≤ length values - s
  held = omega (arith, enough, ap (λ (r : RowParts). length r.last) view, length-drop s values)

  pub end_within : e + n ≤ top
  end_within =
      let low : e ≤ s =
      subst (λ (x : ℕ). x ≤ s) (sym end_is) (further_out k s (reverse st) values e inv.1 (omega (arith, fewer))).0 in
      omega (arith, low, held, inv.1.0, length-take-le top xs inv.0)

  module _ (m : List RawVal) (st' : List ℕ) (new_room : ℕ)
      (m_is : m ≡ paste xs e (drop (top - n) xs) n) (st_is : st' ≡ take (known - k - 1) st) where
    moved_is : take (e + n) m ≡ take e values ++ drop (length values - n) values
    moved_is = moved_row xs (take (e + n) m) top e n inv.0 end_within (ap (take (e + n)) m_is)

    left_is : reverse st' ≡ drop (k + 1) (reverse st)
    left_is =
        let c : known - k - 1 ≡ length st - (k + 1) = omega (arith, known_is) in
        ap reverse st_is ∙ ap (λ l. reverse (take l st)) c ∙ reverse_rest (k + 1) st (omega (arith, known_is, there))

    pub joined_kept : IsCut (h ∷ reverse st') (e + n) m
    joined_kept =
        let i = top - n in
        let long : length m ≡ length xs =
        ap length m_is ∙ length-paste xs e (drop i xs) n (omega (arith, end_within, inv.0))
        (omega (arith, end_within, inv.0, length-drop i xs)) in (
          omega (arith, long, end_within, inv.0),
          joined_starts values (take (e + n) m) s k n h e room new_room
              (reverse st) (reverse st') inv.1 fewer held end_is start_is left_is moved_is,
        )

    pub joined_view : HasJoined k n v (cut h (reverse st') (take (e + n) m) new_room)
    joined_view =
        subst (λ (r : RowParts). HasJoined k n r (cut h (reverse st') (take (e + n) m) new_room)) view
        (joined values (take (e + n) m) s k n h e room new_room (reverse st) (reverse st') inv.1 fewer held end_is
        start_is left_is moved_is)

-- there are as many segments as places
pub length_segments : (hs : List ℕ) (xs : List RawVal) → length (segments hs xs) ≡ length hs
length_segments [] xs = refl
length_segments (h ∷ hs) xs = ap suc (length_segments hs (take h xs))

-- whether there are more than so many
pub deeper : (k n : ℕ) (before : List (List RawVal)) → length before ≡ n →
    MatchBool (nat_lt k n) (drop k before ≡ [] → ⊥) (drop k before ≡ [])
deeper k n before e = by_test (nat_lt k n) refl
  where
    by_test : (b : Bool) → b ≡ nat_lt k n → MatchBool b (drop k before ≡ [] → ⊥) (drop k before ≡ [])
    by_test true t = λ none.
        omega (arith, e, ap length none, length-drop k before, ltb-true k n (sym t))
    by_test false t = drop_all k before (subst (λ m. m ≤ k) (sym e) (ltb-false k n (sym t)))

-- ---- items with room behind them

module _ (xs : List RawVal) (s h : ℕ) where
  -- a part in the middle
  pub part_of : s ≤ h → take (h - s) (drop s xs) ≡ drop s (take h xs)
  part_of low =
      let e : s + (h - s) ≡ h = omega arith in
      sym (drop-take s (h - s) xs) ∙ ap (λ k. drop s (take k xs)) e

  -- all that has room made values
  pub filled : (hs : List ℕ) (top room : ℕ) → top ≡ length xs → AreStarts (s ∷ hs) (take h xs) →
      cut s hs (take top xs) room ≡ row_parts (drop s (take h xs) ++ drop h xs) (segments hs (take s (take h xs))) room
  filled hs top room top_is starts =
      let a = take h xs in
      let both : a ++ drop h xs ≡ xs = take-append-drop h xs in
      ap (λ l. cut s hs l room) (take_all top xs (omega (arith, top_is)) ∙ sym both)
      ∙ ap (λ l. row_parts l (segments hs (take s (a ++ drop h xs))) room) (drop-append-le s a (drop h xs) starts.0)
      ∙ ap (λ l. row_parts (drop s a ++ drop h xs) (segments hs l) room) (take-append-le s a (drop h xs) starts.0)

-- a list over another, of which only the first n items count
over_take : (n : ℕ) (ws xs : List RawVal) →
    take n (ws ++ drop (length ws) xs) ≡ take n (ws ++ drop (length ws) (take n xs))
over_take n [] xs = sym (take-take n n xs (omega arith))
over_take zero (w ∷ ws) xs = refl
over_take (suc n) (w ∷ ws) [] = refl
over_take (suc n) (w ∷ ws) (x ∷ xs) = ap (λ l. w ∷ l) (over_take n ws xs)

-- a part overwritten from the place s on
module _ (xs ws : List RawVal) (len s h : ℕ) (len_is : len ≡ length xs) (low : s ≤ h) (high : h ≤ len) where
  abbrev over : List RawVal
  over = ws ++ drop (length ws) (drop s xs)

  abbrev all : List RawVal
  all = take s xs ++ over

  abbrev written : List RawVal
  written = take len (all ++ drop (length all) xs)

  front_long : length (take s xs) ≡ s
  front_long = length-take-le s xs (omega (arith, len_is))

  kept_long : h ≤ length all
  kept_long =
      omega (
        arith,
        front_long,
        length-append (take s xs) over,
        length-append ws (drop (length ws) (drop s xs)),
        length-drop (length ws) (drop s xs),
        length-drop s xs,
        len_is,
      )

  top_is : take h written ≡ take h all
  top_is =
      take-take h len (all ++ drop (length all) xs) high ∙ take-append-le h all (drop (length all) xs) kept_long

  pub written_front : take s (take h written) ≡ take s (take h xs)
  written_front =
      ap (take s) top_is ∙ take-take s h all low
      ∙ ap (λ k. take k all) (sym front_long) ∙ take-append_seam (take s xs) over ∙ sym (take-take s h xs low)

  pub written_part : drop s (take h written) ≡ take (h - s) over
  written_part =
      ap (drop s) top_is ∙ sym (part_of all s h low)
      ∙ ap (λ k. take (h - s) (drop k all)) (sym front_long) ∙ ap (take (h - s)) (drop-append_seam (take s xs) over)

  -- what a borrower of the last segment leaves
  pub lent_row : (hs : List ℕ) (room : ℕ) →
      cut s hs (take h written) room ≡ row_parts (left_over (drop s (take h xs)) ws) (segments hs (take s (take h xs))) room
  lent_row hs room =
      let last = drop s (take h xs) in
      let long : length last ≡ h - s =
      omega (arith, length-drop s (take h xs), length-take-le h xs (omega (arith, len_is))) in
      let part : take (h - s) over ≡ left_over last ws =
      over_take (h - s) ws (drop s xs) ∙ ap (λ l. take (h - s) (ws ++ drop (length ws) l)) (part_of xs s h low)
      ∙ ap (λ k. take k (ws ++ drop (length ws) last)) (sym long) in
      ap (λ l. row_parts l (segments hs (take s (take h written))) room) (written_part ∙ part)
      ∙ ap (λ l. row_parts (left_over last ws) (segments hs l) room) written_front

-- a part written over the items from the place s on
pub pasted_part : (xs ws : List RawVal) (s : ℕ) → s + length ws ≤ length xs →
    drop s (take (s + length ws) (paste xs s ws (length ws))) ≡ ws
pasted_part xs ws s fits =
    let within : s ≤ length xs = omega (arith, fits) in
    let front : length (take s xs) ≡ s = length-take-le s xs within in
    ap (drop s) (take-paste xs s ws (length ws) within (omega arith))
    ∙ ap (λ k. drop k (take s xs ++ take (length ws) ws)) (sym front)
    ∙ drop-append_seam (take s xs) (take (length ws) ws) ∙ take_all (length ws) ws (omega arith)
