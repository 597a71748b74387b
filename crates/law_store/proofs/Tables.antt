-- What the calls on tables keep.
use Rattle.std.proofs.Common.{◌≡◌, ◌⊎◌, ℕ, ◌+◌, ◌≤◌, Bool, true, false, ◌&&◌, ltb, List, [], ◌∷◌, length, set, drop, replicate, slice_get, Option, Some, None, Result, Ok, Err, ok_or, if◌then◌else◌, refl, sym, ap, ◌∙◌, subst, inl, inr, arith, length-append, length-set}
use Rattle.std.proofs.lemmas.List.{length-replicate, length-take, length-drop}
use Rattle.std.proofs.lemmas.Bool.{leb-true}
use Rattle.std.specs.Bool.{⊤}
use Rattle.wasm_types.specs.Each.{Each}
use Rattle.wasm_types.specs.SoundTypes.{IsRefSound}
use Rattle.wasm_types.specs.EqualityLaws.{both}
use Rattle.wasm_types.specs.FunctionParts.{ref_is_of}
use Rattle.wasm_types.specs.Matching.{ref_matches}
use Rattle.wasm_types.specs.MemoryTypes.{within_maximum}
use Rattle.wasm_types.specs.Ranges.{is_range, range_of, with_range}
use Rattle.wasm_types.specs.TableTypes.{TableParts, are_table_limits}
use Rattle.wasm_types.specs.declared.value_types.RefType.{RefType}
use Rattle.wasm_types.proofs.MatchingLemmas.{no}
use Rattle.wasm_values.specs.Handles.{table_of, table_store, table_index}
use Rattle.wasm_values.specs.declared.handles.Table.{Table as Handle}
use Rattle.wasm_values.specs.declared.references.Ref.{Ref}
use Rattle.wasm_values.specs.declared.refusals.Refusal.{Refusal}
use Rattle.wasm_values.specs.declared.refusals.Refusal.TheVariants.{WrongStore, WrongEngine, TypeMismatch, Trap}
use Rattle.wasm_values.specs.declared.refusals.Trap.TheVariants.{TableOutOfBounds}
use Rattle.wasm_objects.specs.Growth.{longer_table}
use Rattle.wasm_objects.specs.Tables.{Table, table, new_table}
use Rattle.wasm_objects.specs.declared.raw.RawRef.{RawRef}
use Rattle.spec_machine.specs.Changes.{append_tables}
use Rattle.spec_machine.specs.Growth.{Plan, plan, table_range, table_growing}
use Rattle.spec_machine.specs.Machine.{Machine}
use Rattle.spec_machine.specs.Steps.{◌>>=◌, unless}
use Rattle.spec_machine.specs.TableCalls.{with_table, with_elements, owns_given, given_fits, raw_given, table_new, table_set, table_fill, table_grow, table_copy}
use Rattle.spec_machine.specs.Values.{is_id, raw_ref_fits}
use Rattle.spec_machine.specs.WellFormed.{is_raw_ref, IsTable, IsWellFormed}
use Rattle.law_store.specs.Granted.{IsGranted}
use Rattle.law_store.specs.Later.{IsLaterTable, Extends}
use Rattle.law_store.proofs.Changes.{extends_set_table, extends_append_tables, keeps_set_table, keeps_append_tables}
use Rattle.law_store.proofs.FitLemmas.{raw_ref_fits_along}
use Rattle.law_store.proofs.GrowthLemmas.{MayGrow, may_grow}
use Rattle.law_store.proofs.Lists.{each_by, each_one, each_append, each_set, each_replicate, each_range, each_with_range}
use Rattle.law_store.proofs.Memories.{length_with_range}
use Rattle.law_store.proofs.Places.{raw_ref_there, raw_ref_set_fits}
use Rattle.law_store.proofs.RefusalLemmas.{Passed, passed, given_is}

-- what is given as an element is there, and fits
pub given_there : (m : Machine) (val : Option Ref) → owns_given m val ≡ true → is_raw_ref m (raw_given val) ≡ true
given_there m None o = refl
given_there m (Some r) o = raw_ref_there m r o

pub given_set_fits : (m : Machine) (val : Option Ref) (ty : RefType) → owns_given m val ≡ true →
    given_fits m val ty ≡ true → raw_ref_fits m (raw_given val) ty ≡ true
given_set_fits m None ty o p = no p
given_set_fits m (Some r) ty o p = raw_ref_set_fits m r ty o p

-- elements that are there, and fit
record AreElements (m : Machine) (ty : RefType) (elements : List RawRef) : Type 0 where
  there : Each elements (λ r. is_raw_ref m r ≡ true)
  fits : Each elements (λ r. raw_ref_fits m r ty ≡ true)

-- a table of a well-formed one's type, with other elements, as many
other_elements : (m : Machine) (x : Table) (elements : List RawRef) → IsTable m x →
    length elements ≡ length x.elements → AreElements m x.ty.element elements → IsTable m (table x.ty elements)
other_elements m x elements h same e = record {
  limits = h.limits;
  of_engine = h.of_engine;
  sound = h.sound;
  least = subst (λ n. x.ty.minimum ≤ n) (sym same) h.least;
  most = ap (λ n. within_maximum n x.ty.maximum) same ∙ h.most;
  in_range = subst (λ n. n ≤ table_range) (sym same) h.in_range;
  there = e.there;
  fits = e.fits;
}

later_elements : (x : Table) (elements : List RawRef) → length elements ≡ length x.elements →
    IsLaterTable x (table x.ty elements)
later_elements x elements same = record { ty = refl; size = omega (arith, same) }

-- what a setting has tested and done
abbrev pub TableSet : Machine → Handle → ℕ → Option Ref → Machine → Type 0
TableSet m h at val after =
    Passed (is_id (table_store h) m.id) (slice_get m.tables (table_index h)) (λ (x : Table). owns_given m val)
    (λ x. given_fits m val x.ty.element) (λ x. ltb at (length x.elements))
    (λ x. with_elements m h x (set x.elements at (raw_given val))) after

pub table_set_passed : (m after : Machine) (h : Handle) (at : ℕ) (val : Option Ref) →
    table_set m h at val ≡ Ok after → TableSet m h at val after
table_set_passed m after h at val e =
    passed after WrongStore WrongStore TypeMismatch (Trap TableOutOfBounds) (is_id (table_store h) m.id)
    (slice_get m.tables (table_index h))
    (λ x. owns_given m val) (λ x. given_fits m val x.ty.element) (λ x. ltb at (length x.elements))
    (λ x. with_elements m h x (set x.elements at (raw_given val))) e

pub extends_table_set : (m after : Machine) (h : Handle) (at : ℕ) (val : Option Ref) →
    table_set m h at val ≡ Ok after → Extends m after
extends_table_set m after h at val e =
    let p : TableSet m h at val after = table_set_passed m after h at val e in
    let xs : List RawRef = set p.object.elements at (raw_given val) in
    subst (Extends m) p.is (extends_set_table m (table_index h) p.object (table p.object.ty xs) p.found
    (later_elements p.object xs (length-set p.object.elements at (raw_given val))))

pub keeps_table_set : (m after : Machine) (h : Handle) (at : ℕ) (val : Option Ref) → IsWellFormed m →
    table_set m h at val ≡ Ok after → IsWellFormed after
keeps_table_set m after h at val w e =
    let p : TableSet m h at val after = table_set_passed m after h at val e in
    let x : Table = p.object in
    let xs : List RawRef = set x.elements at (raw_given val) in
    let was : IsTable m x = w.tables_are (table_index h) x p.found in
    let same : length xs ≡ length x.elements = length-set x.elements at (raw_given val) in
    let are : AreElements m x.ty.element xs = record {
      there = each_set (λ r. is_raw_ref m r ≡ true) x.elements at (raw_given val) was.there (given_there m val p.one);
      fits = each_set (λ r. raw_ref_fits m r x.ty.element ≡ true) x.elements at (raw_given val) was.fits
          (given_set_fits m val x.ty.element p.one p.two);
    } in
    subst IsWellFormed p.is (keeps_set_table m w (table_index h) x (table x.ty xs) p.found (later_elements x xs same)
    (other_elements m x xs was same are))

-- what a filling has tested and done
abbrev pub TableFill : Machine → Handle → ℕ → Option Ref → ℕ → Machine → Type 0
TableFill m h at val len after =
    Passed (is_id (table_store h) m.id) (slice_get m.tables (table_index h)) (λ (x : Table). owns_given m val)
    (λ x. given_fits m val x.ty.element) (λ x. is_range at len x.elements)
    (λ x. with_elements m h x (with_range at (replicate len (raw_given val)) x.elements)) after

pub table_fill_passed : (m after : Machine) (h : Handle) (at : ℕ) (val : Option Ref) (len : ℕ) →
    table_fill m h at val len ≡ Ok after → TableFill m h at val len after
table_fill_passed m after h at val len e =
    passed after WrongStore WrongStore TypeMismatch (Trap TableOutOfBounds) (is_id (table_store h) m.id)
    (slice_get m.tables (table_index h))
    (λ x. owns_given m val) (λ x. given_fits m val x.ty.element) (λ x. is_range at len x.elements)
    (λ x. with_elements m h x (with_range at (replicate len (raw_given val)) x.elements)) e

-- a range of so many items is as long
filled_length : {A : Type 0} (at len : ℕ) (piece xs : List A) → length piece ≡ len → is_range at len xs ≡ true →
    length (with_range at piece xs) ≡ length xs
filled_length at len piece xs same h = length_with_range at piece xs (ap (λ n. is_range at n xs) same ∙ h)

pub extends_table_fill : (m after : Machine) (h : Handle) (at : ℕ) (val : Option Ref) (len : ℕ) →
    table_fill m h at val len ≡ Ok after → Extends m after
extends_table_fill m after h at val len e =
    let p : TableFill m h at val len after = table_fill_passed m after h at val len e in
    let piece : List RawRef = replicate len (raw_given val) in
    let xs : List RawRef = with_range at piece p.object.elements in
    let same : length xs ≡ length p.object.elements =
    filled_length at len piece p.object.elements (length-replicate len (raw_given val)) p.three in
    subst (Extends m) p.is (extends_set_table m (table_index h) p.object (table p.object.ty xs) p.found (later_elements p.object xs same))

pub keeps_table_fill : (m after : Machine) (h : Handle) (at : ℕ) (val : Option Ref) (len : ℕ) → IsWellFormed m →
    table_fill m h at val len ≡ Ok after → IsWellFormed after
keeps_table_fill m after h at val len w e =
    let p : TableFill m h at val len after = table_fill_passed m after h at val len e in
    let x : Table = p.object in
    let piece : List RawRef = replicate len (raw_given val) in
    let xs : List RawRef = with_range at piece x.elements in
    let same : length xs ≡ length x.elements =
    filled_length at len piece x.elements (length-replicate len (raw_given val)) p.three in
    let was : IsTable m x = w.tables_are (table_index h) x p.found in
    let there : (r : RawRef) → Type 0 = λ r. is_raw_ref m r ≡ true in
    let fits : (r : RawRef) → Type 0 = λ r. raw_ref_fits m r x.ty.element ≡ true in
    let are : AreElements m x.ty.element xs = record {
      there = each_with_range there at piece x.elements
          (each_replicate there len (raw_given val) (given_there m val p.one)) was.there;
      fits = each_with_range fits at piece x.elements
          (each_replicate fits len (raw_given val) (given_set_fits m val x.ty.element p.one p.two)) was.fits;
    } in
    subst IsWellFormed p.is (keeps_set_table m w (table_index h) x (table x.ty xs) p.found (later_elements x xs same)
    (other_elements m x xs was same are))

-- what a copying has tested and done
pub record TableCopy (m : Machine) (dst : Handle) (dst_at : ℕ) (src : Handle) (src_at len : ℕ)
    (after : Machine) : Type 0 where
  pub to : Table
  pub from : Table
  pub to_here : is_id (table_store dst) m.id ≡ true
  pub from_here : is_id (table_store src) m.id ≡ true
  pub to_found : slice_get m.tables (table_index dst) ≡ Some to
  pub from_found : slice_get m.tables (table_index src) ≡ Some from
  pub to_range : is_range dst_at len to.elements ≡ true
  pub from_range : is_range src_at len from.elements ≡ true
  pub matches : ref_matches from.ty.element to.ty.element ≡ true
  pub is : with_elements m dst to (with_range dst_at (range_of src_at len from.elements) to.elements) ≡ after

module _ (m : Machine) (dst : Handle) (dst_at : ℕ) (src : Handle) (src_at len : ℕ) (after : Machine) where
  copy_tested : (d s : Table) (b c : Bool) → is_id (table_store dst) m.id ≡ true →
      is_id (table_store src) m.id ≡ true → slice_get m.tables (table_index dst) ≡ Some d →
      slice_get m.tables (table_index src) ≡ Some s →
      (is_range dst_at len d.elements && is_range src_at len s.elements) ≡ b →
      ref_matches s.ty.element d.ty.element ≡ c →
      ◌≡◌ {A = Result Machine Refusal}
      (unless (Trap TableOutOfBounds) b >>=
      (λ _. unless TypeMismatch c >>=
      (λ _. Ok (with_elements m dst d (with_range dst_at (range_of src_at len s.elements) d.elements)))))
      (Ok after) →
      TableCopy m dst dst_at src src_at len after
  copy_tested d s true true o o' p q r t e =
      record {
        to = d;
        from = s;
        to_here = o;
        from_here = o';
        to_found = p;
        from_found = q;
        to_range = (both _ _ r).0;
        from_range = (both _ _ r).1;
        matches = t;
        is = given_is _ after e;
      }
  copy_tested d s true false o o' p q r t e = absurd cc
  copy_tested d s false c o o' p q r t e = absurd cc

  copy_found : (own own' : Bool) (o o' : Option Table) → is_id (table_store dst) m.id ≡ own →
      is_id (table_store src) m.id ≡ own' → slice_get m.tables (table_index dst) ≡ o →
      slice_get m.tables (table_index src) ≡ o' →
      ◌≡◌ {A = Result Machine Refusal}
      ((if own then ok_or o WrongStore else Err WrongStore) >>=
      (λ d. (if own' then ok_or o' WrongStore else Err WrongStore) >>= (λ s.
      unless (Trap TableOutOfBounds) (is_range dst_at len d.elements && is_range src_at len s.elements) >>=
      (λ _. unless TypeMismatch (ref_matches s.ty.element d.ty.element) >>= (λ _.
      Ok (with_elements m dst d (with_range dst_at (range_of src_at len s.elements) d.elements))))))) (Ok after) →
      TableCopy m dst dst_at src src_at len after
  copy_found true true (Some d) (Some s) a b p q e =
      copy_tested d s (is_range dst_at len d.elements && is_range src_at len s.elements)
      (ref_matches s.ty.element d.ty.element) a b p q refl refl e
  copy_found true true (Some d) None a b p q e = absurd cc
  copy_found true false (Some d) o' a b p q e = absurd cc
  copy_found true own' None o' a b p q e = absurd cc
  copy_found false own' o o' a b p q e = absurd cc

  pub table_copy_passed : table_copy m dst dst_at src src_at len ≡ Ok after →
      TableCopy m dst dst_at src src_at len after
  table_copy_passed e =
      copy_found (is_id (table_store dst) m.id) (is_id (table_store src) m.id) (slice_get m.tables (table_index dst))
      (slice_get m.tables (table_index src)) refl refl refl refl e

-- a range that is there is as long as was asked
pub length_range_of : {A : Type 0} (at len : ℕ) (xs : List A) → is_range at len xs ≡ true →
    length (range_of at len xs) ≡ len
length_range_of at len xs h =
    let fits : at + len ≤ length xs = leb-true _ _ h in length-take len (drop at xs)
    ∙ omega (arith, fits, length-drop at xs)

module _ (m after : Machine) (dst : Handle) (dst_at : ℕ) (src : Handle) (src_at len : ℕ) where
  copied_length : (p : TableCopy m dst dst_at src src_at len after) →
      length (with_range dst_at (range_of src_at len p.from.elements) p.to.elements) ≡ length p.to.elements
  copied_length p = filled_length dst_at len (range_of src_at len p.from.elements) p.to.elements
      (length_range_of src_at len p.from.elements p.from_range) p.to_range

  pub extends_table_copy : table_copy m dst dst_at src src_at len ≡ Ok after → Extends m after
  extends_table_copy e =
      let p : TableCopy m dst dst_at src src_at len after = table_copy_passed m dst dst_at src src_at len after e in
      let xs : List RawRef = with_range dst_at (range_of src_at len p.from.elements) p.to.elements in
      subst (Extends m) p.is (extends_set_table m (table_index dst) p.to (table p.to.ty xs) p.to_found
      (later_elements p.to xs (copied_length p)))

  pub keeps_table_copy : IsWellFormed m → table_copy m dst dst_at src src_at len ≡ Ok after → IsWellFormed after
  keeps_table_copy w e =
      let p : TableCopy m dst dst_at src src_at len after = table_copy_passed m dst dst_at src src_at len after e in
      let d : Table = p.to in
      let s : Table = p.from in
      let piece : List RawRef = range_of src_at len s.elements in
      let xs : List RawRef = with_range dst_at piece d.elements in
      let was : IsTable m d = w.tables_are (table_index dst) d p.to_found in
      let other : IsTable m s = w.tables_are (table_index src) s p.from_found in
      let there : (r : RawRef) → Type 0 = λ r. is_raw_ref m r ≡ true in
      let fit : (r : RawRef) → Type 0 = λ r. raw_ref_fits m r s.ty.element ≡ true in
      let fits : (r : RawRef) → Type 0 = λ r. raw_ref_fits m r d.ty.element ≡ true in
      let along : (r : RawRef) → fit r → fits r = λ r h. raw_ref_fits_along m r s.ty.element d.ty.element h p.matches in
      let are : AreElements m d.ty.element xs = record {
        there = each_with_range there dst_at piece d.elements
            (each_range there src_at len s.elements other.there) was.there;
        fits = each_with_range fits dst_at piece d.elements
            (each_by fit fits piece along (each_range fit src_at len s.elements other.fits)) was.fits;
      } in
      subst IsWellFormed p.is (keeps_set_table m w (table_index dst) d (table d.ty xs) p.to_found (later_elements d xs (copied_length p))
      (other_elements m d xs was (copied_length p) are))

-- what a making has tested and plans
abbrev pub TableNew : Machine → TableParts → Option Ref → Plan Handle → Type 0
TableNew m ty init p =
    Passed true (Some tt) (λ (x : ⊤). owns_given m init) (λ x. ref_is_of m.engine.number ty.element)
    (λ x. given_fits m init ty.element)
    (λ x. plan table_range (table_growing ty 0 ty.minimum)
    (append_tables m (new_table ty (raw_given init) ∷ [])) (table_of m.id (length m.tables))) p

pub table_new_passed : (m : Machine) (ty : TableParts) (init : Option Ref) (p : Plan Handle) →
    table_new m ty init ≡ Ok p → TableNew m ty init p
table_new_passed m ty init p e =
    passed p WrongStore WrongStore WrongEngine TypeMismatch true (Some tt)
    (λ x. owns_given m init) (λ x. ref_is_of m.engine.number ty.element) (λ x. given_fits m init ty.element)
    (λ x. plan table_range (table_growing ty 0 ty.minimum)
    (append_tables m (new_table ty (raw_given init) ∷ [])) (table_of m.id (length m.tables))) e

pub extends_table_new : (m : Machine) (ty : TableParts) (init : Option Ref) (p : Plan Handle) →
    table_new m ty init ≡ Ok p → Extends m p.after
extends_table_new m ty init p e =
    let q : TableNew m ty init p = table_new_passed m ty init p e in
    subst (λ (r : Plan Handle). Extends m r.after) q.is
    (extends_append_tables m (new_table ty (raw_given init) ∷ []))

-- so many elements more: none, or within the range and the maximum
abbrev Room : (n delta : ℕ) → Option ℕ → Type 0
Room n delta most = (n ≡ n + delta) ⊎ ((n + delta ≤ table_range) × (within_maximum (n + delta) most ≡ true))

room_fits : (n delta : ℕ) (most : Option ℕ) → n ≤ table_range → Room n delta most → n + delta ≤ table_range
room_fits n delta most old (inl e) = subst (λ k. k ≤ table_range) e old
room_fits n delta most old (inr e) = e.0

room_most : (n delta : ℕ) (most : Option ℕ) → within_maximum n most ≡ true → Room n delta most →
    within_maximum (n + delta) most ≡ true
room_most n delta most old (inl e) = subst (λ k. within_maximum k most ≡ true) e old
room_most n delta most old (inr e) = e.1

pub keeps_table_new : (m : Machine) (ty : TableParts) (init : Option Ref) (p : Plan Handle) → IsWellFormed m →
    are_table_limits ty ≡ true → IsRefSound ty.element →
    table_new m ty init ≡ Ok p → IsGranted m p → IsWellFormed p.after
keeps_table_new m ty init p w limits sound e g =
    let q : TableNew m ty init p = table_new_passed m ty init p e in
    let y : Table = new_table ty (raw_given init) in
    let may : Room 0 ty.minimum ty.maximum = subst MayGrow (sym q.is) (may_grow m p g) in
    let size : 0 + ty.minimum ≡ length y.elements = omega (arith, length-replicate ty.minimum (raw_given init)) in
    let now : IsTable m y = record {
      limits = limits;
      of_engine = q.two;
      sound = sound;
      least = omega (arith, size);
      most = ap (λ n. within_maximum n ty.maximum) (length-replicate ty.minimum (raw_given init)) ∙ limits;
      in_range = subst (λ n. n ≤ table_range) size (room_fits 0 ty.minimum ty.maximum (omega arith) may);
      there = each_replicate (λ r. is_raw_ref m r ≡ true) ty.minimum (raw_given init) (given_there m init q.one);
      fits = each_replicate (λ r. raw_ref_fits m r ty.element ≡ true) ty.minimum (raw_given init)
          (given_set_fits m init ty.element q.one q.three);
    } in
    subst (λ (r : Plan Handle). IsWellFormed r.after) q.is
    (keeps_append_tables m w (y ∷ []) (each_one (IsTable m) y now))

-- what a growing has tested and plans
abbrev pub TableGrow : Machine → Handle → ℕ → Option Ref → Plan ℕ → Type 0
TableGrow m h delta init p =
    Passed (is_id (table_store h) m.id) (slice_get m.tables (table_index h)) (λ (x : Table). owns_given m init)
    (λ x. given_fits m init x.ty.element) (λ x. true)
    (λ x. plan table_range (table_growing x.ty (length x.elements) delta)
    (with_table m h (longer_table x delta (raw_given init))) (length x.elements)) p

pub table_grow_passed : (m : Machine) (h : Handle) (delta : ℕ) (init : Option Ref) (p : Plan ℕ) →
    table_grow m h delta init ≡ Ok p → TableGrow m h delta init p
table_grow_passed m h delta init p e =
    passed p WrongStore WrongStore TypeMismatch WrongStore (is_id (table_store h) m.id)
    (slice_get m.tables (table_index h))
    (λ x. owns_given m init) (λ x. given_fits m init x.ty.element) (λ x. true)
    (λ x. plan table_range (table_growing x.ty (length x.elements) delta)
    (with_table m h (longer_table x delta (raw_given init))) (length x.elements)) e

pub longer_length : (x : Table) (delta : ℕ) (r : RawRef) →
    length (longer_table x delta r).elements ≡ length x.elements + delta
longer_length x delta r = length-append x.elements (replicate delta r)
    ∙ ap (λ n. length x.elements + n) (length-replicate delta r)

later_longer : (x : Table) (delta : ℕ) (r : RawRef) → IsLaterTable x (longer_table x delta r)
later_longer x delta r = record { ty = refl; size = omega (arith, longer_length x delta r) }

pub extends_table_grow : (m : Machine) (h : Handle) (delta : ℕ) (init : Option Ref) (p : Plan ℕ) →
    table_grow m h delta init ≡ Ok p → Extends m p.after
extends_table_grow m h delta init p e =
    let q : TableGrow m h delta init p = table_grow_passed m h delta init p e in
    subst (λ (r : Plan ℕ). Extends m r.after) q.is
    (extends_set_table m (table_index h) q.object (longer_table q.object delta (raw_given init)) q.found
    (later_longer q.object delta (raw_given init)))

pub keeps_table_grow : (m : Machine) (h : Handle) (delta : ℕ) (init : Option Ref) (p : Plan ℕ) → IsWellFormed m →
    table_grow m h delta init ≡ Ok p → IsGranted m p → IsWellFormed p.after
keeps_table_grow m h delta init p w e g =
    let q : TableGrow m h delta init p = table_grow_passed m h delta init p e in
    let x : Table = q.object in
    let y : Table = longer_table x delta (raw_given init) in
    let was : IsTable m x = w.tables_are (table_index h) x q.found in
    let may : Room (length x.elements) delta x.ty.maximum = subst MayGrow (sym q.is) (may_grow m p g) in
    let size : length x.elements + delta ≡ length y.elements = sym (longer_length x delta (raw_given init)) in
    let there : (r : RawRef) → Type 0 = λ r. is_raw_ref m r ≡ true in
    let fits : (r : RawRef) → Type 0 = λ r. raw_ref_fits m r x.ty.element ≡ true in
    let now : IsTable m y = record {
      limits = was.limits;
      of_engine = was.of_engine;
      sound = was.sound;
      least = omega (arith, size, was.least);
      most = subst (λ n. within_maximum n x.ty.maximum ≡ true) size
          (room_most (length x.elements) delta x.ty.maximum was.most may);
      in_range = subst (λ n. n ≤ table_range) size (room_fits (length x.elements) delta x.ty.maximum was.in_range may);
      there = each_append there x.elements (replicate delta (raw_given init)) was.there
          (each_replicate there delta (raw_given init) (given_there m init q.one));
      fits = each_append fits x.elements (replicate delta (raw_given init)) was.fits
          (each_replicate fits delta (raw_given init) (given_set_fits m init x.ty.element q.one q.two));
    } in
    subst (λ (r : Plan ℕ). IsWellFormed r.after) q.is
    (keeps_set_table m w (table_index h) x y q.found (later_longer x delta (raw_given init)) now)
