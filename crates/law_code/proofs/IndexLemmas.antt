-- What the typing of code finds under an index, the instance has in the store.
use Rattle.std.proofs.Common.{◌≡◌, ℕ, zero, suc, true, false, List, [], ◌∷◌, length, map, slice_get, Option, Some, None, refl, sym, ap, ◌∙◌, subst}
use Rattle.std.proofs.lemmas.Option.{same_Some, none-some, option_and_then_some, slice_get_within}
use Rattle.std.proofs.lemmas.Bool.{lt-ltb, and_from}
use Rattle.std.specs.Option.{option_flatten}
use Rattle.wasm_types.specs.EqualityLaws.{both}
use Rattle.wasm_types.specs.ExternTypes.{content_fits, global_fits}
use Rattle.wasm_types.specs.FunctionParts.{ref_type}
use Rattle.wasm_types.specs.GlobalTypes.{GlobalParts}
use Rattle.wasm_types.specs.Matching.{matches, ref_matches}
use Rattle.wasm_types.specs.Memories.{Memory}
use Rattle.wasm_types.specs.MemoryTypes.{MemoryParts}
use Rattle.wasm_types.specs.Signatures.{Signature}
use Rattle.wasm_types.specs.TableTypes.{TableParts}
use Rattle.wasm_types.proofs.EqualityLemmas.{same_ref_exact, same_val_exact}
use Rattle.wasm_types.proofs.MatchingLemmas.{no}
use Rattle.wasm_types.specs.declared.plain.Mutability.{Mutability}
use Rattle.wasm_types.specs.declared.plain.Mutability.TheVariants.{Const, Var}
use Rattle.wasm_types.specs.declared.value_types.HeapType.TheVariants as h
use Rattle.wasm_types.specs.declared.value_types.RefType.{RefType}
use Rattle.wasm_types.specs.declared.value_types.ValType.{ValType}
use Rattle.wasm_syntax.specs.Constants.{function_ref}
use Rattle.wasm_syntax.specs.Contexts as context
use Rattle.wasm_syntax.specs.Typing.{is_variable}
use Rattle.wasm_syntax.specs.declared.segments.DataDecl.{DataDecl}
use Rattle.wasm_syntax.specs.declared.segments.ElemDecl.{ElemDecl}
use Rattle.wasm_objects.specs.Globals.{Global}
use Rattle.wasm_objects.specs.Tables.{Table}
use Rattle.wasm_objects.specs.declared.raw.RawRef.{RawRef}
use Rattle.wasm_objects.specs.declared.raw.RawRef.TheVariants as r
use Rattle.wasm_objects.specs.declared.raw.RawVal.{RawVal}
use Rattle.wasm_objects.specs.declared.raw.RawVal.TheVariants as w
use Rattle.spec_machine.specs.Machine.{Machine, InstanceParts}
use Rattle.spec_machine.specs.Values.{concrete, type_of_function, function_type}
use Rattle.spec_machine.specs.WellFormed.{is_raw_ref, IsGlobal, IsInstance, IsSegment, HasFunction, HasTable, HasMemory, HasGlobal, IsWellFormed}
use Rattle.law_store.specs.Later.{Extends}
use Rattle.law_store.proofs.FitLemmas.{function_type_stays}
use Rattle.law_code.specs.Typed.{HasType}
use Rattle.law_code.proofs.Changes.{AreRefs, elements_are}
use Rattle.law_code.proofs.TypedValues.{has_along, has_reference}

-- a list that is as long has a member in each place
pub member : {A B : Type 0} (xs : List A) (ys : List B) (n : ℕ) (x : A) → length ys ≡ length xs →
    slice_get xs n ≡ Some x → (y : B) × (slice_get ys n ≡ Some y)
member [] ys n x same e = absurd (none-some x e)
member (a ∷ xs) [] n x same e = absurd cc
member (a ∷ xs) (b ∷ ys) zero x same e = (b, refl)
member (a ∷ xs) (b ∷ ys) (suc n) x same e = member xs ys n x (ap pred same) e
  where
    pred : ℕ → ℕ
    pred zero = zero
    pred (suc k) = k

-- an item that is mapped to this one
pub record Mapped {A B : Type 0} (f : A → B) (xs : List A) (n : ℕ) (b : B) : Type 0 where
  pub item : A
  pub found : slice_get xs n ≡ Some item
  pub is : f item ≡ b

pub map-at : {A B : Type 0} (f : A → B) (xs : List A) (n : ℕ) (b : B) → slice_get (map f xs) n ≡ Some b →
    Mapped f xs n b
map-at f [] n b e = absurd (none-some b e)
map-at f (x ∷ xs) zero b e = record { item = x; found = refl; is = same_Some (f x) b e }
map-at f (x ∷ xs) (suc n) b e = let q : Mapped f xs n b = map-at f xs n b e in
    record { item = q.item; found = q.found; is = q.is }

pub flat : {A : Type 0} (o : Option (Option A)) (a : A) → option_flatten o ≡ Some a → o ≡ Some (Some a)
flat None a e = absurd (none-some a e)
flat (Some None) a e = absurd (none-some a e)
flat (Some (Some b)) a e = ap Some e

-- what an instance has under the index k
pub record NamedTable (m : Machine) (i : InstanceParts) (k : ℕ) (ty : TableParts) : Type 0 where
  pub number : ℕ
  pub named : slice_get i.tables k ≡ Some number
  pub object : Table
  pub found : slice_get m.tables number ≡ Some object
  pub same : object.ty.element ≡ ty.element
  pub are : AreRefs m ty.element object.elements

pub record NamedMemory (m : Machine) (i : InstanceParts) (k : ℕ) : Type 0 where
  pub number : ℕ
  pub named : slice_get i.memories k ≡ Some number
  pub object : Memory
  pub found : slice_get m.memories number ≡ Some object

pub record NamedGlobal (m : Machine) (i : InstanceParts) (k : ℕ) (ty : GlobalParts) : Type 0 where
  pub number : ℕ
  pub named : slice_get i.globals k ≡ Some number
  pub object : Global
  pub found : slice_get m.globals number ≡ Some object
  pub fits : global_fits ty object.ty ≡ true
  pub has : HasType m ty.content object.value

pub record NamedFunction (m : Machine) (i : InstanceParts) (k : ℕ) (ty : Signature) : Type 0 where
  pub number : ℕ
  pub named : slice_get i.functions k ≡ Some number
  pub own : Signature
  pub found : function_type m number ≡ Some own
  pub fits : matches own ty ≡ true

pub record NamedElements (m : Machine) (i : InstanceParts) (k : ℕ) (ty : RefType) : Type 0 where
  pub items : List RawRef
  pub named : slice_get i.elements k ≡ Some items
  pub are : AreRefs m ty items

-- what a declared global holds: by its mutability and the actual one's
pub read_global : (m : Machine) (declared actual : Mutability) (a b : ValType) (v : RawVal) →
    content_fits declared actual a b ≡ true → HasType m b v → HasType m a v
read_global m Const Const a b v p h = has_along m v b a h p
read_global m Var Var a b v p h = subst (λ ty. HasType m ty v) (sym ((same_val_exact a b).0 p)) h
read_global m Const Var a b v p h = no p
read_global m Var Const a b v p h = no p

pub set_value : (m : Machine) (declared actual : Mutability) (a b : ValType) (v : RawVal) →
    content_fits declared actual a b ≡ true → is_variable declared ≡ true → HasType m a v → HasType m b v
set_value m Var Var a b v p q h = subst (λ ty. HasType m ty v) ((same_val_exact a b).0 p) h
set_value m Const actual a b v p q h = no q
set_value m Var Const a b v p q h = no p

-- a global that the typing may set is no constant one
pub set_variable : (declared actual : Mutability) (a b : ValType) → content_fits declared actual a b ≡ true →
    is_variable declared ≡ true → actual ≡ Const → ⊥
set_variable Var Var a b p q e = let x : Var ≡ Const = e in cc
set_variable Const actual a b p q e = no q
set_variable Var Const a b p q e = no p

module _ (m : Machine) (s : IsWellFormed m) (n : ℕ) (i : InstanceParts) (here : slice_get m.instances n ≡ Some i) where
  is : IsInstance m n i
  is = s.instances_are n i here

  pub named_table : (k : ℕ) (ty : TableParts) → slice_get (context.tables i.decl) k ≡ Some ty → NamedTable m i k ty
  named_table k ty e =
      let at : (y : ℕ) × (slice_get i.tables k ≡ Some y) =
      member (context.tables i.decl) i.tables k ty is.tables_fit.as_many e in
      let h : HasTable m ty at.0 = is.tables_fit.each k ty at.0 e at.1 in
      let same : ty.element ≡ h.table.ty.element =
      (same_ref_exact ty.element h.table.ty.element).0 (both _ _ h.fits).0 in
      record {
        number = at.0;
        named = at.1;
        object = h.table;
        found = h.found;
        same = sym same;
        are = subst (λ r. AreRefs m r h.table.elements) (sym same) (elements_are m s at.0 h.table h.found);
      }

  pub named_memory : (k : ℕ) (ty : MemoryParts) → slice_get (context.memories i.decl) k ≡ Some ty → NamedMemory m i k
  named_memory k ty e =
      let at : (y : ℕ) × (slice_get i.memories k ≡ Some y) =
      member (context.memories i.decl) i.memories k ty is.memories_fit.as_many e in
      let h : HasMemory m ty at.0 = is.memories_fit.each k ty at.0 e at.1 in
      record { number = at.0; named = at.1; object = h.memory; found = h.found }

  pub named_global : (k : ℕ) (ty : GlobalParts) → slice_get (context.globals i.decl) k ≡ Some ty → NamedGlobal m i k ty
  named_global k ty e =
      let at : (y : ℕ) × (slice_get i.globals k ≡ Some y) =
      member (context.globals i.decl) i.globals k ty is.globals_fit.as_many e in
      let h : HasGlobal m ty at.0 = is.globals_fit.each k ty at.0 e at.1 in
      let g : IsGlobal m h.global = s.globals_are at.0 h.global h.found in
      record {
        number = at.0;
        named = at.1;
        object = h.global;
        found = h.found;
        fits = h.fits;
        has = read_global m ty.mutability h.global.ty.mutability ty.content h.global.ty.content h.global.value h.fits
            (record { there = g.there; fits = g.fits });
      }

  pub named_function : (k : ℕ) (ty : Signature) → context.function_type (context.functions i.decl) k ≡ Some ty →
      NamedFunction m i k ty
  named_function k ty e =
      let f : slice_get (context.functions i.decl) k ≡ Some (Some ty) =
      flat (slice_get (context.functions i.decl) k) ty e in
      let at : (y : ℕ) × (slice_get i.functions k ≡ Some y) =
      member (context.functions i.decl) i.functions k (Some ty) is.functions_fit.as_many f in
      let h : HasFunction m ty at.0 = is.functions_fit.each k (Some ty) at.0 f at.1 ty refl in
      record { number = at.0; named = at.1; own = h.ty; found = h.found; fits = h.fits }

  pub named_elements : (k : ℕ) (ty : RefType) → slice_get (map (λ (e : ElemDecl). e.ty) i.decl.elements) k ≡ Some ty →
      NamedElements m i k ty
  named_elements k ty e =
      let q : Mapped (λ (e : ElemDecl). e.ty) i.decl.elements k ty =
      map-at (λ (e : ElemDecl). e.ty) i.decl.elements k ty e in
      let at : (y : List RawRef) × (slice_get i.elements k ≡ Some y) =
      member i.decl.elements i.elements k q.item is.segments q.found in
      let h : IsSegment m q.item at.0 = is.segments_fit k q.item at.0 q.found at.1 in
      record {
        items = at.0;
        named = at.1;
        are = subst (λ r. AreRefs m r at.0) q.is (record { there = h.there; fits = h.fits });
      }

  pub named_data : (k : ℕ) (d : DataDecl) → slice_get i.decl.datas k ≡ Some d →
      (y : List ℕ) × (slice_get i.datas k ≡ Some y)
  named_data k d e = member i.decl.datas i.datas k d is.datas e

-- a function that has a type is there
pub is_there : (m : Machine) (n : ℕ) (own : Signature) → function_type m n ≡ Some own → is_raw_ref m (r.Func n) ≡ true
is_there m n own found =
    option_and_then_some (type_of_function m) (slice_get m.functions n) own found
    (λ g p q. lt-ltb n (length m.functions) (slice_get_within m.functions n g p))

-- and keeps it in a later store
pub type_later : (m after : Machine) (n : ℕ) (own : Signature) → IsWellFormed m → Extends m after →
    function_type m n ≡ Some own → function_type after n ≡ Some own
type_later m after n own s x found =
    function_type_stays m after x s.functions_are n (is_there m n own found) ∙ found

-- a function whose type matches another is a value of the references to that one
pub has_function : (m : Machine) (n : ℕ) (own ty : Signature) → function_type m n ≡ Some own → matches own ty ≡ true →
    HasType m (function_ref ty) (w.Reference (r.Func n))
has_function m n own ty found fits =
    has_reference m (r.Func n) (ref_type false (h.ConcreteFunc ty)) (is_there m n own found)
    (ap (λ o. ref_matches (ref_type false (concrete o)) (ref_type false (h.ConcreteFunc ty))) found
    ∙ and_from (matches own ty) true fits refl)
