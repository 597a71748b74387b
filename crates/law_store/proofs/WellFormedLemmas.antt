-- What is well formed in a store is so in a later one.
use Rattle.std.proofs.Common.{◌≡◌, ℕ, ◌-◌, ◌/◌, ◌^◌, ◌≤◌, ◌<◌, Bool, true, ◌&&◌, ltb, leb, List, [], ◌∷◌, length, slice_get, Option, Some, refl, sym, ap, ◌∙◌, subst, arith, le_trans, div-mul-le_self}
use Rattle.std.proofs.lemmas.Nat.{le-div, pow_pos}
use Rattle.std.proofs.lemmas.Option.{option_and_then_some, slice_get_within}
use Rattle.std.proofs.lemmas.Bool.{leb-true, le-leb, lt-ltb, and_from}
use Rattle.std.specs.List.{list_all}
use Rattle.wasm_types.specs.Each.{Each}
use Rattle.wasm_types.specs.EqualityLaws.{both}
use Rattle.wasm_types.specs.ExternTypes.{table_fits, memory_fits, global_fits, limits_fit, maximum_fits}
use Rattle.wasm_types.specs.GlobalTypes.{GlobalParts}
use Rattle.wasm_types.specs.Memories.{Memory}
use Rattle.wasm_types.specs.MemoryTypes.{MemoryParts, page_size}
use Rattle.wasm_types.specs.Signatures.{Signature, is_of}
use Rattle.wasm_types.specs.TableTypes.{TableParts}
use Rattle.wasm_types.specs.Equality.{same}
use Rattle.wasm_types.specs.FunctionParts.{ref_is_of, val_is_of}
use Rattle.wasm_types.specs.declared.value_types.RefType.{RefType}
use Rattle.wasm_syntax.specs.declared.declarations.ModuleDecl.{ModuleDecl}
use Rattle.wasm_values.specs.declared.store_id.StoreId.{StoreId}
use Rattle.wasm_syntax.specs.declared.segments.ElemDecl.{ElemDecl}
use Rattle.wasm_values.specs.Handles.{func_store, func_index, global_store, global_index, table_store, table_index, memory_store, memory_index, tag_store, tag_index}
use Rattle.wasm_values.specs.declared.externals.Extern.{Extern}
use Rattle.wasm_values.specs.declared.externals.Extern.TheVariants as x
use Rattle.wasm_objects.specs.Globals.{Global}
use Rattle.wasm_objects.specs.Tables.{Table}
use Rattle.wasm_objects.specs.declared.raw.RawRef.{RawRef}
use Rattle.spec_machine.specs.Growth.{pages}
use Rattle.spec_machine.specs.Machine.{EngineParts, are_engine_limits, Machine, Function, guest, host, InstanceParts, debt, most_debt}
use Rattle.spec_machine.specs.Values.{owns_extern, is_id, type_of_function, raw_ref_fits}
use Rattle.spec_machine.specs.WellFormed.{IsMemory, IsTable, IsGlobal, IsType, IsFunction, is_raw_ref, HasFunction, HasTable, HasMemory, HasGlobal, HasTag, Has, IsSegment, IsInstance, IsWellFormed}
use Rattle.law_store.specs.Later.{There, IsSame, IsLaterMemory, IsLaterTable, IsLaterGlobal, IsLaterInstance, Extends}
use Rattle.law_store.proofs.FitLemmas.{function_type_stays, is_raw_ref_stays, is_raw_val_stays, raw_ref_fits_stays, raw_val_fits_stays}
use Rattle.law_store.proofs.Lists.{later_place}

-- a present size that fits does so when it is greater
limits_fit_more : (minimum : ℕ) (maximum actual : Option ℕ) (a b : ℕ) → a ≤ b →
    limits_fit minimum maximum actual a ≡ true → limits_fit minimum maximum actual b ≡ true
limits_fit_more minimum maximum actual a b more p =
    let q : (leb minimum a ≡ true) × (maximum_fits maximum actual ≡ true) = both _ _ p in
    and_from _ _ (le-leb minimum b (omega (arith, leb-true minimum a q.0))) q.1

table_fits_more : (declared actual : TableParts) (a b : ℕ) → a ≤ b → table_fits declared actual a ≡ true →
    table_fits declared actual b ≡ true
table_fits_more declared actual a b more p =
    and_from _ _ (both _ _ p).0 (limits_fit_more declared.minimum declared.maximum actual.maximum a b more
    (both _ _ p).1)

memory_fits_more : (declared actual : MemoryParts) (a b : ℕ) → a ≤ b → memory_fits declared actual a ≡ true →
    memory_fits declared actual b ≡ true
memory_fits_more declared actual a b more p =
    and_from _ _ (both _ _ p).0 (limits_fit_more declared.minimum declared.maximum actual.maximum a b more
    (both _ _ p).1)

more_parts : (a b k : ℕ) → 0 < k → a ≤ b → a / k ≤ b / k
more_parts a b k p l = le-div (a / k) b k p (le_trans (div-mul-le_self a k) l)

pub pages_more : (x y : Memory) → IsLaterMemory x y → pages x ≤ pages y
pages_more x y h =
    subst (λ ty. pages x ≤ length y.bytes / page_size ty) (sym h.ty)
    (more_parts (length x.bytes) (length y.bytes) (page_size x.ty) (pow_pos x.ty.page_size_log2) h.size)

-- a handle of a store
is_own : (a b : StoreId) (id : StoreId) (i n k : ℕ) → b ≡ a → (ltb i n ≡ true → ltb i k ≡ true) →
    (is_id id a && ltb i n) ≡ true → (is_id id b && ltb i k) ≡ true
is_own a b id i n k same more p =
    let q : (is_id id a ≡ true) × (ltb i n ≡ true) = both _ _ p in
    and_from _ _ (ap (is_id id) same ∙ q.0) (more q.1)

all_by : {A : Type 0} (f g : A → Bool) → ((a : A) → f a ≡ true → g a ≡ true) → (xs : List A) → list_all f xs ≡ true →
    list_all g xs ≡ true
all_by f g h [] p = refl
all_by f g h (x ∷ xs) p = and_from _ _ (h x (both _ _ p).0) (all_by f g h xs (both _ _ p).1)

-- what is declared has its object later, too
has_later : {A : Type 0} (declared : List A) (numbers : List ℕ) (F G : A → ℕ → Type 0) →
    ((a : A) (n : ℕ) → F a n → G a n) → Has declared numbers F → Has declared numbers G
has_later declared numbers F G f h = record { as_many = h.as_many; each = λ k a n p q. f a n (h.each k a n p q) }

module _ (m after : Machine) (e : Extends m after) where
  pub type_stays : (ty : Signature) → IsType m ty → IsType after ty
  type_stays ty h = record {
    of_engine = ap (λ (g : EngineParts). is_of g.number ty) e.engine ∙ h.of_engine;
    sound = h.sound;
  }

  pub owns_extern_stays : (o : Extern) → owns_extern m o ≡ true → owns_extern after o ≡ true
  owns_extern_stays (x.Func h) p =
      is_own m.id after.id (func_store h) (func_index h) (length m.functions) (length after.functions) e.id
      (later_place IsSame m.functions after.functions (func_index h) e.functions) p
  owns_extern_stays (x.Global h) p =
      is_own m.id after.id (global_store h) (global_index h) (length m.globals) (length after.globals) e.id
      (later_place IsLaterGlobal m.globals after.globals (global_index h) e.globals) p
  owns_extern_stays (x.Table h) p =
      is_own m.id after.id (table_store h) (table_index h) (length m.tables) (length after.tables) e.id
      (later_place IsLaterTable m.tables after.tables (table_index h) e.tables) p
  owns_extern_stays (x.Memory h) p =
      is_own m.id after.id (memory_store h) (memory_index h) (length m.memories) (length after.memories) e.id
      (later_place IsLaterMemory m.memories after.memories (memory_index h) e.memories) p
  owns_extern_stays (x.Tag h) p =
      is_own m.id after.id (tag_store h) (tag_index h) (length m.tags) (length after.tags) e.id
      (later_place IsSame m.tags after.tags (tag_index h) e.tags) p

  pub function_stays : (f : Function) → IsFunction m f → IsFunction after f
  function_stays (host ty body stored) h =
      record {
        type_is = type_stays ty h.type_is;
        there = all_by (owns_extern m) (owns_extern after) owns_extern_stays stored h.there;
      }
  function_stays (guest instance n) h =
      let t : There after.instances instance (IsLaterInstance h.parts) = e.instances instance h.parts h.found in
      record {
        parts = t.member;
        found = t.found;
        defined = subst (λ (d : ModuleDecl). n < length d.functions) (sym t.says.decl) h.defined;
      }

  module _ (fs : Each m.functions (IsFunction m)) where
    pub refs_there : (items : List RawRef) → Each items (λ r. is_raw_ref m r ≡ true) →
        Each items (λ r. is_raw_ref after r ≡ true)
    refs_there items h n r p = is_raw_ref_stays m after e r (h n r p)

    pub refs_fit : (items : List RawRef) (ty : RefType) → Each items (λ r. is_raw_ref m r ≡ true) →
        Each items (λ r. raw_ref_fits m r ty ≡ true) → Each items (λ r. raw_ref_fits after r ty ≡ true)
    refs_fit items ty h k n r p = raw_ref_fits_stays m after e fs r ty (h n r p) (k n r p)

    pub table_stays : (t : Table) → IsTable m t → IsTable after t
    table_stays t h = record {
      limits = h.limits;
      of_engine = ap (λ (g : EngineParts). ref_is_of g.number t.ty.element) e.engine ∙ h.of_engine;
      sound = h.sound;
      least = h.least;
      most = h.most;
      in_range = h.in_range;
      there = refs_there t.elements h.there;
      fits = refs_fit t.elements t.ty.element h.there h.fits;
    }

    pub global_stays : (g : Global) → IsGlobal m g → IsGlobal after g
    global_stays g h = record {
      of_engine = ap (λ (n : EngineParts). val_is_of n.number g.ty.content) e.engine ∙ h.of_engine;
      sound = h.sound;
      there = is_raw_val_stays m after e g.value h.there;
      fits = raw_val_fits_stays m after e fs g.value g.ty.content h.there h.fits;
    }

    segment_stays : (declared : ElemDecl) (items : List RawRef) → IsSegment m declared items →
        IsSegment after declared items
    segment_stays declared items h =
        record { there = refs_there items h.there; fits = refs_fit items declared.ty h.there h.fits }

    has_function : (declared : Signature) (f : ℕ) → HasFunction m declared f → HasFunction after declared f
    has_function declared f h = record {
      ty = h.ty;
      found =
          function_type_stays m after e fs f
          (option_and_then_some (type_of_function m) (slice_get m.functions f) h.ty h.found
          (λ g p q. lt-ltb f (length m.functions) (slice_get_within m.functions f g p))) ∙ h.found;
      fits = h.fits;
    }

    has_table : (declared : TableParts) (n : ℕ) → HasTable m declared n → HasTable after declared n
    has_table declared n h =
        let t : There after.tables n (IsLaterTable h.table) = e.tables n h.table h.found in
        record {
          table = t.member;
          found = t.found;
          fits = subst (λ ty. table_fits declared ty (length t.member.elements) ≡ true) (sym t.says.ty)
              (table_fits_more declared h.table.ty (length h.table.elements)
              (length t.member.elements) t.says.size h.fits);
        }

    has_memory : (declared : MemoryParts) (n : ℕ) → HasMemory m declared n → HasMemory after declared n
    has_memory declared n h =
        let t : There after.memories n (IsLaterMemory h.memory) = e.memories n h.memory h.found in
        record {
          memory = t.member;
          found = t.found;
          fits = subst (λ ty. memory_fits declared ty (pages t.member) ≡ true) (sym t.says.ty)
              (memory_fits_more declared h.memory.ty (pages h.memory) (pages t.member)
              (pages_more h.memory t.member t.says) h.fits);
        }

    has_global : (declared : GlobalParts) (n : ℕ) → HasGlobal m declared n → HasGlobal after declared n
    has_global declared n h =
        let t : There after.globals n (IsLaterGlobal h.global) = e.globals n h.global h.found in
        record { global = t.member; found = t.found; fits = ap (global_fits declared) t.says.ty ∙ h.fits }

    has_tag : (declared : Signature) (n : ℕ) → HasTag m declared n → HasTag after declared n
    has_tag declared n h =
        let t : There after.tags n (IsSame h.ty) = e.tags n h.ty h.found in
        record { ty = t.member; found = t.found; fits = ap (same declared) t.says ∙ h.fits }

    pub instance_stays : (n : ℕ) (i : InstanceParts) → IsInstance m n i → IsInstance after n i
    instance_stays n i h = record {
      module_is = h.module_is;
      of_engine = h.of_engine ∙ sym (ap (λ (g : EngineParts). g.number) e.engine);
      functions_fit = has_later _ _ _ _ (λ declared f k ty p. has_function ty f (k ty p)) h.functions_fit;
      tables_fit = has_later _ _ _ _ has_table h.tables_fit;
      memories_fit = has_later _ _ _ _ has_memory h.memories_fit;
      globals_fit = has_later _ _ _ _ has_global h.globals_fit;
      tags_fit = has_later _ _ _ _ (λ declared n k ty p. has_tag ty n (k ty p)) h.tags_fit;
      defined = λ k f p. let t : There after.functions f (IsSame (guest n k)) =
          e.functions f (guest n k) (h.defined k f p) in t.found ∙ ap Some t.says;
      segments = h.segments;
      segments_fit = λ k declared items p q. segment_stays declared items (h.segments_fit k declared items p q);
      datas = h.datas;
    }

-- a later store whose members are well formed in the store before is well formed
pub kept : (m after : Machine) → IsWellFormed m → Extends m after →
    Each after.memories IsMemory → Each after.tables (IsTable m) → Each after.globals (IsGlobal m) →
    Each after.tags (IsType m) → Each after.functions (IsFunction m) →
    ((n : ℕ) (i : InstanceParts) → slice_get after.instances n ≡ Some i → IsInstance m n i) →
    after.deadline ≤ 2 ^ 64 - 2 → debt after.fuel ≤ most_debt → IsWellFormed after
kept m after w e memories tables globals tags functions instances deadline owed = record {
  memories_are = memories;
  tables_are = λ n t p. table_stays m after e w.functions_are t (tables n t p);
  globals_are = λ n g p. global_stays m after e w.functions_are g (globals n g p);
  tags_are = λ n ty p. type_stays m after e ty (tags n ty p);
  functions_are = λ n f p. function_stays m after e f (functions n f p);
  instances_are = λ n i p. instance_stays m after e w.functions_are n i (instances n i p);
  deadline_is = deadline;
  engine_is = ap (λ (g : EngineParts). are_engine_limits g.frames g.turns) e.engine ∙ w.engine_is;
  debt_is = owed;
}
