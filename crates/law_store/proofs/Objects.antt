-- A later store gives each handle its type, and no smaller size.
use Rattle.std.proofs.Common.{◌≡◌, ℕ, ◌≤◌, Bool, true, false, List, length, slice_get, Option, Some, None, option_and_then, option_map, Result, Ok, Err, ok_or, if◌then◌else◌, refl, sym, ap, ap₂, ◌∙◌, subst, le_trans}
use Rattle.std.proofs.lemmas.Option.{same_Some, option_and_then_some}
use Rattle.std.specs.Result.{result_ok}
use Rattle.wasm_types.specs.GlobalTypes.{GlobalParts}
use Rattle.wasm_types.specs.Memories.{Memory}
use Rattle.wasm_types.specs.Signatures.{Signature}
use Rattle.wasm_types.specs.declared.extern_type.ExternType.{ExternType}
use Rattle.wasm_types.specs.declared.plain.Mutability.TheVariants.{Const}
use Rattle.wasm_syntax.specs.declared.declarations.ExportDecl.{ExportDecl}
use Rattle.wasm_syntax.specs.declared.declarations.FuncDecl.{FuncDecl}
use Rattle.wasm_syntax.specs.declared.declarations.ModuleDecl.{ModuleDecl}
use Rattle.wasm_syntax.specs.declared.entities.EntityIndex.{EntityIndex}
use Rattle.wasm_syntax.specs.declared.entities.EntityIndex.TheVariants as entity
use Rattle.wasm_values.specs.Handles.{func_of, func_store, func_index, global_of, global_store, global_index, table_of, table_store, table_index, memory_of, memory_store, memory_index, tag_of, tag_store, tag_index, instance_store, instance_index}
use Rattle.wasm_values.specs.declared.externals.Extern.{Extern}
use Rattle.wasm_values.specs.declared.externals.Extern.TheVariants as extern
use Rattle.wasm_values.specs.declared.handles.Func.{Func as FuncHandle}
use Rattle.wasm_values.specs.declared.handles.Global.{Global as GlobalHandle}
use Rattle.wasm_values.specs.declared.handles.Instance.{Instance as InstanceHandle}
use Rattle.wasm_values.specs.declared.handles.Tag.{Tag as TagHandle}
use Rattle.wasm_values.specs.declared.refusals.Refusal.{Refusal}
use Rattle.wasm_values.specs.declared.refusals.Refusal.TheVariants.{WrongStore, NoExport}
use Rattle.wasm_values.specs.declared.store_id.StoreId.{StoreId}
use Rattle.wasm_values.specs.declared.values.Val.{Val}
use Rattle.wasm_objects.specs.Globals.{Global}
use Rattle.wasm_objects.specs.Tables.{Table}
use Rattle.spec_machine.specs.GlobalCalls.{global_ty, global_get, tag_ty}
use Rattle.spec_machine.specs.Growth.{pages}
use Rattle.spec_machine.specs.InstanceCalls.{object, export_named, exported_object, get_export}
use Rattle.spec_machine.specs.Machine.{Machine, Function, guest, host, InstanceParts}
use Rattle.spec_machine.specs.MemoryCalls.{memory_size}
use Rattle.spec_machine.specs.Steps.{◌>>=◌}
use Rattle.spec_machine.specs.TableCalls.{table_size}
use Rattle.spec_machine.specs.ValueCalls.{func_ty}
use Rattle.spec_machine.specs.Values.{is_id, val_at, defined_type, type_of_function, function_type}
use Rattle.law_store.specs.HostCalls.{OfAnyType, CallsLeave}
use Rattle.law_store.specs.Laws.{GivesAtLeast, KeepsObjects, ObjectsStayOwn, ObjectsStayAlong, CallsKeepObjects, RowsKeepObjects}
use Rattle.law_store.specs.Later.{There, Later, IsSame, IsLaterMemory, IsLaterTable, IsLaterGlobal, IsLaterInstance, Extends}
use Rattle.law_store.proofs.LaterStoreLemmas.{extends_own}
use Rattle.law_store.proofs.WellFormedLemmas.{pages_more}
use Rattle.spec_machine.specs.Commands.{row}
use Rattle.law_store.proofs.Rows.{leaves_by, calls_extend, row_extends}
use Rattle.law_store.proofs.ReadLemmas.{look_up}
use Rattle.law_store.proofs.RefusalLemmas.{Passed, passed}

-- what was found
looked : {A : Type 0} (own : Bool) (o : Option A) (w : Refusal) (x : A) →
    ◌≡◌ {A = Result A Refusal} (if own then ok_or o w else Err w) (Ok x) → (own ≡ true) × (o ≡ Some x)
looked true (Some y) w x e = (refl, ap result_ok e)
looked true None w x e = absurd cc
looked false o w x e = absurd cc

-- what is told of an object
abbrev told : {A B : Type 0} → Bool → Option A → (A → B) → Result B Refusal
told own o f = (if own then ok_or o WrongStore else Err WrongStore) >>= (λ x. Ok (f x))

module _ {A B : Type 0} (f : A → B) where
  abbrev Told : Bool → Option A → B → Type 0
  Told own o b = Passed own o (λ (x : A). true) (λ x. true) (λ x. true) f b

  told_passed : (own : Bool) (o : Option A) (b : B) → told own o f ≡ Ok b → Told own o b
  told_passed own o b e = passed b WrongStore WrongStore WrongStore WrongStore own o (λ x. true) (λ x. true)
      (λ x. true) f e

  told_is : (own : Bool) (o : Option A) (x : A) → own ≡ true → o ≡ Some x → told own o f ≡ Ok (f x)
  told_is own o x p q = ap (λ (r : Result A Refusal). r >>= (λ y. Ok (f y))) (look_up own o WrongStore x p q)

  -- what is told of it in a later store
  told_later : (own own' : Bool) (xs ys : List A) (i : ℕ) (R : A → A → Type 0) → Later xs ys R →
      (own ≡ true → own' ≡ true) → ((x y : A) → R x y → f y ≡ f x) →
      (b : B) → told own (slice_get xs i) f ≡ Ok b → told own' (slice_get ys i) f ≡ Ok b
  told_later own own' xs ys i R later here same b e =
      let p : Told own (slice_get xs i) b = told_passed own (slice_get xs i) b e in
      let t : There ys i (R p.object) = later i p.object p.found in
      told_is own' (slice_get ys i) t.member (here p.here) t.found ∙ ap Ok (same p.object t.member t.says ∙ p.is)

-- a number that is told of it is no smaller
told_more : {A : Type 0} (f : A → ℕ) (own own' : Bool) (xs ys : List A) (i : ℕ) (R : A → A → Type 0) → Later xs ys R →
    (own ≡ true → own' ≡ true) → ((x y : A) → R x y → f x ≤ f y) →
    (n : ℕ) → told own (slice_get xs i) f ≡ Ok n → GivesAtLeast (told own' (slice_get ys i) f) n
told_more f own own' xs ys i R later here more n e =
    let p : Told f own (slice_get xs i) n = told_passed f own (slice_get xs i) n e in
    let t : There ys i (R p.object) = later i p.object p.found in
    record {
      number = f t.member;
      is = told_is f own' (slice_get ys i) t.member (here p.here) t.found;
      least = subst (λ k. k ≤ f t.member) p.is (more p.object t.member t.says);
    }

-- what comes of an object that was found
record Found {A B : Type 0} (own : Bool) (o : Option A) (f : A → Result B Refusal) (b : B) : Type 0 where
  object : A
  here : own ≡ true
  is_there : o ≡ Some object
  gives : f object ≡ Ok b

found_by : {A B : Type 0} (own : Bool) (o : Option A) (f : A → Result B Refusal) (b : B) →
    ((if own then ok_or o WrongStore else Err WrongStore) >>= f) ≡ Ok b → Found own o f b
found_by true (Some x) f b e = record { object = x; here = refl; is_there = refl; gives = e }
found_by true None f b e = absurd cc
found_by false o f b e = absurd cc

module _ (m after : Machine) (e : Extends m after) where
  here : (id : StoreId) → is_id id m.id ≡ true → is_id id after.id ≡ true
  here id p = ap (is_id id) e.id ∙ p

  -- a function's type
  type_there : (f : Function) (ty : Signature) → type_of_function m f ≡ Some ty → type_of_function after f ≡ Some ty
  type_there (host own body stored) ty p = p
  type_there (guest instance n) ty p =
      option_and_then_some (λ i. defined_type i n) (slice_get m.instances instance) ty p (λ i q d.
      let t : There after.instances instance (IsLaterInstance i) = e.instances instance i q in
      ap (option_and_then (λ i. defined_type i n)) t.found
      ∙ ap (λ (c : ModuleDecl). option_and_then (λ (f : FuncDecl). slice_get c.types f.ty) (slice_get c.functions n))
      t.says.decl
      ∙ d)

  function_type_there : (f : ℕ) (ty : Signature) → function_type m f ≡ Some ty → function_type after f ≡ Some ty
  function_type_there f ty p =
      option_and_then_some (type_of_function m) (slice_get m.functions f) ty p (λ g q d.
      let t : There after.functions f (IsSame g) = e.functions f g q in
      ap (option_and_then (type_of_function after)) t.found ∙ ap (type_of_function after) t.says ∙ type_there g ty d)

  function_types_stay : (h : FuncHandle) (ty : Signature) → func_ty m h ≡ Ok ty → func_ty after h ≡ Ok ty
  function_types_stay h ty p =
      let l : (is_id (func_store h) m.id ≡ true) × (function_type m (func_index h) ≡ Some ty) = looked _ _ _ ty p in
      look_up (is_id (func_store h) after.id) (function_type after (func_index h)) WrongStore ty
      (here (func_store h) l.0) (function_type_there (func_index h) ty l.1)

  tag_types_stay : (h : TagHandle) (ty : Signature) → tag_ty m h ≡ Ok ty → tag_ty after h ≡ Ok ty
  tag_types_stay h ty p =
      let l : (is_id (tag_store h) m.id ≡ true) × (slice_get m.tags (tag_index h) ≡ Some ty) = looked _ _ _ ty p in
      let t : There after.tags (tag_index h) (IsSame ty) = e.tags (tag_index h) ty l.1 in
      look_up (is_id (tag_store h) after.id) (slice_get after.tags (tag_index h)) WrongStore ty
      (here (tag_store h) l.0) (t.found ∙ ap Some t.says)

  -- the value of a constant global
  constants_stay : (h : GlobalHandle) (ty : GlobalParts) (v : Val) → global_ty m h ≡ Ok ty → ty.mutability ≡ Const →
      global_get m h ≡ Ok v → global_get after h ≡ Ok v
  constants_stay h ty v p c q =
      let own : Bool = is_id (global_store h) m.id in
      let o : Option Global = slice_get m.globals (global_index h) in
      let a : Told (λ (x : Global). x.ty) own o ty = told_passed (λ (x : Global). x.ty) own o ty p in
      let b : Told (λ (x : Global). val_at m.id x.ty.content x.value) own o v =
      told_passed (λ (x : Global). val_at m.id x.ty.content x.value) own o v q in
      let x : Global = b.object in
      let t : There after.globals (global_index h) (IsLaterGlobal x) = e.globals (global_index h) x b.found in
      let constant : x.ty.mutability ≡ Const =
      ap (λ (y : Global). y.ty.mutability) (same_Some x a.object (sym b.found ∙ a.found))
      ∙ ap (λ (y : GlobalParts). y.mutability) a.is ∙ c in
      told_is (λ (x : Global). val_at after.id x.ty.content x.value) (is_id (global_store h) after.id)
      (slice_get after.globals (global_index h)) t.member (here (global_store h) b.here) t.found
      ∙ ap Ok (ap (λ (id : StoreId). val_at id t.member.ty.content t.member.value) e.id
      ∙ ap (λ (y : GlobalParts). val_at m.id y.content t.member.value) t.says.ty
      ∙ ap (val_at m.id x.ty.content) (t.says.constant constant) ∙ b.is)

  -- the object that an instance has under an index, and under a name
  object_stays : (i j : InstanceParts) → IsLaterInstance i j → (k : EntityIndex) → object after j k ≡ object m i k
  object_stays i j l (entity.Func k) =
      ap₂ (λ (id : StoreId) (ns : List ℕ). option_map (λ n. extern.Func (func_of id n)) (slice_get ns k))
      e.id l.functions
  object_stays i j l (entity.Global k) =
      ap₂ (λ (id : StoreId) (ns : List ℕ). option_map (λ n. extern.Global (global_of id n)) (slice_get ns k))
      e.id l.globals
  object_stays i j l (entity.Table k) =
      ap₂ (λ (id : StoreId) (ns : List ℕ). option_map (λ n. extern.Table (table_of id n)) (slice_get ns k))
      e.id l.tables
  object_stays i j l (entity.Memory k) =
      ap₂ (λ (id : StoreId) (ns : List ℕ). option_map (λ n. extern.Memory (memory_of id n)) (slice_get ns k))
      e.id l.memories
  object_stays i j l (entity.Tag k) =
      ap₂ (λ (id : StoreId) (ns : List ℕ). option_map (λ n. extern.Tag (tag_of id n)) (slice_get ns k))
      e.id l.tags

  export_stays : (i j : InstanceParts) → IsLaterInstance i j → (o : Option ExportDecl) →
      option_and_then (λ (d : ExportDecl). object after j d.entity) o
      ≡ option_and_then (λ (d : ExportDecl). object m i d.entity) o
  export_stays i j l None = refl
  export_stays i j l (Some d) = object_stays i j l d.entity

  exports_stay : (h : InstanceHandle) (name : List ℕ) (o : Extern) → get_export m h name ≡ Ok o →
      get_export after h name ≡ Ok o
  exports_stay h name o p =
      let own : Bool = is_id (instance_store h) m.id in
      let f : Found own (slice_get m.instances (instance_index h))
      (λ i. ok_or (exported_object m i name) NoExport) o =
      found_by own (slice_get m.instances (instance_index h)) (λ i. ok_or (exported_object m i name) NoExport) o p in
      let i : InstanceParts = f.object in
      let t : There after.instances (instance_index h) (IsLaterInstance i) =
      e.instances (instance_index h) i f.is_there in
      ap (λ (r : Result InstanceParts Refusal). r >>= (λ j. ok_or (exported_object after j name) NoExport))
      (look_up (is_id (instance_store h) after.id) (slice_get after.instances (instance_index h)) WrongStore t.member
      (here (instance_store h) f.here) t.found)
      ∙ ap (λ (x : Option Extern). ok_or x NoExport)
      (ap (λ (c : ModuleDecl). option_and_then (λ (d : ExportDecl). object after t.member d.entity)
      (export_named name c.exports)) t.says.decl
      ∙ export_stays i t.member t.says (export_named name i.decl.exports))
      ∙ f.gives

  pub keeps_objects : KeepsObjects m after
  keeps_objects = record {
    function_types = function_types_stay;
    tag_types = tag_types_stay;
    global_types = λ h. told_later (λ (x : Global). x.ty) (is_id (global_store h) m.id)
        (is_id (global_store h) after.id) m.globals after.globals (global_index h) IsLaterGlobal e.globals
        (here (global_store h)) (λ x y r. r.ty);
    memory_types = λ h. told_later (λ (x : Memory). x.ty) (is_id (memory_store h) m.id)
        (is_id (memory_store h) after.id) m.memories after.memories (memory_index h) IsLaterMemory e.memories
        (here (memory_store h)) (λ x y r. r.ty);
    table_types = λ h. told_later (λ (x : Table). x.ty) (is_id (table_store h) m.id)
        (is_id (table_store h) after.id) m.tables after.tables (table_index h) IsLaterTable e.tables
        (here (table_store h)) (λ x y r. r.ty);
    memory_sizes = λ h. told_more pages (is_id (memory_store h) m.id)
        (is_id (memory_store h) after.id) m.memories after.memories (memory_index h) IsLaterMemory e.memories
        (here (memory_store h)) pages_more;
    table_sizes = λ h. told_more (λ (x : Table). length x.elements) (is_id (table_store h) m.id)
        (is_id (table_store h) after.id) m.tables after.tables (table_index h) IsLaterTable e.tables
        (here (table_store h)) (λ x y r. r.size);
    constants = constants_stay;
    exports = exports_stay;
  }

pub objects_stay_own : ObjectsStayOwn
objects_stay_own m = keeps_objects m m (extends_own m)

at_least_on : (x y : Result ℕ Refusal) (n : ℕ) → GivesAtLeast x n →
    ((k : ℕ) → x ≡ Ok k → GivesAtLeast y k) → GivesAtLeast y n
at_least_on x y n p f =
    let q : GivesAtLeast y p.number = f p.number p.is in
    record { number = q.number; is = q.is; least = le_trans p.least q.least }

pub objects_stay_along : ObjectsStayAlong
objects_stay_along a b c p q = record {
  function_types = λ h ty e. q.function_types h ty (p.function_types h ty e);
  global_types = λ h ty e. q.global_types h ty (p.global_types h ty e);
  tag_types = λ h ty e. q.tag_types h ty (p.tag_types h ty e);
  memory_types = λ h ty e. q.memory_types h ty (p.memory_types h ty e);
  table_types = λ h ty e. q.table_types h ty (p.table_types h ty e);
  memory_sizes = λ h n e. at_least_on (memory_size b h) (memory_size c h) n (p.memory_sizes h n e) (q.memory_sizes h);
  table_sizes = λ h n e. at_least_on (table_size b h) (table_size c h) n (p.table_sizes h n e) (q.table_sizes h);
  constants = λ h ty v e k g. q.constants h ty v (p.global_types h ty e) k (p.constants h ty v e k g);
  exports = λ h name o e. q.exports h name o (p.exports h name o e);
}

-- what follows of what the calls leave
calls_by : (IsGood : ExternType → Type 0) (P Q : Machine → Type 0) (m : Machine) →
    ((x : Machine) → P x → Q x) → CallsLeave IsGood P m → CallsLeave IsGood Q m
calls_by IsGood P Q m f c = record {
  memory_new = λ ty t g. f _ (c.memory_new ty t g);
  memory_write = λ h at bytes after e. f _ (c.memory_write h at bytes after e);
  memory_grow = λ h delta p e g. f _ (c.memory_grow h delta p e g);
  table_new = λ ty init p t e g. f _ (c.table_new ty init p t e g);
  table_set = λ h at val after e. f _ (c.table_set h at val after e);
  table_fill = λ h at val len after e. f _ (c.table_fill h at val len after e);
  table_copy = λ dst dst_at src src_at len after e. f _ (c.table_copy dst dst_at src src_at len after e);
  table_grow = λ h delta init p e g. f _ (c.table_grow h delta init p e g);
  global_new = λ ty val made t e. f _ (c.global_new ty val made t e);
  global_set = λ h val after e. f _ (c.global_set h val after e);
  tag_new = λ ty made t e. f _ (c.tag_new ty made t e);
  func_new = λ ty body stored made t e. f _ (c.func_new ty body stored made t e);
}

pub calls_keep_objects : CallsKeepObjects
calls_keep_objects m = calls_by OfAnyType (Extends m) (KeepsObjects m) m (keeps_objects m) (calls_extend m)

pub rows_keep_objects : RowsKeepObjects
rows_keep_objects modules m s c = leaves_by (Extends m) (KeepsObjects m) m (row modules m s c)
    (λ after e. keeps_objects m after e) (row_extends modules m s c)
