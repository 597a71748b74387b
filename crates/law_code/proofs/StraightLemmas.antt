-- An instruction that leads to no other code does what its typing says: a lemma for each combinator and each way to
-- end, and then a search.
use Rattle.std.proofs.Common.{◌≡◌, ℕ, ◌+◌, Bool, true, false, ◌&&◌, List, ◌∷◌, ◌++◌, length, map, set, take, drop, replicate, slice_get, Option, Some, None, if◌then◌else◌, refl, sym, ap, ◌∙◌, subst, arith}
use Rattle.std.specs.Prelude.{nat_lt}
use Rattle.wasm_types.specs.EqualityLaws.{both}
use Rattle.wasm_types.specs.ExternTypes.{global_fits}
use Rattle.wasm_types.specs.GlobalTypes.{GlobalParts}
use Rattle.wasm_types.specs.Matching.{ref_matches}
use Rattle.wasm_types.specs.Memories.{Memory}
use Rattle.wasm_types.specs.MemoryTypes.{MemoryParts}
use Rattle.wasm_types.specs.Ranges.{is_range, range_of}
use Rattle.wasm_types.specs.Signatures.{Signature}
use Rattle.wasm_types.specs.TableTypes.{TableParts}
use Rattle.wasm_types.specs.declared.plain.HeapTopType.{HeapTopType}
use Rattle.wasm_types.specs.declared.plain.HeapTopType.TheVariants as top
use Rattle.wasm_types.specs.declared.value_types.RefType.{RefType}
use Rattle.wasm_types.specs.declared.value_types.ValType.{ValType}
use Rattle.wasm_types.specs.declared.value_types.ValType.TheVariants as t
use Rattle.wasm_syntax.specs.Constants.{null_type, function_ref}
use Rattle.wasm_syntax.specs.Contexts as context
use Rattle.wasm_syntax.specs.Instructions.{load_type}
use Rattle.wasm_syntax.specs.Operators.{ArithOutcome, Number, IntegerDivisionByZero, IntegerOverflow}
use Rattle.wasm_syntax.specs.Typing.{Typed, Reached, Unreached, IllTyped, Inner, type_one, is_variable}
use Rattle.wasm_syntax.specs.declared.accesses.LoadOp.{LoadOp}
use Rattle.wasm_syntax.specs.declared.accesses.LoadOp.TheVariants as l
use Rattle.wasm_syntax.specs.declared.declarations.ModuleDecl.{ModuleDecl}
use Rattle.wasm_syntax.specs.declared.segments.DataDecl.{DataDecl}
use Rattle.wasm_syntax.specs.declared.segments.ElemDecl.{ElemDecl}
use Rattle.wasm_syntax.specs.declared.instr.Instr.{Instr}
use Rattle.wasm_syntax.specs.declared.instr.Instr.TheVariants as i
use Rattle.wasm_values.specs.declared.refusals.Trap.{Trap}
use Rattle.wasm_values.specs.declared.refusals.Trap.TheVariants as trap
use Rattle.wasm_objects.specs.Globals.{Global, global}
use Rattle.wasm_objects.specs.Tables.{Table}
use Rattle.wasm_objects.specs.declared.raw.RawRef.{RawRef}
use Rattle.wasm_objects.specs.declared.raw.RawRef.TheVariants as r
use Rattle.wasm_objects.specs.declared.raw.RawVal.{RawVal}
use Rattle.wasm_objects.specs.declared.raw.RawVal.TheVariants as w
use Rattle.spec_machine.specs.Machine.{Machine, InstanceParts}
use Rattle.spec_machine.specs.Changes.{set_global, drop_element, drop_data}
use Rattle.spec_machine.specs.Values.{raw_ref_fits}
use Rattle.spec_machine.specs.WellFormed.{is_raw_ref, IsWellFormed}
use Rattle.law_store.proofs.LaterStoreLemmas.{extends_own}
use Rattle.spec_execution.specs.Entering.{Frame}
use Rattle.spec_execution.specs.Operands as on
use Rattle.spec_execution.specs.Straight.{Effect, Goes, Traps, Sticks, bounded, element, with_bytes, with_elements, load_shape, result_of, act}
use Rattle.law_code.specs.Effects.{IsEffect}
use Rattle.law_code.specs.Good.{IsHome, context_of}
use Rattle.law_code.specs.Typed.{HasType, HaveTypes}
use Rattle.law_code.proofs.Changes.{IsSafeChange, AreRefs, bytes_range_safe, set_safe, range_safe, copies_are, range_are, value_safe, drop_element_safe, drop_data_safe}
use Rattle.law_code.proofs.Combinators.{sound_there, sound_given, sound_found, sound_any, sound_want, sound_i32, sound_unary, sound_binary, sound_stored, sound_reference, sound_any_reference}
use Rattle.law_code.proofs.IndexLemmas.{NamedTable, NamedMemory, NamedGlobal, NamedFunction, NamedElements, set_value, set_variable, named_table, named_memory, named_global, named_function, named_elements, named_data, has_function}
use Rattle.law_code.proofs.TypedValues.{has_its_kind, Found, have_later, has_integer, has_reference, find, have_set}
use Rattle.law_store.proofs.Tables.{length_range_of}

abbrev pub IsStraight : Instr → Type 0
IsStraight i.Unreachable = ⊥
IsStraight (i.Block b) = ⊥
IsStraight (i.Loop b) = ⊥
IsStraight (i.If a b) = ⊥
IsStraight (i.Br n) = ⊥
IsStraight (i.BrIf n) = ⊥
IsStraight (i.BrTable n) = ⊥
IsStraight i.Return = ⊥
IsStraight (i.Call f) = ⊥
IsStraight (i.CallIndirect n k) = ⊥
IsStraight (i.MemoryGrow k) = ⊥
IsStraight (i.TableGrow k) = ⊥
IsStraight _ = Unit {0}

-- a piece is as long as the range that it was
as_long : {A : Type 0} (from len after : ℕ) (source piece : List A) → range_of from len source ≡ piece →
    length piece ≡ after → is_range from len source ≡ true → len ≡ after
as_long from len after source piece is long e =
    sym (length_range_of from len source e) ∙ ap (λ xs. length xs) is ∙ long

module _ (m : Machine) (fr : Frame) (ts : List ValType) (locals ops : List RawVal) (s : IsWellFormed m)
    (home : IsHome m fr) (hl : HaveTypes m (context_of fr).locals locals) (ho : HaveTypes m ts ops) where
  abbrev lks : List ValType
  lks = (context_of fr).locals

  abbrev Q : Typed → Effect → Type 0
  Q = IsEffect m lks

  abbrev bad : (e : Effect) → Q IllTyped e
  bad e = tt

  traps : (ty : Typed) (why : Trap) → Q ty (Traps why)
  traps IllTyped why = tt
  traps Unreached why = tt
  traps (Reached us) why = tt

  -- ---- values

  have_value : (ty : ValType) (v : RawVal) (us : List ValType) (rest : List RawVal) → HasType m ty v →
      HaveTypes m us rest → HaveTypes m (ty ∷ us) (v ∷ rest)
  have_value ty v us rest h k = (h, k)

  have_i32 : (x : ℕ) → HasType m t.I32 (on.integer 32 x)
  have_i32 x = record { there = refl; fits = refl }

  have_const32 : (z : _) → HasType m t.I32 (w.I32 z)
  have_const32 z = record { there = refl; fits = refl }

  have_const64 : (z : _) → HasType m t.I64 (w.I64 z)
  have_const64 z = record { there = refl; fits = refl }

  have_loaded : (op : LoadOp) (x : ℕ) → HasType m (load_type op) (on.integer (load_shape op).gives x)
  have_loaded l.I32Load x = record { there = refl; fits = refl }
  have_loaded _ x = record { there = refl; fits = refl }

  have_null : (g : HeapTopType) → HasType m (null_type g) (w.Reference r.Null)
  have_null top.Func = record { there = refl; fits = refl }
  have_null top.Extern = record { there = refl; fits = refl }
  have_null top.Any = record { there = refl; fits = refl }

  have_either : (ty : ValType) (b : Bool) (x y : RawVal) → HasType m ty x → HasType m ty y →
      HasType m ty (if b then y else x)
  have_either ty true x y h k = k
  have_either ty false x y h k = h

  -- ---- what is named

  sound_local : (x : ℕ) (ty : ValType) (next : Typed) (go : RawVal → Effect) → slice_get lks x ≡ Some ty →
      ((v : RawVal) → HasType m ty v → Q next (go v)) → Q next (on.found Sticks (slice_get locals x) go)
  sound_local x ty next go e k =
      let f : Found m ty locals x = find m lks locals x ty hl e in
      sound_found Q bad Sticks (slice_get locals x) f.value next go f.here (k f.value f.has)

  at_home : (next : Typed) (go : InstanceParts → Effect) → Q next (go home.parts) →
      Q next (on.on_instance Sticks m fr.instance go)
  at_home next go h = sound_found Q bad Sticks (slice_get m.instances fr.instance) home.parts next go home.found h

  -- the spaces of the frame's module are those of the instance's
  of_home : {A : Type 0} (space : ModuleDecl → List A) (k : ℕ) (a : A) → slice_get (space fr.decl) k ≡ Some a →
      slice_get (space home.parts.decl) k ≡ Some a
  of_home space k a e = ap (λ (d : ModuleDecl). slice_get (space d) k) home.same ∙ e

  sound_global : (k : ℕ) (ty : GlobalParts) (next : Typed) (go : ℕ → Global → Effect) →
      slice_get (context.globals fr.decl) k ≡ Some ty →
      ((n : ℕ) (x : Global) → slice_get m.globals n ≡ Some x → global_fits ty x.ty ≡ true →
      HasType m ty.content x.value → Q next (go n x)) →
      Q next (on.on_global Sticks m fr.instance k go)
  sound_global k ty next go e h =
      let f : NamedGlobal m home.parts k ty = named_global m s fr.instance home.parts home.found k ty
      (of_home context.globals k ty e) in
      at_home next _ (sound_found Q bad Sticks (slice_get home.parts.globals k) f.number next _ f.named
      (sound_found Q bad Sticks (slice_get m.globals f.number) f.object next _ f.found
      (h f.number f.object f.found f.fits f.has)))

  sound_memory : (k : ℕ) (ty : MemoryParts) (next : Typed) (go : ℕ → Memory → Effect) →
      slice_get (context.memories fr.decl) k ≡ Some ty →
      ((n : ℕ) (x : Memory) → slice_get m.memories n ≡ Some x → Q next (go n x)) →
      Q next (on.on_memory Sticks m fr.instance k go)
  sound_memory k ty next go e h =
      let f : NamedMemory m home.parts k = named_memory m s fr.instance home.parts home.found k ty
      (of_home context.memories k ty e) in
      at_home next _ (sound_found Q bad Sticks (slice_get home.parts.memories k) f.number next _ f.named
      (sound_found Q bad Sticks (slice_get m.memories f.number) f.object next _ f.found
      (h f.number f.object f.found)))

  sound_table : (k : ℕ) (ty : TableParts) (next : Typed) (go : ℕ → Table → Effect) →
      slice_get (context.tables fr.decl) k ≡ Some ty →
      ((n : ℕ) (x : Table) → slice_get m.tables n ≡ Some x → x.ty.element ≡ ty.element →
      AreRefs m ty.element x.elements → Q next (go n x)) →
      Q next (on.on_table Sticks m fr.instance k go)
  sound_table k ty next go e h =
      let f : NamedTable m home.parts k ty = named_table m s fr.instance home.parts home.found k ty
      (of_home context.tables k ty e) in
      at_home next _ (sound_found Q bad Sticks (slice_get home.parts.tables k) f.number next _ f.named
      (sound_found Q bad Sticks (slice_get m.tables f.number) f.object next _ f.found
      (h f.number f.object f.found f.same f.are)))

  sound_elements : (k : ℕ) (ty : RefType) (next : Typed) (go : InstanceParts → List RawRef → Effect) →
      slice_get (map (λ (e : ElemDecl). e.ty) fr.decl.elements) k ≡ Some ty →
      ((p : InstanceParts) (items : List RawRef) → slice_get m.instances fr.instance ≡ Some p → AreRefs m ty items →
      Q next (go p items)) →
      Q next (on.on_elements Sticks m fr.instance k go)
  sound_elements k ty next go e h =
      let f : NamedElements m home.parts k ty = named_elements m s fr.instance home.parts home.found k ty
      (of_home (λ (d : ModuleDecl). map (λ (x : ElemDecl). x.ty) d.elements) k ty e) in
      at_home next _ (sound_found Q bad Sticks (slice_get home.parts.elements k) f.items next _ f.named
      (h home.parts f.items home.found f.are))

  sound_data : (k : ℕ) (d : DataDecl) (next : Typed) (go : InstanceParts → List ℕ → Effect) →
      slice_get fr.decl.datas k ≡ Some d →
      ((p : InstanceParts) (bytes : List ℕ) → slice_get m.instances fr.instance ≡ Some p → Q next (go p bytes)) →
      Q next (on.on_data Sticks m fr.instance k go)
  sound_data k d next go e h =
      let f : (y : List ℕ) × (slice_get home.parts.datas k ≡ Some y) =
      named_data m s fr.instance home.parts home.found k d (of_home (λ (x : ModuleDecl). x.datas) k d e) in
      at_home next _ (sound_found Q bad Sticks (slice_get home.parts.datas k) f.0 next _ f.1
      (h home.parts f.0 home.found))

  sound_function : (k : ℕ) (ty : Signature) (next : Typed) (go : ℕ → Effect) →
      context.function_type (context.functions fr.decl) k ≡ Some ty →
      ((n : ℕ) → HasType m (function_ref ty) (w.Reference (r.Func n)) → Q next (go n)) →
      Q next (on.on_function Sticks m fr.instance k go)
  sound_function k ty next go e h =
      let f : NamedFunction m home.parts k ty = named_function m s fr.instance home.parts home.found k ty
      (ap (λ (d : ModuleDecl). context.function_type (context.functions d) k) home.same ∙ e) in
      at_home next _ (sound_found Q bad Sticks (slice_get home.parts.functions k) f.number next _ f.named
      (h f.number (has_function m f.number f.own ty f.found f.fits)))

  -- ---- conditions and results

  sound_bounded : (why : Trap) (b : Bool) (next : Typed) (e : Effect) → (b ≡ true → Q next e) →
      Q next (bounded why b e)
  sound_bounded why true next e h = h refl
  sound_bounded why false next e h = traps next why

  sound_result : (n : ℕ) (o : ArithOutcome) (next : Typed) (go : RawVal → Effect) →
      ((x : ℕ) → Q next (go (on.integer n x))) → Q next (result_of go n o)
  sound_result n (Number x) next go h = h x
  sound_result n IntegerDivisionByZero next go h = traps next trap.IntegerDivisionByZero
  sound_result n IntegerOverflow next go h = traps next trap.IntegerOverflow

  element_by : (o : Option RawRef) (next : Typed) (go : RawRef → Effect) → ((y : RawRef) → o ≡ Some y → Q next (go y)) →
      Q next (element o go)
  element_by None next go h = traps next trap.TableOutOfBounds
  element_by (Some y) next go h = h y refl

  sound_element : (ty : RefType) (items : List RawRef) (at : ℕ) (next : Typed) (go : RawRef → Effect) →
      AreRefs m ty items → ((y : RawRef) → HasType m (t.Ref ty) (w.Reference y) → Q next (go y)) →
      Q next (element (slice_get items at) go)
  sound_element ty items at next go are h =
      element_by (slice_get items at) next go (λ y e. h y (has_reference m y ty (are.there at y e) (are.fits at y e)))

  -- ---- ways to end

  goes : (us : List ValType) (rest : List RawVal) → HaveTypes m us rest → Q (Reached us) (Goes m locals rest)
  goes us rest h =
      record { well = s; later = extends_own m; owed = omega arith; locals_are = hl; operands_are = h }

  set_goes : (x : ℕ) (ty : ValType) (v : RawVal) (us : List ValType) (rest : List RawVal) → slice_get lks x ≡ Some ty →
      HasType m ty v → HaveTypes m us rest → Q (Reached us) (Goes m (set locals x v) rest)
  set_goes x ty v us rest e k h =
      record {
        well = s;
        later = extends_own m;
        owed = omega arith;
        locals_are = have_set m lks locals x ty v hl e k;
        operands_are = h;
      }

  -- in another store
  goes_in : (after : Machine) (us : List ValType) (rest : List RawVal) → IsSafeChange m after → HaveTypes m us rest →
      Q (Reached us) (Goes after locals rest)
  goes_in after us rest a h = record {
    well = a.well;
    later = a.later;
    owed = a.owed;
    locals_are = have_later m after a.later s.functions_are lks locals hl;
    operands_are = have_later m after a.later s.functions_are us rest h;
  }

  global_goes : (n : ℕ) (x : Global) (ty : GlobalParts) (v : RawVal) (us : List ValType) (rest : List RawVal) →
      slice_get m.globals n ≡ Some x → global_fits ty x.ty ≡ true → is_variable ty.mutability ≡ true →
      HasType m ty.content v → HaveTypes m us rest →
      Q (Reached us) (if on.has_kind x.ty.content v then Goes (set_global m n (global x.ty v)) locals rest else Sticks)
  global_goes n x ty v us rest found fits var has h =
      let own : HasType m x.ty.content v =
      set_value m ty.mutability x.ty.mutability ty.content x.ty.content v fits var has in
      subst (λ b. Q (Reached us) (if b then Goes (set_global m n (global x.ty v)) locals rest else Sticks))
      (sym (has_its_kind m x.ty.content v own))
      (goes_in (set_global m n (global x.ty v)) us rest
      (value_safe m s n x v found
      (set_variable ty.mutability x.ty.mutability ty.content x.ty.content fits var) own) h)

  -- The lengths of what is written and the pieces stand apart from each other in these, so that a search finds each.
  sound_written : (n : ℕ) (x : Memory) (at len : ℕ) (piece : List ℕ) (us : List ValType) (rest : List RawVal) →
      slice_get m.memories n ≡ Some x → length piece ≡ len → HaveTypes m us rest →
      Q (Reached us) (bounded trap.MemoryOutOfBounds (is_range at len x.bytes)
      (Goes (with_bytes m n x (take at x.bytes ++ piece ++ drop (at + len) x.bytes)) locals rest))
  sound_written n x at len piece us rest found same h =
      sound_bounded trap.MemoryOutOfBounds (is_range at len x.bytes) (Reached us) _ (λ e.
      goes_in (with_bytes m n x (take at x.bytes ++ piece ++ drop (at + len) x.bytes)) us rest
      (bytes_range_safe m s n x at len piece found same e) h)

  sound_copied : (n : ℕ) (x : Memory) (at from len after : ℕ) (source piece : List ℕ) (us : List ValType)
      (rest : List RawVal) → slice_get m.memories n ≡ Some x → range_of from len source ≡ piece → length piece ≡ after →
      HaveTypes m us rest →
      Q (Reached us) (bounded trap.MemoryOutOfBounds (is_range at len x.bytes && is_range from len source)
      (Goes (with_bytes m n x (take at x.bytes ++ piece ++ drop (at + after) x.bytes)) locals rest))
  sound_copied n x at from len after source piece us rest found is long h =
      sound_bounded trap.MemoryOutOfBounds (is_range at len x.bytes && is_range from len source) (Reached us) _ (λ e.
      goes_in (with_bytes m n x (take at x.bytes ++ piece ++ drop (at + after) x.bytes)) us rest
      (bytes_range_safe m s n x at after piece found long
      (subst (λ k. is_range at k x.bytes ≡ true) (as_long from len after source piece is long (both _ _ e).1)
      (both _ _ e).0)) h)

  sound_set_element : (n : ℕ) (x : Table) (ty : RefType) (at : ℕ) (y : RawRef) (us : List ValType)
      (rest : List RawVal) → slice_get m.tables n ≡ Some x → x.ty.element ≡ ty → is_raw_ref m y ≡ true →
      raw_ref_fits m y ty ≡ true → HaveTypes m us rest →
      Q (Reached us) (bounded trap.TableOutOfBounds (nat_lt at (length x.elements))
      (Goes (with_elements m n x (set x.elements at y)) locals rest))
  sound_set_element n x ty at y us rest found same p q h =
      sound_bounded trap.TableOutOfBounds (nat_lt at (length x.elements)) (Reached us)
      (Goes (with_elements m n x (set x.elements at y)) locals rest) (λ e.
      goes_in (with_elements m n x (set x.elements at y)) us rest
      (set_safe m s n x at y found p (ap (raw_ref_fits m y) same ∙ q)) h)

  sound_put : (n : ℕ) (x : Table) (ty : RefType) (at len after : ℕ) (y : RawRef) (us : List ValType)
      (rest : List RawVal) → slice_get m.tables n ≡ Some x → x.ty.element ≡ ty → is_raw_ref m y ≡ true →
      raw_ref_fits m y ty ≡ true → length (replicate len y) ≡ after → HaveTypes m us rest →
      Q (Reached us) (bounded trap.TableOutOfBounds (is_range at after x.elements)
      (Goes (with_elements m n x (take at x.elements ++ replicate len y ++ drop (at + after) x.elements)) locals rest))
  sound_put n x ty at len after y us rest found same p q long h =
      sound_bounded trap.TableOutOfBounds (is_range at after x.elements) (Reached us) _ (λ e.
      goes_in (with_elements m n x (take at x.elements ++ replicate len y ++ drop (at + after) x.elements)) us rest
      (range_safe m s n x at after (replicate len y) found long e
      (copies_are m s x.ty.element len y p (ap (raw_ref_fits m y) same ∙ q))) h)

  sound_moved : (n : ℕ) (x : Table) (to from : RefType) (at source_at len after : ℕ) (source piece : List RawRef)
      (us : List ValType) (rest : List RawVal) → slice_get m.tables n ≡ Some x → x.ty.element ≡ to →
      AreRefs m from source → ref_matches from to ≡ true → range_of source_at len source ≡ piece →
      length piece ≡ after → HaveTypes m us rest →
      Q (Reached us) (bounded trap.TableOutOfBounds (is_range at len x.elements && is_range source_at len source)
      (Goes (with_elements m n x (take at x.elements ++ piece ++ drop (at + after) x.elements)) locals rest))
  sound_moved n x to from at source_at len after source piece us rest found same are q is long h =
      sound_bounded trap.TableOutOfBounds (is_range at len x.elements && is_range source_at len source) (Reached us) _
      (λ e. goes_in (with_elements m n x (take at x.elements ++ piece ++ drop (at + after) x.elements)) us rest
      (range_safe m s n x at after piece found long
      (subst (λ k. is_range at k x.elements ≡ true) (as_long source_at len after source piece is long (both _ _ e).1)
      (both _ _ e).0)
      (subst (AreRefs m x.ty.element) is
      (range_are m s from x.ty.element source_at len source are (ap (ref_matches from) same ∙ q)))) h)

  drops_elements : (p : InstanceParts) (k : ℕ) (us : List ValType) (rest : List RawVal) →
      slice_get m.instances fr.instance ≡ Some p → HaveTypes m us rest →
      Q (Reached us) (Goes (drop_element m fr.instance p k) locals rest)
  drops_elements p k us rest found h =
      goes_in (drop_element m fr.instance p k) us rest
      (drop_element_safe m s fr.instance p k found) h

  drops_data : (p : InstanceParts) (k : ℕ) (us : List ValType) (rest : List RawVal) →
      slice_get m.instances fr.instance ≡ Some p → HaveTypes m us rest →
      Q (Reached us) (Goes (drop_data m fr.instance p k) locals rest)
  drops_data p k us rest found h =
      goes_in (drop_data m fr.instance p k) us rest
      (drop_data_safe m s fr.instance p k found) h

  -- ---- the instructions

  pub straight : (inner : Inner) (labels : List (List ValType)) (j : Instr) → IsStraight j →
      Q (type_one (context_of fr) inner labels j ts) (act fr.instance m locals j ops)
  straight inner labels i.Unreachable n = absurd n
  straight inner labels (i.Block b) n = absurd n
  straight inner labels (i.Loop b) n = absurd n
  straight inner labels (i.If a b) n = absurd n
  straight inner labels (i.Br l) n = absurd n
  straight inner labels (i.BrIf l) n = absurd n
  straight inner labels (i.BrTable l) n = absurd n
  straight inner labels i.Return n = absurd n
  straight inner labels (i.Call k) n = absurd n
  straight inner labels (i.CallIndirect l k) n = absurd n
  straight inner labels (i.MemoryGrow k) n = absurd n
  straight inner labels (i.TableGrow k) n = absurd n
  straight inner labels _ n =
      search (
        sound_there Q bad,
        sound_given Q bad,
        sound_i32 Q bad m,
        sound_unary Q bad m,
        sound_binary Q bad m,
        sound_stored Q bad m,
        sound_reference Q bad m,
        sound_any_reference Q bad m,
        sound_want Q bad m,
        sound_any Q bad m,
        sound_local,
        sound_global,
        sound_memory,
        sound_table,
        sound_elements,
        sound_data,
        sound_function,
        sound_result,
        sound_element,
        goes,
        set_goes,
        global_goes,
        sound_written,
        sound_copied,
        sound_set_element,
        sound_put,
        sound_moved,
        drops_elements,
        drops_data,
        sound_bounded,
        have_value,
        have_i32,
        have_const32,
        have_const64,
        has_integer m,
        have_loaded,
        have_null,
        have_either,
        ho,
      ) depth 30 fits 4000
