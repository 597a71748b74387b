-- New objects, as an instantiation makes them, are well formed, and match what is declared of them.
use Rattle.std.proofs.Common.{◌≡◌, ℕ, zero, suc, ◌+◌, ◌≤◌, true, List, [], ◌∷◌, length, slice_get, Option, Some, None, refl, sym, ap, ◌∙◌, subst, inl, inr, arith, le_refl}
use Rattle.std.proofs.lemmas.Bool.{le-leb, eq-eqb, and_from}
use Rattle.std.proofs.lemmas.List.{length-replicate}
use Rattle.std.proofs.lemmas.Option.{same_Some, none-some}
use Rattle.wasm_types.proofs.EqualityLemmas.{same_ref_exact, same_val_exact}
use Rattle.wasm_types.proofs.MatchingLemmas.{val_reflexive}
use Rattle.wasm_types.specs.Each.{Each}
use Rattle.wasm_types.specs.ExternTypes.{maximum_fits, content_fits, global_fits, table_fits, memory_fits}
use Rattle.wasm_types.specs.FunctionParts.{ref_is_of, val_is_of}
use Rattle.wasm_types.specs.GlobalTypes.{GlobalParts}
use Rattle.wasm_types.specs.Memories.{new_memory}
use Rattle.wasm_types.specs.MemoryTypes.{MemoryParts, are_memory_limits, within_maximum}
use Rattle.wasm_types.specs.SoundTypes.{IsValSound, IsTableSound}
use Rattle.wasm_types.specs.TableTypes.{TableParts}
use Rattle.wasm_types.specs.declared.plain.Mutability.{Mutability}
use Rattle.wasm_types.specs.declared.plain.Mutability.TheVariants.{Const, Var}
use Rattle.wasm_types.specs.declared.value_types.ValType.{ValType}
use Rattle.wasm_syntax.specs.declared.declarations.GlobalDecl.{GlobalDecl}
use Rattle.wasm_objects.specs.Globals.{global}
use Rattle.wasm_objects.specs.Tables.{new_table}
use Rattle.wasm_objects.specs.declared.raw.RawRef.{RawRef}
use Rattle.wasm_objects.specs.declared.raw.RawVal.{RawVal}
use Rattle.spec_machine.specs.Growth.{table_range, pages}
use Rattle.spec_machine.specs.Machine.{Machine}
use Rattle.spec_machine.specs.Values.{raw_ref_fits}
use Rattle.spec_machine.specs.WellFormed.{is_raw_ref, IsMemory, IsTable, IsGlobal, IsWellFormed}
use Rattle.spec_execution.specs.Allocation.{globals_with}
use Rattle.spec_execution.specs.Instantiation.{new_memory_plan, new_table_plan}
use Rattle.law_code.specs.Typed.{HasType, HaveTypes}
use Rattle.law_code.proofs.ConstantLemmas.{contents, types}
use Rattle.law_code.proofs.SpaceLemmas.{at_end}
use Rattle.law_store.specs.Granted.{IsGranted}
use Rattle.law_store.proofs.GrowthLemmas.{MayGrow, may_grow}
use Rattle.law_store.proofs.Lists.{each_none, each_more, each_rest, each_replicate}
use Rattle.law_store.proofs.Memories.{keeps_memory_new}

-- ---- memories and tables

-- a memory whose growth from nothing is granted
pub memory_made : (m : Machine) (ty : MemoryParts) → IsWellFormed m → are_memory_limits ty ≡ true →
    IsGranted m (new_memory_plan m ty) → IsMemory (new_memory ty)
memory_made m ty s limits g =
    (keeps_memory_new m ty s limits g).memories_are (length m.memories) (new_memory ty)
    (at_end m.memories (new_memory ty))

range_by : (m : Machine) (ty : TableParts) → MayGrow (new_table_plan m ty) → ty.minimum ≤ table_range
range_by m ty (inl e) = let same : 0 ≡ 0 + ty.minimum = e in omega (arith, same)
range_by m ty (inr e) = let most : 0 + ty.minimum ≤ table_range = e.0 in omega (arith, most)

-- a table whose growth from nothing is granted is within the range
pub table_in_range : (m : Machine) (ty : TableParts) → IsGranted m (new_table_plan m ty) → ty.minimum ≤ table_range
table_in_range m ty g = range_by m ty (may_grow m (new_table_plan m ty) g)

pub table_made : (m : Machine) (ty : TableParts) (y : RawRef) → IsTableSound ty →
    ref_is_of m.engine.number ty.element ≡ true → ty.minimum ≤ table_range → is_raw_ref m y ≡ true →
    raw_ref_fits m y ty.element ≡ true → IsTable m (new_table ty y)
table_made m ty y sound engine range p q =
    let size : length (new_table ty y).elements ≡ ty.minimum = length-replicate ty.minimum y in
    record {
      limits = sound.0;
      of_engine = engine;
      sound = sound.1;
      least = omega (arith, size);
      most = ap (λ n. within_maximum n ty.maximum) size ∙ sound.0;
      in_range = subst (λ n. n ≤ table_range) (sym size) range;
      there = each_replicate (λ r. is_raw_ref m r ≡ true) ty.minimum y p;
      fits = each_replicate (λ r. raw_ref_fits m r ty.element ≡ true) ty.minimum y q;
    }

-- ---- what is made matches its own type

maximum_own : (o : Option ℕ) → maximum_fits o o ≡ true
maximum_own None = refl
maximum_own (Some n) = le-leb n n (le_refl n)

pub table_own_fits : (ty : TableParts) (y : RawRef) → table_fits ty ty (length (new_table ty y).elements) ≡ true
table_own_fits ty y =
    let size : length (new_table ty y).elements ≡ ty.minimum = length-replicate ty.minimum y in
    and_from _ _ ((same_ref_exact ty.element ty.element).1 refl)
    (and_from _ _ (le-leb ty.minimum (length (new_table ty y).elements) (omega (arith, size)))
    (maximum_own ty.maximum))

pub memory_own_fits : (ty : MemoryParts) → IsMemory (new_memory ty) →
    memory_fits ty ty (pages (new_memory ty)) ≡ true
memory_own_fits ty h =
    and_from _ _ (eq-eqb ty.page_size_log2 ty.page_size_log2 refl)
    (and_from _ _ (le-leb ty.minimum (pages (new_memory ty)) h.least) (maximum_own ty.maximum))

content_own : (mutability : Mutability) (content : ValType) → content_fits mutability mutability content content ≡ true
content_own Const content = val_reflexive content
content_own Var content = (same_val_exact content content).1 refl

pub global_own_fits : (ty : GlobalParts) → global_fits ty ty ≡ true
global_own_fits ty = content_own ty.mutability ty.content

-- ---- globals

-- the type of a global that is declared
pub record IsGlobalType (m : Machine) (g : GlobalDecl) : Type 0 where
  pub of_engine : val_is_of m.engine.number g.ty.content ≡ true
  pub sound : IsValSound g.ty.content

global_made : (m : Machine) (g : GlobalDecl) (v : RawVal) → IsGlobalType m g → HasType m g.ty.content v →
    IsGlobal m (global g.ty v)
global_made m g v h k = record { of_engine = h.of_engine; sound = h.sound; there = k.there; fits = k.fits }

-- globals with values of their types
pub globals_made : (m : Machine) (gs : List GlobalDecl) (vs : List RawVal) → HaveTypes m (contents (types gs)) vs →
    Each gs (IsGlobalType m) → Each (globals_with vs gs) (IsGlobal m)
globals_made m [] [] h k = each_none (IsGlobal m)
globals_made m (g ∷ gs) (v ∷ vs) h k =
    each_more (IsGlobal m) (global g.ty v) (globals_with vs gs) (global_made m g v (k 0 g refl) h.0)
    (globals_made m gs vs h.1 (each_rest (IsGlobalType m) g gs k))
globals_made m [] (v ∷ vs) h k = absurd h
globals_made m (g ∷ gs) [] h k = absurd h

-- each is there
pub global_at : (m : Machine) (gs : List GlobalDecl) (vs : List RawVal) (k : ℕ) (g : GlobalDecl) →
    HaveTypes m (contents (types gs)) vs → slice_get gs k ≡ Some g →
    (v : RawVal) × (slice_get (globals_with vs gs) k ≡ Some (global g.ty v))
global_at m [] vs k g h e = absurd (none-some g e)
global_at m (x ∷ gs) [] k g h e = absurd h
global_at m (x ∷ gs) (v ∷ vs) zero g h e = (v, ap (λ (y : GlobalDecl). Some (global y.ty v)) (same_Some x g e))
global_at m (x ∷ gs) (v ∷ vs) (suc k) g h e = global_at m gs vs k g h.1 e
