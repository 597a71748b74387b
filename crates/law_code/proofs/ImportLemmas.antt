-- What the checks of an instantiation give: each import is there, and matches what is declared; it does so later, too.
use Rattle.std.proofs.Common.{◌≡◌, ℕ, zero, suc, Bool, true, false, if◌then◌else◌, List, [], ◌∷◌, length, slice_get, Option, Some, None, Ok, refl, sym, ap, ◌∙◌, subst, ◌≤◌, leb, arith}
use Rattle.std.specs.Prelude.{⊤, nat_eq}
use Rattle.std.specs.List.{list_all}
use Rattle.std.proofs.lemmas.Bool.{eqb-true, leb-true, le-leb, and_from}
use Rattle.std.proofs.lemmas.Option.{same_Some, none-some}
use Rattle.wasm_types.specs.Equality.{same}
use Rattle.wasm_types.specs.EqualityLaws.{both}
use Rattle.wasm_types.specs.ExternTypes.{table_fits, memory_fits, global_fits, limits_fit, maximum_fits}
use Rattle.wasm_types.specs.GlobalTypes.{GlobalParts}
use Rattle.wasm_types.specs.MemoryTypes.{MemoryParts}
use Rattle.wasm_types.specs.Signatures.{Signature}
use Rattle.wasm_types.specs.TableTypes.{TableParts}
use Rattle.wasm_types.specs.declared.extern_type.ExternType.{ExternType}
use Rattle.wasm_syntax.specs.Contexts.{as_function, as_table, as_memory, as_global, as_tag}
use Rattle.wasm_syntax.specs.declared.declarations.ImportDecl.{ImportDecl}
use Rattle.wasm_syntax.specs.declared.declarations.ModuleDecl.{ModuleDecl}
use Rattle.wasm_values.specs.Externals.{extern_func, extern_global, extern_table, extern_memory, extern_tag}
use Rattle.wasm_values.specs.Handles.{func_index, global_index, table_index, memory_index, tag_index}
use Rattle.wasm_values.specs.declared.externals.Extern.{Extern}
use Rattle.wasm_values.specs.declared.refusals.Refusal.TheVariants.{WrongStore, WrongEngine, ImportCount}
use Rattle.spec_machine.specs.Growth.{pages}
use Rattle.spec_machine.specs.Machine.{EngineParts, Machine}
use Rattle.spec_machine.specs.Steps.{◌>>=◌, unless}
use Rattle.spec_machine.specs.Values.{owns_extern}
use Rattle.spec_machine.specs.WellFormed.{IsWellFormed, HasFunction, HasTable, HasMemory, HasGlobal, HasTag}
use Rattle.law_store.specs.Later.{There, IsSame, IsLaterMemory, IsLaterTable, IsLaterGlobal, Extends}
use Rattle.law_store.proofs.WellFormedLemmas.{pages_more}
use Rattle.spec_execution.specs.Instantiation.{is_given, first_unmatched_import, no_unmatched_import, imports_fit}
use Rattle.law_code.proofs.IndexLemmas.{type_later}
use Rattle.law_code.proofs.SpaceLemmas.{agree_by}
use Rattle.law_code.proofs.GivenLemmas.{IsGivenAs, given_good}

-- the module is of the store's engine, and each of its imports has an object that matches
pub record AreGiven (m : Machine) (d : ModuleDecl) (imports : List Extern) : Type 0 where
  pub of_engine : d.engine.0 ≡ m.engine.number
  pub as_many : length imports ≡ length d.imports
  pub each : (k : ℕ) (declared : ImportDecl) (given : Extern) → slice_get d.imports k ≡ Some declared →
      slice_get imports k ≡ Some given → IsGivenAs m declared.ty given

if_given : (b : Bool) (n : ℕ) (o : Option ℕ) → (if b then o else Some n) ≡ None → (b ≡ true) × (o ≡ None)
if_given true n o p = (refl, p)
if_given false n o p = absurd (none-some n (sym p))

none_unmatched : (m : Machine) (n : ℕ) (ds : List ImportDecl) (es : List Extern) → first_unmatched_import m n ds es ≡ None →
    (k : ℕ) (d : ImportDecl) (e : Extern) → slice_get ds k ≡ Some d → slice_get es k ≡ Some e →
    is_given m d.ty e ≡ true
none_unmatched m n [] es p k d e q r = absurd (none-some d q)
none_unmatched m n (y ∷ ds) [] p k d e q r = absurd (none-some e r)
none_unmatched m n (y ∷ ds) (z ∷ es) p zero d e q r =
    subst (λ o. is_given m d.ty o ≡ true) (same_Some z e r)
    (subst (λ (i : ImportDecl). is_given m i.ty z ≡ true) (same_Some y d q)
    (if_given (is_given m y.ty z) n (first_unmatched_import m (suc n) ds es) p).0)
none_unmatched m n (y ∷ ds) (z ∷ es) p (suc k) d e q r =
    none_unmatched m (suc n) ds es (if_given (is_given m y.ty z) n (first_unmatched_import m (suc n) ds es) p).1 k d e q r

-- each condition holds
record AllHold (a b c : Bool) (o : Option ℕ) : Type 0 where
  one : a ≡ true
  two : b ≡ true
  three : c ≡ true
  none : o ≡ None

all_hold : (a b c : Bool) (o : Option ℕ) (u : ⊤) →
    (unless WrongStore a >>= (λ x. unless WrongEngine b >>= (λ y. unless ImportCount c >>= (λ z. no_unmatched_import o))))
    ≡ Ok u → AllHold a b c o
all_hold true true true None u e = record { one = refl; two = refl; three = refl; none = refl }
all_hold true true true (Some n) u e = absurd cc
all_hold true true false o u e = absurd cc
all_hold true false c o u e = absurd cc
all_hold false b c o u e = absurd cc

pub imports_good : (m : Machine) (d : ModuleDecl) (imports : List Extern) (u : ⊤) → imports_fit m d imports ≡ Ok u →
    AreGiven m d imports
imports_good m d imports u e =
    let h : AllHold (list_all (owns_extern m) imports) (nat_eq d.engine.0 m.engine.number)
    (nat_eq (length imports) (length d.imports)) (first_unmatched_import m 0 d.imports imports) =
    all_hold (list_all (owns_extern m) imports) (nat_eq d.engine.0 m.engine.number)
    (nat_eq (length imports) (length d.imports)) (first_unmatched_import m 0 d.imports imports) u e in
    record {
      of_engine = eqb-true d.engine.0 m.engine.number h.two;
      as_many = eqb-true (length imports) (length d.imports) h.three;
      each = λ k declared given p q.
          given_good m declared.ty given (none_unmatched m 0 d.imports imports h.none k declared given p q);
    }

-- a present size that fits does so when it is greater
size_more : (minimum : ℕ) (maximum actual : Option ℕ) (a b : ℕ) → a ≤ b →
    limits_fit minimum maximum actual a ≡ true → limits_fit minimum maximum actual b ≡ true
size_more minimum maximum actual a b more p =
    let q : (leb minimum a ≡ true) × (maximum_fits maximum actual ≡ true) = both _ _ p in
    and_from _ _ (le-leb minimum b (omega (arith, leb-true minimum a q.0, more))) q.1

-- ---- in a later store

-- the objects of an import are there later, too, and match
module _ (m after : Machine) (e : Extends m after) (s : IsWellFormed m) where
  pub function_later : (declared : Signature) (f : ℕ) → HasFunction m declared f → HasFunction after declared f
  function_later declared f h =
      record { ty = h.ty; found = type_later m after f h.ty s e h.found; fits = h.fits }

  pub table_later : (declared : TableParts) (n : ℕ) → HasTable m declared n → HasTable after declared n
  table_later declared n h =
      let t : There after.tables n (IsLaterTable h.table) = e.tables n h.table h.found in
      record {
        table = t.member;
        found = t.found;
        fits = subst (λ u. table_fits declared u (length t.member.elements) ≡ true) (sym t.says.ty)
            (and_from _ _ (both _ _ h.fits).0
            (size_more declared.minimum declared.maximum h.table.ty.maximum (length h.table.elements)
            (length t.member.elements) t.says.size (both _ _ h.fits).1));
      }

  pub memory_later : (declared : MemoryParts) (n : ℕ) → HasMemory m declared n → HasMemory after declared n
  memory_later declared n h =
      let t : There after.memories n (IsLaterMemory h.memory) = e.memories n h.memory h.found in
      record {
        memory = t.member;
        found = t.found;
        fits = subst (λ u. memory_fits declared u (pages t.member) ≡ true) (sym t.says.ty)
            (and_from _ _ (both _ _ h.fits).0
            (size_more declared.minimum declared.maximum h.memory.ty.maximum (pages h.memory) (pages t.member)
            (pages_more h.memory t.member t.says) (both _ _ h.fits).1));
      }

  pub global_later : (declared : GlobalParts) (n : ℕ) → HasGlobal m declared n → HasGlobal after declared n
  global_later declared n h =
      let t : There after.globals n (IsLaterGlobal h.global) = e.globals n h.global h.found in
      record { global = t.member; found = t.found; fits = ap (global_fits declared) t.says.ty ∙ h.fits }

  pub tag_later : (declared : Signature) (n : ℕ) → HasTag m declared n → HasTag after declared n
  tag_later declared n h =
      let t : There after.tags n (IsSame h.ty) = e.tags n h.ty h.found in
      record { ty = t.member; found = t.found; fits = ap (same declared) t.says ∙ h.fits }

  as_later : (declared : ExternType) (given : Extern) → IsGivenAs m declared given → IsGivenAs after declared given
  as_later declared given h = record {
    function = agree_by (as_function declared) (extern_func given) (λ t h. HasFunction m t (func_index h))
        (λ t h. HasFunction after t (func_index h)) (λ t h. function_later t (func_index h)) h.function;
    table = agree_by (as_table declared) (extern_table given) (λ t h. HasTable m t (table_index h))
        (λ t h. HasTable after t (table_index h)) (λ t h. table_later t (table_index h)) h.table;
    memory = agree_by (as_memory declared) (extern_memory given) (λ t h. HasMemory m t (memory_index h))
        (λ t h. HasMemory after t (memory_index h)) (λ t h. memory_later t (memory_index h)) h.memory;
    global = agree_by (as_global declared) (extern_global given) (λ t h. HasGlobal m t (global_index h))
        (λ t h. HasGlobal after t (global_index h)) (λ t h. global_later t (global_index h)) h.global;
    tag = agree_by (as_tag declared) (extern_tag given) (λ t h. HasTag m t (tag_index h))
        (λ t h. HasTag after t (tag_index h)) (λ t h. tag_later t (tag_index h)) h.tag;
  }

  pub given_later : (d : ModuleDecl) (imports : List Extern) → AreGiven m d imports → AreGiven after d imports
  given_later d imports h = record {
    of_engine = h.of_engine ∙ sym (ap (λ (g : EngineParts). g.number) e.engine);
    as_many = h.as_many;
    each = λ k declared given p q. as_later declared.ty given (h.each k declared given p q);
  }
