-- A declaration is valid exactly where there is no first broken rule.
use Rattle.std.proofs.Common.{◌≡◌, ℕ, zero, suc, ◌+◌, Bool, true, false, List, [], ◌∷◌, Option, Some, None, option_map, refl, ap, subst, arith, if◌then◌else◌}
use Rattle.std.specs.Prelude.{slice_get, option_to_list}
use Rattle.wasm_syntax.specs.FirstBroken.{first_there, first_from, first_in, place, places, broken, all_broken, first_broken}
use Rattle.wasm_syntax.specs.Rules.{Tests, tests, IsKept, IsValid}
use Rattle.wasm_syntax.specs.declared.declarations.ModuleDecl.{ModuleDecl}
use Rattle.wasm_syntax.specs.declared.module_fault.Part.{Part}
use Rattle.wasm_syntax.specs.declared.module_fault.Part.TheVariants as part
use Rattle.wasm_syntax.specs.declared.module_fault.Place.{Place}
use Rattle.wasm_syntax.specs.declared.module_fault.Rule.{Rule}
use Rattle.wasm_syntax.specs.declared.module_fault.Rule.TheVariants as rule

-- of a list of which the first that is there is none, no member is there
none_there : {A : Type 0} (os : List (Option A)) → first_there os ≡ None → (n : ℕ) (o : Option A) → slice_get os n ≡ Some o → o ≡ None
none_there [] p n o e = absurd cc
none_there (Some a ∷ os) p n o e = absurd cc
none_there (None ∷ os) p zero o e = cc
none_there (None ∷ os) p (suc n) o e = none_there os p n o e

map_none : {A B : Type 0} (f : A → B) (o : Option A) → option_map f o ≡ None → o ≡ None
map_none f None p = refl
map_none f (Some a) p = absurd cc

if_none : {A : Type 0} (b : Bool) (a : A) (o : Option A) → (if b then Some a else o) ≡ None → (b ≡ false) × (o ≡ None)
if_none true a o p = absurd cc
if_none false a o p = (refl, p)

-- where no item is first, none passes the test
none_from : {A : Type 0} (test : ℕ → A → Bool) (n : ℕ) (xs : List A) → first_from test n xs ≡ None → (k m : ℕ) (a : A) → m ≡ n + k → slice_get xs k ≡ Some a → test m a ≡ false
none_from test n [] p k m a at e = absurd cc
none_from test n (x ∷ xs) p zero m a at e =
    let q = if_none (test n x) n (first_from test (suc n) xs) p in
    let same : m ≡ n = omega (arith, at) in
    cc
none_from test n (x ∷ xs) p (suc k) m a at e =
    let q = if_none (test n x) n (first_from test (suc n) xs) p in
    let next : m ≡ suc n + k = omega (arith, at) in
    none_from test (suc n) xs q.1 k m a next e

pub none_in : {A : Type 0} (p : Part) (test : ℕ → A → Bool) (xs : List A) → first_in p test xs ≡ None → (n : ℕ) (a : A) → slice_get xs n ≡ Some a → test n a ≡ false
none_in p test xs e n a at = none_from test 0 xs (map_none _ _ e) n n a (omega arith) at

-- and the other way round
from_none : {A : Type 0} (test : ℕ → A → Bool) (n : ℕ) (xs : List A) → ((k m : ℕ) (a : A) → m ≡ n + k → slice_get xs k ≡ Some a → test m a ≡ false) → first_from test n xs ≡ None
from_none test n [] h = refl
from_none test n (x ∷ xs) h =
    let here : test n x ≡ false = h 0 n x (omega arith) refl in
    let there : first_from test (suc n) xs ≡ None = from_none test (suc n) xs (λ k m a at e. h (suc k) m a (omega (arith, at)) e) in
    cc

pub in_none : {A : Type 0} (p : Part) (test : ℕ → A → Bool) (xs : List A) → ((n : ℕ) (a : A) → slice_get xs n ≡ Some a → test n a ≡ false) → first_in p test xs ≡ None
in_none p test xs h = ap (option_map (place p)) (from_none test 0 xs (λ k m a at e. h m a (subst (λ (n : ℕ). slice_get xs n ≡ Some a) (omega (arith, at)) e)))

none_kept : (t : Tests) (d : ModuleDecl) → first_there (places t d) ≡ None → IsKept t d
none_kept t d p = record {
  in_types = none_in part.Types t.types d.types (at 0 _ refl);
  in_imports = none_in part.Imports t.imports d.imports (at 1 _ refl);
  in_functions = none_in part.Functions t.functions d.functions (at 2 _ refl);
  in_tables = none_in part.Tables t.tables d.tables (at 3 _ refl);
  in_memories = none_in part.Memories t.memories d.memories (at 4 _ refl);
  in_globals = none_in part.Globals t.globals d.globals (at 5 _ refl);
  in_tags = none_in part.Tags t.tags d.tags (at 6 _ refl);
  in_exports = none_in part.Exports t.exports d.exports (at 7 _ refl);
  in_elements = none_in part.Elements t.elements d.elements (at 8 _ refl);
  in_datas = none_in part.Datas t.datas d.datas (at 9 _ refl);
  in_start = none_in part.Start t.start (option_to_list d.start) (at 10 _ refl);
}
  where
    at : (n : ℕ) (o : Option Place) → slice_get (places t d) n ≡ Some o → o ≡ None
    at = none_there (places t d) p

kept_none : (t : Tests) (d : ModuleDecl) → IsKept t d → first_there (places t d) ≡ None
kept_none t d k =
    let types = in_none part.Types t.types d.types k.in_types in
    let imports = in_none part.Imports t.imports d.imports k.in_imports in
    let functions = in_none part.Functions t.functions d.functions k.in_functions in
    let tables = in_none part.Tables t.tables d.tables k.in_tables in
    let memories = in_none part.Memories t.memories d.memories k.in_memories in
    let globals = in_none part.Globals t.globals d.globals k.in_globals in
    let tags = in_none part.Tags t.tags d.tags k.in_tags in
    let exports = in_none part.Exports t.exports d.exports k.in_exports in
    let elements = in_none part.Elements t.elements d.elements k.in_elements in
    let datas = in_none part.Datas t.datas d.datas k.in_datas in
    let start = in_none part.Start t.start (option_to_list d.start) k.in_start in
    rw (types, imports, functions, tables, memories, globals, tags, exports, elements, datas, start) refl

-- what a rule says of each item, and that it is broken nowhere
pub broken_none : (r : Rule) (d : ModuleDecl) → broken r d ≡ None → IsKept (tests r d) d
unfolding broken
broken_none r d p = none_kept (tests r d) d p

pub none_broken : (r : Rule) (d : ModuleDecl) → IsKept (tests r d) d → broken r d ≡ None
unfolding broken
none_broken r d k = kept_none (tests r d) d k

-- no rule is first exactly where each is kept
pub first_valid : (d : ModuleDecl) → first_broken d ≡ None → IsValid d
first_valid d p r = broken_none r d (nowhere r)
  where
    at : (n : ℕ) (o : Option (Rule × Place)) → slice_get (all_broken d) n ≡ Some o → o ≡ None
    at = none_there (all_broken d) p

    nowhere : (r : Rule) → broken r d ≡ None
    nowhere rule.Size = map_none _ (broken rule.Size d) (at 0 _ refl)
    nowhere rule.Engine = map_none _ (broken rule.Engine d) (at 1 _ refl)
    nowhere rule.Index = map_none _ (broken rule.Index d) (at 2 _ refl)
    nowhere rule.Local = map_none _ (broken rule.Local d) (at 3 _ refl)
    nowhere rule.Shape = map_none _ (broken rule.Shape d) (at 4 _ refl)
    nowhere rule.Const = map_none _ (broken rule.Const d) (at 5 _ refl)
    nowhere rule.Element = map_none _ (broken rule.Element d) (at 6 _ refl)
    nowhere rule.ExportName = map_none _ (broken rule.ExportName d) (at 7 _ refl)
    nowhere rule.Start = map_none _ (broken rule.Start d) (at 8 _ refl)
    nowhere rule.Body = map_none _ (broken rule.Body d) (at 9 _ refl)

pub valid_first : (d : ModuleDecl) → IsValid d → first_broken d ≡ None
valid_first d v =
    let nowhere : (r : Rule) → broken r d ≡ None = λ r. none_broken r d (v r) in
    rw (nowhere rule.Size, nowhere rule.Engine, nowhere rule.Index, nowhere rule.Local, nowhere rule.Shape, nowhere rule.Const, nowhere rule.Element, nowhere rule.ExportName, nowhere rule.Start, nowhere rule.Body) refl
