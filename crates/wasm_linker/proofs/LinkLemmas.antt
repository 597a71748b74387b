-- What an instantiation by names comes to, by what was found for the imports.
use Rattle.std.proofs.Common.{◌≡◌, ℕ, ◌+◌, List, [], ◌∷◌, Option, Some, None, is_none, cond, option_map, refl, sym, ap, ◌∙◌, subst, inl, inr, Result, Ok, Err}
use Rattle.std.specs.Prelude.{◌↔◌, IsSome, option_and_then, ⊤, IfErr}
use Rattle.std.specs.List.{position_from}
use Rattle.wasm_syntax.specs.declared.declarations.ImportDecl.{ImportDecl}
use Rattle.wasm_syntax.specs.declared.declarations.ModuleDecl.{ModuleDecl}
use Rattle.wasm_values.specs.declared.externals.Extern.{Extern}
use Rattle.wasm_values.specs.declared.handles.Instance.{Instance}
use Rattle.wasm_values.specs.declared.refusals.Refusal.{Refusal}
use Rattle.wasm_values.specs.declared.refusals.Refusal.TheVariants as refusal
use Rattle.spec_execution.specs.Instantiation.{imports_fit}
use Rattle.spec_machine.specs.Machine.{Machine}
use Rattle.linker_map.specs.Imports.{found_for, is_unknown, first_unknown, resolved}
use Rattle.linker_map.specs.Linkers.{LinkerParts}
use Rattle.linker_map.specs.declared.faults.LinkFault.{LinkFault}
use Rattle.linker_map.specs.declared.faults.LinkFault.TheVariants.{UnknownImport, Refused, OutOfMemory}
use Rattle.wasm_call.specs.Outside.{Moving, Surrounded}
use Rattle.wasm_instance.specs.Instances.{Instantiated}
use Rattle.linker_map.specs.Faults.{told_fault}
use Rattle.wasm_linker.specs.Linking.{told, Tells, Links, OfRefusal}
use Rattle.wasm_linker.proofs.FitLemmas.{told_plain}

-- ---- what is resolved

-- where there is an object for each import, none is unknown
known_from : (l : LinkerParts) (n : ℕ) (imports : List ImportDecl) (items : List Extern) →
    resolved l imports ≡ Some items → position_from (is_unknown l) n imports ≡ None
known_from l n [] items e = refl
known_from l n (import ∷ more) items e =
    by (found_for l import) (resolved l more) e (λ xs is. known_from l (n + 1) more xs is)
  where
    by : (o : Option Extern) (r : Option (List Extern)) →
        option_and_then (λ x. option_map (λ xs. x ∷ xs) r) o ≡ Some items →
        ((xs : List Extern) → r ≡ Some xs → position_from (is_unknown l) (n + 1) more ≡ None) →
        cond (is_none o) (Some n) (position_from (is_unknown l) (n + 1) more) ≡ None
    by None r e rest = absurd cc
    by (Some x) None e rest = absurd cc
    by (Some x) (Some xs) e rest = rest xs refl

pub known : (l : LinkerParts) (imports : List ImportDecl) (items : List Extern) → resolved l imports ≡ Some items →
    first_unknown l imports ≡ None
known l imports items e = known_from l 0 imports items e

pub same_items : (o : Option (List Extern)) (items others : List Extern) → o ≡ Some items → o ≡ Some others → items ≡ others
same_items o items others e f = cc

-- ---- what is told

pub never_unknown : (why : Refusal) (i : ℕ) → told_fault why ≡ UnknownImport i → ⊥
never_unknown refusal.OutOfMemory i e = cc
never_unknown why i e = cc

pub short_cause : (why : Refusal) → told_fault why ≡ OutOfMemory → why ≡ refusal.OutOfMemory
short_cause refusal.OutOfMemory e = refl
short_cause why e = absurd cc

-- an answer names an import exactly where it is the first that is unknown
abbrev pub Names : {A : Type 0} → Result A LinkFault → Option ℕ → Type 0
Names answer o = (i : ℕ) → (answer ≡ Err (UnknownImport i)) ↔ (o ≡ Some i)

pub names_along : {A : Type 0} (answer : Result A LinkFault) (o p : Option ℕ) → o ≡ p → Names answer o → Names answer p
names_along answer o p e names = subst (Names answer) e names

-- another answer names the same, where the two name none, or are one fault
pub both_name : {A B : Type 0} (answer : Result A LinkFault) (other : Result B LinkFault) (o : Option ℕ) →
    ((i : ℕ) → answer ≡ Err (UnknownImport i) → other ≡ Err (UnknownImport i)) →
    ((i : ℕ) → other ≡ Err (UnknownImport i) → answer ≡ Err (UnknownImport i)) → Names answer o → Names other o
both_name answer other o there back names = λ i. (λ e. (names i).0 (back i e), λ e. there i ((names i).1 e))

pub ok_names : {A B : Type 0} (a : A) (other : Result B LinkFault) (o : Option ℕ) →
    ((i : ℕ) → other ≡ Err (UnknownImport i) → ⊥) → Names (Ok a) o → Names other o
ok_names {A} a other o none names =
    both_name (Ok a) other o (λ i e. absurd (differ i e)) (λ i e. absurd (none i e)) names
  where
    differ : (i : ℕ) → ◌≡◌ {A = Result A LinkFault} (Ok a) (Err (UnknownImport i)) → ⊥
    differ i e = cc

pub ok_names_none : {B : Type 0} (b : B) (i : ℕ) → ◌≡◌ {A = Result B LinkFault} (Ok b) (Err (UnknownImport i)) → ⊥
ok_names_none b i e = cc

pub told_names_none : {B : Type 0} (why : Refusal) (fault : LinkFault) (i : ℕ) → fault ≡ told_fault why →
    ◌≡◌ {A = Result B LinkFault} (Err fault) (Err (UnknownImport i)) → ⊥
told_names_none why fault i is e = never_unknown why i (sym is ∙ same fault (UnknownImport i) e)
  where
    same : {B : Type 0} (a b : LinkFault) → ◌≡◌ {A = Result B LinkFault} (Err a) (Err b) → a ≡ b
    same a b q = cc

pub fault_names : {A B : Type 0} (fault : LinkFault) (o : Option ℕ) → Names {A = A} (Err fault) o → Names {A = B} (Err fault) o
fault_names fault o names = both_name (Err fault) (Err fault) o (λ i e. moved fault (UnknownImport i) e) (λ i e. moved fault (UnknownImport i) e) names
  where
    moved : {A B : Type 0} (a b : LinkFault) → ◌≡◌ {A = Result A LinkFault} (Err a) (Err b) → ◌≡◌ {A = Result B LinkFault} (Err a) (Err b)
    moved a b q = cc

-- an import that is unknown, where none is named
pub none_named : {A P : Type 0} (answer : Result A LinkFault) (o : Option ℕ) →
    ((i : ℕ) → answer ≡ Err (UnknownImport i) → ⊥) → Names answer o → IsSome o → P
none_named answer None none names some = absurd cc
none_named answer (Some i) none names some = absurd (none i ((names i).1 refl))

pub short_names_none : {A : Type 0} (fault : LinkFault) (i : ℕ) → fault ≡ OutOfMemory →
    ◌≡◌ {A = Result A LinkFault} (Err fault) (Err (UnknownImport i)) → ⊥
short_names_none fault i is e = cc

-- a refusal for want of memory, as it was told
pub told_short : {B : Type 0} (why : Refusal) (fault : LinkFault) → fault ≡ told_fault why →
    ◌≡◌ {A = Result B LinkFault} (Err fault) (Err OutOfMemory) → ◌≡◌ {A = Result B Refusal} (Err why) (Err refusal.OutOfMemory)
told_short why fault is e = ap Err (short_cause why (sym is ∙ same fault OutOfMemory e))
  where
    same : {B : Type 0} (a b : LinkFault) → ◌≡◌ {A = Result B LinkFault} (Err a) (Err b) → a ≡ b
    same a b q = cc

-- what an instantiation over the objects that were listed comes to
pub listed_links : {T H E : Type 0} (moves : Moving T H E) (d : ModuleDecl) (listed items : List Extern)
    (old new : Surrounded T H E) (answer : Result Instance Refusal) (result : Result Instance LinkFault) →
    result ≡ told answer → listed ≡ items → Instantiated moves d listed old answer new →
    Links moves d items old result new
listed_links {T} {H} {E} moves d listed items old new answer result is same h =
    inr (subst (λ (xs : List Extern). Tells moves d xs old result new) same
    (record { answer = answer; told_so = is; instantiated = h }))

-- a refusal of the objects that were listed is told
pub listed_due : {A : Type 0} (m : Machine) (d : ModuleDecl) (listed items : List Extern) (answer : Result A Refusal)
    (result : Result A LinkFault) → result ≡ told answer → listed ≡ items →
    IfErr (imports_fit m d listed) (λ why. answer ≡ Err why) →
    IfErr (imports_fit m d items) (λ why. result ≡ Err (Refused why))
listed_due {A} m d listed items answer result is same h =
    by (imports_fit m d items) refl
    (subst (λ (xs : List Extern). IfErr (imports_fit m d xs) (λ why. answer ≡ Err why)) same h)
  where
    by : (due : Result ⊤ Refusal) → imports_fit m d items ≡ due → IfErr due (λ why. answer ≡ Err why) →
        IfErr due (λ why. result ≡ Err (Refused why))
    by (Ok u) e h = tt
    by (Err why) e h = is ∙ ap told h ∙ ap Err (sym (told_plain m d items why e))

-- ---- what holds of each refusal that is told

as_told : (Says : Refusal → Type 0) (why : Refusal) → Says why → OfRefusal Says (told_fault why)
as_told Says refusal.OutOfMemory h = tt
as_told Says why h = h

pub listed_causes : (Says : Refusal → Type 0) (why : Refusal) (fault : LinkFault) → fault ≡ told_fault why → Says why →
    OfRefusal Says fault
listed_causes Says why fault is h = subst (OfRefusal Says) (sym is) (as_told Says why h)

-- an import is unknown, or there was no memory
pub named_causes : {A : Type 0} (Says : Refusal → Type 0) (fault : LinkFault) (o : Option ℕ) →
    (o ≡ None → fault ≡ OutOfMemory) → Names {A = A} (Err fault) o → OfRefusal Says fault
named_causes Says fault None short names = subst (OfRefusal Says) (sym (short refl)) tt
named_causes {A} Says fault (Some i) short names =
    subst (OfRefusal Says) (sym (same fault (UnknownImport i) ((names i).1 refl))) tt
  where
    same : (a b : LinkFault) → ◌≡◌ {A = Result A LinkFault} (Err a) (Err b) → a ≡ b
    same a b q = cc
