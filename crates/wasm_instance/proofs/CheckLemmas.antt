-- What is told of imports: the refusal that is due, and never want of memory.
use Rattle.std.proofs.Common.{◌≡◌, ℕ, Bool, true, false, List, length, Option, Some, None, Result, Ok, Err, sym, ap, ◌∙◌, subst}
use Rattle.std.specs.List.{list_all}
use Rattle.std.specs.Prelude.{nat_eq, ⊤, IfErr}
use Rattle.wasm_syntax.specs.declared.declarations.ModuleDecl.{ModuleDecl}
use Rattle.wasm_values.specs.declared.externals.Extern.{Extern}
use Rattle.wasm_values.specs.declared.refusals.Refusal.{Refusal}
use Rattle.wasm_values.specs.declared.refusals.Refusal.TheVariants.{OutOfMemory, WrongStore, WrongEngine, ImportCount}
use Rattle.spec_execution.specs.Instantiation.{first_unmatched_import, no_unmatched_import, imports_fit}
use Rattle.spec_machine.specs.Machine.{Machine}
use Rattle.spec_machine.specs.Steps.{◌>>=◌, unless}
use Rattle.spec_machine.specs.Values.{owns_extern}

-- by the tests one after another
never : (own engine counted : Bool) (first : Option ℕ) →
    (unless WrongStore own
    >>= (λ _. unless WrongEngine engine >>= (λ _. unless ImportCount counted >>= (λ _. no_unmatched_import first))))
    ≡ Err OutOfMemory → ⊥
never false engine counted first e = cc
never true false counted first e = cc
never true true false first e = cc
never true true true None e = cc
never true true true (Some n) e = cc

-- they are refused for another cause than want of memory
pub never_short : (m : Machine) (d : ModuleDecl) (imports : List Extern) → imports_fit m d imports ≡ Err OutOfMemory → ⊥
never_short m d imports e =
    never (list_all (owns_extern m) imports) (nat_eq d.engine.0 m.engine.number)
    (nat_eq (length imports) (length d.imports)) (first_unmatched_import m 0 d.imports imports) e

-- what is due by one name of a store and of a module is due by another
pub fit_in : (m k : Machine) (x d : ModuleDecl) (imports : List Extern) → m ≡ k → x ≡ d → (said : Result ⊤ Refusal) →
    said ≡ imports_fit m x imports → imports_fit k d imports ≡ said
fit_in m k x d imports e f said is =
    sym (is ∙ ap (λ (n : Machine). imports_fit n x imports) e ∙ ap (λ (y : ModuleDecl). imports_fit k y imports) f)

-- the refusal that is due is told, and where none is due none
pub due_told : {A : Type 0} (due : Result ⊤ Refusal) (why : Refusal) (result : Result A Refusal) → due ≡ Err why →
    result ≡ Err why → IfErr due (λ w. result ≡ Err w)
due_told due why result e h = subst (λ (r : Result ⊤ Refusal). IfErr r (λ w. result ≡ Err w)) (sym e) h

pub none_told : {A : Type 0} (due : Result ⊤ Refusal) (result : Result A Refusal) → due ≡ Ok tt →
    IfErr due (λ w. result ≡ Err w)
none_told due result e = subst (λ (r : Result ⊤ Refusal). IfErr r (λ w. result ≡ Err w)) (sym e) tt
