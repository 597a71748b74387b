-- What is due for the words of a call over a module that was read, validated and is given the bytes before it.
use Rattle.std.proofs.Common.{◌≡◌, ℕ, List, Option, None, Result, Ok, Err, ap, sym, ◌∙◌, subst}
use Rattle.std.specs.Prelude.{IfErr}
use Rattle.wasm_syntax.specs.FirstBroken.{first_broken}
use Rattle.wasm_syntax.specs.declared.declarations.ModuleDecl.{ModuleDecl}
use Rattle.wasm_syntax.specs.declared.module_fault.Place.{Place}
use Rattle.wasm_syntax.specs.declared.module_fault.Rule.{Rule}
use Rattle.binary_types.specs.declared.faults.BinaryFault.{BinaryFault}
use Rattle.binary_run.specs.Calls.{Call, behind_bytes, call_in_module, call_in_valid, call_of_function, call_within, given_bytes, module_in, IsDue}
use Rattle.binary_run.specs.Exports.{exported_function}
use Rattle.binary_run.specs.Words.{Asked}
use Rattle.binary_run.specs.declared.status.Status.{Status}

within : (a : Asked) (input behind : List ℕ) (bytes : Option (List ℕ)) (decl guest : ModuleDecl) →
    behind ≡ behind_bytes a.options.bytes input → module_in behind ≡ Ok decl → first_broken decl ≡ None → guest ≡ decl →
    bytes ≡ given_bytes a.options.bytes input →
    call_of_function a guest bytes (exported_function guest a.name) ≡ call_within a input
within a input behind bytes decl guest b m f g e =
    ap (λ (d : ModuleDecl). call_of_function a d bytes (exported_function d a.name)) g
    ∙ sym (ap (λ (o : Option (Rule × Place)). call_in_valid a decl bytes o) f)
    ∙ sym (ap (λ (r : Result ModuleDecl BinaryFault). call_in_module a bytes r) m)
    ∙ ap (λ (p : Option (List ℕ)). call_in_module a p (module_in behind)) e
    ∙ ap (λ (xs : List ℕ). call_in_module a (given_bytes a.options.bytes input) (module_in xs)) b

-- a status of the arguments is that of the whole input
pub due_within : {A : Type 0} (a : Asked) (input slice behind : List ℕ) (bytes : Option (List ℕ)) (decl guest : ModuleDecl)
    (result : Result A Status) (status : Status) → result ≡ Err status → slice ≡ input →
    behind ≡ behind_bytes a.options.bytes slice → module_in behind ≡ Ok decl → first_broken decl ≡ None → guest ≡ decl →
    bytes ≡ given_bytes a.options.bytes input →
    IsDue (call_of_function a guest bytes (exported_function guest a.name)) status →
    IfErr result (λ s. IsDue (call_within a input) s)
due_within {A} a input slice behind bytes decl guest result status r s b m f g e due =
    let same = within a input behind bytes decl guest (b ∙ ap (λ (xs : List ℕ). behind_bytes a.options.bytes xs) s) m f g e in
    subst (λ (x : Result A Status). IfErr x (λ s. IsDue (call_within a input) s)) (sym r)
    (subst (λ (d : Result Call Status). IsDue d status) same due)
