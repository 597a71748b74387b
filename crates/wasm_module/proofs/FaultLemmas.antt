-- What a test of a rule found.
use Rattle.std.proofs.Common.{◌≡◌, sym, Option, Some, None, Result, Ok, Err, IfOk, IfErr}
use Rattle.wasm_syntax.specs.declared.module_fault.Place.{Place}
use Rattle.wasm_module.specs.Faults.{place_of}

pub place_is : {A : Type 0} (r : Result A Place) (o : Option Place) → IfOk r (λ a. o ≡ None) → IfErr r (λ place. o ≡ Some place) → place_of r ≡ o
place_is (Ok a) o p q = sym p
place_is (Err place) o p q = sym q
