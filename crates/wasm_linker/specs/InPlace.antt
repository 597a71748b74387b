-- What is asked of the objects that a linker has for the imports of a module, each where it is, without a list of them.
-- WebAssembly core specification, "Execution, modules": external typing, instantiation; the order of the checks, and that
-- no list is made, are this project's own
use Rattle.std.specs.Prelude.{ℕ, suc, Bool, true, List, [], ◌∷◌, Option, Some, None, nat_eq, if◌then◌else◌, ⊤, Result, Ok, Err}
use Rattle.std.specs.List.{list_all}
use Rattle.wasm_types.specs.declared.extern_type.ExternType.{ExternType}
use Rattle.wasm_syntax.specs.declared.declarations.ImportDecl.{ImportDecl}
use Rattle.wasm_syntax.specs.declared.declarations.ModuleDecl.{ModuleDecl}
use Rattle.wasm_values.specs.declared.externals.Extern.{Extern}
use Rattle.wasm_values.specs.declared.refusals.Refusal.{Refusal}
use Rattle.wasm_values.specs.declared.refusals.Refusal.TheVariants.{WrongStore, WrongEngine}
use Rattle.spec_machine.specs.Machine.{Machine}
use Rattle.spec_machine.specs.Steps.{◌>>=◌, unless}
use Rattle.spec_machine.specs.Values.{owns_extern}
use Rattle.spec_execution.specs.Instantiation.{is_given, no_unmatched_import}
use Rattle.linker_map.specs.Imports.{found_for}
use Rattle.linker_map.specs.Linkers.{LinkerParts}
use Rattle.linker_map.specs.declared.faults.LinkFault.{LinkFault}
use Rattle.linker_map.specs.declared.faults.LinkFault.TheVariants.{Refused, OutOfMemory}

-- ---- of one import; one that is unknown is told before, so nothing is asked of it here

abbrev pub owns_found : Machine → Option Extern → Bool
owns_found m None = true
owns_found m (Some item) = owns_extern m item

abbrev pub fits_found : Machine → ExternType → Option Extern → Bool
fits_found m declared None = true
fits_found m declared (Some item) = is_given m declared item

abbrev pub owns_for : Machine → LinkerParts → ImportDecl → Bool
owns_for m l import = owns_found m (found_for l import)

-- ---- of all

-- the place of the first import whose object does not match, from this place on
abbrev pub first_unfit : Machine → LinkerParts → ℕ → List ImportDecl → Option ℕ
first_unfit m l n [] = None
first_unfit m l n (import ∷ more) =
    if fits_found m import.ty (found_for l import) then first_unfit m l (suc n) more else Some n

-- the checks of an instantiation, in their order; there are as many objects as imports
abbrev pub fit_in_place : Machine → ModuleDecl → LinkerParts → Result ⊤ Refusal
fit_in_place m d l = do
  _ ← unless WrongStore (list_all (owns_for m l) d.imports)
  _ ← unless WrongEngine (nat_eq d.engine.0 m.engine.number)
  no_unmatched_import (first_unfit m l 0 d.imports)

-- what is told where there is no memory for a list of the objects: the refusal that is due, or want of memory
abbrev pub told_unlisted : Result ⊤ Refusal → LinkFault
told_unlisted (Ok _) = OutOfMemory
told_unlisted (Err why) = Refused why
