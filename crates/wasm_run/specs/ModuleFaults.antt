-- The first of a script's modules that breaks a rule. This project's own.
use Rattle.std.specs.Prelude.{◌≡◌, ℕ, suc, List, [], ◌∷◌, Option, Some, None, option_map}
use Rattle.std.specs.Option.{option_or}
use Rattle.wasm_syntax.specs.FirstBroken.{first_broken}
use Rattle.wasm_syntax.specs.declared.declarations.ModuleDecl.{ModuleDecl}
use Rattle.wasm_syntax.specs.declared.module_fault.Place.{Place}
use Rattle.wasm_syntax.specs.declared.module_fault.Rule.{Rule}
use Rattle.wasm_run.specs.declared.status.Status.{Status}
use Rattle.wasm_run.specs.declared.status.Status.TheVariants.{InvalidModule, OutOfMemory}

-- of modules that are numbered from n on, the first one that breaks a rule, with the first rule that it breaks, and where
abbrev pub first_invalid : ℕ → List ModuleDecl → Option (ℕ × (Rule × Place))
first_invalid n [] = None
first_invalid n (d ∷ ds) =
    option_or (option_map (λ broken. (n, broken)) (first_broken d)) (first_invalid (suc n) ds)

-- a status names it; that memory ran out says nothing of the modules
abbrev pub IsFaultOf : List ModuleDecl → Status → Type 0
IsFaultOf modules (InvalidModule n rule place) = first_invalid 0 modules ≡ Some (n, (rule, place))
IsFaultOf modules OutOfMemory = Unit {0}
IsFaultOf modules status = ⊥
