-- The objects that a linker has for the imports of a module.
-- WebAssembly core specification, "Structure, modules, imports"; that a host finds them by names is this project's own
use Rattle.std.specs.Prelude.{ℕ, Bool, is_none, List, [], ◌∷◌, Option, Some, option_map, option_and_then}
use Rattle.std.specs.List.{position_from}
use Rattle.wasm_syntax.specs.declared.declarations.ImportDecl.{ImportDecl}
use Rattle.wasm_values.specs.declared.externals.Extern.{Extern}
use Rattle.linker_map.specs.Linkers.{LinkerParts, found}

abbrev pub found_for : LinkerParts → ImportDecl → Option Extern
found_for l import = found l import.«module» import.name

-- the number of the first import whose pair of names means nothing
abbrev pub is_unknown : LinkerParts → ImportDecl → Bool
is_unknown l import = is_none (found_for l import)

abbrev pub first_unknown : LinkerParts → List ImportDecl → Option ℕ
first_unknown l imports = position_from (is_unknown l) 0 imports

-- what each import's pair means, in the order of the imports; where one means nothing there is no such list
abbrev pub resolved : LinkerParts → List ImportDecl → Option (List Extern)
resolved l [] = Some []
resolved l (import ∷ more) =
    option_and_then (λ item. option_map (λ items. item ∷ items) (resolved l more)) (found_for l import)
