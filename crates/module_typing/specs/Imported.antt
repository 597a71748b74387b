-- The imports of one kind.
use Rattle.std.specs.Prelude.{List, map, filter_map, Option}
use Rattle.std.specs.Borrow.{Bor}
use Rattle.wasm_types.specs.declared.extern_type.ExternType.{ExternType}
use Rattle.wasm_syntax.specs.declared.declarations.ImportDecl.{ImportDecl}

-- the types of the imports of one kind, in order; this project's own
abbrev pub of_kind : {A : Type 0} → (ExternType → Option A) → List ImportDecl → List A
of_kind as_kind imports = filter_map (λ (import : ImportDecl). as_kind import.ty) imports

-- what references lead to
abbrev pub seen : {A : Type 0} → List (Bor A) → List A
seen refs = map (λ r. r.now) refs
