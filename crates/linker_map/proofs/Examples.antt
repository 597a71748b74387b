-- Worked examples of the definitions, each by computation.
use Rattle.std.proofs.Common.{◌≡◌, ℕ, true, List, [], ◌∷◌, Some, None, Ok, Err, refl}
use Rattle.wasm_types.specs.declared.extern_type.ExternType.{ExternType}
use Rattle.wasm_syntax.specs.declared.declarations.ImportDecl.{ImportDecl}
use Rattle.wasm_values.specs.declared.store_id.StoreId.{StoreId}
use Rattle.wasm_values.specs.declared.externals.Extern.{Extern}
use Rattle.wasm_values.specs.declared.externals.Extern.TheVariants as x
use Rattle.wasm_values.specs.Handles.{func_of, memory_of}
use Rattle.linker_map.specs.declared.faults.LinkFault.TheVariants.{AlreadyDefined, UnknownName}
use Rattle.linker_map.specs.Imports.{first_unknown, resolved}
use Rattle.linker_map.specs.Linkers.{LinkerParts, nothing, found, with_item, define_item, alias}

abbrev env : List ℕ
env = 101 ∷ 110 ∷ 118 ∷ []

abbrev put : List ℕ
put = 112 ∷ 117 ∷ 116 ∷ []

module _ (id : StoreId) (ty : ExternType) where
  abbrev first : Extern
  first = x.Func (func_of id 0)

  abbrev second : Extern
  second = x.Memory (memory_of id 0)

  abbrev one : LinkerParts
  one = with_item env put first nothing

  abbrev both : LinkerParts
  both = with_item put env second one

  -- a pair means what it was given, and the names of a pair are not exchanged
  defines : define_item env put first nothing ≡ Ok one
  defines = refl

  finds : (found one env put ≡ Some first) × (found one put env ≡ None) × (found one env env ≡ None)
  finds = (refl, refl, refl)

  -- an empty name is a name as any other
  finds_empty : (found (with_item [] [] second one) [] [] ≡ Some second) × (found one [] [] ≡ None)
  finds_empty = (refl, refl)

  -- a pair that is there is defined again under shadowing alone, and keeps its place
  refuses_again : define_item env put second one ≡ Err AlreadyDefined
  refuses_again = refl

  shadows : define_item env put second (record both { shadowing = true })
      ≡ Ok (record { spaces = (env, (put, second) ∷ []) ∷ (put, (env, second) ∷ []) ∷ []; shadowing = true })
  shadows = refl

  -- another name beside it stands in the same space, in the order of the names
  stands_beside : define_item env env second both
      ≡ Ok (record both { spaces = (env, (env, second) ∷ (put, first) ∷ []) ∷ (put, (env, second) ∷ []) ∷ [] })
  stands_beside = refl

  -- the second pair is looked at only where the first is there; to mean what it means is to be defined again, too
  aliases : (alias env put put env one ≡ Ok (with_item put env first one)) × (alias put env env put one ≡ Err UnknownName)
      × (alias env put env put one ≡ Err AlreadyDefined)
  aliases = (refl, refl, refl)

  abbrev import : List ℕ → List ℕ → ImportDecl
  import space name = record { «module» = space; name = name; ty = ty }

  -- in the order of the imports, and as often as one is wanted
  resolves : resolved both (import put env ∷ import env put ∷ import put env ∷ [])
      ≡ Some (second ∷ first ∷ second ∷ [])
  resolves = refl

  -- the first that is not there is named
  names_the_first : (first_unknown both (import put env ∷ import env env ∷ import put put ∷ []) ≡ Some 1)
      × (resolved both (import put env ∷ import env env ∷ []) ≡ None) × (first_unknown both [] ≡ None)
  names_the_first = (refl, refl, refl)
