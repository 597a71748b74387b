-- Where each rule is broken first, by the parts that it speaks of.
use Rattle.std.proofs.Common.{◌≡◌, ℕ, suc, List, [], ◌∷◌, None, refl, ap, option_map}
use Rattle.std.specs.Prelude.{option_to_list}
use Rattle.wasm_syntax.specs.FirstBroken.{first_there, first_from, first_in, place, broken}
use Rattle.wasm_syntax.specs.Rules.{never, size, engine, index, local, shape, constants, element, export_name, start, body}
use Rattle.wasm_syntax.specs.declared.declarations.ModuleDecl.{ModuleDecl}
use Rattle.wasm_syntax.specs.declared.module_fault.Part.{Part}
use Rattle.wasm_syntax.specs.declared.module_fault.Part.TheVariants as part
use Rattle.wasm_syntax.specs.declared.module_fault.Rule.TheVariants as rule

-- no item of a part that the rule does not speak of
never_from : {A : Type 0} (n : ℕ) (xs : List A) → first_from never n xs ≡ None
never_from n [] = refl
never_from n (x ∷ xs) = never_from (suc n) xs

pub never_in : {A : Type 0} (p : Part) (xs : List A) → first_in p never xs ≡ None
never_in p xs = ap (option_map (place p)) (never_from 0 xs)

pub broken_size : (d : ModuleDecl) → broken rule.Size d ≡ first_there (
    first_in part.Types (size d).types d.types
    ∷ first_in part.Imports (size d).imports d.imports
    ∷ first_in part.Functions (size d).functions d.functions
    ∷ first_in part.Tables (size d).tables d.tables
    ∷ first_in part.Memories (size d).memories d.memories
    ∷ first_in part.Globals (size d).globals d.globals
    ∷ first_in part.Tags (size d).tags d.tags
    ∷ first_in part.Exports (size d).exports d.exports
    ∷ first_in part.Elements (size d).elements d.elements
    ∷ first_in part.Datas (size d).datas d.datas ∷ [])
unfolding broken
broken_size d = rw (never_in part.Start (option_to_list d.start)) refl

pub broken_engine : (d : ModuleDecl) → broken rule.Engine d ≡ first_there (
    first_in part.Types (engine d).types d.types
    ∷ first_in part.Imports (engine d).imports d.imports
    ∷ first_in part.Functions (engine d).functions d.functions
    ∷ first_in part.Tables (engine d).tables d.tables
    ∷ first_in part.Globals (engine d).globals d.globals
    ∷ first_in part.Elements (engine d).elements d.elements ∷ [])
unfolding broken
broken_engine d = rw (never_in part.Memories d.memories, never_in part.Tags d.tags, never_in part.Exports d.exports, never_in part.Datas d.datas, never_in part.Start (option_to_list d.start)) refl

pub broken_index : (d : ModuleDecl) → broken rule.Index d ≡ first_there (
    first_in part.Functions (index d).functions d.functions
    ∷ first_in part.Tags (index d).tags d.tags
    ∷ first_in part.Exports (index d).exports d.exports
    ∷ first_in part.Elements (index d).elements d.elements
    ∷ first_in part.Datas (index d).datas d.datas
    ∷ first_in part.Start (index d).start (option_to_list d.start) ∷ [])
unfolding broken
broken_index d = rw (never_in part.Types d.types, never_in part.Imports d.imports, never_in part.Tables d.tables, never_in part.Memories d.memories, never_in part.Globals d.globals) refl

pub broken_local : (d : ModuleDecl) → broken rule.Local d ≡ first_there (
    first_in part.Functions (local d).functions d.functions ∷ [])
unfolding broken
broken_local d = rw (never_in part.Types d.types, never_in part.Imports d.imports, never_in part.Tables d.tables, never_in part.Memories d.memories, never_in part.Globals d.globals, never_in part.Tags d.tags, never_in part.Exports d.exports, never_in part.Elements d.elements, never_in part.Datas d.datas, never_in part.Start (option_to_list d.start)) refl

pub broken_shape : (d : ModuleDecl) → broken rule.Shape d ≡ first_there (
    first_in part.Functions (shape d).functions d.functions ∷ [])
unfolding broken
broken_shape d = rw (never_in part.Types d.types, never_in part.Imports d.imports, never_in part.Tables d.tables, never_in part.Memories d.memories, never_in part.Globals d.globals, never_in part.Tags d.tags, never_in part.Exports d.exports, never_in part.Elements d.elements, never_in part.Datas d.datas, never_in part.Start (option_to_list d.start)) refl

pub broken_const : (d : ModuleDecl) → broken rule.Const d ≡ first_there (
    first_in part.Tables (constants d).tables d.tables
    ∷ first_in part.Globals (constants d).globals d.globals
    ∷ first_in part.Elements (constants d).elements d.elements
    ∷ first_in part.Datas (constants d).datas d.datas ∷ [])
unfolding broken
broken_const d = rw (never_in part.Types d.types, never_in part.Imports d.imports, never_in part.Functions d.functions, never_in part.Memories d.memories, never_in part.Tags d.tags, never_in part.Exports d.exports, never_in part.Start (option_to_list d.start)) refl

pub broken_element : (d : ModuleDecl) → broken rule.Element d ≡ first_there (
    first_in part.Elements (element d).elements d.elements ∷ [])
unfolding broken
broken_element d = rw (never_in part.Types d.types, never_in part.Imports d.imports, never_in part.Functions d.functions, never_in part.Tables d.tables, never_in part.Memories d.memories, never_in part.Globals d.globals, never_in part.Tags d.tags, never_in part.Exports d.exports, never_in part.Datas d.datas, never_in part.Start (option_to_list d.start)) refl

pub broken_export_name : (d : ModuleDecl) → broken rule.ExportName d ≡ first_there (
    first_in part.Exports (export_name d).exports d.exports ∷ [])
unfolding broken
broken_export_name d = rw (never_in part.Types d.types, never_in part.Imports d.imports, never_in part.Functions d.functions, never_in part.Tables d.tables, never_in part.Memories d.memories, never_in part.Globals d.globals, never_in part.Tags d.tags, never_in part.Elements d.elements, never_in part.Datas d.datas, never_in part.Start (option_to_list d.start)) refl

pub broken_start : (d : ModuleDecl) → broken rule.Start d ≡ first_there (
    first_in part.Start (start d).start (option_to_list d.start) ∷ [])
unfolding broken
broken_start d = rw (never_in part.Types d.types, never_in part.Imports d.imports, never_in part.Functions d.functions, never_in part.Tables d.tables, never_in part.Memories d.memories, never_in part.Globals d.globals, never_in part.Tags d.tags, never_in part.Exports d.exports, never_in part.Elements d.elements, never_in part.Datas d.datas) refl

pub broken_body : (d : ModuleDecl) → broken rule.Body d ≡ first_there (
    first_in part.Functions (body d).functions d.functions ∷ [])
unfolding broken
broken_body d = rw (never_in part.Types d.types, never_in part.Imports d.imports, never_in part.Tables d.tables, never_in part.Memories d.memories, never_in part.Globals d.globals, never_in part.Tags d.tags, never_in part.Exports d.exports, never_in part.Elements d.elements, never_in part.Datas d.datas, never_in part.Start (option_to_list d.start)) refl
