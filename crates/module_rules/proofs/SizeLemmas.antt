-- The lists of a declaration that keeps the rule on sizes.
use Rattle.std.proofs.Common.{◌≡◌, ◌≤◌, true, false, true≢false, List, length, Some, None, inl, inr}
use Rattle.std.specs.Prelude.{slice_get}
use Rattle.std.proofs.lemmas.Option.{slice_get_cases}
use Rattle.wasm_syntax.proofs.ValidityLemmas.{broken_none}
use Rattle.wasm_syntax.specs.FirstBroken.{broken}
use Rattle.wasm_syntax.specs.declared.declarations.ModuleDecl.{ModuleDecl}
use Rattle.wasm_syntax.specs.declared.module_fault.Rule.TheVariants as rule

-- a list without an item 1,000,000
short : {A : Type 0} (xs : List A) → ((a : A) → slice_get xs 1000000 ≡ Some a → true ≡ false) → length xs ≤ 1000000
short xs h =
    elim (slice_get_cases xs 1000000).1 [
      | inl (a, _, found, _) ↦ absurd (true≢false (h a found))
      | inr (past, _) ↦ past
    ]

pub few_types : (d : ModuleDecl) → broken rule.Size d ≡ None → length d.types ≤ 1000000
few_types d p = short d.types (λ a e. (broken_none rule.Size d p).in_types 1000000 a e)

pub few_imports : (d : ModuleDecl) → broken rule.Size d ≡ None → length d.imports ≤ 1000000
few_imports d p = short d.imports (λ a e. (broken_none rule.Size d p).in_imports 1000000 a e)

pub few_functions : (d : ModuleDecl) → broken rule.Size d ≡ None → length d.functions ≤ 1000000
few_functions d p = short d.functions (λ a e. (broken_none rule.Size d p).in_functions 1000000 a e)

pub few_tables : (d : ModuleDecl) → broken rule.Size d ≡ None → length d.tables ≤ 1000000
few_tables d p = short d.tables (λ a e. (broken_none rule.Size d p).in_tables 1000000 a e)

pub few_globals : (d : ModuleDecl) → broken rule.Size d ≡ None → length d.globals ≤ 1000000
few_globals d p = short d.globals (λ a e. (broken_none rule.Size d p).in_globals 1000000 a e)

pub few_tags : (d : ModuleDecl) → broken rule.Size d ≡ None → length d.tags ≤ 1000000
few_tags d p = short d.tags (λ a e. (broken_none rule.Size d p).in_tags 1000000 a e)

pub few_exports : (d : ModuleDecl) → broken rule.Size d ≡ None → length d.exports ≤ 1000000
few_exports d p = short d.exports (λ a e. (broken_none rule.Size d p).in_exports 1000000 a e)

pub few_elements : (d : ModuleDecl) → broken rule.Size d ≡ None → length d.elements ≤ 1000000
few_elements d p = short d.elements (λ a e. (broken_none rule.Size d p).in_elements 1000000 a e)

pub few_datas : (d : ModuleDecl) → broken rule.Size d ≡ None → length d.datas ≤ 1000000
few_datas d p = short d.datas (λ a e. (broken_none rule.Size d p).in_datas 1000000 a e)

pub ruleset few =
    (few_types, few_imports, few_functions, few_tables, few_globals, few_tags, few_exports, few_elements, few_datas)
