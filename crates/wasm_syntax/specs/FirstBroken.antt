-- The first rule that a declaration breaks, and where. The order is this project's own.
use Rattle.std.specs.Prelude.{ℕ, suc, Bool, List, [], ◌∷◌, map, Option, Some, None, option_map, option_to_list, if◌then◌else◌}
use Rattle.std.specs.Option.{option_or}
use Rattle.wasm_syntax.specs.Rules.{Tests, tests}
use Rattle.wasm_syntax.specs.declared.declarations.ModuleDecl.{ModuleDecl}
use Rattle.wasm_syntax.specs.declared.module_fault.Part.{Part}
use Rattle.wasm_syntax.specs.declared.module_fault.Part.TheVariants as part
use Rattle.wasm_syntax.specs.declared.module_fault.Place.{Place}
use Rattle.wasm_syntax.specs.declared.module_fault.Rule.{Rule}
use Rattle.wasm_syntax.specs.declared.module_fault.Rule.TheVariants as rule

-- the first of a list that is there
abbrev pub first_there : {A : Type 0} → List (Option A) → Option A
first_there [] = None
first_there (o ∷ os) = option_or o (first_there os)

-- the number of the first item, numbered from n on, that passes a test
abbrev pub first_from : {A : Type 0} → (ℕ → A → Bool) → ℕ → List A → Option ℕ
first_from test n [] = None
first_from test n (x ∷ xs) = if test n x then Some n else first_from test (suc n) xs

abbrev pub place : Part → ℕ → Place
place p n = record { part = p; item = n }

-- the first item of a part that passes a test
abbrev pub first_in : {A : Type 0} → Part → (ℕ → A → Bool) → List A → Option Place
first_in p test xs = option_map (place p) (first_from test 0 xs)

-- in each part, the first item that passes the part's test
abbrev pub places : Tests → ModuleDecl → List (Option Place)
places t d =
    first_in part.Types t.types d.types
    ∷ first_in part.Imports t.imports d.imports
    ∷ first_in part.Functions t.functions d.functions
    ∷ first_in part.Tables t.tables d.tables
    ∷ first_in part.Memories t.memories d.memories
    ∷ first_in part.Globals t.globals d.globals
    ∷ first_in part.Tags t.tags d.tags
    ∷ first_in part.Exports t.exports d.exports
    ∷ first_in part.Elements t.elements d.elements
    ∷ first_in part.Datas t.datas d.datas
    ∷ first_in part.Start t.start (option_to_list d.start)
    ∷ []

-- the first place where a rule is broken
unfoldable pub broken : Rule → ModuleDecl → Option Place
broken r d = first_there (places (tests r d) d)

-- the rules in their order
abbrev pub rules : List Rule
rules =
    rule.Size ∷ rule.Engine ∷ rule.Index ∷ rule.Local ∷ rule.Shape ∷ rule.Const ∷ rule.Element ∷ rule.ExportName
    ∷ rule.Start ∷ rule.Body ∷ []

-- for each rule, the first place where it is broken, with the rule
abbrev pub all_broken : ModuleDecl → List (Option (Rule × Place))
all_broken d = map (λ r. option_map (λ at. (r, at)) (broken r d)) rules

-- the first broken rule, by rule, then by part, then by item
abbrev pub first_broken : ModuleDecl → Option (Rule × Place)
first_broken d = first_there (all_broken d)
