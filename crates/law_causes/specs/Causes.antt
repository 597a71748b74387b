-- Why a command is refused by what is outside of the store: by an answer that was heard in it. This project's own.
use Rattle.std.specs.Prelude.{◌≡◌, ◌⊎◌, Bool, true, false, List, [], ◌∷◌, Ok, Err}
use Rattle.std.specs.List.{list_any}
use Rattle.wasm_syntax.specs.declared.declarations.ModuleDecl.{ModuleDecl}
use Rattle.wasm_syntax.specs.declared.declarations.TableDecl.{TableDecl}
use Rattle.wasm_values.specs.declared.externals.Extern.{Extern}
use Rattle.wasm_values.specs.declared.refusals.Refusal.{Refusal}
use Rattle.wasm_values.specs.declared.refusals.Refusal.TheVariants.{ResourceLimit, GrowFailed, LimiterFault, HookFault, EpochFault, NoHostBody, HostFault, HostResultType}
use Rattle.spec_machine.specs.Commands.{Row, Grow, Instantiate}
use Rattle.spec_machine.specs.Growth.{Plan, Fails, growth_rule}
use Rattle.spec_machine.specs.Machine.{Machine}
use Rattle.spec_execution.specs.Askings.{Answer, Grown, Passed, Read, Behaved, Stepped, Asking, answers_in}
use Rattle.spec_execution.specs.Instantiation.{imports_fit, new_memory_plan, new_table_plan}
use Rattle.spec_execution.specs.declared.answer.Answer.TheVariants.{Fail}

-- ---- answers

-- the limiter said no
abbrev pub is_denial : Answer → Bool
is_denial (Grown (Ok false)) = true
is_denial a = false

-- the limiter, a hook, the epoch source, the deadline behaviour, a body of the host failed
abbrev pub is_limiter_fault : Answer → Bool
is_limiter_fault (Grown (Err fault)) = true
is_limiter_fault a = false

abbrev pub is_hook_fault : Answer → Bool
is_hook_fault (Passed (Err fault)) = true
is_hook_fault a = false

abbrev pub is_reading_fault : Answer → Bool
is_reading_fault (Read (Err fault)) = true
is_reading_fault a = false

abbrev pub is_behaviour_fault : Answer → Bool
is_behaviour_fault (Behaved (Err fault)) = true
is_behaviour_fault a = false

abbrev pub is_host_fault : Answer → Bool
is_host_fault (Stepped after (Ok Fail)) = true
is_host_fault a = false

-- one of the answers is such
abbrev pub Given : (Answer → Bool) → List Asking → Type 0
Given is heard = list_any is (answers_in heard) ≡ true

-- ---- refusals

-- why something may be refused that nothing outside of the store gives, by its refusal; and whether it asks for a growth
-- whose denial refuses it
pub record Reasons : Type 1 where
  pub own : Refusal → Type 0
  pub grows : Type 0

-- among what was heard is what the refusal comes by, or else there is a reason of its own
abbrev pub HasCause : Reasons → Refusal → List Asking → Type 0
HasCause reason GrowFailed heard = (reason.grows × Given is_denial heard) ⊎ reason.own GrowFailed
HasCause reason LimiterFault heard = Given is_limiter_fault heard
HasCause reason HookFault heard = Given is_hook_fault heard
HasCause reason EpochFault heard = Given is_reading_fault heard ⊎ Given is_behaviour_fault heard
HasCause reason HostFault heard = Given is_host_fault heard
HasCause reason why heard = reason.own why

-- ---- growths

-- a growth that fails where there is no limiter, too: past its range of indices, or past its declared maximum
abbrev pub IsVain : {A : Type 0} → Plan A → Type 0
IsVain p = growth_rule false p.range p.growth ≡ Fails

-- so it is of one of these
abbrev pub ForOne : {A : Type 0} → (A → Type 0) → List A → Type 0
ForOne Says [] = ⊥
ForOne Says (x ∷ xs) = Says x ⊎ ForOne Says xs

-- a growth of a command is such: its own, or that by which a memory or a table of its module is made
abbrev pub GrowsInVain : Machine → Row → Type 0
GrowsInVain m (Grow p) = IsVain p
GrowsInVain m (Instantiate d imports) =
    ForOne (λ ty. IsVain (new_memory_plan m ty)) d.memories
    ⊎ ForOne (λ (t : TableDecl). IsVain (new_table_plan m t.ty)) d.tables
GrowsInVain m row = ⊥

-- ---- refusals that nothing outside of the store gives

-- of code: a function of the host has no body, or its body gave other values than its type has
abbrev pub CodeRefuses : Refusal → Type 0
CodeRefuses NoHostBody = Unit {0}
CodeRefuses HostResultType = Unit {0}
CodeRefuses why = ⊥

abbrev pub code_reasons : Reasons
code_reasons = record { own = CodeRefuses; grows = ⊥ }

-- of an instantiation: a growth in vain, a count past its limit, a condition of the imports that does not hold; and those
-- of its start function
abbrev pub MakingRefuses : Machine → ModuleDecl → List Extern → Refusal → Type 0
MakingRefuses m d imports GrowFailed = GrowsInVain m (Instantiate d imports)
MakingRefuses m d imports (ResourceLimit which) = Unit {0}
MakingRefuses m d imports NoHostBody = Unit {0}
MakingRefuses m d imports HostResultType = Unit {0}
MakingRefuses m d imports why = imports_fit m d imports ≡ Err why

abbrev pub making_reasons : Machine → ModuleDecl → List Extern → Reasons
making_reasons m d imports = record { own = MakingRefuses m d imports; grows = Unit {0} }

-- of a command: a growth in vain, or any other
abbrev pub RowRefuses : Machine → Row → Refusal → Type 0
RowRefuses m row GrowFailed = GrowsInVain m row
RowRefuses m row why = Unit {0}

abbrev pub row_reasons : Machine → Row → Reasons
row_reasons m row = record { own = RowRefuses m row; grows = Unit {0} }
