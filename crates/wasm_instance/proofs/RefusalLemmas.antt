-- An instantiation is refused by a condition of its imports only where that one does not hold, and by nothing that only
-- other calls refuse by.
use Rattle.std.proofs.Common.{◌≡◌, ℕ, Bool, true, false, List, [], ◌++◌, Option, Some, None, subst}
use Rattle.std.specs.Prelude.{Result, Ok, Err, IfErr}
use Rattle.wasm_syntax.specs.declared.declarations.ModuleDecl.{ModuleDecl}
use Rattle.wasm_values.specs.declared.externals.Extern.{Extern}
use Rattle.wasm_values.specs.declared.handles.Instance.{Instance}
use Rattle.wasm_values.specs.declared.refusals.Refusal.{Refusal}
use Rattle.wasm_values.specs.declared.refusals.Refusal.TheVariants as refusal
use Rattle.spec_machine.specs.Machine.{Machine}
use Rattle.spec_machine.specs.Steps.{◌>>=◌, unless}
use Rattle.spec_machine.specs.declared.reply.Reply.TheVariants as reply
use Rattle.spec_execution.specs.Askings.{Asking, answers_in}
use Rattle.spec_execution.specs.Bodies.{exec}
use Rattle.spec_execution.specs.Commands.{instance_reply}
use Rattle.spec_execution.specs.Instantiation.{no_unmatched_import, imports_fit, instantiate}
use Rattle.spec_execution.specs.Outcomes.{World, world}
use Rattle.law_causes.specs.Causes.{HasCause, making_reasons}
use Rattle.law_causes.proofs.LawLemmas.{instantiations_have_causes}
use Rattle.wasm_call.specs.Outside.{Moving, Surrounded}
use Rattle.wasm_call.proofs.DueLemmas.{ends_refuse}
use Rattle.wasm_instance.specs.Instances.{InstantiationFailed, Instantiated, InstantiationRefuses}

-- ---- the conditions of imports

abbrev IsOfImports : Refusal → Type 0
IsOfImports refusal.WrongStore = Unit {0}
IsOfImports refusal.WrongEngine = Unit {0}
IsOfImports refusal.ImportCount = Unit {0}
IsOfImports (refusal.ImportType n) = Unit {0}
IsOfImports why = ⊥

abbrev RefusesImports : {A : Type 0} → Result A Refusal → Type 0
RefusesImports (Ok a) = Unit {0}
RefusesImports (Err why) = IsOfImports why

record IsCondition {A : Type 0} (r : Result A Refusal) : Type 0 where
  by : RefusesImports r

unless_is : (why : Refusal) (b : Bool) → IsOfImports why → IsCondition (unless why b)
unless_is why true is = record { by = tt }
unless_is why false is = record { by = is }

place_is : (o : Option ℕ) → IsCondition (no_unmatched_import o)
place_is None = record { by = tt }
place_is (Some n) = record { by = tt }

then_is : {A C : Type 0} (r : Result A Refusal) (go : A → Result C Refusal) → IsCondition r →
    ((a : A) → IsCondition (go a)) → IsCondition (r >>= go)
then_is (Ok a) go h j = j a
then_is (Err why) go h j = record { by = h.by }

imports_are : (m : Machine) (d : ModuleDecl) (imports : List Extern) → IsCondition (imports_fit m d imports)
imports_are m d imports = search (then_is, unless_is, place_is) depth 30

module _ (m : Machine) (d : ModuleDecl) (imports : List Extern) where
  abbrev Refuses : Refusal → Type 0
  Refuses = InstantiationRefuses m d imports

  of_condition : (why : Refusal) → IsOfImports why → imports_fit m d imports ≡ Err why → Refuses why
  of_condition refusal.WrongStore is e = e
  of_condition refusal.WrongEngine is e = e
  of_condition refusal.ImportCount is e = e
  of_condition (refusal.ImportType n) is e = e
  of_condition why is e = absurd is

  refused_due : (why : Refusal) → imports_fit m d imports ≡ Err why → Refuses why
  refused_due why e =
      of_condition why (subst IsCondition e (imports_are m d imports)).by e

  -- ---- its run

  of_cause : (why : Refusal) (heard : List Asking) → HasCause (making_reasons m d imports) why heard → Refuses why
  of_cause (refusal.ResourceLimit which) heard h = tt
  of_cause refusal.GrowFailed heard h = tt
  of_cause refusal.LimiterFault heard h = tt
  of_cause refusal.HookFault heard h = tt
  of_cause refusal.EpochFault heard h = tt
  of_cause refusal.HostFault heard h = tt
  of_cause refusal.NoHostBody heard h = tt
  of_cause refusal.HostResultType heard h = tt
  of_cause why heard h = refused_due why h

  not_instance : (instance : Instance) (why : Refusal) → reply.Instance instance ≡ reply.Refused why → ⊥
  not_instance instance why e = cc

module _ {T H E : Type 0} (moves : Moving T H E) (d : ModuleDecl) (imports : List Extern) (old new : Surrounded T H E)
  where
    abbrev m : Machine
    m = old.store.machine

    failed_due : (why : Refusal) → InstantiationFailed moves d imports old why new → InstantiationRefuses m d imports why
    failed_due refusal.OutOfMemory l = tt
    failed_due why l =
        let first : World = world m m.engine.turns [] (answers_in l.heard ++ []) in
        ends_refuse (InstantiationRefuses m d imports) (instance_reply m) (instantiate exec 0 first d imports) why
        (world new.store.machine l.left ([] ++ l.heard) []) (λ s. not_instance m d imports _ why)
        (λ w q. let cause = instantiations_have_causes 0 first w d imports why q in
        of_cause m d imports why cause.more cause.cause)
        (λ t. tt) tt (l.ends [] [])

    pub instantiation_due : (result : Result Instance Refusal) → Instantiated moves d imports old result new →
        IfErr result (InstantiationRefuses m d imports)
    instantiation_due (Ok made) l = tt
    instantiation_due (Err why) l = failed_due why l
