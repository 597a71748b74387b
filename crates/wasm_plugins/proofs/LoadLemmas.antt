-- What a load comes to, by what its check and the instantiation that was made answered.
use Rattle.std.proofs.Common.{◌≡◌, ℕ, false, List, Some, slice_get, Result, Ok, Err, sym, ap, ◌∙◌, subst, inl, inr}
use Rattle.std.proofs.lemmas.Bool.{false≢true}
use Rattle.std.specs.List.{list_all}
use Rattle.std.specs.Prelude.{⊤, IfErr, IsErr}
use Rattle.wasm_syntax.specs.declared.declarations.ModuleDecl.{ModuleDecl}
use Rattle.wasm_values.specs.declared.externals.Extern.{Extern}
use Rattle.wasm_values.specs.declared.handles.Instance.{Instance}
use Rattle.wasm_values.specs.declared.refusals.Refusal.{Refusal}
use Rattle.wasm_values.specs.declared.refusals.Refusal.TheVariants as refusal
use Rattle.spec_machine.specs.Machine.{Machine}
use Rattle.spec_machine.specs.Values.{owns_extern}
use Rattle.law_plugins.specs.Meeting.{KeepsGuest}
use Rattle.guest_calls.specs.Guarded.{MeetNobody}
use Rattle.wasm_store.specs.Stores.{StoreParts}
use Rattle.wasm_call.specs.Outside.{Moving, Surrounded, surrounded}
use Rattle.wasm_instance.specs.Instances.{IsUntouched, Instantiated, MakingShort}
use Rattle.wasm_plugins.specs.Calling.{IsAdded, Loads}
use Rattle.wasm_plugins.specs.Guests.{PluginsParts, plugins_parts, may_load, Answers}
use Rattle.wasm_plugins.specs.declared.faults.PluginFault.{PluginFault}
use Rattle.wasm_plugins.specs.declared.faults.PluginFault.TheVariants as fault
use Rattle.wasm_plugins.proofs.CheckLemmas.{strange_due, meets_nobody}
use Rattle.wasm_plugins.proofs.ToldLemmas.{passed, none_due, short_why}

-- the fields of what is seen as a store with guests, and the guests as the check was shown them
module _ {T : Type 0} (inside : StoreParts T) (items : List ℕ) (p : PluginsParts T)
    (view : plugins_parts inside items ≡ p) where
  pub untouched : {H E : Type 0} (host : H) (epochs : E) (mid : StoreParts T) → mid ≡ record inside { turns = 0 } →
      IsUntouched (surrounded p.store host epochs) (surrounded mid host epochs)
  untouched host epochs mid e =
      subst (λ (q : PluginsParts T). IsUntouched (surrounded q.store host epochs) (surrounded mid host epochs)) view
      (ap (λ (s : StoreParts T). surrounded s host epochs) e)

  pub view_kept : (after : Machine) → ((i g : ℕ) → slice_get items i ≡ Some g → KeepsGuest inside.machine after g) →
      (i g : ℕ) → slice_get p.guests i ≡ Some g → KeepsGuest p.store.machine after g
  view_kept after h =
      subst (λ (q : PluginsParts T). (i g : ℕ) → slice_get q.guests i ≡ Some g → KeepsGuest q.store.machine after g)
      view h

  module _ (slice : List ℕ) (listed : slice ≡ items) (imports : List Extern) where
    abbrev Checked : Result ⊤ PluginFault → Type 0
    Checked result = Answers (may_load inside.machine slice imports) result

    abbrev due : Result ⊤ PluginFault
    due = may_load p.store.machine p.guests imports

    checked_items : (result : Result ⊤ PluginFault) → Checked result →
        Answers (may_load inside.machine items imports) result
    checked_items result h =
        subst (λ (gs : List ℕ). Answers (may_load inside.machine gs imports) result) listed h

    pub load_due : (result : Result ⊤ PluginFault) → Checked result → Answers due result
    load_due result h =
        subst (λ (q : PluginsParts T). Answers (may_load q.store.machine q.guests imports) result) view
        (checked_items result h)

    -- where it passed
    pub load_passed : Checked (Ok tt) → due ≡ Ok tt
    load_passed h = passed due tt (load_due (Ok tt) h)

    pub load_nobody : Checked (Ok tt) → MeetNobody inside.machine imports items
    load_nobody h =
        meets_nobody inside.machine items imports
        (passed (may_load inside.machine items imports) tt (checked_items (Ok tt) h))

    pub none_strange : {P : Type 0} → Checked (Ok tt) → list_all (owns_extern p.store.machine) imports ≡ false → P
    none_strange {P} h e = absurd (differ (sym (load_passed h) ∙ strange_due p.store.machine p.guests imports e))
      where
        differ : ◌≡◌ {A = Result ⊤ PluginFault} (Ok tt) (Err (fault.Refused refusal.WrongStore)) → ⊥
        differ q = cc

    pub load_unrefused : (P : PluginFault → Type 0) → Checked (Ok tt) → IfErr due P
    load_unrefused P h = none_due P due tt (load_passed h)

    pub load_not_err : {P : Type 0} → Checked (Ok tt) → IsErr due → P
    load_not_err {P} h e = absurd (false≢true (subst IsErr (load_passed h) e))

    module _ {H E : Type 0} (moves : Moving T H E) (d : ModuleDecl) (host : H) (epochs : E) where
      -- it was refused, so that memory had run out where it should have passed
      pub refused_load : (why : PluginFault) (mid : StoreParts T) (after : List ℕ) → Checked (Err why) →
          mid ≡ record inside { turns = 0 } → due ≡ Ok tt →
          Loads moves d imports (surrounded p.store host epochs) p.guests (Err why) (surrounded mid host epochs) after
      refused_load why mid after h e q =
          inl (
            ap (λ (w : PluginFault). Err w) (short_why due tt why (load_due (Err why) h) q),
            untouched host epochs mid e,
          )

      module _ (new : Surrounded T H E) where
        pub made_load : (answer : Result Instance Refusal) (result : Result ℕ PluginFault) (after : List ℕ) →
            IsAdded items answer result after →
            Instantiated moves d imports (surrounded inside host epochs) answer new →
            Loads moves d imports (surrounded p.store host epochs) p.guests result new after
        made_load answer result after added h =
            inr (record {
              answer = answer;
              instantiated =
                  subst (λ (q : PluginsParts T).
                  Instantiated moves d imports (surrounded q.store host epochs) answer new) view h;
              added = subst (λ (q : PluginsParts T). IsAdded q.guests answer result after) view added;
            })

        pub short_load : MakingShort moves d imports (surrounded inside host epochs) new →
            MakingShort moves d imports (surrounded p.store host epochs) new
        short_load h =
            subst (λ (q : PluginsParts T). MakingShort moves d imports (surrounded q.store host epochs) new) view h
