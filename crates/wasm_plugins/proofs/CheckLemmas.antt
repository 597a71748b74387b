-- What the checks before a load and a call have found, by what they answered.
use Rattle.std.proofs.Common.{◌≡◌, ℕ, Bool, true, false, List, Option, Some, None, Result, Ok, Err, option_map, slice_get, if◌then◌else◌, refl, sym, ap, ◌∙◌}
use Rattle.std.specs.List.{list_all}
use Rattle.std.specs.Prelude.{⊤, flat_map}
use Rattle.wasm_values.specs.Externals.{extern_func}
use Rattle.wasm_values.specs.Handles.{instance_of}
use Rattle.wasm_values.specs.declared.externals.Extern.{Extern}
use Rattle.wasm_values.specs.declared.handles.Func.{Func}
use Rattle.wasm_values.specs.declared.refusals.Refusal.{Refusal}
use Rattle.wasm_values.specs.declared.refusals.Refusal.TheVariants as refusal
use Rattle.wasm_values.specs.declared.values.Val.{Val}
use Rattle.spec_machine.specs.Machine.{Machine}
use Rattle.spec_machine.specs.Values.{owns_extern, owns_val}
use Rattle.spec_machine.specs.WellFormed.{IsWellFormed}
use Rattle.spec_reach.specs.Nodes.{Node as Reached}
use Rattle.spec_reach.specs.Reach.{in_object}
use Rattle.store_objects.specs.declared.node.Node.{Node}
use Rattle.store_reach.specs.Sets.{IsReach}
use Rattle.law_plugins.specs.Meeting.{reach_of, first_meeting}
use Rattle.guest_calls.specs.Guarded.{ReachesCall, MeetNobody}
use Rattle.wasm_instance.specs.Exports.{export_as}
use Rattle.wasm_plugins.specs.Guests.{import_reach, no_meeting, may_load, first_outside, for_params, of_guest, none_foreign, reached_by, may_call}
use Rattle.wasm_plugins.specs.Meetings.{as_found}
use Rattle.wasm_plugins.specs.declared.faults.PluginFault.{PluginFault}
use Rattle.wasm_plugins.specs.declared.faults.PluginFault.TheVariants as fault
use Rattle.wasm_plugins.proofs.MeetingLemmas.{same_meeting}
use Rattle.wasm_plugins.proofs.WithinLemmas.{call_reached}

-- ---- before a load

-- what a meeting that was looked for says
abbrev pub by_found : Option (ℕ × Node) → Result ⊤ PluginFault
by_found None = Ok tt
by_found (Some p) = Err (fault.Meets p.0 p.1)

found_says : (o : Option (ℕ × Reached)) → by_found (option_map as_found o) ≡ no_meeting o
found_says None = refl
found_says (Some p) = refl

module _ (m : Machine) (guests : List ℕ) (imports : List Extern) where
  owned_due : list_all (owns_extern m) imports ≡ true →
      may_load m guests imports ≡ no_meeting (first_meeting m (import_reach m imports) guests)
  owned_due e =
      ap (λ (b : Bool). if b then no_meeting (first_meeting m (import_reach m imports) guests)
      else Err (fault.Refused refusal.WrongStore)) e

  pub strange_due : list_all (owns_extern m) imports ≡ false →
      may_load m guests imports ≡ Err (fault.Refused refusal.WrongStore)
  strange_due e =
      ap (λ (b : Bool). if b then no_meeting (first_meeting m (import_reach m imports) guests)
      else Err (fault.Refused refusal.WrongStore)) e

  -- a meeting that was looked for in a set of what the imports lead to
  pub found_due : (set : List Reached) (found : Option (ℕ × Node)) → list_all (owns_extern m) imports ≡ true →
      IsReach m (flat_map (in_object m.id) imports) set → found ≡ option_map as_found (first_meeting m set guests) →
      by_found found ≡ may_load m guests imports
  found_due set found owned is e =
      ap by_found (e ∙ ap (λ (o : Option (ℕ × Reached)). option_map as_found o)
      (same_meeting m set (import_reach m imports) guests is))
      ∙ found_says (first_meeting m (import_reach m imports) guests) ∙ sym (owned_due owned)

  -- where it passed
  pub meets_nobody : may_load m guests imports ≡ Ok tt → MeetNobody m imports guests
  meets_nobody e = by (list_all (owns_extern m) imports) (first_meeting m (import_reach m imports) guests) refl e
    where
      by : (b : Bool) (o : Option (ℕ × Reached)) → first_meeting m (import_reach m imports) guests ≡ o →
          (if b then no_meeting o else Err (fault.Refused refusal.WrongStore)) ≡ Ok tt →
          first_meeting m (import_reach m imports) guests ≡ None
      by true None p q = p
      by true (Some r) p q = absurd cc
      by false o p q = absurd cc

-- ---- before a call

-- what it takes to be called
pub record MayCall (m : Machine) (guests : List ℕ) (place : ℕ) (name : List ℕ) (params : List Val) (f : Func) : Type 0
  where
    pub guest : ℕ
    pub found : slice_get guests place ≡ Some guest
    pub named : export_as extern_func m (instance_of m.id guest) name ≡ Ok (Some f)
    pub owned : list_all (owns_val m) params ≡ true
    pub none : first_outside (reach_of m guest) 0 params ≡ None

module _ (m : Machine) (guests : List ℕ) (place : ℕ) (name : List ℕ) (params : List Val) where
  -- where it passed
  module _ (f : Func) where
    by_params : (guest : ℕ) (g : Func) (b : Bool) (o : Option ℕ) → slice_get guests place ≡ Some guest →
        export_as extern_func m (instance_of m.id guest) name ≡ Ok (Some g) → list_all (owns_val m) params ≡ b →
        first_outside (reach_of m guest) 0 params ≡ o →
        none_foreign (if b then Ok g else Err (fault.Refused refusal.WrongStore)) o ≡ Ok f →
        MayCall m guests place name params f
    by_params guest g true None found named owned none e =
        let same : g ≡ f = cc in
        record {
          guest = guest;
          found = found;
          named = named ∙ ap (λ (h : Func). Ok (Some h)) same;
          owned = owned;
          none = none;
        }
    by_params guest g true (Some k) found named owned none e = absurd cc
    by_params guest g false o found named owned none e = absurd cc

    by_export : (guest : ℕ) (r : Result (Option Func) Refusal) → slice_get guests place ≡ Some guest →
        export_as extern_func m (instance_of m.id guest) name ≡ r →
        none_foreign (for_params m params r) (first_outside (reach_of m guest) 0 params) ≡ Ok f →
        MayCall m guests place name params f
    by_export guest (Ok (Some g)) found named e =
        by_params guest g (list_all (owns_val m) params) (first_outside (reach_of m guest) 0 params) found named refl
        refl e
    by_export guest (Ok None) found named e = absurd cc
    by_export guest (Err why) found named e = absurd cc

    by_place : (o : Option ℕ) → slice_get guests place ≡ o → of_guest o (reached_by m name params) ≡ Ok f →
        MayCall m guests place name params f
    by_place (Some guest) found e =
        by_export guest (export_as extern_func m (instance_of m.id guest) name) found refl e
    by_place None found e = absurd cc

    pub passed_call : may_call m guests place name params ≡ Ok f → MayCall m guests place name params f
    passed_call e = by_place (slice_get guests place) refl e

    -- the guest reaches the call
    pub reaches_call : IsWellFormed m → (wanted : Option ℕ) → may_call m guests place name params ≡ Ok f →
        (k : MayCall m guests place name params f) → ReachesCall m f params wanted k.guest
    reaches_call well wanted e k =
        call_reached m well k.guest name f params wanted k.named k.owned k.none
