-- An instantiation on a store whose turns are counted from 0.
use Rattle.std.proofs.Common.{◌≡◌, ℕ, suc, List, Result, Ok, Err, sym, ap, ◌∙◌, subst, inl, inr}
use Rattle.wasm_syntax.specs.declared.declarations.ModuleDecl.{ModuleDecl}
use Rattle.wasm_values.specs.declared.externals.Extern.{Extern}
use Rattle.wasm_values.specs.declared.handles.Instance.{Instance}
use Rattle.wasm_values.specs.declared.refusals.Refusal.{Refusal}
use Rattle.wasm_values.specs.declared.refusals.Refusal.TheVariants.{OutOfMemory}
use Rattle.spec_machine.specs.Machine.{Machine}
use Rattle.spec_execution.specs.Askings.{Relations}
use Rattle.spec_execution.specs.Instantiation.{imports_fit}
use Rattle.spec_execution.specs.Outcomes.{World}
use Rattle.wasm_store.specs.Stores.{StoreParts, store_parts}
use Rattle.wasm_call.specs.Outcomes.{Leads}
use Rattle.wasm_call.specs.Outside.{Moving, Surrounded, surrounded, typed}
use Rattle.wasm_instance.specs.Instances.{InstantiationFailed, Instantiated}
use Rattle.wasm_instance.proofs.WholeLemmas.{told_unfit}

module _ {T H E : Type 0} (moves : Moving T H E) (old : Surrounded T H E) where
  abbrev begun : Surrounded T H E
  begun = surrounded (record old.store { turns = 0 }) old.host old.epochs

  leads_from : {O : Type 0} (command ending : World → O) (turns : ℕ) (new : Surrounded T H E) →
      Leads moves command turns begun ending new → Leads moves command turns old ending new
  leads_from command ending turns new l =
      record { heard = l.heard; left = l.left; within = l.within; chained = l.chained; ends = l.ends }

  module _ (d : ModuleDecl) (imports : List Extern) (new : Surrounded T H E) where
    failed_from : (why : Refusal) → InstantiationFailed moves d imports begun why new →
        InstantiationFailed moves d imports old why new
    failed_from OutOfMemory (inl k) =
        inl (record { led = leads_from _ _ new.store.turns new k.led; within = k.within })
    failed_from OutOfMemory (inr k) =
        inr (record { led = leads_from _ _ (suc new.store.turns) new k.led; within = k.within })
    failed_from why h = leads_from _ _ _ new h

    pub instantiated_from : (i : Result Instance Refusal) → Instantiated moves d imports begun i new →
        Instantiated moves d imports old i new
    instantiated_from (Ok instance) h = leads_from _ _ _ new h
    instantiated_from (Err why) h = failed_from why h

-- the checks refused it
pub unfit_ends : {T H E : Type 0} (r : Relations T H E) (d : ModuleDecl) (imports : List Extern)
    (old last : Surrounded T H E) (why : Refusal) → imports_fit old.store.machine d imports ≡ Err why →
    (i : Result Instance Refusal) → i ≡ Err why → last ≡ surrounded (record old.store { turns = 0 }) old.host old.epochs →
    Instantiated (typed r) d imports old i last
unfit_ends {T} {H} {E} r d imports old last why due i told left =
    let P : Result Instance Refusal → Surrounded T H E → Type 0 = λ j s. Instantiated (typed r) d imports old j s in
    let none : Surrounded T H E = surrounded (record old.store { turns = 0 }) old.host old.epochs in
    subst (λ (j : Result Instance Refusal). P j last) (sym told)
    (subst (λ (s : Surrounded T H E). P (Err why) s) (sym left)
    (instantiated_from (typed r) old d imports none (Err why)
    (told_unfit r d imports old.store.machine old.host old.store.host_data old.epochs why due)))

-- they did not: what came to pass on the objects is so on the store
pub store_ends : {T H E : Type 0} (r : Relations T H E) (d : ModuleDecl) (imports : List Extern) (host : H)
    (old first last : StoreParts T) (e : E) (new : Surrounded T H E) (i : Result Instance Refusal) →
    first ≡ record old { turns = 0 } → surrounded last new.host new.epochs ≡ new →
    Instantiated (typed r) d imports (surrounded first host e) i new →
    Instantiated (typed r) d imports (surrounded old host e) i (surrounded last new.host new.epochs)
store_ends {T} {H} {E} r d imports host old first last e new i begun put h =
    subst (λ (s : Surrounded T H E). Instantiated (typed r) d imports (surrounded old host e) i s) (sym put)
    (instantiated_from (typed r) (surrounded old host e) d imports new i
    (subst (λ (s : StoreParts T). Instantiated (typed r) d imports (surrounded s host e) i new) begun h))

-- the store of these parts
pub parts_are : {T : Type 0} (old : StoreParts T) (m : Machine) (t : T) → m ≡ old.machine → t ≡ old.host_data →
    store_parts m 0 t ≡ record old { turns = 0 }
parts_are old m t e f = ap (λ (k : Machine). store_parts k 0 t) e ∙ ap (store_parts old.machine 0) f

-- the objects are in it again
pub put_back : {T : Type 0} (new mid : StoreParts T) (m n : Machine) → new ≡ record mid { machine = n } → n ≡ m →
    new ≡ store_parts m mid.turns mid.host_data
put_back new mid m n e f = e ∙ ap (λ (k : Machine). store_parts k mid.turns mid.host_data) f
