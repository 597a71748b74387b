-- Where memory ran out behind the questions of an instantiation: the turn that makes the instance was due.
use Rattle.std.proofs.Common.{◌≡◌, ℕ, ◌+◌, ◌<◌, List, ◌++◌, Ok, sym, ap, ◌∙◌, subst, inl, inr, arith}
use Rattle.std.specs.Prelude.{◌⊎◌}
use Rattle.wasm_syntax.specs.declared.declarations.ModuleDecl.{ModuleDecl}
use Rattle.wasm_values.specs.declared.externals.Extern.{Extern}
use Rattle.spec_machine.specs.Machine.{Machine}
use Rattle.spec_execution.specs.Askings.{answers_in}
use Rattle.spec_execution.specs.Instantiation.{imports_fit, Within, counted, ask_memories, ask_tables}
use Rattle.spec_execution.specs.Outcomes.{world}
use Rattle.wasm_store.specs.Stores.{StoreParts, store_parts}
use Rattle.wasm_call.specs.Outside.{Growths, Moving, Surrounded, surrounded, Hears}
use Rattle.wasm_instance.specs.Asking.{growing_all, Reaches}
use Rattle.wasm_instance.specs.Instances.{Starts, IsMakingDue, MakingShort}

-- on the objects of a store
module _ {T H E : Type 0} (moves : Moving T H E) (d : ModuleDecl) (imports : List Extern) (b m : Machine) (host : H)
    (e : E) (old new : StoreParts T) where
  abbrev at : Machine → ℕ → T → Surrounded T H E
  at k turns t = surrounded (store_parts k turns t) host e

  abbrev before_it : Surrounded T H E
  before_it = at b 0 old.host_data

  abbrev due : Surrounded T H E
  due = at m new.turns new.host_data

  pub making_due : imports_fit b d imports ≡ Ok tt → counted b d ≡ Within m → old.turns ≡ 0 → (growths : Growths T) →
      (a : Reaches growths m (growing_all d) (λ go. go) old new) → Hears moves before_it a.heard due →
      new.turns < b.engine.turns → IsMakingDue moves d imports before_it due
  making_due fits within fresh growths a hears some =
      let made : new.turns ≡ a.made = omega (arith, a.counted, fresh) in
      record {
        fits = fits;
        within = within;
        heard = a.heard;
        chained = hears;
        granted = λ go left before rest.
            ap (λ (n : ℕ). ask_memories d.memories (world m (n + left) before (answers_in a.heard ++ rest))
            (λ w. ask_tables d.tables w go)) made
            ∙ a.ends go left before rest;
        left = some;
      }

  -- memory ran out there, or in the start function
  pub making_short : IsMakingDue moves d imports before_it due → (last : Surrounded T H E) →
      (last ≡ at m 0 new.host_data) ⊎ Starts d imports m → (n : ℕ) (t : T) → n ≡ new.turns + last.store.turns →
      t ≡ last.store.host_data →
      MakingShort moves d imports before_it (surrounded (store_parts last.store.machine n t) last.host last.epochs)
  making_short is last short n t total own_data = (due, is, by_kind short) where
    by_kind : (last ≡ at m 0 new.host_data) ⊎ Starts d imports m →
        (surrounded (store_parts last.store.machine n t) last.host last.epochs ≡ due) ⊎ Starts d imports m
    by_kind (inr started) = inr started
    by_kind (inl same) =
        let none : last.store.turns ≡ 0 = ap (λ (s : Surrounded T H E). s.store.turns) same in
        let all : n ≡ new.turns = omega (arith, total, none) in
        inl (ap (λ (k : ℕ). surrounded (store_parts last.store.machine k t) last.host last.epochs) all
        ∙ ap (λ (x : T). surrounded (store_parts last.store.machine new.turns x) last.host last.epochs)
        (own_data ∙ ap (λ (s : Surrounded T H E). s.store.host_data) same)
        ∙ ap (λ (s : Surrounded T H E). surrounded (store_parts s.store.machine new.turns new.host_data) s.host s.epochs)
        same)

-- on the store, whose turns were counted from 0
module _ {T H E : Type 0} (moves : Moving T H E) (d : ModuleDecl) (imports : List Extern) where
  abbrev begun : Surrounded T H E → Surrounded T H E
  begun s = surrounded (record s.store { turns = 0 }) s.host s.epochs

  due_from : (old mid : Surrounded T H E) → IsMakingDue moves d imports (begun old) mid →
      IsMakingDue moves d imports old mid
  due_from old mid is = record {
    fits = is.fits;
    within = is.within;
    heard = is.heard;
    chained = is.chained;
    granted = is.granted;
    left = is.left;
  }

  pub making_from : (old new : Surrounded T H E) → MakingShort moves d imports (begun old) new →
      MakingShort moves d imports old new
  making_from old new h = (h.0, due_from old h.0 h.1, h.2)

  pub short_on : (host : H) (e : E) (old first last : StoreParts T) (new : Surrounded T H E) →
      first ≡ record old { turns = 0 } → surrounded last new.host new.epochs ≡ new →
      MakingShort moves d imports (surrounded first host e) new →
      MakingShort moves d imports (surrounded old host e) (surrounded last new.host new.epochs)
  short_on host e old first last new begins put h =
      subst (λ (s : Surrounded T H E). MakingShort moves d imports (surrounded old host e) s) (sym put)
      (making_from (surrounded old host e) new
      (subst (λ (s : StoreParts T). MakingShort moves d imports (surrounded s host e) new) begins h))
