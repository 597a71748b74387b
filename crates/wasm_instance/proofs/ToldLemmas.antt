-- What a host is told of an instantiation on the objects of a store, by what its parts answer.
use Rattle.std.proofs.Common.{◌≡◌, ℕ, ◌+◌, ◌-◌, ◌≤◌, List, length, Result, Ok, Err, sym, ap, ◌∙◌, subst, arith}
use Rattle.std.specs.Prelude.{⊤}
use Rattle.wasm_syntax.specs.declared.declarations.ModuleDecl.{ModuleDecl}
use Rattle.wasm_values.specs.declared.externals.Extern.{Extern}
use Rattle.wasm_values.specs.declared.handles.Instance.{Instance}
use Rattle.wasm_values.specs.declared.refusals.Refusal.{Refusal}
use Rattle.wasm_values.specs.declared.refusals.Refusal.TheVariants.{ResourceLimit}
use Rattle.spec_machine.specs.Machine.{Machine}
use Rattle.spec_machine.specs.WellFormed.{IsWellFormed}
use Rattle.spec_execution.specs.Askings.{Relations}
use Rattle.spec_execution.specs.Instantiation.{imports_fit, Within, counted}
use Rattle.wasm_store.specs.Stores.{StoreParts, store_parts}
use Rattle.wasm_call.specs.Outside.{Surrounded, surrounded, typed}
use Rattle.instance_parts.specs.Preparing.{CountsAs}
use Rattle.wasm_instance.specs.Asking.{growing_all, Reaches, Comes}
use Rattle.wasm_instance.specs.Instances.{Instantiated}
use Rattle.wasm_instance.specs.Making.{IsReady, Makes}
use Rattle.wasm_instance.proofs.WellFormedLemmas.{past_formed, counted_formed, as_many}
use Rattle.wasm_instance.proofs.WholeLemmas.{told_past, told_denied, told_whole}

-- the counts leave a well-formed store
pub counts_formed : (b m : Machine) (d : ModuleDecl) (result : Result ⊤ Refusal) → IsWellFormed b →
    CountsAs (counted b d) result m → IsWellFormed m
counts_formed b m d (Ok u) s h = counted_formed b m d s h
counts_formed b m d (Err why) s h = past_formed b m d h.0 s h.1.1

module _ {T H E : Type 0} (r : Relations T H E) (d : ModuleDecl) (imports : List Extern) (b : Machine) (host : H)
    (fits : imports_fit b d imports ≡ Ok tt) (m : Machine) where
  abbrev at : Machine → ℕ → T → E → Surrounded T H E
  at k turns t e = surrounded (store_parts k turns t) host e

  -- a count is past its limit
  pub past_told : (t : T) (e : E) (why : Refusal) → CountsAs (counted b d) (Err why) m →
      (i : Result Instance Refusal) (n : ℕ) → i ≡ Err why → n ≡ 0 →
      Instantiated (typed r) d imports (at b 0 t e) i (at m n t e)
  past_told t e why h i n told none =
      subst (λ (j : Result Instance Refusal). Instantiated (typed r) d imports (at b 0 t e) j (at m n t e))
      (sym (told ∙ ap Err h.1.0))
      (subst (λ (k : ℕ). Instantiated (typed r) d imports (at b 0 t e) (Err (ResourceLimit h.0)) (at m k t e)) (sym none)
      (told_past r d imports b host fits t e h.0 m h.1.1))

  module _ (within : counted b d ≡ Within m) (old new : StoreParts T) (fresh : old.turns ≡ 0) (e : E) (most : ℕ)
      (all : most ≡ b.engine.turns) (few : new.turns ≤ most) where
    -- a growth is denied, or a question is due and no turn is left
    pub denied_told : (why : Refusal) → Comes r.growths m (growing_all d) most old (Err why) new →
        (i : Result Instance Refusal) → i ≡ Err why →
        Instantiated (typed r) d imports (at b 0 old.host_data e) i (at m new.turns new.host_data e)
    denied_told why c i told =
        subst (λ (j : Result Instance Refusal).
        Instantiated (typed r) d imports (at b 0 old.host_data e) j (at m new.turns new.host_data e)) (sym told)
        (told_denied r d imports b host fits m within old new fresh e (subst (λ (k : ℕ). new.turns ≤ k) all few) why
        (subst (λ (k : ℕ). Comes r.growths m (growing_all d) k old (Err why) new) all c))

    -- all growths are granted
    module _ (s : IsWellFormed b) (ready : IsReady m d imports) (own : ready.before ≡ b) (same_id : m.id ≡ b.id)
        (a : Reaches r.growths m (growing_all d) (λ go. go) old new) where
      pub made_told : (left : ℕ) → left ≡ most - new.turns → (last : Surrounded T H E) (i : Result Instance Refusal) →
          Makes (typed r) d imports left (at m 0 new.host_data e) i last → (n : ℕ) (t : T) →
          n ≡ new.turns + last.store.turns → t ≡ last.store.host_data →
          Instantiated (typed r) d imports (at b 0 old.host_data e) i
          (surrounded (store_parts last.store.machine n t) last.host last.epochs)
      made_told left rest last i h n t total own_data =
          let many : length m.instances ≡ length b.instances =
          as_many m d imports ready ∙ ap (λ (k : Machine). length k.instances) own in
          subst (λ (x : T). Instantiated (typed r) d imports (at b 0 old.host_data e) i
          (surrounded (store_parts last.store.machine n x) last.host last.epochs)) (sym own_data)
          (subst (λ (k : ℕ). Instantiated (typed r) d imports (at b 0 old.host_data e) i
          (surrounded (store_parts last.store.machine k last.store.host_data) last.host last.epochs)) (sym total)
          (told_whole r d imports b host fits m within old new fresh a e same_id many last left
          (omega (arith, all, few, rest)) i h))
