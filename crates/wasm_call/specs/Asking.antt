-- What is outside of a run on the objects of a store: the store, out of which they were taken, a host and a source of
-- epochs, all of them lent. This project's own.
use Rattle.std.proofs.Common.{subst, sym, ap, ◌∙◌}
use Rattle.std.specs.Prelude.{◌≡◌, refl, ℕ, Bool, true}
use Rattle.spec_machine.specs.Machine.{Machine}
use Rattle.spec_execution.specs.Askings.{Question, Having, Passing, Behaving, Answer, Has, Outside, Relations, Moves}
use Rattle.store_state.specs.Engines.{engine_parts}
use Rattle.code_hosts.specs.Asked.{outside_by}
use Rattle.code_hosts.specs.declared.context.RunContext.{RunContext}
use Rattle.wasm_store.specs.Stores.{StoreParts}
use Rattle.wasm_call.specs.Operating.{Fits}
use Rattle.wasm_call.specs.declared.outside.Outside.{Outside as Lent}

-- of a store the host data alone change
abbrev pub KeepsStore : {T : Type 0} → StoreParts T → StoreParts T → Type 0
KeepsStore old new = new ≡ record old { host_data = new.host_data }

-- a hook and a deadline behaviour are asked only where one is set
abbrev pub IsSet : Machine → Question → Type 0
IsSet m (Passing event) = m.is_hooked ≡ true
IsSet m Behaving = m.is_behaving ≡ true
IsSet m q = Unit {0}

-- as the definitions have it
abbrev pub outside_in : {T K B H E : Type 0} → Lent T K B H E → Outside T H E
outside_in w = outside_by w.store.now.host_data w.host.now w.epochs.now

-- the loans are the same, and so are what the run reads and the store; a host that was ready is
pub record Keeps {T K B H E : Type 0} (ready : H → Type 0) (old new : Lent T K B H E) : Type 0 where
  pub same_store : new.store.ghost_name ≡ old.store.ghost_name
  pub same_host : new.host.ghost_name ≡ old.host.ghost_name
  pub same_epochs : new.epochs.ghost_name ≡ old.epochs.ghost_name
  pub same_hold : new.program.ghost_name ≡ old.program.ghost_name
  pub same_program : new.program.now ≡ old.program.now
  pub store_kept : KeepsStore old.store.now new.store.now
  pub stays_ready : ready old.host.now → ready new.host.now

-- a question may have this answer; of what is not set nothing is said
pub record Goes {T K B H E : Type 0} (r : Relations T H E) (ready : H → Type 0) (old : Lent T K B H E) (q : Question)
    (a : Answer) (new : Lent T K B H E) : Type 0 where
  pub keeps : Keeps ready old new
  pub moves : IsSet old.store.now.machine q → Moves r (outside_in old) q a (outside_in new)

-- the host says of each number whether it has such a body
pub can_answer : {T K B H E : Type 0} (r : Relations T H E) (ready : H → Type 0) (w : Lent T K B H E) (body : ℕ) →
    (has : Bool) × Goes r ready w (Having body) (Has has) w
can_answer r ready w body = (
  r.has w.host.now body,
  record {
    keeps = record {
      same_store = refl;
      same_host = refl;
      same_epochs = refl;
      same_hold = refl;
      same_program = refl;
      store_kept = refl;
      stays_ready = λ h. h;
    };
    moves = λ set. (refl, refl);
  },
)

-- it is what is outside of this call: the host is ready, what it holds is what the call reads, and the store is the call's
pub record IsFit {T K B H E : Type 0} (ready : H → Type 0) (w : Lent T K B H E) (c : RunContext) : Type 0 where
  pub is_ready : ready w.host.now
  pub program_is : w.program.now ≡ c.program.now
  pub store_fits : Fits w.store.now.machine c.bounds c.id (engine_parts c.engine.now)

-- whatever is asked
pub stays_fit : {T K B H E : Type 0} (r : Relations T H E) (ready : H → Type 0) (old : Lent T K B H E) (q : Question)
    (a : Answer) (new : Lent T K B H E) (c : RunContext) → Goes r ready old q a new → IsFit ready old c →
    IsFit ready new c
stays_fit {T} r ready old q a new c g f = record {
  is_ready = g.keeps.stays_ready f.is_ready;
  program_is = g.keeps.same_program ∙ f.program_is;
  store_fits = subst (λ (m : Machine). Fits m c.bounds c.id (engine_parts c.engine.now))
      (sym (ap (λ (s : StoreParts T). s.machine) g.keeps.store_kept)) f.store_fits;
}
