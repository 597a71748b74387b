-- An operation of a body of the host on the store of its call, into which the objects of the call are put meanwhile.
use Rattle.std.proofs.Common.{◌≡◌, ℕ, List, [], ◌∷◌, refl, ap, sym, ◌∙◌, subst, arith, None}
use Rattle.std.specs.Prelude.{Result, Ok, Err, IfOk, IfErr, OnErr, ⊤}
use Rattle.spec_machine.specs.Commands.{operation}
use Rattle.spec_machine.specs.Machine.{Machine}
use Rattle.spec_machine.specs.Names.{Scope}
use Rattle.spec_machine.specs.Values.{function_type}
use Rattle.spec_machine.specs.WellFormed.{IsWellFormed}
use Rattle.spec_machine.specs.declared.operation.Op.{Op}
use Rattle.spec_execution.specs.Askings.{Question, Growing, Reading, Answer, Grown, Read, Asking, Outside, Relations, Chain}
use Rattle.store_state.specs.Engines.{engine_parts}
use Rattle.store_state.specs.Machine.{run_machine}
use Rattle.store_state.specs.Parts.{ProgramParts, HeldParts}
use Rattle.store_state.proofs.Instances.{function_type-named}
use Rattle.store_objects.specs.Machines.{emptied}
use Rattle.code_leaps.specs.Leading.{Setting}
use Rattle.code_hosts.specs.Contexts.{IsFormedIn, opened_in}
use Rattle.code_hosts.specs.Operating.{AsksFor, Operates, Misses}
use Rattle.code_hosts.specs.Room.{IsNotRefused}
use Rattle.code_hosts.specs.declared.context.RunContext.{RunContext}
use Rattle.code_hosts.specs.declared.operations.Operated.{Operated}
use Rattle.code_hosts.specs.declared.operations.Operation.{Operation}
use Rattle.code_hosts.specs.declared.replies.Unfinished.{Unfinished}
use Rattle.wasm_store.specs.Stores.{StoreParts, store_parts}
use Rattle.wasm_call.specs.Alone.{codeless}
use Rattle.wasm_call.specs.Asking.{outside_in, Keeps, Goes, IsFit}
use Rattle.wasm_call.specs.Operating.{KeepsRead, IsHeld, AreTypes, Does, Lacks, ComesTo, WantsRoom}
use Rattle.wasm_call.specs.Outside.{Growths, Readings, Surrounded, surrounded, outside}
use Rattle.wasm_call.specs.Room.{refusal_of}
use Rattle.wasm_call.specs.declared.outside.Outside.{Outside as Lent}
use Rattle.wasm_call.proofs.HeldMachineLemmas.{open_alike, fits_open, put_back, same_program, emptied_alike}

-- ---- a call that is due takes no turn and asks nothing

module _ {T E : Type 0} (growths : Growths T) (readings : Readings E) (scope : Scope) (op due : Op) (left : ℕ)
    (s : Surrounded T ⊤ E) (e : due ≡ op) where
  pub comes_does : (what : Operated) → ComesTo scope due s.store.machine what →
      Does growths readings scope op left s s (record { what = what; spent = 0 })
  comes_does what x =
      subst (λ (o : Op). Does growths readings scope o left s s (record { what = what; spent = 0 })) e
      (λ program bounds id engine h h' types was is. record {
        within = omega arith;
        heard = [];
        chain = refl;
        by = x program bounds id engine h h' types was is left;
      })

  pub room_lacks : WantsRoom scope due s.store.machine → Lacks growths readings scope op left s s 0
  room_lacks x =
      subst (λ (o : Op). Lacks growths readings scope o left s s 0) e
      (λ program bounds id engine h h' types was is. record {
        within = omega arith;
        heard = [];
        chain = refl;
        misses = x program bounds id engine h h' types was is;
      })

-- ---- what was asked of the store, asked of what is outside of the call

module _ {T K B H E : Type 0} (r : Relations T H E) (ready : H → Type 0) (w : Lent T K B H E) where
  abbrev through : Outside T ⊤ E → Lent T K B H E
  through o = record w {
    store = record w.store { now = record w.store.now { host_data = o.host_data } };
    epochs = record w.epochs { now = o.epochs };
  }

  keeps_through : (old new : Outside T ⊤ E) → Keeps ready (through old) (through new)
  keeps_through old new = record {
    same_store = refl;
    same_host = refl;
    same_epochs = refl;
    same_hold = refl;
    same_program = refl;
    store_kept = refl;
    stays_ready = λ h. h;
  }

  asks_through : (old : Outside T ⊤ E) (q : Question) (a : Answer) (new : Outside T ⊤ E) →
      codeless r.growths r.readings old q a new → AsksFor (Goes r ready) (through old) q a (through new)
  asks_through old (Growing g) (Grown answer) new x = record {
    keeps = keeps_through old new;
    moves = λ set. (x.0, x.1, ap (λ (o : Outside T ⊤ E). outside_in (through o)) x.2);
  }
  asks_through old Reading (Read answer) new x = record {
    keeps = keeps_through old new;
    moves = λ set. (x.0, x.1, ap (λ (o : Outside T ⊤ E). outside_in (through o)) x.2);
  }
  asks_through old q a new x = absurd x

  chain_through : (old : Outside T ⊤ E) (heard : List Asking) (new : Outside T ⊤ E) →
      Chain (codeless r.growths r.readings) old heard new →
      Chain (AsksFor (Goes r ready)) (through old) heard (through new)
  chain_through old [] new e = ap through e
  chain_through old (x ∷ heard) new c =
      (through c.0, asks_through old x.0 x.1 c.0 c.1, chain_through c.0 heard new c.2)

-- ---- on the store of a call

module _ {T K B H E : Type 0} (r : Relations T H E) (ready : H → Type 0) (w : Lent T K B H E) (c : RunContext)
    (fit : IsFit ready w c) where
  abbrev s : StoreParts T
  s = w.store.now

  abbrev g : Setting HeldParts
  g = opened_in c

  -- with its objects in it; what is held of the call's program is that
  abbrev filled : HeldParts → Machine
  filled h = run_machine s.machine c.program.now h

  abbrev own_filled : HeldParts → Machine
  own_filled h = run_machine s.machine w.program.now h

  filled_is : (h : HeldParts) → own_filled h ≡ filled h
  filled_is h = ap (λ (p : ProgramParts). run_machine s.machine p h) fit.program_is

  is_open : g.is_base s.machine
  is_open = fits_open s.machine c.bounds c.id (engine_parts c.engine.now) fit.store_fits

  held_is : (h : HeldParts) → IsHeld g h (filled h)
  held_is h base b =
      open_alike c.bounds c.id (engine_parts c.engine.now) base s.machine b is_open c.program.now h

  pub filled_well : (h : HeldParts) → IsFormedIn c h → IsWellFormed (own_filled h)
  filled_well h formed = subst IsWellFormed (sym (filled_is h)) (formed s.machine is_open)

  -- the store with the objects in it, before and after the operation, and the objects taken out
  module _ (h h' : HeldParts) (one two new : StoreParts T) (one_is : one.machine ≡ own_filled h)
      (data_is : one.host_data ≡ s.host_data) (keeps : KeepsRead one.machine two.machine) (base : Machine)
      (other : ProgramParts) (whole : run_machine base other h' ≡ two.machine)
      (new_is : new ≡ store_parts (emptied two.machine) s.turns two.host_data) where
    one_filled : one.machine ≡ filled h
    one_filled = one_is ∙ filled_is h

    kept : KeepsRead (filled h) two.machine
    kept = subst (λ (m : Machine). KeepsRead m two.machine) one_filled keeps

    was : IsHeld g h one.machine
    was b o = held_is h b o ∙ sym one_filled

    is : IsHeld g h' two.machine
    is b o = held_is h' b o ∙ put_back s.machine base two.machine c.program.now other h h' kept whole

    types : AreTypes c.program.now one.machine
    types n = ap (λ (m : Machine). function_type m n) one_filled ∙ function_type-named s.machine c.program.now h n

    ends_as : new ≡ record s { host_data = two.host_data }
    ends_as =
        new_is
        ∙ ap (λ (m : Machine). store_parts m s.turns two.host_data)
        (emptied_alike (filled h) two.machine kept ∙ sym fit.store_fits.empty)

    pub left_well : IsWellFormed two.machine → IsFormedIn c h'
    left_well well = λ b o. subst IsWellFormed (sym (is b o)) well

    -- a condition that holds in the store holds in each store of the call
    pub not_refused : {A : Type 0} (scope : Scope) (op : Op) (result : Result A Unfinished) →
        OnErr result (refusal_of (operation one.machine scope op) ≡ None) →
        OnErr result (IsNotRefused g h scope op)
    not_refused scope op (Ok d) x = tt
    not_refused scope op (Err u) x = λ b o.
        ap (λ (m : Machine). refusal_of (operation m scope op)) (was b o) ∙ x

    module _ (scope : Scope) (op : Op) (left : ℕ) (epochs : E) where
      -- what is outside then: the store without its objects, and what the call reads
      abbrev after : Lent T K B H E
      after = record w {
        store = record w.store { now = new };
        epochs = record w.epochs { now = epochs };
        program = record w.program { now = other };
      }

      abbrev before_it : Surrounded T ⊤ E
      before_it = surrounded one tt w.epochs.now

      abbrev behind_it : Surrounded T ⊤ E
      behind_it = surrounded two tt epochs

      after_is : through r ready w (outside behind_it) ≡ after
      after_is =
          ap (λ (x : StoreParts T). record w {
            store = record w.store { now = x };
            epochs = record w.epochs { now = epochs };
          }) (sym ends_as)
          ∙ ap (λ (p : ProgramParts). record w {
            store = record w.store { now = new };
            epochs = record w.epochs { now = epochs };
            program = record w.program { now = p };
          }) (fit.program_is ∙ sym (same_program s.machine base two.machine c.program.now other h h' kept whole))

      before_is : through r ready w (outside before_it) ≡ w
      before_is = ap (λ (t : T). record w { store = record w.store { now = record s { host_data = t } } }) data_is

      heard_through : (heard : List Asking) →
          Chain (codeless r.growths r.readings) (outside before_it) heard (outside behind_it) →
          Chain (AsksFor (Goes r ready)) w heard after
      heard_through heard x =
          subst (λ (v : Lent T K B H E). Chain (AsksFor (Goes r ready)) w heard v) after_is
          (subst (λ (v : Lent T K B H E). Chain (AsksFor (Goes r ready)) v heard (through r ready w (outside behind_it)))
          before_is (chain_through r ready w (outside before_it) heard (outside behind_it) x))

      does_operate : (d : Operation) → Does r.growths r.readings scope op left before_it behind_it d →
          Operates g c.program.now (AsksFor (Goes r ready)) scope op h w left d h' after
      does_operate d x =
          let o : Operates g c.program.now (codeless r.growths r.readings) scope op h (outside before_it) left d h'
          (outside behind_it) = x c.program.now c.bounds c.id (engine_parts c.engine.now) h h' types was is in
          record {
            within = o.within;
            heard = o.heard;
            chain = heard_through o.heard o.chain;
            by = o.by;
          }

      lacks_miss : (spent : ℕ) → Lacks r.growths r.readings scope op left before_it behind_it spent →
          Misses g c.program.now (AsksFor (Goes r ready)) scope op h w left spent h' after
      lacks_miss spent x =
          let o : Misses g c.program.now (codeless r.growths r.readings) scope op h (outside before_it) left spent h'
          (outside behind_it) = x c.program.now c.bounds c.id (engine_parts c.engine.now) h h' types was is in
          record {
            within = o.within;
            heard = o.heard;
            chain = heard_through o.heard o.chain;
            misses = o.misses;
          }

      pub done_operates : (result : Result Operation Unfinished) →
          IfOk result (λ d. Does r.growths r.readings scope op left before_it behind_it d) →
          IfOk result (λ d. Operates g c.program.now (AsksFor (Goes r ready)) scope op h w left d h' after)
      done_operates (Ok d) x = does_operate d x
      done_operates (Err u) x = tt

      pub done_misses : (result : Result Operation Unfinished) →
          IfErr result (λ u. Lacks r.growths r.readings scope op left before_it behind_it u.turns) →
          IfErr result (λ u. Misses g c.program.now (AsksFor (Goes r ready)) scope op h w left u.turns h' after)
      done_misses (Ok d) x = tt
      done_misses (Err u) x = lacks_miss u.turns x
