-- A call and an instantiation are confined, by their clauses and the laws over the definitions.
use Rattle.std.proofs.Common.{◌≡◌, ℕ, suc, ◌≤◌, arith, List, [], ◌∷◌, ◌++◌, Option, Some, None, inl, inr, refl, sym, ap, subst}
use Rattle.std.specs.Prelude.{⊤, map, flat_map, Result, Ok, Err, IfOk, IfErr, OnOk, IsErrAnd}
use Rattle.std.proofs.lemmas.Option.{none-some, same_Some}
use Rattle.wasm_types.specs.declared.faults.OutOfMemory.{OutOfMemory as NoMemory}
use Rattle.wasm_syntax.specs.Modules.{IsModule}
use Rattle.wasm_syntax.specs.declared.declarations.ModuleDecl.{ModuleDecl}
use Rattle.wasm_values.specs.declared.externals.Extern.{Extern}
use Rattle.wasm_values.specs.declared.externals.Extern.TheVariants as x
use Rattle.wasm_values.specs.declared.handles.Func.{Func}
use Rattle.wasm_values.specs.declared.handles.Instance.{Instance}
use Rattle.wasm_values.specs.declared.refusals.Refusal.{Refusal}
use Rattle.wasm_values.specs.declared.refusals.Refusal.TheVariants.{OutOfMemory}
use Rattle.wasm_values.specs.declared.store_id.StoreId.{StoreId}
use Rattle.wasm_values.specs.declared.values.Val.{Val}
use Rattle.spec_machine.specs.Commands.{Row, Instantiate, named, invokes, row as machine_row}
use Rattle.spec_machine.specs.FunctionCalls.{called}
use Rattle.spec_machine.specs.Machine.{Machine}
use Rattle.spec_machine.specs.Names.{Scope, operand_values, with_first}
use Rattle.spec_machine.specs.WellFormed.{IsWellFormed}
use Rattle.spec_machine.specs.declared.command.Command.{Command}
use Rattle.spec_machine.specs.declared.command.Command.TheVariants as command
use Rattle.spec_machine.specs.declared.name.Name.TheVariants as name
use Rattle.spec_machine.specs.declared.name.Operand.{Operand}
use Rattle.spec_machine.specs.declared.name.Operand.TheVariants as operand
use Rattle.spec_machine.specs.declared.operation.Op.TheVariants as op
use Rattle.spec_machine.specs.declared.reply.Reply.{Reply}
use Rattle.spec_machine.specs.declared.reply.Reply.TheVariants as reply
use Rattle.spec_execution.specs.Askings.{Asking, Relations, answers_in}
use Rattle.spec_execution.specs.Bodies.{exec}
use Rattle.spec_execution.specs.Commands.{Finish, Replied, Early, by_run, instance_reply, replied}
use Rattle.spec_execution.specs.Commands as commands
use Rattle.spec_execution.specs.Instantiation.{instantiate}
use Rattle.spec_execution.specs.Outcomes.{World, world, State, Outcome, Values, Branch, Return, Over, Trapped, Refused, Stopped, Exhausted}
use Rattle.spec_reach.specs.Nodes.{Node}
use Rattle.spec_reach.specs.Reach.{in_object, reach}
use Rattle.spec_reach.specs.Roots.{in_val, by_operand, roots}
use Rattle.spec_reach.proofs.ReachLemmas.{reach_is_closed}
use Rattle.law_store.specs.Later.{Extends}
use Rattle.law_store.proofs.LaterStoreLemmas.{extends_own}
use Rattle.law_code.specs.Laws.{MayBegin}
use Rattle.law_confined.specs.Laws.{left, left_by, all_roots}
use Rattle.law_confined.specs.Shown.{unshown}
use Rattle.law_confined.proofs.ClosedSets.{begins, same_outside, keeps_reach}
use Rattle.law_confined.proofs.Confinement.{law_c, law_c_of_sets, law_g, law_g_of_sets}
use Rattle.law_confined.proofs.KeptLemmas.{law_k}
use Rattle.wasm_store.specs.Stores.{StoreParts}
use Rattle.wasm_call.specs.Calls.{call_row, Returned, Failed}
use Rattle.wasm_call.specs.Confined.{KeepsTo, Confined, heard_in, CallConfined, InstantiationConfined, handled, told}
use Rattle.wasm_call.specs.Outcomes.{by_row, answer_of, stop_of, lack_of, AnsweredRow, Called}
use Rattle.wasm_call.specs.Outside.{Moving, Surrounded, surrounded, outside, typed, Hears}
use Rattle.wasm_call.proofs.EngineLemmas.{engine_turns}
use Rattle.wasm_call.proofs.HeardLemmas.{heard_typed}
use Rattle.wasm_call.proofs.HostCallLemmas.{leads_fresh}

-- ---- where a command stands that ended

abbrev pair : Reply → World → Reply × World
pair answer v = (answer, v)

pub left_at : (o : Finish) (answer : Reply) (v : World) → answer_of o ≡ Some (answer, v) → left_by o ≡ v
left_at (Replied answer' u) answer v e =
    ap (λ (p : Reply × World). p.1) (same_Some (pair answer' u) (pair answer v) e)
left_at (Early Stopped u) answer v e = ap (λ (p : Reply × World). p.1) (same_Some (_, u) (pair answer v) e)
left_at (Early end u) answer v e = absurd cc

pub stopped_at : (o : Finish) (v : World) → stop_of o ≡ Some v → left_by o ≡ v
stopped_at (Replied answer u) v e = same_Some u v e
stopped_at (Early Stopped u) v e = same_Some u v e
stopped_at (Early end u) v e = absurd cc

pub lacked_at : (o : Finish) (v : World) → lack_of o ≡ Some v → left_by o ≡ v
lacked_at (Replied answer u) v e = absurd cc
lacked_at (Early Exhausted u) v e = same_Some u v e
lacked_at (Early end u) v e = absurd cc

-- ---- where nothing is changed

pub unchanged : (from : List Node) (m : Machine) → KeepsTo from m m
unchanged from m = record {
  outside = same_outside m from (reach m from) (reach_is_closed m from) m
      (begins m from (reach m from) (reach_is_closed m from));
  reaches = keeps_reach m from (reach m from) (reach_is_closed m from) m
      (begins m from (reach m from) (reach_is_closed m from));
  outside_sets = λ set h. same_outside m from set h m (begins m from set h);
  reaches_sets = λ set h. keeps_reach m from set h m (begins m from set h);
}

-- a command that changed nothing
pub same_confined : {T H E : Type 0} (moves : Moving T H E) (row : Row) (from : List Node) (old new : Surrounded T H E) →
    new.store.machine ≡ old.store.machine → (result : Result Reply NoMemory) → Called moves row old result new →
    Confined moves row from old result new
same_confined moves row from old new e result ran =
    let m : Machine = old.store.machine in
    record {
      ran = ran;
      keeps =
          subst (λ (after : Machine). KeepsTo (from ++ unshown m.id (heard_in moves row old new result ran)) m after)
          (sym e) (unchanged (from ++ unshown m.id (heard_in moves row old new result ran)) m);
      later = subst (λ (after : Machine). Extends m after) (sym e) (extends_own m);
    }

-- ---- a call: the command of a scope in which the function was stored

abbrev pub scope_of : Func → Scope
scope_of f = record { replies = []; arguments = []; stored = x.Func f ∷ []; caller = None }

abbrev literals : List Val → List Operand
literals args = map (λ val. operand.Val val) args

abbrev pub call_of : Func → List Val → Option ℕ → Command
call_of f args wanted = command.Op (op.Call (name.Stored 0) (literals args) wanted)

given_back : (f : Func) (args : List Val) → operand_values (scope_of f) (literals args) ≡ Some args
given_back f [] = refl
given_back f (val ∷ args) = ap (λ (rest : Option (List Val)). with_first (Some val) rest) (given_back f args)

pub row_is : (m : Machine) (f : Func) (args : List Val) (wanted : Option ℕ) →
    machine_row [] m (scope_of f) (call_of f args wanted) ≡ call_row m f args wanted
row_is m f args wanted =
    ap (λ (vals : Option (List Val)). named vals (λ vs. invokes (called m f vs wanted))) (given_back f args)

literal_nodes : (id : StoreId) (f : Func) (args : List Val) →
    flat_map (by_operand id (scope_of f)) (literals args) ≡ flat_map (in_val id) args
literal_nodes id f [] = refl
literal_nodes id f (val ∷ args) = ap (λ (ns : List Node). in_val id val ++ ns) (literal_nodes id f args)

pub roots_are : (id : StoreId) (f : Func) (args : List Val) (wanted : Option ℕ) →
    roots id (scope_of f) (call_of f args wanted) ≡ handled id f args
roots_are id f args wanted = ap (λ (ns : List Node). in_object id (x.Func f) ++ ns) (literal_nodes id f args)

-- ---- where code stands that a command ran

pub same_left : (say : State → Reply) (o : Outcome) → left_by (by_run Early say replied o) ≡ left o
same_left say (Values s) = refl
same_left say (Branch l s) = refl
same_left say (Return s) = refl
same_left say (Over (Trapped trap) w) = refl
same_left say (Over (Refused why) w) = refl
same_left say (Over end w) = refl

-- ---- what a host is told, by how its row ended

ran_as : {T H E A : Type 0} (moves : Moving T H E) (row : Row) (old new : Surrounded T H E) (answer : A → Reply)
    (result : Result A Refusal) → IfOk result (λ a. AnsweredRow moves row old (answer a) new) →
    IfErr result (λ why. Failed moves row old why new) → Called moves row old (told answer result) new
ran_as moves row old new answer (Ok a) l k = l
ran_as moves row old new answer (Err OutOfMemory) l k = k
ran_as moves row old new answer (Err why) l k = k

-- ---- a command by its row

module _ {T H E : Type 0} (r : Relations T H E) (old new : Surrounded T H E) (well : IsWellFormed old.store.machine) where
  abbrev m : Machine
  m = old.store.machine

  -- where it began, with so many turns
  abbrev began : ℕ → List Asking → World
  began turns heard = world m turns [] (answers_in heard ++ [])

  module _ (row : Row) (from : List Node) where
    abbrev ended : ℕ → List Asking → World
    ended turns heard = left_by (by_row row (began turns heard))

    -- the laws of it
    record IsLawful : Type 0 where
      keeps : (turns : ℕ) (heard : List Asking) →
          KeepsTo (all_roots from (began turns heard) (ended turns heard)) m (ended turns heard).machine
      later : (turns : ℕ) (heard : List Asking) → MayBegin (began turns heard) → Extends m (ended turns heard).machine

    module _ (lawful : IsLawful) where
      -- what it comes to, by where it ended
      record IsLeft (heard : List Asking) : Type 0 where
        keeps : KeepsTo (from ++ unshown m.id heard) m new.store.machine
        later : Extends m new.store.machine

      by_end : (turns rest : ℕ) (heard : List Asking) → turns ≤ 1000000000 → Hears (typed r) old heard new →
          ended turns heard ≡ world new.store.machine rest heard [] → IsLeft heard
      by_end turns rest heard few hears e = record {
        keeps =
            subst (λ (v : World). KeepsTo (all_roots from (began turns heard) v) m v.machine) e
            (lawful.keeps turns heard);
        later =
            subst (λ (v : World). Extends m v.machine) e
            (lawful.later turns heard (record {
              well = well;
              turns = few;
              typed = heard_typed r (outside old) (outside new) heard hears;
            }));
      }

      row_confined : (result : Result Reply NoMemory) → Called (typed r) row old result new →
          Confined (typed r) row from old result new
      row_confined (Ok answer) l =
          let k : IsLeft l.heard = by_end m.engine.turns l.left l.heard (engine_turns m well) l.chained
          (left_at (by_row row (began m.engine.turns l.heard)) answer _ (l.ends [] [])) in
          record { ran = l; keeps = k.keeps; later = k.later }
      row_confined (Err none) (inl c) =
          let few : new.store.turns ≤ 1000000000 = omega (arith, c.within, engine_turns m well) in
          let k : IsLeft c.led.heard = by_end new.store.turns c.led.left c.led.heard few c.led.chained
          (stopped_at (by_row row (began new.store.turns c.led.heard)) _ (c.led.ends [] [])) in
          record { ran = inl c; keeps = k.keeps; later = k.later }
      row_confined (Err none) (inr c) =
          let few : suc new.store.turns ≤ 1000000000 = omega (arith, c.within, engine_turns m well) in
          let k : IsLeft c.led.heard = by_end (suc new.store.turns) c.led.left c.led.heard few c.led.chained
          (lacked_at (by_row row (began (suc new.store.turns) c.led.heard)) _ (c.led.ends [] [])) in
          record { ran = inr c; keeps = k.keeps; later = k.later }

  -- ---- calls

  module _ (f : Func) (args : List Val) (wanted : Option ℕ) where
    abbrev from : List Node
    from = handled m.id f args

    abbrev due : Row
    due = call_row m f args wanted

    -- of the command, and so of the row
    module _ (P : List Node → World → Type 0) (turns : ℕ) (heard : List Asking) where
      abbrev w : World
      w = began turns heard

      by_command :
          P (roots m.id (scope_of f) (call_of f args wanted))
          (left_by (commands.command exec [] (scope_of f) (call_of f args wanted) w))
          → P from (left_by (by_row due w))
      by_command h =
          subst (λ (row : Row). P from (left_by (by_row row w))) (row_is m f args wanted)
          (subst (λ (ns : List Node). P ns (left_by (commands.command exec [] (scope_of f) (call_of f args wanted) w)))
          (roots_are m.id f args wanted) h)

    call_lawful : IsLawful due from
    call_lawful = record {
      keeps = λ turns heard. by_command
          (λ ns v. KeepsTo (all_roots ns (began turns heard) v) m v.machine) turns heard
          (let w : World = began turns heard in
          let s : Scope = scope_of f in
          let c : Command = call_of f args wanted in
          record {
            outside = law_c.commands [] s c w;
            reaches = law_g.commands [] s c w;
            outside_sets = law_c_of_sets.commands [] s c w;
            reaches_sets = law_g_of_sets.commands [] s c w;
          });
      later = λ turns heard may. by_command (λ ns v. Extends m v.machine) turns heard
          (law_k.commands [] (scope_of f) (call_of f args wanted) (began turns heard) may (λ n a e. absurd (none-some a e)) tt);
    }

    -- by what it returned, or why it did not
    returned_as : {A : Type 0} (vals : List Val) (result : Result A Refusal) →
        OnOk result (Returned (typed r) due old vals new) →
        IfOk result (λ done. AnsweredRow (typed r) due old (reply.Values vals) new)
    returned_as vals (Ok done) h = h
    returned_as vals (Err why) h = tt

    pub call_confined : {A : Type 0} (vals : List Val) (result : Result A Refusal) →
        OnOk result (Returned (typed r) due old vals new) → IfErr result (λ why. Failed (typed r) due old why new) →
        CallConfined (typed r) f args wanted old result vals new
    call_confined vals result h k =
        row_confined due from call_lawful (told (λ done. reply.Values vals) result)
        (ran_as (typed r) due old new (λ done. reply.Values vals) result (returned_as vals result h) k)

  -- ---- instantiations

  module _ (d : ModuleDecl) (imports : List Extern) (is : IsModule d) where
    abbrev given : List Node
    given = flat_map (in_object m.id) imports

    instantiation_lawful : IsLawful (Instantiate d imports) given
    instantiation_lawful = record {
      keeps = λ turns heard.
          let w : World = began turns heard in
          subst (λ (v : World). KeepsTo (all_roots given w v) m v.machine)
          (sym (same_left (instance_reply m) (instantiate exec 0 w d imports)))
          (record {
            outside = law_c.instantiations 0 w d imports;
            reaches = law_g.instantiations 0 w d imports;
            outside_sets = law_c_of_sets.instantiations 0 w d imports;
            reaches_sets = law_g_of_sets.instantiations 0 w d imports;
          });
      later = λ turns heard may.
          let w : World = began turns heard in
          subst (λ (v : World). Extends m v.machine) (sym (same_left (instance_reply m) (instantiate exec 0 w d imports)))
          (law_k.instantiations 0 w d imports may is);
    }

    pub instantiation_confined : (result : Result Instance Refusal) →
        Called (typed r) (Instantiate d imports) old (told (λ made. reply.Instance made) result) new →
        InstantiationConfined (typed r) d imports old result new
    instantiation_confined result ran =
        row_confined (Instantiate d imports) given instantiation_lawful (told (λ made. reply.Instance made) result) ran

-- ---- a call of a store whose turns are counted anew

module _ {T H E : Type 0} (r : Relations T H E) (host host' : H) (epochs epochs' : E) (old new : StoreParts T)
    (well : IsWellFormed old.machine) (f : Func) (args : List Val) (wanted : Option ℕ) where
  abbrev before : Surrounded T H E
  before = surrounded old host epochs

  abbrev behind : Surrounded T H E
  behind = surrounded new host' epochs'

  -- it returned
  pub returned_confined : (mid : StoreParts T) → mid ≡ record old { turns = 0 } → (vals results : List Val) →
      results ≡ vals →
      Returned (typed r) (call_row mid.machine f args wanted) (surrounded mid host epochs) vals behind →
      CallConfined {A = ⊤} (typed r) f args wanted before (Ok tt) results behind
  returned_confined mid e vals results same h =
      let row : Row = call_row old.machine f args wanted in
      let own : Returned (typed r) row before vals behind =
      leads_fresh (typed r) (λ w. answer_of (by_row row w)) old.machine.engine.turns before
      (λ w. Some (reply.Values vals, w)) behind
      (subst (λ (s : StoreParts T). Returned (typed r) (call_row s.machine f args wanted) (surrounded s host epochs) vals
      behind) e h) in
      subst (λ (xs : List Val). CallConfined {A = ⊤} (typed r) f args wanted before (Ok tt) xs behind) (sym same)
      (call_confined r before behind well f args wanted {A = ⊤} vals (Ok tt) own tt)

  -- it did not, and there are no results
  pub failed_confined : (why : Refusal) (result : Result ⊤ Refusal) → IsErrAnd result (λ told. told ≡ why) →
      IfErr result (λ told. Failed (typed r) (call_row old.machine f args wanted) before told behind) →
      (results : List Val) → CallConfined (typed r) f args wanted before result results behind
  failed_confined why (Ok done) e h results = absurd e
  failed_confined why (Err told) e h results =
      call_confined r before behind well f args wanted {A = ⊤} results (Err told) tt h
