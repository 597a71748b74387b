-- Commands keep the store well formed, through the code that they call and the instances that they make.
use Rattle.std.proofs.Common.{◌≡◌, ℕ, List, [], Ok, Err, refl, Option, None, Some, Result, length, slice_get}
use Rattle.wasm_types.proofs.MatchingLemmas.{no}
use Rattle.wasm_types.specs.Each.{Each}
use Rattle.wasm_syntax.specs.Modules.{IsModule}
use Rattle.wasm_values.specs.declared.externals.Extern.{Extern}
use Rattle.law_store.proofs.Lists.{each_none}
use Rattle.wasm_types.specs.declared.value_types.ValType.{ValType}
use Rattle.wasm_values.specs.declared.refusals.Refusal.TheVariants as refusal
use Rattle.spec_machine.specs.Commands.{Row, Refuse, Act, ActAt, Grow, Invoke, Instantiate, invokes, named, row}
use Rattle.spec_machine.specs.Commands as machine
use Rattle.spec_machine.specs.FunctionCalls.{Called, called}
use Rattle.spec_machine.specs.Growth.{Decision, Granted, Failed, Faulted, Plan}
use Rattle.spec_machine.specs.Machine.{Machine}
use Rattle.spec_machine.specs.Names.{Scope, named_func, named_objects, operand_values}
use Rattle.spec_machine.specs.WellFormed.{IsWellFormed}
use Rattle.spec_machine.specs.declared.command.Command.TheVariants as command_is
use Rattle.spec_machine.specs.declared.command.Command.{Command}
use Rattle.spec_machine.specs.declared.operation.Op.{Op}
use Rattle.spec_machine.specs.declared.operation.Op.TheVariants.{Call}
use Rattle.spec_machine.specs.declared.reply.Reply.{Reply}
use Rattle.spec_machine.specs.declared.reply.Reply.TheVariants as reply
use Rattle.law_store.specs.Granted.{IsGranted}
use Rattle.law_store.specs.Later.{Extends, LeavesFlags}
use Rattle.law_store.specs.Rows.{LeavesBy, IsTyped, IsTypedOperation}
use Rattle.law_store.proofs.RefusedCommandLemmas.{RepliesDone, row_done}
use Rattle.law_store.proofs.Rows.{row_keeps, row_extends, row_leaves_flags}
use Rattle.spec_execution.specs.Askings.{Reading, Answer, Read}
use Rattle.spec_execution.specs.Outcomes.{World, State, Outcome, Values, Branch, Return, Over, End, Trapped, Refused}
use Rattle.law_code.specs.Good.{IsGoodWorld, IsGoodEnd, IsReturned}
use Rattle.law_code.proofs.Changes.{IsSafeChange}
use Rattle.law_code.proofs.Checks.{decides}
use Rattle.law_code.proofs.Worlds.{IsNext, next_own, next_on, machine_next, IsAnswered, turns, asks}
use Rattle.wasm_types.specs.FunctionParts.{results}
use Rattle.wasm_syntax.specs.declared.declarations.ModuleDecl.{ModuleDecl}
use Rattle.wasm_values.specs.declared.refusals.Refusal.{Refusal}
use Rattle.spec_execution.specs.Commands.{Finish, Replied, Early, acts, grown, dated, by_run, invoke, call_reply, instance_reply, perform, operation, replied, command}
use Rattle.spec_execution.specs.Entering.{Exec}
use Rattle.spec_execution.specs.Instantiation.{instantiate}
use Rattle.law_code.specs.Runs.{IsSoundExec}
use Rattle.law_code.proofs.Conditions.{IsSafeCall, safe_call}
use Rattle.law_code.proofs.EntryLemmas.{entry_good}
use Rattle.law_code.proofs.InstantiationLemmas.{instantiate_good, instantiated_returns}

-- a row whose change, or whose call, is safe, or whose module is one
abbrev pub IsSafeRow : Machine → Row → Type 0
IsSafeRow m (Invoke c) = IsSafeCall m c
IsSafeRow m (Instantiate d imports) = IsModule d
IsSafeRow m r = LeavesBy (IsSafeChange m) m r

-- a call in a row is safe, and a module in it is one
abbrev CallsAreSafe : Machine → Row → Type 0
CallsAreSafe m (Invoke c) = IsSafeCall m c
CallsAreSafe m (Instantiate d imports) = IsModule d
CallsAreSafe m r = Unit {0}

safe_change : (m after : Machine) → IsWellFormed after → Extends m after → LeavesFlags m after → IsSafeChange m after
safe_change m after w x rest = record { well = w; later = x; owed = rest.owed }

safe_row : (m : Machine) (r : Row) → LeavesBy IsWellFormed m r → LeavesBy (Extends m) m r →
    LeavesBy (LeavesFlags m) m r → CallsAreSafe m r → IsSafeRow m r
safe_row m (Refuse why) w x rest c = tt
safe_row m (Act after reply) w x rest c = safe_change m after w x rest
safe_row m (ActAt after reply) w x rest c =
    λ reading. safe_change m (after reading) (w reading) (x reading) (rest reading)
safe_row m (Grow p) w x rest c = λ g. safe_change m p.after (w g) (x g) (rest g)
safe_row m (Invoke called) w x rest c = c
safe_row m (Instantiate d imports) w x rest c = c

-- ---- the call in a row

done_calls : (m : Machine) (r : Row) → RepliesDone r → CallsAreSafe m r
done_calls m (Refuse why) h = tt
done_calls m (Act after reply) h = tt
done_calls m (ActAt after reply) h = tt
done_calls m (Grow p) h = tt
done_calls m (Invoke c) h = absurd h
done_calls m (Instantiate d imports) h = absurd h

named_calls : {A : Type 0} (m : Machine) (o : Option A) (go : A → Row) → ((a : A) → CallsAreSafe m (go a)) →
    CallsAreSafe m (named o go)
named_calls m None go h = tt
named_calls m (Some a) go h = h a

invoked_call : (m : Machine) (r : Result Called Refusal) → ((c : Called) → r ≡ Ok c → IsSafeCall m c) →
    CallsAreSafe m (invokes r)
invoked_call m (Ok c) h = h c refl
invoked_call m (Err why) h = tt

operation_calls : (m : Machine) (s : Scope) (op : Op) → CallsAreSafe m (machine.operation m s op)
operation_calls m s (Call func args wanted) =
    named_calls m (named_func s func) _ (λ h. named_calls m (operand_values s args) _ (λ vals.
    invoked_call m (called m h vals wanted) (safe_call m h vals wanted)))
operation_calls m s op = done_calls m (machine.operation m s op) (row_done m s [] (command_is.Op op) tt).is

-- a module of the session, by its number
numbered_calls : (m : Machine) (o : Option ModuleDecl) (imports : List Extern) →
    ((d : ModuleDecl) → o ≡ Some d → IsModule d) → CallsAreSafe m (named o (λ d. Instantiate d imports))
numbered_calls m None imports h = tt
numbered_calls m (Some d) imports h = h d refl

row_calls : (modules : List ModuleDecl) (m : Machine) (s : Scope) (c : Command) → Each modules IsModule →
    CallsAreSafe m (row modules m s c)
row_calls modules m s (command_is.Op op) are = operation_calls m s op
row_calls modules m s (command_is.Instantiate number imports) are =
    named_calls m (named_objects s imports) _ (λ found.
    numbered_calls m (slice_get modules number) found (λ d p. are number d p))
row_calls modules m s (command_is.FuncNew ty body names) are =
    done_calls m _ (row_done m s modules (command_is.FuncNew ty body names) tt).is

pub row_safe : (modules : List ModuleDecl) (m : Machine) (s : Scope) (c : Command) → IsWellFormed m → IsTyped c →
    Each modules IsModule → IsSafeRow m (row modules m s c)
row_safe modules m s c w t are =
    safe_row m (row modules m s c) (row_keeps modules m s c w t) (row_extends modules m s c)
    (row_leaves_flags modules m s c) (row_calls modules m s c are)

pub operation_safe : (m : Machine) (s : Scope) (op : Op) → IsWellFormed m → IsTypedOperation op →
    IsSafeRow m (machine.operation m s op)
operation_safe m s op w t = row_safe [] m s (command_is.Op op) w t (each_none IsModule)

-- ---- a command in a run, of anything that may end early

module _ (base : World) {O : Type 0} (early : End → World → O) (P : O → Type 0)
    (ends : (e : End) (w : World) → IsGoodEnd base e w → P (early e w)) where
  abbrev pub Next : Type 0
  Next = World → Reply → O

  acts_good : (u w : World) (after : Machine) (answer : Reply) (go : Next) →
      IsGoodWorld base u → IsNext base u w → IsSafeChange u.machine after →
      ((v : World) (y : Reply) → IsGoodWorld base v → P (go v y)) → P (acts early w after answer go)
  acts_good u w after answer go gu next s k =
      turns base early P ends w (λ v. go (record v { machine = after }) answer) next.good (λ v n.
      k (record v { machine = after }) answer (machine_next base u v after gu (next_on base u w v next n) s).good)

  grows_good : (w : World) (p : Plan Reply) (go : Next) → IsGoodWorld base w →
      (IsGranted w.machine p → IsSafeChange w.machine p.after) →
      ((v : World) (y : Reply) → IsGoodWorld base v → P (go v y)) →
      (d : Decision) (v : World) → IsNext base w v → (d ≡ Granted → IsGranted w.machine p) →
      P (grown early p go d v)
  grows_good w p go g s k Granted v n h = acts_good w v p.after p.gives go g n (s (h refl)) k
  grows_good w p go g s k Failed v n h = k v (reply.Refused refusal.GrowFailed) n.good
  grows_good w p go g s k Faulted v n h = k v (reply.Refused refusal.LimiterFault) n.good

  dated_good : (w : World) (after : ℕ → Machine) (answer : Reply) (go : Next) → IsGoodWorld base w →
      ((reading : ℕ) → IsSafeChange w.machine (after reading)) →
      ((v : World) (y : Reply) → IsGoodWorld base v → P (go v y)) →
      (a : Answer) (v : World) → IsAnswered base w Reading a v → P (dated early after answer go a v)
  dated_good w after answer go g s k (Read (Ok reading)) v h =
      acts_good w v (after reading) answer go g h.next (s reading) k
  dated_good w after answer go g s k (Read (Err fault)) v h = k v (reply.Refused refusal.EpochFault) h.next.good
  dated_good w after answer go g s k _ v h = no h.fits

  by_run_good : (res : List ValType) (say : State → Reply) (go : Next) (o : Outcome) → IsReturned base res o →
      ((v : World) (y : Reply) → IsGoodWorld base v → P (go v y)) → P (by_run early say go o)
  by_run_good res say go (Values s) h k = k s.world (say s) h.world
  by_run_good res say go (Branch l s) h k = absurd h
  by_run_good res say go (Return s) h k = absurd h
  by_run_good res say go (Over (Trapped t) w) h k = k w (reply.Refused (refusal.Trap t)) h
  by_run_good res say go (Over (Refused why) w) h k = k w (reply.Refused why) h
  by_run_good res say go (Over e w) h k = ends e w h

  module _ (f : Exec) (sound : IsSoundExec f) (depth : ℕ) where
    pub perform_good : (w : World) (r : Row) (go : Next) → IsGoodWorld base w → IsSafeRow w.machine r →
        ((v : World) (y : Reply) → IsGoodWorld base v → P (go v y)) → P (perform early f depth w r go)
    perform_good w (Refuse why) go g s k = k w (reply.Refused why) g
    perform_good w (Act after answer) go g s k = acts_good w w after answer go g (next_own base w g) s k
    perform_good w (ActAt after answer) go g s k =
        asks base early P ends w Reading (dated early after answer go) g (dated_good w after answer go g s k)
    perform_good w (Grow p) go g s k =
        decides base early P ends w p (grown early p go) (grows_good w p go g s k) g
    perform_good w (Invoke c) go g s k =
        by_run_good (results s.own) (call_reply c) go (invoke f depth w c)
        (entry_good base f sound w depth c.function c.arguments None s.own s.found g s.arguments) k
    perform_good w (Instantiate d imports) go g s k =
        by_run_good [] (instance_reply w.machine) go (instantiate f depth w d imports)
        (instantiated_returns base (length w.machine.instances) d (instantiate f depth w d imports)
        (instantiate_good f sound base depth d s imports (length w.machine.instances) w refl g)) k

    pub operation_good : (s : Scope) (op : Op) (w : World) (go : Next) → IsTypedOperation op → IsGoodWorld base w →
        ((v : World) (y : Reply) → IsGoodWorld base v → P (go v y)) → P (operation early f depth s op w go)
    operation_good s op w go t g k =
        perform_good w (machine.operation w.machine s op) go g (operation_safe w.machine s op g.well t) k

-- an outermost command ends in a good world
module _ (base : World) where
  abbrev pub IsGoodFinish : Finish → Type 0
  IsGoodFinish (Replied answer w) = IsGoodWorld base w
  IsGoodFinish (Early e w) = IsGoodEnd base e w

  pub command_good : (f : Exec) (sound : IsSoundExec f) (modules : List ModuleDecl) (s : Scope) (c : Command)
      (w : World) → IsTyped c → Each modules IsModule → IsGoodWorld base w → IsGoodFinish (command f modules s c w)
  command_good f sound modules s c w t are g =
      perform_good base Early IsGoodFinish (λ e v h. h) f sound 0 w (row modules w.machine s c) replied g
      (row_safe modules w.machine s c g.well t are) (λ v y h. h)
