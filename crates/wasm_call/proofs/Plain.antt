-- Commands that run no code: what their rows are; and that each which asks nobody but the limiter leaves the engine.
use Rattle.std.proofs.Common.{inl, inr, ◌≡◌, ℕ, zero, suc, List, [], ◌∷◌, ◌++◌, Option, Some, None, refl, ap, subst}
use Rattle.std.specs.Prelude.{Bool, true, false, Result, Ok, Err}
use Rattle.wasm_syntax.specs.declared.declarations.ModuleDecl.{ModuleDecl}
use Rattle.wasm_meter.specs.Growths.{Growth}
use Rattle.wasm_meter.specs.declared.faults.LimiterFailed.{LimiterFailed}
use Rattle.wasm_types.specs.declared.faults.OutOfMemory.{OutOfMemory as NoMemory}
use Rattle.wasm_values.specs.Values.{val_ref}
use Rattle.wasm_values.specs.declared.externals.Extern.TheVariants as x
use Rattle.wasm_values.specs.declared.refusals.Refusal.{Refusal}
use Rattle.spec_machine.specs.Commands.{Row, Refuse, Act, ActAt, Grow, Invoke, Instantiate, reads, changes, makes, grows, named, one_value, element_reply, operation, row}
use Rattle.spec_machine.specs.FuelCalls.{get_fuel, fill_fuel, yield_interval}
use Rattle.spec_machine.specs.GlobalCalls.{global_new, global_get, global_set, tag_new}
use Rattle.spec_machine.specs.Growth.{Plan, plan_rule, Rule, Grows, Fails, Asks, Decision, Granted, Failed, Faulted, answered_growth}
use Rattle.spec_machine.specs.InstanceCalls.{get_export}
use Rattle.spec_machine.specs.Machine.{Machine}
use Rattle.spec_machine.specs.MemoryCalls.{memory_read, memory_write, memory_size, memory_grow}
use Rattle.spec_machine.specs.Names.{Scope, named_memory, named_table, named_global, named_instance, named_objects, operand_value}
use Rattle.spec_machine.specs.TableCalls.{table_new, table_get, table_set, table_size, table_grow, table_copy, table_fill}
use Rattle.spec_machine.specs.ValueCalls.{func_new}
use Rattle.spec_machine.specs.declared.command.Command.{Command}
use Rattle.spec_machine.specs.declared.command.Command.TheVariants as command
use Rattle.spec_machine.specs.declared.operation.Op.{Op}
use Rattle.spec_machine.specs.declared.operation.Op.TheVariants.{MemoryNew, MemoryRead, MemoryWrite, MemorySize, MemoryGrow, TableNew, TableGet, TableSet, TableSize, TableGrow, TableCopy, TableFill, GlobalNew, GlobalGet, GlobalSet, TagNew, GetExport, GetFuel, SetFuel, YieldInterval, SetEpochDeadline, Call}
use Rattle.spec_machine.specs.declared.reply.Reply.{Reply}
use Rattle.spec_machine.specs.declared.reply.Reply.TheVariants.{Number, Bytes, Object}
use Rattle.spec_execution.specs.Askings.{Answer, Grown, Has, Passed, Read, Behaved, Stepped, Asking, answers_in}
use Rattle.spec_execution.specs.Checks.{by_rule}
use Rattle.spec_execution.specs.Commands.{Early, acts, grown, replied}
use Rattle.spec_execution.specs.Outcomes.{World, world}
use Rattle.law_store.specs.Granted.{IsGranted}
use Rattle.law_store.specs.Later.{LeavesFlags}
use Rattle.law_store.specs.Rows.{LeavesBy, RunsNoCode, AsksLimiterAlone}
use Rattle.law_store.proofs.Rows.{leaves_by, row_leaves_flags}
use Rattle.wasm_store.specs.Stores.{StoreParts}
use Rattle.wasm_call.specs.Alone.{AnsweredWithin, PerformedWithin}
use Rattle.wasm_call.specs.Outcomes.{by_row, answer_of}
use Rattle.wasm_call.specs.Outside.{Growths}

-- a row of a command that asks nobody but the limiter, and of one that runs no code
abbrev pub IsPlain : Row → Type 0
IsPlain (Refuse why) = Unit {0}
IsPlain (Act after reply) = Unit {0}
IsPlain (Grow p) = Unit {0}
IsPlain _ = ⊥

abbrev pub IsCodeless : Row → Type 0
IsCodeless (ActAt after reply) = Unit {0}
IsCodeless r = IsPlain r

plain_reads : {A : Type 0} (m : Machine) (say : A → Reply) (due : Result A Refusal) → IsPlain (reads m say due)
plain_reads m say (Ok a) = tt
plain_reads m say (Err why) = tt

plain_changes : (due : Result Machine Refusal) → IsPlain (changes due)
plain_changes (Ok after) = tt
plain_changes (Err why) = tt

plain_makes : {A : Type 0} (say : A → Reply) (due : Result (Machine × A) Refusal) → IsPlain (makes say due)
plain_makes say (Ok made) = tt
plain_makes say (Err why) = tt

plain_grows : {A : Type 0} (say : A → Reply) (due : Result (Plan A) Refusal) → IsPlain (grows say due)
plain_grows say (Ok p) = tt
plain_grows say (Err why) = tt

plain_named : {A : Type 0} (o : Option A) (go : A → Row) → ((a : A) → IsPlain (go a)) → IsPlain (named o go)
plain_named None go h = tt
plain_named (Some a) go h = h a

module _ (m : Machine) (v : Scope) where
  plain_operation : (op : Op) → AsksLimiterAlone (command.Op op) → IsPlain (operation m v op)
  plain_operation (MemoryNew ty) none = tt
  plain_operation (MemoryRead memory at len) none = plain_named (named_memory v memory) _
      (λ h. plain_reads m Bytes (memory_read m h at len))
  plain_operation (MemoryWrite memory at bytes) none = plain_named (named_memory v memory) _
      (λ h. plain_changes (memory_write m h at bytes))
  plain_operation (MemorySize memory) none = plain_named (named_memory v memory) _
      (λ h. plain_reads m Number (memory_size m h))
  plain_operation (MemoryGrow memory delta) none = plain_named (named_memory v memory) _
      (λ h. plain_grows Number (memory_grow m h delta))
  plain_operation (TableNew ty init) none = plain_named (operand_value v init) _
      (λ val. plain_grows (λ h. Object (x.Table h)) (table_new m ty (val_ref val)))
  plain_operation (TableGet table at) none = plain_named (named_table v table) _
      (λ h. plain_reads m element_reply (table_get m h at))
  plain_operation (TableSet table at value) none =
      plain_named (named_table v table) _
      (λ h. plain_named (operand_value v value) _ (λ val. plain_changes (table_set m h at (val_ref val))))
  plain_operation (TableSize table) none = plain_named (named_table v table) _
      (λ h. plain_reads m Number (table_size m h))
  plain_operation (TableGrow table delta value) none =
      plain_named (named_table v table) _
      (λ h. plain_named (operand_value v value) _ (λ val. plain_grows Number (table_grow m h delta (val_ref val))))
  plain_operation (TableCopy dst dst_at src src_at len) none =
      plain_named (named_table v dst) _
      (λ d. plain_named (named_table v src) _ (λ e. plain_changes (table_copy m d dst_at e src_at len)))
  plain_operation (TableFill table at value len) none =
      plain_named (named_table v table) _
      (λ h. plain_named (operand_value v value) _ (λ val. plain_changes (table_fill m h at (val_ref val) len)))
  plain_operation (GlobalNew ty init) none = plain_named (operand_value v init) _
      (λ val. plain_makes (λ h. Object (x.Global h)) (global_new m ty val))
  plain_operation (GlobalGet global) none = plain_named (named_global v global) _
      (λ h. plain_reads m one_value (global_get m h))
  plain_operation (GlobalSet global value) none =
      plain_named (named_global v global) _
      (λ h. plain_named (operand_value v value) _ (λ val. plain_changes (global_set m h val)))
  plain_operation (TagNew ty) none = plain_makes (λ h. Object (x.Tag h)) (tag_new m ty)
  plain_operation (GetExport instance name) none = plain_named (named_instance v instance) _
      (λ h. plain_reads m Object (get_export m h name))
  plain_operation GetFuel none = plain_reads m Number (get_fuel m)
  plain_operation (SetFuel fuel) none = plain_changes (fill_fuel m fuel)
  plain_operation (YieldInterval interval) none = plain_changes (yield_interval m interval)
  plain_operation (SetEpochDeadline ticks) none = absurd none
  plain_operation (Call func args results) none = absurd none

pub plain : (modules : List ModuleDecl) (m : Machine) (v : Scope) (c : Command) → AsksLimiterAlone c →
    IsPlain (row modules m v c)
plain modules m v (command.FuncNew ty body stored) none =
    plain_named (named_objects v stored) _ (λ found. plain_makes (λ h. Object (x.Func h)) (func_new m ty body found))
plain modules m v (command.Instantiate number imports) none = absurd none
plain modules m v (command.Op op) none = plain_operation m v op none

is_codeless : (r : Row) → IsPlain r → IsCodeless r
is_codeless (Refuse why) p = p
is_codeless (Act after reply) p = p
is_codeless (ActAt after reply) p = tt
is_codeless (Grow plan) p = p
is_codeless (Invoke c) p = p
is_codeless (Instantiate d imports) p = p

pub codeless : (modules : List ModuleDecl) (m : Machine) (v : Scope) (c : Command) → RunsNoCode c →
    IsCodeless (row modules m v c)
codeless modules m v (command.Op (SetEpochDeadline ticks)) none = tt
codeless modules m v (command.Op op) none = by_operation op none where
  by_operation : (op : Op) → RunsNoCode (command.Op op) → IsCodeless (operation m v op)
  by_operation (SetEpochDeadline ticks) none = tt
  by_operation op none = is_codeless (operation m v op) (plain_operation m v op none)
codeless modules m v c none = is_codeless (row modules m v c) (plain modules m v c none)

-- ---- what each store that a row may leave has, the store that it leaves has

granted_by : (g : Growth) (answer : Result Bool LimiterFailed) → answered_growth g answer ≡ Granted →
    answered_growth g (Ok true) ≡ Granted
granted_by g (Ok true) e = e
granted_by g (Ok false) e = cc
granted_by g (Err fault) e = cc

module _ (P : Machine → Type 0) (m : Machine) (own : P m) where
  abbrev pub In : Option (Reply × World) → Type 0
  In None = Unit {0}
  In (Some a) = P a.1.machine

  in_acts : (after : Machine) (reply : Reply) → P after → (turns : ℕ) (before : List Asking) (answers : List Answer) →
      In (answer_of (acts Early (world m turns before answers) after reply replied))
  in_acts after reply h zero before answers = own
  in_acts after reply h (suc turns) before answers = h

  in_grown : (p : Plan Reply) (d : Decision) → (d ≡ Granted → P p.after) → (turns : ℕ) (before : List Asking)
      (answers : List Answer) → In (answer_of (grown Early p replied d (world m turns before answers)))
  in_grown p Granted h turns before answers = in_acts p.after p.gives (h refl) turns before answers
  in_grown p Failed h turns before answers = own
  in_grown p Faulted h turns before answers = own

  in_heard : (p : Plan Reply) → (IsGranted m p → P p.after) → plan_rule m p ≡ Asks →
      (turns : ℕ) (before : List Asking) (answers : List Answer) →
      In (answer_of (by_rule Early (world m turns before answers) p (grown Early p replied) Asks))
  in_heard p h e zero before answers = own
  in_heard p h e (suc turns) before [] = tt
  in_heard p h e (suc turns) before (Grown answer ∷ rest) =
      in_grown p (answered_growth p.growth answer) (λ d. h (inr (e, granted_by p.growth answer d))) turns _ rest
  in_heard p h e (suc turns) before (Has answer ∷ rest) = tt
  in_heard p h e (suc turns) before (Passed answer ∷ rest) = tt
  in_heard p h e (suc turns) before (Read answer ∷ rest) = tt
  in_heard p h e (suc turns) before (Behaved answer ∷ rest) = tt
  in_heard p h e (suc turns) before (Stepped after answer ∷ rest) = tt

  in_rule : (p : Plan Reply) → (IsGranted m p → P p.after) → (rule : Rule) → plan_rule m p ≡ rule →
      (turns : ℕ) (before : List Asking) (answers : List Answer) →
      In (answer_of (by_rule Early (world m turns before answers) p (grown Early p replied) rule))
  in_rule p h Grows e turns before answers = in_grown p Granted (λ d. h (inl e)) turns before answers
  in_rule p h Fails e turns before answers = own
  in_rule p h Asks e turns before answers = in_heard p h e turns before answers

  in_dated : (after : ℕ → Machine) (reply : Reply) → ((reading : ℕ) → P (after reading)) → (turns : ℕ)
      (before : List Asking) (answers : List Answer) →
      In (answer_of (by_row (ActAt after reply) (world m turns before answers)))
  in_dated after reply h zero before answers = own
  in_dated after reply h (suc turns) before [] = tt
  in_dated after reply h (suc turns) before (Read (Ok reading) ∷ rest) =
      in_acts (after reading) reply (h reading) turns _ rest
  in_dated after reply h (suc turns) before (Read (Err fault) ∷ rest) = own
  in_dated after reply h (suc turns) before (Grown answer ∷ rest) = tt
  in_dated after reply h (suc turns) before (Has answer ∷ rest) = tt
  in_dated after reply h (suc turns) before (Passed answer ∷ rest) = tt
  in_dated after reply h (suc turns) before (Behaved answer ∷ rest) = tt
  in_dated after reply h (suc turns) before (Stepped s answer ∷ rest) = tt

  pub in_codeless : (r : Row) → IsCodeless r → LeavesBy P m r → (turns : ℕ) (before : List Asking)
      (answers : List Answer) → In (answer_of (by_row r (world m turns before answers)))
  in_codeless (ActAt after reply) n h turns before answers = in_dated after reply h turns before answers
  in_codeless (Refuse why) n h turns before answers = own
  in_codeless (Act after reply) n h turns before answers = in_acts after reply h turns before answers
  in_codeless (Grow p) n h turns before answers = in_rule p h (plan_rule m p) refl turns before answers
  in_codeless (Invoke c) n h turns before answers = absurd n
  in_codeless (Instantiate d imports) n h turns before answers = absurd n

-- ---- so the engine stays

abbrev IsOf : Machine → Machine → Type 0
IsOf m after = after.engine ≡ m.engine

pub answered_engine : {T : Type 0} (growths : Growths T) (limit : ℕ) (modules : List ModuleDecl) (v : Scope)
    (c : Command) (old new : StoreParts T) (reply : Reply) → AsksLimiterAlone c →
    AnsweredWithin growths limit (row modules old.machine v c) old reply new → new.machine.engine ≡ old.machine.engine
answered_engine growths limit modules v c old new reply none l =
    let m = old.machine in
    let r = row modules m v c in
    let leaves = leaves_by (LeavesFlags m) (IsOf m) m r (λ after h. h.engine) (row_leaves_flags modules m v c) in
    let P : Option (Reply × World) → Type 0 = λ o. In (IsOf m) m refl o in
    subst P (l.ends [] []) (in_codeless (IsOf m) m refl r (is_codeless r (plain modules m v c none)) leaves limit []
    (answers_in l.heard ++ []))

pub performed_engine : {T : Type 0} (growths : Growths T) (limit : ℕ) (v : Scope) (op : Op)
    (result : Result Reply NoMemory) (old new : StoreParts T) → AsksLimiterAlone (command.Op op) →
    PerformedWithin growths limit (operation old.machine v op) old result new →
    new.machine.engine ≡ old.machine.engine
performed_engine growths limit v op (Ok reply) old new none l =
    answered_engine growths limit [] v (command.Op op) old new reply none l
performed_engine growths limit v op (Err short) old new none s = ap (λ (m : Machine). m.engine) s.unchanged
