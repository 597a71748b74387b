-- Commands whose rows ask for no epoch: all that ask nobody but the limiter.
use Rattle.std.proofs.Common.{List, Option, Some, None, Result, Ok, Err}
use Rattle.wasm_syntax.specs.declared.declarations.ModuleDecl.{ModuleDecl}
use Rattle.wasm_values.specs.declared.refusals.Refusal.{Refusal}
use Rattle.spec_machine.specs.Commands.{Row, ActAt, reads, changes, makes, grows, named, operation, row}
use Rattle.spec_machine.specs.Growth.{Plan}
use Rattle.spec_machine.specs.Machine.{Machine}
use Rattle.spec_machine.specs.Names.{Scope, named_instance, named_memory, named_table, named_global, named_objects, operand_value}
use Rattle.spec_machine.specs.declared.command.Command.{Command}
use Rattle.spec_machine.specs.declared.command.Command.TheVariants as command
use Rattle.spec_machine.specs.declared.operation.Op.{Op}
use Rattle.spec_machine.specs.declared.operation.Op.TheVariants.{MemoryNew, MemoryRead, MemoryWrite, MemorySize, MemoryGrow, TableNew, TableGet, TableSet, TableSize, TableGrow, TableCopy, TableFill, GlobalNew, GlobalGet, GlobalSet, TagNew, GetExport, GetFuel, SetFuel, YieldInterval, SetEpochDeadline, Call}
use Rattle.spec_machine.specs.declared.reply.Reply.{Reply}
use Rattle.law_store.specs.Rows.{AsksLimiterAlone}

abbrev pub AsksNoEpoch : Row → Type 0
AsksNoEpoch (ActAt after answer) = ⊥
AsksNoEpoch r = Unit {0}

pub record IsUndated (r : Row) : Type 0 where
  pub is : AsksNoEpoch r

reads_undated : {A : Type 0} (m : Machine) (say : A → Reply) (r : Result A Refusal) → IsUndated (reads m say r)
reads_undated m say (Ok a) = record { is = tt }
reads_undated m say (Err why) = record { is = tt }

changes_undated : (r : Result Machine Refusal) → IsUndated (changes r)
changes_undated (Ok after) = record { is = tt }
changes_undated (Err why) = record { is = tt }

makes_undated : {A : Type 0} (say : A → Reply) (r : Result (Machine × A) Refusal) → IsUndated (makes say r)
makes_undated say (Ok made) = record { is = tt }
makes_undated say (Err why) = record { is = tt }

grows_undated : {A : Type 0} (say : A → Reply) (r : Result (Plan A) Refusal) → IsUndated (grows say r)
grows_undated say (Ok p) = record { is = tt }
grows_undated say (Err why) = record { is = tt }

named_undated : {A : Type 0} (o : Option A) (go : A → Row) → ((a : A) → IsUndated (go a)) → IsUndated (named o go)
named_undated None go h = record { is = tt }
named_undated (Some a) go h = h a

module _ (m : Machine) (s : Scope) where
  operation_undated : (op : Op) → AsksLimiterAlone (command.Op op) → IsUndated (operation m s op)
  operation_undated (MemoryNew ty) t = record { is = tt }
  operation_undated (MemoryRead memory at len) t = named_undated (named_memory s memory) _ (λ h. reads_undated m _ _)
  operation_undated (MemoryWrite memory at bytes) t = named_undated (named_memory s memory) _ (λ h. changes_undated _)
  operation_undated (MemorySize memory) t = named_undated (named_memory s memory) _ (λ h. reads_undated m _ _)
  operation_undated (MemoryGrow memory delta) t = named_undated (named_memory s memory) _ (λ h. grows_undated _ _)
  operation_undated (TableNew ty init) t = named_undated (operand_value s init) _ (λ val. grows_undated _ _)
  operation_undated (TableGet table at) t = named_undated (named_table s table) _ (λ h. reads_undated m _ _)
  operation_undated (TableSet table at value) t =
      named_undated (named_table s table) _ (λ h. named_undated (operand_value s value) _ (λ val. changes_undated _))
  operation_undated (TableSize table) t = named_undated (named_table s table) _ (λ h. reads_undated m _ _)
  operation_undated (TableGrow table delta value) t =
      named_undated (named_table s table) _ (λ h. named_undated (operand_value s value) _ (λ val. grows_undated _ _))
  operation_undated (TableCopy dst dst_at src src_at len) t =
      named_undated (named_table s dst) _ (λ d. named_undated (named_table s src) _ (λ e. changes_undated _))
  operation_undated (TableFill table at value len) t =
      named_undated (named_table s table) _ (λ h. named_undated (operand_value s value) _ (λ val. changes_undated _))
  operation_undated (GlobalNew ty init) t = named_undated (operand_value s init) _ (λ val. makes_undated _ _)
  operation_undated (GlobalGet global) t = named_undated (named_global s global) _ (λ h. reads_undated m _ _)
  operation_undated (GlobalSet global value) t =
      named_undated (named_global s global) _ (λ h. named_undated (operand_value s value) _ (λ val. changes_undated _))
  operation_undated (TagNew ty) t = makes_undated _ _
  operation_undated (GetExport instance name) t = named_undated (named_instance s instance) _ (λ h. reads_undated m _ _)
  operation_undated GetFuel t = reads_undated m _ _
  operation_undated (SetFuel fuel) t = changes_undated _
  operation_undated (YieldInterval interval) t = changes_undated _
  operation_undated (SetEpochDeadline ticks) t = absurd t
  operation_undated (Call func args results) t = absurd t

  pub row_undated : (modules : List ModuleDecl) (c : Command) → AsksLimiterAlone c → IsUndated (row modules m s c)
  row_undated modules (command.Op op) t = operation_undated op t
  row_undated modules (command.Instantiate number imports) t = absurd t
  row_undated modules (command.FuncNew ty body names) t =
      named_undated (named_objects s names) _ (λ found. makes_undated _ _)
