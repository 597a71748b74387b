-- What a command that runs no code comes to: a refusal, or an act or a growth whose reply is no refusal.
use Rattle.std.proofs.Common.{List, Option, Some, None, Result, Ok, Err}
use Rattle.wasm_values.specs.declared.references.Ref.{Ref}
use Rattle.wasm_values.specs.declared.refusals.Refusal.{Refusal}
use Rattle.wasm_syntax.specs.declared.declarations.ModuleDecl.{ModuleDecl}
use Rattle.spec_machine.specs.Commands.{Row, Refuse, Act, ActAt, Grow, Invoke, Instantiate, reads, changes, makes, grows, named, element_reply, operation, row}
use Rattle.spec_machine.specs.Growth.{Plan}
use Rattle.spec_machine.specs.Machine.{Machine}
use Rattle.spec_machine.specs.Names.{Scope, named_instance, named_memory, named_table, named_global, named_objects, operand_value}
use Rattle.spec_machine.specs.declared.command.Command.{Command}
use Rattle.spec_machine.specs.declared.command.Command.TheVariants as command
use Rattle.spec_machine.specs.declared.operation.Op.{Op}
use Rattle.spec_machine.specs.declared.operation.Op.TheVariants.{MemoryNew, MemoryRead, MemoryWrite, MemorySize, MemoryGrow, TableNew, TableGet, TableSet, TableSize, TableGrow, TableCopy, TableFill, GlobalNew, GlobalGet, GlobalSet, TagNew, GetExport, GetFuel, SetFuel, YieldInterval, SetEpochDeadline, Call}
use Rattle.spec_machine.specs.declared.reply.Reply.{Reply}
use Rattle.spec_machine.specs.declared.reply.Reply.TheVariants.{Refused}
use Rattle.law_store.specs.Rows.{RunsNoCode, AsksLimiterAlone}

-- a reply that is no refusal
abbrev pub IsDone : Reply → Type 0
IsDone (Refused why) = ⊥
IsDone _ = Unit {0}

abbrev pub RepliesDone : Row → Type 0
RepliesDone (Refuse why) = Unit {0}
RepliesDone (Act after reply) = IsDone reply
RepliesDone (ActAt after reply) = IsDone reply
RepliesDone (Grow p) = IsDone p.gives
RepliesDone (Invoke c) = ⊥
RepliesDone (Instantiate d imports) = ⊥

pub record IsDoneRow (r : Row) : Type 0 where
  pub is : RepliesDone r

reads_done : {A : Type 0} (m : Machine) (say : A → Reply) (r : Result A Refusal) → ((a : A) → IsDone (say a)) →
    IsDoneRow (reads m say r)
reads_done m say (Ok a) h = record { is = h a }
reads_done m say (Err why) h = record { is = tt }

changes_done : (r : Result Machine Refusal) → IsDoneRow (changes r)
changes_done (Ok after) = record { is = tt }
changes_done (Err why) = record { is = tt }

makes_done : {A : Type 0} (say : A → Reply) (r : Result (Machine × A) Refusal) → ((a : A) → IsDone (say a)) →
    IsDoneRow (makes say r)
makes_done say (Ok made) h = record { is = h made.1 }
makes_done say (Err why) h = record { is = tt }

grows_done : {A : Type 0} (say : A → Reply) (r : Result (Plan A) Refusal) → ((a : A) → IsDone (say a)) →
    IsDoneRow (grows say r)
grows_done say (Ok p) h = record { is = h p.gives }
grows_done say (Err why) h = record { is = tt }

named_done : {A : Type 0} (o : Option A) (go : A → Row) → ((a : A) → IsDoneRow (go a)) → IsDoneRow (named o go)
named_done None go h = record { is = tt }
named_done (Some a) go h = h a

element_done : (o : Option Ref) → IsDone (element_reply o)
element_done None = tt
element_done (Some r) = tt

module _ (m : Machine) (s : Scope) where
  operation_done : (op : Op) → RunsNoCode (command.Op op) → IsDoneRow (operation m s op)
  operation_done (MemoryNew ty) t = record { is = tt }
  operation_done (MemoryRead memory at len) t = named_done (named_memory s memory) _ (λ h. reads_done m _ _ (λ a. tt))
  operation_done (MemoryWrite memory at bytes) t = named_done (named_memory s memory) _ (λ h. changes_done _)
  operation_done (MemorySize memory) t = named_done (named_memory s memory) _ (λ h. reads_done m _ _ (λ a. tt))
  operation_done (MemoryGrow memory delta) t = named_done (named_memory s memory) _ (λ h. grows_done _ _ (λ a. tt))
  operation_done (TableNew ty init) t = named_done (operand_value s init) _ (λ val. grows_done _ _ (λ a. tt))
  operation_done (TableGet table at) t = named_done (named_table s table) _ (λ h. reads_done m _ _ element_done)
  operation_done (TableSet table at value) t =
      named_done (named_table s table) _ (λ h. named_done (operand_value s value) _ (λ val. changes_done _))
  operation_done (TableSize table) t = named_done (named_table s table) _ (λ h. reads_done m _ _ (λ a. tt))
  operation_done (TableGrow table delta value) t =
      named_done (named_table s table) _ (λ h. named_done (operand_value s value) _ (λ val. grows_done _ _ (λ a. tt)))
  operation_done (TableCopy dst dst_at src src_at len) t =
      named_done (named_table s dst) _ (λ d. named_done (named_table s src) _ (λ e. changes_done _))
  operation_done (TableFill table at value len) t =
      named_done (named_table s table) _ (λ h. named_done (operand_value s value) _ (λ val. changes_done _))
  operation_done (GlobalNew ty init) t = named_done (operand_value s init) _ (λ val. makes_done _ _ (λ a. tt))
  operation_done (GlobalGet global) t = named_done (named_global s global) _ (λ h. reads_done m _ _ (λ a. tt))
  operation_done (GlobalSet global value) t =
      named_done (named_global s global) _ (λ h. named_done (operand_value s value) _ (λ val. changes_done _))
  operation_done (TagNew ty) t = makes_done _ _ (λ a. tt)
  operation_done (GetExport instance name) t =
      named_done (named_instance s instance) _ (λ h. reads_done m _ _ (λ a. tt))
  operation_done GetFuel t = reads_done m _ _ (λ a. tt)
  operation_done (SetFuel fuel) t = changes_done _
  operation_done (YieldInterval interval) t = changes_done _
  operation_done (SetEpochDeadline ticks) t = record { is = tt }
  operation_done (Call func args results) t = absurd t

  pub row_done : (modules : List ModuleDecl) (c : Command) → RunsNoCode c → IsDoneRow (row modules m s c)
  row_done modules (command.Op op) t = operation_done op t
  row_done modules (command.Instantiate number imports) t = absurd t
  row_done modules (command.FuncNew ty body names) t =
      named_done (named_objects s names) _ (λ found. makes_done _ _ (λ a. tt))

-- a command that asks nobody but the limiter runs no code
pub alone_runs_no_code : (c : Command) → AsksLimiterAlone c → RunsNoCode c
alone_runs_no_code (command.Op (SetEpochDeadline ticks)) h = absurd h
alone_runs_no_code c h = h
