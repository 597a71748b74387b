-- What holds of every store that a command may leave.
-- This project's own.
use Rattle.std.specs.Prelude.{ℕ}
use Rattle.wasm_types.specs.SoundTypes.{IsExternSound}
use Rattle.wasm_types.specs.declared.extern_type.ExternType.{ExternType}
use Rattle.wasm_types.specs.declared.extern_type.ExternType.TheVariants as x
use Rattle.spec_machine.specs.Commands.{Row, Refuse, Act, ActAt, Grow, Invoke, Instantiate}
use Rattle.spec_machine.specs.Machine.{Machine}
use Rattle.spec_machine.specs.declared.command.Command.{Command}
use Rattle.spec_machine.specs.declared.command.Command.TheVariants as command
use Rattle.spec_machine.specs.declared.operation.Op.{Op}
use Rattle.spec_machine.specs.declared.operation.Op.TheVariants.{MemoryNew, TableNew, GlobalNew, TagNew, SetEpochDeadline, Call}
use Rattle.law_store.specs.Granted.{IsGranted}

-- of the store that a row leaves: a refusal leaves none, and a growth leaves one where it is granted; of the code that
-- a row runs nothing is said
abbrev pub LeavesBy : (Machine → Type 0) → Machine → Row → Type 0
LeavesBy P m (Refuse why) = Unit {0}
LeavesBy P m (Act after reply) = P after
LeavesBy P m (ActAt after reply) = (reading : ℕ) → P (after reading)
LeavesBy P m (Grow p) = IsGranted m p → P p.after
LeavesBy P m (Invoke c) = Unit {0}
LeavesBy P m (Instantiate d imports) = Unit {0}

-- the types of the objects that a command makes are of this kind
abbrev pub MakesGood : (ExternType → Type 0) → Op → Type 0
MakesGood IsGood (MemoryNew ty) = IsGood (x.Memory ty)
MakesGood IsGood (TableNew ty init) = IsGood (x.Table ty)
MakesGood IsGood (GlobalNew ty init) = IsGood (x.Global ty)
MakesGood IsGood (TagNew ty) = IsGood (x.Tag ty)
MakesGood IsGood _ = Unit {0}

abbrev pub AreGood : (ExternType → Type 0) → Command → Type 0
AreGood IsGood (command.FuncNew ty body stored) = IsGood (x.Func ty)
AreGood IsGood (command.Instantiate number imports) = Unit {0}
AreGood IsGood (command.Op op) = MakesGood IsGood op

-- the types in a command are types: what each type's own constructors assure
abbrev pub IsTypedOperation : Op → Type 0
IsTypedOperation op = MakesGood IsExternSound op

abbrev pub IsTyped : Command → Type 0
IsTyped c = AreGood IsExternSound c

-- a command that runs no code: every one but a call and an instantiation
abbrev pub RunsNoCode : Command → Type 0
RunsNoCode (command.Instantiate number imports) = ⊥
RunsNoCode (command.Op (Call func args results)) = ⊥
RunsNoCode _ = Unit {0}

-- a command that asks nobody but the limiter: it runs no code, and reads no epoch
abbrev pub AsksLimiterAlone : Command → Type 0
AsksLimiterAlone (command.Op (SetEpochDeadline ticks)) = ⊥
AsksLimiterAlone c = RunsNoCode c
