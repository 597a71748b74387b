-- Bodies of a script's host that come by functions by name alone: none is a literal operand of theirs. This project's own.
use Rattle.std.specs.Prelude.{List, Some}
use Rattle.wasm_types.specs.Each.{Each}
use Rattle.wasm_values.specs.declared.values.Val.TheVariants as v
use Rattle.spec_machine.specs.declared.name.Operand.{Operand}
use Rattle.spec_machine.specs.declared.name.Operand.TheVariants as operand
use Rattle.spec_machine.specs.declared.operation.Op.{Op}
use Rattle.spec_machine.specs.declared.operation.Op.TheVariants.{TableNew, TableSet, TableGrow, TableFill, GlobalNew, GlobalSet, Call}
use Rattle.script_commands.specs.declared.host_bodies.Action.{Action}
use Rattle.script_commands.specs.declared.host_bodies.Action.TheVariants as action

abbrev pub IsNoFunction : Operand → Type 0
IsNoFunction (operand.Val (v.FuncRef (Some f))) = ⊥
IsNoFunction _ = Unit {0}

abbrev pub OperatesByNames : Op → Type 0
OperatesByNames (TableNew ty init) = IsNoFunction init
OperatesByNames (TableSet table at value) = IsNoFunction value
OperatesByNames (TableGrow table delta value) = IsNoFunction value
OperatesByNames (TableFill table at value len) = IsNoFunction value
OperatesByNames (GlobalNew ty init) = IsNoFunction init
OperatesByNames (GlobalSet global value) = IsNoFunction value
OperatesByNames (Call f args results) = Each args IsNoFunction
OperatesByNames _ = Unit {0}

abbrev pub ActsByNames : Action → Type 0
ActsByNames (action.Do op) = OperatesByNames op
ActsByNames (action.Return operands) = Each operands IsNoFunction
ActsByNames _ = Unit {0}

abbrev pub AreByNames : List (List Action) → Type 0
AreByNames bodies = Each bodies (λ actions. Each actions ActsByNames)
