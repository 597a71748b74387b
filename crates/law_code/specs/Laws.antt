-- What holds of every run of valid code.
-- WebAssembly core specification, "Soundness": preservation and progress
use Rattle.std.specs.Prelude.{◌≡◌, ℕ, ◌≤◌, true, List, [], length, slice_get, Option, Some, Ok}
use Rattle.std.specs.List.{list_all}
use Rattle.wasm_types.specs.FunctionParts.{params, results}
use Rattle.wasm_types.specs.Signatures.{Signature}
use Rattle.wasm_types.specs.declared.value_types.ValType.{ValType}
use Rattle.wasm_syntax.specs.Modules.{IsModule}
use Rattle.wasm_syntax.specs.Typing.{onto}
use Rattle.wasm_syntax.specs.declared.declarations.ModuleDecl.{ModuleDecl}
use Rattle.wasm_values.specs.declared.externals.Extern.{Extern}
use Rattle.wasm_values.specs.declared.handles.Func.{Func}
use Rattle.wasm_values.specs.declared.values.Val.{Val}
use Rattle.wasm_objects.specs.declared.raw.RawVal.{RawVal}
use Rattle.spec_machine.specs.FunctionCalls.{Called, called}
use Rattle.spec_machine.specs.Machine.{Machine, host}
use Rattle.spec_machine.specs.Values.{function_type, owns_extern, owns_val, all_fit}
use Rattle.spec_machine.specs.WellFormed.{IsWellFormed}
use Rattle.spec_execution.specs.Activations.{Activation}
use Rattle.spec_execution.specs.Bodies.{exec}
use Rattle.spec_execution.specs.Commands.{results_of}
use Rattle.spec_execution.specs.Entering.{activation, entry}
use Rattle.spec_execution.specs.Instantiation.{instantiate}
use Rattle.spec_execution.specs.Outcomes.{World, Over, Stuck}
use Rattle.spec_execution.specs.Runs.{outermost_call}
use Rattle.law_code.specs.Answers.{AreTyped}
use Rattle.law_code.specs.Good.{IsReturned, IsInstantiated}
use Rattle.law_code.specs.Runs.{IsSoundExec}
use Rattle.law_code.specs.Typed.{HaveTypes}

-- a world in which a run of valid code may begin: the store is well formed, the turns are at most those that an engine
-- gives to a command, and the types in what a host will say are types
pub record MayBegin (w : World) : Type 0 where
  pub well : IsWellFormed w.machine
  pub turns : w.turns ≤ 1000000000
  pub typed : AreTyped w.answers

-- what a host function was given is of the store, and its arguments are of these types
pub record IsOwnedActivation (m : Machine) (tys : List ValType) (a : Activation) : Type 0 where
  pub arguments : list_all (owns_val m) a.arguments ≡ true
  pub fit : all_fit m a.arguments tys ≡ true
  pub stored : list_all (owns_extern m) a.stored ≡ true

-- code of every kind ends as its typing says
abbrev pub CodeIsSound : Type 0
CodeIsSound = IsSoundExec exec

-- a call on arguments of the parameters' types ends with results of the result types, or early; in either case in a
-- well-formed store, later than the one before
abbrev pub CallsReturn : Type 0
CallsReturn =
    (w : World) (depth n : ℕ) (args : List RawVal) (caller : Option ℕ) (own : Signature) → MayBegin w →
    function_type w.machine n ≡ Some own → HaveTypes w.machine (params own) args →
    IsReturned w (results own) (entry exec depth n args caller w)

-- so does a call by a host, whose conditions hold
abbrev pub HostCallsReturn : Type 0
HostCallsReturn =
    (w : World) (f : Func) (args : List Val) (wanted : Option ℕ) (c : Called) → MayBegin w →
    called w.machine f args wanted ≡ Ok c → IsReturned w c.results (outermost_call w c)

-- an instantiation of a module ends with an instance of it, behind those that were there, or early; in either case in a
-- well-formed store, later than the one before
abbrev pub InstantiationsReturn : Type 0
InstantiationsReturn =
    (w : World) (depth : ℕ) (d : ModuleDecl) (imports : List Extern) → MayBegin w → IsModule d →
    IsInstantiated w (length w.machine.instances) d (instantiate exec depth w d imports)

-- it is never stuck
abbrev pub InstantiationsAreNeverStuck : Type 0
InstantiationsAreNeverStuck =
    (w v : World) (depth : ℕ) (d : ModuleDecl) (imports : List Extern) → MayBegin w → IsModule d →
    instantiate exec depth w d imports ≡ Over Stuck v → ⊥

-- the results of a call, as a host handles them, are values of the store, each of its type
abbrev pub ResultsAreOwned : Type 0
ResultsAreOwned =
    (m : Machine) (c : Called) (operands : List RawVal) → HaveTypes m (onto c.results []) operands →
    (list_all (owns_val m) (results_of m c operands) ≡ true) × (all_fit m (results_of m c operands) c.results ≡ true)

-- a function of the host begins with arguments that are values of the store, each of its type, and with objects of it
abbrev pub HostsBeginOwned : Type 0
HostsBeginOwned =
    (m : Machine) (n depth body : ℕ) (t : Signature) (stored : List Extern) (args : List RawVal) (caller : Option ℕ) →
    IsWellFormed m → slice_get m.functions n ≡ Some (host t body stored) → HaveTypes m (params t) args →
    IsOwnedActivation m (params t) (activation m depth t body stored args caller)

-- a call is never stuck
abbrev pub CallsAreNeverStuck : Type 0
CallsAreNeverStuck =
    (w v : World) (f : Func) (args : List Val) (wanted : Option ℕ) (c : Called) → MayBegin w →
    called w.machine f args wanted ≡ Ok c → outermost_call w c ≡ Over Stuck v → ⊥
