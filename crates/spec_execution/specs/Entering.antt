-- Calls of functions.
-- WebAssembly core specification, "Execution, runtime structure, function instances", "control instructions", function
-- calls; the number of frames, the checks, hooks and bodies of the host are this project's own
use Rattle.std.specs.Prelude.{ℕ, zero, suc, Bool, true, false, List, [], ◌∷◌, ◌++◌, map, length, nat_eq, pos, if◌then◌else◌, slice_get, Option, Some, None}
use Rattle.wasm_types.specs.Signatures.{Signature}
use Rattle.wasm_types.specs.FunctionParts.{params, results}
use Rattle.wasm_types.specs.declared.value_types.ValType.{ValType}
use Rattle.wasm_syntax.specs.declared.declarations.Block.{Block}
use Rattle.wasm_syntax.specs.declared.declarations.FuncDecl.{FuncDecl}
use Rattle.wasm_syntax.specs.declared.declarations.ModuleDecl.{ModuleDecl}
use Rattle.wasm_syntax.specs.declared.instr.Instr.{Instr}
use Rattle.wasm_meter.specs.declared.call_hook.CallHook.TheVariants as event
use Rattle.wasm_values.specs.Values.{default_of}
use Rattle.wasm_values.specs.declared.externals.Extern.{Extern}
use Rattle.wasm_values.specs.declared.refusals.Refusal.TheVariants as refusal
use Rattle.wasm_values.specs.declared.refusals.Trap.TheVariants as trap
use Rattle.wasm_values.specs.declared.values.Val.{Val}
use Rattle.wasm_objects.specs.declared.raw.RawVal.{RawVal}
use Rattle.wasm_objects.specs.declared.raw.RawVal.TheVariants as w
use Rattle.spec_machine.specs.Machine.{Machine, Function, guest, host, InstanceParts}
use Rattle.spec_machine.specs.Values.{raw_val, val_at}
use Rattle.spec_execution.specs.Activations.{Activation}
use Rattle.spec_execution.specs.Askings.{Having, Answer, Has}
use Rattle.spec_execution.specs.Checks.{check, pass, pass_behind}
use Rattle.spec_execution.specs.Operands as on
use Rattle.spec_execution.specs.Outcomes.{World, State, state, Outcome, Values, Branch, Return, Over, Trapped, Refused, Stuck, hear}
use Rattle.spec_execution.specs.declared.answer.Event.{Event}
use Rattle.spec_execution.specs.declared.answer.Event.TheVariants.{Start}

-- code of a function of an instance: the number of the instance, its module, the function, and how many functions are
-- open, this one among them
-- WebAssembly core specification, "Execution, runtime structure, stack, activations and frames"
pub record Frame : Type 0 where
  pub instance : ℕ
  pub decl : ModuleDecl
  pub function : FuncDecl
  pub depth : ℕ

-- what is run: a list of instructions; a loop's block once more, and then a list; a host function that is to be stepped
pub data Code : Type 0 where
  Run : Frame → List Instr → Code
  Again : Frame → ℕ → List Instr → Code
  Step : Activation → Event → Code

-- what code does
abbrev pub Exec : Type 0
Exec = Code → State → Outcome

-- ---- a function of an instance

-- a function ends by its end, by a branch to its body's label, or by a return, with its results
abbrev pub leave_front : ℕ → State → Outcome
leave_front n s = on.on_front (Over Stuck s.world) n s.operands (λ front rest. Values (state s.world [] front))

abbrev pub leave : ℕ → Outcome → Outcome
leave n (Values s) = if nat_eq (length s.operands) n then Values (state s.world [] s.operands) else Over Stuck s.world
leave n (Branch zero s) = leave_front n s
leave n (Branch (suc l) s) = Over Stuck s.world
leave n (Return s) = leave_front n s
leave n (Over e w) = Over e w

-- a local begins with the default value of its type; in a valid module each type of a local has one
abbrev pub begun : Option Val → RawVal
begun None = w.I32 (pos 0)
begun (Some val) = raw_val val

abbrev pub begun_locals : FuncDecl → List RawVal
begun_locals f = map (λ ty. begun (default_of ty)) f.locals

abbrev pub frame : ℕ → InstanceParts → FuncDecl → ℕ → Frame
frame instance parts f depth = record { instance = instance; decl = parts.decl; function = f; depth = depth }

abbrev pub run_body : Exec → Frame → List RawVal → World → Signature → Block → Outcome
run_body f fr args w t body =
    check w (λ v. leave (length (results t)) (f (Run fr body.instrs) (state v (args ++ begun_locals fr.function) [])))

abbrev pub enter_guest : Exec → ℕ → ℕ → InstanceParts → FuncDecl → List RawVal → World → Outcome
enter_guest f depth instance parts function args w =
    on.found (Over Stuck w) (slice_get parts.decl.types function.ty) (λ t.
    on.found (Over Stuck w) (slice_get function.blocks 0)
    (run_body f (frame instance parts function (suc depth)) args w t))

-- ---- a function of the host

-- values of these types, as a host handles them
abbrev pub values_at : Machine → List ValType → List RawVal → List Val
values_at m (ty ∷ tys) (v ∷ vs) = val_at m.id ty v ∷ values_at m tys vs
values_at m _ _ = []

abbrev pub activation : Machine → ℕ → Signature → ℕ → List Extern → List RawVal → Option ℕ → Activation
activation m depth t body stored args caller = record {
  body = body;
  state = 0;
  results = results t;
  arguments = values_at m (params t) args;
  stored = stored;
  replies = [];
  caller = caller;
  depth = depth;
}

abbrev pub step_first : Exec → Activation → World → Outcome
step_first f a w =
    pass event.CallingHost w (λ v. pass_behind event.ReturningFromHost (f (Step a Start) (state v [] [])))

-- its arguments are of the kinds of its parameters
abbrev pub begin_host : Exec → Activation → Bool → World → Outcome
begin_host f a kinds w = if kinds then step_first f a w else Over Stuck w

-- whether the host has the body is asked, and that is no turn
abbrev pub where_has : (World → Outcome) → Answer → World → Outcome
where_has go (Has true) w = go w
where_has go (Has false) w = Over (Refused refusal.NoHostBody) w
where_has go _ w = Over Stuck w

abbrev pub enter_host : Exec → ℕ → Signature → ℕ → List Extern → List RawVal → Option ℕ → World → Outcome
enter_host f depth t body stored args caller w =
    hear Over w (Having body)
    (where_has (begin_host f (activation w.machine depth t body stored args caller) (on.have_kinds (params t) args)))
    w.answers

-- ---- a function of either kind, with so many functions open around it, called by code of an instance or by none

abbrev pub enter_function : Exec → ℕ → List RawVal → Option ℕ → World → Function → Outcome
enter_function f depth args caller w (guest instance n) =
    on.on_instance (Over Stuck w) w.machine instance (λ parts.
    on.found (Over Stuck w) (slice_get parts.decl.functions n) (λ function.
    enter_guest f depth instance parts function args w))
enter_function f depth args caller w (host t body stored) = enter_host f depth t body stored args caller w

abbrev pub enter : Exec → ℕ → ℕ → List RawVal → Option ℕ → World → Outcome
enter f depth n args caller w =
    if nat_eq depth w.machine.engine.frames then Over (Trapped trap.StackOverflow) w
    else on.found (Over Stuck w) (slice_get w.machine.functions n) (enter_function f depth args caller w)

-- a call from outside of all code: a hook stands before and behind it
abbrev pub entry : Exec → ℕ → ℕ → List RawVal → Option ℕ → World → Outcome
entry f depth n args caller w =
    pass event.CallingWasm w (λ v. pass_behind event.ReturningFromWasm (enter f depth n args caller v))
