-- That the laws of open calls are not empty, by computation: a call of a function of the host that is asked for its first
-- step, and goes on with the answer; a loop that pauses before its check; and a place that is no pause.
use Rattle.std.proofs.Common.{◌≡◌, ℕ, suc, ◌∷◌, [], ◌++◌, List, None, refl, sym, ap, ◌+◌, ◌∙◌, arith}
use Rattle.std.specs.Prelude.{true, false, Err}
use Rattle.std.proofs.lemmas.List.{append-nil}
use Rattle.wasm_types.specs.Memories.{memory}
use Rattle.wasm_types.specs.MemoryTypes.{memory_parts}
use Rattle.wasm_types.specs.Signatures.{Signature}
use Rattle.wasm_types.specs.Signatures as sig
use Rattle.wasm_types.specs.declared.plain.Finality.TheVariants.{Final}
use Rattle.wasm_syntax.specs.declared.declarations.FuncDecl.{FuncDecl}
use Rattle.wasm_syntax.specs.declared.declarations.ModuleDecl.{ModuleDecl}
use Rattle.wasm_syntax.specs.declared.instr.Instr.TheVariants as i
use Rattle.wasm_meter.specs.declared.call_hook.CallHook.TheVariants as event
use Rattle.wasm_values.specs.Handles.{memory_of}
use Rattle.wasm_values.specs.declared.externals.Extern.{Extern}
use Rattle.wasm_values.specs.declared.externals.Extern.TheVariants as x
use Rattle.wasm_values.specs.declared.refusals.Refusal.TheVariants.{FuelNotConfigured}
use Rattle.wasm_values.specs.declared.store_id.StoreId.{StoreId}
use Rattle.spec_machine.specs.FunctionCalls.{Called}
use Rattle.spec_machine.specs.Machine.{EngineParts, Machine, InstanceParts, guest, host, new_machine}
use Rattle.spec_execution.specs.Activations.{Activation}
use Rattle.spec_execution.specs.Askings.{Having, Has, Stepping, Asking}
use Rattle.spec_execution.specs.Bodies.{exec, unfolded, step, after, loop_exit}
use Rattle.spec_execution.specs.Checks.{check, pass_behind}
use Rattle.spec_execution.specs.Entering.{Frame, frame, Run, Step, activation, leave}
use Rattle.spec_execution.specs.Outcomes.{World, world, state, Outcome}
use Rattle.spec_execution.specs.declared.answer.Answer.TheVariants as say
use Rattle.spec_execution.specs.declared.answer.Event.TheVariants.{Start}
use Rattle.spec_execution.proofs.EquationLemmas.{exec_is}
use Rattle.law_open.specs.Opens.{Open, opened, Leads, whole, begun, Stands, IsPaused, Rests, halted}
use Rattle.law_open.specs.Steps.{StepDue, asked, answering, answered}
use Rattle.law_open.proofs.PartLemmas.{goes_on_stands}
use Rattle.law_open.proofs.StepLemmas.{answers_go_on}

-- ---- a store with a memory of one byte; a function of the host of type () -> () with which it is stored; and a loop
-- without end, as a function of an instance

abbrev id : StoreId
id = record { raw = record { value = 1; ok = omega arith }; within = omega arith }

abbrev engine : EngineParts
engine = record { number = 1; consumes_fuel = false; reads_epochs = false; frames = 1024; turns = 1000 }

abbrev quiet : Signature
quiet = sig.signature 1 Final sig.root sig.end sig.end

abbrev stored : List Extern
stored = x.Memory (memory_of id 0) ∷ []

abbrev looping : FuncDecl
looping = record {
  ty = 0;
  locals = [];
  blocks = record { ty = 0; instrs = i.Loop 1 ∷ [] } ∷ record { ty = 0; instrs = i.Br 0 ∷ [] } ∷ [];
  targets = [];
}

abbrev decl : ModuleDecl
decl = record {
  engine = record { 0 = 1 };
  number = 0;
  types = quiet ∷ [];
  imports = [];
  functions = looping ∷ [];
  tables = [];
  memories = [];
  globals = [];
  tags = [];
  exports = [];
  elements = [];
  datas = [];
  start = None;
}

abbrev instance : InstanceParts
instance = record {
  decl = decl;
  functions = 1 ∷ [];
  tables = [];
  memories = [];
  globals = [];
  tags = [];
  elements = [];
  datas = [];
}

abbrev first : Machine
first = record (new_machine id engine) {
  memories = memory (memory_parts 1 None 0) (0 ∷ []) ∷ [];
  functions = host quiet 0 stored ∷ guest 0 0 ∷ [];
  instances = instance ∷ [];
}

abbrev call_of : ℕ → Called
call_of n = record { function = n; arguments = []; results = [] }

-- ---- the step of the host's function

abbrev heard : List Asking
heard = (Having 0, Has true) ∷ []

abbrev body : Activation
body = activation first 0 quiet 0 stored [] None

abbrev borders : Outcome → Outcome
borders o = pass_behind event.ReturningFromWasm (pass_behind event.ReturningFromHost o)

abbrev at_step : Open
at_step = opened first 0 (λ w. borders (exec (Step body Start) (state w [] [])))

is_due : StepDue at_step
is_due = record {
  activation = body;
  event = Start;
  around = borders;
  due = λ w. refl;
  passes = record { stopped = λ w. refl; waiting = λ q w. refl };
}

stands_at_step : Stands (call_of 0) first heard at_step
stands_at_step = record {
  within = omega arith;
  leads = record {
    by = λ extra before rest.
        let e : 0 + extra ≡ extra = omega arith in
        ap (λ t. whole (call_of 0) (world first t before (Has true ∷ rest))) e;
  };
}

-- the step sees the stored memory, and that nobody's code called
asks_for_the_step : asked at_step is_due ≡ Stepping 0 0 Start
    (record {
      arguments = [];
      stored = stored;
      replies = [];
      caller = None;
      engine = engine;
      fuel = Err FuelNotConfigured;
    })
unfolding is_due
asks_for_the_step = refl

-- it returns: the call is an open one behind that turn, and what is due is its end
behind : Stands (call_of 0) first (heard ++ answering at_step is_due 3 (say.Return []))
    (answered at_step is_due 3 (say.Return []))
behind =
    goes_on_stands (call_of 0) first heard (answering at_step is_due 3 (say.Return [])) at_step
    (answered at_step is_due 3 (say.Return [])) stands_at_step (answers_go_on at_step is_due 3 (say.Return []))
    (omega arith)

-- ---- the loop before its check, when a turn was made

abbrev fr : Frame
fr = frame 0 instance looping 1

abbrev rounds : World → Outcome
rounds w =
    pass_behind event.ReturningFromWasm (leave 0 (after exec (Run fr []) (loop_exit fr 1 [] quiet) []
    (check w (λ v. exec (Run fr (i.Br 0 ∷ [])) (state v [] [])))))

abbrev at_check : Open
at_check = opened first 1 rounds

leads_there : Leads (whole (call_of 1)) first 1 [] rounds first
unfolding step
leads_there = record {
  by = λ extra before rest.
      let e : 1 + extra ≡ suc extra = omega arith in
      ap (λ t. whole (call_of 1) (world first t before rest)) e
      ∙ ap (λ (o : Outcome). pass_behind event.ReturningFromWasm (leave 0 o))
      (exec_is (Run fr (i.Loop 1 ∷ [])) (state (world first (suc extra) before rest) [] []))
      ∙ ap (λ q. rounds (world first extra q rest)) (sym (append-nil before));
}

rests_there : Rests at_check
unfolding exec unfolded step
rests_there before rest = refl

pauses : IsPaused (call_of 1) first [] at_check
pauses = record { stands = record { within = omega arith; leads = leads_there }; rests = rests_there }

-- ---- no pause: before it is asked whether the host has the body, which is no turn, it does not rest

no_pause : halted ((begun (call_of 0) first).due (world first 0 [] [])) ≡ None
no_pause = refl
