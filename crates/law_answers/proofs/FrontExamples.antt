-- That the law on fronts is not empty, by computation: a host's function that asks for the size of a memory. Behind the
-- common answers the next question is the same, whatever follows; and another answer before it makes it another one.
use Rattle.std.proofs.Common.{◌≡◌, ℕ, ◌∷◌, [], ◌++◌, List, None, refl, arith}
use Rattle.std.specs.Prelude.{true, false, Ok, Err}
use Rattle.wasm_types.specs.Memories.{memory}
use Rattle.wasm_types.specs.MemoryTypes.{memory_parts}
use Rattle.wasm_types.specs.Signatures as sig
use Rattle.wasm_types.specs.declared.plain.Finality.TheVariants.{Final}
use Rattle.wasm_values.specs.Handles.{memory_of}
use Rattle.wasm_values.specs.declared.externals.Extern.{Extern}
use Rattle.wasm_values.specs.declared.externals.Extern.TheVariants as x
use Rattle.wasm_values.specs.declared.refusals.Refusal.TheVariants.{NoReply, FuelNotConfigured}
use Rattle.wasm_values.specs.declared.store_id.StoreId.{StoreId}
use Rattle.spec_machine.specs.Machine.{EngineParts, Machine, host, new_machine}
use Rattle.spec_machine.specs.declared.name.Name.TheVariants as name
use Rattle.spec_machine.specs.declared.operation.Op.TheVariants.{MemorySize}
use Rattle.spec_machine.specs.declared.reply.Reply.{Reply}
use Rattle.spec_machine.specs.declared.reply.Reply.TheVariants as reply
use Rattle.spec_execution.specs.Askings.{Question, Answer, Asking, Has, Stepping, Stepped}
use Rattle.spec_execution.specs.Bodies.{exec, unfolded, step}
use Rattle.spec_execution.specs.Entering.{entry}
use Rattle.spec_execution.specs.Outcomes.{World, world, Outcome, Values, Branch, Return, Over, Waiting}
use Rattle.spec_execution.specs.declared.answer.Answer.{Answer as Say}
use Rattle.spec_execution.specs.declared.answer.Answer.TheVariants as say
use Rattle.spec_execution.specs.declared.answer.Event.TheVariants.{Replied}
use Rattle.law_answers.specs.Fronts.{outcome_with, outcome_heard, WaitsAt, HeardAt}

-- ---- a store with a memory of one byte, and a function of the host of type () -> () with which the memory is stored

abbrev id : StoreId
id = record { raw = record { value = 1; ok = omega arith }; within = omega arith }

abbrev engine : EngineParts
engine = record { number = 1; consumes_fuel = false; reads_epochs = false; frames = 1024; turns = 1000 }

abbrev stored : Extern
stored = x.Memory (memory_of id 0)

abbrev hosting : Machine
hosting = record (new_machine id engine) {
  memories = memory (memory_parts 1 None 0) (0 ∷ []) ∷ [];
  functions = host (sig.signature 1 Final sig.root sig.end sig.end) 0 (stored ∷ []) ∷ [];
}

-- what a call of it comes to, with these answers
abbrev hosted : List Answer → Outcome
hosted answers = entry exec 0 0 [] None (world hosting 9 [] answers)

abbrev says : ℕ → Say → Answer
says after what = Stepped after (Ok what)

-- ---- questions behind common answers

-- it has the body, whose first step asks for the size of the memory
abbrev common : List Answer
common = Has true ∷ says 3 (say.Call (MemorySize (name.Stored 0))) ∷ []

-- the second step sees this reply
abbrev second : Reply → Question
second answer =
    Stepping 0 3 Replied
    (record {
      arguments = [];
      stored = stored ∷ [];
      replies = answer ∷ [];
      caller = None;
      engine = engine;
      fuel = Err FuelNotConfigured;
    })

abbrev heard : List Asking
heard = outcome_heard (hosted common)

abbrev left : Outcome → World
left (Values s) = s.world
left (Branch l s) = s.world
left (Return s) = s.world
left (Over e w) = w

-- with the common answers alone the call waits for an answer to it, and so with any that go on
waits : WaitsAt Over outcome_with outcome_heard heard (second (reply.Number 1)) (hosted common)
unfolding exec unfolded step
waits = record { world = left (hosted common); waits = refl; place = refl }

returns : HeardAt Over outcome_with outcome_heard heard (second (reply.Number 1))
    (hosted (common ++ says 4 (say.Return []) ∷ []))
unfolding exec unfolded step
returns = record { answer = says 4 (say.Return []); more = []; course = refl }

fails : HeardAt Over outcome_with outcome_heard heard (second (reply.Number 1)) (hosted (common ++ says 4 say.Fail ∷ []))
unfolding exec unfolded step
fails = record { answer = says 4 say.Fail; more = []; course = refl }

-- behind a first step that names no memory it is another question
abbrev unnamed : List Answer
unnamed = Has true ∷ says 3 (say.Call (MemorySize (name.Stored 1))) ∷ []

asks_another : hosted unnamed ≡ Over (Waiting (second (reply.Refused NoReply))) (left (hosted unnamed))
unfolding exec unfolded step
asks_another = refl

-- answers behind the end are left, and change nothing
abbrev ended : List Answer
ended = common ++ says 4 (say.Return []) ∷ []

comes_to_the_same :
    (hosted (ended ++ Has true ∷ []) ≡ outcome_with (Has true ∷ []) (hosted ended))
    × (hosted (ended ++ says 4 say.Fail ∷ []) ≡ outcome_with (says 4 say.Fail ∷ []) (hosted ended))
unfolding exec unfolded step
comes_to_the_same = (refl, refl)
