-- Threads, checks and what is asked, by examples.
use Rattle.std.proofs.Common.{◌≡◌, ℕ, [], ◌∷◌, refl, ap, ◌∙◌, arith, true, false}
use Rattle.std.specs.Prelude.{ℤ, pos, negsuc, Ok}
use Rattle.wasm_meter.specs.declared.deadline.UpdateDeadline.TheVariants as update
use Rattle.wasm_values.specs.declared.refusals.Refusal.TheVariants as refusal
use Rattle.wasm_values.specs.declared.refusals.Trap.TheVariants as trap
use Rattle.wasm_objects.specs.declared.raw.RawVal.{RawVal}
use Rattle.spec_machine.specs.Machine.{Machine, new_machine}
use Rattle.spec_execution.specs.Askings.{Reading, Behaving, Read, Behaved}
use Rattle.spec_execution.specs.Checks.{check}
use Rattle.spec_execution.specs.Entering.{leave}
use Rattle.spec_execution.specs.Outcomes.{World, world, state, Values, Over, Trapped, Refused, Stopped}
use Rattle.spec_execution.proofs.EquationLemmas.{run_nil}
use Rattle.store_state.specs.Parts.{held_nothing}
use Rattle.code_stack.specs.Values.{below, values_parts}
use Rattle.code_stack.specs.Layers.{Configuration, frame_of, resumed}
use Rattle.code_leaps.specs.Leading.{Doing}
use Rattle.code_leaps.specs.Running.{charged}
use Rattle.code_stack.specs.declared.layers.Activation.{Activation}

-- a function of no results and one of its own arguments on top, which waits for a function of the host; no code is left
abbrev waiting : Activation → RawVal → Configuration
waiting a x = record {
  activation = a;
  code = [];
  layers = [];
  values = values_parts (x ∷ []) [] (below ([] ∷ []) ([] ∷ [])) 0;
}

-- the result takes the argument's place, and is that of the function
passed_on : (a : Activation) (x y : RawVal) (w : World) → a.results ≡ 1 →
    resumed (waiting a x) 1 (Values (state w [] (y ∷ []))) ≡ Values (state w [] (y ∷ []))
passed_on a x y w e =
    ap (λ n. resumed (record (waiting a x) { activation = record a { results = n } }) 1 (Values (state w [] (y ∷ [])))) e
    ∙ ap (leave 1) (run_nil (frame_of a) (state w [] (y ∷ [])))

-- a refusal of the host goes outwards
refused : (a : Activation) (x : RawVal) (w : World) →
    resumed (waiting a x) 1 (Over (Refused refusal.HostFault) w) ≡ Over (Refused refusal.HostFault) w
refused a x w = refl

-- three instructions
charges_three : (charged true (record held_nothing { fuel = pos 2 }) 3).fuel ≡ negsuc 0
charges_three = refl

charges_none : charged false (record held_nothing { fuel = pos 2 }) 3 ≡ record held_nothing { fuel = pos 2 }
charges_none = refl

-- a store that consumes fuel and reads epochs, with a deadline behaviour
abbrev store : ℤ → ℕ → Machine
store fuel deadline =
    record (new_machine (record { raw = record { value = 1; ok = omega arith }; within = omega arith })
    (record { number = 1; consumes_fuel = true; reads_epochs = true; frames = 1; turns = 10 }))
    { fuel = fuel; deadline = deadline; is_behaving = true }

abbrev done : Doing
done w = Values (state w [] [])

no_fuel : check (world (store (pos 0) 5) 3 [] []) done
    ≡ Over (Trapped trap.OutOfFuel) (world (store (pos 0) 5) 3 [] [])
no_fuel = refl

before_deadline : check (world (store (pos 1) 5) 3 [] (Read (Ok 4) ∷ [])) done
    ≡ done (world (store (pos 1) 5) 2 ((Reading, Read (Ok 4)) ∷ []) [])
before_deadline = refl

-- the second reading sets the deadline, and is not compared with it
past_deadline : check (world (store (pos 1) 5) 3 [] (Read (Ok 5) ∷ Behaved (Ok (update.Continue 0)) ∷ Read (Ok 9) ∷ []))
    done
    ≡ done (world (store (pos 1) 9) 0
    ((Reading, Read (Ok 5)) ∷ (Behaving, Behaved (Ok (update.Continue 0))) ∷ (Reading, Read (Ok 9)) ∷ []) [])
past_deadline = refl

-- for which no turn is left
stopped : check (world (store (pos 1) 5) 2 [] (Read (Ok 5) ∷ Behaved (Ok (update.Continue 0)) ∷ [])) done
    ≡ Over Stopped (world (store (pos 1) 5) 0 ((Reading, Read (Ok 5)) ∷ (Behaving, Behaved (Ok (update.Continue 0))) ∷ [])
    [])
stopped = refl
