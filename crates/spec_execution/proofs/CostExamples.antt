-- Worked examples of what a bulk instruction takes of the fuel, each by computation.
use Rattle.std.proofs.Common.{◌≡◌, ◌∷◌, [], Some, refl}
use Rattle.std.specs.Prelude.{ℕ, Ok, pos, negsuc, ◌++◌, replicate}
use Rattle.wasm_types.specs.Memories.{memory}
use Rattle.wasm_types.specs.MemoryTypes.{memory_parts}
use Rattle.wasm_syntax.specs.declared.instr.Instr.TheVariants as i
use Rattle.wasm_values.specs.declared.refusals.Trap.TheVariants as trap
use Rattle.spec_machine.specs.FuelCalls.{get_fuel}
use Rattle.spec_machine.specs.Machine.{Machine}
use Rattle.spec_execution.specs.Bodies.{exec, unfolded, step}
use Rattle.spec_execution.specs.Outcomes.{Outcome, Trapped}
use Rattle.spec_execution.proofs.Samples.{store, straight, in_each, with_fuel, call, ending, left, bytes_left, Gives, Ends}

-- a memory of one page
abbrev with_page : Machine → Machine
with_page m =
    in_each (λ i. record i { memories = 0 ∷ [] })
    (record m { memories = memory (memory_parts 1 (Some 1) 16) (replicate 65536 0) ∷ [] })

-- a function that fills so many bytes of it with sevens
abbrev filling : ℕ → ℕ → Machine
filling fuel count =
    with_fuel (pos fuel) (with_page (store (straight 0
    (i.Const32 (pos 0) ∷ i.Const32 (pos 7) ∷ i.Const32 (pos count) ∷ i.MemoryFill 0 ∷ []) ∷ [])))

abbrev filled : ℕ → ℕ → Outcome
filled fuel count = call (filling fuel count) 9 [] 0 []

-- it takes one unit for each byte, besides that of each instruction
fills : ending (filled 1000 100) ≡ Gives []
unfolding exec unfolded step
fills = refl

pays_for_each_byte : (left (filled 1000 100)).machine.fuel ≡ pos 896
unfolding exec unfolded step
pays_for_each_byte = refl

writes_each_byte : bytes_left (filled 1000 100) ≡ (replicate 100 7 ++ replicate 65436 0) ∷ []
unfolding exec unfolded step
writes_each_byte = refl

-- where there is any fuel it is done, and the rest is owed
fills_on_a_debt : ending (filled 50 100) ≡ Gives []
unfolding exec unfolded step
fills_on_a_debt = refl

owes_the_rest : (left (filled 50 100)).machine.fuel ≡ negsuc 53
unfolding exec unfolded step
owes_the_rest = refl

tells_no_debt : get_fuel (left (filled 50 100)).machine ≡ Ok 0
unfolding exec unfolded step
tells_no_debt = refl

enters_nothing_more : ending (call (left (filled 50 100)).machine 9 [] 0 []) ≡ Ends (Trapped trap.OutOfFuel)
unfolding exec unfolded step
enters_nothing_more = refl

-- without fuel it is not begun
needs_fuel_to_fill : ending (filled 3 100) ≡ Ends (Trapped trap.OutOfFuel)
unfolding exec unfolded step
needs_fuel_to_fill = refl

writes_nothing_without_fuel : bytes_left (filled 3 100) ≡ replicate 65536 0 ∷ []
unfolding exec unfolded step
writes_nothing_without_fuel = refl

-- a range that is not there is paid for, too
fills_past_the_end : ending (filled 100000 65537) ≡ Ends (Trapped trap.MemoryOutOfBounds)
unfolding exec unfolded step
fills_past_the_end = refl

pays_past_the_end : (left (filled 100000 65537)).machine.fuel ≡ pos 34459
unfolding exec unfolded step
pays_past_the_end = refl

writes_nothing_past_the_end : bytes_left (filled 100000 65537) ≡ replicate 65536 0 ∷ []
unfolding exec unfolded step
writes_nothing_past_the_end = refl
