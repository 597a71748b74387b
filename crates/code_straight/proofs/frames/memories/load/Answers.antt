use Rattle.std.proofs.Common.{◌≡◌, ◌+◌, ◌-◌, ◌∷◌, Bool, true, false, ap, sym, ◌∙◌, arith}
use Rattle.std.proofs.lemmas.Option.{same_Some}
use Rattle.std.specs.Prelude.{Some}
use Rattle.wasm_types.specs.Memories.{Memory}
use Rattle.wasm_types.specs.Ranges.{is_range, range_of}
use Rattle.wasm_values.specs.declared.refusals.Trap.{Trap}
use Rattle.wasm_values.specs.declared.refusals.Trap.TheVariants as trap
use Rattle.wasm_objects.specs.declared.raw.RawVal.{RawVal}
use Rattle.spec_execution.specs.Straight.{Effect, Goes, bounded, load_shape, bytes, loaded}
use Rattle.store_state.specs.Machine.{run_machine}
use Rattle.code_straight.specs.Frames.{topmost}
use Rattle.code_straight.specs.Reading.{where_there, loaded_at}
use Rattle.code_straight.proofs.FrameLemmas.{topmost_put_at}
use Rattle.code_straight.proofs.frames.memories.load.Goals as goal

in_bounds : (t : Trap) (go : RawVal → Effect) (b : Bool) (v w : RawVal) → Some w ≡ where_there b v →
    bounded t b (go v) ≡ go w
in_bounds t go true v w e = ap go (same_Some v w (sym e))
in_bounds t go false v w e = absurd cc

pub returns-in-Some-loaded-clause-acts : goal.returns-in-Some-loaded-clause-acts
returns-in-Some-loaded-clause-acts c = λ locals base.
    let m = run_machine base c.args.program.now c.args.held.now in
    let x = c.in-Some-memory_at.ensures.memory in
    let at = c.in-Some.address + c.args.offset in
    let n = bytes (load_shape c.args.op).reads in
    let same : c.bytes.result.now ≡ x.bytes =
    c.bytes.ensures ∙ ap (λ (y : Memory). y.bytes)
    (same_Some c.in-Some-memory.object.now.memory x (c.in-Some-memory.ensures.lent ∙ c.in-Some-memory_at.ensures.found)) in
    c.in-Some.ensures.takes _
    ∙ c.in-Some-memory_at.ensures.leads base _
    ∙ in_bounds trap.MemoryOutOfBounds (λ v. Goes m locals (v ∷ topmost (c.args.height - 1) c.args.operands.now))
    (is_range at n x.bytes) (loaded c.args.op (range_of at n x.bytes)) c.in-Some-loaded.value
    (c.in-Some-loaded.ensures ∙ ap (λ l. loaded_at c.args.op l at) same)
    ∙ ap (λ v. Goes m locals (v ∷ topmost (c.args.height - 1) c.args.operands.now)) (sym c.put_value.ensures)
    ∙ ap (Goes m locals) (sym (topmost_put_at c.args.operands.now c.args.height (c.args.height - 1)
    c.put_value.new.operand (omega (arith, c.in-Some.ensures.some)) c.requires.within))
