use Rattle.std.proofs.Common.{ap, sym, ◌∙◌}
use Rattle.wasm_objects.specs.Slots.{functions_of}
use Rattle.wasm_objects.proofs.CopyLemmas.{copied_settled, copied_closed}
use Rattle.wasm_objects.proofs.slots.copy_slots_within.Goals as goal

pub returns-in-Some-clause-copied : goal.returns-in-Some-clause-copied
returns-in-Some-clause-copied c =
    copied_settled c.args.init (functions_of c.args.functions.now) c.as_slice.result.now c.args.dst c.args.src c.args.len
    c.args.slots.now c.args.slots.now c.copy_within.new.items c.settle_range.new.slots c.if-not-copy_within.ensures.range
    c.if-not-copy_within.ensures.copied c.settle_range.ensures (c.as_slice.ensures.value ∙ ap functions_of (sym c.in-Some.is))

pub returns-in_default-clause-copied : goal.returns-in_default-clause-copied
returns-in_default-clause-copied c =
    copied_closed c.args.init (functions_of c.args.functions.now) c.args.dst c.args.src c.args.len c.args.slots.now
    c.args.slots.now c.copy_within.new.items (c.requires c.in_default.is) c.if-not-copy_within.ensures.copied
