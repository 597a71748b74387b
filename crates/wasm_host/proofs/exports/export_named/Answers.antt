use Rattle.std.proofs.Common.{◌∙◌, ap, sym, refl}
use Rattle.std.specs.Prelude.{Option}
use Rattle.spec_machine.specs.Machine.{new_machine}
use Rattle.spec_execution.specs.Askings.{Caller}
use Rattle.store_state.specs.Engines.{engine_parts}
use Rattle.store_state.specs.Machine.{instance_of, segments_at}
use Rattle.wasm_host.specs.Callers.{object_named}
use Rattle.wasm_host.proofs.ExportLemmas.{caller_found, caller_missing}
use Rattle.wasm_host.proofs.exports.export_named.Goals as goal

pub returns-in-Some : goal.returns-in-Some
returns-in-Some c =
    let v = c.args.store.now in
    let segments = segments_at v.held.now.segments c.args.number in
    c.exported.ensures (instance_of c.in-Some.instance.now segments) (segments, refl)
    ∙ ap (λ (o : Option Caller). object_named o c.args.name.now) (sym (caller_found
    (new_machine v.id (engine_parts v.engine.now)) v.program.now v.held.now c.args.number c.in-Some.instance.now
    (sym c.in-Some.ensures)))

pub returns-in-None : goal.returns-in-None
returns-in-None c =
    let v = c.args.store.now in
    ap (λ (o : Option Caller). object_named o c.args.name.now) (sym (caller_missing
    (new_machine v.id (engine_parts v.engine.now)) v.program.now v.held.now c.args.number (sym c.in-None.ensures)))
