use Rattle.std.proofs.Common.{◌≡◌, ap, ◌∙◌}
use Rattle.std.specs.Prelude.{◌&&◌}
use Rattle.std.specs.List.{list_all}
use Rattle.spec_machine.specs.Machine.{Machine}
use Rattle.spec_machine.specs.Values.{owns_val, all_fit}
use Rattle.store_state.specs.Engines.{engine_parts}
use Rattle.store_state.specs.Parts.{ProgramParts, HeldParts}
use Rattle.store_state.specs.declared.flags.Flags.{Flags}
use Rattle.store_objects.specs.Machines.{base_of, machine_of}
use Rattle.wasm_call.specs.Results.{flags_of, own_machine}
use Rattle.wasm_call.proofs.HeldMachineLemmas.{put_back, same_program}
use Rattle.wasm_call.proofs.KeptLemmas.{kept_all}
use Rattle.wasm_call.proofs.results.fit_store.Goals as goal
use Rattle.wasm_call.proofs.results.fit_store.Goals.{After-drop-held}

-- the machine of the objects that were put together
whole : (c : After-drop-held) → c.from_parts-objects.result ≡
    own_machine c.args.context.now c.args.program.now c.args.held.now
whole c =
    let id = c.args.context.now.id in
    let engine = engine_parts c.args.context.now.engine.now in
    let flags = flags_of c.args.context.now.bounds in
    c.from_parts-objects.ensures
    ∙ ap (λ (f : Flags). machine_of id engine f c.replace.result c.replace-2.result) c.flags_of.ensures
    ∙ ap (λ (p : ProgramParts). machine_of id engine flags p c.replace-2.result) c.replace.ensures.value
    ∙ ap (λ (h : HeldParts). machine_of id engine flags c.args.program.now h) c.replace-2.ensures.value

pub returns-clause-are : goal.returns-clause-are
returns-clause-are c =
    c.are_results-are.ensures
    ∙ ap (λ (x : Machine). list_all (owns_val x) c.args.vals.now && all_fit x c.args.vals.now c.args.types.now) (whole c)

pub returns-clause-program : goal.returns-clause-program
returns-clause-program c =
    let flags = flags_of c.args.context.now.bounds in
    let p = c.into_parts-parts.result in
    same_program (base_of c.args.context.now.id (engine_parts c.args.context.now.engine.now) flags)
    (base_of p.id (engine_parts p.engine) p.flags) _ c.args.program.now p.program c.args.held.now p.held (kept_all _)
    (c.into_parts-parts.ensures.whole ∙ whole c)

pub returns-clause-stays : goal.returns-clause-stays
returns-clause-stays c =
    let flags = flags_of c.args.context.now.bounds in
    let p = c.into_parts-parts.result in
    put_back (base_of c.args.context.now.id (engine_parts c.args.context.now.engine.now) flags)
    (base_of p.id (engine_parts p.engine) p.flags) _ c.args.program.now p.program c.args.held.now p.held (kept_all _)
    (c.into_parts-parts.ensures.whole ∙ whole c)
