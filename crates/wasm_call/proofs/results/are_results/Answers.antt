use Rattle.std.proofs.Common.{sym, subst}
use Rattle.spec_machine.specs.WellFormed.{IsWellFormed}
use Rattle.store_state.specs.Engines.{engine_parts}
use Rattle.store_state.specs.Parts.{ProgramParts}
use Rattle.store_objects.specs.Machines.{base_of}
use Rattle.wasm_call.specs.Results.{flags_of, own_machine}
use Rattle.wasm_call.proofs.HeldMachineLemmas.{base_open}
use Rattle.wasm_call.proofs.results.are_results.Goals as goal

pub fit_store-requires : goal.fit_store-requires
fit_store-requires c = record {
  formed = subst (λ (p : ProgramParts). IsWellFormed (own_machine c.args.context.now p c.args.held.now))
      (sym c.requires.program)
      (c.requires.formed (base_of c.args.context.now.id (engine_parts c.args.context.now.engine.now)
      (flags_of c.args.context.now.bounds))
      (base_open c.args.context.now.bounds c.args.context.now.id (engine_parts c.args.context.now.engine.now)
      c.requires.rules));
}
