use Rattle.std.proofs.Common.{List, ap}
use Rattle.std.specs.Prelude.{slice_get}
use Rattle.store_state.specs.Machine.{run_machine, segments_at}
use Rattle.store_state.specs.Parts.{SegmentParts}
use Rattle.instance_parts.proofs.TakingLemmas.{kept_in, data_written, data_ended}
use Rattle.instance_parts.proofs.taking.take_data.Goals as goal

pub returns-in-Goes-clause-takes : goal.returns-in-Goes-clause-takes
returns-in-Goes-clause-takes c = λ base fs go.
    data_written c.args.instance fs c.args.globals.now (run_machine base c.args.program.now c.args.held.now)
    c.args.segment go c.args.declared.now.mode c.in-Active.memory c.offset_of-at.result c.in-Active.offset
    c.in-Active.is (c.offset_of-at.ensures fs) (run_machine base c.args.program.now c.init_memory.new.held)
    (run_machine base c.args.program.now c.drop_data.new.held)
    (c.in-Goes.ensures.wrote base fs c.args.globals.now) (c.drop_data.ensures.dropped base)

pub returns-in_default : goal.returns-in_default
returns-in_default c = record {
  takes = λ base fs go.
      data_ended c.args.instance fs c.args.globals.now (run_machine base c.args.program.now c.args.held.now)
      c.args.segment go c.args.declared.now.mode c.in-Active.memory c.offset_of-at.result c.in-Active.offset
      c.in-Active.is (c.offset_of-at.ensures fs) c.init_memory.result
      (run_machine base c.args.program.now c.init_memory.new.held) c.in_default.not-Goes
      (c.init_memory.ensures.wrote base fs c.args.globals.now)
      (kept_in base c.args.program.now c.args.held.now c.init_memory.new.held c.init_memory.result c.in_default.not-Goes
      c.init_memory.ensures.kept);
  behind = λ j past.
      ap (λ (ss : List SegmentParts). slice_get (segments_at ss c.args.instance).datas j)
      c.init_memory.ensures.segments;
}
