use Rattle.std.proofs.Common.{◌∙◌, ap}
use Rattle.wasm_streams.specs.Streams.{after}
use Rattle.binary_program.specs.Statuses.{read_of}
use Rattle.binary_program.proofs.AnswerLemmas.{answered, no_write_fault, not_quiet}
use Rattle.binary_program.proofs.main_call.answer_bytes.Goals as goal

pub returns-in-Ok-write_line-clause-says : goal.returns-in-Ok-write_line-clause-says
returns-in-Ok-write_line-clause-says g c =
    answered c.args.bytes.now (g.K.Sink.held c.args.sink.now) (g.K.Sink.held c.write_line.new.sink) c.in-Ok.answer.status
    c.requires c.in-Ok.ensures.status
    (c.in-Ok-write_line.ensures.wrote
    ∙ ap (λ text. after text (g.K.Sink.held c.args.sink.now)) (c.as_str.ensures.value ∙ c.in-Ok.ensures.line))

pub returns-in-Ok-write_line-clause-untouched : goal.returns-in-Ok-write_line-clause-untouched
returns-in-Ok-write_line-clause-untouched g c = λ quiet. absurd (not_quiet c.in-Ok.answer.status c.in-Ok.ensures.written quiet)

pub returns-in-Ok-write_line-clause-write_fault : goal.returns-in-Ok-write_line-clause-write_fault
returns-in-Ok-write_line-clause-write_fault g c = λ e.
    absurd (no_write_fault c.in-Ok.answer.status (read_of c.args.bytes.now) c.in-Ok.ensures.status e)
