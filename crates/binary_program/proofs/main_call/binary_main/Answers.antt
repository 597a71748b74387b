use Rattle.std.proofs.Common.{sym, ◌∙◌}
use Rattle.binary_program.proofs.AnswerLemmas.{decided_of, complete_of, written_of, front_of}
use Rattle.binary_program.proofs.main_call.binary_main.Goals as goal

pub returns-clause-decided : goal.returns-clause-decided
returns-clause-decided g c = λ input told decided.
    let says = c.answer_source.ensures.says in
    decided_of says.0 input _ _ _ _ (sym told ∙ says.1) (λ of_whole. (c.answer_source.ensures.ended of_whole).1) says.2 decided

pub returns-clause-complete : goal.returns-clause-complete
returns-clause-complete g c = λ input told read write.
    let says = c.answer_source.ensures.says in
    complete_of says.0 input _ _ _ _ (sym told ∙ says.1) (λ of_whole. (c.answer_source.ensures.ended of_whole).1) says.2
    (λ e. read (c.answer_source.ensures.read_fault e)) (λ e. write (c.answer_source.ensures.write_fault e))

pub returns-clause-written : goal.returns-clause-written
returns-clause-written g c = λ input told written.
    let says = c.answer_source.ensures.says in
    written_of says.0 input _ _ _ _ (sym told ∙ says.1) (λ of_whole. (c.answer_source.ensures.ended of_whole).1) says.2 written

pub returns-clause-front : goal.returns-clause-front
returns-clause-front g c = λ input told.
    let says = c.answer_source.ensures.says in
    front_of says.0 input _ _ _ _ (sym told ∙ says.1) c.answer_source.ensures.whole says.2
