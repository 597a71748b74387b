use Rattle.wasm_run.specs.Statuses.{IsOfWhole}
use Rattle.wasm_run.proofs.SourceLemmas.{complete_of, decided_of, done_of, failed_of, memory_of}
use Rattle.wasm_run.proofs.main_call.session_main.Goals as goal

pub returns-clause-decided : goal.returns-clause-decided
returns-clause-decided g c = λ input has decided.
    let says = c.session_in.ensures.says in
    decided_of _ _ _ _ _ _ _ says.0 input _ _ has says.1 _ says.2 (λ o whole. (c.session_in.ensures.ended o whole).1) decided

pub returns-clause-complete : goal.returns-clause-complete
returns-clause-complete g c = λ input has no_read no_write.
    let says = c.session_in.ensures.says in
    complete_of _ _ _ _ _ _ _ says.0 input _ _ has says.1 _ says.2 (λ o whole. (c.session_in.ensures.ended o whole).1)
    (λ failed. no_read (c.session_in.ensures.read_fault failed))
    (λ failed. no_write (c.session_in.ensures.write_fault failed))

pub returns-clause-done : goal.returns-clause-done
returns-clause-done g c = λ input origin script has asks done.
    let whole : IsOfWhole c.session_in.result = rw done tt in
    let says = c.session_in.ensures.says in
    done_of _ _ _ _ _ _ _ says.0 input _ _ has says.1 origin script asks (rw done at says.2)
    (λ o w. (c.session_in.ensures.ended o whole).1)

pub returns-clause-write_failed : goal.returns-clause-write_failed
returns-clause-write_failed g c = λ input origin script has asks failed.
    let whole : IsOfWhole c.session_in.result = rw failed tt in
    let says = c.session_in.ensures.says in
    failed_of _ _ _ _ _ _ _ says.0 input _ _ has says.1 origin script asks (rw failed at says.2)
    (λ o w. (c.session_in.ensures.ended o whole).1)

pub returns-clause-out_of_memory : goal.returns-clause-out_of_memory
returns-clause-out_of_memory g c = λ input origin script has asks lost.
    let says = c.session_in.ensures.says in
    memory_of _ _ _ _ _ _ _ says.0 input _ _ has says.1 origin script asks (rw lost at says.2)
    (λ kept held o. (c.session_in.ensures.store_after_end kept held o).1)
