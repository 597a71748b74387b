use Rattle.std.proofs.Common.{◌≡◌, ◌⊎◌, ℕ, List, refl, ap, map, string_bytes, subst, ◌∙◌, Some}
use Rattle.memory_streams.specs.InRoom.{RoomState, SliceState}
use Rattle.wasm_run.specs.SessionViews.{parts_of}
use Rattle.wasm_run.specs.Sessions.{due}
use Rattle.wasm_run.specs.declared.status.Status.TheVariants.{OutOfMemory}
use Rattle.session_bytes.proofs.HeldLemmas.{not_rose, front_of, held_session}
use Rattle.session_bytes.proofs.runs.run_held.Goals as goal

pub returns-clause-ended : goal.returns-clause-ended
returns-clause-ended c =
    let ran = c.session_main-status in
    let says = ran.ensures.says in
    (held_session c.new-epochs.result ran.new.epochs (parts_of ran.new.session) c.args.sink.now ran.new.sink _
    c.args.script.now says.0 ran.new.source.left ran.result c.new-epochs.ensures c.requires
    (ap (λ ws. map string_bytes ws) c.as_slice.ensures.value ∙ c.in_ok-words.ensures)
    (front_of c.args.script.now c.new-source.result.left says.0 ran.new.source.left (ap (λ (s : SliceState). s.left) c.new-source.ensures) says.1)
    (λ asked whole. (ran.ensures.ended asked whole).1) says.2
    (λ origin read asks short. ran.ensures.out_of_memory c.args.script.now origin read
    (λ _. ap (λ (s : SliceState). Some s.left) c.new-source.ensures) asks short)).1

pub returns-clause-decided : goal.returns-clause-decided
returns-clause-decided c = λ decided.
    c.session_main-status.ensures.decided c.args.script.now
    (λ _. ap (λ (s : SliceState). Some s.left) c.new-source.ensures) decided
    ∙ ap (λ (ws : List (List ℕ)). due ws c.args.script.now)
    (ap (λ ws. map string_bytes ws) c.as_slice.ensures.value ∙ c.in_ok-words.ensures)

pub returns-clause-complete : goal.returns-clause-complete
returns-clause-complete c = λ room.
    subst (λ (ws : List (List ℕ)). (c.session_main-status.result ≡ due ws c.args.script.now) ⊎ (c.session_main-status.result ≡ OutOfMemory))
    (ap (λ ws. map string_bytes ws) c.as_slice.ensures.value ∙ c.in_ok-words.ensures)
    (c.session_main-status.ensures.complete c.args.script.now
    (λ _. ap (λ (s : SliceState). Some s.left) c.new-source.ensures)
    (not_rose 0 0 refl refl)
    (not_rose c.args.sink.now.faults c.session_main-status.new.sink.faults (ap (λ (s : RoomState). s.faults) c.requires)
    (c.session_main-status.ensures.sink_uncounted room)))
