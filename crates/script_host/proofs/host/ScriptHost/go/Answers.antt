use Rattle.std.proofs.Common.{◌≡◌, length, map, take, string_bytes, ap, sym, arith}
use Rattle.std.specs.Prelude.{Result, Ok, Err, OnErr}
use Rattle.script_host.specs.Notes.{note_text}
use Rattle.script_host.specs.ScriptSteps.{HostParts}
use Rattle.script_host.proofs.NoteLemmas.{fits_behind, texts_first}
use Rattle.script_host.proofs.host.ScriptHost.go.Goals as goal

-- what holds in any case holds where there is an error
on_error : {A E : Type 0} (r : Result A E) (P : Type 0) → P → OnErr r P
on_error (Ok a) P p = tt
on_error (Err e) P p = p

pub returns-in_err-rest-clause-notes : goal.returns-in_err-rest-clause-notes
returns-in_err-rest-clause-notes c =
    let same = ap (λ (h : HostParts). h.notes) (sym c.self.view_is) in
    on_error c.from_residual.result
    (take (length c.args.self.now.notes) (map string_bytes c.take_notes.new.notes.items) ≡ c.args.self.now.notes)
    (texts_first c.self.inside.notes.items c.take_notes.new.notes.items c.args.self.now.notes c.in_err-rest.ensures.kept same)

pub place_after-requires : goal.place_after-requires
place_after-requires c =
    let sight = c.args.sight in
    fits_behind (note_text sight.number sight.arguments.now sight.replies.now) c.actions_from-actions.result.now
    c.in_ok-rest.rest.now c.self.inside.notes.items c.take_notes.new.notes.items c.args.state.now c.len-before.result
    c.len.result c.actions_from-actions.ensures.within (cc c.in_ok-rest.ensures.rest) c.in_ok-rest.ensures.taken
    (omega (arith, c.self.inside.notes.ok.0)) (omega (arith, c.take_notes.new.notes.ok.0))
