use Rattle.std.proofs.Common.{map, string_bytes, arith, ◌∙◌}
use Rattle.wasm_run.proofs.BufferLemmas.{no_replies, way_cut_here, way_ends, way_front, way_noted, way_now, way_then}
use Rattle.wasm_run.proofs.lines.write_replies.Goals as goal

pub returns-in_default-write_piece-clause-front : goal.returns-in_default-write_piece-clause-front
returns-in_default-write_piece-clause-front g c =
    let more = way_noted _ c.lines.before c.lines.counts.now (map string_bytes c.args.noted.notes.now)
    (map string_bytes c.between-notes.result.now) c.reply-item.result c.lines.rest.now _ _ _ _
    (omega (arith, c.in-len1-up-counts.len_at_least)) (omega (arith, c.in-len1-up.len_at_least)) c.reply-item.is
    c.between-notes.ensures c.lines.invariant.way c.in-Ok.ensures in
    way_front _ _ _ _ _ _ more c.write_piece.ensures.front

pub returns-in_default-append_noted-clause-front : goal.returns-in_default-append_noted-clause-front
returns-in_default-append_noted-clause-front g c = way_now _ _ _ _ _ c.lines.invariant.way

pub lines-preserved : goal.lines-preserved
lines-preserved g c =
    let more = way_noted _ c.lines.before c.lines.counts.now (map string_bytes c.args.noted.notes.now)
    (map string_bytes c.between-notes.result.now) c.reply-item.result c.lines.rest.now _ _ _ _
    (omega (arith, c.in-len1-up-counts.len_at_least)) (omega (arith, c.in-len1-up.len_at_least)) c.reply-item.is
    c.between-notes.ensures c.lines.invariant.way c.in-Ok.ensures in
    record {
      way = way_then _ _ _ _ _ _ _ more c.in-Ok-write_piece.ensures.wrote;
      uncounted = c.in-Ok-write_piece.ensures.uncounted ∙ c.lines.invariant.uncounted;
    }

pub returns-clause-buffered : goal.returns-clause-buffered
returns-clause-buffered g c = way_ends _ _ _ _ _ c.lines.invariant.way
    (no_replies c.lines.before c.lines.counts.now (map string_bytes c.args.noted.notes.now) c.lines.rest.now
    (omega (arith, c.in_default.len_below)))

pub returns-in_default-append_noted-clause-short : goal.returns-in_default-append_noted-clause-short
returns-in_default-append_noted-clause-short g c = λ same.
    way_cut_here _ c.lines.before c.lines.counts.now (map string_bytes c.args.noted.notes.now) c.lines.rest.now _ _ _
    (omega (arith, c.in-len1-up-counts.len_at_least)) (omega (arith, c.in-len1-up.len_at_least))
    c.lines.invariant.way
