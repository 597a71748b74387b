use Rattle.std.proofs.Common.{sym, ◌∙◌}
use Rattle.wasm_replay.proofs.CallLemmas.{records, spends, fresh_again}
use Rattle.wasm_replay.proofs.recording.record_commands.Goals as goal

pub returns-clause-recorded : goal.returns-clause-recorded
returns-clause-recorded g c =
    rw (c.take.ensures.taken, c.take-2.ensures.taken, c.take_growths-growths.ensures.taken, c.take_growths-growths.ensures.left)
    (records _ c.args.bodies c.args.modules.now c.args.commands.now c.args.room c.args.store.now c.run_lent-heard.new.store _ _
    _ _ _ _ _ _ _
    (rw (c.in_default-ended.is, c.in-Ok.ensures) at c.run_lent-heard.ensures.ran)
    (sym c.is_spent-spent.ensures ∙ c.if-spent.false))

pub returns-then-spent-clause-spent : goal.returns-then-spent-clause-spent
returns-then-spent-clause-spent g c = λ e.
    rw c.take_growths-growths.ensures.left
    (spends _ c.args.bodies c.args.modules.now c.args.commands.now c.args.room c.args.store.now c.run_lent-heard.new.store _ _
    _ _ _ _ _ _ _
    (rw (c.in_default-ended.is, c.in-Ok.ensures) at c.run_lent-heard.ensures.ran)
    (sym c.is_spent-spent.ensures ∙ c.if-spent.true))

pub returns-clause-fresh : goal.returns-clause-fresh
returns-clause-fresh g c =
    rw c.take_growths-growths.ensures.left
    (fresh_again _ _ _ _ _ _ _ _ _ _ _ _ _ _
    (records _ c.args.bodies c.args.modules.now c.args.commands.now c.args.room c.args.store.now c.run_lent-heard.new.store _ _
    _ _ _ _ _ _ _
    (rw (c.in_default-ended.is, c.in-Ok.ensures) at c.run_lent-heard.ensures.ran)
    (sym c.is_spent-spent.ensures ∙ c.if-spent.false))
    c.requires.fresh)
