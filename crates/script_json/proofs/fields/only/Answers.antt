use Rattle.std.proofs.Common.{true, false}
use Rattle.script_json.proofs.ReaderLemmas.{only_by}
use Rattle.script_json.proofs.fields.only.Goals as goal

pub returns-then-keys_are_among-clause-read : goal.returns-then-keys_are_among-clause-read
returns-then-keys_are_among-clause-read c = only_by c.args.keys.now c.in-Some.members.now.entries _ true c.in-Some.ensures c.if-keys_are_among.ensures

pub returns-else-keys_are_among-clause-read : goal.returns-else-keys_are_among-clause-read
returns-else-keys_are_among-clause-read c = only_by c.args.keys.now c.in-Some.members.now.entries _ false c.in-Some.ensures c.if-keys_are_among.ensures
