use Rattle.std.proofs.Common.{rules}
use Rattle.script_json.proofs.JsonLemmas.{json_of-is_json, json_of-unread}
use Rattle.script_json.proofs.json.json_of.Goals as goal

pub returns-in-Ok-clause-read : goal.returns-in-Ok-clause-read
returns-in-Ok-clause-read c = json_of-is_json c.args.bytes.now _ (record { utf8 = c.in-Ok.ensures.ok.0; reading = c.in-Ok.ensures.ok.1 })

pub returns-in-Err-2-clause-read : goal.returns-in-Err-2-clause-read
returns-in-Err-2-clause-read c = json_of-unread c.args.bytes.now (c.in-Err-2.ensures.err (search rules))
