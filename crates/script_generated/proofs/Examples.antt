-- Generated sessions as texts, words and summaries, each by computation.
use Rattle.std.proofs.Common.{◌≡◌, ℕ, List, [], ◌∷◌, Some, None, refl}
use Rattle.std.specs.Prelude.{codes}
use Rattle.std.specs.Fmt.{digits}
use Rattle.std.specs.Str.{is_utf8, chars}
use Rattle.hex.proofs.OnLiterals.{hex_on_literals}
use Rattle.hex.specs.Hex.{encode_with}
use Rattle.serde_json.proofs.OnLiterals.{serde_json_on_literals}
use Rattle.spec_machine.specs.declared.reply.Reply.TheVariants as reply
use Rattle.wasm_values.specs.declared.refusals.Refusal.TheVariants as refusal
use Rattle.wasm_values.specs.declared.refusals.Trap.TheVariants as trap
use Rattle.script_modules.specs.Code.{code_to}
use Rattle.script_modules.specs.InstrNames.{name_of}
use Rattle.script_modules.specs.Modules.{module_of}
use Rattle.script_commands.specs.Scripts.{Spells, spelling}
use Rattle.script_generated.specs.Scripts.{generated}
use Rattle.script_generated.specs.Summaries.{summary}
use Rattle.script_generated.specs.Words.{origin_of}
use Rattle.script_generated.specs.declared.words.Origin.TheVariants.{Input, Generated}

-- ---- the text that spells one

one_call : spelling (codes "{\"types\":[{\"params\":[\"i32\"],\"results\":[\"i32\"]}],\"modules\":[{\"memories\":[{\"min\":1}],\"globals\":[{\"val\":\"i32\",\"mut\":true,\"init\":[\"i32.const\",0]}],\"functions\":[{\"type\":0,\"code\":[[\"global.get\",0],[\"local.get\",0],[\"i32.add\"],[\"global.set\",0],[\"local.get\",0],[\"i32.const\",4],[\"i32.mul\"],[\"global.get\",0],[\"i32.store\",0,0],[\"global.get\",0]]}],\"exports\":[{\"name\":\"f\",\"func\":0},{\"name\":\"m\",\"memory\":0}]}],\"commands\":[{\"do\":\"instantiate\",\"module\":0},{\"do\":\"get_export\",\"instance\":0,\"name\":\"f\"},{\"do\":\"call\",\"func\":1,\"args\":[{\"i32\":1}]},{\"do\":\"get_export\",\"instance\":0,\"name\":\"m\"},{\"do\":\"memory_read\",\"memory\":3,\"at\":4,\"len\":4}]}") ≡ Spells (generated 1)
unfolding serde_json_on_literals hex_on_literals is_utf8 chars module_of name_of code_to
one_call = refl

three_calls : spelling (codes "{\"types\":[{\"params\":[\"i32\"],\"results\":[\"i32\"]}],\"modules\":[{\"memories\":[{\"min\":1}],\"globals\":[{\"val\":\"i32\",\"mut\":true,\"init\":[\"i32.const\",0]}],\"functions\":[{\"type\":0,\"code\":[[\"global.get\",0],[\"local.get\",0],[\"i32.add\"],[\"global.set\",0],[\"local.get\",0],[\"i32.const\",4],[\"i32.mul\"],[\"global.get\",0],[\"i32.store\",0,0],[\"global.get\",0]]}],\"exports\":[{\"name\":\"f\",\"func\":0},{\"name\":\"m\",\"memory\":0}]}],\"commands\":[{\"do\":\"instantiate\",\"module\":0},{\"do\":\"get_export\",\"instance\":0,\"name\":\"f\"},{\"do\":\"call\",\"func\":1,\"args\":[{\"i32\":1}]},{\"do\":\"call\",\"func\":1,\"args\":[{\"i32\":2}]},{\"do\":\"call\",\"func\":1,\"args\":[{\"i32\":3}]},{\"do\":\"get_export\",\"instance\":0,\"name\":\"m\"},{\"do\":\"memory_read\",\"memory\":5,\"at\":12,\"len\":4}]}") ≡ Spells (generated 3)
unfolding serde_json_on_literals hex_on_literals is_utf8 chars module_of name_of code_to
three_calls = refl

-- ---- words

the_input : origin_of (codes "run" ∷ []) ≡ Some Input
the_input = refl

least : origin_of (codes "gen" ∷ codes "1" ∷ []) ≡ Some (Generated 1)
least = refl

most : origin_of (codes "gen" ∷ codes "1000" ∷ []) ≡ Some (Generated 1000)
most = refl

too_many : origin_of (codes "gen" ∷ codes "1001" ∷ []) ≡ None
too_many = refl

none_at_all : origin_of (codes "gen" ∷ codes "0" ∷ []) ≡ None
none_at_all = refl

leading_zero : origin_of (codes "gen" ∷ codes "01" ∷ []) ≡ None
leading_zero = refl

no_number : origin_of (codes "gen" ∷ [] ∷ []) ≡ None
no_number = refl

two_numbers : origin_of (codes "gen" ∷ codes "1" ∷ codes "2" ∷ []) ≡ None
two_numbers = refl

-- ---- summaries

one_summary : summary 1 (reply.Done ∷ reply.Number 7 ∷ reply.Refused (refusal.Trap trap.OutOfFuel) ∷ reply.Refused refusal.NoReply ∷ reply.Bytes (1 ∷ 0 ∷ 0 ∷ 0 ∷ []) ∷ []) ≡ codes "gen 1\ncommands 5 refused 2\nok bytes 01000000\n"
unfolding digits encode_with
one_summary = refl

no_reply : summary 1000 [] ≡ codes "gen 1000\ncommands 0 refused 0\n"
unfolding digits
no_reply = refl
