-- A growth that comes to its act, or does not. This project's own.
use Rattle.std.specs.Prelude.{◌≡◌, ℕ, ◌+◌, ◌<◌, ⊤, Result, Ok, Err}
use Rattle.spec_machine.specs.Commands.{Grow}
use Rattle.spec_machine.specs.Growth.{Plan}
use Rattle.spec_machine.specs.declared.reply.Reply.{Reply}
use Rattle.law_store.specs.Granted.{IsGranted}
use Rattle.store_state.specs.declared.growth.GrowthRule.{GrowthRule}
use Rattle.store_state.specs.declared.growth.GrowthRule.TheVariants as said
use Rattle.wasm_store.specs.Stores.{StoreParts}
use Rattle.wasm_call.specs.Alone.{AnsweredWithin, ShortWithin}
use Rattle.wasm_call.specs.Outside.{Growths}

-- the turns before the act: a question is one
abbrev pub questions : GrowthRule → ℕ
questions (said.Asks q) = 1
questions _ = 0

-- a growth that was granted, and of so many turns one is left for its act: with the act it is answered, and without it
-- memory ran out
pub record Begun {T : Type 0} (growths : Growths T) (limit : ℕ) (p : Plan Reply) (old new : StoreParts T) : Type 0 where
  pub granted : IsGranted old.machine p
  pub unchanged : new.machine ≡ old.machine
  pub turns : new.turns < 2
  pub acts : (after : StoreParts T) → after.machine ≡ p.after → after.turns ≡ new.turns + 1 →
      after.host_data ≡ new.host_data → AnsweredWithin growths limit (Grow p) old p.gives after
  pub stops : ShortWithin growths limit (Grow p) old new

abbrev pub Begins : {T : Type 0} → Growths T → ℕ → Plan Reply → StoreParts T → Result ⊤ Reply → StoreParts T → Type 0
Begins growths limit p old (Ok _) new = Begun growths limit p old new
Begins growths limit p old (Err reply) new = AnsweredWithin growths limit (Grow p) old reply new
