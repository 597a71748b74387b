-- What telling of a border between host and guest code comes to, whatever is done behind it. This project's own.
use Rattle.std.specs.Prelude.{◌≡◌, ℕ, ◌≤◌, List}
use Rattle.wasm_meter.specs.declared.call_hook.CallHook.{CallHook}
use Rattle.wasm_values.specs.declared.refusals.Refusal.TheVariants as refusal
use Rattle.spec_execution.specs.Askings.{Question, Answer, Asking, Chain}
use Rattle.spec_execution.specs.Checks.{pass}
use Rattle.spec_execution.specs.Outcomes.{Over, Refused}
use Rattle.code_leaps.specs.Leading.{Doing, Setting, Leads, Stops}
use Rattle.code_hosts.specs.declared.borders.Told.{Told}
use Rattle.code_hosts.specs.declared.borders.Word.{Word}
use Rattle.code_hosts.specs.declared.borders.Word.TheVariants as word

-- so many turns of those that are left, with these questions and answers, lead to what is done behind it, or to an end
module _ {H : Type 0} (g : Setting H) (event : CallHook) (go : Doing) (h : H) (left spent : ℕ) (heard : List Asking) where
  abbrev pub TellsBy : Word → Type 0
  TellsBy word.Passes = Leads g (λ w. pass event w go) h spent heard go h
  TellsBy word.Fails = Leads g (λ w. pass event w go) h spent heard (λ w. Over (Refused refusal.HookFault) w) h
  TellsBy word.Limit = Stops g (λ w. pass event w go) h spent heard h × (spent ≡ left)

pub record Tells {H W : Type 0} (g : Setting H) (moves : W → Question → Answer → W → Type 0) (event : CallHook) (h : H)
    (o : W) (left : ℕ) (told : Told) (o' : W) : Type 0 where
  pub within : told.spent ≤ left
  pub heard : List Asking
  pub chain : Chain moves o heard o'
  pub by : (go : Doing) → TellsBy g event go h left told.spent heard told.word
