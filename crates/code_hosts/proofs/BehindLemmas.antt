-- The border behind a function that ended.
use Rattle.std.proofs.Common.{◌≡◌, ℕ, refl, subst, true}
use Rattle.wasm_meter.specs.declared.call_hook.CallHook.{CallHook}
use Rattle.wasm_values.specs.declared.refusals.Refusal.TheVariants as refusal
use Rattle.spec_execution.specs.Askings.{Question, Answer}
use Rattle.spec_execution.specs.Checks.{pass, pass_behind}
use Rattle.spec_execution.specs.Outcomes.{World}
use Rattle.code_leaps.specs.Leading.{Doing, Setting, at, Leads}
use Rattle.code_leaps.proofs.PartLemmas.{leads_from, stops_from}
use Rattle.code_hosts.specs.Replies.{is_told}
use Rattle.code_hosts.specs.declared.replies.How.{How}
use Rattle.code_hosts.specs.declared.replies.How.TheVariants as how
use Rattle.code_hosts.specs.declared.replies.Reply.{Reply}
use Rattle.code_hosts.specs.Behind.{ended, due, PassesBy, Passes}
use Rattle.code_hosts.specs.Telling.{TellsBy, Tells}
use Rattle.code_hosts.specs.declared.borders.Word.{Word}
use Rattle.code_hosts.specs.declared.borders.Word.TheVariants as word
use Rattle.code_hosts.proofs.TellLemmas.{told_of}

abbrev pub reply : How → ℕ → Reply
reply how turns = record { how = how; turns = turns }

-- a border stands behind an end that is told of
told_behind : (event : CallHook) (x : How) → is_told x ≡ true → (w : World) →
    pass_behind event (ended x w) ≡ pass event w (ended x)
told_behind event (how.Returned v) e w = refl
told_behind event (how.Trapped t) e w = refl
told_behind event (how.Refused why) e w = refl
told_behind event how.Stuck e w = absurd (cc e)
told_behind event how.TurnLimit e w = absurd (cc e)

module _ {H W : Type 0} (g : Setting H) (moves : W → Question → Answer → W → Type 0) (event : CallHook) (old : How)
    (told : is_told old ≡ true) (h : H) (o : W) (left spent : ℕ) (word_is : Word) (o' : W)
    (t : Tells g moves event h o left (told_of word_is spent) o') where
  by_word : (y : Word) → word_is ≡ y → TellsBy g event (ended old) h left spent t.heard y
  by_word y ey = subst (λ (y : Word). TellsBy g event (ended old) h left spent t.heard y) ey (t.by (ended old))

  led : (next : Doing) → Leads g (λ w. pass event w (ended old)) h spent t.heard next h →
      Leads g (due g event old h left spent t.heard) h spent t.heard next h
  led next l =
      leads_from g (due g event old h left spent t.heard) (λ w. pass event w (ended old)) h
      (λ base is turns before answers. told_behind event old told (at g base h turns before answers)) spent t.heard next h
      l

  as_before : (x : How) → is_told x ≡ true →
      Leads g (due g event old h left spent t.heard) h spent t.heard (ended x) h →
      PassesBy g event old h left spent t.heard x
  as_before (how.Returned v) e l = l
  as_before (how.Trapped y) e l = l
  as_before (how.Refused why) e l = l
  as_before how.Stuck e l = absurd (cc e)
  as_before how.TurnLimit e l = absurd (cc e)

  ends_with : (x : How) → PassesBy g event old h left spent t.heard x → Passes g moves event old h o left (reply x spent) o'
  ends_with x by = record { within = t.within; heard = t.heard; chain = t.chain; by = by }

  pub passes_so : word_is ≡ word.Passes → Passes g moves event old h o left (reply old spent) o'
  passes_so ey = ends_with old (as_before old told (led (ended old) (by_word word.Passes ey)))

  pub passes_no : word_is ≡ word.Fails →
      Passes g moves event old h o left (reply (how.Refused refusal.HookFault) spent) o'
  passes_no ey =
      ends_with (how.Refused refusal.HookFault) (led (ended (how.Refused refusal.HookFault)) (by_word word.Fails ey))

  pub passes_late : word_is ≡ word.Limit → Passes g moves event old h o left (reply how.TurnLimit spent) o'
  passes_late ey =
      let l = by_word word.Limit ey in
      ends_with how.TurnLimit (
        stops_from g (due g event old h left spent t.heard) (λ w. pass event w (ended old)) h
            (λ base is turns before answers. told_behind event old told (at g base h turns before answers)) spent t.heard
            h l.0,
        l.1,
      )
