-- Borders: a call is open behind the one at its begin, where a hook is asked and does not fail, and no longer behind the
-- one at its end.
use Rattle.std.proofs.Common.{◌≡◌, ℕ, zero, suc, Bool, true, false, List, [], ◌∷◌, ◌++◌, Option, Some, refl, sym, ap, subst}
use Rattle.std.specs.Prelude.{if◌then◌else◌, Result, Ok, Err, ⊤}
use Rattle.wasm_meter.specs.declared.call_hook.CallHook.{CallHook}
use Rattle.wasm_meter.specs.declared.call_hook.CallHook.TheVariants as event
use Rattle.wasm_meter.specs.declared.faults.HookFailed.{HookFailed}
use Rattle.wasm_values.specs.declared.refusals.Refusal.TheVariants as refusal
use Rattle.spec_execution.specs.Askings.{Passing, Answer, Passed}
use Rattle.spec_execution.specs.Checks.{passed, pass, pass_behind}
use Rattle.spec_execution.specs.Outcomes.{World, Outcome, Values, Branch, Return, Over, Trapped, Refused, Stopped, Waiting, hear, ask, on_turn}
use Rattle.law_hooks.specs.Brackets.{open_calls, borders_in}
use Rattle.law_hooks.specs.Askers.{Flags}
use Rattle.law_hooks.proofs.Worlds.{Base, Stands, Ends, ended, stands_later, stands_heard}
use Rattle.law_hooks.proofs.Outcomes.{Finishes, function_ends}

-- ---- the events at the begin and at the end of a call

-- the calls that are open behind a border, by what the hook answered
abbrev pub behind : CallHook → Result ⊤ HookFailed → List CallHook → Option (List CallHook)
behind event answer calls = open_calls (borders_in ((Passing event, Passed answer) ∷ [])) calls

pub record Begins (event : CallHook) : Type 0 where
  pub passes : (done : ⊤) (calls : List CallHook) → behind event (Ok done) calls ≡ Some (event ∷ calls)
  pub fails : (fault : HookFailed) (calls : List CallHook) → behind event (Err fault) calls ≡ Some calls

-- a call that began by the second event
pub record Concludes (event call : CallHook) : Type 0 where
  pub passes : (answer : Result ⊤ HookFailed) (calls : List CallHook) → behind event answer (call ∷ calls) ≡ Some calls

pub wasm_begins : Begins event.CallingWasm
wasm_begins = record { passes = λ done calls. refl; fails = λ fault calls. refl }

pub host_begins : Begins event.CallingHost
host_begins = record { passes = λ done calls. refl; fails = λ fault calls. refl }

pub wasm_concludes : Concludes event.ReturningFromWasm event.CallingWasm
wasm_concludes = record { passes = λ answer calls. refl }

pub host_concludes : Concludes event.ReturningFromHost event.CallingHost
host_concludes = record { passes = λ answer calls. refl }

-- ---- borders

-- the calls that are open within a call, where a hook is asked, or is not
abbrev pub within : Bool → CallHook → List CallHook → List CallHook
within asked call calls = if asked then call ∷ calls else calls

abbrev pass_if : Bool → CallHook → World → (World → Outcome) → Outcome
pass_if asked event w go = if asked then ask Over w (Passing event) (passed go) else go w

-- the world behind the answer of a hook
abbrev told : World → ℕ → CallHook → Result ⊤ HookFailed → List Answer → World
told w turns event answer rest =
    record w { turns = turns; heard = w.heard ++ (Passing event, Passed answer) ∷ []; answers = rest }

-- each way in which a border goes
record Passes (P : Outcome → Type 0) (event : CallHook) (go : World → Outcome) (w : World) : Type 0 where
  stopped : P (Over Stopped w)
  waiting : (turns : ℕ) → P (Over (Waiting (Passing event)) (record w { turns = turns }))
  on_ok : (turns : ℕ) (done : ⊤) (rest : List Answer) → P (go (told w turns event (Ok done) rest))
  on_err : (turns : ℕ) (fault : HookFailed) (rest : List Answer)
      → P (Over (Refused refusal.HookFault) (told w turns event (Err fault) rest))

module _ (P : Outcome → Type 0) (event : CallHook) (go : World → Outcome) (w : World) (p : Passes P event go w) where
  hear_passing :
      (turns : ℕ) (answers : List Answer)
      → P (hear Over (record w { turns = turns }) (Passing event) (passed go) answers)
  hear_passing turns [] = p.waiting turns
  hear_passing turns (Passed (Ok done) ∷ rest) = p.on_ok turns done rest
  hear_passing turns (Passed (Err fault) ∷ rest) = p.on_err turns fault rest
  hear_passing turns (a ∷ rest) = p.waiting turns

  on_turn_passing :
      (k : ℕ) → P (on_turn Over w (λ v. hear Over v (Passing event) (passed go) v.answers) k)
  on_turn_passing zero = p.stopped
  on_turn_passing (suc turns) = hear_passing turns w.answers

module _ (B : Base) (P : Outcome → Type 0) (calls : List CallHook) (ends : Ends B Over calls P) where
  -- the border at the begin of a call
  module _ (event : CallHook) (b : Begins event) (w : World) (h : Stands B calls w) (go : World → Outcome) where
    begin_by :
        (asked : Bool) → B.flags.hooked ≡ asked → ((v : World) → Stands B (within asked event calls) v → P (go v))
        → P (pass_if asked event w go)
    begin_by true e j =
        on_turn_passing P event go w (record {
          stopped = ended B ends Stopped w h;
          waiting = λ turns. ended B ends (Waiting (Passing event)) (record w { turns = turns }) (stands_later B calls w turns h);
          on_ok = λ turns done rest. j (told w turns event (Ok done) rest)
              (stands_heard B calls (event ∷ calls) (record w { turns = turns }) (Passing event) (Passed (Ok done)) rest
              (b.passes done calls) e (stands_later B calls w turns h));
          on_err = λ turns fault rest.
              ended B ends (Refused refusal.HookFault) (told w turns event (Err fault) rest)
              (stands_heard B calls calls (record w { turns = turns }) (Passing event) (Passed (Err fault)) rest
              (b.fails fault calls) e (stands_later B calls w turns h));
        }) w.turns
    begin_by false e j = j w h

    pub begin_stands :
        ((v : World) → Stands B (within B.flags.hooked event calls) v → P (go v)) → P (pass event w go)
    begin_stands j =
        subst (λ (asked : Bool). P (pass_if asked event w go)) (sym (ap (λ (f : Flags). f.hooked) h.flags))
        (begin_by B.flags.hooked refl j)

  -- the border at the end of a call
  module _ (event call : CallHook) (c : Concludes event call) (w : World) (go : World → Outcome)
      (j : (v : World) → Stands B calls v → P (go v)) where
    conclude_by : (asked : Bool) → B.flags.hooked ≡ asked → Stands B (within asked call calls) w → P (pass_if asked event w go)
    conclude_by true e h =
        let later : (turns : ℕ) → Stands B (call ∷ calls) (record w { turns = turns }) =
        λ turns. stands_later B (call ∷ calls) w turns h in
        let closed : (turns : ℕ) (answer : Result ⊤ HookFailed) (rest : List Answer)
        → Stands B calls (told w turns event answer rest) =
        λ turns answer rest.
        stands_heard B (call ∷ calls) calls (record w { turns = turns }) (Passing event) (Passed answer) rest
        (c.passes answer calls) e (later turns) in
        on_turn_passing P event go w (record {
          stopped = ends.by Stopped w (record { calls = call ∷ calls; stands = h });
          waiting = λ turns. ends.by (Waiting (Passing event)) (record w { turns = turns })
              (record { calls = call ∷ calls; stands = later turns });
          on_ok = λ turns done rest. j (told w turns event (Ok done) rest) (closed turns (Ok done) rest);
          on_err = λ turns fault rest.
              ends.by (Refused refusal.HookFault) (told w turns event (Err fault) rest) (closed turns (Err fault) rest);
        }) w.turns
    conclude_by false e h = j w h

    pub conclude_stands : Stands B (within B.flags.hooked call calls) w → P (pass event w go)
    conclude_stands h =
        subst (λ (asked : Bool). P (pass_if asked event w go)) (sym (ap (λ (f : Flags). f.hooked) h.flags))
        (conclude_by B.flags.hooked refl h)

-- behind a function, however it ended
module _ (B : Base) (calls : List CallHook) (event call : CallHook) (c : Concludes event call) where
  abbrev conclude : (w : World) (go : World → Outcome) → ((v : World) → Stands B calls v → Finishes B calls (go v))
      → Stands B (within B.flags.hooked call calls) w → Finishes B calls (pass event w go)
  conclude = conclude_stands B (Finishes B calls) calls (function_ends B calls) event call c

  pub pass_behind_finishes :
      (o : Outcome) → Finishes B (within B.flags.hooked call calls) o → Finishes B calls (pass_behind event o)
  pass_behind_finishes (Values s) h =
      conclude s.world (λ v. Values (record s { world = v })) (λ v k. record { by = k }) h.by
  pass_behind_finishes (Branch l s) h = absurd h.by
  pass_behind_finishes (Return s) h = absurd h.by
  pass_behind_finishes (Over (Trapped t) w) h = conclude w (Over (Trapped t)) (λ v k. record { by = k }) h.by
  pass_behind_finishes (Over (Refused why) w) h = conclude w (Over (Refused why)) (λ v k. record { by = k }) h.by
  pass_behind_finishes (Over e w) h = record { by = h.by }
