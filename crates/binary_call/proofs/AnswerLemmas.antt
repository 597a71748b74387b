-- The reply that a call has: results, or bytes where it was given some, or a refusal.
use Rattle.std.proofs.Common.{◌≡◌, ℕ, zero, suc, List, [], ◌∷◌, ◌++◌, Bool, true, false, Option, Some, None, Result, Ok, Err, refl, ap, sym, ◌∙◌, subst}
use Rattle.std.specs.Prelude.{⊤, nat_eq, ◌||◌, length, if◌then◌else◌, IfOk}
use Rattle.std.proofs.Math.Dec.{eqb-suc-zero}
use Rattle.std.proofs.lemmas.Option.{same_Some, option_and_then_some}
use Rattle.wasm_syntax.specs.declared.declarations.ModuleDecl.{ModuleDecl}
use Rattle.wasm_values.specs.declared.refusals.Refusal.{Refusal}
use Rattle.wasm_values.specs.declared.values.Val.{Val}
use Rattle.wasm_host.specs.declared.no_host.NoHost.{NoHost}
use Rattle.wasm_pool.specs.declared.pooled.Pooled.{Pooled}
use Rattle.wasm_values.specs.declared.refusals.Refusal.TheVariants as refusal
use Rattle.spec_machine.specs.Commands.{Row, Refuse, Act, ActAt, Grow, Invoke, Instantiate, invokes, named, reads, row}
use Rattle.spec_machine.specs.FunctionCalls.{Called, called}
use Rattle.spec_machine.specs.Machine.{Machine}
use Rattle.spec_machine.specs.MemoryCalls.{memory_read}
use Rattle.spec_machine.specs.Names.{named_func, named_memory, operand_values, outermost}
use Rattle.spec_machine.specs.declared.command.Command.{Command}
use Rattle.spec_machine.specs.declared.command.Command.TheVariants as command
use Rattle.spec_machine.specs.declared.name.Name.{Name}
use Rattle.spec_machine.specs.declared.name.Name.TheVariants as name
use Rattle.spec_machine.specs.declared.name.Operand.{Operand}
use Rattle.spec_machine.specs.declared.operation.Op.TheVariants as op
use Rattle.spec_machine.specs.declared.reply.Reply.{Reply}
use Rattle.spec_machine.specs.declared.reply.Reply.TheVariants as reply
use Rattle.spec_execution.specs.Bodies.{exec}
use Rattle.spec_execution.specs.Commands.{Finish, Replied, Early, by_run, call_reply, invoke, perform, replied, results_of}
use Rattle.spec_execution.specs.Outcomes.{World, Outcome, Values, Branch, Return, Over, End, Trapped, Refused, Stopped, on_turn}
use Rattle.spec_execution.specs.Runs.{State, finished, turns_of, world_in, step, run}
use Rattle.spec_execution.specs.Askings.{answers_in}
use Rattle.wasm_call.specs.Outside.{Moving, Readings, Surrounded, surrounded}
use Rattle.wasm_call.specs.Runs.{state_of}
use Rattle.wasm_session.specs.Sessions.{Runs}
use Rattle.binary_run.specs.Calls.{Call, call_parts}
use Rattle.binary_run.specs.Bytes.{region_in}
use Rattle.binary_run.specs.Starts.{start, RunsBy}
use Rattle.binary_run.specs.Statuses.{is_refused, no_host, relations, verdict, HasRun, IsReply}
use Rattle.binary_run.specs.declared.options.Options.{Options}
use Rattle.binary_call.specs.Answers.{IsAnswer, IsTold, reply_of}
use Rattle.binary_call.specs.Calls.{Asked, call_of, operands_of, options_of}
use Rattle.binary_call.specs.declared.answers.Answer.{Answer}

not_alone : (rs : List Reply) (last : Reply) → nat_eq (length (rs ++ last ∷ [])) 0 ≡ false
not_alone [] last = refl
not_alone (r ∷ rs) last = eqb-suc-zero (length (rs ++ last ∷ []))

-- ---- commands whose replies are of a kind, among which each refusal is

module _ (P : Reply → Type 0) (fails : (why : Refusal) → P (reply.Refused why)) where
  abbrev Gives : Row → Type 0
  Gives (Refuse why) = Unit {0}
  Gives (Act after answer) = P answer
  Gives (Invoke c) = (results : List Val) → P (reply.Values results)
  Gives _ = ⊥

  abbrev Finishes : Finish → Type 0
  Finishes (Replied r w) = P r
  Finishes (Early e w) = Unit {0}

  over_finishes : (c : Called) (e : End) (w : World) → Finishes (by_run Early (call_reply c) replied (Over e w))
  over_finishes c (Trapped t) w = fails (refusal.Trap t)
  over_finishes c (Refused why) w = fails why
  over_finishes c _ w = tt

  run_finishes : (c : Called) → ((results : List Val) → P (reply.Values results)) → (o : Outcome) →
      Finishes (by_run Early (call_reply c) replied o)
  run_finishes c each (Values s) = each (results_of s.world.machine c s.operands)
  run_finishes c each (Over e w) = over_finishes c e w
  run_finishes c each (Branch l s) = tt
  run_finishes c each (Return s) = tt

  act_finishes : (w : World) (after : Machine) (answer : Reply) → P answer → (turns : ℕ) →
      Finishes (on_turn Early w (λ v. replied (record v { machine = after }) answer) turns)
  act_finishes w after answer h zero = tt
  act_finishes w after answer h (suc turns) = h

  row_finishes : (w : World) (r : Row) → Gives r → Finishes (perform Early exec 0 w r replied)
  row_finishes w (Refuse why) h = fails why
  row_finishes w (Invoke c) h = run_finishes c h (invoke exec 0 w c)
  row_finishes w (Act after answer) h = act_finishes w after answer h w.turns
  row_finishes w (ActAt after answer) h = absurd h
  row_finishes w (Grow p) h = absurd h
  row_finishes w (Instantiate d imports) h = absurd h

  -- these replies have one more than those before
  record Answered (before after : List Reply) : Type 0 where
    pub last : Reply
    pub is_last : after ≡ before ++ last ∷ []
    pub is_answer : P last

  finished_answers : (turns : ℕ) (s t : State) (f : Finish) → Finishes f → finished turns s f ≡ Some t →
      Answered s.replies t.replies
  finished_answers turns s t (Replied r w) h e =
      record { last = r; is_last = sym (ap (λ (u : State). u.replies) (same_Some _ _ e)); is_answer = h }
  finished_answers turns s t (Early Stopped w) h e =
      record {
        last = reply.Refused refusal.TurnLimit;
        is_last = sym (ap (λ (u : State). u.replies) (same_Some _ _ e));
        is_answer = fails refusal.TurnLimit;
      }
  finished_answers turns s t (Early _ w) h e = cc

  module _ (modules : List ModuleDecl) (c : Command)
      (gives : (m : Machine) (replies : List Reply) → Gives (row modules m (outermost replies) c)) where
    step_answers : (s t : State) → step modules s c ≡ Some t → Answered s.replies t.replies
    step_answers s t e =
        finished_answers (turns_of s.machine) s t _
        (row_finishes (world_in (turns_of s.machine) s) _ (gives s.machine s.replies)) e

    -- of this command alone, and behind two others
    alone_answers : (s t : State) → run modules s (c ∷ []) ≡ Some t → (before : List Reply) × Answered before t.replies
    alone_answers s t e =
        option_and_then_some (λ (u : State). run modules u []) (step modules s c) t e (λ u is rest.
        let same : u ≡ t = same_Some u t rest in
        (s.replies, subst (λ (v : State). Answered s.replies v.replies) same (step_answers s u is)))

    third_answers : (s t : State) (first second : Command) → run modules s (first ∷ second ∷ c ∷ []) ≡ Some t →
        (before : List Reply) × Answered before t.replies
    third_answers s t first second e =
        option_and_then_some (λ (u : State). run modules u (second ∷ c ∷ [])) (step modules s first) t e (λ s1 is1 e1.
        option_and_then_some (λ (u : State). run modules u (c ∷ [])) (step modules s1 second) t e1 (λ s2 is2 e2.
        alone_answers s2 t e2))

    alone_runs : {T H E : Type 0} (moves : Moving T H E) (old new : Surrounded T H E) (before all : List Reply) →
        Runs moves modules (c ∷ []) old before new all → (most : List Reply) × Answered most all
    alone_runs moves old new before all ran =
        alone_answers (state_of old.store before [] (answers_in ran.heard ++ []))
        (state_of new.store all ([] ++ ran.heard) []) (ran.ends [] [])

    third_runs : {T H E : Type 0} (moves : Moving T H E) (old new : Surrounded T H E) (before all : List Reply)
        (first second : Command) → Runs moves modules (first ∷ second ∷ c ∷ []) old before new all →
        (most : List Reply) × Answered most all
    third_runs moves old new before all first second ran =
        third_answers (state_of old.store before [] (answers_in ran.heard ++ []))
        (state_of new.store all ([] ++ ran.heard) []) first second (ran.ends [] [])

  -- ---- the reply that is told

  refused_answers : (r : Reply) → is_refused r ≡ true → P r
  refused_answers (reply.Refused cause) e = fails cause
  refused_answers _ e = cc

  refused_told : (alone : Bool) (r : Reply) → alone ≡ false → (alone || is_refused r) ≡ true → P r
  refused_told true r a e = cc
  refused_told false r a e = refused_answers r e

  told_by : (b : Bool) (r told : Reply) (o : Option Reply) → (b ≡ true → P r) → (o ≡ Some told → P told) →
      (if b then Some r else o) ≡ Some told → P told
  told_by true r told o here there e = subst (λ (x : Reply). P x) (same_Some _ _ e) (here refl)
  told_by false r told o here there e = there e

  verdict_answers : (before : List Reply) (last told : Reply) → P last → verdict (before ++ last ∷ []) ≡ Some told → P told
  verdict_answers [] last told h e = subst (λ (x : Reply). P x) (same_Some _ _ e) h
  verdict_answers (r ∷ rs) last told h e =
      told_by (nat_eq (length (rs ++ last ∷ [])) 0 || is_refused r) r told (verdict (rs ++ last ∷ []))
      (refused_told (nat_eq (length (rs ++ last ∷ [])) 0) r (not_alone rs last)) (verdict_answers rs last told h) e

  told_answers : (replies : List Reply) (told : Reply) → (before : List Reply) × Answered before replies →
      verdict replies ≡ Some told → P told
  told_answers replies told found e =
      verdict_answers found.0 found.1.last told found.1.is_answer
      (subst (λ (rs : List Reply). verdict rs ≡ Some told) found.1.is_last e)

-- ---- a call, and the reading of its bytes

abbrev Alone : Reply → Type 0
Alone r = IsAnswer None r

abbrev With : List ℕ → Reply → Type 0
With bytes r = IsAnswer (Some bytes) r

alone_fails : (why : Refusal) → Alone (reply.Refused why)
alone_fails why = tt

with_fails : (bytes : List ℕ) (why : Refusal) → With bytes (reply.Refused why)
with_fails bytes why = tt

named_gives : (P : Reply → Type 0) (fails : (why : Refusal) → P (reply.Refused why)) {A : Type 0} (o : Option A)
    (go : A → Row) → ((a : A) → Gives P fails (go a)) → Gives P fails (named o go)
named_gives P fails None go each = tt
named_gives P fails (Some found) go each = each found

invokes_gives : (r : Result Called Refusal) → Gives Alone alone_fails (invokes r)
invokes_gives (Ok c) = λ results. tt
invokes_gives (Err why) = tt

reads_gives : (bytes : List ℕ) (m : Machine) (r : Result (List ℕ) Refusal) →
    Gives (With bytes) (with_fails bytes) (reads m reply.Bytes r)
reads_gives bytes m (Ok found) = tt
reads_gives bytes m (Err why) = tt

call_gives : (modules : List ModuleDecl) (func : Name) (args : List Operand) (results : Option ℕ) (m : Machine)
    (replies : List Reply) →
    Gives Alone alone_fails (row modules m (outermost replies) (command.Op (op.Call func args results)))
call_gives modules func args results m replies =
    named_gives Alone alone_fails (named_func (outermost replies) func) _ (λ h.
    named_gives Alone alone_fails (operand_values (outermost replies) args) _ (λ vals.
    invokes_gives (called m h vals results)))

read_gives : (bytes : List ℕ) (modules : List ModuleDecl) (memory : Name) (at len : ℕ) (m : Machine) (replies : List Reply) →
    Gives (With bytes) (with_fails bytes) (row modules m (outermost replies) (command.Op (op.MemoryRead memory at len)))
read_gives bytes modules memory at len m replies =
    named_gives (With bytes) (with_fails bytes) (named_memory (outermost replies) memory) _ (λ h.
    reads_gives bytes m (memory_read m h at len))

module _ {E : Type 0} (readings : Readings E) (old new : Surrounded (Pooled ⊤) NoHost E) (modules : List ModuleDecl)
    (called_by : List ℕ) (operands : List Operand) (replies : List Reply) (told : Reply) (e : verdict replies ≡ Some told) where
  by_bytes : (bytes : Option (List ℕ)) → RunsBy (relations readings) modules called_by operands bytes old new replies →
      IsAnswer bytes told
  by_bytes None ran =
      told_answers Alone alone_fails replies told
      (third_runs Alone alone_fails modules (command.Op (op.Call (name.Reply 1) operands None))
      (call_gives modules (name.Reply 1) operands None) (relations readings) old new [] replies
      (command.Instantiate 0 []) (command.Op (op.GetExport (name.Reply 0) called_by)) ran) e
  by_bytes (Some bytes) ran =
      let region = region_in ran.answer in
      told_answers (With bytes) (with_fails bytes) replies told
      (alone_runs (With bytes) (with_fails bytes) modules (command.Op (op.MemoryRead (name.Reply 1) region.at region.len))
      (read_gives bytes modules (name.Reply 1) region.at region.len) (relations readings) ran.done new ran.answer replies
      ran.reads) e

-- the reply that is told of a call
pub call_answers : {E : Type 0} (readings : Readings E) (epochs epochs_after : E) (call : Call) (replies : List Reply)
    (told : Reply) → HasRun readings epochs epochs_after call replies → verdict replies ≡ Some told →
    IsAnswer call.bytes told
call_answers readings epochs epochs_after call replies told has e =
    by_bytes readings (surrounded (start call.options) no_host epochs) (surrounded has.store no_host epochs_after)
    (call.decl ∷ []) call.name call.arguments replies told e call.bytes has.ran

-- there is an answer for it
pub is_told : (bytes : Option (List ℕ)) (r : Reply) → IsAnswer bytes r → IsTold r
is_told None (reply.Values values) h = tt
is_told None (reply.Refused cause) h = tt
is_told (Some bytes) (reply.Bytes found) h = tt
is_told (Some bytes) (reply.Refused cause) h = tt
is_told None _ h = absurd h
is_told (Some bytes) _ h = absurd h

-- the call with its options and operands as they were made
pub same_call : {E : Type 0} (readings : Readings E) (e0 e1 start : E) (a : Asked) (decl : ModuleDecl) (options : Options)
    (operands : List Operand) (replies : List Reply) → options ≡ options_of a.bounds → operands ≡ operands_of a.arguments →
    start ≡ e0 → HasRun readings start e1 (call_parts options decl a.name operands a.bytes) replies →
    HasRun readings e0 e1 (call_of a decl) replies
same_call readings e0 e1 start a decl options operands replies o n s has = rw (o, n, s) at has

-- the reply that is told is the answer
pub is_reply : {E X : Type 0} (readings : Readings E) (e0 : E) (e1 : E) (call : Call) (replies : List Reply) (told : Reply)
    (result : Result Answer X) → HasRun readings e0 e1 call replies → verdict replies ≡ Some told →
    IfOk result (λ answer. reply_of answer ≡ told) →
    IfOk result (λ answer. (epochs : E) × IsReply readings e0 epochs call (reply_of answer))
is_reply readings e0 e1 call replies told (Ok answer) has e same =
    (e1, record { replies = replies; ran = has; is_verdict = e ∙ ap Some (sym same) })
is_reply readings e0 e1 call replies told (Err x) has e same = tt

-- and it is of the kind of the call
pub is_kind : {X : Type 0} (bytes : Option (List ℕ)) (told : Reply) (result : Result Answer X) → IsAnswer bytes told →
    IfOk result (λ answer. reply_of answer ≡ told) → IfOk result (λ answer. IsAnswer bytes (reply_of answer))
is_kind bytes told (Ok answer) h same = subst (λ (r : Reply). IsAnswer bytes r) (sym same) h
is_kind bytes told (Err x) h same = tt
