-- An instantiation as a row: its checks, its counts, its questions, and the part that makes the instance behind them.
use Rattle.std.proofs.Common.{◌≡◌, ℕ, suc, ◌+◌, ◌-◌, ◌≤◌, List, [], ◌∷◌, ◌++◌, length, Some, Result, Ok, Err, refl, sym, ap, ◌∙◌, inl, inr, arith, zero-add, append-nil, append_assoc}
use Rattle.wasm_types.specs.declared.plain.Resource.{Resource}
use Rattle.wasm_syntax.specs.declared.declarations.ModuleDecl.{ModuleDecl}
use Rattle.wasm_values.specs.Handles.{instance_of}
use Rattle.wasm_values.specs.declared.externals.Extern.{Extern}
use Rattle.wasm_values.specs.declared.handles.Instance.{Instance}
use Rattle.wasm_values.specs.declared.refusals.Refusal.{Refusal}
use Rattle.wasm_values.specs.declared.refusals.Refusal.TheVariants.{OutOfMemory, TurnLimit, ResourceLimit}
use Rattle.spec_machine.specs.Commands.{Row, Instantiate}
use Rattle.spec_machine.specs.Machine.{Machine}
use Rattle.spec_machine.specs.declared.reply.Reply.{Reply}
use Rattle.spec_machine.specs.declared.reply.Reply.TheVariants as reply
use Rattle.spec_execution.specs.Askings.{Question, Growing, Answer, Grown, Asking, Outside, Relations, answers_in, Chain}
use Rattle.spec_execution.specs.Bodies.{exec}
use Rattle.spec_execution.specs.Commands.{Finish, Replied, Early, by_run, instance_reply, replied}
use Rattle.spec_execution.specs.Instantiation.{imports_fit, Counted, Within, Past, counted, making, by_counts, by_checks}
use Rattle.spec_execution.specs.Outcomes.{World, world, State, Outcome, Over, Refused, turn}
use Rattle.wasm_store.specs.Stores.{StoreParts, store_parts}
use Rattle.wasm_call.specs.Outcomes.{Leads, by_row, answer_of, stop_of, lack_of, AnsweredRow, CutRow, LackedRow}
use Rattle.wasm_call.specs.Outside.{Surrounded, surrounded, typed}
use Rattle.wasm_instance.specs.Asking.{Part, growing_all, Moves, Reaches, Comes}
use Rattle.wasm_instance.specs.Instances.{InstantiationFailed, Instantiated}
use Rattle.wasm_instance.specs.Making.{making_finish, MakingCut, MakingLacked, MakingFailed, Makes}
use Rattle.wasm_instance.proofs.AskingLemmas.{chain_then, answers_then}

-- what the limiter was asked is heard from what is outside
module _ {T H E : Type 0} (r : Relations T H E) (host : H) (epochs : E) where
  abbrev wide : T → Outside T H E
  wide t = record { host_data = t; host = host; epochs = epochs }

  moves_wide : (old new : T) (q : Question) (a : Answer) → Moves r.growths old q a new →
      typed r (wide old) q a (wide new)
  moves_wide old new (Growing g) (Grown answer) h = (tt, (new, h, refl))
  moves_wide old new q a h = absurd h

  pub chain_wide : (old new : T) (heard : List Asking) → Chain (Moves r.growths) old heard new →
      Chain (typed r) (wide old) heard (wide new)
  chain_wide old new [] e = ap wide e
  chain_wide old new (x ∷ heard) c = (wide c.0, moves_wide old c.0 x.0 x.1 c.1, chain_wide c.0 new heard c.2)

module _ {T H E : Type 0} (r : Relations T H E) (d : ModuleDecl) (imports : List Extern) (b : Machine) (host : H)
  where
    abbrev due : Row
    due = Instantiate d imports

    abbrev all : ℕ
    all = b.engine.turns

    abbrev at : Machine → ℕ → T → E → Surrounded T H E
    at m turns t e = surrounded (store_parts m turns t) host e

    abbrev finish : Outcome → Finish
    finish o = by_run Early (instance_reply b) replied o

    -- ---- it was refused before all questions

    module _ (t : T) (e : E) where
      refused_row : (why : Refusal) (m : Machine) →
          ((turns : ℕ) (before : List Asking) (answers : List Answer) →
          by_row due (world b turns before answers) ≡ Replied (reply.Refused why) (world m turns before answers)) →
          AnsweredRow (typed r) due (at b 0 t e) (reply.Refused why) (at m 0 t e)
      refused_row why m is = record {
        heard = [];
        left = all;
        within = zero-add all;
        chained = refl;
        ends = λ before rest.
            ap answer_of (is all before rest)
            ∙ ap (λ (bs : List Asking). Some (reply.Refused why, world m all bs rest)) (sym (append-nil before));
      }

      refused_cut : (why : Refusal) (m : Machine) →
          ((turns : ℕ) (before : List Asking) (answers : List Answer) →
          by_row due (world b turns before answers) ≡ Replied (reply.Refused why) (world m turns before answers)) →
          CutRow (typed r) due (at b 0 t e) (at m 0 t e)
      refused_cut why m is = record {
        led = record {
          heard = [];
          left = 0;
          within = refl;
          chained = refl;
          ends = λ before rest.
              ap stop_of (is 0 before rest)
              ∙ ap (λ (bs : List Asking). Some (world m 0 bs rest)) (sym (append-nil before));
        };
        within = omega arith;
      }

      failed : (why : Refusal) (m : Machine) →
          ((turns : ℕ) (before : List Asking) (answers : List Answer) →
          by_row due (world b turns before answers) ≡ Replied (reply.Refused why) (world m turns before answers)) →
          InstantiationFailed (typed r) d imports (at b 0 t e) why (at m 0 t e)
      failed OutOfMemory m is = inl (refused_cut OutOfMemory m is)
      failed why m is = refused_row why m is

      -- the checks refused it
      pub told_unfit : (why : Refusal) → imports_fit b d imports ≡ Err why →
          Instantiated (typed r) d imports (at b 0 t e) (Err why) (at b 0 t e)
      told_unfit why fits = failed why b (λ turns before answers.
          ap (λ x. finish (by_checks exec 0 (world b turns before answers) d imports x)) fits)

    -- ---- the checks passed

    module _ (fits : imports_fit b d imports ≡ Ok tt) where
      counts_due : (c : Counted) → counted b d ≡ c → (turns : ℕ) (before : List Asking) (answers : List Answer) →
          by_row due (world b turns before answers)
          ≡ finish (by_counts exec 0 (world b turns before answers) d imports c)
      counts_due c e turns before answers =
          ap (λ x. finish (by_checks exec 0 (world b turns before answers) d imports x)) fits
          ∙ ap (λ x. finish (by_counts exec 0 (world b turns before answers) d imports x)) e

      -- a count is past its limit
      pub told_past : (t : T) (e : E) (which : Resource) (m : Machine) → counted b d ≡ Past which m →
          Instantiated (typed r) d imports (at b 0 t e) (Err (ResourceLimit which)) (at m 0 t e)
      told_past t e which m past =
          failed t e (ResourceLimit which) m (λ turns before answers. counts_due (Past which m) past turns before answers)

      module _ (m : Machine) (within : counted b d ≡ Within m) where
        row_is : (turns : ℕ) (before : List Asking) (answers : List Answer) →
            by_row due (world b turns before answers)
            ≡ finish (growing_all d (making exec 0 d imports) (world m turns before answers))
        row_is turns before answers = counts_due (Within m) within turns before answers

        module _ (old new : StoreParts T) (fresh : old.turns ≡ 0) where
          -- behind the questions
          row_behind : (next : Part) → (a : Reaches r.growths m (growing_all d) next old new) → (turns left : ℕ) →
              turns ≡ new.turns + left → (before : List Asking) (rest : List Answer) →
              by_row due (world b turns before (answers_in a.heard ++ rest))
              ≡ finish (next (making exec 0 d imports) (world m left (before ++ a.heard) rest))
          row_behind next a turns left more before rest =
              let made : turns ≡ a.made + left = omega (arith, more, a.counted, fresh) in
              ap (λ (n : ℕ). by_row due (world b n before (answers_in a.heard ++ rest))) made
              ∙ row_is (a.made + left) before (answers_in a.heard ++ rest)
              ∙ ap finish (a.ends (making exec 0 d imports) left before rest)

          -- ---- they were not all granted

          module _ (e : E) (most : new.turns ≤ all) where
            stopped_row : (next : Part) → Reaches r.growths m (growing_all d) (λ go w. turn Over w (next go)) old new →
                new.turns ≡ all →
                AnsweredRow (typed r) due (at b 0 old.host_data e) (reply.Refused TurnLimit) (at m new.turns new.host_data e)
            stopped_row next a full = record {
              heard = a.heard;
              left = 0;
              within = omega (arith, full);
              chained = chain_wide r host e old.host_data new.host_data a.heard a.chained;
              ends = λ before rest.
                  ap answer_of (row_behind (λ go w. turn Over w (next go)) a all 0 (omega (arith, full)) before rest);
            }

            denied_row : (why : Refusal) → Reaches r.growths m (growing_all d) (λ go w. Over (Refused why) w) old new →
                AnsweredRow (typed r) due (at b 0 old.host_data e) (reply.Refused why) (at m new.turns new.host_data e)
            denied_row why a = record {
              heard = a.heard;
              left = all - new.turns;
              within = omega (arith, most);
              chained = chain_wide r host e old.host_data new.host_data a.heard a.chained;
              ends = λ before rest.
                  ap answer_of (row_behind (λ go w. Over (Refused why) w) a all (all - new.turns) (omega (arith, most))
                  before rest);
            }

            denied_cut : (why : Refusal) → Reaches r.growths m (growing_all d) (λ go w. Over (Refused why) w) old new →
                CutRow (typed r) due (at b 0 old.host_data e) (at m new.turns new.host_data e)
            denied_cut why a = record {
              led = record {
                heard = a.heard;
                left = 0;
                within = omega arith;
                chained = chain_wide r host e old.host_data new.host_data a.heard a.chained;
                ends = λ before rest.
                    ap stop_of (row_behind (λ go w. Over (Refused why) w) a new.turns 0 (omega arith) before rest);
              };
              within = most;
            }

            pub told_denied : (why : Refusal) → Comes r.growths m (growing_all d) all old (Err why) new →
                Instantiated (typed r) d imports (at b 0 old.host_data e) (Err why) (at m new.turns new.host_data e)
            told_denied OutOfMemory c = inl (denied_cut OutOfMemory c)
            told_denied TurnLimit c = stopped_row c.0 c.1.0 c.1.1
            told_denied why c = denied_row why c

          -- ---- they were

          module _ (a : Reaches r.growths m (growing_all d) (λ go. go) old new) (e : E) (same_id : m.id ≡ b.id)
              (many : length m.instances ≡ length b.instances) where
            abbrev say : Machine → ℕ → State → Reply
            say k n s = reply.Instance (instance_of k.id n)

            reply_is : instance_reply b ≡ instance_reply m
            reply_is =
                ap (λ id. λ (s : State). reply.Instance (instance_of id (length b.instances))) (sym same_id)
                ∙ ap (λ n. λ (s : State). reply.Instance (instance_of m.id n)) (sym many)

            finish_is : (w : World) → w.machine ≡ m → finish (making exec 0 d imports w) ≡ making_finish d imports w
            finish_is w here =
                ap (λ x. by_run Early x replied (making exec 0 d imports w)) reply_is
                ∙ ap (λ (k : Machine). by_run Early (instance_reply k) replied (making exec 0 d imports w)) (sym here)

            row_made : (turns left : ℕ) → turns ≡ new.turns + left → (before : List Asking) (rest : List Answer) →
                by_row due (world b turns before (answers_in a.heard ++ rest))
                ≡ making_finish d imports (world m left (before ++ a.heard) rest)
            row_made turns left more before rest =
                row_behind (λ go. go) a turns left more before rest
                ∙ finish_is (world m left (before ++ a.heard) rest) refl

            module _ (last : Surrounded T H E) where
              abbrev whole : Surrounded T H E
              whole = surrounded (record last.store { turns = new.turns + last.store.turns }) last.host last.epochs

              -- with the questions before it
              leads_whole : {O : Type 0} (of : Finish → O) (ending : World → O) (turns total : ℕ) →
                  total ≡ new.turns + turns →
                  Leads (typed r) (λ w. of (making_finish d imports w)) turns (at m 0 new.host_data e) ending last →
                  Leads (typed r) (λ w. of (by_row due w)) total (at b 0 old.host_data e) ending whole
              leads_whole of ending turns total more l = record {
                heard = a.heard ++ l.heard;
                left = l.left;
                within = omega (arith, more, l.within);
                chained =
                    chain_then (typed r) (wide r host e old.host_data) (wide r host e new.host_data) _ a.heard
                    l.heard (chain_wide r host e old.host_data new.host_data a.heard a.chained) l.chained;
                ends = λ before rest.
                    ap (λ (answers : List Answer). of (by_row due (world b total before answers))) (answers_then a.heard l.heard rest)
                    ∙ ap of (row_made total turns more before (answers_in l.heard ++ rest))
                    ∙ l.ends (before ++ a.heard) rest
                    ∙ ap (λ (bs : List Asking). ending (world last.store.machine l.left bs rest))
                    (append_assoc before a.heard l.heard);
              }

              module _ (turns : ℕ) (left : all ≡ new.turns + turns) where
                cut_whole : MakingCut (typed r) d imports turns (at m 0 new.host_data e) last →
                    CutRow (typed r) due (at b 0 old.host_data e) whole
                cut_whole c = record {
                  led = leads_whole stop_of (λ w. Some w) last.store.turns (new.turns + last.store.turns) refl c.led;
                  within = omega (arith, c.within, left);
                }

                lacked_whole : MakingLacked (typed r) d imports turns (at m 0 new.host_data e) last →
                    LackedRow (typed r) due (at b 0 old.host_data e) whole
                lacked_whole c = record {
                  led =
                      leads_whole lack_of (λ w. Some w) (suc last.store.turns) (suc (new.turns + last.store.turns))
                      (omega arith) c.led;
                  within = omega (arith, c.within, left);
                }

                failed_whole : (why : Refusal) → MakingFailed (typed r) d imports turns (at m 0 new.host_data e) why last →
                    InstantiationFailed (typed r) d imports (at b 0 old.host_data e) why whole
                failed_whole OutOfMemory (inl c) = inl (cut_whole c)
                failed_whole OutOfMemory (inr c) = inr (lacked_whole c)
                failed_whole why c = leads_whole answer_of (λ w. Some (reply.Refused why, w)) turns all left c

                pub told_whole : (i : Result Instance Refusal) →
                    Makes (typed r) d imports turns (at m 0 new.host_data e) i last →
                    Instantiated (typed r) d imports (at b 0 old.host_data e) i whole
                told_whole (Ok instance) c =
                    leads_whole answer_of (λ w. Some (reply.Instance instance, w)) turns all left c
                told_whole (Err why) c = failed_whole why c
