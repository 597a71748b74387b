-- A step of a body that is due in an open call: it is asked, it is stopped where no turn is left, and its answer leads on.
use Rattle.std.proofs.Common.{◌≡◌, ℕ, suc, ◌+◌, List, [], ◌∷◌, ◌++◌, refl, sym, ap, ◌∙◌, append_assoc, arith}
use Rattle.std.specs.Prelude.{Ok}
use Rattle.std.proofs.lemmas.List.{append-nil}
use Rattle.spec_machine.specs.Commands.{Row}
use Rattle.spec_machine.specs.Machine.{Machine}
use Rattle.spec_machine.specs.declared.operation.Op.{Op}
use Rattle.spec_machine.specs.declared.reply.Reply.{Reply}
use Rattle.spec_execution.specs.Activations.{scope_of, replied}
use Rattle.spec_execution.specs.Askings.{Answer, Asking, Stepped, answers_in}
use Rattle.spec_execution.specs.Bodies.{exec}
use Rattle.spec_execution.specs.Commands.{perform, operation}
use Rattle.spec_execution.specs.Hosts.{step_with, go_on}
use Rattle.spec_execution.specs.Outcomes.{World, world, state, Over, Stopped, Waiting}
use Rattle.spec_execution.specs.declared.answer.Answer.{Answer as Say}
use Rattle.spec_execution.specs.declared.answer.Answer.TheVariants as say
use Rattle.spec_execution.specs.declared.answer.Event.TheVariants.{Replied}
use Rattle.spec_execution.proofs.EquationLemmas.{step_is}
use Rattle.law_open.specs.Opens.{Open, Leads, whole, halted}
use Rattle.law_open.specs.Steps.{StepDue, asked, answering, answered, with_state, told_reply}
use Rattle.law_open.specs.OpenLaws.{StepsAreAsked, StepsRest, AnswersGoOn, OperationsGoOn, CallsGoOn}

module _ (x : Open) (s : StepDue x) where
  -- what is due is the step, with these turns
  steps : (w : World) → x.due w ≡ s.around (step_with exec s.activation s.event w w.turns)
  steps w = s.due w ∙ ap s.around (step_is s.activation s.event (state w [] []))

  pub waits : (extra : ℕ) (before : List Asking)
      → x.due (world x.machine (suc extra) before [])
      ≡ Over (Waiting (asked x s)) (world x.machine (suc extra) before [])
  waits extra before =
      steps (world x.machine (suc extra) before [])
      ∙ s.passes.waiting (asked x s) (world x.machine (suc extra) before [])

  pub rests_there : (before : List Asking) (rest : List Answer)
      → x.due (world x.machine 0 before rest) ≡ Over Stopped (world x.machine 0 before rest)
  rests_there before rest = steps (world x.machine 0 before rest) ∙ s.passes.stopped (world x.machine 0 before rest)

  pub answer_leads : (after : ℕ) (what : Say)
      → Leads x.due x.machine 1 (answering x s after what) (answered x s after what).due x.machine
  answer_leads after what = record {
    by = λ extra before rest.
        let e : 1 + extra ≡ suc extra = omega arith in
        ap (λ t. x.due (world x.machine t before (Stepped after (Ok what) ∷ rest))) e
        ∙ steps (world x.machine (suc extra) before (Stepped after (Ok what) ∷ rest));
  }

  -- with an operation: it is done, and then it goes on with the reply
  operates : (after : ℕ) (op : Op) (extra : ℕ) (before : List Asking) (rest : List Answer)
      → x.due (world x.machine (suc extra) before (Stepped after (Ok (say.Call op)) ∷ rest))
      ≡ s.around (operation Over exec (suc s.activation.depth) (scope_of x.machine (with_state s after)) op
      (world x.machine extra (before ++ answering x s after (say.Call op)) rest) (go_on exec (with_state s after)))
  operates after op extra before rest =
      steps (world x.machine (suc extra) before (Stepped after (Ok (say.Call op)) ∷ rest))

-- the step behind a reply
abbrev pub next_step : (x : Open) (s : StepDue x) (after : ℕ) (reply : Reply) (made : ℕ) (m : Machine)
    → StepDue (told_reply x s after reply made m)
next_step x s after reply made m = record {
  activation = replied (with_state s after) reply;
  event = Replied;
  around = s.around;
  due = λ w. refl;
  passes = s.passes;
}

pub steps_are_asked : StepsAreAsked
steps_are_asked c first heard x s stands extra before =
    ap (λ answers. whole c (world first (x.made + suc extra) before answers)) (sym (append-nil (answers_in heard)))
    ∙ stands.leads.by (suc extra) before [] ∙ waits x s extra (before ++ heard)

pub steps_rest : StepsRest
steps_rest x s before rest = ap halted (rests_there x s before rest)

pub answers_go_on : AnswersGoOn
answers_go_on x s after what = record {
  spent = 1;
  goes = omega arith;
  made = omega arith;
  leads = answer_leads x s after what;
}

pub operations_go_on : OperationsGoOn
operations_go_on x s after spent op heard reply n h = record {
  spent = 1 + spent;
  goes = omega arith;
  made = omega arith;
  leads = record {
    by = λ extra before rest.
        let more : 1 + spent + extra ≡ suc (spent + extra) = omega arith in
        let asking : List Asking = answering x s after (say.Call op) in
        ap (λ t. x.due (world x.machine t before (Stepped after (Ok (say.Call op)) ∷ (answers_in heard ++ rest)))) more
        ∙ operates x s after op (spent + extra) before (answers_in heard ++ rest)
        ∙ ap s.around ((h (go_on exec (with_state s after))).by extra (before ++ asking) rest)
        ∙ ap (λ q. s.around (go_on exec (with_state s after) (world n extra q rest) reply))
        (append_assoc before asking heard);
  };
}

pub calls_go_on : CallsGoOn
calls_go_on x s after op c e = (
  record {
    spent = 1;
    goes = omega arith;
    made = omega arith;
    leads = record {
      by = λ extra before rest.
          let one : 1 + extra ≡ suc extra = omega arith in
          ap (λ t. x.due (world x.machine t before (Stepped after (Ok (say.Call op)) ∷ rest))) one
          ∙ operates x s after op extra before rest
          ∙ ap (λ (r : Row). s.around (perform Over exec (suc s.activation.depth)
          (world x.machine extra (before ++ answering x s after (say.Call op)) rest) r (go_on exec (with_state s after)))) e;
    };
  },
  record { stopped = s.passes.stopped; waiting = s.passes.waiting },
)
