-- What a step of a body of the host comes to, with its turn. This project's own.
use Rattle.std.specs.Prelude.{List}
use Rattle.spec_execution.specs.Activations.{Activation}
use Rattle.spec_execution.specs.Askings.{Question, Answer, Asking, Chain}
use Rattle.spec_execution.specs.Bodies.{exec}
use Rattle.spec_execution.specs.Hosts.{said}
use Rattle.spec_execution.specs.declared.answer.Answer.{Answer as Say}
use Rattle.spec_execution.specs.declared.answer.Event.{Event}
use Rattle.code_leaps.specs.Leading.{Setting, Leads}
use Rattle.code_hosts.specs.Hosting.{stepping}
use Rattle.code_hosts.specs.Replies.{Exhausts}

module _ {H W : Type 0} (g : Setting H) (moves : W → Question → Answer → W → Type 0) (a : Activation) (event : Event)
    (h : H) (o : W) where
  -- one turn leads to what it says
  pub record Says (new : Activation) (what : Say) (o' : W) : Type 0 where
    pub heard : List Asking
    pub chain : Chain moves o heard o'
    pub leads : Leads g (stepping a event) h 1 heard (λ w. said exec new what w) h

  -- or it had no memory, and no turn was taken
  pub record Fails (o' : W) : Type 0 where
    pub heard : List Asking
    pub chain : Chain moves o heard o'
    pub exhausts : Exhausts g (stepping a event) h 0 heard h
