-- A call whose loop is open: what is due of it, and how far a part of it came. This project's own.
use Rattle.std.specs.Global.{Global}
use Rattle.std.specs.Prelude.{◌≡◌, ℕ, ◌≤◌, ◌<◌, ◌⊎◌, Bool, true, List, [], ◌∷◌, Ok, Vec}
use Rattle.spec_machine.specs.Machine.{Machine}
use Rattle.spec_execution.specs.Askings.{Question, Answer, Asking, Chain, Stepped}
use Rattle.spec_execution.specs.declared.answer.Answer.{Answer as Say}
use Rattle.store_state.specs.Parts.{HeldParts}
use Rattle.wasm_host.specs.Activations.{activation_of}
use Rattle.code_leaps.specs.Leading.{Doing, Setting, Leads}
use Rattle.code_hosts.specs.Contexts.{IsSeenIn, stepping_in}
use Rattle.code_hosts.specs.Entering.{returned}
use Rattle.code_hosts.specs.Replies.{RepliesBy}
use Rattle.code_hosts.specs.Rounds.{LacksBy}
use Rattle.code_hosts.specs.States.{due_of, IsBody}
use Rattle.code_hosts.specs.declared.context.RunContext.{RunContext}
use Rattle.code_hosts.specs.declared.courses.Course.{Course}
use Rattle.code_hosts.specs.declared.courses.Stage.{Stage}
use Rattle.code_hosts.specs.declared.courses.Stage.TheVariants as stage
use Rattle.code_hosts.specs.declared.courses.Staged.{Staged}
use Rattle.code_hosts.specs.declared.replies.How.TheVariants as how
use Rattle.code_hosts.specs.declared.rounds.Lack.{Lack}
use Rattle.code_hosts.specs.declared.rounds.Round.{Round}
use Rattle.code_hosts.specs.declared.rounds.Round.TheVariants as round
use Rattle.code_hosts.specs.declared.states.Open.{Open}
use Rattle.code_hosts.specs.declared.states.Open.TheVariants as working
use Rattle.code_hosts.specs.declared.states.Waiting.{Waiting}

-- all that is due of its function, and the same with the border behind it
abbrev pub due_in : Course → Doing
due_in c = due_of c.at_work c.around.items

abbrev pub called_in : Course → Doing
called_in c = returned (due_in c)

-- it may stand so, so many turns on: they are as many as were wanted, and one at least; or a step is due, which those
-- outside are asked
abbrev pub MayStand : ℕ → Bool → Open → ℕ → Type 0
MayStand slice asks at_work made = ((slice ≤ made) × (0 < made)) ⊎ ((asks ≡ true) × IsBody at_work)

abbrev pub IfStands : Stage → (Course → Type 0) → Type 0
IfStands (stage.Stands c) P = P c
IfStands (stage.Ends how) P = Unit {0}

-- a part of the call leads there
abbrev pub stage_of : Round → Vec Waiting Global → Stage
stage_of (round.Goes now) around = stage.Stands (record { at_work = now; around = around })
stage_of (round.Ends how) around = stage.Ends how
stage_of round.Limit around = stage.Ends how.TurnLimit

-- so many of the turns that are left, with these questions and answers, lead to where it stands, or to its end
module _ {H : Type 0} (g : Setting H) (due : Doing) (next : Course → Doing) (h : H) (left spent : ℕ)
    (heard : List Asking) (h' : H) where
  abbrev pub StagesBy : Stage → Type 0
  StagesBy (stage.Stands c) = Leads g due h spent heard (next c) h'
  StagesBy (stage.Ends how) = RepliesBy g due h left spent heard h' how

module _ {H W : Type 0} (g : Setting H) (moves : W → Question → Answer → W → Type 0) (due : Doing) where
  pub record Goes (next : Course → Doing) (h : H) (o : W) (left : ℕ) (staged : Staged) (h' : H) (o' : W) : Type 0
    where
      pub within : staged.turns ≤ left
      pub heard : List Asking
      pub chain : Chain moves o heard o'
      pub by : StagesBy g due next h left staged.turns heard h' staged.stage

  -- the same behind an answer that came from elsewhere
  pub record GoesBehind (first : Asking) (next : Course → Doing) (h : H) (o : W) (left : ℕ) (staged : Staged) (h' : H)
      (o' : W) : Type 0 where
    pub within : staged.turns ≤ left
    pub more : List Asking
    pub chain : Chain moves o more o'
    pub by : StagesBy g due next h left staged.turns (first ∷ more) h' staged.stage

  -- or there was no memory
  pub record LacksBehind (first : Asking) (h : H) (o : W) (left spent : ℕ) (lack : Lack) (h' : H) (o' : W) : Type 0
    where
      pub within : spent ≤ left
      pub more : List Asking
      pub chain : Chain moves o more o'
      pub by : LacksBy g due h left spent (first ∷ more) [] h' lack

-- so it is with the step that is due of a body, in each store of the call, and this answer to it
abbrev pub WithStep : RunContext → HeldParts → ℕ → Say → Open → (Asking → Type 0) → Type 0
WithStep context held state say (working.Code t) P = Unit {0}
WithStep context held state say (working.Body a event) P =
    (base : Machine) → IsSeenIn context base →
    P (stepping_in context base held (activation_of a) event, Stepped state (Ok say))
