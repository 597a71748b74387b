-- What a run leaves: no turn comes back, what is heard is added at the end, and its answers were taken from the front.
use Rattle.std.proofs.Common.{◌≡◌, ℕ, suc, ◌≤◌, List, [], ◌∷◌, ◌++◌, Option, refl, sym, ap, ◌∙◌, arith}
use Rattle.std.proofs.lemmas.List.{append_assoc, append-nil, map-append}
use Rattle.wasm_syntax.specs.declared.declarations.ModuleDecl.{ModuleDecl}
use Rattle.wasm_values.specs.declared.externals.Extern.{Extern}
use Rattle.wasm_objects.specs.declared.raw.RawVal.{RawVal}
use Rattle.spec_execution.specs.Askings.{Question, Answer, Asking, answers_in}
use Rattle.spec_machine.specs.Names.{Scope}
use Rattle.spec_machine.specs.declared.command.Command.{Command}
use Rattle.spec_execution.specs.Bodies.{exec}
use Rattle.spec_execution.specs.Commands.{Finish, Replied, Early, command}
use Rattle.spec_execution.specs.Entering.{Code, enter, entry}
use Rattle.spec_execution.specs.Instantiation.{instantiate}
use Rattle.spec_execution.specs.Outcomes.{World, State, Outcome, Values, Branch, Return, Over}
use Rattle.spec_execution.proofs.Ways.{Way, Alike, here}
use Rattle.spec_execution.proofs.WaysOfCalls.{enter_alike, entry_alike}
use Rattle.spec_execution.proofs.WaysOfCommands.{Together, command_alike}
use Rattle.spec_execution.proofs.WaysOfInstantiation.{instantiate_alike}
use Rattle.spec_execution.proofs.EquationLemmas.{exec_alike, exec_fits}

-- the world that an outcome leaves
abbrev pub world_of : Outcome → World
world_of (Values s) = s.world
world_of (Branch l s) = s.world
world_of (Return s) = s.world
world_of (Over e w) = w

abbrev pub end_of : Finish → World
end_of (Replied answer w) = w
end_of (Early e w) = w

-- a later world of a run
pub record Later (w v : World) : Type 0 where
  pub fewer : v.turns ≤ w.turns
  pub course : (more : List Asking) × (v.heard ≡ w.heard ++ more) × (w.answers ≡ answers_in more ++ v.answers)

pub later_none : (w : World) → Later w w
later_none w = record {
  fewer = omega arith;
  course = ([], sym (append-nil w.heard), refl);
}

answers_both :
    (xs ys : List Asking) (rest : List Answer)
    → answers_in xs ++ (answers_in ys ++ rest) ≡ answers_in (xs ++ ys) ++ rest
answers_both xs ys rest =
    sym (append_assoc (answers_in xs) (answers_in ys) rest)
    ∙ ap (λ (answers : List Answer). answers ++ rest) (sym (map-append (λ (asking : Asking). asking.1) xs ys))

later_heard :
    (w v : World) (q : Question) (a : Answer) (rest : List Answer) → v.answers ≡ a ∷ rest → Later w v
    → Later w (record v { heard = v.heard ++ (q, a) ∷ []; answers = rest })
later_heard w v q a rest e h =
    let more : List Asking = h.course.0 in
    record {
      fewer = h.fewer;
      course = (
        more ++ (q, a) ∷ [],
        ap (λ (xs : List Asking). xs ++ (q, a) ∷ []) h.course.1 ∙ append_assoc w.heard more ((q, a) ∷ []),
        h.course.2 ∙ ap (λ (xs : List Answer). answers_in more ++ xs) e ∙ answers_both more ((q, a) ∷ []) rest,
      );
    }

pub later_on : (w v u : World) → Later w v → Later v u → Later w u
later_on w v u h j =
    record {
      fewer = omega (arith, h.fewer, j.fewer);
      course = (
        h.course.0 ++ j.course.0,
        j.course.1 ∙ ap (λ (xs : List Asking). xs ++ j.course.0) h.course.1
            ∙ append_assoc w.heard h.course.0 j.course.0,
        h.course.2 ∙ ap (λ (xs : List Answer). answers_in h.course.0 ++ xs) j.course.2
            ∙ answers_both h.course.0 j.course.0 u.answers,
      );
    }

-- a run from a world, beside itself
abbrev from : World → Way
from w = record {
  turns = λ t. t;
  answers = λ answers. answers;
  stops = Unit {0};
  waits = Unit {0};
  Holds = Later w;
  a_turn = λ t. refl;
  no_turn = λ c. refl;
  an_answer = λ a answers. refl;
  no_answer = λ c. refl;
  spent = λ v t e h. record { fewer = omega (arith, h.fewer, e); course = h.course };
  changed = λ v m h. record { fewer = h.fewer; course = h.course };
  heard = later_heard w;
}

left : (w : World) (n : ℕ) (o o' : Outcome) → Alike (from w) n o o' → Later w (world_of o)
left w n (Values s) o' h = h.by.1.held
left w n (Branch l s) o' h = h.by.1.held
left w n (Return s) o' h = h.by.1.held
left w n (Over e v) o' h = h.by.1

pub exec_later : (c : Code) (s : State) → Later s.world (world_of (exec c s))
exec_later c s =
    left s.world (suc s.world.turns) (exec c s) (exec c s) (exec_alike (from s.world) c s (later_none s.world))

pub enter_later :
    (depth n : ℕ) (args : List RawVal) (caller : Option ℕ) (w : World)
    → Later w (world_of (enter exec depth n args caller w))
enter_later depth n args caller w =
    left w (suc w.turns) _ _
    (enter_alike (from w) (suc w.turns) exec exec (exec_fits (from w) (suc w.turns)) depth n args caller w
    (here (from w) w (later_none w)))

pub entry_later :
    (depth n : ℕ) (args : List RawVal) (caller : Option ℕ) (w : World)
    → Later w (world_of (entry exec depth n args caller w))
entry_later depth n args caller w =
    left w (suc w.turns) _ _
    (entry_alike (from w) (suc w.turns) exec exec (exec_fits (from w) (suc w.turns)) depth n args caller w
    (here (from w) w (later_none w)))

pub instantiate_later :
    (depth : ℕ) (w : World) (d : ModuleDecl) (imports : List Extern)
    → Later w (world_of (instantiate exec depth w d imports))
instantiate_later depth w d imports =
    left w (suc w.turns) _ _
    (instantiate_alike (from w) (suc w.turns) exec exec (exec_fits (from w) (suc w.turns)) depth d imports w
    (here (from w) w (later_none w)))

-- an outermost command
left_behind : (w : World) (o o' : Finish) → Together (from w) o o' → Later w (end_of o)
left_behind w (Replied answer v) o' h = h.by.1
left_behind w (Early e v) o' h = h.by.1

pub command_later :
    (modules : List ModuleDecl) (s : Scope) (c : Command) (w : World) → Later w (end_of (command exec modules s c w))
command_later modules s c w =
    left_behind w _ _
    (command_alike (from w) exec exec modules s c w (λ V. exec_fits V (suc w.turns)) (later_none w))
