-- A stop before the first turn of a command.
use Rattle.std.proofs.Common.{◌≡◌, List, Option, Some, None, option_and_then, refl, sym, ap, ◌∙◌, subst, take, slice_get}
use Rattle.std.specs.Prelude.{nat_eq, option_map}
use Rattle.std.proofs.lemmas.Option.{same_Some, none-some}
use Rattle.wasm_syntax.specs.declared.declarations.ModuleDecl.{ModuleDecl}
use Rattle.wasm_values.specs.declared.refusals.Refusal.TheVariants as refusal
use Rattle.spec_machine.specs.Commands.{Row, Refuse, Act, ActAt, Grow, Invoke, Instantiate, row}
use Rattle.spec_machine.specs.Growth.{Rule, Grows, Fails, Asks, Plan, plan_rule}
use Rattle.spec_machine.specs.Machine.{Machine}
use Rattle.spec_machine.specs.Names.{outermost}
use Rattle.spec_machine.specs.declared.command.Command.{Command}
use Rattle.spec_machine.specs.declared.reply.Reply.{Reply}
use Rattle.spec_machine.specs.declared.reply.Reply.TheVariants.{Refused as Refusing}
use Rattle.law_store.proofs.RefusedCommandLemmas.{RepliesDone, row_done}
use Rattle.spec_execution.specs.Bodies.{exec}
use Rattle.spec_execution.specs.Checks.{by_rule}
use Rattle.spec_execution.specs.Commands.{Finish, Replied, Early, grown, by_run, invoke, call_reply, instance_reply, perform, replied}
use Rattle.spec_execution.specs.Instantiation.{imports_fit, instantiate}
use Rattle.spec_execution.specs.Outcomes.{World, State as Code, Outcome, Values, Branch, Return, Over, Trapped, Refused, Stopped}
use Rattle.spec_execution.specs.Runs.{State, world_in, behind, stopped, run, next_by}
use Rattle.spec_execution.proofs.NoTurnLemmas.{counts_raised, entry_idle, instantiate_idle, raises_counts_alone}
use Rattle.spec_execution.proofs.LaterWorldLemmas.{world_of}
use Rattle.law_code.proofs.FollowLemmas.{if_some}
use Rattle.law_code.specs.RunLaws.{StopBeforeATurn, IsBefore, StopBeforeAnyTurn}

-- the state in which the command is stopped, before its first turn
abbrev cut : State → Finish → Option State
cut u x = stopped 0 u x

-- no turn was taken
abbrev idle : State → State
idle u = record u { turns = 0 }

rule_cut : (u : State) (p : Plan Reply) (r : Rule) →
    cut u (by_rule Early (world_in 0 u) p (grown Early p replied) r) ≡ Some (idle u)
rule_cut u p Grows = refl
rule_cut u p Fails = refl
rule_cut u p Asks = refl

grow_cut : (u : State) (p : Plan Reply) →
    cut u (perform Early exec 0 (world_in 0 u) (Grow p) replied) ≡ Some (idle u)
grow_cut u p = rule_cut u p (plan_rule u.machine p)

-- of a command that runs no code
plain_cut : (u : State) (r : Row) → RepliesDone r →
    cut u (perform Early exec 0 (world_in 0 u) r replied) ≡ Some (idle u)
plain_cut u (Refuse why) h = refl
plain_cut u (Act after answer) h = refl
plain_cut u (ActAt after answer) h = refl
plain_cut u (Grow p) h = grow_cut u p
plain_cut u (Invoke c) h = absurd h
plain_cut u (Instantiate d imports) h = absurd h

and_then_map : {A B : Type 0} (f : A → Option B) (g : A → B) (o : Option A) → ((a : A) → f a ≡ Some (g a)) →
    option_and_then f o ≡ option_map g o
and_then_map f g None h = refl
and_then_map f g (Some a) h = h a

pub stop_before_a_turn : StopBeforeATurn
stop_before_a_turn modules s commands n c at h =
    ap (λ (o : Option Command). option_and_then (next_by modules stopped 0 o) (run modules s (take n commands))) at
    ∙ and_then_map (next_by modules stopped 0 (Some c)) idle (run modules s (take n commands))
    (λ u. plain_cut u (row modules u.machine (outermost u.replies) c)
    (row_done u.machine (outermost u.replies) modules c h).is)

-- ---- of any command

-- the store that it leaves, and the replies before it
record IsCut (u t : State) (m : Machine) : Type 0 where
  machine : t.machine ≡ m
  replies : t.replies ≡ u.replies

cut_here : (u t : State) (w : World) → Some (behind 0 w u.replies) ≡ Some t → IsCut u t w.machine
cut_here u t w p =
    subst (λ (x : State). IsCut u x w.machine) (same_Some _ t p) (record { machine = refl; replies = refl })

reply_cut : (u t : State) (y : Reply) (w : World) → cut u (Replied y w) ≡ Some t → IsCut u t w.machine
reply_cut u t y w p = cut_here u t w (if_some (nat_eq w.turns 0) (Some (behind 0 w u.replies)) t p)

run_cut : (u t : State) (say : Code → Reply) (o : Outcome) → cut u (by_run Early say replied o) ≡ Some t →
    IsCut u t (world_of o).machine
run_cut u t say (Values s) p = reply_cut u t (say s) s.world p
run_cut u t say (Over (Trapped why) w) p = reply_cut u t (Refusing (refusal.Trap why)) w p
run_cut u t say (Over (Refused why) w) p = reply_cut u t (Refusing why) w p
run_cut u t say (Over Stopped w) p = cut_here u t w p
run_cut u t say (Over e w) p = absurd (none-some t p)
run_cut u t say (Branch l s) p = absurd (none-some t p)
run_cut u t say (Return s) p = absurd (none-some t p)

-- a store that differs in its counts alone
counts_alone : (m x y : Machine) → x ≡ y → y ≡ record m { counts = y.counts } → x ≡ record m { counts = x.counts }
counts_alone m x y e h = subst (λ (z : Machine). z ≡ record m { counts = z.counts }) (sym e) h

before_by : (u t : State) (m : Machine) → IsCut u t m → m ≡ record u.machine { counts = m.counts } → IsBefore u t
before_by u t m c h = record { machine = counts_alone u.machine t.machine m c.machine h; replies = c.replies }

before_own : (u t : State) → Some (idle u) ≡ Some t → IsBefore u t
before_own u t p = subst (IsBefore u) (same_Some (idle u) t p) (record { machine = refl; replies = refl })

row_before : (u t : State) (r : Row) → cut u (perform Early exec 0 (world_in 0 u) r replied) ≡ Some t → IsBefore u t
row_before u t (Refuse why) p = before_own u t p
row_before u t (Act after answer) p = before_own u t p
row_before u t (ActAt after answer) p = before_own u t p
row_before u t (Grow q) p = before_own u t (sym (grow_cut u q) ∙ p)
row_before u t (Invoke c) p =
    let o : Outcome = invoke exec 0 (world_in 0 u) c in
    let same : (world_of o).machine ≡ u.machine = entry_idle 0 c.function c.arguments None (world_in 0 u) refl in
    before_by u t (world_of o).machine (run_cut u t (call_reply c) o p)
    (counts_alone u.machine (world_of o).machine u.machine same refl)
row_before u t (Instantiate d imports) p =
    let o : Outcome = instantiate exec 0 (world_in 0 u) d imports in
    let raised : Machine = counts_raised u.machine d (imports_fit u.machine d imports) in
    let same : (world_of o).machine ≡ raised =
    ap (λ (w : World). w.machine) (instantiate_idle 0 (world_in 0 u) d imports refl) in
    before_by u t (world_of o).machine (run_cut u t (instance_reply u.machine) o p)
    (counts_alone u.machine (world_of o).machine raised same
    (raises_counts_alone u.machine d (imports_fit u.machine d imports)))

next_before : (modules : List ModuleDecl) (u t : State) (o : Option Command) →
    next_by modules stopped 0 o u ≡ Some t → IsBefore u t
next_before modules u t None p = absurd (none-some t p)
next_before modules u t (Some c) p = row_before u t (row modules u.machine (outermost u.replies) c) p

pub stop_before_any_turn : StopBeforeAnyTurn
stop_before_any_turn modules s t u commands n p q =
    next_before modules u t (slice_get commands n)
    (sym (ap (option_and_then (next_by modules stopped 0 (slice_get commands n))) p) ∙ q)
