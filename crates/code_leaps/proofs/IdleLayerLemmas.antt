-- With no turn left nothing changes on the way outwards.
use Rattle.std.proofs.Common.{◌≡◌, ℕ, zero, suc, List, [], ◌∷◌, ◌++◌, length, take, refl, ap, ◌∙◌, Bool, true, false, Option}
use Rattle.std.specs.Prelude.{nat_eq, nat_le, cond}
use Rattle.wasm_syntax.specs.declared.instr.Instr.{Instr}
use Rattle.wasm_objects.specs.declared.raw.RawVal.{RawVal}
use Rattle.spec_execution.specs.Bodies.{with_operands, after, back, exec}
use Rattle.spec_execution.specs.Entering.{Frame, Run, leave}
use Rattle.spec_execution.specs.Outcomes.{World, state, Outcome, Values, Branch, Return, Over, Stuck}
use Rattle.spec_execution.proofs.NoTurnLemmas.{exec_idle}
use Rattle.code_stack.specs.declared.layers.Activation.{Activation}
use Rattle.code_stack.specs.declared.layers.Layer.{Layer}
use Rattle.code_stack.specs.declared.layers.Layer.TheVariants.{Block, Call}
use Rattle.code_stack.specs.Layers.{frame_of, target_of, exit_of, lost, outwards, Configuration, frame_at, state_at, means}
use Rattle.code_leaps.specs.Leading.{world_of}

-- an outcome that leaves the world as it was
abbrev Keeps : World → Outcome → Type 0
Keeps w o = world_of o ≡ w

cond_keeps : (w : World) (b : Bool) (x y : Outcome) → Keeps w x → Keeps w y → Keeps w (cond b x y)
cond_keeps w true x y hx hy = hx
cond_keeps w false x y hx hy = hy

after_keeps : (fr : Frame) (is : List Instr) (again : Option ℕ) (arity : ℕ) (below : List RawVal) (o : Outcome) →
    (world_of o).turns ≡ 0 → Keeps (world_of o) (after exec (Run fr is)
    (record { arity = arity; target = target_of fr is again }) below o)
after_keeps fr is again arity below (Values s) e = exec_idle (Run fr is) (with_operands s (s.operands ++ below)) e
after_keeps fr is again arity below (Branch zero s) e =
    cond_keeps s.world (nat_le arity (length s.operands))
    (exec (target_of fr is again) (with_operands s (take arity s.operands ++ below))) (Over Stuck s.world)
    (exec_idle (target_of fr is again) (with_operands s (take arity s.operands ++ below)) e) refl
after_keeps fr is again arity below (Branch (suc l) s) e = refl
after_keeps fr is again arity below (Return s) e = refl
after_keeps fr is again arity below (Over x w) e = refl

pub leave_keeps : (n : ℕ) (o : Outcome) → Keeps (world_of o) (leave n o)
leave_keeps n (Values s) = cond_keeps s.world (nat_eq (length s.operands) n) (Values (state s.world [] s.operands))
    (Over Stuck s.world) refl refl
leave_keeps n (Branch zero s) = cond_keeps s.world (nat_le n (length s.operands))
    (Values (state s.world [] (take n s.operands))) (Over Stuck s.world) refl refl
leave_keeps n (Branch (suc l) s) = refl
leave_keeps n (Return s) = cond_keeps s.world (nat_le n (length s.operands))
    (Values (state s.world [] (take n s.operands))) (Over Stuck s.world) refl refl
leave_keeps n (Over e w) = refl

back_keeps : (fr : Frame) (is : List Instr) (locals below : List RawVal) (o : Outcome) → (world_of o).turns ≡ 0 →
    Keeps (world_of o) (back exec (Run fr is) locals below o)
back_keeps fr is locals below (Values s) e = exec_idle (Run fr is) (state s.world locals (s.operands ++ below)) e
back_keeps fr is locals below (Branch l s) e = refl
back_keeps fr is locals below (Return s) e = refl
back_keeps fr is locals below (Over x w) e = refl

lost_keeps : (o : Outcome) → Keeps (world_of o) (lost o)
lost_keeps (Values s) = refl
lost_keeps (Branch l s) = refl
lost_keeps (Return s) = refl
lost_keeps (Over e w) = refl

outwards_keeps : (a : Activation) (ls : List Layer) (below own : List (List RawVal)) (o : Outcome) →
    (world_of o).turns ≡ 0 → Keeps (world_of o) (outwards a ls below own o)
outwards_keeps a [] [] own o e = lost_keeps o
outwards_keeps a [] (ops ∷ below) [] o e = lost_keeps o
outwards_keeps a [] (ops ∷ below) (locals ∷ own) o e = leave_keeps a.results o
outwards_keeps a (Block p ∷ ls) [] own o e = lost_keeps o
outwards_keeps a (Block p ∷ ls) (ops ∷ below) own o e =
    let x = after exec (Run (frame_of a) p.rest.now) (exit_of (frame_of a) p) ops o in
    let k : Keeps (world_of o) x = after_keeps (frame_of a) p.rest.now p.again p.arity ops o e in
    outwards_keeps a ls below own x (ap (λ w. w.turns) k ∙ e) ∙ k
outwards_keeps a (Call c ∷ ls) [] own o e = lost_keeps o
outwards_keeps a (Call c ∷ ls) (ops ∷ below) [] o e = lost_keeps o
outwards_keeps a (Call c ∷ ls) (ops ∷ below) (locals ∷ own) o e =
    let y = leave a.results o in
    let ky : Keeps (world_of o) y = leave_keeps a.results o in
    let x = back exec (Run (frame_of c.activation) c.rest.now) locals ops y in
    let kx : Keeps (world_of y) x = back_keeps (frame_of c.activation) c.rest.now locals ops y (ap (λ w. w.turns) ky
    ∙ e) in
    outwards_keeps c.activation ls below own x (ap (λ w. w.turns) (kx ∙ ky) ∙ e) ∙ kx ∙ ky

pub means_keeps : (c : Configuration) (w : World) → w.turns ≡ 0 → world_of (means c w) ≡ w
means_keeps c w e =
    let k = exec_idle (Run (frame_at c) c.code) (state_at c w) e in
    outwards_keeps c.activation c.layers c.values.below.operands c.values.below.locals
    (exec (Run (frame_at c) c.code) (state_at c w)) (ap (λ w. w.turns) k ∙ e) ∙ k
