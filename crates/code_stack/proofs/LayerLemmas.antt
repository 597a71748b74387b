-- What goes outwards through blocks and calls, and what is kept on the way.
use Rattle.std.proofs.Common.{◌≡◌, ℕ, zero, suc, List, [], ◌∷◌, drop, refl, ap, ◌∙◌}
use Rattle.wasm_objects.specs.declared.raw.RawVal.{RawVal}
use Rattle.spec_execution.specs.Outcomes.{World, State, Outcome, Branch, Return, Over, End, Stuck}
use Rattle.code_stack.specs.declared.layers.Activation.{Activation}
use Rattle.code_stack.specs.declared.layers.Label.{Label}
use Rattle.code_stack.specs.declared.layers.Layer.{Layer}
use Rattle.code_stack.specs.declared.layers.Layer.TheVariants.{Block, Call}
use Rattle.code_stack.specs.Layers.{lost, outwards, past, Configuration, owing}

-- what ends early goes through all
pub outwards_over : (a : Activation) (ls : List Layer) (below own : List (List RawVal)) (e : End) (w : World) →
    outwards a ls below own (Over e w) ≡ Over e w
outwards_over a [] [] own e w = refl
outwards_over a [] (ops ∷ below) [] e w = refl
outwards_over a [] (ops ∷ below) (locals ∷ own) e w = refl
outwards_over a (Block p ∷ ls) [] own e w = refl
outwards_over a (Block p ∷ ls) (ops ∷ below) own e w = outwards_over a ls below own e w
outwards_over a (Call c ∷ ls) [] own e w = refl
outwards_over a (Call c ∷ ls) (ops ∷ below) [] e w = refl
outwards_over a (Call c ∷ ls) (ops ∷ below) (locals ∷ own) e w = outwards_over c.activation ls below own e w

pub owing_over : (c : Configuration) (o : Outcome) (e : End) (w : World) → o ≡ Over e w → owing c o ≡ Over e w
owing_over c o e w is =
    ap (λ o. owing c o) is ∙ outwards_over c.activation c.layers c.values.below.operands c.values.below.locals e w

-- ---- past blocks

pub past_branch : (a : Activation) (n : ℕ) (p : Label) (ls : List Layer) (below own : List (List RawVal)) (l : ℕ)
    (s : State) →
    past a n (Block p ∷ ls) below own (Branch (suc l) s) ≡ past a (suc n) ls below own (Branch l s)
past_branch a zero p ls [] own l s = refl
past_branch a zero p ls (ops ∷ below) own l s = refl
past_branch a (suc n) p ls [] own l s = refl
past_branch a (suc n) p ls (ops ∷ below) own l s = past_branch a n p ls below own l s

pub past_return : (a : Activation) (n : ℕ) (p : Label) (ls : List Layer) (below own : List (List RawVal)) (s : State) →
    past a n (Block p ∷ ls) below own (Return s) ≡ past a (suc n) ls below own (Return s)
past_return a zero p ls [] own s = refl
past_return a zero p ls (ops ∷ below) own s = refl
past_return a (suc n) p ls [] own s = refl
past_return a (suc n) p ls (ops ∷ below) own s = past_return a n p ls below own s

pub past_found : (a : Activation) (n : ℕ) (ls : List Layer) (below own : List (List RawVal)) (ops : List RawVal)
    (further : List (List RawVal)) (o : Outcome) →
    drop n below ≡ ops ∷ further → past a n ls below own o ≡ outwards a ls (ops ∷ further) own o
past_found a zero ls below own ops further o e = ap (λ b. outwards a ls b own o) e
past_found a (suc n) ls [] own ops further o e = absurd (cc e)
past_found a (suc n) ls (x ∷ below) own ops further o e = past_found a n ls below own ops further o e

outwards_none : (a : Activation) (ls : List Layer) (own : List (List RawVal)) (o : Outcome) →
    outwards a ls [] own o ≡ lost o
outwards_none a [] own o = refl
outwards_none a (Block p ∷ ls) own o = refl
outwards_none a (Call c ∷ ls) own o = refl

pub past_none : (a : Activation) (n : ℕ) (ls : List Layer) (below own : List (List RawVal)) (o : Outcome) →
    drop n below ≡ [] → past a n ls below own o ≡ lost o
past_none a zero ls below own o e = ap (λ b. outwards a ls b own o) e ∙ outwards_none a ls own o
past_none a (suc n) ls [] own o e = refl
past_none a (suc n) ls (x ∷ below) own o e = past_none a n ls below own o e

-- what is lost in any case
pub past_stuck : (a : Activation) (n : ℕ) (ls : List Layer) (below own : List (List RawVal)) (o : Outcome) (w : World)
    → lost o ≡ Over Stuck w →
    ((ops : List RawVal) (further : List (List RawVal)) → outwards a ls (ops ∷ further) own o ≡ Over Stuck w) →
    past a n ls below own o ≡ Over Stuck w
past_stuck a zero ls [] own o w e h = outwards_none a ls own o ∙ e
past_stuck a zero ls (ops ∷ below) own o w e h = h ops below
past_stuck a (suc n) ls [] own o w e h = e
past_stuck a (suc n) ls (ops ∷ below) own o w e h = past_stuck a n ls below own o w e h
