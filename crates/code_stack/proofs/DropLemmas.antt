-- Blocks are dropped, one after another.
use Rattle.std.proofs.Common.{◌≡◌, ℕ, suc, ◌+◌, ◌-◌, ◌<◌, ◌≤◌, List, [], ◌∷◌, ◌++◌, length, get_or, take, drop, refl, sym, ap, ◌∙◌, subst, arith}
use Rattle.std.proofs.lemmas.List.{drop-drop, length-reverse, take_more}
use Rattle.std.specs.Prelude.{reverse}
use Rattle.code_stack.proofs.CutLemmas.{reverse_push, reverse_rest}
use Rattle.spec_execution.specs.Outcomes.{Branch, Return}
use Rattle.wasm_objects.specs.declared.raw.RawVal.{RawVal}
use Rattle.spec_execution.specs.Outcomes.{State}
use Rattle.code_stack.specs.declared.layers.Activation.{Activation}
use Rattle.code_stack.specs.declared.layers.Label.{Label}
use Rattle.code_stack.specs.declared.layers.Layer.{Layer}
use Rattle.code_stack.specs.declared.layers.Layer.TheVariants.{Block}
use Rattle.code_stack.specs.Layers.{outwards, past, IsOutermost, HasDropped}
use Rattle.code_stack.proofs.LayerLemmas.{past_branch, past_return}

pub dropped_none : (ls : List Layer) → HasDropped 0 ls ls
dropped_none ls = record {
  branch = λ a below own l s. let e : 0 + l ≡ l = omega arith in ap (λ k. outwards a ls below own (Branch k s)) e;
  return = λ a below own s. refl;
}

pub dropped_more : (n : ℕ) (p : Label) (old mid new : List Layer) → HasDropped n old mid → mid ≡ Block p ∷ new →
    HasDropped (n + 1) old new
dropped_more n p old mid new h e =
    let one : suc n ≡ n + 1 = omega arith in
    record {
      branch = λ a below own l s.
          let k : n + 1 + l ≡ n + suc l = omega arith in
          ap (λ k. outwards a old below own (Branch k s)) k ∙ h.branch a below own (suc l) s
          ∙ ap (λ ls. past a n ls below own (Branch (suc l) s)) e ∙ past_branch a n p new below own l s
          ∙ ap (λ k. past a k new below own (Branch l s)) one;
      return = λ a below own s.
          h.return a below own s ∙ ap (λ ls. past a n ls below own (Return s)) e ∙ past_return a n p new below own s
          ∙ ap (λ k. past a k new below own (Return s)) one;
    }

-- a block more above those that were dropped
above_branch : (n : ℕ) (p : Label) (old new : List Layer) → HasDropped n old new →
    (a : Activation) (below own : List (List RawVal)) (l : ℕ) (s : State) →
    outwards a (Block p ∷ old) below own (Branch (suc (n + l)) s) ≡ past a (suc n) new below own (Branch l s)
above_branch n p old new h a [] own l s = refl
above_branch n p old new h a (ops ∷ below) own l s = h.branch a below own l s

above_return : (n : ℕ) (p : Label) (old new : List Layer) → HasDropped n old new →
    (a : Activation) (below own : List (List RawVal)) (s : State) →
    outwards a (Block p ∷ old) below own (Return s) ≡ past a (suc n) new below own (Return s)
above_return n p old new h a [] own s = refl
above_return n p old new h a (ops ∷ below) own s = h.return a below own s

pub dropped_above : (n : ℕ) (p : Label) (old new : List Layer) → HasDropped n old new →
    HasDropped (n + 1) (Block p ∷ old) new
dropped_above n p old new h =
    let one : suc n ≡ n + 1 = omega arith in
    record {
      branch = λ a below own l s.
          let k : n + 1 + l ≡ suc (n + l) = omega arith in
          ap (λ k. outwards a (Block p ∷ old) below own (Branch k s)) k ∙ above_branch n p old new h a below own l s
          ∙ ap (λ k. past a k new below own (Branch l s)) one;
      return = λ a below own s.
          above_return n p old new h a below own s ∙ ap (λ k. past a k new below own (Return s)) one;
    }

-- where none is left, no block is
pub none_left : (ls : List Layer) → length ls ≡ 0 → IsOutermost ls
none_left [] e = tt
none_left (p ∷ ls) e = absurd (cc e)

-- the layers, as they lie, the topmost last: one of them, behind those that are `passed`
module _ (items all : List Layer) (are : reverse items ≡ all) (rest passed : ℕ) (sum : rest + passed ≡ length all)
    (some : 0 < rest) (x : Layer) (here : x ≡ get_or items (rest - 1) x) (p : Label) (is : x ≡ Block p) where
  abbrev outer : List Layer
  outer = take (rest - 1) items

  long : length items ≡ length all
  long = sym (length-reverse items) ∙ ap length are

  left : drop passed all ≡ reverse (take rest items)
  left =
      let count : length items - passed ≡ rest = omega (arith, long, sum) in
      sym (ap (λ k. reverse (take k items)) (sym count) ∙ reverse_rest passed items (omega (arith, long, sum))
      ∙ ap (drop passed) are)

  front : take rest items ≡ outer ++ x ∷ []
  front =
      let one : rest ≡ rest - 1 + 1 = omega (arith, some) in
      ap (λ k. take k items) one ∙ take_more items (rest - 1) x (omega (arith, some, long, sum))
      ∙ ap (λ y. outer ++ y ∷ []) (sym here)

  top : drop passed all ≡ Block p ∷ reverse outer
  top = left ∙ reverse_push outer (take rest items) x front ∙ ap (λ y. y ∷ reverse outer) is

  next : reverse outer ≡ drop (passed + 1) all
  next = ap (drop 1) (sym top) ∙ drop-drop 1 passed all

  pub block_here : drop passed all ≡ Block p ∷ drop (passed + 1) all
  block_here = top ∙ ap (λ ls. Block p ∷ ls) next

-- a walk upwards over layers: it is at `height`, and a block stands there
module _ (items all : List Layer) (are : reverse items ≡ all) where
  pub block_above : (height outwards : ℕ) (x : Layer) (p : Label) (new : List Layer) → x ≡ get_or items height x →
      x ≡ Block p → height < length all → length all ≤ height + outwards →
      HasDropped (height + outwards - length all) (drop (length all - height) all) new →
      HasDropped (height + 1 + outwards - length all) (drop (length all - (height + 1)) all) new
  block_above height outwards x p new here is under behind d =
      let passed = length all - (height + 1) in
      let at : height ≡ height + 1 - 1 = omega arith in
      let count : height + 1 + passed ≡ length all = omega (arith, under) in
      let one : height + outwards - length all + 1 ≡ height + 1 + outwards - length all = omega (arith, behind) in
      let rest : passed + 1 ≡ length all - height = omega (arith, under) in
      let top = block_here items all are (height + 1) passed count (omega arith) x
      (here ∙ ap (λ k. get_or items k x) at) p is in
      subst (λ ls. HasDropped (height + 1 + outwards - length all) ls new)
      (sym (top ∙ ap (λ k. Block p ∷ drop k all) rest))
      (subst (λ n. HasDropped n (Block p ∷ drop (length all - height) all) new) one
      (dropped_above (height + outwards - length all) p (drop (length all - height) all) new d))

  -- at the end of the walk, which began at a block
  pub block_found : (length' height outwards : ℕ) (x : Layer) (p : Label) →
      x ≡ get_or items (length' - outwards - 1) x → x ≡ Block p → length' ≡ length all → outwards < length' →
      length' ≤ height → height ≤ length all →
      HasDropped (height + outwards - length all) (drop (length all - height) all) (drop outwards all) →
      HasDropped outwards all (Block p ∷ drop (outwards + 1) all)
  block_found length' height outwards x p here is long under ends within d =
      let rest = length' - outwards in
      let sum : rest + outwards ≡ length all = omega (arith, long, under) in
      let some : 0 < rest = omega (arith, under) in
      let dropped : height + outwards - length all ≡ outwards = omega (arith, long, ends, within) in
      let none : length all - height ≡ 0 = omega (arith, long, ends) in
      subst (HasDropped outwards all) (block_here items all are rest outwards sum some x here p is)
      (subst (λ n. HasDropped n all (drop outwards all)) dropped
      (subst (λ k. HasDropped (height + outwards - length all) (drop k all) (drop outwards all)) none d))
