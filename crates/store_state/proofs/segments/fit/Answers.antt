use Rattle.std.proofs.Common.{◌≡◌, ℕ, ◌<◌, List, [], ◌∷◌, ◌++◌, length, take, refl, ap, ◌∙◌, arith, length-append}
use Rattle.std.proofs.lemmas.List.{length-take}
use Rattle.store_state.specs.Machine.{instances_of}
use Rattle.store_state.specs.Parts.{Names, SegmentParts, segment_parts}
use Rattle.store_state.proofs.Instances.{instances_cut, instances_more}
use Rattle.store_state.proofs.segments.fit.Goals as goal

-- a list is cut to a number of instances
cut : (ns : List Names) (n : ℕ) (ss kept : List SegmentParts) → kept ≡ take n ss → length ns ≡ n →
    instances_of ns kept ≡ instances_of ns ss
cut ns n ss kept e is = ap (instances_of ns) e ∙ instances_cut ns ss n is

pub fit-init : goal.fit-init
fit-init c = record {
  within = omega (arith, ap length c.truncate.ensures.items, length-take c.args.instances c.args.list.now.items);
  same = λ ns e. refl;
}

pub fit-preserved : goal.fit-preserved
fit-preserved c =
    let ss : List SegmentParts = c.fit.list.items in
    let few : length ss < c.args.instances = omega (arith, c.fit-test.true, c.len.ensures, c.fit.list.ok.0) in
    let pushed : c.push.new.self.items ≡ ss ++ segment_parts [] [] ∷ [] =
    cc (c.in_ok-push.ensures.items, c.new.ensures.items, c.new-in-fit.ensures.items, c.new-in-fit-2.ensures) in
    record {
      within = omega (arith, ap length pushed, length-append ss (segment_parts [] [] ∷ []), few);
      same = λ ns e.
          ap (instances_of ns) pushed
          ∙ instances_more ns ss (omega (arith, e, few))
          ∙ c.fit.invariant.same ns e;
    }

pub returns-in_err-push-clause-same : goal.returns-in_err-push-clause-same
returns-in_err-push-clause-same c = λ ns e.
    ap (instances_of ns) c.in_err-push.ensures.items
    ∙ c.fit.invariant.same ns e
    ∙ cut ns c.args.instances c.args.list.now.items c.truncate.new.self.items c.truncate.ensures.items e

pub returns-clause-same : goal.returns-clause-same
returns-clause-same c = λ ns e.
    c.fit.invariant.same ns e
    ∙ cut ns c.args.instances c.args.list.now.items c.truncate.new.self.items c.truncate.ensures.items e
