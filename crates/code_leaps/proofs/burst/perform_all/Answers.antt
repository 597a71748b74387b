use Rattle.std.proofs.Common.{◌≡◌, ◌≤◌, ◌<◌, ℕ, ◌+◌, ◌-◌, List, [], ◌∷◌, length, drop, reverse, refl, sym, ap, ◌∙◌, subst, arith, true, rules, w32, SFits, to_z-of_z}
use Rattle.wasm_syntax.specs.declared.instr.Instr.{Instr}
use Rattle.wasm_objects.specs.declared.raw.RawVal.{RawVal}
use Rattle.wasm_objects.specs.declared.raw.RawVal.TheVariants as w
use Rattle.store_state.specs.Parts.{ProgramParts, HeldParts}
use Rattle.code_straight.specs.Frames.{topmost, ActsIn, IsWithin, KeepsIn}
use Rattle.code_straight.specs.declared.frames.Framed.{Framed}
use Rattle.code_straight.specs.declared.frames.Framed.TheVariants as framed
use Rattle.code_leaps.specs.Bursts.{is_frequent, Surrounding, standing, behind}
use Rattle.code_stack.specs.Layers.{means}
use Rattle.code_leaps.specs.Leading.{Doing, Leads}
use Rattle.code_leaps.specs.Running.{ruled, charged}
use Rattle.code_stack.specs.declared.rules.Rules.{Rules}
use Rattle.code_leaps.specs.Triples.{Triple}
use Rattle.code_leaps.proofs.BurstLemmas.{burst_fuel, burst_none, burst_on}
use Rattle.code_leaps.proofs.TripleLemmas.{alone, puts_alone, operates_alone}
use Rattle.code_leaps.proofs.burst.perform_all.Invariants.{left}
use Rattle.code_leaps.proofs.burst.perform_all.Goals as goal
use Rattle.code_leaps.proofs.burst.perform_all.Goals.{else-burst-test, then-burst-test+then-height-operands, then-burst-test+else-height-operands+in_default+in_default-split_first, then-burst-test+else-height-operands+in_default+in-Some-split_first+in_default-perform}

-- code begins with an instruction, and what is behind it is the rest
passed : (code tail rest : List Instr) (j : Instr) → code ≡ j ∷ tail → rest ≡ drop 1 code → code ≡ j ∷ rest
passed code tail rest j e d = e ∙ ap (λ is. j ∷ is) (sym (d ∙ ap (λ is. drop 1 is) e))

-- an instruction fewer takes a turn
module _ (code rest tail : List Instr) (j : Instr) (e : rest ≡ j ∷ tail) (turns stop : ℕ)
    (stops : stop ≡ length code - turns) (more : stop < length rest) (shorter : length rest ≤ length code) where
  one : length rest ≡ length tail + 1
  one = ap length e ∙ omega arith

  shorter_on : length tail ≤ length code
  shorter_on = omega (arith, one, shorter)

  enough_on : length code - length tail ≤ turns
  enough_on = omega (arith, one, stops, more, shorter)

  some : turns - (length code - length rest) ≡ 0 → ⊥
  some is = absurd (omega (arith, is, stops, more, shorter))

  fewer : turns - (length code - length rest) - 1 ≡ turns - (length code - length tail)
  fewer = omega (arith, one, stops, more, shorter)

  moved : turns - (length code - length tail) ≡ turns → ⊥
  moved is = absurd (omega (arith, one, is, stops, more, shorter))

  module _ (program : ProgramParts) (rules : Rules) (owed : ℕ) (s : Surrounding) (due : Doing) (first : HeldParts)
      (frequent : is_frequent j ≡ true) (held held' : HeldParts) (height : ℕ) (operands locals operands' locals' : List RawVal)
      (l : Leads (ruled program rules) due (charged rules.consumes_fuel first owed) (turns - left code rest turns) []
      (means (standing s rest (topmost height operands) locals))
      (charged rules.consumes_fuel held (owed + (turns - left code rest turns)))) where
    led_on : (f : Framed) →
        ActsIn j program s.activation.instance held height operands locals f held' operands' locals' →
        KeepsIn f held held' →
        Leads (ruled program rules) due (charged rules.consumes_fuel first owed) (turns - left code tail turns) []
        (behind s tail operands' locals' f) (charged rules.consumes_fuel held' (owed + (turns - left code tail turns)))
    led_on f acts keeps =
        subst (λ n. Leads (ruled program rules) due (charged rules.consumes_fuel first owed) (turns - n) []
        (behind s tail operands' locals' f) (charged rules.consumes_fuel held' (owed + (turns - n)))) fewer
        (burst_on program rules owed s due first turns (left code rest turns) (omega arith) some rest tail j e frequent
        held held' height operands locals operands' locals' l f acts keeps)

-- three instructions at once take three turns
module _ (code rest tail : List Instr) (turns stop : ℕ) (stops : stop ≡ length code - turns)
    (within : stop + 2 < length rest) (shorter : length rest ≤ length code) (locals : List RawVal) (v : RawVal)
    (t : Triple rest locals v) (behind_is : tail ≡ drop 3 rest) where
  abbrev third_on : List Instr
  third_on = t.third ∷ tail

  abbrev second_on : List Instr
  second_on = t.second ∷ third_on

  three_is : rest ≡ t.first ∷ second_on
  three_is = t.code_is ∙ ap (λ is. t.first ∷ t.second ∷ t.third ∷ is) (sym behind_is)

  second_shorter : length second_on ≤ length code
  second_shorter = shorter_on code rest second_on t.first three_is turns stop stops (omega (arith, within)) shorter

  second_more : stop < length second_on
  second_more = omega (arith, within, one code rest second_on t.first three_is turns stop stops (omega (arith, within)) shorter)

  third_shorter : length third_on ≤ length code
  third_shorter = shorter_on code second_on third_on t.second refl turns stop stops second_more second_shorter

  third_more : stop < length third_on
  third_more = omega (
    arith,
    within,
    one code rest second_on t.first three_is turns stop stops (omega (arith, within)) shorter,
    one code second_on third_on t.second refl turns stop stops second_more second_shorter,
  )

  shorter_three : length tail ≤ length code
  shorter_three = shorter_on code third_on tail t.third refl turns stop stops third_more third_shorter

  enough_three : length code - length tail ≤ turns
  enough_three = enough_on code third_on tail t.third refl turns stop stops third_more third_shorter

  moved_three : turns - (length code - length tail) ≡ turns → ⊥
  moved_three = moved code third_on tail t.third refl turns stop stops third_more third_shorter

  fewer_three : length tail < length rest
  fewer_three = omega (
    arith,
    one code rest second_on t.first three_is turns stop stops (omega (arith, within)) shorter,
    one code second_on third_on t.second refl turns stop stops second_more second_shorter,
    one code third_on tail t.third refl turns stop stops third_more third_shorter,
  )

  module _ (program : ProgramParts) (rules : Rules) (owed : ℕ) (s : Surrounding) (due : Doing) (first held : HeldParts)
      (height : ℕ) (operands : List RawVal)
      (l : Leads (ruled program rules) due (charged rules.consumes_fuel first owed) (turns - left code rest turns) []
      (means (standing s rest (topmost height operands) locals))
      (charged rules.consumes_fuel held (owed + (turns - left code rest turns)))) where
    led_three : (height' : ℕ) (operands' : List RawVal) → topmost height' operands' ≡ v ∷ topmost height operands →
        Leads (ruled program rules) due (charged rules.consumes_fuel first owed) (turns - left code tail turns) []
        (means (standing s tail (topmost height' operands') locals))
        (charged rules.consumes_fuel held (owed + (turns - left code tail turns)))
    led_three height' operands' put =
        let instance = s.activation.instance in
        let ops = topmost height operands in
        let ops1 = t.x ∷ ops in
        let h1 = length ops1 in
        let o1 = reverse ops1 in
        let ops2 = t.y ∷ topmost h1 o1 in
        let h2 = length ops2 in
        let o2 = reverse ops2 in
        let one_more = led_on code rest second_on t.first three_is turns stop stops (omega (arith, within)) shorter program
        rules owed s due first t.first_frequent held held height operands locals o1 locals l (framed.Goes h1)
        (puts_alone program instance held locals t.first t.x t.first_puts height operands) tt in
        let two_more = led_on code second_on third_on t.second refl turns stop stops second_more second_shorter program
        rules owed s due first t.second_frequent held held h1 o1 locals o2 locals one_more (framed.Goes h2)
        (puts_alone program instance held locals t.second t.y t.second_puts h1 o1) tt in
        led_on code third_on tail t.third refl turns stop stops third_more third_shorter program
        rules owed s due first t.third_frequent held held h2 o2 locals operands' locals two_more (framed.Goes height')
        (operates_alone program instance held locals t.third t.x t.y v t.third_operates ops h2 o2
        (alone ops2 ∙ ap (λ l. t.y ∷ l) (alone ops1)) height' operands' put) tt

pub burst-init : goal.burst-init
burst-init c = record {
  shorter = omega arith;
  enough = omega arith;
  still = λ e. refl;
  height = c.requires;
  long = refl;
  many = refl;
  fuel = refl;
  leads = λ rules owed s same.
      let due = means (standing s c.args.code.now (topmost c.args.height c.args.operands.now) c.args.locals.now) in
      let all : c.args.turns ≡ c.args.turns - (length c.args.code.now - length c.args.code.now) = omega arith in
      subst (λ n. Leads (ruled c.args.program.now rules) due (charged rules.consumes_fuel c.args.held.now owed)
      (c.args.turns - n) [] due (charged rules.consumes_fuel c.args.held.now (owed + (c.args.turns - n)))) all
      (burst_none c.args.program.now rules owed due c.args.held.now c.args.turns);
}

pub burst-preserved : goal.burst-preserved
burst-preserved c =
    let code = c.args.code.now in
    let rest = c.burst.rest.now in
    let tail = c.past_first-rest.result.now in
    let e = passed rest _ tail _ c.in-Some-split_first.ensures.cases.0 c.past_first-rest.ensures in
    let stops = c.length_behind-stop.ensures in
    let more : c.length_behind-stop.result < length rest = omega (arith, c.burst-test.true) in
    let shorter = c.burst.invariant.shorter in
    record {
      shorter = shorter_on code rest tail c.in-Some-split_first.instr.now e c.args.turns c.length_behind-stop.result stops more
          shorter;
      enough = enough_on code rest tail c.in-Some-split_first.instr.now e c.args.turns c.length_behind-stop.result stops more shorter;
      still = λ is. absurd (moved code rest tail c.in-Some-split_first.instr.now e c.args.turns c.length_behind-stop.result stops more
          shorter is);
      height = subst (λ f. IsWithin f c.perform.new.operands) c.in-Goes.is c.in-Some-perform.ensures.within;
      long = c.perform.ensures.long ∙ c.burst.invariant.long;
      many = c.perform.ensures.many ∙ c.burst.invariant.many;
      fuel = burst_fuel c.args.program.now c.in-Some-split_first.instr.now c.in-Some-perform.ensures.frequent c.burst.held
          c.perform.new.held c.burst.height c.burst.operands c.burst.locals c.perform.new.operands c.perform.new.locals
          c.args.activation.now.instance c.in-Some-perform.framed c.in-Some-perform.ensures.acts c.in-Some-perform.ensures.kept
          ∙ c.burst.invariant.fuel;
      leads = λ rules owed s same.
          led_on code rest tail c.in-Some-split_first.instr.now e c.args.turns c.length_behind-stop.result stops more shorter
          c.args.program.now rules owed s
          (means (standing s code (topmost c.args.height c.args.operands.now) c.args.locals.now)) c.args.held.now
          c.in-Some-perform.ensures.frequent c.burst.held c.perform.new.held c.burst.height c.burst.operands
          c.burst.locals c.perform.new.operands c.perform.new.locals (c.burst.invariant.leads rules owed s same)
          (framed.Goes c.in-Goes.next)
          (subst (λ n. ActsIn c.in-Some-split_first.instr.now c.args.program.now n c.burst.held c.burst.height c.burst.operands
          c.burst.locals (framed.Goes c.in-Goes.next) c.perform.new.held c.perform.new.operands c.perform.new.locals)
          (sym same) (rw c.in-Goes.is at c.in-Some-perform.ensures.acts))
          (rw c.in-Goes.is at c.in-Some-perform.ensures.kept);
    }

pub burst-preserved-in-Some : goal.burst-preserved-in-Some
burst-preserved-in-Some c =
    let code = c.args.code.now in
    let rest = c.burst.rest.now in
    let tail = c.past_three-rest.result.now in
    let stop = c.length_behind-stop.result in
    let stops = c.length_behind-stop.ensures in
    let within : stop + 2 < length rest = c.in-Some.ensures.within in
    let shorter = c.burst.invariant.shorter in
    let locals = c.burst.locals in
    let v = w.I32 c.in-Some.n in
    let t = c.in-Some.ensures.does in
    let behind_is = c.past_three-rest.ensures in
    let fits : SFits w32 c.in-Some.n = search rules in
    record {
      shorter = shorter_three code rest tail c.args.turns stop stops within shorter locals v t behind_is;
      enough = enough_three code rest tail c.args.turns stop stops within shorter locals v t behind_is;
      still = λ is. absurd (moved_three code rest tail c.args.turns stop stops within shorter locals v t behind_is is);
      height = c.constant-height.ensures.height;
      long = c.constant-height.ensures.long ∙ c.burst.invariant.long;
      many = c.burst.invariant.many;
      fuel = c.burst.invariant.fuel;
      leads = λ rules owed s same.
          led_three code rest tail c.args.turns stop stops within shorter locals v t behind_is c.args.program.now rules
          owed s (means (standing s code (topmost c.args.height c.args.operands.now) c.args.locals.now))
          c.args.held.now c.burst.held c.burst.height c.burst.operands (c.burst.invariant.leads rules owed s same)
          c.constant-height.result c.constant-height.new.operands (c.constant-height.ensures.pushed
          ∙ ap (λ z. w.I32 z ∷ topmost c.burst.height c.burst.operands) (to_z-of_z fits));
    }

pub returns-in_default-framed : goal.returns-in_default-framed
returns-in_default-framed c =
    let code = c.args.code.now in
    let rest = c.burst.rest.now in
    let tail = c.past_first-tail.result.now in
    let e = passed rest _ tail _ c.in-Some-split_first.ensures.cases.0 c.past_first-tail.ensures in
    let stops = c.length_behind-stop.ensures in
    let more : c.length_behind-stop.result < length rest = omega (arith, c.burst-test.true) in
    let shorter = c.burst.invariant.shorter in
    record {
      leads = λ rules owed s same.
          let due = means (standing s code (topmost c.args.height c.args.operands.now) c.args.locals.now) in
          let f = c.in-Some-perform.framed in
          let program = c.args.program.now in
          subst (λ n. Leads (ruled program rules) due (charged rules.consumes_fuel c.args.held.now owed)
          (c.args.turns - n) [] (behind s tail c.perform.new.operands c.perform.new.locals f)
          (charged rules.consumes_fuel c.perform.new.held (owed + (c.args.turns - n)))) (sym c.turns_at_end-left.ensures)
          (led_on code rest tail c.in-Some-split_first.instr.now e c.args.turns c.length_behind-stop.result stops more shorter
          program rules owed s due c.args.held.now c.in-Some-perform.ensures.frequent c.burst.held c.perform.new.held
          c.burst.height c.burst.operands c.burst.locals c.perform.new.operands c.perform.new.locals
          (c.burst.invariant.leads rules owed s same) f
          (subst (λ n. ActsIn c.in-Some-split_first.instr.now program n c.burst.held c.burst.height c.burst.operands c.burst.locals f
          c.perform.new.held c.perform.new.operands c.perform.new.locals) (sym same) c.in-Some-perform.ensures.acts)
          c.in-Some-perform.ensures.kept);
      left = omega (arith, c.turns_at_end-left.ensures);
      still = λ is. absurd (moved code rest tail c.in-Some-split_first.instr.now e c.args.turns c.length_behind-stop.result stops more
          shorter (sym c.turns_at_end-left.ensures ∙ is));
      within = c.in-Some-perform.ensures.within;
      long = c.perform.ensures.long ∙ c.burst.invariant.long;
      many = c.perform.ensures.many ∙ c.burst.invariant.many;
      fuel = burst_fuel c.args.program.now c.in-Some-split_first.instr.now c.in-Some-perform.ensures.frequent c.burst.held
          c.perform.new.held c.burst.height c.burst.operands c.burst.locals c.perform.new.operands c.perform.new.locals
          c.args.activation.now.instance c.in-Some-perform.framed c.in-Some-perform.ensures.acts c.in-Some-perform.ensures.kept
          ∙ c.burst.invariant.fuel;
    }

-- so many turns led there, with what is the same
module _ (program : ProgramParts) (rules : Rules) (owed : ℕ) (s : Surrounding) (due : Doing) (first : HeldParts)
    (turns : ℕ) (rest : List Instr) (height : ℕ) where
  abbrev Stands : ℕ → HeldParts → List RawVal → List RawVal → Type 0
  Stands n held operands locals =
      Leads (ruled program rules) due (charged rules.consumes_fuel first owed) (turns - n) []
      (means (standing s rest (topmost height operands) locals))
      (charged rules.consumes_fuel held (owed + (turns - n)))

  stands : (n n' : ℕ) → n' ≡ n → (held held' : HeldParts) → held' ≡ held →
      (operands operands' : List RawVal) → operands' ≡ operands → (locals locals' : List RawVal) → locals' ≡ locals →
      Stands n held operands locals → Stands n' held' operands' locals'
  stands n n' left_is held held' held_is operands operands' operands_is locals locals' locals_is l =
      subst (λ k. Stands k held' operands' locals') (sym left_is)
      (subst (λ h. Stands n h operands' locals') (sym held_is)
      (subst (λ o. Stands n held o locals') (sym operands_is)
      (subst (λ k. Stands n held operands k) (sym locals_is) l)))

pub returns-clause-leads : goal.returns-clause-leads
returns-clause-leads c = λ rules owed s same.
    let held' = c.burst-test.held in
    let operands' = c.burst-test.operands in
    let locals' = c.burst-test.locals in
    let stood : held' ≡ c.burst.held → operands' ≡ c.burst.operands → locals' ≡ c.burst.locals →
    Stands c.args.program.now rules owed s
    (means (standing s c.args.code.now (topmost c.args.height c.args.operands.now) c.args.locals.now))
    c.args.held.now c.args.turns c.burst.rest.now c.burst.height c.turns_left-left.result held' operands' locals' =
    λ held_is operands_is locals_is.
    stands c.args.program.now rules owed s
    (means (standing s c.args.code.now (topmost c.args.height c.args.operands.now) c.args.locals.now))
    c.args.held.now c.args.turns c.burst.rest.now c.burst.height
    (left c.args.code.now c.burst.rest.now c.args.turns) c.turns_left-left.result c.turns_left-left.ensures
    c.burst.held held' held_is c.burst.operands operands' operands_is c.burst.locals locals' locals_is
    (c.burst.invariant.leads rules owed s same) in
    elim c.burst-test.branch [
      | else-burst-test w ↦ stood w.held-is w.operands-is w.locals-is
      | then-burst-test+then-height-operands w ↦ stood w.held-is w.operands-is w.locals-is
      | then-burst-test+else-height-operands+in_default+in_default-split_first w ↦
          stood w.held-is w.operands-is w.locals-is
      | then-burst-test+else-height-operands+in_default+in-Some-split_first+in_default-perform w ↦
          stood (w.held-is ∙ w.in_default-perform.ensures.none.0) (w.operands-is ∙ w.in_default-perform.ensures.none.1)
          (w.locals-is ∙ w.in_default-perform.ensures.none.2)
    ]
