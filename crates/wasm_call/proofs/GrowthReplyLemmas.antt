-- The reply of a row that grows.
use Rattle.std.proofs.Common.{◌≡◌, ℕ, ◌+◌, ◌<◌, refl, ap, sym, ◌∙◌, subst}
use Rattle.std.specs.Prelude.{Result, Ok, Err}
use Rattle.wasm_types.specs.declared.faults.OutOfMemory.{OutOfMemory as NoMemory}
use Rattle.wasm_values.specs.declared.refusals.Refusal.{Refusal}
use Rattle.spec_machine.specs.Commands.{Grow, grows}
use Rattle.spec_machine.specs.Growth.{Plan, plan}
use Rattle.spec_machine.specs.Machine.{Machine}
use Rattle.spec_machine.specs.declared.reply.Reply.{Reply}
use Rattle.spec_machine.specs.declared.reply.Reply.TheVariants.{Refused}
use Rattle.store_state.specs.Growing.{plan_says, due_says, IsDue, Acts}
use Rattle.store_state.specs.declared.growth.GrowthRule.{GrowthRule}
use Rattle.wasm_store.specs.Stores.{StoreParts, KeepsRest}
use Rattle.wasm_call.specs.Growths.{Begun}
use Rattle.wasm_call.specs.Alone.{AnsweredWithin, ShortWithin}
use Rattle.wasm_call.specs.Outside.{Growths}
use Rattle.wasm_call.proofs.ReplyLemmas.{refused_row}

-- what `begin` says of a growth that it let come to its act, and of one that it answered
abbrev pub Begin : {T : Type 0} → Growths T → ℕ → GrowthRule → StoreParts T → StoreParts T → Type 0
Begin growths limit rule old mid = (p : Plan Reply) → rule ≡ plan_says old.machine p → Begun growths limit p old mid

abbrev pub EndsAt : {T : Type 0} → Growths T → ℕ → GrowthRule → StoreParts T → Reply → StoreParts T → Type 0
EndsAt growths limit rule old reply new = (p : Plan Reply) → rule ≡ plan_says old.machine p → AnsweredWithin growths limit (Grow p)
    old reply new

-- the plan with the reply
abbrev saying : {A : Type 0} → (A → Reply) → Plan A → Plan Reply
saying say p = plan p.range p.growth p.after (say p.gives)

-- a growth that is refused by a condition
pub growth_refused : {T A : Type 0} (growths : Growths T) (limit : ℕ) (say : A → Reply) (due : Result (Plan A) Refusal)
    (why : Refusal) (old : StoreParts T) → Err why ≡ due_says old.machine due → old.turns ≡ 0 →
    AnsweredWithin growths limit (grows say due) old (Refused why) old
growth_refused {T} growths limit say (Ok p) why old e fresh = cc
growth_refused {T} growths limit say (Err cause) why old e fresh =
    let same : why ≡ cause = cc in
    let P : Refusal → Type 0 = λ w. AnsweredWithin growths limit (grows say (Err cause)) old (Refused w) old in
    subst P (sym same) (refused_row growths limit (grows say (Err cause)) cause old refl fresh)

-- one that was answered before its act
pub growth_answered : {T A : Type 0} (growths : Growths T) (limit : ℕ) (say : A → Reply) (due : Result (Plan A) Refusal)
    (rule : GrowthRule) (reply : Reply) (old new : StoreParts T) → Ok rule ≡ due_says old.machine due →
    EndsAt growths limit rule old reply new → AnsweredWithin growths limit (grows say due) old reply new
growth_answered growths limit say (Ok p) rule reply old new e ends = let same : rule ≡ plan_says old.machine p =
    cc in ends (saying say p) same
growth_answered growths limit say (Err why) rule reply old new e ends = cc

-- one that came to its act: it is granted, and nothing changed
begun_granted : {T A : Type 0} (growths : Growths T) (limit : ℕ) (say : A → Reply) (due : Result (Plan A) Refusal)
    (rule : GrowthRule) (old mid : StoreParts T) → Ok rule ≡ due_says old.machine due → Begin growths limit rule old mid →
    IsDue old.machine due
begun_granted growths limit say (Ok p) rule old mid e begins = let same : rule ≡ plan_says old.machine p =
    cc in (begins (saying say p) same).granted
begun_granted growths limit say (Err why) rule old mid e begins = cc

begun_unchanged : {T A : Type 0} (growths : Growths T) (limit : ℕ) (say : A → Reply) (due : Result (Plan A) Refusal)
    (rule : GrowthRule) (old mid : StoreParts T) → Ok rule ≡ due_says old.machine due → Begin growths limit rule old mid →
    mid.machine ≡ old.machine
begun_unchanged growths limit say (Ok p) rule old mid e begins = let same : rule ≡ plan_says old.machine p =
    cc in (begins (saying say p) same).unchanged
begun_unchanged growths limit say (Err why) rule old mid e begins = cc

begun_turns : {T A : Type 0} (growths : Growths T) (limit : ℕ) (say : A → Reply) (due : Result (Plan A) Refusal)
    (rule : GrowthRule) (old mid : StoreParts T) → Ok rule ≡ due_says old.machine due → Begin growths limit rule old mid →
    mid.turns < 2
begun_turns growths limit say (Ok p) rule old mid e begins = let same : rule ≡ plan_says old.machine p =
    cc in (begins (saying say p) same).turns
begun_turns growths limit say (Err why) rule old mid e begins = cc

pub growth_granted : {T A : Type 0} (growths : Growths T) (limit : ℕ) (say : A → Reply) (due : Machine → Result (Plan A) Refusal)
    (rule : GrowthRule) (old mid : StoreParts T) → Ok rule ≡ due_says old.machine (due old.machine) →
    Begin growths limit rule old mid → IsDue mid.machine (due mid.machine)
growth_granted growths limit say due rule old mid e begins =
    let P : Machine → Type 0 = λ m. IsDue m (due m) in
    subst P (sym (begun_unchanged growths limit say (due old.machine) rule old mid e begins))
    (begun_granted growths limit say (due old.machine) rule old mid e begins)

pub growth_turns : {T A : Type 0} (growths : Growths T) (limit : ℕ) (say : A → Reply) (due : Result (Plan A) Refusal)
    (rule : GrowthRule) (old mid after : StoreParts T) → Ok rule ≡ due_says old.machine due →
    Begin growths limit rule old mid → KeepsRest mid after → after.turns < 2
growth_turns growths limit say due rule old mid after e begins rest =
    let P : ℕ → Type 0 = λ n. n < 2 in
    subst P (sym (ap (λ (s : StoreParts _). s.turns) rest)) (begun_turns growths limit say due rule old mid e begins)

-- memory ran out in the act
short_by : {T A : Type 0} (growths : Growths T) (limit : ℕ) (say : A → Reply) (due : Result (Plan A) Refusal) (rule : GrowthRule)
    (old mid : StoreParts T) → Ok rule ≡ due_says old.machine due → Begin growths limit rule old mid →
    ShortWithin growths limit (grows say due) old mid
short_by growths limit say (Ok p) rule old mid e begins = let same : rule ≡ plan_says old.machine p =
    cc in (begins (saying say p) same).stops
short_by growths limit say (Err why) rule old mid e begins = cc

acted_not : {A : Type 0} (due : Result (Plan A) Refusal) (m : Machine) (granted : IsDue m due) (none : NoMemory)
    (after : Machine) → Acts due m (Err none) after → after ≡ m
acted_not (Ok p) m granted none after acts = acts p refl
acted_not (Err why) m granted none after acts = absurd granted

pub growth_short : {T A : Type 0} (growths : Growths T) (limit : ℕ) (say : A → Reply) (due : Machine → Result (Plan A) Refusal)
    (rule : GrowthRule) (none : NoMemory) (old mid after : StoreParts T) → Ok rule ≡ due_says old.machine
    (due old.machine) → Begin growths limit rule old mid → Acts (due mid.machine) mid.machine (Err none) after.machine →
    KeepsRest mid after → ShortWithin growths limit (grows say (due old.machine)) old after
growth_short {T} growths limit say due rule none old mid after e begins acts rest =
    let same = acted_not (due mid.machine) mid.machine (growth_granted growths limit say due rule old mid e begins) none
    after.machine acts in
    let all : after ≡ mid = rest ∙ ap (λ (m : Machine). record mid { machine = m }) same in
    let P : StoreParts T → Type 0 = λ s. ShortWithin growths limit (grows say (due old.machine)) old s in
    subst P (sym all) (short_by growths limit say (due old.machine) rule old mid e begins)

-- the act was made
grown_by : {T A : Type 0} (growths : Growths T) (limit : ℕ) (say : A → Reply) (due : Result (Plan A) Refusal) (rule : GrowthRule)
    (a : A) (old mid after new : StoreParts T) → Ok rule ≡ due_says old.machine due → Begin growths limit rule old mid →
    Acts due old.machine (Ok a) after.machine → KeepsRest mid after → new ≡ record after { turns = after.turns + 1 } →
    AnsweredWithin growths limit (grows say due) old (say a) new
grown_by {T} growths limit say (Ok p) rule a old mid after new e begins acts rest counted =
    let same : rule ≡ plan_says old.machine p = cc in
    let gave = acts p refl in
    let P : Reply → Type 0 = λ r. AnsweredWithin growths limit (Grow (saying say p)) old r new in
    let turns = ap (λ (s : StoreParts T). s.turns + 1) rest in
    subst P (ap say (sym gave.0)) ((begins (saying say p) same).acts new
    (ap (λ (s : StoreParts T). s.machine) counted ∙ gave.1)
    (ap (λ (s : StoreParts T). s.turns) counted ∙ turns)
    (ap (λ (s : StoreParts T). s.host_data) counted ∙ ap (λ (s : StoreParts T). s.host_data) rest))
grown_by growths limit say (Err why) rule a old mid after new e begins acts rest counted = cc

pub growth_acted : {T A : Type 0} (growths : Growths T) (limit : ℕ) (say : A → Reply) (due : Machine → Result (Plan A) Refusal)
    (rule : GrowthRule) (a : A) (old mid after new : StoreParts T) → Ok rule ≡ due_says old.machine
    (due old.machine) → Begin growths limit rule old mid → Acts (due mid.machine) mid.machine (Ok a) after.machine →
    KeepsRest mid after → new ≡ record after { turns = after.turns + 1 } →
    AnsweredWithin growths limit (grows say (due old.machine)) old (say a) new
growth_acted {T} {A} growths limit say due rule a old mid after new e begins acts rest counted =
    let P : Machine → Type 0 = λ m. Acts (due m) m (Ok a) after.machine in
    let same = begun_unchanged growths limit say (due old.machine) rule old mid e begins in
    grown_by growths limit say (due old.machine) rule a old mid after new e begins (subst P same acts) rest counted
