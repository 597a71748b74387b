-- The growths that are due of a memory and of a table.
use Rattle.std.proofs.Common.{◌≡◌, ℕ, refl, sym, ap, ◌∙◌, subst, Bool, List}
use Rattle.wasm_syntax.specs.declared.instr.Instr.TheVariants as i
use Rattle.wasm_objects.specs.declared.raw.RawVal.{RawVal}
use Rattle.spec_machine.specs.Growth.{growth_rule, memory_range, memory_growing, table_range, table_growing}
use Rattle.spec_machine.specs.Machine.{Machine}
use Rattle.spec_execution.specs.Bodies.{memory_grow, table_grow, exec}
use Rattle.spec_execution.specs.Outcomes.{World, Over, Stuck}
use Rattle.store_state.specs.Machine.{run_machine}
use Rattle.store_state.specs.Parts.{ProgramParts, HeldParts}
use Rattle.code_straight.specs.Growing.{memory_plan, table_plan, FitsNone, DueMemory, DueTable}
use Rattle.store_state.specs.Growing.{says}
use Rattle.store_state.specs.declared.growth.GrowthRule.{GrowthRule}
use Rattle.code_straight.specs.declared.growing.MemoryGrowth.{MemoryGrowth}
use Rattle.code_straight.specs.declared.growing.TableGrowth.{TableGrowth}
use Rattle.code_run.specs.Growths.{rule_in, before_in, IsGrowth, plan_in, grown_by, FitsNoGrowth, Due}
use Rattle.code_stack.specs.Layers.{Configuration, frame_at, owing}
use Rattle.code_leaps.specs.Running.{IsRuled}
use Rattle.code_stack.specs.declared.rules.Rules.{Rules}
use Rattle.code_run.specs.Spinning.{growth_instr}
use Rattle.code_leaps.specs.Turns.{passing}
use Rattle.code_run.specs.declared.growths.Growth.{Growth}
use Rattle.code_run.specs.declared.growths.Growth.TheVariants as growth
use Rattle.code_run.specs.declared.spins.Growing.{Growing}
use Rattle.code_run.specs.declared.spins.Growing.TheVariants as growing
use Rattle.code_run.proofs.GrowthTurnLemmas.{IsDue}
use Rattle.code_stack.proofs.LayerLemmas.{owing_over}

module _ (program : ProgramParts) (rules : Rules) (c : Configuration) (h : HeldParts)
  where
    -- operands that do not fit
    memory_sticks : (k : ℕ) → FitsNone memory_grow program h c.activation.instance k c.values.operands → (base : Machine) →
        IsRuled rules base → (w : World) → w.machine ≡ run_machine base program h →
        passing c (i.MemoryGrow k) w ≡ Over Stuck w
    memory_sticks k d base b w e =
        owing_over c _ Stuck w (d base exec (frame_at c) c.code w c.values.locals refl e)

    table_sticks : (k : ℕ) → FitsNone table_grow program h c.activation.instance k c.values.operands → (base : Machine) →
        IsRuled rules base → (w : World) → w.machine ≡ run_machine base program h →
        passing c (i.TableGrow k) w ≡ Over Stuck w
    table_sticks k d base b w e =
        owing_over c _ Stuck w (d base exec (frame_at c) c.code w c.values.locals refl e)

    memory_due : (k : ℕ) (rest : List RawVal) (x : MemoryGrowth)
        (d : DueMemory program h c.activation.instance k rules.limited c.values.operands x rest) →
        IsDue program rules c (i.MemoryGrow k) h rest (λ m. memory_plan m d.0 x) x.rule
    memory_due k rest x d = record {
      due = λ base b w e.
          ap (λ o. owing c o) (d.2 base exec (frame_at c) c.code w c.values.locals refl e);
      ruled = λ base b.
          let asked = memory_growing d.0.ty x.before x.delta in
          ap (λ l. says (growth_rule l (memory_range d.0.ty) asked) asked) b.limited_is ∙ sym d.1.rule;
    }

    table_due : (k : ℕ) (rest : List RawVal) (x : TableGrowth)
        (d : DueTable program h c.activation.instance k rules.limited c.values.operands x rest) →
        IsDue program rules c (i.TableGrow k) h rest (λ m. table_plan m d.0 x) x.rule
    table_due k rest x d = record {
      due = λ base b w e.
          ap (λ o. owing c o) (d.2 base exec (frame_at c) c.code w c.values.locals refl e);
      ruled = λ base b.
          let asked = table_growing d.0.ty x.before x.delta in
          ap (λ l. says (growth_rule l table_range asked) asked) b.limited_is ∙ sym d.1.rule;
    }

    -- of either kind
    pub growth_sticks : (x : Growing) → FitsNoGrowth x program h c.activation.instance c.values.operands → (base : Machine) →
        IsRuled rules base → (w : World) → w.machine ≡ run_machine base program h →
        passing c (growth_instr x) w ≡ Over Stuck w
    growth_sticks (growing.Memory k) d = memory_sticks k d
    growth_sticks (growing.Table k) d = table_sticks k d

    pub object_of : (x : Growing) (g : Growth) (rest : List RawVal) →
        Due x program h c.activation.instance rules.limited c.values.operands g rest → IsGrowth h rules.limited g
    object_of (growing.Memory k) (growth.Memory g) rest d = (d.0, d.1)
    object_of (growing.Memory k) (growth.Table g) rest d = absurd d
    object_of (growing.Table k) (growth.Table g) rest d = (d.0, d.1)
    object_of (growing.Table k) (growth.Memory g) rest d = absurd d

    ruled_as : (x : Growing) (g : Growth) (rest : List RawVal)
        (d : Due x program h c.activation.instance rules.limited c.values.operands g rest) →
        IsDue program rules c (growth_instr x) h rest (plan_in h rules.limited g (object_of x g rest d)) (rule_in g)
    unfolding object_of
    ruled_as (growing.Memory k) (growth.Memory g) rest d = memory_due k rest g d
    ruled_as (growing.Memory k) (growth.Table g) rest d = absurd d
    ruled_as (growing.Table k) (growth.Table g) rest d = table_due k rest g d
    ruled_as (growing.Table k) (growth.Memory g) rest d = absurd d

    pub growth_due : (x : Growing) (g : Growth) (rest : List RawVal)
        (d : Due x program h c.activation.instance rules.limited c.values.operands g rest) (rule : GrowthRule) →
        rule ≡ rule_in g →
        IsDue program rules c (growth_instr x) h rest (plan_in h rules.limited g (object_of x g rest d)) rule
    growth_due x g rest d rule e =
        subst (λ (r : GrowthRule). IsDue program rules c (growth_instr x) h rest
        (plan_in h rules.limited g (object_of x g rest d)) r) (sym e) (ruled_as x g rest d)

-- what it leaves, and what it gives
pub plan_after : (program : ProgramParts) (h : HeldParts) (limited : Bool) (g : Growth) (x : IsGrowth h limited g)
    (base : Machine) →
    (plan_in h limited g x (run_machine base program h)).after ≡ run_machine base program (grown_by h limited g x)
plan_after program h limited (growth.Memory g) x base = refl
plan_after program h limited (growth.Table g) x base = refl

pub plan_gives : (h : HeldParts) (limited : Bool) (g : Growth) (x : IsGrowth h limited g) (m : Machine) →
    (plan_in h limited g x m).gives ≡ before_in g
plan_gives h limited (growth.Memory g) x m = refl
plan_gives h limited (growth.Table g) x m = refl

pub grown_fuel : (h : HeldParts) (limited : Bool) (g : Growth) (x : IsGrowth h limited g) →
    (grown_by h limited g x).fuel ≡ h.fuel
grown_fuel h limited (growth.Memory g) x = refl
grown_fuel h limited (growth.Table g) x = refl
