-- What asked the limiter alone, or the limiter and the epoch source, is the same with more around the store.
use Rattle.std.proofs.Common.{◌≡◌, ℕ, List, [], ◌∷◌, refl, ap, subst}
use Rattle.std.specs.Prelude.{⊤, Option, Result, Ok, Err}
use Rattle.wasm_types.specs.declared.faults.OutOfMemory.{OutOfMemory as NoMemory}
use Rattle.wasm_syntax.specs.declared.declarations.ModuleDecl.{ModuleDecl}
use Rattle.spec_machine.specs.Commands.{Row, operation}
use Rattle.spec_machine.specs.Names.{Scope}
use Rattle.spec_machine.specs.declared.command.Command.{Command}
use Rattle.spec_machine.specs.declared.command.Command.TheVariants as command
use Rattle.spec_machine.specs.declared.name.Name.{Name}
use Rattle.spec_machine.specs.declared.name.Operand.{Operand}
use Rattle.spec_machine.specs.declared.operation.Op.{Op}
use Rattle.spec_machine.specs.declared.operation.Op.TheVariants.{SetEpochDeadline, Call}
use Rattle.spec_machine.specs.declared.reply.Reply.{Reply}
use Rattle.spec_execution.specs.Askings.{Question, Growing, Reading, Answer, Grown, Read, Asking, Outside, Relations, Chain}
use Rattle.spec_execution.specs.Outcomes.{World}
use Rattle.law_store.specs.Rows.{RunsNoCode, AsksLimiterAlone}
use Rattle.wasm_store.specs.Stores.{StoreParts}
use Rattle.wasm_call.specs.Alone as alone
use Rattle.wasm_call.specs.Alone.{limiter_alone, codeless}
use Rattle.wasm_call.specs.Outcomes.{Leads, AnsweredWithin, AnsweredRow, ShortWithin, CutRow, PerformedWithin, Performed, Operated}
use Rattle.wasm_call.specs.Outside.{Growths, Readings, Moving, Surrounded, surrounded, outside, typed, Hears}
use Rattle.wasm_call.specs.Runs.{Steps, Breaks}

-- an operation that is no call runs no code; and one that does not move the deadline asks nobody but the limiter
pub runs_no_code : (op : Op) →
    ((func : Name) (args : List Operand) (results : Option ℕ) → op ≡ Call func args results → ⊥) →
    RunsNoCode (command.Op op)
runs_no_code (Call func args results) h = h func args results refl
runs_no_code op h = tt

pub asks_limiter_alone : (op : Op) → RunsNoCode (command.Op op) →
    ((ticks : ℕ) → op ≡ SetEpochDeadline ticks → ⊥) → AsksLimiterAlone (command.Op op)
asks_limiter_alone (SetEpochDeadline ticks) none k = k ticks refl
asks_limiter_alone op none k = none

-- ---- where each question and answer is one of what is around, too

module _ {T H E K F : Type 0} (from : Moving T H E) (to : Moving T K F) (host : H → K) (epochs : E → F) where
  abbrev wide : Outside T H E → Outside T K F
  wide o = record { host_data = o.host_data; host = host o.host; epochs = epochs o.epochs }

  abbrev around : Surrounded T H E → Surrounded T K F
  around s = surrounded s.store (host s.host) (epochs s.epochs)

  module _ (widely : (old : Outside T H E) (q : Question) (a : Answer) (new : Outside T H E) → from old q a new →
      to (wide old) q a (wide new)) where
    chain_wide : (old : Outside T H E) (heard : List Asking) (new : Outside T H E) → Chain from old heard new →
        Chain to (wide old) heard (wide new)
    chain_wide old [] new e = ap wide e
    chain_wide old (x ∷ heard) new c = (wide c.0, widely old x.0 x.1 c.0 c.1, chain_wide c.0 heard new c.2)

    hears_wide : (old new : Surrounded T H E) (heard : List Asking) → Hears from old heard new →
        Hears to (around old) heard (around new)
    hears_wide old new heard c = chain_wide (outside old) heard (outside new) c

    -- ---- a row

    leads_wide : {O : Type 0} (command : World → O) (turns : ℕ) (old : Surrounded T H E) (ending : World → O)
        (new : Surrounded T H E) → Leads from command turns old ending new →
        Leads to command turns (around old) ending (around new)
    leads_wide command turns old ending new l = record {
      heard = l.heard;
      left = l.left;
      within = l.within;
      chained = hears_wide old new l.heard l.chained;
      ends = λ before rest. l.ends before rest;
    }

    answered_wide : (limit : ℕ) (row : Row) (old : Surrounded T H E) (reply : Reply) (new : Surrounded T H E) →
        AnsweredWithin from limit row old reply new → AnsweredWithin to limit row (around old) reply (around new)
    answered_wide limit row old reply new l = record {
      heard = l.heard;
      left = l.left;
      within = l.within;
      chained = hears_wide old new l.heard l.chained;
      ends = λ before rest. l.ends before rest;
    }

    short_wide : (limit : ℕ) (row : Row) (old new : Surrounded T H E) → ShortWithin from limit row old new →
        ShortWithin to limit row (around old) (around new)
    short_wide limit row old new s = record {
      led = record {
        heard = s.led.heard;
        left = s.led.left;
        within = s.led.within;
        chained = hears_wide old new s.led.heard s.led.chained;
        ends = λ before rest. s.led.ends before rest;
      };
      unchanged = s.unchanged;
      questions = s.questions;
      within = s.within;
    }

    cut_wide : (row : Row) (old new : Surrounded T H E) → CutRow from row old new →
        CutRow to row (around old) (around new)
    cut_wide row old new k = record {
      led = record {
        heard = k.led.heard;
        left = k.led.left;
        within = k.led.within;
        chained = hears_wide old new k.led.heard k.led.chained;
        ends = λ before rest. k.led.ends before rest;
      };
      within = k.within;
    }

    performed_wide : (limit : ℕ) (row : Row) (old : Surrounded T H E) (result : Result Reply NoMemory)
        (new : Surrounded T H E) → PerformedWithin from limit row old result new →
        PerformedWithin to limit row (around old) result (around new)
    performed_wide limit row old (Ok reply) new p = answered_wide limit row old reply new p
    performed_wide limit row old (Err none) new p = short_wide limit row old new p

    -- ---- a command

    steps_wide : (modules : List ModuleDecl) (c : Command) (old : Surrounded T H E) (replies : List Reply)
        (new : Surrounded T H E) (all : List Reply) → Steps from modules c old replies new all →
        Steps to modules c (around old) replies (around new) all
    steps_wide modules c old replies new all s = record {
      heard = s.heard;
      chained = hears_wide old new s.heard s.chained;
      ends = λ before rest. s.ends before rest;
    }

    breaks_wide : (modules : List ModuleDecl) (c : Command) (turns : ℕ) (old : Surrounded T H E) (replies : List Reply)
        (new : Surrounded T H E) (all : List Reply) → Breaks from modules c turns old replies new all →
        Breaks to modules c turns (around old) replies (around new) all
    breaks_wide modules c turns old replies new all b = record {
      stops = record {
        heard = b.stops.heard;
        chained = hears_wide old new b.stops.heard b.stops.chained;
        stop = λ before rest. b.stops.stop before rest;
      };
      questions = b.questions;
      unanswered = b.unanswered;
      told = b.told;
    }

-- ---- the epoch source beside the limiter

module _ {T E : Type 0} (growths : Growths T) (readings : Readings E) (epochs : E) where
  beside : (old : Outside T ⊤ ⊤) (q : Question) (a : Answer) (new : Outside T ⊤ ⊤) → limiter_alone growths old q a new →
      codeless growths readings (wide (limiter_alone growths) (codeless growths readings) (λ h. h) (λ e. epochs) old) q a
      (wide (limiter_alone growths) (codeless growths readings) (λ h. h) (λ e. epochs) new)
  beside old (Growing g) (Grown answer) new h =
      (h.0, h.1, ap (wide (limiter_alone growths) (codeless growths readings) (λ h. h) (λ e. epochs)) h.2)
  beside old q a new h = absurd h

  pub performed_beside : (limit : ℕ) (row : Row) (old : StoreParts T) (result : Result Reply NoMemory)
      (new : StoreParts T) → alone.PerformedWithin growths limit row old result new →
      PerformedWithin (codeless growths readings) limit row (surrounded old tt epochs) result (surrounded new tt epochs)
  performed_beside limit row old result new p =
      performed_wide (limiter_alone growths) (codeless growths readings) (λ h. h) (λ e. epochs) beside limit row
      (alone.alone old) result (alone.alone new) p

-- ---- all that a session has outside

module _ {T H E : Type 0} (r : Relations T H E) (host : H) where
  abbrev outside_all : Outside T ⊤ E → Outside T H E
  outside_all o = wide (codeless r.growths r.readings) (typed r) (λ h. host) (λ e. e) o

  among_all : (old : Outside T ⊤ E) (q : Question) (a : Answer) (new : Outside T ⊤ E) →
      codeless r.growths r.readings old q a new → typed r (outside_all old) q a (outside_all new)
  among_all old (Growing g) (Grown answer) new h = (tt, (h.0, h.1, ap outside_all h.2))
  among_all old Reading (Read answer) new h = (tt, (h.0, h.1, ap outside_all h.2))
  among_all old q a new h = absurd h

  -- an operation that runs no code, with the engine's number of turns
  operated_all : (v : Scope) (op : Op) (old : StoreParts T) (epochs : E) (result : Result Reply NoMemory)
      (new : StoreParts T) (after : E) → RunsNoCode (command.Op op) →
      Performed (codeless r.growths r.readings) (operation old.machine v op) (surrounded old tt epochs) result
      (surrounded new tt after) → Operated (typed r) v op (surrounded old host epochs) result (surrounded new host after)
  operated_all v (Call func args results) old epochs result new after plain p = absurd plain
  operated_all v op old epochs result new after plain p =
      performed_wide (codeless r.growths r.readings) (typed r) (λ h. host) (λ e. e) among_all old.machine.engine.turns
      (operation old.machine v op) (surrounded old tt epochs) result (surrounded new tt after) p

  pub operated_around : (v : Scope) (op : Op) (limit : ℕ) (old : StoreParts T) (epochs : E)
      (result : Result Reply NoMemory) (new : StoreParts T) (after : E) → RunsNoCode (command.Op op) →
      limit ≡ old.machine.engine.turns →
      PerformedWithin (codeless r.growths r.readings) limit (operation old.machine v op) (surrounded old tt epochs) result
      (surrounded new tt after) → Operated (typed r) v op (surrounded old host epochs) result (surrounded new host after)
  operated_around v op limit old epochs result new after plain most p =
      let P : ℕ → Type 0 = λ n. PerformedWithin (codeless r.growths r.readings) n (operation old.machine v op)
      (surrounded old tt epochs) result (surrounded new tt after) in
      operated_all v op old epochs result new after plain (subst P most p)

  module _ (epochs : E) where
    abbrev of_alone : Outside T ⊤ ⊤ → Outside T H E
    of_alone o = wide (limiter_alone r.growths) (typed r) (λ h. host) (λ e. epochs) o

    abbrev around_alone : StoreParts T → Surrounded T H E
    around_alone s = surrounded s host epochs

    among : (old : Outside T ⊤ ⊤) (q : Question) (a : Answer) (new : Outside T ⊤ ⊤) →
        limiter_alone r.growths old q a new → typed r (of_alone old) q a (of_alone new)
    among old (Growing g) (Grown answer) new h = (tt, (h.0, h.1, ap of_alone h.2))
    among old q a new h = absurd h

    pub answered_around : (row : Row) (old : StoreParts T) (reply : Reply) (new : StoreParts T) →
        alone.AnsweredRow r.growths row old reply new →
        AnsweredRow (typed r) row (around_alone old) reply (around_alone new)
    answered_around row old reply new l =
        answered_wide (limiter_alone r.growths) (typed r) (λ h. host) (λ e. epochs) among old.machine.engine.turns row
        (alone.alone old) reply (alone.alone new) l

    pub cut_around : (row : Row) (old new : StoreParts T) → alone.CutRow r.growths row old new →
        CutRow (typed r) row (around_alone old) (around_alone new)
    cut_around row old new k =
        cut_wide (limiter_alone r.growths) (typed r) (λ h. host) (λ e. epochs) among row (alone.alone old)
        (alone.alone new) k

    pub steps_around : (modules : List ModuleDecl) (c : Command) (old : StoreParts T) (replies : List Reply)
        (new : StoreParts T) (all : List Reply) →
        Steps (limiter_alone r.growths) modules c (alone.alone old) replies (alone.alone new) all →
        Steps (typed r) modules c (around_alone old) replies (around_alone new) all
    steps_around modules c old replies new all s =
        steps_wide (limiter_alone r.growths) (typed r) (λ h. host) (λ e. epochs) among modules c (alone.alone old)
        replies (alone.alone new) all s

    pub breaks_around : (modules : List ModuleDecl) (c : Command) (turns : ℕ) (old : StoreParts T)
        (replies : List Reply) (new : StoreParts T) (all : List Reply) →
        Breaks (limiter_alone r.growths) modules c turns (alone.alone old) replies (alone.alone new) all →
        Breaks (typed r) modules c turns (around_alone old) replies (around_alone new) all
    breaks_around modules c turns old replies new all b =
        breaks_wide (limiter_alone r.growths) (typed r) (λ h. host) (λ e. epochs) among modules c turns
        (alone.alone old) replies (alone.alone new) all b
