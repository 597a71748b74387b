-- A row that was answered, or at which memory ran out, is an outermost command of a run.
use Rattle.std.proofs.Common.{inl, inr, suc, ◌≡◌, true, ℕ, ◌+◌, ◌-◌, List, [], ◌∷◌, ◌++◌, Option, Some, None, refl, ap, sym, ◌∙◌, subst, arith}
use Rattle.std.specs.Prelude.{Result, Ok, Err, IsErr, OnErr, IfOk, nat_eq, if◌then◌else◌, option_map}
use Rattle.std.proofs.lemmas.List.{append-nil}
use Rattle.std.proofs.lemmas.Option.{same_Some, none-some}
use Rattle.wasm_types.specs.declared.faults.OutOfMemory.{OutOfMemory as NoMemory}
use Rattle.wasm_types.specs.Signatures.{Signature}
use Rattle.wasm_values.specs.declared.handles.Func.{Func}
use Rattle.wasm_values.specs.declared.refusals.Refusal.{Refusal}
use Rattle.wasm_values.specs.declared.refusals.Refusal.TheVariants.{NoReply, OutOfMemory}
use Rattle.wasm_values.specs.declared.values.Val.{Val}
use Rattle.wasm_syntax.specs.declared.declarations.ModuleDecl.{ModuleDecl}
use Rattle.spec_machine.specs.Commands.{Row, Refuse, named, operation, row}
use Rattle.spec_machine.specs.Machine.{Machine}
use Rattle.spec_machine.specs.Names.{Scope, named_func, operand_values, outermost}
use Rattle.spec_machine.specs.declared.command.Command.{Command}
use Rattle.spec_machine.specs.declared.command.Command.TheVariants as command
use Rattle.spec_machine.specs.declared.name.Name.{Name}
use Rattle.spec_machine.specs.declared.name.Operand.{Operand}
use Rattle.spec_machine.specs.declared.operation.Op.{Op}
use Rattle.spec_machine.specs.declared.operation.Op.TheVariants.{Call}
use Rattle.spec_machine.specs.declared.reply.Reply.{Reply}
use Rattle.spec_machine.specs.declared.reply.Reply.TheVariants.{Refused}
use Rattle.spec_execution.specs.Askings.{Asking, answers_in}
use Rattle.spec_execution.specs.Bodies.{exec}
use Rattle.spec_execution.specs.Commands.{Finish, Replied, Early}
use Rattle.spec_execution.specs.Commands as execution
use Rattle.spec_execution.specs.Outcomes.{World, world, End, Stopped, Exhausted}
use Rattle.spec_execution.specs.Runs.{State, state, behind, finished, stopped, exhausted}
use Rattle.law_store.specs.Rows.{RunsNoCode}
use Rattle.wasm_store.specs.Stores.{StoreParts}
use Rattle.wasm_call.specs.Alone as alone
use Rattle.wasm_call.specs.Alone.{limiter_alone}
use Rattle.wasm_call.specs.Calls.{call_row, Failed}
use Rattle.wasm_call.specs.Commands.{CommandAnswered, CommandCut, IsActDue, OpShort}
use Rattle.wasm_call.specs.Outcomes.{Short, AnsweredRow, ShortRow, CutRow, LackedRow, UnfinishedRow, Performed, Called, Operated, answer_of, stop_of, lack_of}
use Rattle.wasm_call.specs.Outside.{Growths, Moving, Surrounded, surrounded, turns_heard}
use Rattle.wasm_call.specs.Room.{takes_memory, refusal_of}
use Rattle.wasm_call.specs.Runs.{state_of, Steps, Breaks}
use Rattle.wasm_call.proofs.StopLemmas.{row_idle}
use Rattle.wasm_call.proofs.Plain.{codeless, answered_engine}

abbrev pub fresh : {T H E : Type 0} → Surrounded T H E → Surrounded T H E
fresh s = surrounded (record s.store { turns = 0 }) s.host s.epochs

-- a refusal hears nothing
pub refused_row : {T H E : Type 0} (rel : Moving T H E) (row : Row) (why : Refusal) (s : Surrounded T H E) →
    row ≡ Refuse why → s.store.turns ≡ 0 → AnsweredRow rel row s (Refused why) s
refused_row {T} {H} {E} rel row why s e none =
    let m = s.store.machine in
    let all : ℕ = m.engine.turns in
    subst (λ (r : Row). AnsweredRow rel r s (Refused why) s) (sym e) (record {
      heard = [];
      left = all;
      within = omega (arith, none);
      chained = refl;
      ends = λ before rest. ap (λ (heard : List Asking). Some (Refused why, world m all heard rest))
          (sym (append-nil before));
    })

-- ---- a finished command

abbrev with_reply : ℕ → State → Reply × World → State
with_reply turns s a = behind turns a.1 (s.replies ++ a.0 ∷ [])

finished_is : (turns : ℕ) (s : State) (f : Finish) → finished turns s f ≡ option_map (with_reply turns s) (answer_of f)
finished_is turns s (Replied reply w) = refl
finished_is turns s (Early e w) = by_end e where
  by_end : (e : End) → finished turns s (Early e w) ≡ option_map (with_reply turns s) (answer_of (Early e w))
  by_end Stopped = refl
  by_end e = refl

-- the turns that were made, by those that are left
made_of : (made left turns : ℕ) → made + left ≡ turns → turns - left ≡ made
made_of made left turns e = omega (arith, e)

command_steps : {T H E : Type 0} (rel : Moving T H E) (modules : List ModuleDecl) (replies : List Reply)
    (c : Command) (reply : Reply) (old new : Surrounded T H E) →
    AnsweredRow rel (row modules old.store.machine (outermost replies) c) (fresh old) reply new →
    Steps rel modules c old replies new (replies ++ reply ∷ [])
command_steps rel modules replies c reply old new l =
    let turns = old.store.machine.engine.turns in
    let all = replies ++ reply ∷ [] in
    record {
      heard = l.heard;
      chained = l.chained;
      ends = λ before rest.
          let s = state_of old.store replies before (answers_in l.heard ++ rest) in
          finished_is turns s _
          ∙ ap (option_map (with_reply turns s)) (l.ends before rest)
          ∙ ap (λ (made : ℕ). Some (state new.store.machine made all (before ++ l.heard) rest))
          (made_of new.store.turns l.left turns l.within);
    }

pub command_answered : {T H E : Type 0} (rel : Moving T H E) (modules : List ModuleDecl) (replies : List Reply)
    (c : Command) (reply : Reply) (old mid new : Surrounded T H E) → mid ≡ fresh old →
    AnsweredRow rel (row modules mid.store.machine (outermost replies) c) mid reply new → Steps rel modules c old
    replies new (replies ++ reply ∷ [])
command_answered {T} {H} {E} rel modules replies c reply old mid new e l =
    let P : Surrounded T H E → Type 0 = λ s. AnsweredRow rel (row modules s.store.machine (outermost replies) c) s
    reply new in
    command_steps rel modules replies c reply old new (subst P e l)

-- ---- an unfinished one

stopped_by : (turns : ℕ) (s : State) (f : Finish) (w : World) → stop_of f ≡ Some w → w.turns ≡ 0 →
    stopped turns s f ≡ Some (behind turns w s.replies)
stopped_by turns s (Replied reply v) w e h =
    let same = same_Some v w e in
    ap (λ (left : ℕ). if nat_eq left 0 then Some (behind turns v s.replies) else None)
    (ap (λ (x : World). x.turns) same ∙ h)
    ∙ ap (λ (x : World). Some (behind turns x s.replies)) same
stopped_by turns s (Early e v) w p h = by_end e p where
  by_end : (e : End) → stop_of (Early e v) ≡ Some w → stopped turns s (Early e v) ≡ Some (behind turns w s.replies)
  by_end Stopped q = ap (λ (x : World). Some (behind turns x s.replies)) (same_Some v w q)
  by_end e q = absurd (none-some w q)

no_more : (made left : ℕ) → made + left ≡ made → left ≡ 0
no_more made left e = omega (arith, e)

-- a command in which memory ran out; where it runs no code each of its turns was a question
pub record IsCut {T H E : Type 0} (rel : Moving T H E) (c : Command) (r : Row)
    (old new : Surrounded T H E) : Type 0 where
  pub cut : CutRow rel r old new
  pub questions : RunsNoCode c → new.store.turns ≡ turns_heard cut.led.heard

command_breaks : {T H E : Type 0} (rel : Moving T H E) (modules : List ModuleDecl) (replies : List Reply)
    (c : Command) (old new : Surrounded T H E) → IsCut rel c (row modules old.store.machine (outermost replies) c)
    (fresh old) new → Breaks rel modules c new.store.turns old replies new replies
command_breaks rel modules replies c old new k =
    let l = k.cut.led in
    record {
      stops = record {
        heard = l.heard;
        chained = l.chained;
        stop = λ before rest.
            let s = state_of old.store replies before (answers_in l.heard ++ rest) in
            inl (
              k.cut.within,
              stopped_by new.store.turns s _ (world new.store.machine l.left (before ++ l.heard) rest)
                  (l.ends before rest) (no_more new.store.turns l.left l.within)
                  ∙ ap (λ (made : ℕ). Some (state new.store.machine made replies (before ++ l.heard) rest))
                  (made_of new.store.turns l.left new.store.turns l.within),
            );
      };
      questions = k.questions;
      unanswered = refl;
      told = refl;
    }

pub command_was_cut : {T H E : Type 0} (rel : Moving T H E) (modules : List ModuleDecl) (replies : List Reply)
    (c : Command) (old mid new : Surrounded T H E) → mid ≡ fresh old →
    IsCut rel c (row modules mid.store.machine (outermost replies) c) mid new → Breaks rel modules c new.store.turns
    old replies new replies
command_was_cut {T} {H} {E} rel modules replies c old mid new e k =
    let P : Surrounded T H E → Type 0 = λ s. IsCut rel c (row modules s.store.machine (outermost replies) c) s new in
    command_breaks rel modules replies c old new (subst P e k)

-- a command of which a step of the host had no memory
exhausted_by : (turns : ℕ) (s : State) (f : Finish) (w : World) → lack_of f ≡ Some w → w.turns ≡ 1 →
    exhausted turns s f ≡ Some (behind turns w s.replies)
exhausted_by turns s (Replied reply v) w e h = absurd (none-some w e)
exhausted_by turns s (Early e v) w p h = by_end e p where
  by_end : (e : End) → lack_of (Early e v) ≡ Some w → exhausted turns s (Early e v) ≡ Some (behind turns w s.replies)
  by_end Exhausted q =
      let same = same_Some v w q in
      ap (λ (left : ℕ). if nat_eq left 1 then Some (behind turns v s.replies) else None)
      (ap (λ (x : World). x.turns) same ∙ h)
      ∙ ap (λ (x : World). Some (behind turns x s.replies)) same
  by_end e q = absurd (none-some w q)

one_more : (made left : ℕ) → made + left ≡ suc made → left ≡ 1
one_more made left e = omega (arith, e)

command_lacks : {T H E : Type 0} (rel : Moving T H E) (modules : List ModuleDecl) (replies : List Reply)
    (c : Command) (old new : Surrounded T H E) → (RunsNoCode c → ⊥) →
    LackedRow rel (row modules old.store.machine (outermost replies) c) (fresh old) new →
    Breaks rel modules c new.store.turns old replies new replies
command_lacks rel modules replies c old new code k =
    let l = k.led in
    record {
      stops = record {
        heard = l.heard;
        chained = l.chained;
        stop = λ before rest.
            let s = state_of old.store replies before (answers_in l.heard ++ rest) in
            inr (inl (
              k.within,
              exhausted_by (suc new.store.turns) s _ (world new.store.machine l.left (before ++ l.heard) rest)
                  (l.ends before rest) (one_more new.store.turns l.left l.within)
                  ∙ ap (λ (made : ℕ). Some (state new.store.machine made replies (before ++ l.heard) rest))
                  (made_of new.store.turns l.left (suc new.store.turns) l.within),
            ));
      };
      questions = λ none. absurd (code none);
      unanswered = refl;
      told = refl;
    }

command_was_lacked : {T H E : Type 0} (rel : Moving T H E) (modules : List ModuleDecl) (replies : List Reply)
    (c : Command) (old mid new : Surrounded T H E) → mid ≡ fresh old → (RunsNoCode c → ⊥) →
    LackedRow rel (row modules mid.store.machine (outermost replies) c) mid new →
    Breaks rel modules c new.store.turns old replies new replies
command_was_lacked {T} {H} {E} rel modules replies c old mid new e code k =
    let P : Surrounded T H E → Type 0 = λ s. LackedRow rel (row modules s.store.machine (outermost replies) c) s new in
    command_lacks rel modules replies c old new code (subst P e k)

-- what was stopped at its act was cut there
short_cut : {T H E : Type 0} (rel : Moving T H E) (c : Command) (r : Row) (old new : Surrounded T H E) →
    ShortRow rel r old new → IsCut rel c r old new
short_cut rel c r old new s = record {
  cut = record {
    led = record {
      heard = s.led.heard;
      left = s.led.left;
      within = s.led.within;
      chained = s.led.chained;
      ends = λ before rest. ap stop_of (s.led.ends before rest);
    };
    within = omega (arith, s.within);
  };
  questions = λ none. s.questions;
}

-- ---- an operation

performed_answered : {T H E : Type 0} (rel : Moving T H E) (replies : List Reply) (op : Op)
    (result : Result Reply NoMemory) (old mid new : Surrounded T H E) → mid ≡ fresh old →
    Performed rel (operation mid.store.machine (outermost replies) op) mid result new →
    IfOk result (λ reply. CommandAnswered rel replies (command.Op op) old reply new)
performed_answered rel replies op (Ok reply) old mid new e p = λ modules. command_answered rel modules replies
    (command.Op op) reply old mid new e p
performed_answered rel replies op (Err none) old mid new e p = tt

called_answered : {T H E : Type 0} (rel : Moving T H E) (replies : List Reply) (op : Op)
    (result : Result Reply NoMemory) (old mid new : Surrounded T H E) → mid ≡ fresh old →
    Called rel (operation mid.store.machine (outermost replies) op) mid result new →
    IfOk result (λ reply. CommandAnswered rel replies (command.Op op) old reply new)
called_answered rel replies op (Ok reply) old mid new e p = λ modules. command_answered rel modules replies
    (command.Op op) reply old mid new e p
called_answered rel replies op (Err none) old mid new e p = tt

pub operated_answered : {T H E : Type 0} (rel : Moving T H E) (replies : List Reply) (op : Op)
    (result : Result Reply NoMemory) (old mid new : Surrounded T H E) → mid ≡ fresh old →
    Operated rel (outermost replies) op mid result new →
    IfOk result (λ reply. CommandAnswered rel replies (command.Op op) old reply new)
operated_answered rel replies (Call func args results) result old mid new e p = called_answered rel replies
    (Call func args results) result old mid new e p
operated_answered rel replies op result old mid new e p = performed_answered rel replies op result old mid new e p

performed_cut : {T H E : Type 0} (rel : Moving T H E) (replies : List Reply) (op : Op)
    (result : Result Reply NoMemory) (old mid new : Surrounded T H E) → mid ≡ fresh old →
    Performed rel (operation mid.store.machine (outermost replies) op) mid result new →
    OnErr result (CommandCut rel replies (command.Op op) old new)
performed_cut rel replies op (Ok reply) old mid new e p = tt
performed_cut rel replies op (Err none) old mid new e p = λ modules. command_was_cut rel modules replies
    (command.Op op) old mid new e (short_cut rel (command.Op op) (operation mid.store.machine (outermost replies) op)
    mid new p)

called_cut : {T H E : Type 0} (rel : Moving T H E) (replies : List Reply) (func : Name) (args : List Operand)
    (wanted : Option ℕ) (result : Result Reply NoMemory) (old mid new : Surrounded T H E) → mid ≡ fresh old →
    Called rel (operation mid.store.machine (outermost replies) (Call func args wanted)) mid result new →
    OnErr result (CommandCut rel replies (command.Op (Call func args wanted)) old new)
called_cut rel replies func args wanted (Ok reply) old mid new e p = tt
called_cut rel replies func args wanted (Err none) old mid new e p = λ modules. by_kind modules p where
  by_kind : (modules : List ModuleDecl) →
      UnfinishedRow rel (operation mid.store.machine (outermost replies) (Call func args wanted)) mid new →
      Breaks rel modules (command.Op (Call func args wanted)) new.store.turns old replies new replies
  by_kind modules (inl k) =
      command_was_cut rel modules replies (command.Op (Call func args wanted)) old mid new e
      (record { cut = k; questions = λ none. absurd none })
  by_kind modules (inr k) =
      command_was_lacked rel modules replies (command.Op (Call func args wanted)) old mid new e (λ none. none) k

pub operated_cut : {T H E : Type 0} (rel : Moving T H E) (replies : List Reply) (op : Op)
    (result : Result Reply NoMemory) (old mid new : Surrounded T H E) → mid ≡ fresh old →
    Operated rel (outermost replies) op mid result new → OnErr result (CommandCut rel replies (command.Op op) old new)
operated_cut rel replies (Call func args results) result old mid new e p = called_cut rel replies func args results
    result old mid new e p
operated_cut rel replies op result old mid new e p = performed_cut rel replies op result old mid new e p

of_fresh : {T H E : Type 0} (rel : Moving T H E) (modules : List ModuleDecl) (replies : List Reply) (op : Op)
    (old new : Surrounded T H E) → ShortRow rel (operation old.store.machine (outermost replies) op) (fresh old) new →
    Short rel (execution.command exec modules (outermost replies) (command.Op op)) old new
of_fresh rel modules replies op old new s = record {
  led = record {
    heard = s.led.heard;
    left = s.led.left;
    within = s.led.within;
    chained = s.led.chained;
    ends =
        λ before rest. s.led.ends before rest;
  };
  unchanged = s.unchanged;
  questions = s.questions;
  within = s.within;
}

op_short : {T H E : Type 0} (rel : Moving T H E) (modules : List ModuleDecl) (replies : List Reply) (op : Op)
    (old mid new : Surrounded T H E) → mid ≡ fresh old →
    ShortRow rel (operation mid.store.machine (outermost replies) op) mid new →
    Short rel (execution.command exec modules (outermost replies) (command.Op op)) old new
op_short {T} {H} {E} rel modules replies op old mid new e s =
    let P : Surrounded T H E → Type 0 = λ v. ShortRow rel (operation v.store.machine (outermost replies) op) v new in
    of_fresh rel modules replies op old new (subst P e s)

operated_due : {T H E : Type 0} (rel : Moving T H E) (replies : List Reply) (op : Op) (none : NoMemory)
    (old mid new : Surrounded T H E) → mid ≡ fresh old → Operated rel (outermost replies) op mid (Err none) new →
    IsActDue rel replies op old new
operated_due rel replies (Call func args results) none old mid new e p = tt
operated_due rel replies op none old mid new e p = λ modules. op_short rel modules replies op old mid new e p

pub operated_short : {T H E : Type 0} (rel : Moving T H E) (replies : List Reply) (op : Op)
    (result : Result Reply NoMemory) (old mid new : Surrounded T H E) → mid ≡ fresh old →
    Operated rel (outermost replies) op mid result new → OnErr result (takes_memory op ≡ true) →
    OnErr result (refusal_of (operation mid.store.machine (outermost replies) op) ≡ None) →
    OnErr result (OpShort rel replies op old new)
operated_short rel replies op (Ok reply) old mid new e p room met = tt
operated_short {T} {H} {E} rel replies op (Err none) old mid new e p room met = record {
  room = room;
  met = ap (λ (s : Surrounded T H E). refusal_of (operation s.store.machine (outermost replies) op)) (sym e) ∙ met;
  due = operated_due rel replies op none old mid new e p;
}

-- memory ran out
pub called_short : {T H E : Type 0} (rel : Moving T H E) (r : Row) (result : Result Reply NoMemory)
    (s : Surrounded T H E) → IsErr result → CutRow rel r s s → Called rel r s result s
called_short rel r (Ok reply) s e h = cc
called_short rel r (Err none) s e h = inl h

-- a call that names no function, or no values
pub call_unnamed : (m : Machine) (v : Scope) (name : Name) (args : List Operand) (wanted : Option ℕ) →
    None ≡ named_func v name → operation m v (Call name args wanted) ≡ Refuse NoReply
call_unnamed m v name args wanted e =
    ap (λ (o : Option Func). named o (λ f. named (operand_values v args) (λ vals. call_row m f vals wanted))) (sym e)

pub call_unvalued : (m : Machine) (v : Scope) (name : Name) (args : List Operand) (wanted : Option ℕ) (f : Func) →
    Some f ≡ named_func v name → None ≡ operand_values v args → operation m v (Call name args wanted) ≡ Refuse NoReply
call_unvalued m v name args wanted f e h =
    ap (λ (o : Option Func). named o (λ f. named (operand_values v args) (λ vals. call_row m f vals wanted))) (sym e)
    ∙ ap (λ (o : Option (List Val)). named o (λ vals. call_row m f vals wanted)) (sym h)

-- a call that names a function and values, and what it answers where it gives no values
pub call_named : (m : Machine) (v : Scope) (name : Name) (args : List Operand) (wanted : Option ℕ) (f : Func)
    (vals : List Val) → Some f ≡ named_func v name → Some vals ≡ operand_values v args →
    operation m v (Call name args wanted) ≡ call_row m f vals wanted
call_named m v name args wanted f vals e h =
    ap (λ (o : Option Func). named o (λ f. named (operand_values v args) (λ vals. call_row m f vals wanted))) (sym e)
    ∙ ap (λ (o : Option (List Val)). named o (λ vals. call_row m f vals wanted)) (sym h)

pub called_unmade : {T H E : Type 0} (rel : Moving T H E) (row due : Row) (why : Refusal)
    (result : Result Reply NoMemory) (old new : Surrounded T H E) → due ≡ row → OnErr result (why ≡ OutOfMemory) →
    IfOk result (λ reply. (reply ≡ Refused why) × ¬ (why ≡ OutOfMemory)) → Failed rel row old why new →
    Called rel due old result new
called_unmade {T} {H} {E} rel row due why result old new e short refused failed =
    subst (λ (r : Row). Called rel r old result new) (sym e) (by_result result short refused) where
      answered_by : (w : Refusal) → ¬ (w ≡ OutOfMemory) → Failed rel row old w new →
          AnsweredRow rel row old (Refused w) new
      answered_by OutOfMemory other k = absurd (other refl)
      answered_by w other k = k

      by_result : (x : Result Reply NoMemory) → OnErr x (why ≡ OutOfMemory) →
          IfOk x (λ reply. (reply ≡ Refused why) × ¬ (why ≡ OutOfMemory)) → Called rel row old x new
      by_result (Ok reply) h k =
          subst (λ (said : Reply). AnsweredRow rel row old said new) (sym k.0) (answered_by why k.1 failed)
      by_result (Err none) h k = subst (λ (w : Refusal). Failed rel row old w new) h failed

-- ---- with a host and a source of epochs around

pub begun_around : {T H E : Type 0} (host : H) (epochs : E) (old mid : StoreParts T) → mid ≡ record old { turns = 0 } →
    surrounded mid host epochs ≡ fresh (surrounded old host epochs)
begun_around host epochs old mid e = ap (λ (s : StoreParts _). surrounded s host epochs) e

-- ---- a function of the host, which asks nothing

abbrev fresh_store : {T : Type 0} → StoreParts T → StoreParts T
fresh_store s = record s { turns = 0 }

module _ {T : Type 0} (growths : Growths T) (ty : Signature) (body : ℕ) (stored : List Name)
    (result : Result Reply NoMemory) (old mid new : StoreParts T) (begun : mid ≡ fresh_store old) where
  abbrev it : Command
  it = command.FuncNew ty body stored

  begun_alone : alone.alone mid ≡ fresh (alone.alone old)
  begun_alone = ap alone.alone begun

  pub func_engine : (v : Scope) →
      IfOk result (λ reply. alone.AnsweredRow growths (row [] mid.machine v it) mid reply new) →
      OnErr result (new ≡ mid) → new.machine.engine ≡ old.machine.engine
  func_engine v p short = by_result result p short ∙ ap (λ (s : StoreParts T). s.machine.engine) begun where
    by_result : (x : Result Reply NoMemory) →
        IfOk x (λ reply. alone.AnsweredRow growths (row [] mid.machine v it) mid reply new) → OnErr x (new ≡ mid) →
        new.machine.engine ≡ mid.machine.engine
    by_result (Ok reply) p short = answered_engine growths _ [] v it mid new reply tt p
    by_result (Err none) p short = ap (λ (s : StoreParts T). s.machine.engine) short

  module _ (replies : List Reply) where
    pub answered_all : IfOk result (λ reply.
        alone.AnsweredRow growths (row [] mid.machine (outermost replies) it) mid reply new) →
        IfOk result (λ reply. alone.CommandAnswered growths replies it old reply new)
    answered_all p = by_result result p where
      by_result : (x : Result Reply NoMemory) →
          IfOk x (λ reply. alone.AnsweredRow growths (row [] mid.machine (outermost replies) it) mid reply new) →
          IfOk x (λ reply. alone.CommandAnswered growths replies it old reply new)
      by_result (Ok reply) p = λ modules.
          command_answered (limiter_alone growths) modules replies it reply (alone.alone old) (alone.alone mid)
          (alone.alone new) begun_alone p
      by_result (Err none) p = tt

    -- it was not made, for want of memory
    func_cut : (modules : List ModuleDecl) → new ≡ mid →
        Breaks (limiter_alone growths) modules it new.turns (alone.alone old) replies (alone.alone new) replies
    func_cut modules same =
        let none : mid.turns ≡ 0 = ap (λ (s : StoreParts T). s.turns) begun in
        let P : StoreParts T → Type 0 = λ s.
        Breaks (limiter_alone growths) modules it s.turns (alone.alone old) replies (alone.alone s) replies in
        let idle = row_idle growths mid none (row modules mid.machine (outermost replies) it)
        (codeless modules mid.machine (outermost replies) it tt) in
        subst P (sym same)
        (command_was_cut (limiter_alone growths) modules replies it (alone.alone old) (alone.alone mid)
        (alone.alone mid)
        begun_alone (record { cut = idle.cut; questions = λ plain. idle.questions }))

    pub func_cut_on : OnErr result (new ≡ mid) → OnErr result (alone.CommandCut growths replies it old new)
    func_cut_on h = by_result result h where
      by_result : (x : Result Reply NoMemory) → OnErr x (new ≡ mid) →
          OnErr x (alone.CommandCut growths replies it old new)
      by_result (Ok reply) h = tt
      by_result (Err none) h = λ modules. func_cut modules h
