-- Parts of a run, one after another.
use Rattle.std.proofs.Common.{inl, inr, ◌≡◌, ℕ, suc, ◌+◌, ◌<◌, List, [], ◌∷◌, ◌++◌, length, take, get_or, Option, Some, None, refl, ap, sym, ◌∙◌, subst, append_assoc, arith}
use Rattle.std.specs.Prelude.{slice_get, option_and_then, option_map, if◌then◌else◌}
use Rattle.std.proofs.lemmas.List.{append-nil, take_more}
use Rattle.std.proofs.lemmas.List.Sums.{sum_by-append}
use Rattle.std.proofs.lemmas.Option.{slice_get-get_or}
use Rattle.wasm_syntax.specs.declared.declarations.ModuleDecl.{ModuleDecl}
use Rattle.spec_machine.specs.Machine.{EngineParts}
use Rattle.spec_machine.specs.declared.command.Command.{Command}
use Rattle.spec_machine.specs.declared.reply.Reply.{Reply}
use Rattle.spec_execution.specs.Askings.{Question, Answer, Asking, answers_in, Chain}
use Rattle.spec_execution.specs.Runs.{State, stopped, exhausted, instantiates, turns_of, step, run, next_by, run_to_step, run_before, IsStop}
use Rattle.wasm_call.specs.Outside.{Moving, Surrounded, outside, turns_of_question}
use Rattle.wasm_call.specs.Runs.{state_of, Takes, Steps, Breaks}
use Rattle.wasm_session.specs.Sessions.{Runs, StopsIn}
use Rattle.wasm_session.specs.Short.{CommandShort, RunShort}

-- a chain and one that goes on from where it ended
pub chain_then : {W : Type 0} (moves : W → Question → Answer → W → Type 0) (old mid new : W)
    (first second : List Asking) → Chain moves old first mid → Chain moves mid second new →
    Chain moves old (first ++ second) new
chain_then moves old mid new [] second c d = let P : _ → Type 0 = λ x. Chain moves x second new in subst P c d
chain_then moves old mid new (asking ∷ first) second c d = (c.0, c.1, chain_then moves c.0 mid new first second c.2 d)

pub answers_then : (first second : List Asking) (rest : List Answer) → answers_in (first ++ second) ++ rest ≡ answers_in
    first ++ (answers_in second ++ rest)
answers_then [] second rest = refl
answers_then (asking ∷ first) second rest = ap (λ (answers : List Answer). asking.1 ∷ answers)
    (answers_then first second rest)

-- no part
abbrev takes_none : {T H E : Type 0} (rel : Moving T H E) (s : Surrounded T H E) (replies : List Reply) →
    Takes rel (λ x. Some x) s replies s replies
takes_none rel s replies = record {
  heard = [];
  chained = refl;
  ends = λ before rest. ap (λ (heard : List Asking). Some (state_of s.store replies heard rest))
      (sym (append-nil before));
}

-- two parts
abbrev takes_then : {T H E : Type 0} (rel : Moving T H E) (first second : State → Option State)
    (old mid new : Surrounded T H E) (replies more all : List Reply) → Takes rel first old replies mid more →
    Takes rel second mid more new all → Takes rel (λ s. option_and_then second (first s)) old replies new all
takes_then rel first second old mid new replies more all a b = record {
  heard = a.heard ++ b.heard;
  chained = chain_then rel (outside old) (outside mid) (outside new) a.heard b.heard a.chained b.chained;
  ends = λ before rest.
      ap (λ (answers : List Answer). option_and_then second (first (state_of old.store replies before answers)))
      (answers_then a.heard b.heard rest)
      ∙ ap (λ (o : Option State). option_and_then second o) (a.ends before (answers_in b.heard ++ rest))
      ∙ b.ends (before ++ a.heard) rest
      ∙ ap (λ (heard : List Asking). Some (state_of new.store all heard rest)) (append_assoc before a.heard b.heard);
}

-- another part that is equal to it
abbrev takes_as : {T H E : Type 0} (rel : Moving T H E) (part other : State → Option State)
    (old new : Surrounded T H E) (replies all : List Reply) → ((s : State) → other s ≡ part s) →
    Takes rel part old replies new all → Takes rel other old replies new all
takes_as rel part other old new replies all same a = record {
  heard = a.heard;
  chained = a.chained;
  ends = λ before rest. same (state_of old.store replies before (answers_in a.heard ++ rest)) ∙ a.ends before rest;
}

-- ---- a run is its commands one after another

and_then_on : {A B C : Type 0} (f : A → Option B) (g : B → Option C) (o : Option A) →
    option_and_then (λ a. option_and_then g (f a)) o ≡ option_and_then g (option_and_then f o)
and_then_on f g None = refl
and_then_on f g (Some a) = refl

and_then_same : {A B : Type 0} (f g : A → Option B) (o : Option A) → ((a : A) → f a ≡ g a) →
    option_and_then f o ≡ option_and_then g o
and_then_same f g None h = refl
and_then_same f g (Some a) h = h a

module _ (modules : List ModuleDecl) where
  run_append : (s : State) (first second : List Command) → run modules s (first ++ second) ≡ option_and_then
      (λ t. run modules t second) (run modules s first)
  run_append s [] second = refl
  run_append s (c ∷ first) second =
      and_then_same (λ t. run modules t (first ++ second))
      (λ t. option_and_then (λ u. run modules u second) (run modules t first)) (step modules s c)
      (λ t. run_append t first second)
      ∙ and_then_on (λ t. run modules t first) (λ u. run modules u second) (step modules s c)

  run_one : (s : State) (c : Command) → run modules s (c ∷ []) ≡ step modules s c
  run_one s c = same (step modules s c) where
    same : (o : Option State) → option_and_then (λ t. run modules t []) o ≡ o
    same None = refl
    same (Some t) = refl

  each_one : (o : Option State) (c : Command) → option_and_then (λ t. run modules t (c ∷ [])) o ≡ option_and_then
      (λ t. step modules t c) o
  each_one None c = refl
  each_one (Some t) c = run_one t c

  -- one command more of a list
  pub run_one_more : (commands : List Command) (i : ℕ) (c : Command) → i < length commands → c ≡ get_or commands i c →
      (s : State) → run modules s (take (i + 1) commands) ≡ option_and_then (λ t. step modules t c)
      (run modules s (take i commands))
  run_one_more commands i c h e s =
      ap (run modules s) (take_more commands i c h)
      ∙ run_append s (take i commands) (get_or commands i c ∷ [])
      ∙ ap (λ (x : Command). option_and_then (λ t. run modules t (x ∷ [])) (run modules s (take i commands))) (sym e)
      ∙ each_one (run modules s (take i commands)) c

  -- a stop of one command is one of a run, of which the commands before it were run
  pub stop_after : (commands : List Command) (i turns : ℕ) (c : Command) (s u t : State) → slice_get commands i ≡ Some c →
      run modules s (take i commands) ≡ Some u → turns_of u.machine ≡ turns_of s.machine → IsStop modules u (c ∷ []) 0
      turns t → IsStop modules s commands i turns t
  stop_after commands i turns c s u t there ran same (inl h) =
      inl (omega (arith, h.0, same), next_is (stopped) ∙ h.1) where
        next_is : (ended : ℕ → State → _ → Option State) →
            option_and_then (next_by modules ended turns (slice_get commands i))
            (run modules s (take i commands)) ≡ next_by modules ended turns (Some c) u
        next_is ended =
            ap (λ (o : Option Command). option_and_then (next_by modules ended turns o)
            (run modules s (take i commands))) there
            ∙ ap (option_and_then (next_by modules ended turns (Some c))) ran
  stop_after commands i turns c s u t there ran same (inr (inl h)) =
      inr (inl (omega (arith, h.0, same), next_is ∙ h.1)) where
        next_is : run_to_step modules s commands i turns ≡ run_to_step modules u (c ∷ []) 0 turns
        next_is =
            ap (λ (o : Option Command). option_and_then (next_by modules exhausted (suc turns) o)
            (run modules s (take i commands))) there
            ∙ ap (option_and_then (next_by modules exhausted (suc turns) (Some c))) ran
  stop_after commands i turns c s u t there ran same (inr (inr h)) =
      inr (inr (h.0, before_is ∙ h.1)) where
        before_is : run_before modules s commands i ≡ run_before modules u (c ∷ []) 0
        before_is =
            ap (λ (o : Option Command). if instantiates o then option_map (λ (x : State). record x { turns = 0 })
            (run modules s (take i commands)) else None) there
            ∙ ap (λ (o : Option State). if instantiates (Some c) then option_map
            (λ (x : State). record x { turns = 0 }) o else None) ran

-- ---- the first commands of a run

abbrev pub runs_none : {T H E : Type 0} (rel : Moving T H E) (modules : List ModuleDecl) (commands : List Command)
    (s : Surrounded T H E) (replies : List Reply) → Runs rel modules (take 0 commands) s replies s replies
runs_none rel modules commands s replies = takes_none rel s replies

abbrev pub runs_more : {T H E : Type 0} (rel : Moving T H E) (modules : List ModuleDecl) (commands : List Command) (i : ℕ)
    (c : Command) (old mid new : Surrounded T H E) (replies more all : List Reply) → i < length commands →
    c ≡ get_or commands i c → Runs rel modules (take i commands) old replies mid more → Steps rel modules c mid more
    new all → Runs rel modules (take (i + 1) commands) old replies new all
runs_more rel modules commands i c old mid new replies more all h e a b =
    takes_as rel (λ s. option_and_then (λ t. step modules t c) (run modules s (take i commands)))
    (λ s. run modules s (take (i + 1) commands)) old new replies all (run_one_more modules commands i c h e)
    (takes_then rel (λ s. run modules s (take i commands)) (λ s. step modules s c) old mid new replies more all a b)

-- and the next one stopped
abbrev pub runs_stop : {T H E : Type 0} (rel : Moving T H E) (modules : List ModuleDecl) (commands : List Command)
    (i turns : ℕ) (c : Command) (old mid new : Surrounded T H E) (replies more all : List Reply) →
    i < length commands → c ≡ get_or commands i c → length more ≡ length replies + i →
    mid.store.machine.engine ≡ old.store.machine.engine → Runs rel modules (take i commands) old replies mid more →
    Breaks rel modules c turns mid more new all → StopsIn rel modules commands turns old replies new all
runs_stop rel modules commands i turns c old mid new replies more all h e as_many engine a b =
    let k = b.stops in
    let there : slice_get commands i ≡ Some c = slice_get-get_or commands i c h ∙ ap (λ (x : Command). Some x)
    (sym e) in
    record {
      finished = i;
      unfinished = h;
      stops = record {
        heard = a.heard ++ k.heard;
        chained = chain_then rel (outside old) (outside mid) (outside new) a.heard k.heard a.chained k.chained;
        stop = λ before rest.
            let P : List Answer → Type 0 = λ answers. IsStop modules (state_of old.store replies before answers)
            commands i turns (state_of new.store all (before ++ (a.heard ++ k.heard)) rest) in
            let Q : List Asking → Type 0 = λ heard.
            IsStop modules (state_of old.store replies before
            (answers_in a.heard ++ (answers_in k.heard ++ rest))) commands i turns
            (state_of new.store all heard rest) in
            subst P (sym (answers_then a.heard k.heard rest)) (subst Q (append_assoc before a.heard k.heard)
            (stop_after modules commands i turns c
            (state_of old.store replies before (answers_in a.heard ++ (answers_in k.heard ++ rest)))
            (state_of mid.store more (before ++ a.heard) (answers_in k.heard ++ rest))
            (state_of new.store all ((before ++ a.heard) ++ k.heard) rest) there
            (a.ends before (answers_in k.heard ++ rest)) (ap (λ (x : EngineParts). x.turns) engine)
            (k.stop (before ++ a.heard) rest)));
      };
      questions = λ none. omega (
        arith,
        b.questions (none i c there),
        sum_by-append (λ (asking : Asking). turns_of_question asking.0) a.heard k.heard,
      );
      answered = ap length b.unanswered ∙ as_many;
      told = b.told;
    }

-- and memory ran out in it so
pub runs_short : {T H E : Type 0} (rel : Moving T H E) (modules : List ModuleDecl) (commands : List Command)
    (i turns : ℕ) (c : Command) (old mid new : Surrounded T H E) (replies more all : List Reply) →
    i < length commands → c ≡ get_or commands i c → length more ≡ length replies + i →
    Runs rel modules (take i commands) old replies mid more → Breaks rel modules c turns mid more new all →
    CommandShort rel modules more c mid new → RunShort rel modules commands old replies new all
runs_short rel modules commands i turns c old mid new replies more all h e as_many a b k =
    subst (λ (l : List Reply). RunShort rel modules commands old replies new l) (sym b.unanswered) (record {
      finished = i;
      next = c;
      is_next = slice_get-get_or commands i c h ∙ ap (λ (x : Command). Some x) (sym e);
      between = mid;
      ran = a;
      answered = as_many;
      short = k;
    })
