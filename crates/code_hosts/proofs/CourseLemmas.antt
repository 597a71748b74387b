-- A call whose loop is open: from one part of it to the next, to its end, and past its borders.
use Rattle.std.proofs.Common.{◌≡◌, ℕ, ◌+◌, ◌-◌, ◌≤◌, Bool, true, false, List, [], ◌∷◌, ◌++◌, refl, sym, subst, inl, inr, arith}
use Rattle.std.specs.Global.{Global}
use Rattle.std.specs.Prelude.{Vec}
use Rattle.wasm_meter.specs.declared.call_hook.CallHook.TheVariants as event
use Rattle.spec_execution.specs.Askings.{Question, Answer, Asking, Chain}
use Rattle.spec_execution.specs.Checks.{pass_behind}
use Rattle.store_state.specs.Parts.{HeldParts}
use Rattle.code_leaps.specs.Leading.{Doing, Setting, Leads}
use Rattle.code_leaps.specs.Turns.{Passes as Led}
use Rattle.code_leaps.proofs.PartLemmas.{chain_on, halts_on, leads_on, leads_within}
use Rattle.code_run.specs.Asking.{Moving}
use Rattle.code_run.proofs.Runs.{passes_none}
use Rattle.code_hosts.specs.Behind.{Passes}
use Rattle.code_hosts.specs.Conditions.{StaysFormed}
use Rattle.code_hosts.specs.Courses.{due_in, called_in, IfStands, MayStand, stage_of, StagesBy, Goes, GoesBehind, LacksBehind}
use Rattle.code_hosts.specs.Entering.{returned}
use Rattle.code_hosts.specs.Replies.{Comes, RepliesBy, is_told}
use Rattle.code_hosts.specs.Rounds.{IsLast, RoundBy, Rounds, Lacks}
use Rattle.code_hosts.specs.States.{due_of}
use Rattle.code_hosts.specs.declared.courses.Course.{Course}
use Rattle.code_hosts.specs.declared.courses.Stage.{Stage}
use Rattle.code_hosts.specs.declared.courses.Stage.TheVariants as stage
use Rattle.code_hosts.specs.declared.courses.Staged.{Staged}
use Rattle.code_hosts.specs.declared.replies.How.{How}
use Rattle.code_hosts.specs.declared.replies.How.TheVariants as how
use Rattle.code_hosts.specs.declared.replies.Reply.{Reply}
use Rattle.code_hosts.specs.declared.rounds.Lack.{Lack}
use Rattle.code_hosts.specs.declared.rounds.Round.{Round}
use Rattle.code_hosts.specs.declared.rounds.Round.TheVariants as round
use Rattle.code_hosts.specs.declared.states.Open.{Open}
use Rattle.code_hosts.specs.declared.states.Waiting.{Waiting}
use Rattle.code_hosts.proofs.GoingLemmas.{halts_here}
use Rattle.code_hosts.proofs.HostedLemmas.{reply, comes_behind, comes_untold, halts_behind, replies_by}

abbrev pub staged : Stage → ℕ → Staged
staged stage turns = record { stage = stage; turns = turns }

-- ---- a part of a call, as a stage of it

module _ {H : Type 0} (g : Setting H) (due : Doing) (h : H) (left spent : ℕ) (heard : List Asking) (h' : H) where
  ends_by : (k : How) → RoundBy g due h left spent heard [] h' (round.Ends k) → RepliesBy g due h left spent heard h' k
  ends_by (how.Returned v) l = l.0
  ends_by (how.Trapped t) l = l.0
  ends_by (how.Refused why) l = l.0
  ends_by how.Stuck l = l.0
  ends_by how.TurnLimit l = absurd l.1

  pub stages_by : (around : Vec Waiting Global) (r : Round) → IsLast r around.items →
      RoundBy g due h left spent heard around.items h' r →
      StagesBy g due due_in h left spent heard h' (stage_of r around)
  stages_by around (round.Goes now) last l = l
  stages_by around (round.Ends k) last l =
      ends_by k (subst (λ (a : List Waiting). RoundBy g due h left spent heard a h' (round.Ends k)) last l)
  stages_by around round.Limit last l = l

-- ---- where it stands, and its end

module _ {H W : Type 0} (g : Setting H) (moves : W → Question → Answer → W → Type 0) (due : Doing) (h : H) (o : W)
    (left : ℕ) where
  pub goes_standing : (made : ℕ) (c : Course) (h1 : H) (o1 : W) → made ≤ left →
      Led g moves due h o made (due_in c) h1 o1 → Goes g moves due due_in h o left (staged (stage.Stands c) made) h1 o1
  goes_standing made c h1 o1 within p =
      record { within = within; heard = p.heard; chain = p.chain; by = p.leads }

  module _ (next : Course → Doing) where
    pub goes_ended : (k : How) (n : ℕ) (h1 : H) (o1 : W) → Comes g moves due h o left (reply k n) h1 o1 →
        Goes g moves due next h o left (staged (stage.Ends k) n) h1 o1
    goes_ended k n h1 o1 x = record { within = x.within; heard = x.heard; chain = x.chain; by = x.replies }

    pub comes_ended : (k : How) (n : ℕ) (h1 : H) (o1 : W) →
        Goes g moves due next h o left (staged (stage.Ends k) n) h1 o1 → Comes g moves due h o left (reply k n) h1 o1
    comes_ended k n h1 o1 x = record { within = x.within; heard = x.heard; chain = x.chain; replies = x.by }

    pub goes_as : (s : Staged) (h1 : H) (o1 : W) → Goes g moves due next h o left s h1 o1 → (k : Stage) → s.stage ≡ k →
        Goes g moves due next h o left (staged k s.turns) h1 o1
    goes_as s h1 o1 x k e = record {
      within = x.within;
      heard = x.heard;
      chain = x.chain;
      by = subst (λ (k : Stage). StagesBy g due next h left s.turns x.heard h1 k) e x.by;
    }

-- ---- behind a part that leads to it

module _ {H W : Type 0} (g : Setting H) (moves : W → Question → Answer → W → Type 0) (due mid : Doing) (h h1 : H)
    (o o1 : W) (left n : ℕ) (heard : List Asking) (within : n ≤ left) (chain : Chain moves o heard o1)
    (first : Leads g due h n heard mid h1) (next : Course → Doing) where
  stages_on : (m : ℕ) (heard' : List Asking) (h2 : H) (k : Stage) →
      StagesBy g mid next h1 (left - n) m heard' h2 k → StagesBy g due next h left (n + m) (heard ++ heard') h2 k
  stages_on m heard' h2 (stage.Stands c) l = leads_on g due mid h h1 n heard first m heard' (next c) h2 l
  stages_on m heard' h2 (stage.Ends k) l =
      replies_by g moves due mid h h1 o o1 left n heard within chain first m heard' h2 k l

  pub goes_after : (s : Staged) (h2 : H) (o2 : W) → Goes g moves mid next h1 o1 (left - n) s h2 o2 →
      Goes g moves due next h o left (staged s.stage (n + s.turns)) h2 o2
  goes_after s h2 o2 x = record {
    within = omega (arith, within, x.within);
    heard = heard ++ x.heard;
    chain = chain_on moves o o1 o2 heard x.heard chain x.chain;
    by = stages_on s.turns x.heard h2 s.stage x.by;
  }

-- ---- behind an answer that came from elsewhere, where what is outside lets it pass

module _ {H W : Type 0} (g : Setting H) (moves : W → Question → Answer → W → Type 0) (due : Doing) (first : Asking)
    (h : H) (o : W) (left : ℕ) (passes : moves o first.0 first.1 o) (h1 : H) (o1 : W) where
  pub goes_heard : (next : Course → Doing) (s : Staged) → GoesBehind g moves due first next h o left s h1 o1 →
      Goes g moves due next h o left s h1 o1
  goes_heard next s x =
      record { within = x.within; heard = first ∷ x.more; chain = (o, passes, x.chain); by = x.by }

  pub lacks_heard : (n : ℕ) (k : Lack) → LacksBehind g moves due first h o left n k h1 o1 →
      Lacks g moves due h o left n k h1 o1
  lacks_heard n k x =
      record { within = x.within; heard = first ∷ x.more; chain = (o, passes, x.chain); by = x.by }

-- ---- the border behind it

module _ {H W : Type 0} (g : Setting H) (moves : W → Question → Answer → W → Type 0) (due : Doing) (h : H) (o : W)
    (left : ℕ) (h1 : H) where
  -- its function was entered
  pub goes_entered : (n : ℕ) (now : Open) (around : Vec Waiting Global) (o1 : W) → around.items ≡ [] →
      Rounds g moves due h o left n (round.Goes now) [] h1 o1 →
      Goes g moves (returned due) called_in h o left
      (staged (stage.Stands (record { at_work = now; around = around })) n) h1 o1
  goes_entered n now around o1 e x = record {
    within = x.within;
    heard = x.heard;
    chain = x.chain;
    by =
        leads_within g (pass_behind event.ReturningFromWasm) due h n x.heard h1 (due_of now around.items)
        (subst (λ (a : List Waiting). Leads g due h n x.heard (due_of now a) h1) (sym e) x.by);
  }

  -- it ended, and the border was passed
  module _ (k : How) (n : ℕ) (o1 : W) (x : Comes g moves due h o left (reply k n) h1 o1) (p : Reply) (o2 : W)
      (told : is_told k ≡ true → Passes g moves event.ReturningFromWasm k h1 o1 (left - n) p o2)
      (untold : is_told k ≡ false → (p.how ≡ k) × (p.turns ≡ 0) × (o2 ≡ o1)) where
    abbrev Left : Reply → W → Type 0
    Left r o' = Comes g moves (returned due) h o left r h1 o'

    left_by : (b : Bool) → is_told k ≡ b → Left (reply p.how (n + p.turns)) o2
    left_by true e = comes_behind g moves due h o left h1 (reply k n) e o1 x p o2 (told e)
    left_by false e =
        let u = untold e in
        let turns : n ≡ n + p.turns = omega (arith, u.1) in
        subst (λ (z : W). Left (reply p.how (n + p.turns)) z) (sym u.2)
        (subst (λ (m : ℕ). Left (reply p.how m) o1) turns
        (subst (λ (y : How). Left (reply y n) o1) (sym u.0)
        (comes_untold g moves due h o left h1 (reply k n) o1 e x)))

    pub comes_left : Left (reply p.how (n + p.turns)) o2
    comes_left = left_by (is_told k) refl

-- ---- wherever it may stop the store is well formed

module _ {W : Type 0} (g : Setting HeldParts) (moves : Moving W) (formed : HeldParts → Type 0) where
  -- behind a part that leads on
  pub stays_on : (due mid : Doing) (h h1 : HeldParts) (o o1 : W) (left n : ℕ) (heard : List Asking) → n ≤ left →
      Chain moves o heard o1 → Leads g due h n heard mid h1 → StaysFormed moves o g due h left formed →
      StaysFormed moves o1 g mid h1 (left - n) formed
  stays_on due mid h h1 o o1 left n heard within chain l kept = λ m heard' h2 o2 le chain' halts.
      kept (n + m) (heard ++ heard') h2 o2 (omega (arith, le, within))
      (chain_on moves o o1 o2 heard heard' chain chain')
      (halts_on g due mid h h1 n heard l m heard' h2 halts)

  -- before the border behind it
  pub stays_within : (due : Doing) (h : HeldParts) (o : W) (left : ℕ) →
      StaysFormed moves o g (returned due) h left formed → StaysFormed moves o g due h left formed
  stays_within due h o left kept = λ n heard h1 o1 le chain halts.
      kept n heard h1 o1 le chain (halts_behind g moves due h o left h1 n heard halts)

  -- where it stands
  pub formed_here : (c : Course) (h : HeldParts) (o : W) (left : ℕ) →
      StaysFormed moves o g (due_in c) h left formed → formed h
  formed_here c h o left kept =
      let p = passes_none g moves (due_in c) h o in
      kept 0 p.heard h o (omega arith) p.chain
      (halts_here g moves (due_in c) h o left 0 c.at_work c.around.items h o p)

  -- and from there on
  pub stays_standing : (due : Doing) (next : Course → Doing) (h h1 : HeldParts) (o o1 : W) (left n : ℕ) (c : Course) →
      Goes g moves due next h o left (staged (stage.Stands c) n) h1 o1 → StaysFormed moves o g due h left formed →
      StaysFormed moves o1 g (next c) h1 (left - n) formed
  stays_standing due next h h1 o o1 left n c x kept =
      stays_on due (next c) h h1 o o1 left n x.heard x.within x.chain x.by kept

-- ---- no slice ends before the call

module _ (left made : ℕ) (within : made ≤ left) (few : left ≤ 1000000000) (now : Open) where
  late : MayStand 18446744073709551615 false now made → ⊥
  late (inl x) = omega (arith, within, few, x.0)
  late (inr x) = absurd (cc x.0)

pub never_stands : (left : ℕ) (s : Staged) → s.turns ≤ left → left ≤ 1000000000 → (c : Course) →
    s.stage ≡ stage.Stands c → IfStands s.stage (λ c. MayStand 18446744073709551615 false c.at_work s.turns) → ⊥
never_stands left s within few c e x =
    late left s.turns within few c.at_work
    (subst (λ (k : Stage). IfStands k (λ c. MayStand 18446744073709551615 false c.at_work s.turns)) e x)
