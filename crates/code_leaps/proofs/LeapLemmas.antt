-- Instructions that lead to other code of the function at work, and ends of blocks and functions.
use Rattle.std.proofs.Common.{◌≡◌, ℕ, zero, suc, ◌+◌, ◌-◌, ◌≤◌, List, [], ◌∷◌, ◌++◌, length, take, drop, Option, Some, None, Bool, true, refl, sym, ap, ◌∙◌, subst, arith, length-append}
use Rattle.std.proofs.lemmas.Bool.{ne_eqb}
use Rattle.std.proofs.lemmas.List.{reverse-append, reverse-reverse, length-reverse, length-take-le, take-take, drop-take, append-nil}
use Rattle.std.proofs.Math.Seq.{take-append_seam, take-append-add, take-length}
use Rattle.std.specs.Prelude.{IfSome, map, reverse, cond, option_and_then, slice_get, ◌==◌}
use Rattle.wasm_syntax.specs.declared.instr.Instr.{Instr}
use Rattle.wasm_syntax.specs.declared.instr.Instr.TheVariants as i
use Rattle.wasm_objects.specs.Tables.{Table}
use Rattle.wasm_objects.specs.declared.raw.RawVal.{RawVal}
use Rattle.spec_execution.specs.Bodies.{stuck, with_operands, block, branch_if, target, exec}
use Rattle.spec_execution.specs.Checks.{check}
use Rattle.spec_execution.specs.Entering.{Frame, Run}
use Rattle.spec_execution.specs.Operands as on
use Rattle.spec_execution.specs.Outcomes.{World, State, state, Outcome, Branch}
use Rattle.store_state.specs.Parts.{ProgramParts}
use Rattle.code_stack.specs.Cuts.{RowParts, row_parts, HasJoined, HasMerged}
use Rattle.code_stack.specs.Reading.{TakesI32}
use Rattle.code_stack.specs.Values.{below, HasOpened, HasClosed, HasFinished, HasLeft}
use Rattle.code_stack.proofs.CutLemmas.{reverse_last, reverse_rest}
use Rattle.code_stack.proofs.TopmostLemmas.{opened, closed}
use Rattle.code_straight.specs.Frames.{topmost}
use Rattle.code_stack.specs.Layers.{HasDropped, IsOutermost, frame_of, frame_at, state_at, owing, means}
use Rattle.code_leaps.specs.Leaps.{placed, placed_values, aiming, Aims, Ends, EndsBlock, Reaches, Begins, LeapsTo}
use Rattle.code_leaps.specs.Rounds.{Lets}
use Rattle.code_stack.specs.Steps.{HasCalled, Opens}
use Rattle.code_stack.specs.declared.layers.Activation.{Activation}
use Rattle.code_stack.specs.declared.layers.Caller.{Caller}
use Rattle.code_stack.specs.declared.layers.Label.{Label}
use Rattle.code_stack.specs.declared.layers.Layer.{Layer}
use Rattle.code_stack.specs.declared.layers.Layer.TheVariants as layer
use Rattle.code_stack.specs.declared.layers.Opening.{Opening}
use Rattle.code_leaps.specs.declared.leaps.Aim.{Aim}
use Rattle.code_leaps.specs.declared.leaps.Aim.TheVariants as aim
use Rattle.code_leaps.specs.declared.rounds.Hop.{Hop}
use Rattle.code_leaps.proofs.OperandLemmas.{i32_takes}
use Rattle.code_leaps.proofs.FunctionEndLemmas.{end_returns, returns}
use Rattle.code_leaps.proofs.Labels.{entered, closes, block_enters, loop_enters, run_inner, branch_out}

-- ---- a row whose last segment has room behind what counts

-- the last segment joined with that before it
pub finished : (row row' : RowParts) (further : List (List RawVal)) (locals : List RawVal) (height h : ℕ) →
    HasMerged row row' → h ≡ length row'.last - length row.last + height →
    HasFinished (placed_values row further height locals) (placed_values row' further h locals)
finished row row' further locals height h m is =
    let long : length row'.last ≡ length m.outer + length row.last =
    ap length m.last ∙ length-append m.outer row.last in
    let count : h ≡ length m.outer + height = omega (arith, is, long) in
    record {
      outer = reverse m.outer;
      further = map reverse row'.before;
      around = ap (map reverse) m.before;
      operands = ap (λ n. topmost n row'.last) count ∙ ap (topmost (length m.outer + height)) m.last
          ∙ ap reverse (take-append-add m.outer row.last height)
          ∙ reverse-append m.outer (take height row.last);
      below = refl;
      locals = refl;
    }

module _ (row row' : RowParts) (further : List (List RawVal)) (locals : List RawVal) (height count : ℕ)
    (le : height ≤ length row.last) (enough : count ≤ height) where
  abbrev counted : List RawVal
  counted = take height row.last

  abbrev own : RowParts
  own = row_parts locals further 0

  long : length counted ≡ height
  long = length-take-le height row.last le

  -- the topmost of what counts made a segment of its own
  pub opened_at : (kept room : ℕ) → kept ≡ height - count →
      row' ≡ row_parts (drop kept row.last) (take kept row.last ∷ row.before) room →
      HasOpened count (placed_values row further height locals) (placed_values row' further count locals)
  opened_at kept room is e =
      let k = length counted - count in
      let same : kept ≡ k = omega (arith, is, long) in
      let all : k + count ≡ height = omega (arith, long, enough) in
      let last : topmost count row'.last ≡ reverse (drop k counted) =
      ap (λ (r : RowParts). topmost count r.last) e ∙ ap (λ m. topmost count (drop m row.last)) same
      ∙ ap reverse (sym (drop-take k count row.last)) ∙ ap (λ m. reverse (drop k (take m row.last))) all in
      let front : take k row.last ≡ take k counted = sym (take-take k height row.last (omega (arith, long))) in
      let before : map reverse row'.before ≡ reverse (take k counted) ∷ map reverse row.before =
      ap (λ (r : RowParts). map reverse r.before) e
      ∙ ap (λ m. reverse (take m row.last) ∷ map reverse row.before) same
      ∙ ap (λ l. reverse l ∷ map reverse row.before) front in
      let o = opened (row_parts counted row.before 0) (row_parts (drop k counted) (take k counted ∷ row.before) 0) own
      count (omega (arith, long, enough)) refl in
      record {
        enough = o.enough;
        operands = last ∙ o.operands;
        below = ap (λ b. below b further) before ∙ o.below;
        locals = refl;
      }

-- what counts moved to the end of a segment before, with room behind it
module _ (row joined filled : RowParts) (further : List (List RawVal)) (locals : List RawVal) (height skipped arity : ℕ)
    (le : height ≤ length row.last) (enough : arity ≤ height) (room : ℕ)
    (j : HasJoined skipped arity (row_parts (take height row.last) row.before room) joined) (spare : List RawVal)
    (f : filled ≡ row_parts (joined.last ++ spare) joined.before 0) where
  pub closed_at : HasClosed skipped arity (placed_values row further height locals)
      (placed_values filled further (length joined.last) locals)
  closed_at =
      let x = closed (row_parts (take height row.last) row.before room) joined (row_parts locals further 0) skipped arity
      (omega (arith, length-take-le height row.last le, enough)) j in
      let top : topmost (length joined.last) filled.last ≡ reverse joined.last =
      ap (λ (r : RowParts). topmost (length joined.last) r.last) f
      ∙ ap reverse (take-append_seam joined.last spare) in
      record {
        enough = x.enough;
        outer = x.outer;
        further = x.further;
        around = x.around;
        operands = top ∙ x.operands;
        below = ap (λ (r : RowParts). below (map reverse r.before) further) f ∙ x.below;
        locals = refl;
      }

-- the topmost of what counts made the first locals of an inner frame
module _ (row row' own own' : RowParts) (height count : ℕ) (le : height ≤ length row.last) (enough : count ≤ height)
  where
    pub entered_at : (begun : List RawVal) (kept room : ℕ) → kept ≡ height - count →
        row' ≡ row_parts (drop kept row.last) (take kept row.last ∷ row.before) room →
        own'.last ≡ take count row'.last ++ begun → own'.before ≡ own.last ∷ own.before →
        HasCalled count begun (placed_values row own.before height own.last)
        (placed_values row' own'.before 0 own'.last)
    entered_at begun kept room is e args callers =
        let counted = take height row.last in
        let long : length counted ≡ height = length-take-le height row.last le in
        let k = length counted - count in
        let same : kept ≡ k = omega (arith, is, long) in
        let all : k + count ≡ height = omega (arith, long, enough) in
        let within : count ≤ length counted = omega (arith, long, enough) in
        let outer : reverse (take kept row.last) ≡ drop count (reverse counted) =
        ap (λ m. reverse (take m row.last)) same
        ∙ ap reverse (sym (take-take k height row.last (omega (arith, long))))
        ∙ reverse_rest count counted within in
        let inner : take count row'.last ≡ reverse (take count (reverse counted)) =
        ap (λ (r : RowParts). take count r.last) e ∙ ap (λ m. take count (drop m row.last)) same
        ∙ sym (drop-take k count row.last) ∙ ap (λ m. drop k (take m row.last)) all
        ∙ sym (reverse-reverse (drop k counted)) ∙ ap reverse (reverse_last count counted within) in
        record {
          operands = refl;
          below = ap (λ (r : RowParts). below (map reverse r.before) own'.before) e
              ∙ ap (λ ops. below (ops ∷ map reverse row.before) own'.before) outer
              ∙ ap (λ l. below (drop count (reverse counted) ∷ map reverse row.before) l) callers;
          locals = args ∙ ap (λ xs. xs ++ begun) inner;
        }

-- ---- ends of blocks

module _ (ls ls' : List Layer) (row row' : RowParts) (height : ℕ) where
  pub ends : (p : Label) (h : Hop) → ls ≡ layer.Block p ∷ ls' → HasMerged row row' → h.code.now ≡ p.rest.now →
      h.height ≡ length row'.last - length row.last + height → EndsBlock ls row height ls' row' h
  ends p h el m code is = λ a further locals w.
      closes (placed a ls row further [] height locals) p ls' (placed_values row' further h.height locals) w el refl
      (finished row row' further locals height h.height m is)
      ∙ ap (λ is. means (placed a ls' row' further is h.height locals) w) (sym code)

-- the same with the locals of the function, which stay
pub ended_block : (a : Activation) (ls ls' : List Layer) (row row' own : RowParts) (height : ℕ) (h : Hop) →
    EndsBlock ls row height ls' row' h → Ends a ls row own height a ls' row' own h
ended_block a ls ls' row row' own height h e = λ w. e a own.before own.last w

-- ---- ends of functions

module _ (a : Activation) (ls ls' : List Layer) (row row' own kept own' : RowParts) (height room : ℕ)
    (le : height ≤ length row.last) (n : height ≡ a.results) where
  pub ended_function : (c : Caller) (h : Hop) → ls ≡ layer.Call c ∷ ls' → HasMerged row row' →
      kept ≡ row_parts [] own.before room → HasMerged kept own' → h.code.now ≡ c.rest.now →
      h.height ≡ length row'.last - length row.last + height → Ends a ls row own height c.activation ls' row' own' h
  ended_function c h el m kept_is l code is = λ w.
      let old = placed a ls row own.before [] height own.last in
      let f = finished row row' own.before own.last height h.height m is in
      let results : length (topmost height row.last) ≡ a.results =
      length-reverse (take height row.last) ∙ length-take-le height row.last le ∙ n in
      let all : take a.results (topmost height row.last) ≡ topmost height row.last =
      ap (λ k. take k (topmost height row.last)) (sym results) ∙ take-length (topmost height row.last) in
      let last : own'.last ≡ l.outer =
      l.last ∙ ap (λ (r : RowParts). l.outer ++ r.last) kept_is ∙ append-nil l.outer in
      let callers : own.before ≡ own'.last ∷ own'.before =
      sym (ap (λ (r : RowParts). r.before) kept_is) ∙ l.before ∙ ap (λ xs. xs ∷ own'.before) (sym last) in
      let left : HasLeft 0 a.results old.values (placed_values row' own'.before h.height own'.last) = record {
        enough = omega (arith, results);
        outer = f.outer;
        further = f.further;
        around = f.around;
        frames = own'.before;
        callers = callers;
        operands = f.operands ∙ ap (λ xs. xs ++ f.outer) (sym all);
        below = ap (λ b. below b.operands own'.before) f.below;
      } in
      end_returns old w refl (subst (λ ls. IsOutermost ls) (sym el) tt) results
      ∙ returns a ls old.values 0 w (placed_values row' own'.before h.height own'.last) left c ls' el
      ∙ ap (λ is. means (placed c.activation ls' row' own'.before is h.height own'.last) w) (sym code)

-- ---- where instructions lead

module _ (a : Activation) (rest : List Instr) (ls ls' : List Layer) (row row' : RowParts) (height : ℕ) (p : Label)
    (h : Hop) where
  module _ (b : ℕ) (o : Opening) (x : Opens (frame_of a) b o) (label : p.rest.now ≡ rest)
      (layers : ls' ≡ layer.Block p ∷ ls)
      (opens : (further : List (List RawVal)) (locals : List RawVal) →
      HasOpened o.params (placed_values row further height locals) (placed_values row' further o.params locals))
      (code : h.code.now ≡ o.code.now) (top : h.height ≡ o.params) where
    there : (further : List (List RawVal)) (locals : List RawVal) →
        entered (placed a ls row further rest height locals) p o.code.now (placed_values row' further o.params locals)
        ≡ placed a ls' row' further h.code.now h.height locals
    there further locals =
        ap (λ ls. placed a ls row' further o.code.now o.params locals) (sym layers)
        ∙ ap (λ is. placed a ls' row' further is o.params locals) (sym code)
        ∙ ap (λ n. placed a ls' row' further h.code.now n locals) (sym top)

    pub block_reaches : p.arity ≡ o.results → p.again ≡ None → Reaches (aim.Block b) a rest ls row height ls' row' h
    block_reaches arity again = λ further locals w.
        block_enters (placed a ls row further rest height locals) b w o x p (placed_values row' further o.params locals)
        label (opens further locals) arity again
        ∙ ap (λ c. means c w) (there further locals)

    pub loop_begins : p.arity ≡ o.params → p.again ≡ Some b → Begins b a rest ls row height ls' row' h
    loop_begins arity again = λ further locals w.
        let c = placed a ls row further rest height locals in
        loop_enters c b w o x p (placed_values row' further o.params locals)
        label (opens further locals) (λ body. exec (Run (frame_at c) body.instrs)) arity again (run_inner c b w o x)
        ∙ ap (λ c. check w (means c)) (there further locals)

  pub branch_reaches : (l : ℕ) (rest_of : List Layer) → HasDropped l ls (layer.Block p ∷ rest_of) → ls' ≡ rest_of →
      p.again ≡ None →
      ((further : List (List RawVal)) (locals : List RawVal) → HasClosed l p.arity
      (placed_values row further height locals) (placed_values row' further h.height locals)) →
      h.code.now ≡ p.rest.now → Reaches (aim.Branch l) a rest ls row height ls' row' h
  branch_reaches l outer d layers again closes_by code = λ further locals w.
      let c = placed a ls row further rest height locals in
      let z : l ≡ l + 0 = omega arith in
      ap (λ l. owing c (Branch l (state_at c w))) z
      ∙ d.branch a c.values.below.operands c.values.below.locals 0 (state_at c w)
      ∙ branch_out a p outer c.values l w (placed_values row' further h.height locals) (closes_by further locals) again
      ∙ ap (λ ls. means (placed a ls row' further p.rest.now h.height locals) w) (sym layers)
      ∙ ap (λ is. means (placed a ls' row' further is h.height locals) w) (sym code)

-- ---- the instruction

module _ (fr : Frame) (j : Instr) (operands : List RawVal) where
  pub aims_block : (b : ℕ) → j ≡ i.Block b → Aims fr j operands (aim.Block b) operands
  aims_block b e = subst (λ j. Aims fr j operands (aim.Block b) operands) (sym e)
      (record { quiet = tt; leads = λ rest locals w. refl })

  pub aims_loop : (b : ℕ) → j ≡ i.Loop b → Aims fr j operands (aim.Loop b) operands
  aims_loop b e = subst (λ j. Aims fr j operands (aim.Loop b) operands) (sym e)
      (record { quiet = tt; leads = λ rest locals w. refl })

  pub aims_br : (l : ℕ) → j ≡ i.Br l → Aims fr j operands (aim.Branch l) operands
  aims_br l e = subst (λ j. Aims fr j operands (aim.Branch l) operands) (sym e)
      (record { quiet = tt; leads = λ rest locals w. refl })

  module _ (n : ℕ) (left : List RawVal) (t : TakesI32 operands n left) where
    pub aims_if : (first second b : ℕ) → j ≡ i.If first second → cond (n == 0) second first ≡ b →
        Aims fr j operands (aim.Block b) left
    aims_if first second b e chosen = subst (λ j. Aims fr j operands (aim.Block b) left) (sym e) (record {
      quiet = tt;
      leads = λ rest locals w.
          let s = state w locals operands in
          i32_takes (stuck s) operands n left
          (λ x kept. block exec fr (cond (x == 0) second first) rest (with_operands s kept)) t
          ∙ ap (λ k. block exec fr k rest (state w locals left)) chosen;
    })

    branches : (k l : ℕ) (s : State) (go : State → Outcome) → (k ≡ 0 → ⊥) → branch_if k l s go ≡ Branch l s
    branches zero l s go other = absurd (other refl)
    branches (suc k) l s go other = refl

    pub aims_br_if : (l : ℕ) → j ≡ i.BrIf l → (n ≡ 0 → ⊥) → Aims fr j operands (aim.Branch l) left
    aims_br_if l e other = subst (λ j. Aims fr j operands (aim.Branch l) left) (sym e) (record {
      quiet = tt;
      leads = λ rest locals w.
          let s = state w locals operands in
          i32_takes (stuck s) operands n left
          (λ x kept. branch_if x l (with_operands s kept) (exec (Run fr rest))) t
          ∙ branches n l (state w locals left) (exec (Run fr rest)) other;
    })

    found : (u s : State) (l : ℕ) (o : Option (List ℕ)) → Some l ≡ option_and_then (λ labels. target labels n) o →
        on.found (stuck u) o (λ labels. on.found (stuck u) (target labels n) (λ l. Branch l s)) ≡ Branch l s
    found u s l None e = absurd (cc e)
    found u s l (Some labels) e = ap (λ t. on.found (stuck u) t (λ l. Branch l s)) (sym e)

    pub aims_br_table : (k l : ℕ) → j ≡ i.BrTable k →
        Some l ≡ option_and_then (λ labels. target labels n) (slice_get fr.function.targets k) →
        Aims fr j operands (aim.Branch l) left
    aims_br_table k l e chosen = subst (λ j. Aims fr j operands (aim.Branch l) left) (sym e) (record {
      quiet = tt;
      leads = λ rest locals w.
          let s = state w locals operands in
          let o = slice_get fr.function.targets k in
          i32_takes (stuck s) operands n left
          (λ x kept. on.found (stuck s) o
          (λ labels. on.found (stuck s) (target labels x) (λ l. Branch l (with_operands s kept)))) t
          ∙ found s (state w locals left) l o chosen;
    })

-- which of the two blocks of an `if`
pub second_wanted : (n first second : ℕ) → n ≡ 0 → cond (n == 0) second first ≡ second
second_wanted n first second e = ap (λ n. cond (n == 0) second first) e

pub first_wanted : (n first second : ℕ) → (n ≡ 0 → ⊥) → cond (n == 0) second first ≡ first
first_wanted n first second other = ap (λ b. cond b second first) (ne_eqb n 0 other)

-- an instruction, and where it leads
module _ (a : Activation) (code rest : List Instr) (j : Instr) (is : code ≡ j ∷ rest) (ls ls' : List Layer)
    (row row' : RowParts) (height top : ℕ) (x : Aim)
    (aims : Aims (frame_of a) j (topmost height row.last) x (topmost top row.last)) (passes : Bool) (h : Hop)
    (program : ProgramParts) (tables : List Table) (frames : ℕ) (further : List (List RawVal))
    (locals : List RawVal) where
  leaps_by : ((w : World) → Lets passes w → aiming x (placed a ls row further rest top locals) w
      ≡ means (placed a ls' row' further h.code.now h.height locals) w) →
      LeapsTo program tables frames passes (placed a ls row further code height locals)
      (placed a ls' row' further h.code.now h.height locals)
  leaps_by reaches = record {
    instr = j;
    rest = rest;
    code_is = is;
    quiet = aims.quiet;
    leads = λ w of tabled lets.
        ap (λ o. owing (placed a ls row further rest height locals) o) (aims.leads rest locals w) ∙ reaches w lets;
  }

  pub leaps_reaching : Reaches x a rest ls row top ls' row' h →
      LeapsTo program tables frames passes (placed a ls row further code height locals)
      (placed a ls' row' further h.code.now h.height locals)
  leaps_reaching r = leaps_by (λ w lets. r further locals w)

  pub leaps_beginning : (b : ℕ) → x ≡ aim.Loop b → passes ≡ true → Begins b a rest ls row top ls' row' h →
      LeapsTo program tables frames passes (placed a ls row further code height locals)
      (placed a ls' row' further h.code.now h.height locals)
  leaps_beginning b e pass r = leaps_by (λ w lets.
      ap (λ x. aiming x (placed a ls row further rest top locals) w) e ∙ r further locals w
      ∙ lets pass (means (placed a ls' row' further h.code.now h.height locals)))

-- where there is such a hop
module _ (a : Activation) (code rest : List Instr) (j : Instr) (is : code ≡ j ∷ rest) (ls ls' : List Layer)
    (row row' : RowParts) (height top : ℕ) (x : Aim) (passes : Bool)
    (aims : Aims (frame_of a) j (topmost height row.last) x (topmost top row.last)) where
  abbrev pub Leapt : Option Hop → Type 0
  Leapt o = (program : ProgramParts) → (tables : List Table) → (frames : ℕ) → (further : List (List RawVal)) →
      (locals : List RawVal) → IfSome o (λ h.
      LeapsTo program tables frames passes (placed a ls row further code height locals)
      (placed a ls' row' further h.code.now h.height locals))

  reaching : (y : Aim) → x ≡ y → (o : Option Hop) → IfSome o (λ h. Reaches y a rest ls row top ls' row' h) → Leapt o
  reaching y e None r = λ program tables frames further locals. tt
  reaching y e (Some h) r = λ program tables frames further locals.
      leaps_reaching a code rest j is ls ls' row row' height top x aims passes h program tables frames further locals
      (subst (λ x. Reaches x a rest ls row top ls' row' h) (sym e) r)

  pub leap_block : (b : ℕ) → x ≡ aim.Block b → (o : Option Hop) →
      IfSome o (λ h. Reaches (aim.Block b) a rest ls row top ls' row' h) → Leapt o
  leap_block b e o r = reaching (aim.Block b) e o r

  pub leap_branch : (l : ℕ) → x ≡ aim.Branch l → (o : Option Hop) →
      IfSome o (λ h. Reaches (aim.Branch l) a rest ls row top ls' row' h) → Leapt o
  leap_branch l e o r = reaching (aim.Branch l) e o r

  pub leap_loop : (b : ℕ) → x ≡ aim.Loop b → (o : Option Hop) →
      IfSome o (λ h. Begins b a rest ls row top ls' row' h) → IfSome o (λ h. passes ≡ true) → Leapt o
  leap_loop b e None r pass = λ program tables frames further locals. tt
  leap_loop b e (Some h) r pass = λ program tables frames further locals.
      leaps_beginning a code rest j is ls ls' row row' height top x aims passes h program tables frames further locals b e pass r
