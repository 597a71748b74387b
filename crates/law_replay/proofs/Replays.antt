-- Two runs by what one outside answers: at each place they ask the same question, and have the same answer.
use Rattle.std.proofs.Common.{◌≡◌, ◌⊎◌, ℕ, List, [], ◌∷◌, ◌++◌, Option, Some, None, refl, sym, ap, ◌∙◌, subst, inl, inr}
use Rattle.std.specs.Prelude.{length, drop, take}
use Rattle.std.proofs.lemmas.List.{append_assoc, append_cancel_left, length-map, map-append}
use Rattle.std.proofs.lemmas.Option.{none-some, same_Some}
use Rattle.std.proofs.Math.Seq.{drop-append_seam, take-append_seam}
use Rattle.wasm_syntax.specs.declared.declarations.ModuleDecl.{ModuleDecl}
use Rattle.spec_machine.specs.declared.command.Command.{Command}
use Rattle.spec_execution.specs.Askings.{Question, Answer, Asking, answers_in, Chain}
use Rattle.spec_execution.specs.Runs.{State, run}
use Rattle.law_replay.specs.Replays.{RanBy, IsFunction}
use Rattle.law_replay.proofs.RunFronts.{state_with, ended_with, HearsAt, SameRuns, AskRuns, run_fronts}

-- ---- lists

-- two lists whose fronts are equally long
pub record SameSplit {A : Type 0} (xs ys xs' ys' : List A) : Type 0 where
  pub front : xs ≡ ys
  pub rest : xs' ≡ ys'

pub split_same :
    {A : Type 0} (xs ys xs' ys' : List A) → length xs ≡ length ys → xs ++ xs' ≡ ys ++ ys' → SameSplit xs ys xs' ys'
split_same xs ys xs' ys' e f = record {
  front =
      sym (take-append_seam xs xs') ∙ ap (λ (n : ℕ). take n (xs ++ xs')) e
      ∙ ap (λ (zs : List _). take (length ys) zs) f ∙ take-append_seam ys ys';
  rest =
      sym (drop-append_seam xs xs') ∙ ap (λ (n : ℕ). drop n (xs ++ xs')) e
      ∙ ap (λ (zs : List _). drop (length ys) zs) f ∙ drop-append_seam ys ys';
}

head : {A : Type 0} (x : A) (xs : List A) (y : A) (ys : List A) → x ∷ xs ≡ y ∷ ys → x ≡ y
head x xs y ys e = cc

pair : (x y : Asking) → x.0 ≡ y.0 → x.1 ≡ y.1 → x ≡ y
pair x y e f = ap (λ (q : Question). (q, x.1)) e ∙ ap (λ (a : Answer). (y.0, a)) f

no_answer : (heard : List Asking) (left : List Answer) → left ++ answers_in heard ≡ [] → heard ≡ []
no_answer [] left e = refl
no_answer (x ∷ heard) [] e = absurd cc
no_answer (x ∷ heard) (a ∷ left) e = absurd cc

pub as_long : (xs ys : List Asking) → answers_in xs ≡ answers_in ys → length xs ≡ length ys
as_long xs ys e =
    sym (length-map xs (λ (asking : Asking). asking.1)) ∙ ap (λ (answers : List Answer). length answers) e
    ∙ length-map ys (λ (asking : Asking). asking.1)

-- ---- a run that used all of its answers

-- it heard this
pub record Used (o : Option State) (heard : List Asking) (t : State) : Type 0 where
  pub ends : o ≡ Some t
  pub course : t.heard ≡ heard
  pub used : t.answers ≡ []

module _ (h : List Asking) (common : List Asking) where
  -- both came to their ends here, or both asked the same question, and went on by their answers
  record Forks (r r' : List Asking) : Type 0 where
    question : Question
    first : Answer
    second : Answer
    more : List Asking
    more' : List Asking
    first_is : r ≡ (question, first) ∷ more
    second_is : r' ≡ (question, second) ∷ more'

  -- what one run heard behind the common answers
  hears :
      (before : List Asking) (q : Question) (o : Option State) (r : List Asking) (t : State)
      → answers_in before ≡ answers_in common → Used o (h ++ (common ++ r)) t → HearsAt (h ++ before) q t
      → (a : Answer) × (more : List Asking) × (r ≡ (q, a) ∷ more)
  hears before q o r t e u j =
      let both : h ++ (before ++ (q, j.answer) ∷ j.more) ≡ h ++ (common ++ r) =
      sym (append_assoc h before ((q, j.answer) ∷ j.more)) ∙ sym j.course ∙ u.course in
      let s : SameSplit before common ((q, j.answer) ∷ j.more) r =
      split_same before common ((q, j.answer) ∷ j.more) r (as_long before common e)
      (append_cancel_left h (before ++ (q, j.answer) ∷ j.more) (common ++ r) both) in
      (j.answer, j.more, sym s.rest)

  -- where a run came to the end
  at_end :
      (left : List Answer) (r : List Asking) (end : Option State) (o : Option State) (t : State)
      → o ≡ ended_with (left ++ answers_in r) end → Used o (h ++ (common ++ r)) t → r ≡ []
  at_end left r None o t e u = absurd (none-some t (sym e ∙ u.ends))
  at_end left r (Some v) o t e u =
      no_answer r left
      (ap (λ (x : State). x.answers) (same_Some (state_with (left ++ answers_in r) v) t (sym e ∙ u.ends)) ∙ u.used)

  forks :
      (r r' : List Asking) (o o' : Option State) (t t' : State) → Used o (h ++ (common ++ r)) t
      → Used o' (h ++ (common ++ r')) t'
      → SameRuns (answers_in r) (answers_in r') o o' ⊎ AskRuns h (answers_in common) o o'
      → ((r ≡ []) × (r' ≡ [])) ⊎ Forks r r'
  forks r r' o o' t t' u u' (inl k) =
      inl (at_end k.left r k.end o t k.first u, at_end k.left r' k.end o' t' k.second u')
  forks r r' o o' t t' u u' (inr k) =
      let a = hears k.more k.question o r t k.taken u (k.first t u.ends) in
      let b = hears k.more k.question o' r' t' k.taken u' (k.second t' u'.ends) in
      inr (record {
        question = k.question;
        first = a.0;
        second = b.0;
        more = a.1;
        more' = b.1;
        first_is = a.2;
        second_is = b.2;
      })

-- ---- both runs

module _ {W : Type 0} (moves : W → Question → Answer → W → Type 0) (f : IsFunction moves) (modules : List ModuleDecl)
    (commands : List Command) (s : State) where
  -- a run with these answers
  abbrev by : List Answer → Option State
  by answers = run modules (state_with answers s) commands

  -- one asking more is common
  moved :
      (x : Asking) (r common : List Asking) (t : State)
      → Used (by (answers_in common ++ answers_in (x ∷ r))) (s.heard ++ (common ++ x ∷ r)) t
      → Used (by (answers_in (common ++ x ∷ []) ++ answers_in r)) (s.heard ++ ((common ++ x ∷ []) ++ r)) t
  moved x r common t u =
      let e : answers_in common ++ answers_in (x ∷ r) ≡ answers_in (common ++ x ∷ []) ++ answers_in r =
      sym (ap (λ (xs : List Answer). xs ++ answers_in r) (map-append (λ (asking : Asking). asking.1) common (x ∷ []))
      ∙ append_assoc (answers_in common) (x.1 ∷ []) (answers_in r)) in
      let g : common ++ x ∷ r ≡ (common ++ x ∷ []) ++ r = sym (append_assoc common (x ∷ []) r) in
      record {
        ends = sym (ap (λ (xs : List Answer). by xs) e) ∙ u.ends;
        course = u.course ∙ ap (λ (xs : List Asking). s.heard ++ xs) g;
        used = u.used;
      }

  record Same (r r' : List Asking) (w w' : W) : Type 0 where
    heard : r ≡ r'
    outside : w ≡ w'

  -- the rests of what they heard, behind what both heard
  same :
      (r r' common : List Asking) (t t' : State) (m w w' : W)
      → Used (by (answers_in common ++ answers_in r)) (s.heard ++ (common ++ r)) t
      → Used (by (answers_in common ++ answers_in r')) (s.heard ++ (common ++ r')) t' → Chain moves m r w
      → Chain moves m r' w' → Same r r' w w'
  same [] [] common t t' m w w' u u' c c' = record { heard = refl; outside = c ∙ sym c' }
  same [] (y ∷ r') common t t' m w w' u u' c c' =
      elim (forks s.heard common [] (y ∷ r') _ _ t t' u u'
      (run_fronts modules [] (answers_in (y ∷ r')) commands s (answers_in common))) [
        | inl k ↦ absurd (let e : y ∷ r' ≡ [] = k.1 in cc)
        | inr k ↦ absurd (let e : [] ≡ (k.question, k.first) ∷ k.more = k.first_is in cc)
      ]
  same (x ∷ r) [] common t t' m w w' u u' c c' =
      elim (forks s.heard common (x ∷ r) [] _ _ t t' u u'
      (run_fronts modules (answers_in (x ∷ r)) [] commands s (answers_in common))) [
        | inl k ↦ absurd (let e : x ∷ r ≡ [] = k.0 in cc)
        | inr k ↦ absurd (let e : [] ≡ (k.question, k.second) ∷ k.more' = k.second_is in cc)
      ]
  same (x ∷ r) (y ∷ r') common t t' m w w' u u' c c' =
      elim (forks s.heard common (x ∷ r) (y ∷ r') _ _ t t' u u'
      (run_fronts modules (answers_in (x ∷ r)) (answers_in (y ∷ r')) commands s (answers_in common))) [
        | inl k ↦ absurd (let e : x ∷ r ≡ [] = k.0 in cc)
        | inr k ↦
            let question : y.0 ≡ x.0 = let e : x ∷ r ≡ (k.question, k.first) ∷ k.more = k.first_is in
            let e' : y ∷ r' ≡ (k.question, k.second) ∷ k.more' = k.second_is in
            ap (λ (z : Asking). z.0) (head y r' (k.question, k.second) k.more' e')
            ∙ sym (ap (λ (z : Asking). z.0) (head x r (k.question, k.first) k.more e)) in
            let g = f m x.0 x.1 y.1 c.0 c'.0 c.1 (subst (λ (q : Question). moves m q y.1 c'.0) question c'.1) in
            let asking : y ≡ x = pair y x question (sym g.0) in
            let n : Same r r' w w' =
            same r r' (common ++ x ∷ []) t t' c.0 w w' (moved x r common t u)
            (moved x r' common t'
            (subst (λ (z : Asking). Used (by (answers_in common ++ answers_in (z ∷ r'))) (s.heard ++ (common ++ z ∷ r')) t')
            asking u'))
            c.2 (subst (λ (z : W). Chain moves z r' w') (sym g.1) c'.2) in
            record {
              heard = ap (λ (xs : List Asking). x ∷ xs) n.heard ∙ ap (λ (z : Asking). z ∷ r') (sym asking);
              outside = n.outside;
            }
      ]

  -- so they are equal
  pub equal_runs :
      (heard heard' : List Asking) (t t' : State) (m w w' : W) → RanBy modules commands s heard t
      → RanBy modules commands s heard' t' → Chain moves m heard w → Chain moves m heard' w'
      → (heard ≡ heard') × (w ≡ w') × (t ≡ t')
  equal_runs heard heard' t t' m w w' u u' c c' =
      let n : Same heard heard' w w' =
      same heard heard' [] t t' m w w' (record { ends = u.ran; course = u.course; used = u.used })
      (record { ends = u'.ran; course = u'.course; used = u'.used }) c c' in (
        n.heard,
        n.outside,
        same_Some t t' (sym u.ran ∙ ap (λ (xs : List Asking). by (answers_in xs)) n.heard ∙ u'.ran),
      )
