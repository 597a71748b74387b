-- Lines that wait to be written, one reply after another.
use Rattle.std.proofs.Common.{◌≡◌, ◌≢◌, Bool, true, false, length-append, ℕ, ◌-◌, ◌<◌, ◌≤◌, List, [], ◌∷◌, ◌++◌, length, map, take, drop, get_or, slice_index_or, Option, Some, None, refl, ap, sym, ◌∙◌, append_assoc, subst, arith}
use Rattle.std.specs.Prelude.{Result, Ok, Err, OnErr}
use Rattle.std.proofs.lemmas.List.{append-nil, drop-map, take-map, take_all}
use Rattle.wasm_streams.specs.Streams.{after, Fronts}
use Rattle.wasm_streams.proofs.Joins.{after-after}
use Rattle.script_lines.proofs.Beginnings.{first_none}
use Rattle.script_lines.specs.Lines.{hooks_part, note_lines, noted_from, noted_line, noted_lines_of, reply_text}
use Rattle.spec_machine.specs.declared.reply.Reply.{Reply}
use Rattle.wasm_meter.specs.declared.call_hook.CallHook.{CallHook}
use Rattle.wasm_run.specs.Buffers.{IsBuffered, IsCutShort}
use Rattle.wasm_run.specs.Statuses.{hook_events}

-- what waits after a first write, and after a second one
pub buffered_then : (text waiting rest : List ℕ) (old mid now : Option (List ℕ)) → IsBuffered text waiting old mid →
    IsBuffered waiting rest mid now → IsBuffered text rest old now
buffered_then text waiting rest old mid now b c = record {
  front = b.front ++ c.front;
  whole = b.whole ∙ ap (λ t. b.front ++ t) c.whole ∙ sym (append_assoc b.front c.front rest);
  wrote = c.wrote ∙ ap (λ o. after c.front o) b.wrote ∙ after-after b.front c.front old;
}

-- a front of what waited was written
pub buffered_front : (text waiting : List ℕ) (old mid now : Option (List ℕ)) → IsBuffered text waiting old mid →
    Fronts waiting mid now → Fronts text old now
buffered_front text waiting old mid now b f =
    let c : IsBuffered text f.1 old now = buffered_then text waiting f.1 old mid now b
    (record { front = f.0; whole = f.2; wrote = f.3 }) in
    (c.front, f.1, c.whole, c.wrote)

-- one line more waits
pub buffered_line : (text waiting line more : List ℕ) (old now : Option (List ℕ)) → IsBuffered text waiting old now →
    more ≡ waiting ++ line → IsBuffered (text ++ line) more old now
buffered_line text waiting line more old now b e = record {
  front = b.front;
  whole = ap (λ t. t ++ line) b.whole ∙ append_assoc b.front waiting line ∙ ap (λ t. b.front ++ t) (sym e);
  wrote = b.wrote;
}

-- of no line nothing waits
pub buffered_none : (waiting : List ℕ) (old : Option (List ℕ)) → waiting ≡ [] → IsBuffered [] waiting old old
buffered_none waiting None e = record { front = []; whole = sym e; wrote = refl }
buffered_none waiting (Some held) e = record { front = []; whole = sym e; wrote = ap Some (sym (append-nil held)) }

-- a front of a text is one of a longer text
pub front_of_longer : (text rest : List ℕ) (old now : Option (List ℕ)) → Fronts text old now →
    Fronts (text ++ rest) old now
front_of_longer text rest old now f =
    (f.0, f.1 ++ rest, ap (λ t. t ++ rest) f.2 ∙ append_assoc f.0 f.1 rest, f.3)

-- ---- lines of which some are still to be written

-- of a whole text a front was written, some waits, and the rest is to come
pub record IsOnTheWay (whole left waiting : List ℕ) (old now : Option (List ℕ)) : Type 0 where
  pub text : List ℕ
  pub buffered : IsBuffered text waiting old now
  pub whole_is : whole ≡ text ++ left

pub way_begins : (whole waiting : List ℕ) (old : Option (List ℕ)) → waiting ≡ [] → IsOnTheWay whole whole waiting old old
way_begins whole waiting old e = record { text = []; buffered = buffered_none waiting old e; whole_is = refl }

-- the next line waits, too
pub way_on : (whole line left waiting more : List ℕ) (old now : Option (List ℕ)) →
    IsOnTheWay whole (line ++ left) waiting old now → more ≡ waiting ++ line → IsOnTheWay whole left more old now
way_on whole line left waiting more old now w e = record {
  text = w.text ++ line;
  buffered = buffered_line w.text waiting line more old now w.buffered e;
  whole_is = w.whole_is ∙ sym (append_assoc w.text line left);
}

-- what waited was written, or not
pub way_then : (whole left waiting rest : List ℕ) (old mid now : Option (List ℕ)) →
    IsOnTheWay whole left waiting old mid → IsBuffered waiting rest mid now → IsOnTheWay whole left rest old now
way_then whole left waiting rest old mid now w b = record {
  text = w.text;
  buffered = buffered_then w.text waiting rest old mid now w.buffered b;
  whole_is = w.whole_is;
}

-- on the way a front of the whole is written
pub way_now : (whole left waiting : List ℕ) (old now : Option (List ℕ)) → IsOnTheWay whole left waiting old now →
    Fronts whole old now
way_now whole left waiting old now w =
    let b = w.buffered in
    (b.front, waiting ++ left, w.whole_is ∙ ap (λ t. t ++ left) b.whole ∙ append_assoc b.front waiting left, b.wrote)

-- a front of what waited was written
pub way_front : (whole left waiting : List ℕ) (old mid now : Option (List ℕ)) →
    IsOnTheWay whole left waiting old mid → Fronts waiting mid now → Fronts whole old now
way_front whole left waiting old mid now w f =
    let P : List ℕ → Type 0 = λ text. Fronts text old now in
    subst P (sym w.whole_is) (front_of_longer w.text left old now (buffered_front w.text waiting old mid now w.buffered f))

-- while lines wait, a front of all was written
pub way_front_here : (whole left waiting : List ℕ) (old now : Option (List ℕ)) →
    IsOnTheWay whole left waiting old now → Fronts whole old now
way_front_here whole left waiting old now w =
    let b = w.buffered in
    let P : List ℕ → Type 0 = λ text. Fronts text old now in
    subst P (sym w.whole_is) (front_of_longer w.text left old now (b.front, waiting, b.whole, b.wrote))

-- nothing is to come
pub way_ends : (whole left waiting : List ℕ) (old now : Option (List ℕ)) → IsOnTheWay whole left waiting old now →
    left ≡ [] → IsBuffered whole waiting old now
way_ends whole left waiting old now w e =
    let P : List ℕ → Type 0 = λ text. IsBuffered text waiting old now in
    subst P (sym (w.whole_is ∙ ap (λ t. w.text ++ t) e ∙ append-nil w.text)) w.buffered

-- ---- the lines of replies, each behind its notes

-- the texts of some of the notes are some of their texts
pub notes_between : {A : Type 0} (text : A → List ℕ) (notes behind found : List A) (before count as_many : ℕ) →
    behind ≡ drop before notes → as_many ≡ count - before → found ≡ take as_many behind →
    map text found ≡ take (count - before) (drop before (map text notes))
notes_between text notes behind found before count as_many b n f =
    ap (map text) (f ∙ ap (take as_many) b)
    ∙ sym (take-map text as_many (drop before notes))
    ∙ ap (take as_many) (sym (drop-map text before notes))
    ∙ ap (λ (k : ℕ). take k (drop before (map text notes))) n

-- where there are no replies any more, or no counts, there is no line
pub no_replies : (before : ℕ) (counts : List ℕ) (notes : List (List ℕ)) (replies : List Reply) → length replies < 1 →
    noted_lines_of (noted_from before counts notes replies) ≡ []
no_replies before [] notes replies h = refl
no_replies before (count ∷ counts) notes [] h = refl
no_replies before (count ∷ counts) notes (reply ∷ replies) h = absurd (omega (arith, h))

pub no_counts : (before : ℕ) (counts : List ℕ) (notes : List (List ℕ)) (replies : List Reply) → length counts < 1 →
    noted_lines_of (noted_from before counts notes replies) ≡ []
no_counts before [] notes replies h = refl
no_counts before (count ∷ counts) notes replies h = absurd (omega (arith, h))

-- what is behind the first of a list
behind_first : {A : Type 0} (x : A) (xs : List A) → take (length (x ∷ xs) - 1) (drop 1 (x ∷ xs)) ≡ xs
behind_first x xs = take_all (length (x ∷ xs) - 1) xs (omega arith)

-- the line of the first of these replies waits, too
pub way_noted : (whole : List ℕ) (before : ℕ) (counts : List ℕ) (notes taken : List (List ℕ)) (reply : Reply)
    (replies : List Reply) (waiting more : List ℕ) (old now : Option (List ℕ)) → 1 ≤ length counts →
    1 ≤ length replies → reply ≡ get_or replies 0 reply →
    taken ≡ take (slice_index_or counts 0 0 - before) (drop before notes) →
    IsOnTheWay whole (noted_lines_of (noted_from before counts notes replies)) waiting old now →
    more ≡ waiting ++ noted_line (taken, reply) →
    IsOnTheWay whole
    (noted_lines_of (noted_from (slice_index_or counts 0 0) (take (length counts - 1) (drop 1 counts)) notes
    (take (length replies - 1) (drop 1 replies)))) more old now
way_noted whole before [] notes taken reply replies waiting more old now c r first t w m = absurd (omega (arith, c))
way_noted whole before (count ∷ tail) notes taken reply [] waiting more old now c r first t w m =
    absurd (omega (arith, r))
way_noted whole before (count ∷ tail) notes taken reply (head ∷ others) waiting more old now c r first t w m =
    let P : List ℕ → Type 0 = λ x.
    IsOnTheWay whole (noted_lines_of (noted_from count x notes (take (length (head ∷ others) - 1) (drop 1
    (head ∷ others))))) more old now in
    let Q : List Reply → Type 0 = λ x. IsOnTheWay whole (noted_lines_of (noted_from count tail notes x)) more old now in
    subst P (sym (behind_first count tail)) (subst Q (sym (behind_first head others))
    (way_on whole (noted_line (take (count - before) (drop before notes), head))
    (noted_lines_of (noted_from count tail notes others)) waiting more old now w
    (m ∙ ap (λ (x : List (List ℕ)). waiting ++ noted_line (x, reply)) t
    ∙ ap (λ (x : Reply). waiting ++ noted_line (take (count - before) (drop before notes), x)) first)))

-- ---- texts of which something is missing

-- where nothing comes of two parts, nothing comes of the second
second_none : (a b : List ℕ) → a ++ b ≡ [] → b ≡ []
second_none [] b e = e
second_none (x ∷ a) b e = cc

-- what holds after a failure holds of what is no success
pub in_failure : {T E P : Type 0} (r : Result T E) → ((x : T) → r ≡ Ok x → ⊥) → OnErr r P → P
in_failure (Ok x) n p = absurd (n x refl)
in_failure (Err e) n p = p

-- a line ends with a line feed, so there is one
line_there : (a b c : List ℕ) (n : ℕ) → (a ++ (b ++ n ∷ [])) ++ c ≢ []
line_there a b c n e =
    let all : length ((a ++ (b ++ n ∷ [])) ++ c) ≡ 0 = ap (λ (xs : List ℕ). length xs) e in
    omega (
      arith,
      all,
      length-append (a ++ (b ++ n ∷ [])) c,
      length-append a (b ++ n ∷ []),
      length-append b (n ∷ []),
    )

-- where there are replies and counts, there are lines
lines_there : (before : ℕ) (counts : List ℕ) (notes : List (List ℕ)) (replies : List Reply) → 1 ≤ length counts →
    1 ≤ length replies → noted_lines_of (noted_from before counts notes replies) ≢ []
lines_there before [] notes replies c r e = absurd (omega (arith, c))
lines_there before (count ∷ tail) notes [] c r e = absurd (omega (arith, r))
lines_there before (count ∷ tail) notes (reply ∷ others) c r e =
    line_there (note_lines (take (count - before) (drop before notes))) (reply_text reply)
    (noted_lines_of (noted_from count tail notes others)) 10 e

-- where there is a hook, there is its line
hooks_there : (hooked : Bool) (events : List CallHook) → hooked ≡ true → hooks_part (hook_events hooked events) ≢ []
hooks_there false events h e = cc
hooks_there true events h e = cc

-- while lines wait, and more are to come, something is missing
way_cut : (whole left waiting : List ℕ) (old now : Option (List ℕ)) → IsOnTheWay whole left waiting old now →
    left ≢ [] → IsCutShort whole old now
way_cut whole left waiting old now w more =
    let b = w.buffered in
    record {
      front = b.front;
      rest = waiting ++ left;
      whole = w.whole_is ∙ ap (λ t. t ++ left) b.whole ∙ append_assoc b.front waiting left;
      missing = λ e. more (second_none waiting left e);
      wrote = b.wrote;
    }

-- the lines of the replies are cut short where the first of them does not wait yet
pub way_cut_here : (whole : List ℕ) (before : ℕ) (counts : List ℕ) (notes : List (List ℕ)) (replies : List Reply)
    (waiting : List ℕ) (old now : Option (List ℕ)) → 1 ≤ length counts → 1 ≤ length replies →
    IsOnTheWay whole (noted_lines_of (noted_from before counts notes replies)) waiting old now →
    IsCutShort whole old now
way_cut_here whole before counts notes replies waiting old now c r w =
    way_cut whole (noted_lines_of (noted_from before counts notes replies)) waiting old now w
    (lines_there before counts notes replies c r)

-- what is cut short is that as a front of more, too
pub cut_of_longer : (text more : List ℕ) (old now : Option (List ℕ)) → IsCutShort text old now →
    IsCutShort (text ++ more) old now
cut_of_longer text more old now c = record {
  front = c.front;
  rest = c.rest ++ more;
  whole = ap (λ t. t ++ more) c.whole ∙ append_assoc c.front c.rest more;
  missing = λ e. c.missing (first_none c.rest more e);
  wrote = c.wrote;
}

-- while a text waits and the line of a hook is to come, something is missing
pub cut_before_hooks : (text waiting : List ℕ) (hooked : Bool) (events : List CallHook) (old now : Option (List ℕ)) →
    IsBuffered text waiting old now → hooked ≡ true →
    IsCutShort (text ++ hooks_part (hook_events hooked events)) old now
cut_before_hooks text waiting hooked events old now b h =
    let more : List ℕ = hooks_part (hook_events hooked events) in
    record {
      front = b.front;
      rest = waiting ++ more;
      whole = ap (λ t. t ++ more) b.whole ∙ append_assoc b.front waiting more;
      missing = λ e. hooks_there hooked events h (second_none waiting more e);
      wrote = b.wrote;
    }
