-- Bytes taken or put one after another.
use Rattle.std.proofs.Common.{◌≡◌, ℕ, ◌+◌, ◌≤◌, ◌<◌, ◌&&◌, ◌==◌, zero, suc, Bool, true, false, List, ◌++◌, length, take, drop, Option, Some, None, refl, ap, sym, ◌∙◌, append_assoc, drop-drop, arith, subst, length-append}
use Rattle.std.proofs.lemmas.List.{length-take, take-append-drop}
use Rattle.std.proofs.Math.Dec.{eqb-suc-zero}
use Rattle.std.proofs.Math.Seq.{take-add, take-append_seam}
use Rattle.wasm_streams.specs.Streams.{before, after, Fronts}

pub before-before : (a b : List ℕ) (o : Option (List ℕ)) → before a (before b o) ≡ before (a ++ b) o
before-before a b None = refl
before-before a b (Some rest) = ap (λ xs. Some xs) (sym (append_assoc a b rest))

pub after-after : (a b : List ℕ) (o : Option (List ℕ)) → after b (after a o) ≡ after (a ++ b) o
after-after a b None = refl
after-after a b (Some held) = ap (λ xs. Some xs) (append_assoc held a b)

-- one more read: what was taken before, and n bytes more
pub read_more : (all before_it after_it : Option (List ℕ)) (bytes piece : List ℕ) → all ≡ before bytes before_it → before_it ≡ before piece after_it → all ≡ before (bytes ++ piece) after_it
read_more all before_it after_it bytes piece e f = e ∙ ap (λ o. before bytes o) f ∙ before-before bytes piece after_it

-- one more write: the front that was written before, and n bytes more
pub write_more : (text : List ℕ) (done n : ℕ) (first was now : Option (List ℕ)) → was ≡ after (take done text) first → now ≡ after (take n (drop done text)) was → now ≡ after (take (done + n) text) first
write_more text done n first was now e f =
    f ∙ ap (λ o. after (take n (drop done text)) o) e ∙ after-after (take done text) (take n (drop done text)) first ∙ ap (λ xs. after xs first) (sym (take-add done n text))

-- a read from memory: n bytes go to the front of the buffer
pub copied_front : (bytes buffer got : List ℕ) (at n : ℕ) → n ≤ length (drop at bytes) → got ≡ take n (drop at bytes) ++ drop n buffer → drop at bytes ≡ take n got ++ drop (at + n) bytes
copied_front bytes buffer got at n h e =
    let l : length (take n (drop at bytes)) ≡ n = omega (arith, length-take {A = ℕ}) in
    let P : ℕ → Type 0 = λ k. take k (take n (drop at bytes) ++ drop n buffer) ≡ take n (drop at bytes) in
    let front : take n (take n (drop at bytes) ++ drop n buffer) ≡ take n (drop at bytes) = subst P l (take-append_seam (take n (drop at bytes)) (drop n buffer)) in
    let all : drop at bytes ≡ take n (drop at bytes) ++ drop n (drop at bytes) = sym (take-append-drop n (drop at bytes)) in
    rw e (rw (front, ← drop-drop n at bytes) all)

-- one more read, whose bytes were not kept
pub read_over : (limit count : ℕ) (all before_it after_it : Option (List ℕ)) (bytes piece : List ℕ) → all ≡ before bytes before_it → before_it ≡ before (take count piece) after_it → length bytes + count ≤ limit → (x : List ℕ) × (length x ≤ limit) × (all ≡ before x after_it)
read_over limit count all before_it after_it bytes piece e f h =
    (bytes ++ take count piece, omega (arith, length-append bytes (take count piece), length-take {A = ℕ}), read_more all before_it after_it bytes (take count piece) e f)

-- one more read, after which the bytes taken are so many
pub read_past : (total count : ℕ) (all before_it after_it : Option (List ℕ)) (bytes piece : List ℕ) → all ≡ before bytes before_it → before_it ≡ before (take count piece) after_it → count ≤ length piece → length bytes + count ≡ total → (x : List ℕ) × (length x ≡ total) × (all ≡ before x after_it)
read_past total count all before_it after_it bytes piece e f h k =
    (bytes ++ take count piece, omega (arith, length-append bytes (take count piece), length-take {A = ℕ}), read_more all before_it after_it bytes (take count piece) e f)

-- a front of the text was written
pub fronts_done : (text : List ℕ) (done : ℕ) (old new : Option (List ℕ)) → new ≡ after (take done text) old → Fronts text old new
fronts_done text done old new e = (take done text, drop done text, sym (take-append-drop done text), e)

-- after one byte or more, a sink that tells that it was not flushed
pub not_flushed : (flushed first : Bool) (count : ℕ) → flushed ≡ false → 0 < count → flushed ≡ (first && (count == 0))
not_flushed flushed true zero e h = absurd (omega arith)
not_flushed flushed true (suc n) e h = e ∙ sym (eqb-suc-zero n)
not_flushed flushed false count e h = e
