-- A rotation by `|` is the sum of its two parts.
use Rattle.std.proofs.Common.{◌≡◌, ℕ, zero, suc, ◌+◌, ◌-◌, ◌*◌, ◌/◌, ◌%◌, ◌^◌, ◌<◌, arith, ap, ap₂, ◌∙◌, sym}
use Rattle.std.proofs.lemmas.Nat.{or_shifted, or_comm, shr_below, mod-pow-add, shl-shr}
use Rattle.std.specs.Int.Bits.{bit_or, or_self}
use Rattle.std.proofs.Math.Nat.{mul-mod_left, add-zero, sub-zero, add_comm, mod_self, mod-eq_of_lt, div-eq_of_lt, mul-one, div-one}
use Rattle.wasm_syntax.specs.Operators.{turned_left, turned_right}

-- the bits that stay, moved up
moved : (m k x : ℕ) → (x * 2 ^ k) % 2 ^ (m + k) ≡ (x % 2 ^ m) * 2 ^ k
moved m k x =
    mod-pow-add (x * 2 ^ k) m k ∙ ap₂ (λ (u v : ℕ). (u % 2 ^ m) * 2 ^ k + v) (shl-shr x k) (mul-mod_left x (2 ^ k))
    ∙ add-zero ((x % 2 ^ m) * 2 ^ k)

-- the two parts share no bit
apart : (m k n x : ℕ) → n ≡ m + k → x < 2 ^ n → bit_or ((x * 2 ^ k) % 2 ^ n) (x / 2 ^ m) ≡ (x * 2 ^ k) % 2 ^ n + x / 2 ^ m
apart m k n x e h =
    let below : x < 2 ^ (k + m) = rw (← add_comm m k) (rw (← e) h) in
    rw e (rw moved (or_shifted (x % 2 ^ m) k (x / 2 ^ m) (shr_below x k m below)))

-- no rotation
none : (n x : ℕ) → x < 2 ^ n → (x * 2 ^ 0) % 2 ^ n ≡ x
none n x h = ap (λ (u : ℕ). u % 2 ^ n) (mul-one x) ∙ mod-eq_of_lt h

rest : (n j : ℕ) → suc j < n → (n - suc j) % n ≡ n - suc j
rest n j l = let h : n - suc j < n = omega arith in mod-eq_of_lt h

pub left : (n x k : ℕ) → x < 2 ^ n → k < n → bit_or ((x * 2 ^ k) % 2 ^ n) (x / 2 ^ ((n - k) % n)) ≡ turned_left n x k
left n x zero h l = rw (none n x h, sub-zero n, mod_self n, div-one x, div-eq_of_lt h, or_self x) (sym (add-zero x))
left n x (suc j) h l =
    let e = rest n j l in
    let s : n ≡ (n - suc j) + suc j = omega arith in
    rw e (apart (n - suc j) (suc j) n x s h)

-- a whole turn brings nothing back
whole : (n x : ℕ) → (x * 2 ^ n) % 2 ^ n ≡ 0
whole n x = mul-mod_left x (2 ^ n)

pub right : (n x k : ℕ) → x < 2 ^ n → k < n → bit_or (x / 2 ^ k) ((x * 2 ^ ((n - k) % n)) % 2 ^ n) ≡ turned_right n x k
right n x zero h l = rw (sub-zero n, mod_self n, none n x h, div-one x, or_self x) (rw (whole n x) (sym (add-zero x)))
right n x (suc j) h l =
    let e = rest n j l in
    let s : n ≡ suc j + (n - suc j) = omega arith in
    rw e (or_comm (x / 2 ^ suc j) _ ∙ apart (suc j) (n - suc j) n x s h ∙ add_comm _ (x / 2 ^ suc j))
