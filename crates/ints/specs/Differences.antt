-- A signed number as the difference of two numbers, `sub_ℕ a b`, so that `omega` can do signed sums and orders: write each number so
-- (`up_down`), gather sums and negations into one difference (`add_sub`, `neg_sub`), and close with `eq_sub`, `lt_sub` or `le_sub`.
use Rattle.std.specs.Prelude.{◌≡◌, refl, Bool, true, false, not, cond, ℕ, zero, suc, ◌+◌, ◌-◌, ◌≤◌, ◌<◌, T, ltb, ℤ, pos, negsuc, neg_ℤ, ◌+ℤ◌, ◌-ℤ◌}
use Rattle.std.proofs.Common.{sym, ap, ◌∙◌, arith, ltb→lt, nltb→le, ltb-true, ltb-false, lt-ltb, le-ltb}
use Rattle.std.proofs.Math.IntN.{sub_ℕ, +ℤ-neg_ℤ_cancel}
use Rattle.std.specs.Int.Signed.{lt_z}

by_test : (c : Bool) (x y : ℤ) (P : ℤ → Type 0) → (T c → P x) → (T (not c) → P y) → P (cond c x y)
by_test true x y P f g = f tt
by_test false x y P f g = g tt

-- a difference by which of the two is larger
pub sub_cases : (a b : ℕ) (P : ℤ → Type 0) → (a < b → P (negsuc (b - suc a))) → (b ≤ a → P (pos (a - b))) → P (sub_ℕ a b)
sub_cases a b P f g = by_test (ltb a b) (negsuc (b - suc a)) (pos (a - b)) P (λ t. f (ltb→lt a b t)) (λ t. g (nltb→le a b t))

abbrev pub up : ℤ → ℕ
up (pos n) = n
up (negsuc n) = 0

abbrev pub down : ℤ → ℕ
down (pos n) = 0
down (negsuc n) = suc n

pub pos_sub : (n : ℕ) → pos n ≡ sub_ℕ n 0
pos_sub n = sub_cases n 0 (λ (z : ℤ). pos n ≡ z) (λ h. absurd (below h)) (λ h. ap pos (less n))
  where
    below : {n : ℕ} → n < 0 → ⊥
    below h = omega arith

    less : (n : ℕ) → n ≡ n - 0
    less n = omega arith

pub neg_as_sub : (n : ℕ) → negsuc n ≡ sub_ℕ 0 (suc n)
neg_as_sub n = sub_cases 0 (suc n) (λ (z : ℤ). negsuc n ≡ z) (λ h. ap negsuc (less n)) (λ h. absurd (below h))
  where
    below : {n : ℕ} → suc n ≤ 0 → ⊥
    below h = omega arith

    less : (n : ℕ) → n ≡ suc n - 1
    less n = omega arith

pub up_down : (z : ℤ) → z ≡ sub_ℕ (up z) (down z)
up_down (pos n) = pos_sub n
up_down (negsuc n) = neg_as_sub n

pub eq_sub : (a b c d : ℕ) → a + d ≡ c + b → sub_ℕ a b ≡ sub_ℕ c d
eq_sub a b c d e =
    sub_cases a b (λ (z : ℤ). z ≡ sub_ℕ c d)
    (λ h. sub_cases c d (λ (z : ℤ). negsuc (b - suc a) ≡ z) (λ k. ap negsuc (omega arith)) (λ k. absurd (omega arith)))
    (λ h. sub_cases c d (λ (z : ℤ). pos (a - b) ≡ z) (λ k. absurd (omega arith)) (λ k. ap pos (omega arith)))

pub neg_pos : (n : ℕ) → neg_ℤ (pos n) ≡ sub_ℕ 0 n
neg_pos zero = pos_sub 0
neg_pos (suc n) = neg_as_sub n

pub neg_sub : (a b : ℕ) → neg_ℤ (sub_ℕ a b) ≡ sub_ℕ b a
neg_sub a b =
    sub_cases a b (λ (z : ℤ). neg_ℤ z ≡ sub_ℕ b a)
    (λ h. pos_sub (suc (b - suc a)) ∙ eq_sub (suc (b - suc a)) 0 b a (omega arith))
    (λ h. neg_pos (a - b) ∙ eq_sub 0 (a - b) b a (omega arith))

pub add_sub : (a b c d : ℕ) → sub_ℕ a b +ℤ sub_ℕ c d ≡ sub_ℕ (a + c) (b + d)
add_sub a b c d =
    sub_cases a b (λ (z : ℤ). z +ℤ sub_ℕ c d ≡ sub_ℕ (a + c) (b + d))
    (λ h. sub_cases c d (λ (z : ℤ). negsuc (b - suc a) +ℤ z ≡ sub_ℕ (a + c) (b + d))
    (λ k. neg_as_sub (suc ((b - suc a) + (d - suc c))) ∙ eq_sub 0 (suc (suc ((b - suc a) + (d - suc c)))) (a + c) (b + d) (omega arith))
    (λ k. eq_sub (c - d) (suc (b - suc a)) (a + c) (b + d) (omega arith)))
    (λ h. sub_cases c d (λ (z : ℤ). pos (a - b) +ℤ z ≡ sub_ℕ (a + c) (b + d))
    (λ k. eq_sub (a - b) (suc (d - suc c)) (a + c) (b + d) (omega arith))
    (λ k. pos_sub ((a - b) + (c - d)) ∙ eq_sub ((a - b) + (c - d)) 0 (a + c) (b + d) (omega arith)))

same_ltb : (m n p q : ℕ) → (m < n → p < q) → (n ≤ m → q ≤ p) → ltb m n ≡ ltb p q
same_ltb m n p q f g = go (ltb m n) refl
  where
    go : (c : Bool) → ltb m n ≡ c → ltb m n ≡ ltb p q
    go true e = e ∙ sym (lt-ltb p q (f (ltb-true m n e)))
    go false e = e ∙ sym (le-ltb p q (g (ltb-false m n e)))

pub lt_sub : (a b c d : ℕ) → lt_z (sub_ℕ a b) (sub_ℕ c d) ≡ ltb (a + d) (c + b)
lt_sub a b c d =
    sub_cases a b (λ (z : ℤ). lt_z z (sub_ℕ c d) ≡ ltb (a + d) (c + b))
    (λ h. sub_cases c d (λ (z : ℤ). lt_z (negsuc (b - suc a)) z ≡ ltb (a + d) (c + b))
    (λ k. same_ltb (d - suc c) (b - suc a) (a + d) (c + b) (λ l. omega arith) (λ l. omega arith))
    (λ k. sym (lt-ltb (a + d) (c + b) (omega arith))))
    (λ h. sub_cases c d (λ (z : ℤ). lt_z (pos (a - b)) z ≡ ltb (a + d) (c + b))
    (λ k. sym (le-ltb (a + d) (c + b) (omega arith)))
    (λ k. same_ltb (a - b) (c - d) (a + d) (c + b) (λ l. omega arith) (λ l. omega arith)))

-- ---- a number that is n when k is added to it, against a number m further on: what a cube's face asks of a vertex
as_sub : (z : ℤ) (n k m : ℕ) → z +ℤ pos k ≡ pos n → z -ℤ pos m ≡ sub_ℕ n (k + m)
as_sub z n k m e =
    ap (λ (x : ℤ). x -ℤ pos m) (sym (+ℤ-neg_ℤ_cancel z (pos k)) ∙ ap (λ (x : ℤ). x -ℤ pos k) e)
    ∙ ap (λ (x : ℤ). x -ℤ pos m) (plain n k)
    ∙ ap (λ (x : ℤ). sub_ℕ n k +ℤ x) (neg_pos m)
    ∙ add_sub n k 0 m
    ∙ eq_sub (n + 0) (k + m) n (k + m) (omega arith)
  where
    plain : (n k : ℕ) → pos n -ℤ pos k ≡ sub_ℕ n k
    plain n k =
        ap (λ (x : ℤ). x -ℤ pos k) (pos_sub n) ∙ ap (λ (x : ℤ). sub_ℕ n 0 +ℤ x) (neg_pos k) ∙ add_sub n 0 0 k ∙ eq_sub (n + 0) (0 + k) n k (omega arith)

pub before_face : (z : ℤ) (n k m : ℕ) → z +ℤ pos k ≡ pos n → lt_z (z -ℤ pos m) (neg_ℤ (pos k)) ≡ ltb n m
before_face z n k m e =
    ap (λ (x : ℤ). lt_z x (neg_ℤ (pos k))) (as_sub z n k m e) ∙ ap (λ (x : ℤ). lt_z (sub_ℕ n (k + m)) x) (neg_pos k) ∙ lt_sub n (k + m) 0 k
    ∙ same_ltb (n + k) (0 + (k + m)) n m (λ l. omega arith) (λ l. omega arith)

pub past_face : (z : ℤ) (n k m : ℕ) → z +ℤ pos k ≡ pos n → lt_z (pos k) (z -ℤ pos m) ≡ ltb (m + k + k) n
past_face z n k m e =
    ap (λ (x : ℤ). lt_z (pos k) x) (as_sub z n k m e) ∙ ap (λ (x : ℤ). lt_z x (sub_ℕ n (k + m))) (pos_sub k) ∙ lt_sub k 0 n (k + m)
    ∙ same_ltb (k + (k + m)) (n + 0) (m + k + k) n (λ l. omega arith) (λ l. omega arith)
