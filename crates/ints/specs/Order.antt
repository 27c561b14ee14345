-- The order of whole numbers with a sign, as the tests `le_z` and `lt_z` decide it: reflexive, antisymmetric, turned round by a negation; the lesser and the greater of two, and a number taken to the other side.
use Rattle.std.specs.Prelude.{◌≡◌, refl, Bool, true, false, not, cond, ◌&&◌, ◌↔◌, ℕ, zero, suc, ◌+◌, ◌≤◌, ◌<◌, T, ltb, leb, ℤ, pos, negsuc, neg_ℤ, ◌+ℤ◌, ◌-ℤ◌}
use Rattle.std.proofs.Common.{sym, ap, subst, ◌∙◌, zero-le, suc-le-suc, le_refl, le_antisymm, le_of_suc-le-suc, not-suc-le-zero, arith, ltb→lt, lt→ltb, leb→le, le→leb, ltb-true, ltb-false, le-leb}
use Rattle.std.proofs.Math.IntN.{sub_ℕ}
use Rattle.std.specs.Int.Signed.{lt_z, le_z}
use Rattle.std.proofs.lemmas.Bool.{lt-leb}
use Rattle.ints.specs.Differences.{up, down, up_down, add_sub, neg_sub, lt_sub}

pub le_z_refl : (a : ℤ) → T (le_z a a)
le_z_refl (pos n) = le→leb n n (le_refl n)
le_z_refl (negsuc n) = le→leb n n (le_refl n)

pub le_z_antisym : (a b : ℤ) → T (le_z a b) → T (le_z b a) → a ≡ b
le_z_antisym (pos m) (pos n) h k = ap pos (le_antisymm (leb→le m n h) (leb→le n m k))
le_z_antisym (pos m) (negsuc n) h k = absurd h
le_z_antisym (negsuc m) (pos n) h k = absurd k
le_z_antisym (negsuc m) (negsuc n) h k = ap negsuc (le_antisymm (leb→le m n k) (leb→le n m h))

-- two tests that hold alike are one
pub same_test : (p q : Bool) → (T p → T q) → (T q → T p) → p ≡ q
same_test true true f g = refl
same_test true false f g = absurd (f tt)
same_test false true f g = absurd (g tt)
same_test false false f g = refl

leb_suc : (m n : ℕ) → leb (suc m) (suc n) ≡ leb m n
leb_suc m n =
    same_test (leb (suc m) (suc n)) (leb m n)
    (λ t. le→leb m n (le_of_suc-le-suc (leb→le (suc m) (suc n) t)))
    (λ t. le→leb (suc m) (suc n) (suc-le-suc (leb→le m n t)))

leb_none : (n : ℕ) → leb (suc n) 0 ≡ false
leb_none n = same_test (leb (suc n) 0) false (λ t. not-suc-le-zero (leb→le (suc n) 0 t)) (λ t. absurd t)

leb_least : (n : ℕ) → leb 0 n ≡ true
leb_least n = same_test (leb 0 n) true (λ t. tt) (λ t. le→leb 0 n zero-le)

pub le_z_neg : (a b : ℤ) → le_z (neg_ℤ a) (neg_ℤ b) ≡ le_z b a
le_z_neg (pos zero) (pos zero) = refl
le_z_neg (pos zero) (pos (suc n)) = sym (leb_none n)
le_z_neg (pos (suc m)) (pos zero) = sym (leb_least (suc m))
le_z_neg (pos (suc m)) (pos (suc n)) = sym (leb_suc n m)
le_z_neg (pos zero) (negsuc n) = leb_least (suc n)
le_z_neg (pos (suc m)) (negsuc n) = refl
le_z_neg (negsuc m) (pos zero) = leb_none m
le_z_neg (negsuc m) (pos (suc n)) = refl
le_z_neg (negsuc m) (negsuc n) = leb_suc m n

-- ---- strictly below

pub ap2 : {A B C : Type 0} (f : A → B → C) {a a' : A} {b b' : B} → a ≡ a' → b ≡ b' → f a b ≡ f a' b'
ap2 f p q = λ t. f (p t) (q t)

sum_sub : (a b : ℤ) → a +ℤ b ≡ sub_ℕ (up a + up b) (down a + down b)
sum_sub a b = ap2 ◌+ℤ◌ (up_down a) (up_down b) ∙ add_sub (up a) (down a) (up b) (down b)

less_sub : (a b : ℤ) → a -ℤ b ≡ sub_ℕ (up a + down b) (down a + up b)
less_sub a b = ap2 ◌-ℤ◌ (up_down a) (up_down b) ∙ ap (λ (z : ℤ). sub_ℕ (up a) (down a) +ℤ z) (neg_sub (up b) (down b)) ∙ add_sub (up a) (down a) (down b) (up b)

below_test : (a b : ℤ) → lt_z a b ≡ ltb (up a + down b) (up b + down a)
below_test a b = ap (λ (z : ℤ). lt_z z b) (up_down a) ∙ ap (λ (z : ℤ). lt_z (sub_ℕ (up a) (down a)) z) (up_down b) ∙ lt_sub (up a) (down a) (up b) (down b)

-- as a sum of numbers without a sign, for `omega`
pub lt_sums : (a b : ℤ) → T (lt_z a b) ↔ (up a + down b < up b + down a)
lt_sums a b = (
  (λ t. ltb→lt (up a + down b) (up b + down a) (subst T (below_test a b) t)),
  (λ h. subst T (sym (below_test a b)) (lt→ltb (up a + down b) (up b + down a) h)),
)

both : (p q : Bool) → T p → T q → T (p && q)
both true q s t = t
both false q s t = s

left : (p q : Bool) → T (p && q) → T p
left true q t = tt
left false q t = t

right : (p q : Bool) → T (p && q) → T q
right true q t = t
right false q t = absurd t

-- one below the other, or not
by_order : (a b : ℤ) (P : Bool → Type 0) → (up a + down b < up b + down a → P true) → (up b + down a ≤ up a + down b → P false) → P (lt_z a b)
by_order a b P f g = go (ltb (up a + down b) (up b + down a)) refl
  where
    go : (t : Bool) → ltb (up a + down b) (up b + down a) ≡ t → P (lt_z a b)
    go true e = subst P (sym (below_test a b ∙ e)) (f (ltb-true (up a + down b) (up b + down a) e))
    go false e = subst P (sym (below_test a b ∙ e)) (g (ltb-false (up a + down b) (up b + down a) e))

nat_le_not : (m n : ℕ) → leb m n ≡ not (ltb n m)
nat_le_not m n = go (ltb n m) refl
  where
    go : (t : Bool) → ltb n m ≡ t → leb m n ≡ not (ltb n m)
    go true e = lt-leb m n (ltb-true n m e) ∙ sym (ap not e)
    go false e = le-leb m n (ltb-false n m e) ∙ sym (ap not e)

pub lt_irrefl : (a : ℤ) → T (lt_z a a) → ⊥
lt_irrefl a t = let h = (lt_sums a a).0 t in omega arith

-- not above is not strictly above
pub le_not : (a b : ℤ) → le_z a b ≡ not (lt_z b a)
le_not (pos m) (pos n) = nat_le_not m n
le_not (pos m) (negsuc n) = refl
le_not (negsuc m) (pos n) = refl
le_not (negsuc m) (negsuc n) = nat_le_not n m

-- ---- the lesser and the greater of two

abbrev pub lesser : ℤ → ℤ → ℤ
lesser a b = cond (lt_z b a) b a

abbrev pub greater : ℤ → ℤ → ℤ
greater a b = cond (lt_z a b) b a

-- below the lesser is below both, and above the greater is above both
pub lt_lesser : (z a b : ℤ) → lt_z z (lesser a b) ≡ (lt_z z a && lt_z z b)
lt_lesser z a b =
    by_order b a (λ (t : Bool). lt_z z (cond t b a) ≡ (lt_z z a && lt_z z b))
    (λ h. same_test (lt_z z b) (lt_z z a && lt_z z b) (λ t. both (lt_z z a) (lt_z z b) ((lt_sums z a).1 (let k = (lt_sums z b).0 t in omega arith)) t) (λ t. right (lt_z z a) (lt_z z b) t))
    (λ h. same_test (lt_z z a) (lt_z z a && lt_z z b) (λ t. both (lt_z z a) (lt_z z b) t ((lt_sums z b).1 (let k = (lt_sums z a).0 t in omega arith))) (λ t. left (lt_z z a) (lt_z z b) t))

pub lt_greater : (z a b : ℤ) → lt_z (greater a b) z ≡ (lt_z a z && lt_z b z)
lt_greater z a b =
    by_order a b (λ (t : Bool). lt_z (cond t b a) z ≡ (lt_z a z && lt_z b z))
    (λ h. same_test (lt_z b z) (lt_z a z && lt_z b z) (λ t. both (lt_z a z) (lt_z b z) ((lt_sums a z).1 (let k = (lt_sums b z).0 t in omega arith)) t) (λ t. right (lt_z a z) (lt_z b z) t))
    (λ h. same_test (lt_z a z) (lt_z a z && lt_z b z) (λ t. both (lt_z a z) (lt_z b z) t ((lt_sums b z).1 (let k = (lt_sums a z).0 t in omega arith))) (λ t. left (lt_z a z) (lt_z b z) t))

-- ---- a number taken to the other side

pub lt_less : (s r a : ℤ) → lt_z (s +ℤ r) a ≡ lt_z s (a -ℤ r)
lt_less s r a =
    ap2 lt_z (sum_sub s r) (up_down a)
    ∙ lt_sub (up s + up r) (down s + down r) (up a) (down a)
    ∙ ap2 ltb (turn (up s) (up r) (down a)) (turn_back (up a) (down s) (down r))
    ∙ sym (ap2 lt_z (up_down s) (less_sub a r) ∙ lt_sub (up s) (down s) (up a + down r) (down a + up r))
  where
    turn : (x y z : ℕ) → x + y + z ≡ x + (z + y)
    turn x y z = omega arith

    turn_back : (x y z : ℕ) → x + (y + z) ≡ x + z + y
    turn_back x y z = omega arith

pub lt_more : (s r a : ℤ) → lt_z a (s -ℤ r) ≡ lt_z (a +ℤ r) s
lt_more s r a = sym (lt_less a r s)
