-- What the answers of specs/Rounding.antt mean: each whole number that is given is the one that `IsNearest`, `IsCeiling` or `IsTruncation` describes, and the only one. Assumes nothing.
use Rattle.std.specs.Prelude.{Ok, Err}
use mathlib.Core.Path.{◌≡◌, refl, sym, ap, ◌∙◌, subst}
use mathlib.Core.Logic.{◌↔◌}
use Prim.Native.Nat.{ℕ, zero, suc, ◌*◌, ◌/◌, ◌≤◌, ◌<◌}
use native.Mathlib.Nat.{le-div_iff_mul-le, div-lt_iff_lt-mul, mul-pos, zero-lt-suc, lt_irrefl}
use native.Mathlib.Omega.{arith}
use mathlib.Core.Bool.{Bool, true, false, not}
use lib.Dec.{T, ltb, leb→le, le→leb}
use lib.IntN.{ℤ, pos, negsuc, neg_ℤ, neg_ℤ-neg_ℤ, *ℤ_comm, ◌*ℤ◌, ◌+ℤ◌}
use lib.Signed.{le_z}
use lib.Ieee.{fin, up, down}
use lib.Ieee.Fits.{down_pos}
use borrow.Author.Tests.{lt-ltb, le-ltb, ltb-false}
use Rattle.ints.specs.Order.{le_z_refl, le_z_antisym, le_z_neg}
use Rattle.ints.specs.Ring.{mul_neg}
use Rattle.numbers.specs.declared.NoWhole.TheVariants.{TooLarge}
use Rattle.numbers.specs.Rounding.{Whole, IsFloor, IsCeil, IsNearest, IsCeiling, IsTruncation, limit, signed, floor_z, pick_whole, under_limit, nearest_of, ceil_of, trunc_of}
use Rattle.numbers.proofs.Laws.{pred_lt, lt_pred}

below_neg : (n : ℕ) (a : ℕ) → 0 < n → T (le_z (neg_ℤ (pos n)) (pos a))
below_neg zero a h = absurd (lt_irrefl 0 h)
below_neg (suc n) a h = tt

neg_le : (n a : ℕ) → 0 < n → T (le_z (neg_ℤ (pos n)) (negsuc a)) → a < n
neg_le zero a h t = absurd (lt_irrefl 0 h)
neg_le (suc n) a h t = pred_lt a n (leb→le a n t)

le_neg : (n a : ℕ) → 0 < n → a < n → T (le_z (neg_ℤ (pos n)) (negsuc a))
le_neg zero a h l = absurd (lt_irrefl 0 h)
le_neg (suc n) a h l = le→leb a n (lt_pred a n l)

-- ---- the floor and the ceiling of a fraction

pub floor_is : (a : ℤ) (d : ℕ) → 0 < d → IsFloor a d (floor_z a d)
floor_is (pos a) d D (pos k) =
    ((λ t. le→leb k (a / d) ((le-div_iff_mul-le D).1 (leb→le (k * d) a t))), (λ t. le→leb (k * d) a ((le-div_iff_mul-le D).0 (leb→le k (a / d) t))))
floor_is (negsuc a) d D (pos k) = ((λ t. t), (λ t. t))
floor_is (pos a) d D (negsuc k) = ((λ t. tt), (λ t. below_neg (suc k * d) a (mul-pos (zero-lt-suc k) D)))
floor_is (negsuc a) d D (negsuc k) =
    let P = mul-pos (zero-lt-suc k) D in (
      (λ t. le→leb (a / d) k (lt_pred (a / d) k ((div-lt_iff_lt-mul D).1 (neg_le (suc k * d) a P t)))),
      (λ t. le_neg (suc k * d) a P ((div-lt_iff_lt-mul D).0 (pred_lt (a / d) k (leb→le (a / d) k t)))),
    )

pub floor_one : (a : ℤ) (d : ℕ) (p q : ℤ) → IsFloor a d p → IsFloor a d q → p ≡ q
floor_one a d p q h k = le_z_antisym p q ((k p).0 ((h p).1 (le_z_refl p))) ((h q).0 ((k q).1 (le_z_refl q)))

pub ceil_one : (a : ℤ) (d : ℕ) (p q : ℤ) → IsCeil a d p → IsCeil a d q → p ≡ q
ceil_one a d p q h k = le_z_antisym p q ((h q).0 ((k q).1 (le_z_refl q))) ((k p).0 ((h p).1 (le_z_refl p)))

neg_mul : (k : ℤ) (d : ℕ) → neg_ℤ k *ℤ pos d ≡ neg_ℤ (k *ℤ pos d)
neg_mul k d = *ℤ_comm (neg_ℤ k) (pos d) ∙ mul_neg (pos d) k ∙ ap neg_ℤ (*ℤ_comm (pos d) k)

-- the ceiling of -b / d is the floor of b / d, negated
pub ceil_of_floor : (b : ℤ) (d : ℕ) (q : ℤ) → IsFloor b d q → IsCeil (neg_ℤ b) d (neg_ℤ q)
ceil_of_floor b d q h k =
    let f = h (neg_ℤ k) in
    let left : le_z (neg_ℤ k *ℤ pos d) b ≡ le_z (neg_ℤ b) (k *ℤ pos d) =
    sym (le_z_neg b (neg_ℤ k *ℤ pos d)) ∙ ap (λ (z : ℤ). le_z (neg_ℤ b) z) (ap neg_ℤ (neg_mul k d) ∙ neg_ℤ-neg_ℤ (k *ℤ pos d)) in
    let right : le_z (neg_ℤ k) q ≡ le_z (neg_ℤ q) k = sym (le_z_neg q (neg_ℤ k)) ∙ ap (λ (z : ℤ). le_z (neg_ℤ q) z) (neg_ℤ-neg_ℤ k) in
    ((λ t. subst T right (f.0 (subst T (sym left) t))), (λ t. subst T left (f.1 (subst T (sym right) t))))

-- ---- an answer under the limit is the one number that is described

other_kinds : (q : ℤ) → ◌≡◌ {A = Whole} (Err TooLarge) (Ok q) → ⊥
other_kinds q e = let z : ◌≡◌ {A = ℕ} 0 1 = cc in omega arith

module _ (n d : ℕ) (z : ℤ) where
  pub answered : (P : ℤ → Type 0) → n < limit * d → P z → ((p q : ℤ) → P p → P q → p ≡ q) → (q : ℤ) → (under_limit n d z ≡ Ok q) ↔ P q
  answered P l h one q =
      let e = lt-ltb n (limit * d) l in
      let is : under_limit n d z ≡ Ok z = ap (λ (b : Bool). pick_whole b (Ok z) (Err TooLarge)) e in (
        (λ r. let s : z ≡ q = same z q (sym is ∙ r) in subst P s h),
        (λ r. is ∙ ap Ok (one z q h r)),
      )
    where
      same : (p q : ℤ) → ◌≡◌ {A = Whole} (Ok p) (Ok q) → p ≡ q
      same p q e = cc

  pub too_large : (under_limit n d z ≡ Err TooLarge) ↔ (limit * d ≤ n)
  too_large = ((λ r. ltb-false n (limit * d) (go (ltb n (limit * d)) refl r)), (λ l. ap (λ (b : Bool). pick_whole b (Ok z) (Err TooLarge)) (le-ltb n (limit * d) l)))
    where
      go : (b : Bool) → ltb n (limit * d) ≡ b → pick_whole b (Ok z) (Err TooLarge) ≡ Err TooLarge → ltb n (limit * d) ≡ false
      go true e r = absurd (other_kinds z (sym r))
      go false e r = e

module _ (s : Bool) (m : ℕ) (e : ℤ) (l : m * up e < limit * down e) (q : ℤ) where
  -- 01: q is the largest whole number not above p t + 1/2, of the exact t
  pub nearest_means : (p : ℕ) → (nearest_of p (fin s m e) ≡ Ok q) ↔ IsNearest p s m e q
  unfolding nearest_of
  nearest_means p =
      let a = signed s (2 * p * (m * up e)) +ℤ pos (down e) in
      let d = 2 * down e in
      answered (m * up e) (down e) (floor_z a d) (IsFloor a d) l (floor_is a d (mul-pos (zero-lt-suc 1) (down_pos e))) (floor_one a d) q

  pub ceil_means : (ceil_of (fin s m e) ≡ Ok q) ↔ IsCeiling s m e q
  unfolding ceil_of
  ceil_means =
      let a = signed s (m * up e) in
      let d = down e in
      answered (m * up e) d (neg_ℤ (floor_z (signed (not s) (m * up e)) d)) (IsCeil a d) l (ceil_at s (m * up e) d (down_pos e)) (ceil_one a d) q
    where
      ceil_at : (s : Bool) (n d : ℕ) → 0 < d → IsCeil (signed s n) d (neg_ℤ (floor_z (signed (not s) n) d))
      ceil_at true n d D = ceil_of_floor (pos n) d (floor_z (pos n) d) (floor_is (pos n) d D)
      ceil_at false n d D =
          subst (λ (b : ℤ). IsCeil b d (neg_ℤ (floor_z (neg_ℤ (pos n)) d))) (neg_ℤ-neg_ℤ (pos n))
          (ceil_of_floor (neg_ℤ (pos n)) d (floor_z (neg_ℤ (pos n)) d) (floor_is (neg_ℤ (pos n)) d D))

pub trunc_means : (s : Bool) (m : ℕ) (e : ℤ) → m * up e < limit * down e → (q : ℤ) → (trunc_of (fin s m e) ≡ Ok q) ↔ IsTruncation s m e q
unfolding trunc_of
trunc_means false m e l q =
    let n = m * up e in
    answered n (down e) (pos (n / down e)) (IsFloor (pos n) (down e)) l (floor_is (pos n) (down e) (down_pos e)) (floor_one (pos n) (down e)) q
trunc_means true m e l q =
    let n = m * up e in
    answered n (down e) (neg_ℤ (pos (n / down e))) (IsCeil (neg_ℤ (pos n)) (down e)) l
    (ceil_of_floor (pos n) (down e) (pos (n / down e)) (floor_is (pos n) (down e) (down_pos e)))
    (ceil_one (neg_ℤ (pos n)) (down e))
    q
