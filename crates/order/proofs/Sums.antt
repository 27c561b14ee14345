-- Cells may be counted in memory order: a sum over cell numbers is the sum over the cells in list order. Assumes nothing.
use mathlib.Core.Bool.{Bool, false, cond}
use mathlib.Core.Logic.{⊎_elim}
use mathlib.Core.Path.{◌≡◌, refl, sym, ap, ◌∙◌}
use mathlib.Core.List.{List, [], ◌∷◌, ◌++◌}
use Prim.Native.Nat.{ℕ, zero, suc, ◌+◌, ◌*◌, ◌≤◌, ◌<◌}
use native.Mathlib.Nat.{suc-mul, mul_comm}
use native.Mathlib.Omega.{arith}
use lib.ListN.{length, get_or, length-append}
use Rattle.grid.specs.declared.Axes.{Axes}
use Rattle.grid.specs.declared.Cell.{Cell}
use Rattle.grid.specs.Counts.{count}
use Rattle.grid.specs.Grid.{InGrid, cells, at}
use Rattle.grid.proofs.First.{le_or_lt}
use Rattle.order.specs.Order.{row, rows, slabs, in_order, keep}
use Rattle.order.proofs.Orders.{by_bool, keep_append}

-- f 0 + .. + f (n - 1)
unfoldable pub sum : (ℕ → ℕ) → ℕ → ℕ
sum f zero = 0
sum f (suc n) = sum f n + f n

sum_ext : (f g : ℕ → ℕ) (n : ℕ) → ((i : ℕ) → f i ≡ g i) → sum f n ≡ sum g n
unfolding sum
sum_ext f g zero e = refl
sum_ext f g (suc n) e = omega (arith, sum_ext f g n e, e n)

sum_zero : (n : ℕ) → sum (λ i. 0) n ≡ 0
unfolding sum
sum_zero zero = refl
sum_zero (suc n) = omega (arith, sum_zero n)

sum_plus : (f g : ℕ → ℕ) (n : ℕ) → sum (λ i. f i + g i) n ≡ sum f n + sum g n
unfolding sum
sum_plus f g zero = refl
sum_plus f g (suc n) = omega (arith, sum_plus f g n)

sum_swap : (f : ℕ → ℕ → ℕ) (a b : ℕ) → sum (λ i. sum (λ j. f i j) b) a ≡ sum (λ j. sum (λ i. f i j) a) b
unfolding sum
sum_swap f zero b = sym (sum_zero b)
sum_swap f (suc a) b = omega (arith, sum_swap f a b, sum_plus (λ j. sum (λ i. f i j) a) (λ j. f a j) b)

sum_from : (f : ℕ → ℕ) (a b : ℕ) → sum f (a + b) ≡ sum f a + sum (λ i. f (a + i)) b
unfolding sum
sum_from f a zero = ap (λ (n : ℕ). sum f n) (let e : a + 0 ≡ a = omega arith in e) ∙ omega arith
sum_from f a (suc b) = ap (λ (n : ℕ). sum f n) (let e : a + suc b ≡ suc (a + b) = omega arith in e) ∙ omega (arith, sum_from f a b)

-- b blocks of a numbers each
sum_blocks : (f : ℕ → ℕ) (a b : ℕ) → sum f (b * a) ≡ sum (λ k. sum (λ i. f (i + k * a)) a) b
unfolding sum
sum_blocks f a zero = ap (λ (n : ℕ). sum f n) (let e : 0 * a ≡ 0 = omega arith in e)
sum_blocks f a (suc b) =
    ap (λ (n : ℕ). sum f n) (suc-mul b a)
    ∙ sum_from f (b * a) a
    ∙ omega (arith, sum_blocks f a b, sum_ext (λ i. f (b * a + i)) (λ i. f (i + b * a)) a (λ i. ap (λ (n : ℕ). f n) (let e : b * a + i ≡ i + b * a = omega arith in e)))

sum_one : (f : ℕ → ℕ) → sum f 1 ≡ f 0
unfolding sum
sum_one f = omega arith

first_out : (f : ℕ → ℕ) (n : ℕ) → sum f (suc n) ≡ f 0 + sum (λ i. f (1 + i)) n
first_out f n = ap (λ (m : ℕ). sum f m) (let e : suc n ≡ 1 + n = omega arith in e) ∙ sum_from f 1 n ∙ omega (arith, sum_one f)

-- 1 where the test holds
unfoldable pub one : Bool → ℕ
one b = cond b 1 0

-- how many cells of a list are kept
module _ (p : Cell → Bool) where
  abbrev v : ℕ → ℕ → ℕ → ℕ
  v i j k = one (p (record { i = i; j = j; k = k }))

  kept_append : (xs ys : List Cell) → length (keep p (xs ++ ys)) ≡ length (keep p xs) + length (keep p ys)
  kept_append xs ys = ap (λ (cs : List Cell). length cs) (keep_append p xs ys) ∙ length-append (keep p xs) (keep p ys)

  kept_cons : (c : Cell) (cs : List Cell) → length (keep p (c ∷ cs)) ≡ one (p c) + length (keep p cs)
  unfolding keep one
  kept_cons c cs = by_bool (p c) (λ e. rw e (omega arith)) (λ e. rw e (omega arith))

  kept_row : (i j k n : ℕ) → length (keep p (row i j k n)) ≡ sum (λ a. v i j (k + a)) n
  unfolding row keep sum
  kept_row i j k zero = refl
  kept_row i j k (suc n) =
      kept_cons (record { i = i; j = j; k = k }) (row i j (k + 1) n)
      ∙ omega (
        arith,
        kept_row i j (k + 1) n,
        first_out (λ a. v i j (k + a)) n,
        ap (λ (m : ℕ). v i j m) (let e : k + 0 ≡ k = omega arith in e),
        sum_ext (λ a. v i j (k + 1 + a)) (λ a. v i j (k + (1 + a))) n (λ a. ap (λ (m : ℕ). v i j m) (let e : k + 1 + a ≡ k + (1 + a) = omega arith in e)),
      )

  kept_rows : (z i j n : ℕ) → length (keep p (rows z i j n)) ≡ sum (λ a. sum (λ k. v i (j + a) (0 + k)) z) n
  unfolding rows keep sum
  kept_rows z i j zero = refl
  kept_rows z i j (suc n) =
      kept_append (row i j 0 z) (rows z i (j + 1) n)
      ∙ omega (
        arith,
        kept_row i j 0 z,
        kept_rows z i (j + 1) n,
        first_out (λ a. sum (λ k. v i (j + a) (0 + k)) z) n,
        ap (λ (m : ℕ). sum (λ k. v i m (0 + k)) z) (let e : j + 0 ≡ j = omega arith in e),
        sum_ext (λ a. sum (λ k. v i (j + 1 + a) (0 + k)) z) (λ a. sum (λ k. v i (j + (1 + a)) (0 + k)) z) n (λ a. ap (λ (m : ℕ). sum (λ k. v i m (0 + k)) z) (let e : j + 1 + a ≡ j + (1 + a) = omega arith in e)),
      )

  kept_slabs : (y z i n : ℕ) → length (keep p (slabs y z i n)) ≡ sum (λ a. sum (λ j. sum (λ k. v (i + a) (0 + j) (0 + k)) z) y) n
  unfolding slabs keep sum
  kept_slabs y z i zero = refl
  kept_slabs y z i (suc n) =
      kept_append (rows z i 0 y) (slabs y z (i + 1) n)
      ∙ omega (
        arith,
        kept_rows z i 0 y,
        kept_slabs y z (i + 1) n,
        first_out (λ a. sum (λ j. sum (λ k. v (i + a) (0 + j) (0 + k)) z) y) n,
        ap (λ (m : ℕ). sum (λ j. sum (λ k. v m (0 + j) (0 + k)) z) y) (let e : i + 0 ≡ i = omega arith in e),
        sum_ext (λ a. sum (λ j. sum (λ k. v (i + 1 + a) (0 + j) (0 + k)) z) y) (λ a. sum (λ j. sum (λ k. v (i + (1 + a)) (0 + j) (0 + k)) z) y) n (λ a. ap (λ (m : ℕ). sum (λ j. sum (λ k. v m (0 + j) (0 + k)) z) y) (let e : i + 1 + a ≡ i + (1 + a) = omega arith in e)),
      )

  kept_cells : (r : Axes) → length (keep p (in_order r)) ≡ sum (λ i. sum (λ j. sum (λ k. v i j k) r.r2) r.r1) r.r0
  kept_cells r =
      kept_slabs r.r1 r.r2 0 r.r0
      ∙ sum_ext (λ i. sum (λ j. sum (λ k. v (0 + i) (0 + j) (0 + k)) r.r2) r.r1) (λ i. sum (λ j. sum (λ k. v i j k) r.r2) r.r1) r.r0
      (λ i. sum_ext (λ j. sum (λ k. v (0 + i) (0 + j) (0 + k)) r.r2) (λ j. sum (λ k. v i j k) r.r2) r.r1
      (λ j. sum_ext (λ k. v (0 + i) (0 + j) (0 + k)) (λ k. v i j k) r.r2
      (λ k. ap (λ (m : ℕ). v m (0 + j) (0 + k)) (zero_plus i) ∙ ap (λ (m : ℕ). v i m (0 + k)) (zero_plus j) ∙ ap (λ (m : ℕ). v i j m) (zero_plus k))))
    where
      zero_plus : (n : ℕ) → 0 + n ≡ n
      zero_plus n = omega arith

-- over numbers, as memory has them
module _ (r : Axes) (f : ℕ → ℕ) where
  by_number : sum f (r.r0 * r.r1 * r.r2) ≡ sum (λ i. sum (λ j. sum (λ k. f (i + j * r.r0 + k * (r.r0 * r.r1))) r.r2) r.r1) r.r0
  by_number =
      ap (λ (n : ℕ). sum f n) (mul_comm (r.r0 * r.r1) r.r2)
      ∙ sum_blocks f (r.r0 * r.r1) r.r2
      ∙ sum_ext (λ k. sum (λ a. f (a + k * (r.r0 * r.r1))) (r.r0 * r.r1)) (λ k. sum (λ j. sum (λ i. f (i + j * r.r0 + k * (r.r0 * r.r1))) r.r0) r.r1) r.r2
      (λ k. ap (λ (n : ℕ). sum (λ a. f (a + k * (r.r0 * r.r1))) n) (mul_comm r.r0 r.r1) ∙ sum_blocks (λ a. f (a + k * (r.r0 * r.r1))) r.r0 r.r1)
      ∙ sum_swap (λ k j. sum (λ i. f (i + j * r.r0 + k * (r.r0 * r.r1))) r.r0) r.r2 r.r1
      ∙ sum_ext (λ j. sum (λ k. sum (λ i. f (i + j * r.r0 + k * (r.r0 * r.r1))) r.r0) r.r2) (λ j. sum (λ i. sum (λ k. f (i + j * r.r0 + k * (r.r0 * r.r1))) r.r2) r.r0) r.r1
      (λ j. sum_swap (λ k i. f (i + j * r.r0 + k * (r.r0 * r.r1))) r.r2 r.r0)
      ∙ sum_swap (λ j i. sum (λ k. f (i + j * r.r0 + k * (r.r0 * r.r1))) r.r2) r.r1 r.r0

-- over a list of labels, one after the other
count_sum : (ok : ℕ → Bool) (l : List ℕ) → count ok l ≡ sum (λ n. one (ok (get_or l n 0))) (length l)
unfolding count sum one
count_sum ok [] = refl
count_sum ok (x ∷ l) =
    omega (
      arith,
      count_sum ok l,
      first_out (λ n. one (ok (get_or (x ∷ l) n 0))) (length l),
      sum_ext (λ n. one (ok (get_or (x ∷ l) (1 + n) 0))) (λ n. one (ok (get_or l n 0))) (length l) (λ n. ap (λ (k : ℕ). one (ok (get_or (x ∷ l) k 0))) (let e : 1 + n ≡ suc n = omega arith in e)),
    )

-- how many cells have a label that passes a test: in list order as in memory order
pub kept_count : (r : Axes) (l : List ℕ) (ok : ℕ → Bool) → length l ≡ cells r → length (keep (λ c. ok (at r l c)) (in_order r)) ≡ count ok l
kept_count r l ok e =
    kept_cells (λ c. ok (at r l c)) r
    ∙ sym (by_number r (λ n. one (ok (get_or l n 0))))
    ∙ ap (λ (n : ℕ). sum (λ n. one (ok (get_or l n 0))) n) (sym e)
    ∙ sym (count_sum ok l)

-- ---- one cell

sum_none : (f : ℕ → ℕ) (n : ℕ) → ((i : ℕ) → i < n → f i ≡ 0) → sum f n ≡ 0
unfolding sum
sum_none f zero h = refl
sum_none f (suc n) h = omega (arith, sum_none f n (λ i l. h i (omega arith)), h n (omega arith))

sum_single : (f : ℕ → ℕ) (n a : ℕ) → a < n → ((i : ℕ) → (i ≡ a → ⊥) → f i ≡ 0) → sum f n ≡ f a
unfolding sum
sum_single f zero a h z = absurd (none a h)
  where
    none : (a : ℕ) → a < 0 → ⊥
    none a h = omega arith
sum_single f (suc n) a h z =
    ⊎_elim
    (λ p. let e : n ≡ a = omega arith in omega (arith, sum_none f n (λ i l. z i (apart i l p)), ap f e))
    (λ p. omega (arith, sum_single f n a p z, z n (later p)))
    (le_or_lt n a)
  where
    apart : (i : ℕ) → i < n → n ≤ a → i ≡ a → ⊥
    apart i l p e = omega arith

    later : a < n → n ≡ a → ⊥
    later p e = omega arith

-- a set that has at most one cell
pub kept_one : (p : Cell → Bool) (r : Axes) (c : Cell) → InGrid r c → ((d : Cell) → (d ≡ c → ⊥) → p d ≡ false) → length (keep p (in_order r)) ≡ cond (p c) 1 0
unfolding one
kept_one p r c g z =
    kept_cells p r
    ∙ sum_single (λ i. sum (λ j. sum (λ k. v p i j k) r.r2) r.r1) r.r0 c.i g.i_in
    (λ i w. sum_none (λ j. sum (λ k. v p i j k) r.r2) r.r1 (λ j l. sum_none (λ k. v p i j k) r.r2 (λ k m. none i j k (λ e. w (ap (λ (d : Cell). d.i) e)))))
    ∙ sum_single (λ j. sum (λ k. v p c.i j k) r.r2) r.r1 c.j g.j_in
    (λ j w. sum_none (λ k. v p c.i j k) r.r2 (λ k m. none c.i j k (λ e. w (ap (λ (d : Cell). d.j) e))))
    ∙ sum_single (λ k. v p c.i c.j k) r.r2 c.k g.k_in (λ k w. none c.i c.j k (λ e. w (ap (λ (d : Cell). d.k) e)))
  where
    none : (i j k : ℕ) → (◌≡◌ {A = Cell} (record { i = i; j = j; k = k }) c → ⊥) → v p i j k ≡ 0
    none i j k w = ap {B = ℕ} (λ (b : Bool). cond b 1 0) (z (record { i = i; j = j; k = k }) w)
