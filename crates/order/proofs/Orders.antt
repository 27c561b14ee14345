-- A walk by `next_cell` gives the cells in list order. Assumes nothing.
use mathlib.Core.Bool.{Bool, true, false, cond}
use mathlib.Core.Logic.{⊎_elim}
use mathlib.Core.Path.{◌≡◌, refl, sym, ap, subst, ◌∙◌}
use mathlib.Core.List.{List, [], ◌∷◌, ◌++◌, append_assoc, append-nil}
use Prim.Native.Nat.{ℕ, zero, suc, ◌+◌, ◌*◌, ◌-◌, ◌≤◌, ◌<◌}
use native.Mathlib.Nat.{mul_assoc, suc-mul, sub-zero, zero-mul}
use native.Mathlib.Omega.{arith}
use lib.ListN.{length, length-append}
use lib.Dec.{ltb}
use borrow.Author.Tests.{lt-ltb, le-ltb}
use Rattle.grid.specs.declared.Axes.{Axes}
use Rattle.grid.specs.declared.Cell.{Cell}
use Rattle.grid.specs.Grid.{Sound, InGrid, cells}
use Rattle.grid.proofs.First.{le_or_lt}
use Rattle.order.specs.Order.{row, rows, slabs, in_order, keep, AtOrPast, key, next_cell}

-- either way of a test
pub by_bool : {A : Type 0} (x : Bool) → (x ≡ true → A) → (x ≡ false → A) → A
by_bool true f g = f refl
by_bool false f g = g refl

-- ---- the next cell is one of three

module _ (r : Axes) (c : Cell) where
  pub next_k : c.k + 1 < r.r2 → next_cell r c ≡ record { i = c.i; j = c.j; k = c.k + 1 }
  next_k h = rw (lt-ltb (c.k + 1) r.r2 h)

  pub next_j : r.r2 ≤ c.k + 1 → c.j + 1 < r.r1 → next_cell r c ≡ record { i = c.i; j = c.j + 1; k = 0 }
  next_j h g = rw (le-ltb (c.k + 1) r.r2 h, lt-ltb (c.j + 1) r.r1 g)

  pub next_i : r.r2 ≤ c.k + 1 → r.r1 ≤ c.j + 1 → next_cell r c ≡ record { i = c.i + 1; j = 0; k = 0 }
  next_i h g = rw (le-ltb (c.k + 1) r.r2 h, le-ltb (c.j + 1) r.r1 g)

  pub next_cases : (P : Cell → Type 0)
      → (c.k + 1 < r.r2 → P (record { i = c.i; j = c.j; k = c.k + 1 }))
      → (r.r2 ≤ c.k + 1 → c.j + 1 < r.r1 → P (record { i = c.i; j = c.j + 1; k = 0 }))
      → (r.r2 ≤ c.k + 1 → r.r1 ≤ c.j + 1 → P (record { i = c.i + 1; j = 0; k = 0 }))
      → P (next_cell r c)
  next_cases P f g h =
      ⊎_elim
      (λ p. ⊎_elim (λ q. subst P (sym (next_i p q)) (h p q)) (λ q. subst P (sym (next_j p q)) (g p q)) (le_or_lt r.r1 (c.j + 1)))
      (λ p. subst P (sym (next_k p)) (f p))
      (le_or_lt r.r2 (c.k + 1))

-- where a walk stands, as long as it is not past the last cell
pub stands_in : (r : Axes) (c : Cell) → AtOrPast r c → c.i < r.r0 → InGrid r c
stands_in r c s h = record { i_in = h; j_in = s.j_high; k_in = s.k_high }

pub first_stands : (r : Axes) → Sound r → AtOrPast r (record { i = 0; j = 0; k = 0 })
first_stands r s = record { i_high = omega arith; j_high = s.axis1.some; k_high = s.axis2.some }

-- what a walk has before it falls
pub falls : (r : Axes) (c : Cell) → Sound r → InGrid r c → 33554432 - key (next_cell r c) < 33554432 - key c
falls r c s g =
    next_cases r c (λ d. 33554432 - key d < 33554432 - key c)
    (λ p. omega (arith, g.i_in, g.j_in, g.k_in, s.axis0.most, s.axis1.most, s.axis2.most))
    (λ p q. omega (arith, g.i_in, g.j_in, g.k_in, s.axis0.most, s.axis1.most, s.axis2.most))
    (λ p q. omega (arith, g.i_in, g.j_in, g.k_in, s.axis0.most, s.axis1.most, s.axis2.most))

-- ---- what is left of the walk at c

unfoldable pub left : Axes → Cell → List Cell
left r c =
    cond (ltb c.i r.r0)
    (row c.i c.j c.k (r.r2 - c.k) ++ (rows r.r2 c.i (c.j + 1) (r.r1 - (c.j + 1)) ++ slabs r.r1 r.r2 (c.i + 1) (r.r0 - (c.i + 1))))
    []

row_none : (i j k n : ℕ) → n ≤ 0 → row i j k n ≡ []
unfolding row
row_none i j k n h = ap (λ (m : ℕ). row i j k m) (let e : n ≡ 0 = omega arith in e)

row_more : (i j k n : ℕ) → 0 < n → row i j k n ≡ record { i = i; j = j; k = k } ∷ row i j (k + 1) (n - 1)
unfolding row
row_more i j k n h = ap (λ (m : ℕ). row i j k m) (let e : n ≡ suc (n - 1) = omega arith in e)

rows_none : (z i j n : ℕ) → n ≤ 0 → rows z i j n ≡ []
unfolding rows
rows_none z i j n h = ap (λ (m : ℕ). rows z i j m) (let e : n ≡ 0 = omega arith in e)

rows_more : (z i j n : ℕ) → 0 < n → rows z i j n ≡ row i j 0 z ++ rows z i (j + 1) (n - 1)
unfolding rows
rows_more z i j n h = ap (λ (m : ℕ). rows z i j m) (let e : n ≡ suc (n - 1) = omega arith in e)

slabs_none : (y z i n : ℕ) → n ≤ 0 → slabs y z i n ≡ []
unfolding slabs
slabs_none y z i n h = ap (λ (m : ℕ). slabs y z i m) (let e : n ≡ 0 = omega arith in e)

slabs_more : (y z i n : ℕ) → 0 < n → slabs y z i n ≡ rows z i 0 y ++ slabs y z (i + 1) (n - 1)
unfolding slabs
slabs_more y z i n h = ap (λ (m : ℕ). slabs y z i m) (let e : n ≡ suc (n - 1) = omega arith in e)

module _ (r : Axes) (s : Sound r) where
  pub left_done : (c : Cell) → r.r0 ≤ c.i → left r c ≡ []
  unfolding left
  left_done c h = rw (le-ltb c.i r.r0 h, left)

  left_open : (c : Cell) → c.i < r.r0
      → left r c ≡ row c.i c.j c.k (r.r2 - c.k) ++ (rows r.r2 c.i (c.j + 1) (r.r1 - (c.j + 1)) ++ slabs r.r1 r.r2 (c.i + 1) (r.r0 - (c.i + 1)))
  unfolding left
  left_open c h = rw (lt-ltb c.i r.r0 h, left)

  -- at the start of a slab
  left_slab : (i : ℕ) → left r (record { i = i; j = 0; k = 0 }) ≡ slabs r.r1 r.r2 i (r.r0 - i)
  left_slab i =
      ⊎_elim
      (λ p. left_done (record { i = i; j = 0; k = 0 }) p ∙ sym (slabs_none r.r1 r.r2 i (r.r0 - i) (omega arith)))
      (λ q.
      left_open (record { i = i; j = 0; k = 0 }) q
      ∙ sym (append_assoc (row i 0 0 (r.r2 - 0)) (rows r.r2 i 1 (r.r1 - 1)) (slabs r.r1 r.r2 (i + 1) (r.r0 - (i + 1))))
      ∙ sym (
      slabs_more r.r1 r.r2 i (r.r0 - i) (omega arith)
      ∙ ap (λ (n : ℕ). rows r.r2 i 0 r.r1 ++ slabs r.r1 r.r2 (i + 1) n) (let e : r.r0 - i - 1 ≡ r.r0 - (i + 1) = omega arith in e)
      ∙ ap (λ (l : List Cell). l ++ slabs r.r1 r.r2 (i + 1) (r.r0 - (i + 1))) (rows_more r.r2 i 0 r.r1 s.axis1.some ∙ ap (λ (n : ℕ). row i 0 0 n ++ rows r.r2 i 1 (r.r1 - 1)) (sym (sub-zero r.r2)))))
      (le_or_lt r.r0 i)

  pub left_first : left r (record { i = 0; j = 0; k = 0 }) ≡ in_order r
  left_first = left_slab 0 ∙ ap (λ (n : ℕ). slabs r.r1 r.r2 0 n) (sub-zero r.r0)

  pub left_step : (c : Cell) → InGrid r c → left r c ≡ c ∷ left r (next_cell r c)
  left_step c g =
      let tail = rows r.r2 c.i (c.j + 1) (r.r1 - (c.j + 1)) ++ slabs r.r1 r.r2 (c.i + 1) (r.r0 - (c.i + 1)) in
      left_open c g.i_in
      ∙ ap (λ (l : List Cell). l ++ tail) (row_more c.i c.j c.k (r.r2 - c.k) (omega (arith, g.k_in)))
      ∙ ap (λ (l : List Cell). c ∷ l)
      (next_cases r c (λ d. row c.i c.j (c.k + 1) (r.r2 - c.k - 1) ++ tail ≡ left r d)
      (λ p. ap (λ (n : ℕ). row c.i c.j (c.k + 1) n ++ tail) (let e : r.r2 - c.k - 1 ≡ r.r2 - (c.k + 1) = omega arith in e)
      ∙ sym (left_open (record { i = c.i; j = c.j; k = c.k + 1 }) g.i_in))
      (λ p q. ap (λ (l : List Cell). l ++ tail) (row_none c.i c.j (c.k + 1) (r.r2 - c.k - 1) (omega arith))
      ∙ ap (λ (l : List Cell). l ++ slabs r.r1 r.r2 (c.i + 1) (r.r0 - (c.i + 1)))
      (rows_more r.r2 c.i (c.j + 1) (r.r1 - (c.j + 1)) (omega arith)
      ∙ ap (λ (n : ℕ). row c.i (c.j + 1) 0 r.r2 ++ rows r.r2 c.i (c.j + 1 + 1) n) (let e : r.r1 - (c.j + 1) - 1 ≡ r.r1 - (c.j + 1 + 1) = omega arith in e)
      ∙ ap (λ (n : ℕ). row c.i (c.j + 1) 0 n ++ rows r.r2 c.i (c.j + 1 + 1) (r.r1 - (c.j + 1 + 1))) (sym (sub-zero r.r2)))
      ∙ append_assoc (row c.i (c.j + 1) 0 (r.r2 - 0)) (rows r.r2 c.i (c.j + 1 + 1) (r.r1 - (c.j + 1 + 1))) (slabs r.r1 r.r2 (c.i + 1) (r.r0 - (c.i + 1)))
      ∙ sym (left_open (record { i = c.i; j = c.j + 1; k = 0 }) g.i_in))
      (λ p q. ap (λ (l : List Cell). l ++ tail) (row_none c.i c.j (c.k + 1) (r.r2 - c.k - 1) (omega arith))
      ∙ ap (λ (l : List Cell). l ++ slabs r.r1 r.r2 (c.i + 1) (r.r0 - (c.i + 1))) (rows_none r.r2 c.i (c.j + 1) (r.r1 - (c.j + 1)) (omega arith))
      ∙ sym (left_slab (c.i + 1))))

-- ---- the cells of a list that pass a test

pub keep_yes : (ok : Cell → Bool) (c : Cell) (cs : List Cell) → ok c ≡ true → keep ok (c ∷ cs) ≡ c ∷ keep ok cs
unfolding keep
keep_yes ok c cs e = rw (e, keep)

pub keep_no : (ok : Cell → Bool) (c : Cell) (cs : List Cell) → ok c ≡ false → keep ok (c ∷ cs) ≡ keep ok cs
unfolding keep
keep_no ok c cs e = rw (e, keep)

pub keep_append : (ok : Cell → Bool) (xs ys : List Cell) → keep ok (xs ++ ys) ≡ keep ok xs ++ keep ok ys
unfolding keep
keep_append ok [] ys = refl
keep_append ok (c ∷ xs) ys = by_bool (ok c) (λ e. rw e (ap (λ (l : List Cell). c ∷ l) (keep_append ok xs ys))) (λ e. rw e (keep_append ok xs ys))

-- a pass over the grid that has done the cells of `done` and stands at c
pub record Passing (r : Axes) (ok : Cell → Bool) (done : List Cell) (c : Cell) : Type 0 where
  pub on : AtOrPast r c
  pub split : done ++ keep ok (left r c) ≡ keep ok (in_order r)

module _ (r : Axes) (s : Sound r) (ok : Cell → Bool) where
  pub passing_first : Passing r ok [] (record { i = 0; j = 0; k = 0 })
  passing_first = record { on = first_stands r s; split = ap (keep ok) (left_first r s) }

  module _ (done : List Cell) (c : Cell) (a : Passing r ok done c) where
    pub passing_done : r.r0 ≤ c.i → done ≡ keep ok (in_order r)
    unfolding keep
    passing_done h = sym (append-nil done) ∙ ap (λ (cs : List Cell). done ++ keep ok cs) (sym (left_done r s c h)) ∙ a.split

    -- so many at least there are in all
    pub passing_fits : length done ≤ length (keep ok (in_order r))
    passing_fits = omega (arith, length-append done (keep ok (left r c)), ap (λ (cs : List Cell). length cs) a.split)

    module _ (h : c.i < r.r0) (d : Cell) (e : d ≡ next_cell r c) (o : AtOrPast r d) where
      now_left : left r c ≡ c ∷ left r d
      now_left = left_step r s c (stands_in r c a.on h) ∙ ap (λ (x : Cell). c ∷ left r x) (sym e)

      pub passing_no : ok c ≡ false → Passing r ok done d
      passing_no w = record { on = o; split = ap (λ (cs : List Cell). done ++ cs) (sym (ap (keep ok) now_left ∙ keep_no ok c (left r d) w)) ∙ a.split }

      pub passing_yes : ok c ≡ true → Passing r ok (done ++ (c ∷ [])) d
      passing_yes w = record {
        on = o;
        split =
            append_assoc done (c ∷ []) (keep ok (left r d))
            ∙ ap (λ (cs : List Cell). done ++ cs) (sym (ap (keep ok) now_left ∙ keep_yes ok c (left r d) w))
            ∙ a.split;
      }

      pub passing_room : ok c ≡ true → length done < length (keep ok (in_order r))
      passing_room w =
          omega (arith, length-append (done ++ (c ∷ [])) (keep ok (left r d)), length-append done (c ∷ []), ap (λ (cs : List Cell). length cs) (passing_yes w).split)

-- ---- as many cells as the grid has

length_row : (i j k n : ℕ) → length (row i j k n) ≡ n
unfolding row
length_row i j k zero = refl
length_row i j k (suc n) = ap suc (length_row i j (k + 1) n)

length_rows : (z i j n : ℕ) → length (rows z i j n) ≡ n * z
unfolding rows
length_rows z i j zero = sym (zero-mul z)
length_rows z i j (suc n) = length-append (row i j 0 z) (rows z i (j + 1) n) ∙ omega (arith, length_row i j 0 z, length_rows z i (j + 1) n, suc-mul n z)

length_slabs : (y z i n : ℕ) → length (slabs y z i n) ≡ n * (y * z)
unfolding slabs
length_slabs y z i zero = sym (zero-mul (y * z))
length_slabs y z i (suc n) = length-append (rows z i 0 y) (slabs y z (i + 1) n) ∙ omega (arith, length_rows z i 0 y, length_slabs y z (i + 1) n, suc-mul n (y * z))

pub length_order : (r : Axes) → length (in_order r) ≡ cells r
length_order r = length_slabs r.r1 r.r2 0 r.r0 ∙ sym (mul_assoc r.r0 r.r1 r.r2)
