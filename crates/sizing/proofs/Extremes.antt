-- The spans of points without a fault: their lower ends are the smallest coordinates as 01 means it (`Smallest`), of which there is one, their upper ends the greatest. Assumes nothing.
use Rattle.std.specs.Prelude.{Ok}
use mathlib.Core.Path.{◌≡◌, refl, sym, ap, ◌∙◌, subst}
use mathlib.Core.Bool.{Bool, true, false, cond, true≢false, false≢true}
use mathlib.Core.List.{List}
use mathlib.Core.Logic.{◌⊎◌, inl, inr, ⊎_elim}
use Prim.Native.Nat.{ℕ, zero, suc, ◌+◌, ◌-◌, ◌*◌, ◌≤◌, ◌<◌}
use native.Mathlib.Nat.{le_of_suc-le-suc, le_refl, not-suc-le-zero}
use native.Mathlib.Omega.{arith}
use lib.Dec.{T, lit≤}
use lib.ListN.{length}
use lib.Ieee.{Float, nan, inf, fin, lt, le}
use lib.Ieee.Scale.{finite}
use Rattle.numbers.proofs.Order.{lt_through, lt_le, not_lt_le, le_not, le_self, le_through}
use Rattle.grid.proofs.First.{le_or_lt}
use Rattle.sizing.specs.declared.Spans.{Spans}
use Rattle.sizing.specs.Points.{bounded, points_fault}
use Rattle.sizing.specs.Sizing.{points, coord, Smallest, Greatest, lower, upper, spans_to, spans_of}
use Rattle.sizing.proofs.Laws.{whole_points, some_point, all_bounded}

-- ---- of a row of floats, the first n + 1

lowest : (ℕ → Float) → ℕ → Float
lowest f zero = f 0
lowest f (suc n) = lower (lowest f n) (f (suc n))

highest : (ℕ → Float) → ℕ → Float
highest f zero = f 0
highest f (suc n) = upper (highest f n) (f (suc n))

record Lowest (f : ℕ → Float) (n : ℕ) (v : Float) : Type 0 where
  place : ℕ
  in_row : place ≤ n
  value : v ≡ f place
  earliest : (j : ℕ) → j < place → lt v (f j) ≡ true
  least : (j : ℕ) → j ≤ n → le v (f j) ≡ true

record Highest (f : ℕ → Float) (n : ℕ) (v : Float) : Type 0 where
  place : ℕ
  in_row : place ≤ n
  value : v ≡ f place
  most : (j : ℕ) → j ≤ n → le (f j) v ≡ true

below_or_last : (j n : ℕ) → j ≤ suc n → (j ≤ n) ⊎ (j ≡ suc n)
below_or_last j n h = ⊎_elim (λ p. inl p) (λ q. inr (omega arith)) (le_or_lt j n)

only_none : (j : ℕ) → j ≤ 0 → j ≡ 0
only_none j h = omega arith

module _ (f : ℕ → Float) (N : ℕ) (held : (i : ℕ) → i ≤ N → T (finite (f i))) where
  at_place : (v : Float) (i : ℕ) → i ≤ N → v ≡ f i → T (finite v)
  at_place v i h e = subst (λ (x : Float). T (finite x)) (sym e) (held i h)

  lowest_is : (n : ℕ) → n ≤ N → Lowest f n (lowest f n)
  unfolding lowest
  lowest_is zero h = record {
    place = 0;
    in_row = le_refl 0;
    value = refl;
    earliest = λ j l. absurd (not-suc-le-zero l);
    least = λ j l. subst (λ (i : ℕ). le (f 0) (f i) ≡ true) (sym (only_none j l)) (le_self (f 0) (held 0 h));
  }
  lowest_is (suc n) h =
      let w = lowest_is n (omega arith) in
      step (lowest f n) (f (suc n)) w (at_place (lowest f n) w.place (omega (arith, w.in_row)) w.value) refl (lt (f (suc n)) (lowest f n)) refl
    where
      step : (v b : Float) → Lowest f n v → T (finite v) → b ≡ f (suc n) → (t : Bool) → lt b v ≡ t → Lowest f (suc n) (cond t b v)
      step v b w Vh e true l =
          let Bh = at_place b (suc n) h e in
          let under : (j : ℕ) → j ≤ n → lt b (f j) ≡ true = λ j k. lt_through b v (f j) Bh Vh (held j (omega arith)) l (le_not v (f j) Vh (held j (omega arith)) (w.least j k)) in record {
            place = suc n;
            in_row = le_refl (suc n);
            value = e;
            earliest = λ j k. under j (le_of_suc-le-suc k);
            least = λ j k. ⊎_elim (λ p. lt_le b (f j) Bh (held j (omega arith)) (under j p)) (λ q. subst (λ (x : Float). le b x ≡ true) (e ∙ ap f (sym q)) (le_self b Bh)) (below_or_last j n k);
          }
      step v b w Vh e false l =
          let Bh = at_place b (suc n) h e in record {
            place = w.place;
            in_row = omega (arith, w.in_row);
            value = w.value;
            earliest = w.earliest;
            least = λ j k. ⊎_elim (w.least j) (λ q. subst (λ (x : Float). le v x ≡ true) (e ∙ ap f (sym q)) (not_lt_le v b Vh Bh l)) (below_or_last j n k);
          }

  highest_is : (n : ℕ) → n ≤ N → Highest f n (highest f n)
  unfolding highest
  highest_is zero h = record {
    place = 0;
    in_row = le_refl 0;
    value = refl;
    most = λ j l. subst (λ (i : ℕ). le (f i) (f 0) ≡ true) (sym (only_none j l)) (le_self (f 0) (held 0 h));
  }
  highest_is (suc n) h =
      let w = highest_is n (omega arith) in
      step (highest f n) (f (suc n)) w (at_place (highest f n) w.place (omega (arith, w.in_row)) w.value) refl (lt (highest f n) (f (suc n))) refl
    where
      step : (v b : Float) → Highest f n v → T (finite v) → b ≡ f (suc n) → (t : Bool) → lt v b ≡ t → Highest f (suc n) (cond t b v)
      step v b w Vh e true l =
          let Bh = at_place b (suc n) h e in record {
            place = suc n;
            in_row = le_refl (suc n);
            value = e;
            most = λ j k. ⊎_elim
                (λ p. le_through (f j) v b (held j (omega arith)) Vh Bh (w.most j p) (lt_le v b Vh Bh l))
                (λ q. subst (λ (x : Float). le x b ≡ true) (e ∙ ap f (sym q)) (le_self b Bh))
                (below_or_last j n k);
          }
      step v b w Vh e false l =
          let Bh = at_place b (suc n) h e in record {
            place = w.place;
            in_row = omega (arith, w.in_row);
            value = w.value;
            most = λ j k. ⊎_elim (w.most j) (λ q. subst (λ (x : Float). le x v ≡ true) (e ∙ ap f (sym q)) (not_lt_le b v Bh Vh l)) (below_or_last j n k);
          }

-- ---- the spans are the lowest and the highest of the rows of coordinates

record Ends (ps : List Float) (n : ℕ) (s : Spans) : Type 0 where
  x_lo : s.x.lo ≡ lowest (coord ps 0) n
  x_hi : s.x.hi ≡ highest (coord ps 0) n
  y_lo : s.y.lo ≡ lowest (coord ps 1) n
  y_hi : s.y.hi ≡ highest (coord ps 1) n
  z_lo : s.z.lo ≡ lowest (coord ps 2) n
  z_hi : s.z.hi ≡ highest (coord ps 2) n

ends : (ps : List Float) (n : ℕ) → Ends ps n (spans_to ps n)
unfolding spans_to lowest highest
ends ps zero = record { x_lo = refl; x_hi = refl; y_lo = refl; y_hi = refl; z_lo = refl; z_hi = refl }
ends ps (suc n) =
    let e = ends ps n in record {
      x_lo = ap (λ (v : Float). lower v (coord ps 0 (suc n))) e.x_lo;
      x_hi = ap (λ (v : Float). upper v (coord ps 0 (suc n))) e.x_hi;
      y_lo = ap (λ (v : Float). lower v (coord ps 1 (suc n))) e.y_lo;
      y_hi = ap (λ (v : Float). upper v (coord ps 1 (suc n))) e.y_hi;
      z_lo = ap (λ (v : Float). lower v (coord ps 2 (suc n))) e.z_lo;
      z_hi = ap (λ (v : Float). upper v (coord ps 2 (suc n))) e.z_hi;
    }

bounded_finite : (k : ℕ) (x : Float) → bounded k x ≡ true → T (finite x)
unfolding bounded
bounded_finite k nan h = false≢true h
bounded_finite k (inf s) h = false≢true h
bounded_finite k (fin s m e) h = tt

-- what is said of each coordinate's lower and upper end
pub record Spanned (ps : List Float) (a : ℕ) (lo hi : Float) : Type 0 where
  pub smallest : Smallest ps a lo
  pub greatest : Greatest ps a hi
  pub low_bounded : bounded 20 lo ≡ true
  pub high_bounded : bounded 20 hi ≡ true
  pub in_order : le lo hi ≡ true

module _ (ps : List Float) (h : points_fault ps ≡ Ok tt) where
  in_list : (i a : ℕ) → i ≤ points ps - 1 → a < 3 → 3 * i + a < length ps
  in_list i a l k = omega (arith, whole_points ps h, some_point ps h)

  last_point : (i : ℕ) → i ≤ points ps - 1 → i < points ps
  last_point i l = omega (arith, some_point ps h)

  point_last : (i : ℕ) → i < points ps → i ≤ points ps - 1
  point_last i l = omega arith

  spanned : (a : ℕ) → a < 3 → Spanned ps a (lowest (coord ps a) (points ps - 1)) (highest (coord ps a) (points ps - 1))
  spanned a k =
      let n = points ps - 1 in
      let bound : (i : ℕ) → i ≤ n → bounded 20 (coord ps a i) ≡ true = λ i l. all_bounded ps h (3 * i + a) (in_list i a l k) in
      let held : (i : ℕ) → i ≤ n → T (finite (coord ps a i)) = λ i l. bounded_finite 20 (coord ps a i) (bound i l) in
      let low = lowest_is (coord ps a) n held n (le_refl n) in
      let high = highest_is (coord ps a) n held n (le_refl n) in
      let lo-held = at_place (coord ps a) n held (lowest (coord ps a) n) low.place low.in_row low.value in
      let hi-held = at_place (coord ps a) n held (highest (coord ps a) n) high.place high.in_row high.value in record {
        smallest = record {
          point = low.place;
          is_point = last_point low.place low.in_row;
          value = low.value;
          earliest = low.earliest;
          least = λ j l. low.least j (point_last j l);
        };
        greatest = record {
          point = high.place;
          is_point = last_point high.place high.in_row;
          value = high.value;
          most = λ j l. high.most j (point_last j l);
        };
        low_bounded = subst (λ (x : Float). bounded 20 x ≡ true) (sym low.value) (bound low.place low.in_row);
        high_bounded = subst (λ (x : Float). bounded 20 x ≡ true) (sym high.value) (bound high.place high.in_row);
        in_order = le_through (lowest (coord ps a) n) (coord ps a 0) (highest (coord ps a) n) lo-held (held 0 (omega arith)) hi-held (low.least 0 (omega arith)) (high.most 0 (omega arith));
      }

  -- 01: the origin is the smallest x, y and z; of equal values the earliest point's bits
  pub x_spanned : Spanned ps 0 (spans_of ps).x.lo (spans_of ps).x.hi
  x_spanned = let e = ends ps (points ps - 1) in subst (λ (v : Float). Spanned ps 0 v (spans_of ps).x.hi) (sym e.x_lo) (subst (λ (v : Float). Spanned ps 0 (lowest (coord ps 0) (points ps - 1)) v) (sym e.x_hi) (spanned 0 (lit≤ tt)))

  pub y_spanned : Spanned ps 1 (spans_of ps).y.lo (spans_of ps).y.hi
  y_spanned = let e = ends ps (points ps - 1) in subst (λ (v : Float). Spanned ps 1 v (spans_of ps).y.hi) (sym e.y_lo) (subst (λ (v : Float). Spanned ps 1 (lowest (coord ps 1) (points ps - 1)) v) (sym e.y_hi) (spanned 1 (lit≤ tt)))

  pub z_spanned : Spanned ps 2 (spans_of ps).z.lo (spans_of ps).z.hi
  z_spanned = let e = ends ps (points ps - 1) in subst (λ (v : Float). Spanned ps 2 v (spans_of ps).z.hi) (sym e.z_lo) (subst (λ (v : Float). Spanned ps 2 (lowest (coord ps 2) (points ps - 1)) v) (sym e.z_hi) (spanned 2 (lit≤ tt)))

  -- and there is one such value
  pub smallest_one : (a : ℕ) → a < 3 → (v w : Float) → Smallest ps a v → Smallest ps a w → v ≡ w
  smallest_one a k v w p q =
      ⊎_elim
      (λ l. ⊎_elim (λ r. p.value ∙ ap (coord ps a) (omega arith) ∙ sym q.value) (λ r. absurd (apart v w p q r)) (le_or_lt p.point q.point))
      (λ r. absurd (apart w v q p r))
      (le_or_lt q.point p.point)
    where
      bound : (i : ℕ) → i < points ps → T (finite (coord ps a i))
      bound i l = bounded_finite 20 (coord ps a i) (all_bounded ps h (3 * i + a) (in_list i a (point_last i l) k))

      held : (x : Float) (i : ℕ) → i < points ps → x ≡ coord ps a i → T (finite x)
      held x i l e = subst (λ (y : Float). T (finite y)) (sym e) (bound i l)

      -- if y's point were earlier than x's, x would be below y and not below it
      apart : (x y : Float) (p : Smallest ps a x) (q : Smallest ps a y) → q.point < p.point → ⊥
      apart x y p q l =
          let X = held x p.point p.is_point p.value in
          let Y = held y q.point q.is_point q.value in
          let under : lt x y ≡ true = subst (λ (z : Float). lt x z ≡ true) (sym q.value) (p.earliest q.point l) in
          let over : le y x ≡ true = subst (λ (z : Float). le y z ≡ true) (sym p.value) (q.least p.point p.is_point) in
          true≢false (sym under ∙ le_not y x Y X over)
