-- Laws of specs/Split.antt: the side of a rounded sum, and the points of a side one after the other. Assumes nothing.
use Rattle.std.specs.Prelude.{Ok}
use mathlib.Core.Bool.{Bool, true, false, not, cond, ◌&&◌, ◌||◌, true≢false}
use mathlib.Core.List.{List, [], ◌∷◌, ◌++◌}
use mathlib.Core.Path.{◌≡◌, refl, sym, ap, subst, ◌∙◌}
use Prim.Native.Nat.{ℕ, ◌+◌, ◌*◌, ◌/◌, ◌%◌, ◌≤◌, ◌<◌}
use native.Mathlib.Omega.{arith}
use lib.Dec.{T, eqb, ltb}
use lib.ListN.{length, get_or, set, length-append}
use lib.Ieee.{Float, nan, inf, fin, binary32, fits, add, lt, le, neg, of_bits}
use borrow.Author.Tests.{ltb-false, not-false}
use Rattle.grid.specs.Answers.{◌and_then◌}
use Rattle.grid.proofs.Checks.{passed, both_fine, or_false, first_fine}
use Rattle.numbers.proofs.Sign.{Sides, add_sides}
use Rattle.sizing.specs.Points.{bounded, length_fault, numbers_fault}
use Rattle.sizing.specs.Sizing.{points, coord}
use Rattle.sizing_points.proofs.Laws.{between_powers}
use Rattle.order.specs.Order.{chosen, join_all}
use Rattle.order.specs.Output.{Written, room_fault}
use Rattle.order.proofs.Lists.{chosen_with, chosen_without, chosen_most, chosen_rises, join_append, join_one, join_length, front_then, written_three}
use Rattle.order.proofs.Outputs.{written_none, room_fine}
use Rattle.planes.specs.declared.Side.{Side}
use Rattle.planes.specs.declared.Side.TheVariants.{First, Second}
use Rattle.planes.specs.Planes.{axis_fault}
use Rattle.planes.specs.Split.{exact_sum, goes_to, point_of, split_count, split_to, d_fault, split_fault, rooms_fault, Bounded}
use Rattle.planes_range.proofs.Ranges.{axis_fine}
use Rattle.grid.specs.declared.Reason.TheVariants.{BadCount, BadNumber}

-- ---- the bound on d, as the code has it

pub d_bounds : (x : Float) → (le (neg (of_bits binary32 1317011456)) x && le x (of_bits binary32 1317011456)) ≡ bounded 30 x
unfolding neg of_bits
d_bounds x = between_powers 30 x

-- ---- the side of a rounded sum

module _ (j k : ℕ) where
  sum_sides : (p d : Float) → bounded j p ≡ true → bounded k d ≡ true → T (fits binary32 p) → T (fits binary32 d) → Sides (add binary32 p d) (exact_sum p d)
  unfolding bounded exact_sum
  sum_sides nan d b c f g = absurd (true≢false (sym b))
  sum_sides (inf s) d b c f g = absurd (true≢false (sym b))
  sum_sides (fin s m e) nan b c f g = absurd (true≢false (sym c))
  sum_sides (fin s m e) (inf t) b c f g = absurd (true≢false (sym c))
  sum_sides (fin s m e) (fin t n h) b c f g = add_sides s m e t n h f g

module _ (p d : Float) (b : (bounded 20 p ≡ true) × (bounded 30 d ≡ true)) (f : T (fits binary32 p)) (g : T (fits binary32 d)) where
  pub to_first : not (lt (add binary32 p d) (of_bits binary32 0)) ≡ goes_to First p d
  unfolding goes_to of_bits
  to_first = ap not (sum_sides 20 30 p d b.0 b.1 f g).1

  pub to_second : not (lt (of_bits binary32 0) (add binary32 p d)) ≡ goes_to Second p d
  unfolding goes_to of_bits
  to_second = ap not (sum_sides 20 30 p d b.0 b.1 f g).0

-- ---- what no fault says

pub split_fine : (ps : List Float) (axis : ℕ) (d : Float) → split_fault ps axis d ≡ Ok tt → (axis ≤ 2) × Bounded ps d
split_fine ps axis d h =
    let n = length ps in
    let a = both_fine (length_fault n) (d_fault d and_then numbers_fault 1 ps and_then axis_fault axis) h in
    let b = both_fine (d_fault d) (numbers_fault 1 ps and_then axis_fault axis) a.1 in
    let c = both_fine (numbers_fault 1 ps) (axis_fault axis) b.1 in
    let l = or_false (not (eqb (n % 3) 0)) (ltb 65536 (n / 3)) (passed (not (eqb (n % 3) 0) || ltb 65536 (n / 3)) BadCount 0 (Ok tt) a.0).0 in (
      axis_fine axis c.1,
      record {
        each = (first_fine BadNumber (λ n. 1 + n) (bounded 20) nan ps).0 c.0;
        plane = not-false (bounded 30 d) (passed (not (bounded 30 d)) BadNumber 0 (Ok tt) b.0).0;
        few = omega (arith, ltb-false 65536 (n / 3) l.1);
      },
    )

pub rooms_fine : (a b m n : ℕ) → rooms_fault a b m n ≡ Ok tt → (3 * a ≤ m) × (3 * b ≤ n)
rooms_fine a b m n h =
    let w = both_fine (room_fault m (3 * a)) (room_fault n (3 * b)) h in
    (room_fine m (3 * a) w.0, room_fine n (3 * b) w.1)

-- ---- a point at place n of an output

pub point_put : (ps out : List Float) (n v : ℕ) → n + 3 ≤ length out → Written nan n (point_of ps v) out (set (set (set out n (get_or ps (3 * v) nan)) (n + 1) (coord ps 1 v)) (n + 2) (coord ps 2 v))
point_put ps out n v h =
    subst (λ (x : Float). Written nan n (x ∷ coord ps 1 v ∷ coord ps 2 v ∷ []) out (set (set (set out n (get_or ps (3 * v) nan)) (n + 1) (coord ps 1 v)) (n + 2) (coord ps 2 v)))
    (ap (λ (k : ℕ). get_or ps k nan) (let e : 3 * v ≡ 3 * v + 0 = omega arith in e)) (written_three nan n (get_or ps (3 * v) nan) (coord ps 1 v) (coord ps 2 v) out h)

-- ---- the points of a side, up to point v

module _ (side : Side) (ps : List Float) (axis : ℕ) (d : Float) where
  abbrev pub goes : ℕ → Bool
  goes v = goes_to side (coord ps axis v) d

  pub few_points : points ps < 65537 → split_count side ps axis d ≤ 65536
  few_points h = omega (arith, chosen_most goes (points ps))

  -- a loop that counts them, and one that writes them
  pub record Counted (n v : ℕ) : Type 0 where
    pub so_far : n ≡ length (chosen goes v)
    pub few : n ≤ v
    pub within : v ≤ points ps

  pub record Parted (before after : List Float) (n v : ℕ) : Type 0 where
    pub written : Written nan 0 (join_all (point_of ps) (chosen goes v)) before after
    pub so_far : n ≡ 3 * length (chosen goes v)
    pub few : n ≤ 3 * v
    pub within : v ≤ points ps

  pub counted_none : Counted 0 0
  unfolding chosen
  counted_none = record { so_far = refl; few = omega arith; within = omega arith }

  pub parted_none : (o : List Float) → Parted o o 0 0
  unfolding chosen join_all
  parted_none o = record { written = written_none nan 0 o; so_far = refl; few = omega arith; within = omega arith }

  -- what is equal to the list and the place
  pub parted_is : (o m k : List Float) (n j v : ℕ) → k ≡ m → j ≡ n → Parted o m n v → Parted o k j v
  parted_is o m k n j v e f w = subst (λ (l : List Float). Parted o l j v) (sym e) (subst (λ (i : ℕ). Parted o m i v) (sym f) w)

  pub counted_done : (n v : ℕ) → Counted n v → points ps ≤ v → n ≡ split_count side ps axis d
  counted_done n v w h = w.so_far ∙ ap (λ (k : ℕ). length (chosen goes k)) (let e : v ≡ points ps = omega (arith, w.within) in e)

  pub parted_done : (o m : List Float) (n v : ℕ) → Parted o m n v → points ps ≤ v → Written nan 0 (split_to side ps axis d) o m
  parted_done o m n v w h =
      subst (λ (k : ℕ). Written nan 0 (join_all (point_of ps) (chosen goes k)) o m) (let e : v ≡ points ps = omega (arith, w.within) in e) w.written

  joined_length : (vs : List ℕ) → length (join_all (point_of ps) vs) ≡ 3 * length vs
  joined_length vs = join_length (point_of ps) 3 (λ v. refl) vs

  pub side_length : length (split_to side ps axis d) ≡ 3 * split_count side ps axis d
  side_length = joined_length (chosen goes (points ps))

  module _ (v : ℕ) (h : v < points ps) where
    module _ (e : goes v ≡ false) where
      none_more : length (chosen goes (v + 1)) ≡ length (chosen goes v)
      none_more = ap (λ (vs : List ℕ). length vs) (chosen_without goes v e)

      pub parted_same : (o m : List Float) (n : ℕ) → Parted o m n v → Parted o m n (v + 1)
      parted_same o m n w =
          let q = sym (chosen_without goes v e) in
          record {
            written = subst (λ (vs : List ℕ). Written nan 0 (join_all (point_of ps) vs) o m) q w.written;
            so_far = w.so_far ∙ ap (λ (vs : List ℕ). 3 * length vs) q;
            few = omega (arith, w.few);
            within = omega arith;
          }

    module _ (e : goes v ≡ true) where
      one_more : length (chosen goes (v + 1)) ≡ length (chosen goes v) + 1
      one_more = ap (λ (vs : List ℕ). length vs) (chosen_with goes v e) ∙ length-append (chosen goes v) (v ∷ [])

      -- there is room for its three numbers
      pub parted_room : (o m : List Float) (n : ℕ) → Parted o m n v → 3 * split_count side ps axis d ≤ length o → n + 3 ≤ length m
      parted_room o m n w g = omega (arith, w.so_far, w.written.size, one_more, chosen_rises goes (v + 1) (points ps) (omega arith))

      pub parted_more : (o m k : List Float) (n : ℕ) → Parted o m n v → Written nan n (point_of ps v) m k → Parted o k (n + 3) (v + 1)
      parted_more o m k n w g = record {
        written =
            subst (λ (l : List Float). Written nan 0 l o k) joined
            (front_then nan n (join_all (point_of ps) (chosen goes v)) o m w.written (w.so_far ∙ sym (joined_length (chosen goes v))) (point_of ps v) k g);
        so_far = omega (arith, w.so_far, one_more);
        few = omega (arith, w.few);
        within = omega arith;
      }
        where
          joined : join_all (point_of ps) (chosen goes v) ++ point_of ps v ≡ join_all (point_of ps) (chosen goes (v + 1))
          joined =
              sym (ap (join_all (point_of ps)) (chosen_with goes v e) ∙ join_append (point_of ps) (chosen goes v) (v ∷ []) ∙ ap (λ (l : List Float). join_all (point_of ps) (chosen goes v) ++ l) (join_one (point_of ps) v))

    pub counted_on : (b : Bool) → goes v ≡ b → (n m : ℕ) → m ≡ cond b 1 0 → Counted n v → Counted (n + m) (v + 1)
    counted_on true e n m f w = record { so_far = omega (arith, f, w.so_far, one_more e); few = omega (arith, f, w.few); within = omega arith }
    counted_on false e n m f w = record { so_far = omega (arith, f, w.so_far, none_more e); few = omega (arith, f, w.few); within = omega arith }
