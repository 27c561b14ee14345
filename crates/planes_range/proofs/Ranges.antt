-- Laws of specs/PlaneRange.antt: what no fault says, and the planes one after the other. Assumes nothing.
use Rattle.std.specs.Prelude.{Ok}
use mathlib.Core.Bool.{Bool, true, false, cond, ◌||◌}
use mathlib.Core.List.{List, [], ◌∷◌, ◌++◌}
use mathlib.Core.Path.{◌≡◌, refl, ap, ◌∙◌}
use Prim.Native.Nat.{ℕ, zero, suc, ◌+◌, ◌-◌, ◌≤◌, ◌<◌}
use native.Mathlib.Numerals.{add-one}
use native.Mathlib.Omega.{arith}
use lib.Dec.{ltb, leb}
use lib.Ieee.{Float, nan}
use lib.ListN.{length, get_or}
use borrow.Author.Tests.{ltb-true, ltb-false, leb-false}
use Rattle.grid.specs.declared.Placement.{Placement}
use Rattle.grid.specs.Answers.{◌and_then◌}
use Rattle.grid.proofs.Checks.{passed, both_fine, or_false}
use Rattle.marking_mesh.specs.Faults.{origin_fault, lent_fault}
use Rattle.planes_range.specs.PlaneRange.{axis_fault, out_of_range, plane_range_fault, first_plane, past_plane, plane_count, plane_at, planes_of, planes_fault}
use Rattle.grid.specs.declared.Reason.TheVariants.{OutOfRange}

pub axis_fine : (axis : ℕ) → axis_fault axis ≡ Ok tt → axis ≤ 2
axis_fine axis h = ltb-false 2 axis (passed (ltb 2 axis) OutOfRange 0 (Ok tt) h).0

module _ (low high best step : ℕ) where
  -- indices and a step in their ranges
  pub record InRange : Type 0 where
    pub low_in : low < 256
    pub high_in : high < 256
    pub best_in : best < 256
    pub ordered : low ≤ high
    pub step_in : step ≤ 256

  pub range_fine : plane_range_fault low high best step ≡ Ok tt → InRange
  range_fine h =
      let a = or_false (((leb 256 low || leb 256 high) || leb 256 best) || ltb high low) (ltb 256 step) (passed (out_of_range low high best step) OutOfRange 0 (Ok tt) h).0 in
      let b = or_false ((leb 256 low || leb 256 high) || leb 256 best) (ltb high low) a.0 in
      let c = or_false (leb 256 low || leb 256 high) (leb 256 best) b.0 in
      let d = or_false (leb 256 low) (leb 256 high) c.0 in
      record {
        low_in = leb-false 256 low d.0;
        high_in = leb-false 256 high d.1;
        best_in = leb-false 256 best c.1;
        ordered = ltb-false high low b.1;
        step_in = ltb-false 256 step a.1;
      }

  pub planes_fine : (placement : Placement) (axis : ℕ) → planes_fault placement axis low high best step ≡ Ok tt → InRange
  planes_fine placement axis h =
      let a = both_fine (origin_fault placement) (lent_fault placement and_then axis_fault axis and_then plane_range_fault low high best step) h in
      let b = both_fine (lent_fault placement) (axis_fault axis and_then plane_range_fault low high best step) a.1 in
      range_fine (both_fine (axis_fault axis) (plane_range_fault low high best step) b.1).1

  -- every plane's index is in its range
  module _ (w : InRange) where
    first_in : first_plane low best step < 256
    first_in = go (ltb low (best - step))
      where
        go : (b : Bool) → cond b (best - step) low < 256
        go true = omega (arith, w.best_in)
        go false = w.low_in

    past_in : past_plane high best step ≤ 256
    past_in = go (ltb (best + step) high) refl
      where
        go : (b : Bool) → ltb (best + step) high ≡ b → cond b (best + step) high + 1 ≤ 256
        go true e = omega (arith, ltb-true (best + step) high e, w.high_in)
        go false e = omega (arith, w.high_in)

    pub planes_in : first_plane low best step + plane_count low high best step ≤ 256
    planes_in = within (first_plane low best step) (past_plane high best step) first_in past_in
      where
        within : (a b : ℕ) → a < 256 → b ≤ 256 → a + (b - a) ≤ 256
        within a b h g = omega arith

-- ---- the planes one after the other

module _ (origin scale : Float) where
  pub planes_length : (i n : ℕ) → length (planes_of origin scale i n) ≡ n
  unfolding planes_of
  planes_length i zero = refl
  planes_length i (suc n) = ap suc (planes_length (i + 1) n)

  pub planes_at : (i n k : ℕ) → k < n → get_or (planes_of origin scale i n) k nan ≡ plane_at origin scale (i + k)
  unfolding planes_of
  planes_at i zero k h = absurd (omega arith)
  planes_at i (suc n) zero h = ap (plane_at origin scale) (let e : i ≡ i + 0 = omega arith in e)
  planes_at i (suc n) (suc k) h = planes_at (i + 1) n k (omega arith) ∙ ap (plane_at origin scale) (let e : i + 1 + k ≡ i + suc k = omega arith in e)

  more : (i n : ℕ) → planes_of origin scale i (suc n) ≡ planes_of origin scale i n ++ (plane_at origin scale (i + n) ∷ [])
  unfolding planes_of
  more i zero = ap (λ (k : ℕ). plane_at origin scale k ∷ []) (let e : i ≡ i + 0 = omega arith in e)
  more i (suc n) =
      ap (λ (l : List Float). plane_at origin scale i ∷ l)
      (more (i + 1) n ∙ ap (λ (k : ℕ). planes_of origin scale (i + 1) n ++ (plane_at origin scale k ∷ [])) (let e : i + 1 + n ≡ i + suc n = omega arith in e))

  pub planes_more : (i n : ℕ) → planes_of origin scale i (n + 1) ≡ planes_of origin scale i n ++ (plane_at origin scale (i + n) ∷ [])
  planes_more i n = ap (λ (k : ℕ). planes_of origin scale i k) (add-one n) ∙ more i n

  pub planes_none : (i : ℕ) → planes_of origin scale i 0 ≡ []
  unfolding planes_of
  planes_none i = refl
