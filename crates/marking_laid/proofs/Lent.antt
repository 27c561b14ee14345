-- The placement that sizing answers is one that the calls take: neither 3 nor 5 follows from it. So a mesh over points that were sized is refused for its triangles alone (`size_mesh`, `resolution_mesh`). Assumes nothing.
use Rattle.std.specs.Prelude.{Ok}
use mathlib.Core.Path.{◌≡◌, refl, sym, ap, subst}
use mathlib.Core.Bool.{Bool, true, false, not, ◌&&◌}
use mathlib.Core.List.{List, [], ◌∷◌}
use Prim.Native.Nat.{ℕ, zero, suc, ◌+◌, ◌-◌, ◌*◌, ◌^◌, ◌≤◌, ◌<◌}
use native.Mathlib.Omega.{arith}
use lib.Dec.{T}
use lib.ListN.{length, get_or}
use lib.Ieee.{Float, nan, inf, fin, up, down, le, lt, eq}
use lib.Ieee.Positive.{num, den, den_pos, between, le→cross, cross→le}
use borrow.Author.Tests.{eq-eqb}
use Rattle.grid.specs.declared.Axes.{Axes}
use Rattle.grid.specs.declared.Placement.{Placement}
use Rattle.grid.specs.Answers.{◌and_then◌}
use Rattle.grid.specs.Grid.{Sound, cells}
use Rattle.grid.proofs.First.{both_true}
use Rattle.grid.proofs.Checks.{passed, not_false, both_fine, answered, fault_not, first_fine, axes_fine, buffer_fine}
use Rattle.sizing.specs.Points.{bounded, points_fault, length_fault, none_fault, numbers_fault}
use Rattle.sizing.specs.Sizing.{Laid, points, extent, spans_of, least_size, greatest_size, size_fault, size_axes, size_grid, by_size, grid_of, placed_at, least_extent, resolution_fault, extent_fault, main_of, dmain_of, resolution_axes, resolution_scale, resolution_grid, by_resolution}
use Rattle.sizing.proofs.Laws.{all_bounded, resolution_fine}
use Rattle.sizing.proofs.Extremes.{x_spanned, y_spanned, z_spanned}
use Rattle.sizing.proofs.Ranges.{is_laid, of_main, extents, main_largest}
use Rattle.sizing.proofs.Ratio.{Extent}
use Rattle.marking_mesh.specs.Faults.{origin_fault, missing_fault, least_scale, greatest_scale, lent_fault, lent_numbers_fault, input_fault, off_fault, mesh_fault}
use Rattle.marking_laid.proofs.Near.{plain}
use Rattle.marking_laid.proofs.Cover.{inverse, over_near}
use Rattle.marking_laid.proofs.Own.{size_never_10, resolution_never_10, positive_plain, plain_positive, main_plain, main_least, main_most}
use Rattle.grid.specs.declared.Reason.TheVariants.{BadSize, NoExtent, BadNumber}

-- a number that has no sign equals itself
eq_itself : (x : Float) → T (plain x) → eq x x ≡ true
unfolding eq
eq_itself nan p = absurd p
eq_itself (inf s) p = absurd p
eq_itself (fin true m e) p = absurd p
eq_itself (fin false m e) p = ap (λ (b : Bool). b && true) (eq-eqb (m * up e * down e) (m * up e * down e) refl)

-- ---- a placement over points, by a scale that may be lent

-- a scale from 2 ^ -18 to 2 ^ 21
pub record Lendable (s : Float) : Type 0 where
  pub is_plain : T (plain s)
  pub least : den s ≤ 2 ^ 18 * num s
  pub most : num s ≤ 2 ^ 21 * den s

holds : (b : Bool) → T b → b ≡ true
holds true t = refl
holds false t = absurd t

all_true : (a b c : Bool) → a ≡ true → b ≡ true → c ≡ true → not (a && b && c) ≡ false
all_true a b c p q r i = not (p i && q i && r i)

module _ (ps : List Float) (f : points_fault ps ≡ Ok tt) (s : Float) (w : Lendable s) where
  some : 0 < num s
  some = omega (arith, w.least, den_pos s)

  lent_fine : lent_fault (placed_at (spans_of ps) s) ≡ Ok tt
  lent_fine =
      let p = plain_positive s w.is_plain some in
      let lo : le least_scale s ≡ true = holds (le least_scale s) (cross→le least_scale s tt p (omega (arith, w.least))) in
      let hi : le s greatest_scale ≡ true = holds (le s greatest_scale) (cross→le s greatest_scale p tt (omega (arith, w.most))) in
      sym (fault_not _ BadSize 0 (Ok tt) (all_true _ _ _ lo hi (eq_itself (inverse s) (over_near s w.is_plain (omega (arith, w.least)) some).is_plain)))

  origin_fine : origin_fault (placed_at (spans_of ps) s) ≡ Ok tt
  origin_fine = (first_fine BadNumber (λ n. 0 + n) (bounded 20) nan _).1 each
    where
      each : (k : ℕ) → k < 3 → bounded 20 (get_or ((spans_of ps).x.lo ∷ (spans_of ps).y.lo ∷ (spans_of ps).z.lo ∷ []) k nan) ≡ true
      each zero h = (x_spanned ps f).low_bounded
      each (suc zero) h = (y_spanned ps f).low_bounded
      each (suc (suc zero)) h = (z_spanned ps f).low_bounded
      each (suc (suc (suc k))) h = absurd (let z : 3 ≤ suc (suc (suc k)) = omega arith in omega arith)

  numbers_fine : lent_numbers_fault ps (placed_at (spans_of ps) s) ≡ Ok tt
  numbers_fine i = origin_fine i and_then (first_fine BadNumber (λ n. 3 + n) (bounded 20) nan ps).1 (all_bounded ps f) i

  -- all but 10, of triangles that name points
  input_own : (ts : List ℕ) (r : Axes) (len : ℕ) → length_fault (length ts) ≡ Ok tt → missing_fault (points ps) ts ≡ Ok tt → Sound r → len ≡ cells r → input_fault ps ts r (placed_at (spans_of ps) s) len ≡ Ok tt
  input_own ts r len few named sound size =
      let a = both_fine (length_fault (length ps)) (none_fault (length ps) and_then numbers_fault 0 ps) f in
      let b = both_fine (none_fault (length ps)) (numbers_fault 0 ps) a.1 in
      λ i. (a.0 i and_then few i and_then b.0 i) and_then numbers_fine i and_then named i and_then lent_fine i and_then (axes_fine r).1 sound i and_then (buffer_fine r len).1 size i

mesh_own : (ps : List Float) (ts : List ℕ) (r : Axes) (placement : Placement) (len : ℕ) → input_fault ps ts r placement len ≡ Ok tt → off_fault ps ts r placement ≡ Ok tt → mesh_fault ps ts r placement len ≡ Ok tt
mesh_own ps ts r placement len a b i = a i and_then b i

-- ---- by cell size

size_lendable : (size : Float) → size_fault size ≡ Ok tt → Lendable size
size_lendable size h =
    let b = not_false (le least_size size && le size greatest_size) (passed (not (le least_size size && le size greatest_size)) BadSize 0 (Ok tt) h).0 in
    let lo : T (le least_size size) = subst T (sym (both_true (le least_size size) (le size greatest_size) b).0) tt in
    let hi : T (le size greatest_size) = subst T (sym (both_true (le least_size size) (le size greatest_size) b).1) tt in
    let p = between least_size size greatest_size tt tt lo hi in
    record {
      is_plain = positive_plain size p;
      least = omega (arith, le→cross least_size size tt p lo);
      most = omega (arith, le→cross size greatest_size p tt hi);
    }

pub size_mesh : (ps : List Float) (size : Float) (l : Laid) → by_size ps size ≡ Ok l → (ts : List ℕ) → length_fault (length ts) ≡ Ok tt → missing_fault (points ps) ts ≡ Ok tt
    → mesh_fault ps ts l.axes l.placement (cells l.axes) ≡ Ok tt
size_mesh ps size l h ts few named =
    let s = spans_of ps in
    let w = answered (points_fault ps and_then size_fault size) (size_grid s size) l h in
    let f = both_fine (points_fault ps) (size_fault size) w.0 in
    let e = is_laid ps f.0 size (size_axes s size) l w.1 in
    mesh_own ps ts l.axes l.placement (cells l.axes)
    (subst (λ (x : Laid). input_fault ps ts x.axes x.placement (cells x.axes) ≡ Ok tt) e.1
    (input_own ps f.0 size (size_lendable size f.1) ts (size_axes s size) (cells (size_axes s size)) few named e.0 refl))
    (size_never_10 ps size l h ts named)

-- ---- by resolution

pub resolution_mesh : (ps : List Float) (r : ℕ) (l : Laid) → by_resolution ps r ≡ Ok l → (ts : List ℕ) → length_fault (length ts) ≡ Ok tt → missing_fault (points ps) ts ≡ Ok tt
    → mesh_fault ps ts l.axes l.placement (cells l.axes) ≡ Ok tt
resolution_mesh ps r l h ts few named =
    let s = spans_of ps in
    let w = answered (points_fault ps and_then resolution_fault r) (resolution_grid s r) l h in
    let f = both_fine (points_fault ps) (resolution_fault r) w.0 in
    let g = answered (extent_fault (dmain_of s)) (grid_of (resolution_axes s r) (placed_at s (resolution_scale s r))) l w.1 in
    let e = is_laid ps f.0 (resolution_scale s r) (resolution_axes s r) l g.1 in
    let b = resolution_fine r f.1 in
    let k = (passed (lt (dmain_of s) least_extent) NoExtent 0 (Ok tt) g.0).0 in
    let d = extents ps f.0 in
    let m = of_main Extent (main_of s) (extent s.x) (extent s.y) (extent s.z) d.0 d.1 d.2 in
    let t = (main_largest ps f.0).0 in
    let more : r ≡ suc (r - 1) = omega (arith, b.0) in
    let few_more : 1 ≤ r - 1 = omega (arith, b.0) in
    let most : r - 1 ≤ 253 = omega (arith, b.1) in
    let z : Lendable (resolution_scale s r) = record {
      is_plain = main_plain (r - 1) r more few_more most (extent s.x) (dmain_of s) d.0 m t k;
      least = main_least (r - 1) r more few_more most (extent s.x) (dmain_of s) d.0 m t k;
      most = main_most (r - 1) r more few_more most (extent s.x) (dmain_of s) d.0 m t k;
    } in
    mesh_own ps ts l.axes l.placement (cells l.axes)
    (subst (λ (x : Laid). input_fault ps ts x.axes x.placement (cells x.axes) ≡ Ok tt) e.1
    (input_own ps f.0 (resolution_scale s r) z ts (resolution_axes s r) (cells (resolution_axes s r)) few named e.0 refl))
    (resolution_never_10 ps r l h ts named)
