-- What sizing's answers say: that a result is settled, which numbers each way gives, that axes are in range, where the origin lies, and the reciprocal. Assumes nothing.
use Rattle.std.specs.Prelude.{Ok}
use mathlib.Core.Path.{◌≡◌, refl, sym, ◌∙◌, subst}
use mathlib.Core.Bool.{Bool, true, false, not, cond, ◌&&◌, ◌||◌, true≢false, false≢true}
use mathlib.Core.List.{List, [], ◌∷◌}
use Prim.Native.Nat.{ℕ, ◌+◌, ◌/◌, ◌%◌, ◌≤◌}
use native.Mathlib.Omega.{arith}
use lib.Dec.{T, leb, ltb, eqb}
use lib.ListN.{length}
use lib.IntN.{pos}
use lib.Ieee.{Float, fin, binary32, lt, le, div, mul}
use lib.Ieee.Scale.{finite}
use borrow.Author.Tests.{leb-false}
use Rattle.numbers.specs.Rounding.{Whole}
use Rattle.numbers.specs.Rounding.{ceil_of, trunc_of}
use Rattle.numbers.proofs.Order.{lt_through, lt_asym, lt_le, not_lt_le, not_le_lt, le_self}
use Rattle.grid.specs.declared.Axes.{Axes}
use Rattle.grid.specs.Answers.{Outcome, ◌and_then◌, is_one_of, Finds, Gives}
use Rattle.grid.specs.First.{first_not}
use Rattle.grid.specs.Grid.{Axis, Sound}
use Rattle.grid.specs.Checks.{axes_fault, bad_axis}
use Rattle.grid.proofs.Checks.{passed, both_fine, finds_if, finds_then, gives_then, answered, axes_fine}
use Rattle.grid.proofs.First.{both_true}
use Rattle.sizing.specs.declared.Spans.{Spans}
use Rattle.sizing.specs.Points.{bounded, length_fault, none_fault, numbers_fault, points_fault}
use Rattle.sizing.specs.Sizing.{Laid, Smallest, extent, spans_of, placed_at, size_fault, larger, natural, size_axes, grid_of, size_grid, by_size, resolution_fault, tops, main_axis, extent_at, least_extent, extent_fault, as_float, main_of, dmain_of, resolution_axes, resolution_scale, resolution_grid, by_resolution, least_size, greatest_size}
use Rattle.sizing.proofs.Laws.{resolution_fine}
use Rattle.sizing.proofs.Extremes.{x_spanned, y_spanned, z_spanned}
use Rattle.sizing.proofs.Ratio.{Extent, difference, whole_part, whole_quotient}
use Rattle.grid.specs.declared.Reason.TheVariants.{BadCount, NoPoints, BadNumber, BadSize, BadResolution, NoExtent, BadAxis}

-- ---- two results that fit a call's promise are one

-- for any promise: by_size and by_resolution
pub settled : (o : Outcome Laid) (a b : Outcome Laid) → a ≡ o → b ≡ o → a ≡ b
settled o a b p q = (p ∙ sym q)

-- ---- the points' checks

points_find : (ns : List ℕ) (ps : List Float) → Finds (1 ∷ 2 ∷ 3 ∷ ns) (points_fault ps)
points_find ns ps =
    let n = length ps in
    finds_then (1 ∷ 2 ∷ 3 ∷ ns) (length_fault n) (none_fault n and_then numbers_fault 0 ps)
    (finds_if (1 ∷ 2 ∷ 3 ∷ ns) (not (eqb (n % 3) 0) || ltb 65536 (n / 3)) BadCount 0 (Ok tt) tt tt)
    (finds_then (1 ∷ 2 ∷ 3 ∷ ns) (none_fault n) (numbers_fault 0 ps)
    (finds_if (1 ∷ 2 ∷ 3 ∷ ns) (eqb n 0) NoPoints 0 (Ok tt) tt tt)
    (finds_if (1 ∷ 2 ∷ 3 ∷ ns) (ltb (first_not (bounded 20) ps) n) BadNumber (0 + first_not (bounded 20) ps) (Ok tt) tt tt))

-- ---- by cell size: 1, 2, 3, 5, 8

axes_find : (ns : List ℕ) → T (is_one_of 8 ns) → (r : Axes) → Finds ns (axes_fault r)
axes_find ns h r = finds_if ns (bad_axis r.r0) BadAxis 0 _ h (finds_if ns (bad_axis r.r1) BadAxis 1 _ h (finds_if ns (bad_axis r.r2) BadAxis 2 (Ok tt) h tt))

pub size_numbers : (ps : List Float) (size : Float) → Gives (1 ∷ 2 ∷ 3 ∷ 5 ∷ 8 ∷ []) (by_size ps size)
size_numbers ps size =
    let ns : List ℕ = 1 ∷ 2 ∷ 3 ∷ 5 ∷ 8 ∷ [] in
    gives_then ns (points_fault ps and_then size_fault size) (size_grid (spans_of ps) size)
    (finds_then ns (points_fault ps) (size_fault size) (points_find (5 ∷ 8 ∷ []) ps) (finds_if ns (not (le least_size size && le size greatest_size)) BadSize 0 (Ok tt) tt tt))
    (λ f. gives_then ns (axes_fault (size_axes (spans_of ps) size)) _ (axes_find ns tt (size_axes (spans_of ps) size)) (λ g. tt))

-- ---- what an answer says, either way

pub record Answered (ps : List Float) (scale : Float) (l : Laid) : Type 0 where
  pub sound : Sound l.axes
  pub origin_x : Smallest ps 0 l.placement.x
  pub origin_y : Smallest ps 1 l.placement.y
  pub origin_z : Smallest ps 2 l.placement.z
  pub scale_is : l.placement.scale ≡ scale
  pub reciprocal_is : l.placement.reciprocal ≡ div binary32 (fin false 1 (pos 0)) l.placement.scale

module _ (ps : List Float) (points-fine : points_fault ps ≡ Ok tt) (scale : Float) (a : Axes) (l : Laid) where
  pub is_laid : grid_of a (placed_at (spans_of ps) scale) ≡ Ok l → Sound a × (record { axes = a; placement = placed_at (spans_of ps) scale } ≡ l)
  is_laid h =
      let w = answered (axes_fault a) (Ok (record { axes = a; placement = placed_at (spans_of ps) scale })) l h in
      ((axes_fine a).0 w.0, same (record { axes = a; placement = placed_at (spans_of ps) scale }) l w.1)
    where
      same : (x y : Laid) → ◌≡◌ {A = Outcome Laid} (Ok x) (Ok y) → x ≡ y
      same x y e = cc

  answered_by : grid_of a (placed_at (spans_of ps) scale) ≡ Ok l → Answered ps scale l
  answered_by h =
      let w = is_laid h in
      subst (Answered ps scale) w.1
      (record {
        sound = w.0;
        origin_x = (x_spanned ps points-fine).smallest;
        origin_y = (y_spanned ps points-fine).smallest;
        origin_z = (z_spanned ps points-fine).smallest;
        scale_is = refl;
        reciprocal_is = refl;
      })

-- each axis by size has 3 cells at least
three_cells : (n : ℕ) → 3 ≤ larger n 2 + 1
three_cells n = go (leb n 2) refl
  where
    go : (b : Bool) → leb n 2 ≡ b → 3 ≤ cond b 2 n + 1
    go true h = omega arith
    go false h = let l = leb-false n 2 h in omega arith

pub size_answer : (ps : List Float) (size : Float) (l : Laid) → by_size ps size ≡ Ok l
    → Answered ps size l × (3 ≤ l.axes.r0) × (3 ≤ l.axes.r1) × (3 ≤ l.axes.r2)
size_answer ps size l h =
    let w = answered (points_fault ps and_then size_fault size) (size_grid (spans_of ps) size) l h in
    let f = both_fine (points_fault ps) (size_fault size) w.0 in
    let s = spans_of ps in
    let e = (is_laid ps f.0 size (size_axes s size) l w.1).1 in (
      answered_by ps f.0 size (size_axes s size) l w.1,
      subst (λ (x : Laid). 3 ≤ x.axes.r0) e (three_cells (natural (ceil_of (div binary32 (extent s.x) size)))),
      subst (λ (x : Laid). 3 ≤ x.axes.r1) e (three_cells (natural (ceil_of (div binary32 (extent s.y) size)))),
      subst (λ (x : Laid). 3 ≤ x.axes.r2) e (three_cells (natural (ceil_of (div binary32 (extent s.z) size)))),
    )

-- ---- the main axis has the greatest extent

not_and : (a b : Bool) → (a && b) ≡ false → a ≡ true → b ≡ false
not_and true b h e = h
not_and false b h e = absurd (false≢true e)

module _ (a b c : Float) (p : T (finite a)) (q : T (finite b)) (r : T (finite c)) where
  -- if neither a nor b is at least the two others, a is at most c: else c < a, so a < b, so b < c, and c < b too
  third : tops a b c ≡ false → tops b a c ≡ false → le a c ≡ true
  third h k = go (lt c a) refl
    where
      go : (t : Bool) → lt c a ≡ t → le a c ≡ true
      go false e = not_lt_le a c p r e
      go true e =
          let ab : lt a b ≡ true = not_le_lt b a q p (left (le b a) refl) in
          let bc : lt b c ≡ true = not_le_lt c b r q (not_and (le a b) (le c b) k (lt_le a b p q ab)) in
          absurd (true≢false (sym bc ∙ lt_asym c b r q (lt_through c a b r p q e (lt_asym a b p q ab))))
        where
          left : (t : Bool) → le b a ≡ t → le b a ≡ false
          left true f = absurd (true≢false (sym (lt_le c a r p e) ∙ not_and (le b a) (le c a) h f))
          left false f = f

module _ (dx dy dz : Float) (p : T (finite dx)) (q : T (finite dy)) (r : T (finite dz)) where
  abbrev main : Float
  main = extent_at (main_axis dx dy dz) dx dy dz

  tallest : (le dx main ≡ true) × (le dy main ≡ true) × (le dz main ≡ true)
  tallest = go (tops dx dy dz) (tops dy dx dz) refl refl
    where
      go : (t u : Bool) → tops dx dy dz ≡ t → tops dy dx dz ≡ u
          → (le dx (extent_at (cond t 0 (cond u 1 2)) dx dy dz) ≡ true) × (le dy (extent_at (cond t 0 (cond u 1 2)) dx dy dz) ≡ true) × (le dz (extent_at (cond t 0 (cond u 1 2)) dx dy dz) ≡ true)
      go true u h k = (le_self dx p, (both_true (le dy dx) (le dz dx) h).0, (both_true (le dy dx) (le dz dx) h).1)
      go false true h k = ((both_true (le dx dy) (le dz dy) k).0, le_self dy q, (both_true (le dx dy) (le dz dy) k).1)
      go false false h k = (third dx dy dz p q r h k, third dy dx dz q p r k h, le_self dz r)

-- what holds of each extent holds of the main axis's
pub of_main : (P : Float → Type 0) (m : ℕ) (dx dy dz : Float) → P dx → P dy → P dz → P (extent_at m dx dy dz)
of_main P m dx dy dz x y z = go (eqb m 0) (eqb m 1)
  where
    go : (t u : Bool) → P (cond t dx (cond u dy dz))
    go true u = x
    go false true = y
    go false false = z

-- ---- by resolution no axis is at fault

pub extent_finite : {d : Float} → Extent d → T (finite d)
extent_finite {d} e = subst (λ (x : Float). T (finite x)) (sym e.is) tt

module _ (ps : List Float) (f : points_fault ps ≡ Ok tt) where
  abbrev s : Spans
  s = spans_of ps

  pub extents : Extent (extent s.x) × Extent (extent s.y) × Extent (extent s.z)
  extents =
      let x = x_spanned ps f in
      let y = y_spanned ps f in
      let z = z_spanned ps f in (
        difference s.x.lo s.x.hi x.low_bounded x.high_bounded x.in_order,
        difference s.y.lo s.y.hi y.low_bounded y.high_bounded y.in_order,
        difference s.z.lo s.z.hi z.low_bounded z.high_bounded z.in_order,
      )

  -- 01's refusal 7 speaks of the largest extent: that of the main axis is
  pub main_largest : (le (extent s.x) (dmain_of s) ≡ true) × (le (extent s.y) (dmain_of s) ≡ true) × (le (extent s.z) (dmain_of s) ≡ true)
  main_largest =
      tallest (extent s.x) (extent s.y) (extent s.z) (extent_finite extents.0) (extent_finite extents.1) (extent_finite extents.2)

-- a rounded quotient that is a count, so that what `natural` has for any other never shows
abbrev pub IsCount : Whole → Type 0
IsCount w = (n : ℕ) × (w ≡ Ok (pos n))

not_false : (b : Bool) → not b ≡ false → b ≡ true
not_false true h = refl
not_false false h = absurd (true≢false h)

-- by size and by resolution every axis is made of one
pub size_counts : (ps : List Float) (size : Float) → points_fault ps ≡ Ok tt → size_fault size ≡ Ok tt
    → IsCount (ceil_of (div binary32 (extent (spans_of ps).x) size)) × IsCount (ceil_of (div binary32 (extent (spans_of ps).y) size)) × IsCount (ceil_of (div binary32 (extent (spans_of ps).z) size))
size_counts ps size f g =
    let s = spans_of ps in
    let d = extents ps f in
    let b = not_false (le least_size size && le size greatest_size) (passed (not (le least_size size && le size greatest_size)) BadSize 0 (Ok tt) g).0 in
    let lo = (both_true (le least_size size) (le size greatest_size) b).0 in
    let hi = (both_true (le least_size size) (le size greatest_size) b).1 in
    (whole_quotient (extent s.x) size d.0 lo hi, whole_quotient (extent s.y) size d.1 lo hi, whole_quotient (extent s.z) size d.2 lo hi)

two_more_sound : (r n : ℕ) (w : Whole) → r ≤ 254 → w ≡ Ok (pos n) → n ≤ r → Axis (2 + natural w)
unfolding natural
two_more_sound r n w R e h = subst (λ (x : Whole). Axis (2 + natural x)) (sym e) (record { some = omega arith; most = omega arith })

axis_sound : (r : ℕ) → 2 ≤ r → r ≤ 254 → (t : Bool) (d m : Float) → Extent d → Extent m → le d m ≡ true → lt m least_extent ≡ false
    → Axis (cond t r (2 + natural (trunc_of (div binary32 (mul binary32 (as_float r) d) m))))
axis_sound r L R true d m D M h k = record { some = omega arith; most = omega arith }
axis_sound r L R false d m D M h k = let w = whole_part r R d m D M h k in two_more_sound r w.0 (trunc_of (div binary32 (mul binary32 (as_float r) d) m)) R w.1 w.2

pub resolution_sound : (ps : List Float) (r : ℕ) → points_fault ps ≡ Ok tt → resolution_fault r ≡ Ok tt → extent_fault (dmain_of (spans_of ps)) ≡ Ok tt
    → Sound (resolution_axes (spans_of ps) r)
resolution_sound ps r f g h =
    let s = spans_of ps in
    let d = extents ps f in
    let m = of_main Extent (main_of s) (extent s.x) (extent s.y) (extent s.z) d.0 d.1 d.2 in
    let t = main_largest ps f in
    let b = resolution_fine r g in
    let k = (passed (lt (dmain_of s) least_extent) NoExtent 0 (Ok tt) h).0 in record {
      axis0 = axis_sound r b.0 b.1 (eqb (main_of s) 0) (extent s.x) (dmain_of s) d.0 m t.0 k;
      axis1 = axis_sound r b.0 b.1 (eqb (main_of s) 1) (extent s.y) (dmain_of s) d.1 m t.1 k;
      axis2 = axis_sound r b.0 b.1 (eqb (main_of s) 2) (extent s.z) (dmain_of s) d.2 m t.2 k;
    }

pub resolution_counts : (ps : List Float) (r : ℕ) → points_fault ps ≡ Ok tt → resolution_fault r ≡ Ok tt → extent_fault (dmain_of (spans_of ps)) ≡ Ok tt
    → IsCount (trunc_of (div binary32 (mul binary32 (as_float r) (extent (spans_of ps).x)) (dmain_of (spans_of ps))))
    × IsCount (trunc_of (div binary32 (mul binary32 (as_float r) (extent (spans_of ps).y)) (dmain_of (spans_of ps))))
    × IsCount (trunc_of (div binary32 (mul binary32 (as_float r) (extent (spans_of ps).z)) (dmain_of (spans_of ps))))
resolution_counts ps r f g h =
    let s = spans_of ps in
    let d = extents ps f in
    let m = of_main Extent (main_of s) (extent s.x) (extent s.y) (extent s.z) d.0 d.1 d.2 in
    let t = main_largest ps f in
    let R = (resolution_fine r g).1 in
    let k = (passed (lt (dmain_of s) least_extent) NoExtent 0 (Ok tt) h).0 in
    let x = whole_part r R (extent s.x) (dmain_of s) d.0 m t.0 k in
    let y = whole_part r R (extent s.y) (dmain_of s) d.1 m t.1 k in
    let z = whole_part r R (extent s.z) (dmain_of s) d.2 m t.2 k in
    ((x.0, x.1), (y.0, y.1), (z.0, z.1))

-- 1, 2, 3, 6, 7: never 8
pub resolution_numbers : (ps : List Float) (r : ℕ) → Gives (1 ∷ 2 ∷ 3 ∷ 6 ∷ 7 ∷ []) (by_resolution ps r)
resolution_numbers ps r =
    let ns : List ℕ = 1 ∷ 2 ∷ 3 ∷ 6 ∷ 7 ∷ [] in
    let s = spans_of ps in
    gives_then ns (points_fault ps and_then resolution_fault r) (resolution_grid s r)
    (finds_then ns (points_fault ps) (resolution_fault r) (points_find (6 ∷ 7 ∷ []) ps) (finds_if ns (ltb r 2 || ltb 254 r) BadResolution 0 (Ok tt) tt tt))
    (λ f.
    let w = both_fine (points_fault ps) (resolution_fault r) f in
    gives_then ns (extent_fault (dmain_of s)) _ (finds_if ns (lt (dmain_of s) least_extent) NoExtent 0 (Ok tt) tt tt)
    (λ g. gives_then ns (axes_fault (resolution_axes s r)) _
    (subst (Finds ns) (sym ((axes_fine (resolution_axes s r)).1 (resolution_sound ps r w.0 w.1 g))) tt)
    (λ k. tt)))

pub resolution_answer : (ps : List Float) (r : ℕ) (l : Laid) → by_resolution ps r ≡ Ok l → Answered ps (resolution_scale (spans_of ps) r) l
resolution_answer ps r l h =
    let s = spans_of ps in
    let w = answered (points_fault ps and_then resolution_fault r) (resolution_grid s r) l h in
    let f = both_fine (points_fault ps) (resolution_fault r) w.0 in
    let e = answered (extent_fault (dmain_of s)) (grid_of (resolution_axes s r) (placed_at s (resolution_scale s r))) l w.1 in
    answered_by ps f.0 (resolution_scale s r) (resolution_axes s r) l e.1
