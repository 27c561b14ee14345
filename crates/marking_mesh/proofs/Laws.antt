-- Laws of the specs of `marking_mesh`: what a vertex that falls on a cell is, what the checks say of a mesh, and a block's cells. Assumes nothing.
use Rattle.std.specs.Prelude.{Ok, Err}
use mathlib.Core.Path.{◌≡◌, refl, sym, ap, ◌∙◌}
use mathlib.Core.Bool.{Bool, true, false, ◌&&◌, cond, true≢false}
use mathlib.Core.Logic.{◌⊎◌, inl, inr, ⊎_elim}
use mathlib.Core.List.{List}
use Prim.Native.Nat.{ℕ, zero, suc, ◌+◌, ◌*◌, ◌/◌, ◌≤◌, ◌<◌, ◌^◌}
use native.Mathlib.Nat.{le_refl, div-add-mod}
use native.Mathlib.Omega.{arith}
use lib.Dec.{ltb, lit<}
use lib.IntN.{ℤ, pos, negsuc, ◌+ℤ◌, ◌-ℤ◌, -ℤ-+ℤ_cancel}
use lib.Signed.{lt_z, le_z}
use lib.ListN.{length, get_or}
use lib.Ieee.{Float, fin, binary32, of_bits, sub, mul, div, le, eq}
use borrow.Author.Tests.{ltb-true, ltb-false, lt-ltb, le-ltb, le-leb}
use mir.Syntax.{w64}
use mir.Val.{SFits, to_z, of_z}
use mir.Facts.{sfits_lit, to_z-of_z}
use Rattle.grid.specs.declared.Axes.{Axes}
use Rattle.grid.specs.declared.Cell.{Cell}
use Rattle.grid.specs.declared.Placement.{Placement}
use Rattle.grid.specs.Grid.{Axis, Sound, InGrid, cells}
use Rattle.grid.specs.Checks.{axes_fault}
use Rattle.grid.proofs.Checks.{both_fine, axes_fine, buffer_fine, first_fine}
use Rattle.grid.proofs.First.{both_true}
use Rattle.ints.specs.Bound.{In, Each, arg, in_add, in_eq, in3, every3}
use Rattle.ints.specs.Order.{lesser, greater, lt_lesser}
use Rattle.ints.specs.Differences.{eq_sub, pos_sub}
use Rattle.numbers.specs.Rounding.{Whole}
use Rattle.numbers.specs.declared.NoWhole.TheVariants.{TooLarge, NotANumber}
use Rattle.numbers.specs.Rounding.{units, half, nearest_of, cell_of}
use Rattle.numbers.proofs.Laws.{Fitting, nearest_fits, cell_fits}
use Rattle.sizing.specs.Points.{length_fault}
use Rattle.sizing.specs.Sizing.{points}
use Rattle.touch.specs.Touch.{along, vertex}
use Rattle.touch.specs.Bands.{TriangleFits}
use Rattle.touch.proofs.Meaning.{cell_near}
use Rattle.grid.specs.declared.Stretch.{Stretch}
use Rattle.grid.specs.declared.Block.{Block}
use Rattle.marking_mesh.specs.Mesh.{whole_units, units_at, vertex_of, on_axis, on_grid, triangles, corner, triangle_of, first_of, past_of, cell_along, candidate_along, is_candidate}
use Rattle.marking_mesh.specs.Faults.{names, missing_fault, least_scale, greatest_scale, lent_fault, off_fault, lengths_fault, lent_numbers_fault, input_fault, mesh_fault}
use Rattle.marking_mesh.specs.Ranges.{Named, OnGrid, OnCells, Held, StretchOf, BlockOf, between, holds}
use Rattle.grid.specs.declared.Reason.TheVariants.{MissingName, OffGrid}

-- ---- a vertex

-- a coordinate fits
pub parts_fits : (p o r : Float) → SFits w64 (units_at p o r)
unfolding units_at whole_units
parts_fits p o r = go (nearest_of units (mul binary32 (sub binary32 p o) r)) (nearest_fits (mul binary32 (sub binary32 p o) r))
  where
    go : (w : Whole) → Fitting w → SFits w64 (whole_units w)
    go (Ok q) f = f
    go (Err TooLarge) f = sfits_lit tt
    go (Err NotANumber) f = sfits_lit tt

-- a coordinate that falls on one of at most 256 cells: its cell, and its range
pub on_held : (n : ℕ) (q : ℤ) → on_axis n q ≡ true → (i : ℕ) × (cell_of q ≡ pos i) × (i < n)
unfolding on_axis
on_held n q h = go (cell_of q) refl h
  where
    go : (z : ℤ) → cell_of q ≡ z → (le_z (pos 0) z && lt_z z (pos n)) ≡ true → (i : ℕ) × (cell_of q ≡ pos i) × (i < n)
    go (pos i) e t = (i, e, ltb-true i n (both_true (le_z (pos 0) (pos i)) (ltb i n) t).1)
    go (negsuc i) e t = absurd (true≢false (sym t))

pub on_axis_held : (n : ℕ) (q : ℤ) → Axis n → on_axis n q ≡ true → Held (cell_of q)
on_axis_held n q a h = let w = on_held n q h in record { number = w.0; is = w.1; small = omega (arith, w.2, a.most) }

pub on_bound : (n : ℕ) (q : ℤ) → Axis n → on_axis n q ≡ true → In (2 ^ 18) q
on_bound n q a h =
    let w = on_held n q h in
    let i = w.0 in
    let near : In half (q -ℤ pos (units * i)) = record { bound = cell_near q i w.1 } in
    let whole : In (units * i) (pos (units * i)) = record { bound = le_refl (units * i) } in
    let all : In (half + units * i) q = in_eq (sym (-ℤ-+ℤ_cancel q (pos (units * i)))) (in_add near whole) in
    record { bound = omega (arith, all.bound, w.2, a.most) }

module _ (r : Axes) (v : List ℤ) (h : on_grid r v ≡ true) where
  pub on_i : on_axis r.r0 (along v 0) ≡ true
  on_i = (both_true (on_axis r.r0 (along v 0)) (on_axis r.r1 (along v 1)) (both_true (on_axis r.r0 (along v 0) && on_axis r.r1 (along v 1)) (on_axis r.r2 (along v 2)) h).0).0

  pub on_j : on_axis r.r1 (along v 1) ≡ true
  on_j = (both_true (on_axis r.r0 (along v 0)) (on_axis r.r1 (along v 1)) (both_true (on_axis r.r0 (along v 0) && on_axis r.r1 (along v 1)) (on_axis r.r2 (along v 2)) h).0).1

  pub on_k : on_axis r.r2 (along v 2) ≡ true
  on_k = (both_true (on_axis r.r0 (along v 0) && on_axis r.r1 (along v 1)) (on_axis r.r2 (along v 2)) h).1

-- ---- what the checks say

pub named : (ps : List Float) (ts : List ℕ) → missing_fault (points ps) ts ≡ Ok tt → Named ps ts
named ps ts h = record { names = λ k l. ltb-true (get_or ts k 0) (points ps) ((first_fine MissingName (λ k. k / 3) (names (points ps)) 0 ts).0 h k l) }

pub on_grid_lem : (ps : List Float) (ts : List ℕ) (r : Axes) (placement : Placement) → off_fault ps ts r placement ≡ Ok tt → OnGrid ps ts r placement
on_grid_lem ps ts r placement h = record { falls = λ k l. (first_fine OffGrid (λ k. k / 3) (λ v. on_grid r (vertex_of ps placement v)) 0 ts).0 h k l }

-- no fault of the first nine numbers: every corner names a point, the axes are sound, the buffer has a label for each cell
pub record Input (ps : List Float) (ts : List ℕ) (r : Axes) (placement : Placement) (len : ℕ) : Type 0 where
  pub few : length_fault (length ts) ≡ Ok tt
  pub numbers : lent_numbers_fault ps placement ≡ Ok tt
  pub named : Named ps ts
  pub lent : lent_fault placement ≡ Ok tt
  pub sound : Sound r
  pub size : len ≡ cells r

pub input_fine : (ps : List Float) (ts : List ℕ) (r : Axes) (placement : Placement) (len : ℕ) → input_fault ps ts r placement len ≡ Ok tt → Input ps ts r placement len
input_fine ps ts r placement len h =
    let a = both_fine (lengths_fault ps ts) _ h in
    let b = both_fine (lent_numbers_fault ps placement) _ a.1 in
    let c = both_fine (missing_fault (points ps) ts) _ b.1 in
    let d = both_fine (lent_fault placement) _ c.1 in
    let e = both_fine (axes_fault r) _ d.1 in
    record {
      few = (both_fine (length_fault (length ts)) _ (both_fine (length_fault (length ps)) _ a.0).1).0;
      numbers = b.0;
      named = named ps ts c.0;
      lent = d.0;
      sound = (axes_fine r).0 e.0;
      size = (buffer_fine r len).0 e.1;
    }

-- no fault at all
pub mesh_fine : (ps : List Float) (ts : List ℕ) (r : Axes) (placement : Placement) (len : ℕ) → mesh_fault ps ts r placement len ≡ Ok tt → Input ps ts r placement len × OnGrid ps ts r placement
mesh_fine ps ts r placement len h =
    let a = both_fine (input_fault ps ts r placement len) _ h in
    (input_fine ps ts r placement len a.0, on_grid_lem ps ts r placement a.1)

-- the numbers of a point and of a triangle are in the list
pub within_points : (n v : ℕ) → v < n / 3 → 3 * v + 2 < n
within_points n v h = omega (arith, div-add-mod n 3)

-- ---- a triangle

pub on_cells : (ps : List Float) (ts : List ℕ) (r : Axes) (placement : Placement) → OnGrid ps ts r placement → (t : ℕ) → t < triangles ts → OnCells r (triangle_of ps ts placement t)
on_cells ps ts r placement g t h =
    let l = within_points (length ts) t h in
    record { on0 = g.falls (3 * t + 0) (omega arith); on1 = g.falls (3 * t + 1) (omega arith); on2 = g.falls (3 * t + 2) l }

-- each of its vertices
pub on_vertex : (r : Axes) (t : List (List ℤ)) → OnCells r t → (v : ℕ) → v < 3 → on_grid r (vertex t v) ≡ true
on_vertex r t o zero k = o.on0
on_vertex r t o (suc zero) k = o.on1
on_vertex r t o (suc (suc zero)) k = o.on2
on_vertex r t o (suc (suc (suc v))) k = absurd (omega arith)

pub corners : (ps : List Float) (ts : List ℕ) (r : Axes) (placement : Placement) (t : ℕ) → Sound r → OnCells r (triangle_of ps ts placement t) → TriangleFits (triangle_of ps ts placement t)
corners ps ts r placement t s o = every3 (each (corner ts 0 t) o.on0) (each (corner ts 1 t) o.on1) (each (corner ts 2 t) o.on2)
  where
    each : (v : ℕ) → on_grid r (vertex_of ps placement v) ≡ true → Each (2 ^ 18) (vertex_of ps placement v)
    each v h =
        let u = vertex_of ps placement v in
        in3 (on_bound r.r0 (along u 0) s.axis0 (on_i r u h)) (on_bound r.r1 (along u 1) s.axis1 (on_j r u h)) (on_bound r.r2 (along u 2) s.axis2 (on_k r u h))

-- ---- a block holds the candidates, and they are cells of the grid

ends_test : (n : ℕ) (a b c : ℤ) (e : Stretch) → StretchOf n a b c e → (x : ℕ) → between e x ≡ (le_z (first_of a b c) (pos x) && lt_z (pos x) (past_of n a b c))
ends_test n a b c e w x = λ t. le_z (w.begins t) (pos x) && lt_z (pos x) (w.stops t)

pub block_test : (t : List (List ℤ)) (r : Axes) (b : Block) → BlockOf t r b → (c : Cell) → holds b c ≡ is_candidate t r c
unfolding holds is_candidate
block_test t r b w c =
    let i = ends_test r.r0 (cell_along t 0 0) (cell_along t 0 1) (cell_along t 0 2) b.i w.on_i c.i in
    let j = ends_test r.r1 (cell_along t 1 0) (cell_along t 1 1) (cell_along t 1 2) b.j w.on_j c.j in
    let k = ends_test r.r2 (cell_along t 2 0) (cell_along t 2 1) (cell_along t 2 2) b.k w.on_k c.k in
    λ s. i s && j s && k s

pub ends_in : (n : ℕ) (a b c : ℤ) (e : Stretch) → StretchOf n a b c e → e.to ≤ n
ends_in n a b c e w = go (greater (greater a b) c +ℤ pos 1) e.to w.stops
  where
    pick : (g : ℤ) (m : ℕ) (t : Bool) → lt_z (pos n) g ≡ t → pos m ≡ cond t (pos n) g → m ≤ n
    pick g m true h e = le_of m n e
      where
        le_of : (m n : ℕ) → pos m ≡ pos n → m ≤ n
        le_of m n e = let q : m ≡ n = cc in omega arith
    pick (pos g) m false h e = let q : m ≡ g = cc in let l = ltb-false n g h in omega arith
    pick (negsuc g) m false h e = absurd (apart m g e)
      where
        apart : (m g : ℕ) → pos m ≡ negsuc g → ⊥
        apart m g e = let z : ◌≡◌ {A = ℕ} 0 1 = cc in omega arith

    go : (g : ℤ) (m : ℕ) → pos m ≡ lesser g (pos n) → m ≤ n
    go g m e = pick g m (lt_z (pos n) g) refl e

-- the ends of a lent scale, as the code has them
pub lent_tests : (placement : Placement)
    → (le (of_bits binary32 914358272) placement.scale && le placement.scale (of_bits binary32 1241513984) && eq placement.reciprocal (div binary32 (of_bits binary32 1065353216) placement.scale))
    ≡ (le least_scale placement.scale && le placement.scale greatest_scale && eq placement.reciprocal (div binary32 (fin false 1 (pos 0)) placement.scale))
unfolding of_bits
lent_tests placement = refl

-- ---- cells of an axis as the machine has them

pub cell_read : {r : ℤ} (q : ℤ) → SFits w64 q → r ≡ cell_of (to_z w64 (of_z w64 q)) → to_z w64 (of_z w64 r) ≡ cell_of q
cell_read q f e = ap (λ (z : ℤ). to_z w64 (of_z w64 z)) (e ∙ ap cell_of (to_z-of_z f)) ∙ to_z-of_z (cell_fits q f)

pub held_in : {c : ℤ} → Held c → In 255 c
held_in h = in_eq h.is (record { bound = omega (arith, h.small) })

held_pick : {a b : ℤ} (t : Bool) → Held a → Held b → Held (cond t b a)
held_pick true h k = k
held_pick false h k = h

pub held_greater : (a b : ℤ) → Held a → Held b → Held (greater a b)
held_greater a b h k = held_pick (lt_z a b) h k

-- coordinates on an axis, when they are handed on
module _ (n : ℕ) (axis : Axis n) where
  axis_read : (q : ℤ) → on_axis n q ≡ true → to_z w64 (of_z w64 q) ≡ q
  axis_read q h = (arg tt (on_bound n q axis h)).is

  handed_axis : (q : ℤ) → on_axis n q ≡ true → on_axis n (to_z w64 (of_z w64 q)) ≡ true
  handed_axis q h = ap (on_axis n) (axis_read q h) ∙ h

  -- along axis a of a triangle
  module _ (t : List (List ℤ)) (a : ℕ) (on : (v : ℕ) → v < 3 → on_axis n (along (vertex t v) a) ≡ true) where
    abbrev read : ℕ → ℤ
    read v = to_z w64 (of_z w64 (along (vertex t v) a))

    pub handed_on : (on_axis n (read 0) ≡ true) × (on_axis n (read 1) ≡ true) × (on_axis n (read 2) ≡ true)
    handed_on = (handed_axis (along (vertex t 0) a) (on 0 (lit< tt)), handed_axis (along (vertex t 1) a) (on 1 (lit< tt)), handed_axis (along (vertex t 2) a) (on 2 (lit< tt)))

    pub handed_ends : (e : Stretch) → StretchOf n (cell_of (read 0)) (cell_of (read 1)) (cell_of (read 2)) e → StretchOf n (cell_along t a 0) (cell_along t a 1) (cell_along t a 2) e
    handed_ends e w =
        let x = axis_read (along (vertex t 0) a) (on 0 (lit< tt)) in
        let y = axis_read (along (vertex t 1) a) (on 1 (lit< tt)) in
        let z = axis_read (along (vertex t 2) a) (on 2 (lit< tt)) in
        record { begins = w.begins ∙ (λ s. first_of (cell_of (x s)) (cell_of (y s)) (cell_of (z s))); stops = w.stops ∙ (λ s. past_of n (cell_of (x s)) (cell_of (y s)) (cell_of (z s))) }

-- ---- a vertex's own cell is a candidate

lesser_two : (x y : ℕ) → (l : ℕ) × (lesser (pos x) (pos y) ≡ pos l) × (l ≤ x) × (l ≤ y)
lesser_two x y = go (ltb y x) refl
  where
    go : (t : Bool) → ltb y x ≡ t → (l : ℕ) × (cond t (pos y) (pos x) ≡ pos l) × (l ≤ x) × (l ≤ y)
    go true h = let k = ltb-true y x h in (y, refl, omega arith, omega arith)
    go false h = (x, refl, omega arith, ltb-false y x h)

greater_two : (x y : ℕ) → (g : ℕ) × (greater (pos x) (pos y) ≡ pos g) × (x ≤ g) × (y ≤ g)
greater_two x y = go (ltb x y) refl
  where
    go : (t : Bool) → ltb x y ≡ t → (g : ℕ) × (cond t (pos y) (pos x) ≡ pos g) × (x ≤ g) × (y ≤ g)
    go true h = let k = ltb-true x y h in (y, refl, omega arith, omega arith)
    go false h = (x, refl, omega arith, ltb-false x y h)

one_less : (l w : ℕ) → l ≤ w → le_z (greater (pos l -ℤ pos 1) (pos 0)) (pos w) ≡ true
one_less zero w h = le-leb 0 w (omega arith)
one_less (suc l) w h =
    ap (λ (z : ℤ). le_z (greater z (pos 0)) (pos w)) (eq_sub (suc l) 1 l 0 (omega arith) ∙ sym (pos_sub l))
    ∙ ap (λ (t : Bool). le_z (cond t (pos 0) (pos l)) (pos w)) (le-ltb l 0 (omega arith))
    ∙ le-leb l w (omega arith)

-- of three cells of an axis, each one
pub own_candidate : (n x y z w : ℕ) → (x ≡ w) ⊎ ((y ≡ w) ⊎ (z ≡ w)) → w < n
    → (le_z (first_of (pos x) (pos y) (pos z)) (pos w) && lt_z (pos w) (past_of n (pos x) (pos y) (pos z))) ≡ true
own_candidate n x y z w which h =
    let a = lesser_two x y in
    let l = lesser_two a.0 z in
    let b = greater_two x y in
    let g = greater_two b.0 z in
    let least : lesser (lesser (pos x) (pos y)) (pos z) ≡ pos l.0 = ap (λ (i : ℤ). lesser i (pos z)) a.1 ∙ l.1 in
    let most : greater (greater (pos x) (pos y)) (pos z) ≡ pos g.0 = ap (λ (i : ℤ). greater i (pos z)) b.1 ∙ g.1 in
    let low : l.0 ≤ w = ⊎_elim (λ e. omega (arith, a.2, l.2)) (λ r. ⊎_elim (λ e. omega (arith, a.3, l.2)) (λ e. omega (arith, l.3)) r) which in
    let high : w ≤ g.0 = ⊎_elim (λ e. omega (arith, b.2, g.2)) (λ r. ⊎_elim (λ e. omega (arith, b.3, g.2)) (λ e. omega (arith, g.3)) r) which in
    let from = ap (λ (i : ℤ). le_z (greater (i -ℤ pos 1) (pos 0)) (pos w)) least ∙ one_less l.0 w low in
    let to : lt_z (pos w) (past_of n (pos x) (pos y) (pos z)) ≡ true =
    lt_lesser (pos w) (greater (greater (pos x) (pos y)) (pos z) +ℤ pos 1) (pos n)
    ∙ ap (λ (i : ℤ). lt_z (pos w) (i +ℤ pos 1) && ltb w n) most
    ∙ rw (lt-ltb w (g.0 + 1) (omega arith), lt-ltb w n h) in
    rw (from, to)

number : {a b : ℕ} → pos a ≡ pos b → a ≡ b
number e = cc

-- the cell of a vertex
pub record IsCellOf (v : List ℤ) (c : Cell) : Type 0 where
  pub on_i : cell_of (along v 0) ≡ pos c.i
  pub on_j : cell_of (along v 1) ≡ pos c.j
  pub on_k : cell_of (along v 2) ≡ pos c.k

-- a vertex that falls on a cell has one, and it is a cell of the grid
pub own_cell_of : (r : Axes) (v : List ℤ) → on_grid r v ≡ true → (c : Cell) × IsCellOf v c
own_cell_of r v h =
    let x = on_held r.r0 (along v 0) (on_i r v h) in
    let y = on_held r.r1 (along v 1) (on_j r v h) in
    let z = on_held r.r2 (along v 2) (on_k r v h) in
    (record { i = x.0; j = y.0; k = z.0 }, record { on_i = x.1; on_j = y.1; on_k = z.1 })

pub own_in : (r : Axes) (v : List ℤ) (c : Cell) → on_grid r v ≡ true → IsCellOf v c → InGrid r c
own_in r v c h w =
    record {
      i_in = below r.r0 (along v 0) c.i (on_i r v h) w.on_i;
      j_in = below r.r1 (along v 1) c.j (on_j r v h) w.on_j;
      k_in = below r.r2 (along v 2) c.k (on_k r v h) w.on_k;
    }
  where
    below : (n : ℕ) (q : ℤ) (i : ℕ) → on_axis n q ≡ true → cell_of q ≡ pos i → i < n
    below n q i h e = let w = on_held n q h in let same : w.0 ≡ i = number (sym w.1 ∙ e) in omega (arith, w.2)

-- and a candidate of the triangle
pub own_is_candidate : (t : List (List ℤ)) (r : Axes) (n : ℕ) (c : Cell) → OnCells r t → n < 3 → IsCellOf (vertex t n) c → is_candidate t r c ≡ true
unfolding is_candidate
own_is_candidate t r n c o h w =
    rw (along_axis r.r0 0 c.i (λ v k. on_i r (vertex t v) (on_vertex r t o v k)) w.on_i, along_axis r.r1 1 c.j (λ v k. on_j r (vertex t v) (on_vertex r t o v k)) w.on_j, along_axis r.r2 2 c.k (λ v k. on_k r (vertex t v) (on_vertex r t o v k)) w.on_k)
  where
    which : (n : ℕ) → n < 3 → {x y z i : ℕ} (a : ℕ → ℤ) → a 0 ≡ pos x → a 1 ≡ pos y → a 2 ≡ pos z → a n ≡ pos i → (x ≡ i) ⊎ ((y ≡ i) ⊎ (z ≡ i))
    which zero k a p q s e = inl (number (sym p ∙ e))
    which (suc zero) k a p q s e = inr (inl (number (sym q ∙ e)))
    which (suc (suc zero)) k a p q s e = inr (inr (number (sym s ∙ e)))
    which (suc (suc (suc n))) k a p q s e = absurd (omega arith)

    along_axis : (m a i : ℕ) → ((v : ℕ) → v < 3 → on_axis m (along (vertex t v) a) ≡ true) → cell_along t a n ≡ pos i → candidate_along m t a i ≡ true
    along_axis m a i f e =
        let x = on_held m _ (f 0 (omega arith)) in
        let y = on_held m _ (f 1 (omega arith)) in
        let z = on_held m _ (f 2 (omega arith)) in
        let u = on_held m _ (f n h) in
        let is : u.0 ≡ i = number (sym u.1 ∙ e) in
        (λ s. le_z (first_of (x.1 s) (y.1 s) (z.1 s)) (pos i) && lt_z (pos i) (past_of m (x.1 s) (y.1 s) (z.1 s)))
        ∙ own_candidate m x.0 y.0 z.0 i (which n h (cell_along t a) x.1 y.1 z.1 e) (omega (arith, u.2))
