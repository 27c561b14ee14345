-- Laws of specs/Bands.antt: the range of each number, and that the cells that thirteen bands leave are those that the triangle touches. Assumes nothing.
use mathlib.Core.Path.{◌≡◌, refl, sym, ap, subst, ◌∙◌}
use mathlib.Core.List.{List, [], ◌∷◌, ◌++◌}
use mathlib.Core.Bool.{Bool, true, false, not, cond, ◌&&◌, ◌||◌, and_assoc}
use Prim.Native.Nat.{ℕ, ◌<◌, ◌^◌}
use native.Mathlib.Nat.{lt_trans}
use native.Mathlib.Omega.{arith}
use lib.Dec.{T, ltb, leb, lit<}
use lib.IntN.{ℤ, one, pos, neg_ℤ, ◌+ℤ◌, ◌-ℤ◌, ◌*ℤ◌, +ℤ_idl, +ℤ_idr, *ℤ-one, *ℤ-zero, zero-*ℤ, *ℤ_comm}
use lib.Signed.{lt_z, le_z}
use mir.Syntax.{w64}
use mir.Val.{to_z, of_z}
use Rattle.std.specs.Int.{int_min, int_max}
use Rattle.grid.specs.declared.Cell.{Cell}
use Rattle.numbers.specs.Rounding.{units, half}
use Rattle.ints.specs.Bound.{In, Val, Each, got, in_add, in_sub, in_mul, in_abs, in_lit, in_up, in_eq, in3, cons3}
use Rattle.ints.specs.Casts.{of_unsigned}
use Rattle.ints.specs.Order.{ap2, lesser, greater, le_z_antisym, lt_sums, le_not, lt_lesser, lt_greater, lt_less, lt_more}
use Rattle.ints.specs.Ring.{ap3, mul_assoc}
use Rattle.touch.specs.declared.Three.{Three}
use Rattle.touch.specs.Touch.{along, vertex, centre, dot_z, cube_reach, edge, cross, axis_x, axis_y, axis_z, axes, edge_of, normal, with_axes, all_above, all_below, apart, some_apart, touching}
use Rattle.touch.specs.Bands.{band_of, three_of, products_of, bands_of, kept, kept_three, kept_all, VertexFits, TriangleFits, EdgeFits, DirectionFits, BandFits, ThreeFit, Axial, Crosswise, BandsFit, CoordinatesFit, CellFits}

-- ---- ranges

pub dot_in : {d v : List ℤ} → DirectionFits d → VertexFits v → In 432345564227567616 (dot_z d v)
unfolding dot_z
dot_in h k = in_add (in_add (in_mul (h.at 0) (k.at 0)) (in_mul (h.at 1) (k.at 1))) (in_mul (h.at 2) (k.at 2))

pub reach_in : {d : List ℤ} → DirectionFits d → In 844424930131968 (cube_reach d)
unfolding cube_reach
reach_in h = in_up 844424930131968 tt (in_mul (in_lit half (pos half) tt) (in_add (in_add (in_abs (h.at 0)) (in_abs (h.at 1))) (in_abs (h.at 2))))

pub edge_in : {a b : List ℤ} → VertexFits a → VertexFits b → EdgeFits (edge a b)
unfolding edge
edge_in h k = in3 (in_sub (k.at 0) (h.at 0)) (in_sub (k.at 1) (h.at 1)) (in_sub (k.at 2) (h.at 2))

pub cross_in : {a b : List ℤ} → EdgeFits a → EdgeFits b → DirectionFits (cross a b)
unfolding cross
cross_in h k =
    in3
    (in_sub (in_mul (h.at 1) (k.at 2)) (in_mul (h.at 2) (k.at 1)))
    (in_sub (in_mul (h.at 2) (k.at 0)) (in_mul (h.at 0) (k.at 2)))
    (in_sub (in_mul (h.at 0) (k.at 1)) (in_mul (h.at 1) (k.at 0)))

pick_in : {B : ℕ} {a b : ℤ} (t : Bool) → In B a → In B b → In B (cond t b a)
pick_in true h k = k
pick_in false h k = h

pub lesser_in : {B : ℕ} {a b : ℤ} → In B a → In B b → In B (lesser a b)
lesser_in {a = a} {b = b} h k = pick_in (lt_z b a) h k

pub greater_in : {B : ℕ} {a b : ℤ} → In B a → In B b → In B (greater a b)
greater_in {a = a} {b = b} h k = pick_in (lt_z a b) h k

-- what `min` and `max` of the library give: `min` tests as `lesser` does, and `max` the other way round than `greater`
pub min_lesser : (a b : ℤ) → int_min a b ≡ lesser a b
min_lesser a b = refl

pub max_greater : (a b : ℤ) → int_max a b ≡ greater a b
max_greater a b = go (lt_z b a) (lt_z a b) refl refl
  where
    go : (s t : Bool) → lt_z b a ≡ s → lt_z a b ≡ t → cond s a b ≡ cond t b a
    go true true e f = absurd (omega (arith, (lt_sums a b).0 (subst T (sym f) tt), (lt_sums b a).0 (subst T (sym e) tt)))
    go true false e f = refl
    go false true e f = refl
    go false false e f = le_z_antisym b a (subst T (sym (le_not b a ∙ ap not f)) tt) (subst T (sym (le_not a b ∙ ap not e)) tt)

-- the same of values that a machine has
module _ {B : ℕ} {r m n x y : ℤ} (t : T (ltb B (2 ^ 63))) where
  pub v_lesser : r ≡ int_min m n → Val B m x → Val B n y → Val B (to_z w64 (of_z w64 r)) (lesser x y)
  v_lesser e h k = got t (e ∙ min_lesser m n ∙ ap2 lesser h.is k.is) (lesser_in {a = x} {b = y} (record { bound = h.bound }) (record { bound = k.bound }))

  pub v_greater : r ≡ int_max m n → Val B m x → Val B n y → Val B (to_z w64 (of_z w64 r)) (greater x y)
  v_greater e h k = got t (e ∙ max_greater m n ∙ ap2 greater h.is k.is) (greater_in {a = x} {b = y} (record { bound = h.bound }) (record { bound = k.bound }))

-- an axis is a direction, and its product with an edge is one
axis_in : {B : ℕ} (x y z : ℕ) → T (leb x 1) → T (leb y 1) → T (leb z 1) → T (leb 1 B) → Each B (pos x ∷ pos y ∷ pos z ∷ [])
axis_in {B} x y z p q r b = in3 (in_up B b (in_lit 1 (pos x) p)) (in_up B b (in_lit 1 (pos y) q)) (in_up B b (in_lit 1 (pos z) r))

pub axis_dir : (x y z : ℕ) → T (leb x 1) → T (leb y 1) → T (leb z 1) → DirectionFits (pos x ∷ pos y ∷ pos z ∷ [])
axis_dir x y z p q r = axis_in x y z p q r tt

pub products_dir : (e : List ℤ) → EdgeFits e → DirectionFits (cross e axis_x) × DirectionFits (cross e axis_y) × DirectionFits (cross e axis_z)
products_dir e h = (cross_in h (axis_in 1 0 0 tt tt tt tt), cross_in h (axis_in 0 1 0 tt tt tt tt), cross_in h (axis_in 0 0 1 tt tt tt tt))

pub band_fits : (d : List ℤ) (t : List (List ℤ)) → DirectionFits d → TriangleFits t → BandFits (band_of d t)
unfolding band_of
band_fits d t h k =
    let a = dot_in h (k.at 0) in
    let b = dot_in h (k.at 1) in
    let c = dot_in h (k.at 2) in
    record {
      x_in = scaled (h.at 0);
      y_in = scaled (h.at 1);
      z_in = scaled (h.at 2);
      low_in = in_up _ tt (in_sub (lesser_in (lesser_in a b) c) (reach_in h));
      high_in = in_up _ tt (in_add (greater_in (greater_in a b) c) (reach_in h));
    }
  where
    scaled : {z : ℤ} → In (2 ^ 39) z → In (2 ^ 49) (pos units *ℤ z)
    scaled h = in_up (2 ^ 49) tt (in_mul (in_lit units (pos units) tt) h)

-- a cell's coordinates as signed numbers
pub signed : {n : ℕ} → n < 256 → to_z w64 n ≡ pos n
signed h = of_unsigned (lt_trans h (lit< tt))

pub cell_coordinates : (c : Cell) → CellFits c → CoordinatesFit (to_z w64 c.i) (to_z w64 c.j) (to_z w64 c.k)
cell_coordinates c h = record { i_in = few h.i_near; j_in = few h.j_near; k_in = few h.k_near }
  where
    few : {n : ℕ} → n < 256 → In 255 (to_z w64 n)
    few h = in_eq (signed h) (record { bound = omega arith })

-- ---- the products of an edge with the axes

less : (x y : ℤ) → x *ℤ pos 0 -ℤ y *ℤ pos 1 ≡ neg_ℤ y
unfolding one
less x y = rw (*ℤ-zero x, *ℤ-one y) (+ℤ_idl (neg_ℤ y))

more : (x y : ℤ) → x *ℤ pos 1 -ℤ y *ℤ pos 0 ≡ x
unfolding one
more x y = rw (*ℤ-zero y, *ℤ-one x) (+ℤ_idr x)

none : (x y : ℤ) → x *ℤ pos 0 -ℤ y *ℤ pos 0 ≡ pos 0
none x y = rw (*ℤ-zero x, *ℤ-zero y) refl

pub cross_x : (e : List ℤ) → cross e axis_x ≡ pos 0 ∷ along e 2 ∷ neg_ℤ (along e 1) ∷ []
unfolding cross
cross_x e = cons3 (none (along e 1) (along e 2)) (more (along e 2) (along e 0)) (less (along e 0) (along e 1))

pub cross_y : (e : List ℤ) → cross e axis_y ≡ neg_ℤ (along e 2) ∷ pos 0 ∷ along e 0 ∷ []
unfolding cross
cross_y e = cons3 (less (along e 1) (along e 2)) (none (along e 2) (along e 0)) (more (along e 0) (along e 1))

pub cross_z : (e : List ℤ) → cross e axis_z ≡ along e 1 ∷ neg_ℤ (along e 0) ∷ pos 0 ∷ []
unfolding cross
cross_z e = cons3 (more (along e 1) (along e 2)) (less (along e 2) (along e 0)) (none (along e 0) (along e 1))

-- ---- projections on directions that have zeros

no_x : (x y z i j k : ℤ) → x ≡ pos 0 → y *ℤ j +ℤ z *ℤ k ≡ x *ℤ i +ℤ y *ℤ j +ℤ z *ℤ k
no_x x y z i j k e = sym (ap (λ (w : ℤ). w +ℤ y *ℤ j +ℤ z *ℤ k) (ap (λ (w : ℤ). w *ℤ i) e ∙ zero-*ℤ i) ∙ ap (λ (w : ℤ). w +ℤ z *ℤ k) (+ℤ_idl (y *ℤ j)))

no_y : (x y z i j k : ℤ) → y ≡ pos 0 → x *ℤ i +ℤ z *ℤ k ≡ x *ℤ i +ℤ y *ℤ j +ℤ z *ℤ k
no_y x y z i j k e = sym (ap (λ (w : ℤ). x *ℤ i +ℤ w +ℤ z *ℤ k) (ap (λ (w : ℤ). w *ℤ j) e ∙ zero-*ℤ j) ∙ ap (λ (w : ℤ). w +ℤ z *ℤ k) (+ℤ_idr (x *ℤ i)))

no_z : (x y z i j k : ℤ) → z ≡ pos 0 → x *ℤ i +ℤ y *ℤ j ≡ x *ℤ i +ℤ y *ℤ j +ℤ z *ℤ k
no_z x y z i j k e = sym (ap (λ (w : ℤ). x *ℤ i +ℤ y *ℤ j +ℤ w) (ap (λ (w : ℤ). w *ℤ k) e ∙ zero-*ℤ k) ∙ +ℤ_idr (x *ℤ i +ℤ y *ℤ j))

nothing : (y j : ℤ) → y ≡ pos 0 → y *ℤ j ≡ pos 0
nothing y j e = ap (λ (w : ℤ). w *ℤ j) e ∙ zero-*ℤ j

pub axes_are : (s : Three) → Axial s → (i j k : ℤ)
    → (s.x.x *ℤ i ≡ s.x.x *ℤ i +ℤ s.x.y *ℤ j +ℤ s.x.z *ℤ k) × (s.y.y *ℤ j ≡ s.y.x *ℤ i +ℤ s.y.y *ℤ j +ℤ s.y.z *ℤ k) × (s.z.z *ℤ k ≡ s.z.x *ℤ i +ℤ s.z.y *ℤ j +ℤ s.z.z *ℤ k)
axes_are s h i j k = (
  sym (+ℤ_idr (s.x.x *ℤ i)) ∙ ap (λ (w : ℤ). s.x.x *ℤ i +ℤ w) (sym (nothing s.x.z k h.x_z)) ∙ no_y s.x.x s.x.y s.x.z i j k h.x_y,
  sym (+ℤ_idr (s.y.y *ℤ j)) ∙ ap (λ (w : ℤ). s.y.y *ℤ j +ℤ w) (sym (nothing s.y.z k h.y_z)) ∙ no_x s.y.x s.y.y s.y.z i j k h.y_x,
  sym (+ℤ_idl (s.z.z *ℤ k)) ∙ ap (λ (w : ℤ). w +ℤ s.z.z *ℤ k) (sym (nothing s.z.x i h.z_x)) ∙ no_y s.z.x s.z.y s.z.z i j k h.z_y,
)

pub products_are : (s : Three) → Crosswise s → (i j k : ℤ)
    → (s.x.y *ℤ j +ℤ s.x.z *ℤ k ≡ s.x.x *ℤ i +ℤ s.x.y *ℤ j +ℤ s.x.z *ℤ k) × (s.y.x *ℤ i +ℤ s.y.z *ℤ k ≡ s.y.x *ℤ i +ℤ s.y.y *ℤ j +ℤ s.y.z *ℤ k) × (s.z.x *ℤ i +ℤ s.z.y *ℤ j ≡ s.z.x *ℤ i +ℤ s.z.y *ℤ j +ℤ s.z.z *ℤ k)
products_are s h i j k =
    (no_x s.x.x s.x.y s.x.z i j k h.x_x, no_y s.y.x s.y.y s.y.z i j k h.y_y, no_z s.z.x s.z.y s.z.z i j k h.z_z)

-- ---- the cells that a band leaves are those that its direction does not separate

-- a direction times the side, at a cell, is the projection of the cell's centre
at_centre : (d : List ℤ) (c : Cell)
    → pos units *ℤ along d 0 *ℤ pos c.i +ℤ pos units *ℤ along d 1 *ℤ pos c.j +ℤ pos units *ℤ along d 2 *ℤ pos c.k ≡ dot_z d (centre c)
unfolding dot_z
at_centre d c = ap3 (moved (along d 0) c.i) (moved (along d 1) c.j) (moved (along d 2) c.k)
  where
    moved : (z : ℤ) (n : ℕ) → pos units *ℤ z *ℤ pos n ≡ z *ℤ (pos units *ℤ pos n)
    moved z n = ap (λ (x : ℤ). x *ℤ pos n) (*ℤ_comm (pos units) z) ∙ mul_assoc z (pos units) (pos n)

above_test : (z a b c : ℤ) → all_above z a b c ≡ lt_z z (lesser (lesser a b) c)
above_test z a b c = sym (lt_lesser z (lesser a b) c ∙ ap (λ (x : Bool). x && lt_z z c) (lt_lesser z a b))

below_test : (z a b c : ℤ) → all_below z a b c ≡ lt_z (greater (greater a b) c) z
below_test z a b c = sym (lt_greater z (greater a b) c ∙ ap (λ (x : Bool). x && lt_z c z) (lt_greater z a b))

neither : (a b : Bool) → not (a || b) ≡ (not a && not b)
neither true b = refl
neither false b = refl

pub kept_is : (d : List ℤ) (t : List (List ℤ)) (c : Cell) → kept (band_of d t) (pos c.i) (pos c.j) (pos c.k) ≡ not (apart d t c)
unfolding band_of apart
kept_is d t c =
    let m = dot_z d (centre c) in
    let a = dot_z d (vertex t 0) in
    let b = dot_z d (vertex t 1) in
    let e = dot_z d (vertex t 2) in
    let low = lesser (lesser a b) e in
    let high = greater (greater a b) e in
    let r = cube_reach d in
    rw (at_centre d c)
    (ap (λ (x : Bool). x && le_z m (high +ℤ r)) (le_not (low -ℤ r) m ∙ ap not (lt_more low r m ∙ sym (above_test (m +ℤ r) a b e)))
    ∙ ap (λ (x : Bool). not (all_above (m +ℤ r) a b e) && x) (le_not m (high +ℤ r) ∙ ap not (lt_less high r m ∙ sym (below_test (m -ℤ r) a b e)))
    ∙ sym (neither (all_above (m +ℤ r) a b e) (all_below (m -ℤ r) a b e)))

-- ---- and the thirteen together

none_of : (a b t : List (List ℤ)) (c : Cell) → not (some_apart (a ++ b) t c) ≡ (not (some_apart a t c) && not (some_apart b t c))
unfolding some_apart
none_of [] b t c = refl
none_of (d ∷ a) b t c =
    neither (apart d t c) (some_apart (a ++ b) t c)
    ∙ ap (λ (x : Bool). not (apart d t c) && x) (none_of a b t c)
    ∙ sym (and_assoc (not (apart d t c)) (not (some_apart a t c)) (not (some_apart b t c)))
    ∙ ap (λ (x : Bool). x && not (some_apart b t c)) (sym (neither (apart d t c) (some_apart a t c)))

three_is : (x y z : List ℤ) (t : List (List ℤ)) (c : Cell) → kept_three (three_of x y z t) (pos c.i) (pos c.j) (pos c.k) ≡ not (some_apart (x ∷ y ∷ z ∷ []) t c)
unfolding some_apart
three_is x y z t c = rw (kept_is x t c, kept_is y t c, kept_is z t c) (flat (apart x t c) (apart y t c) (apart z t c))
  where
    flat : (a b c : Bool) → (not a && not b && not c) ≡ not (a || (b || (c || false)))
    flat true b c = refl
    flat false true c = refl
    flat false false true = refl
    flat false false false = refl

one_is : (d : List ℤ) (t : List (List ℤ)) (c : Cell) → kept (band_of d t) (pos c.i) (pos c.j) (pos c.k) ≡ not (some_apart (d ∷ []) t c)
unfolding some_apart
one_is d t c = kept_is d t c ∙ ap not (sym (or_false (apart d t c)))
  where
    or_false : (a : Bool) → (a || false) ≡ a
    or_false true = refl
    or_false false = refl

regroup : (p q r s u : Bool) → (p && q && r && s && u) ≡ (p && (q && (r && (s && u))))
regroup true true true s u = refl
regroup true true false s u = refl
regroup true false r s u = refl
regroup false q r s u = refl

pub bands_touch : (t : List (List ℤ)) (c : Cell) → kept_all (bands_of t) c ≡ touching t c
unfolding kept_all touching
bands_touch t c =
    let n = normal t ∷ [] in
    let a = with_axes (edge_of t 0 1) in
    let b = with_axes (edge_of t 1 2) in
    let e = with_axes (edge_of t 2 0) in
    let by : List (List ℤ) → Bool = λ ds. not (some_apart ds t c) in
    let p = three_is axis_x axis_y axis_z t c in
    let q = one_is (normal t) t c in
    let u = three_is (cross (edge_of t 0 1) axis_x) (cross (edge_of t 0 1) axis_y) (cross (edge_of t 0 1) axis_z) t c in
    let v = three_is (cross (edge_of t 1 2) axis_x) (cross (edge_of t 1 2) axis_y) (cross (edge_of t 1 2) axis_z) t c in
    let w = three_is (cross (edge_of t 2 0) axis_x) (cross (edge_of t 2 0) axis_y) (cross (edge_of t 2 0) axis_z) t c in
    (λ x. p x && q x && u x && v x && w x)
    ∙ regroup (by axes) (by n) (by a) (by b) (by e)
    ∙ sym
    (none_of axes (n ++ (a ++ (b ++ e))) t c
    ∙ ap (λ (x : Bool). by axes && x)
    (none_of n (a ++ (b ++ e)) t c ∙ ap (λ (x : Bool). by n && x) (none_of a (b ++ e) t c ∙ ap (λ (x : Bool). by a && x) (none_of b e t c))))

pub bands_fit : (t : List (List ℤ)) → TriangleFits t → BandsFit (bands_of t)
unfolding band_of
bands_fit t h =
    record {
      axes_ok = record { x_ok = band_fits axis_x t (axis_dir 1 0 0 tt tt tt) h; y_ok = band_fits axis_y t (axis_dir 0 1 0 tt tt tt) h; z_ok = band_fits axis_z t (axis_dir 0 0 1 tt tt tt) h };
      normal_ok = band_fits (normal t) t (cross_in (side 0 1) (side 1 2)) h;
      edge01_ok = of_edge (edge_of t 0 1) (side 0 1);
      edge12_ok = of_edge (edge_of t 1 2) (side 1 2);
      edge20_ok = of_edge (edge_of t 2 0) (side 2 0);
      axes_axial = record { x_y = refl; x_z = refl; y_x = refl; y_z = refl; z_x = refl; z_y = refl };
      edge01_flat = flat (edge_of t 0 1);
      edge12_flat = flat (edge_of t 1 2);
      edge20_flat = flat (edge_of t 2 0);
    }
  where
    side : (a b : ℕ) → EdgeFits (edge_of t a b)
    side a b = edge_in (h.at a) (h.at b)

    flat : (e : List ℤ) → Crosswise (products_of e t)
    flat e = record { x_x = ap (λ (d : List ℤ). pos units *ℤ along d 0) (cross_x e); y_y = ap (λ (d : List ℤ). pos units *ℤ along d 1) (cross_y e); z_z = ap (λ (d : List ℤ). pos units *ℤ along d 2) (cross_z e) }

    of_edge : (e : List ℤ) → EdgeFits e → ThreeFit (products_of e t)
    of_edge e f =
        let d = products_dir e f in
        record { x_ok = band_fits (cross e axis_x) t d.0 h; y_ok = band_fits (cross e axis_y) t d.1 h; z_ok = band_fits (cross e axis_z) t d.2 h }
