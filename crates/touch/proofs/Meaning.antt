-- What the test of specs/Touch.antt means: `apart` says whether a direction separates a triangle from a cell, and `touching` that none of the thirteen does, so that a triangle touches the cell of each of its vertices. Assumes nothing.
use mathlib.Core.Path.{◌≡◌, refl, sym, ap, ◌∙◌}
use mathlib.Core.Logic.{◌⊎◌, inl, inr, ⊎_elim, ◌↔◌}
use mathlib.Core.Bool.{Bool, true, false, not, ◌&&◌, ◌||◌}
use mathlib.Core.List.{List, [], ◌∷◌}
use Prim.Native.Nat.{ℕ, zero, suc, ◌+◌, ◌*◌, ◌/◌, ◌≤◌, ◌<◌}
use native.Mathlib.Nat.{mul_comm, le_refl, div-add-mod, mod-lt}
use native.Mathlib.Omega.{arith}
use lib.Dec.{T, ltb, ltb→lt, lt→ltb, lit<}
use lib.IntN.{ℤ, pos, negsuc, neg_ℤ, nat_abs, sub_ℕ, ◌+ℤ◌, ◌-ℤ◌, ◌*ℤ◌, +ℤ_comm, +ℤ-neg_ℤ_cancel, -ℤ-+ℤ_cancel, zero-*ℤ, pos-ne-negsuc}
use lib.Signed.{lt_z, lt_z_yes, <ℤ_irrefl}
use lib.ListN.{get_or, length}
use mir.Facts.{T_not, not_T, and_yes, yes_and, or_yes, or_no}
use borrow.Author.Tests.{le-ltb}
use Rattle.ints.specs.Bound.{In, in_add, in_mul, in_of, abs_neg, cons3}
use Rattle.ints.specs.Ring.{dist_l, add3, mul3, neg3, ap3, mul_neg}
use Rattle.ints.specs.Differences as Differences
use Rattle.ints.specs.Differences.{up, down, neg_pos, add_sub, lt_sub, before_face, past_face}
use Rattle.grid.specs.declared.Cell.{Cell}
use Rattle.numbers.specs.Rounding.{units, half, floor_z, cell_of}
use Rattle.touch.specs.Touch.{along, vertex, centre, InCube, dot_z, Separates, above, below, edge, directions, abs_z, cube_reach, apart, some_apart, touching}

-- ---- tests: one of two, neither of two, all of three

yes_or : (a b : Bool) → T a ⊎ T b → T (a || b)
yes_or true b h = tt
yes_or false b (inl h) = absurd h
yes_or false b (inr h) = h

no_or : (a b : Bool) → T (not a) → T (not b) → T (not (a || b))
no_or true b h k = h
no_or false b h k = k

abbrev all : (ℕ → Bool) → Bool
all f = f 0 && f 1 && f 2

all_is : (f : ℕ → Bool) → T (all f) ↔ ((n : ℕ) → n < 3 → T (f n))
all_is f = (each, λ g. yes_and (f 0 && f 1) (f 2) (yes_and (f 0) (f 1) (g 0 (omega arith)) (g 1 (omega arith))) (g 2 (omega arith)))
  where
    each : T (all f) → (n : ℕ) → n < 3 → T (f n)
    each h zero l = (and_yes (f 0) (f 1) (and_yes (f 0 && f 1) (f 2) h).0).0
    each h (suc zero) l = (and_yes (f 0) (f 1) (and_yes (f 0 && f 1) (f 2) h).0).1
    each h (suc (suc zero)) l = (and_yes (f 0 && f 1) (f 2) h).1
    each h (suc (suc (suc n))) l = absurd (omega arith)

-- ---- the order of signed sums, where z is a - b

record Less (z : ℤ) (a b : ℕ) : Type 0 where
  is : z ≡ sub_ℕ a b

-- each number is such a difference
less : (z : ℤ) → Less z (up z) (down z)
less z = record { is = Differences.up_down z }

-- and so is a sum
plus : {x y : ℤ} {a b c d : ℕ} → Less x a b → Less y c d → Less (x +ℤ y) (a + c) (b + d)
plus {a = a} {b} {c} {d} p q = record { is = (λ i. p.is i +ℤ q.is i) ∙ add_sub a b c d }

-- of two differences the first is the lesser, told without signs
before : {x y : ℤ} {a b c d : ℕ} → Less x a b → Less y c d → T (lt_z x y) ↔ (a + d < c + b)
before {x} {y} {a} {b} {c} {d} p q =
    let e : lt_z x y ≡ ltb (a + d) (c + b) = (λ i. lt_z (p.is i) (q.is i)) ∙ lt_sub a b c d in
    ((λ h. ltb→lt (a + d) (c + b) (rw e at h)), (λ h. rw e (lt→ltb (a + d) (c + b) h)))

-- one part of a number is its size, and the other 0
size : (z : ℤ) → nat_abs z ≡ up z + down z
size (pos n) = omega arith
size (negsuc n) = omega arith

-- for an s from -R to R, what lies above z + R lies above z + s
over : (z : ℤ) (R : ℕ) (s v : ℤ) → In R s → T (lt_z (z +ℤ pos R) v) → T (lt_z (z +ℤ s) v)
over z R s v h l =
    let k = (before (plus (less z) (less (pos R))) (less v)).0 l in
    (before (plus (less z) (less s)) (less v)).1 (omega (arith, size s))

-- and what lies below z - R lies below z + s
under : (z : ℤ) (R : ℕ) (s v : ℤ) → In R s → T (lt_z v (z -ℤ pos R)) → T (lt_z v (z +ℤ s))
under z R s v h l =
    let r : Less (neg_ℤ (pos R)) 0 R = record { is = neg_pos R } in
    let k = (before (less v) (plus (less z) r)).0 l in
    (before (less v) (plus (less z) (less s))).1 (omega (arith, size s))

-- ---- along an axis, where a direction has k

-- the projection of b is that of a and that of the way from a to b
from_to : (k a b : ℤ) → k *ℤ b ≡ k *ℤ a +ℤ k *ℤ (b -ℤ a)
from_to k a b = ap (λ (x : ℤ). k *ℤ x) (sym (-ℤ-+ℤ_cancel b a) ∙ +ℤ_comm (b -ℤ a) a) ∙ dist_l k a (b -ℤ a)

-- that of a step of half a side at most
step_in : (k x : ℤ) → nat_abs x ≤ half → In (nat_abs k * half) (k *ℤ x)
step_in k x h = in_mul {x = k} {y = x} (record { bound = le_refl (nat_abs k) }) (record { bound = h })

-- half a side, with the sign of k
toward : ℤ → ℤ
toward (pos n) = pos half
toward (negsuc n) = neg_ℤ (pos half)

-- and with the other
against : ℤ → ℤ
against k = neg_ℤ (toward k)

-- it is half a side at most
toward_in : (k : ℤ) → nat_abs (toward k) ≤ half
unfolding toward
toward_in (pos n) = le_refl half
toward_in (negsuc n) = le_refl half

-- and its projection is half a side times the size of k
toward_is : (k : ℤ) → k *ℤ toward k ≡ pos half *ℤ abs_z k
unfolding toward
toward_is (pos n) = ap pos (mul_comm n half)
toward_is (negsuc n) = ap pos (mul_comm (suc n) half)

-- ---- on a direction

module _ (d : List ℤ) where
  -- the projection of b is that of a and that of the edge between them
  dot_edge : (a b : List ℤ) → dot_z d b ≡ dot_z d a +ℤ dot_z d (edge a b)
  unfolding dot_z edge
  dot_edge a b =
      ap3 (from_to (along d 0) (along a 0) (along b 0)) (from_to (along d 1) (along a 1) (along b 1)) (from_to (along d 2) (along a 2) (along b 2))
      ∙ sym (add3 (along d 0 *ℤ along a 0) (along d 1 *ℤ along a 1) (along d 2 *ℤ along a 2) _ _ _)

  -- along each axis the step that f makes of d
  steps : (ℤ → ℤ) → List ℤ
  steps f = f (along d 0) ∷ f (along d 1) ∷ f (along d 2) ∷ []

  -- steps to where d points come as far as the reach
  toward_reach : dot_z d (steps toward) ≡ cube_reach d
  unfolding dot_z steps cube_reach
  toward_reach =
      let x = along d 0 in let y = along d 1 in let z = along d 2 in
      ap3 (toward_is x) (toward_is y) (toward_is z) ∙ sym (mul3 (pos half) (abs_z x) (abs_z y) (abs_z z))

  -- and steps against it as far the other way
  against_reach : dot_z d (steps against) ≡ neg_ℤ (cube_reach d)
  unfolding dot_z steps against
  against_reach =
      let x = along d 0 in let y = along d 1 in let z = along d 2 in
      ap3 (mul_neg x (toward x)) (mul_neg y (toward y)) (mul_neg z (toward z)) ∙ sym (neg3 (x *ℤ toward x) (y *ℤ toward y) (z *ℤ toward z)) ∙ ap neg_ℤ toward_reach

  module _ (c : Cell) where
    -- no point of the cube lies further from the centre than the reach
    cube_in : (p : List ℤ) → InCube c p → In (nat_abs (cube_reach d)) (dot_z d (edge (centre c) p))
    unfolding dot_z edge cube_reach
    cube_in p h =
        let e = edge (centre c) p in
        let m = in_add (in_add (step_in (along d 0) (along e 0) h.on_i) (step_in (along d 1) (along e 1) h.on_j)) (step_in (along d 2) (along e 2) h.on_k) in
        record { bound = omega (arith, m.bound) }

    -- the corner of the cube at those steps from the centre
    corner : (ℤ → ℤ) → List ℤ
    corner f = (f (along d 0) +ℤ along (centre c) 0) ∷ (f (along d 1) +ℤ along (centre c) 1) ∷ (f (along d 2) +ℤ along (centre c) 2) ∷ []

    -- from the centre to that corner, along an axis
    back : (f : ℤ → ℤ) (n : ℕ) → f (along d n) +ℤ along (centre c) n -ℤ along (centre c) n ≡ f (along d n)
    back f n = +ℤ-neg_ℤ_cancel (f (along d n)) (along (centre c) n)

    -- along all
    corner_edge : (f : ℤ → ℤ) → edge (centre c) (corner f) ≡ steps f
    unfolding corner edge steps
    corner_edge f = cons3 (back f 0) (back f 1) (back f 2)

    -- it is a point of the cube if no step is more than half a side
    corner_in : (f : ℤ → ℤ) → ((k : ℤ) → nat_abs (f k) ≤ half) → InCube c (corner f)
    unfolding corner
    corner_in f h = record { on_i = rw (back f 0) (h (along d 0)); on_j = rw (back f 1) (h (along d 1)); on_k = rw (back f 2) (h (along d 2)) }

    module _ (t : List (List ℤ)) where
      -- the vertices lie beyond all points of the cube
      abbrev Beyond : (ℤ → ℤ → Bool) → Type 0
      Beyond far = (p : List ℤ) → InCube c p → (n : ℕ) → n < 3 → T (far (dot_z d p) (dot_z d (vertex t n)))

      -- exactly if they lie beyond the corner at e, where what lies beyond e lies beyond all that is within the reach
      beyond : (far : ℤ → ℤ → Bool) (f : ℤ → ℤ) (e : ℤ) → ((k : ℤ) → nat_abs (f k) ≤ half) → dot_z d (steps f) ≡ e
          → ((s v : ℤ) → In (nat_abs (cube_reach d)) s → T (far (dot_z d (centre c) +ℤ e) v) → T (far (dot_z d (centre c) +ℤ s) v))
          → ((n : ℕ) → n < 3 → T (far (dot_z d (centre c) +ℤ e) (dot_z d (vertex t n)))) ↔ Beyond far
      beyond far f e h is wide = (
        (λ g p i n l. rw (dot_edge (centre c) p) (wide (dot_z d (edge (centre c) p)) (dot_z d (vertex t n)) (cube_in p i) (g n l))),
        (λ g n l. rw (dot_edge (centre c) (corner f), corner_edge f, is) at (g (corner f) (corner_in f h) n l)),
      )

      -- beyond on the one side or on the other
      either : (f g : ℕ → Bool) → ((n : ℕ) → n < 3 → T (f n)) ↔ Beyond lt_z → ((n : ℕ) → n < 3 → T (g n)) ↔ Beyond (λ a b. lt_z b a) → T (all f || all g) ↔ Separates d t c
      either f g u v = (λ h. ⊎_elim (λ k. above (u.0 ((all_is f).0 k))) (λ k. below (v.0 ((all_is g).0 k))) (or_yes (all f) (all g) h), back)
        where
          back : Separates d t c → T (all f || all g)
          back (above h) = yes_or (all f) (all g) (inl ((all_is f).1 (u.1 h)))
          back (below h) = yes_or (all f) (all g) (inr ((all_is g).1 (v.1 h)))

-- a direction separates a triangle from a cell exactly if the test says so
pub separation : (d : List ℤ) (t : List (List ℤ)) (c : Cell) → T (apart d t c) ↔ Separates d t c
unfolding apart cube_reach against
separation d t c =
    let z = dot_z d (centre c) in
    let r = nat_abs (cube_reach d) in
    either d c t (λ n. lt_z (z +ℤ cube_reach d) (dot_z d (vertex t n))) (λ n. lt_z (dot_z d (vertex t n)) (z -ℤ cube_reach d))
    (beyond d c t lt_z toward (cube_reach d) toward_in (toward_reach d) (over z r))
    (beyond d c t (λ a b. lt_z b a) against (neg_ℤ (cube_reach d)) (λ k. rw (abs_neg (toward k)) (toward_in k)) (against_reach d) (under z r))

-- ---- none of the thirteen directions separates

module _ (t : List (List ℤ)) (c : Cell) where
  -- none of a list separates, if the test finds none
  none_of : (ds : List (List ℤ)) → T (not (some_apart ds t c)) → (n : ℕ) → n < length ds → Separates (get_or ds n []) t c → ⊥
  unfolding some_apart
  none_of [] h n l s = absurd (omega arith)
  none_of (d ∷ ds) h zero l s = T_not (apart d t c) ((separation d t c).1 s) (or_no (apart d t c) (some_apart ds t c) h).0
  none_of (d ∷ ds) h (suc n) l s = none_of ds (or_no (apart d t c) (some_apart ds t c) h).1 n (omega arith) s

  -- and the test finds none, if none does
  of_none : (ds : List (List ℤ)) → ((n : ℕ) → n < length ds → Separates (get_or ds n []) t c → ⊥) → T (not (some_apart ds t c))
  unfolding some_apart
  of_none [] f = tt
  of_none (d ∷ ds) f =
      no_or (apart d t c) (some_apart ds t c) (not_T (apart d t c) (λ h. f 0 (omega arith) ((separation d t c).0 h))) (of_none ds (λ n l. f (suc n) (omega arith)))

  -- a triangle touches a cell exactly if none of the thirteen directions separates them
  pub touch_means : T (touching t c) ↔ ((n : ℕ) → n < 13 → Separates (get_or (directions t) n []) t c → ⊥)
  unfolding touching
  touch_means = (none_of (directions t), of_none (directions t))

  -- no direction separates where a vertex is level with a point of the cube
  level : (d p : List ℤ) (n : ℕ) → n < 3 → InCube c p → dot_z d p ≡ dot_z d (vertex t n) → Separates d t c → ⊥
  level d p n l h e (above f) = <ℤ_irrefl (lt_z_yes {a = dot_z d (vertex t n)} {b = dot_z d (vertex t n)} (rw e at (f p h n l)))
  level d p n l h e (below f) = <ℤ_irrefl (lt_z_yes {a = dot_z d (vertex t n)} {b = dot_z d (vertex t n)} (rw e at (f p h n l)))

  -- a direction with no length separates nothing: every projection on it is 0
  pub zero_never : Separates (pos 0 ∷ pos 0 ∷ pos 0 ∷ []) t c → ⊥
  unfolding dot_z
  zero_never = let p = corner [] c toward in level (pos 0 ∷ pos 0 ∷ pos 0 ∷ []) p 0 (omega arith) (corner_in [] c toward toward_in) (none p ∙ sym (none (vertex t 0)))
    where
      none : (p : List ℤ) → dot_z (pos 0 ∷ pos 0 ∷ pos 0 ∷ []) p ≡ pos 0
      none p = ap3 (zero-*ℤ (along p 0)) (zero-*ℤ (along p 1)) (zero-*ℤ (along p 2))

  -- a triangle touches a cell whose closed cube holds one of its vertices
  pub shared_point : (n : ℕ) → n < 3 → InCube c (vertex t n) → T (touching t c)
  shared_point n l h = touch_means.1 (λ m k. level (get_or (directions t) m []) (vertex t n) n l h refl)

-- ---- the cell of a vertex

-- a coordinate is half a side at most from the centre of its cell
pub cell_near : (q : ℤ) (i : ℕ) → cell_of q ≡ pos i → nat_abs (q -ℤ pos (units * i)) ≤ half
cell_near q i e = (go (q +ℤ pos half) refl e).bound
  where
    go : (w : ℤ) → q +ℤ pos half ≡ w → floor_z w units ≡ pos i → In half (q -ℤ pos (units * i))
    go (negsuc a) f e = absurd (pos-ne-negsuc i (a / units) (sym e))
    go (pos a) f e =
        let k : a / units ≡ i = cc in
        let m = div-add-mod a units in
        let l = mod-lt a {m = units} (lit< tt) in
        in_of half (q -ℤ pos (units * i))
        (before_face q a half (units * i) f ∙ le-ltb a (units * i) (omega arith))
        (past_face q a half (units * i) f ∙ le-ltb (units * i + half + half) a (omega arith))

-- a triangle touches the cell of each of its vertices
pub own_cell : (t : List (List ℤ)) (c : Cell) (n : ℕ) → n < 3 → cell_of (along (vertex t n) 0) ≡ pos c.i → cell_of (along (vertex t n) 1) ≡ pos c.j
    → cell_of (along (vertex t n) 2) ≡ pos c.k → T (touching t c)
own_cell t c n l e f g =
    let v = vertex t n in
    shared_point t c n l (record { on_i = cell_near (along v 0) c.i e; on_j = cell_near (along v 1) c.j f; on_k = cell_near (along v 2) c.k g })
