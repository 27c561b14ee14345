-- Laws of specs/Rays.antt: what a loop along a ray goes by, where its numbers lie, and that it is the walk of specs/Scan.antt. Assumes nothing.
use mathlib.Core.Bool.{Bool, cond}
use mathlib.Core.Path.{◌≡◌, refl, sym, ap, subst, ◌∙◌}
use mathlib.Core.List.{List, ◌∷◌}
use Prim.Native.Nat.{ℕ, zero, suc, ◌+◌, ◌*◌, ◌-◌, ◌≤◌, ◌<◌, min}
use native.Mathlib.Nat.{suc-mul, mul-le-mul_right, sub-zero}
use native.Mathlib.Omega.{arith}
use lib.Dec.{eqb}
use lib.ListN.{get_or, set}
use borrow.Author.Tests.{eq-eqb, ne_eqb}
use Rattle.grid.specs.declared.Axes.{Axes}
use Rattle.grid.specs.declared.Cell.{Cell}
use Rattle.grid.specs.Grid.{num}
use Rattle.grid.specs.Ways.{Way, up_k, down_k, up_j, down_j, up_i, down_i, room, beside}
use Rattle.grid.proofs.Ways.{adds, takes_off, beside_num, beside_room}
use Rattle.fill_walks.specs.declared.Phase.{Phase}
use Rattle.fill_walks.specs.Scan.{walked_for, walked_to, walked_over, walked_from}
use Rattle.fill_walks.specs.Rays.{ray, Along, walked_along, LineFits, walked_both}

-- a positive number is the successor of one less
pub one_less : (n : ℕ) → 0 < n → n ≡ suc (n - 1)
one_less n h = omega arith

-- ---- a walk's loop

ray_step : (c add sub n : ℕ) → 0 < n → ray c add sub n ≡ (c + add - sub) ∷ ray (c + add - sub) add sub (n - 1)
unfolding ray
ray_step c add sub n h = ap (λ (m : ℕ). ray c add sub m) (one_less n h)

pub along_step : (len c add sub n : ℕ) → 0 < n → Along len c add sub n → (sub ≤ c + add) × (c + add - sub < len) × Along len (c + add - sub) add sub (n - 1)
unfolding Along
along_step len c add sub n h a = subst (λ (m : ℕ). Along len c add sub m) (one_less n h) a

module _ (p : Phase) (c add sub n : ℕ) (l : List ℕ) where
  abbrev next : ℕ
  next = c + add - sub

  abbrev stops : List ℕ
  stops = cond (eqb (get_or l next 0) 8) (set l next p.mark) l

  go_first : 0 < n → walked_along p (ray c add sub n) l ≡ cond (eqb (get_or l next 0) p.pass) (walked_along p (ray next add sub (n - 1)) (set l next p.todo)) stops
  unfolding walked_along
  go_first h = ap (λ (cs : List ℕ). walked_along p cs l) (ray_step c add sub n h)

  pub go_none : n ≤ 0 → walked_along p (ray c add sub n) l ≡ l
  unfolding walked_along ray
  go_none h = subst (λ (m : ℕ). walked_along p (ray c add sub m) l ≡ l) (none n h) refl
    where
      none : (n : ℕ) → n ≤ 0 → 0 ≡ n
      none n h = omega arith

  pub go_pass : 0 < n → get_or l next 0 ≡ p.pass → walked_along p (ray c add sub n) l ≡ walked_along p (ray next add sub (n - 1)) (set l next p.todo)
  go_pass h e = go_first h ∙ ap (λ (b : Bool). cond b (walked_along p (ray next add sub (n - 1)) (set l next p.todo)) stops) (eq-eqb (get_or l next 0) p.pass e)

  go_other : 0 < n → (get_or l next 0 ≡ p.pass → ⊥) → walked_along p (ray c add sub n) l ≡ stops
  go_other h z = go_first h ∙ ap (λ (b : Bool). cond b (walked_along p (ray next add sub (n - 1)) (set l next p.todo)) stops) (ne_eqb (get_or l next 0) p.pass z)

  pub go_mark : 0 < n → (get_or l next 0 ≡ p.pass → ⊥) → get_or l next 0 ≡ 8 → walked_along p (ray c add sub n) l ≡ set l next p.mark
  go_mark h z e = go_other h z ∙ ap (λ (b : Bool). cond b (set l next p.mark) l) (eq-eqb (get_or l next 0) 8 e)

  pub go_stop : 0 < n → (get_or l next 0 ≡ p.pass → ⊥) → (get_or l next 0 ≡ 8 → ⊥) → walked_along p (ray c add sub n) l ≡ l
  go_stop h z e = go_other h z ∙ ap (λ (b : Bool). cond b (set l next p.mark) l) (ne_eqb (get_or l next 0) 8 e)

-- ---- where a ray's numbers lie

along_up : (len c s n : ℕ) → c + n * s < len → Along len c s 0 n
unfolding Along
along_up len c s zero h = tt
along_up len c s (suc n) h =
    (omega arith, omega (arith, suc-mul n s), along_up len (c + s - 0) s n (rw sub-zero (omega (arith, suc-mul n s))))

along_down : (len c s n : ℕ) → c < len → n * s ≤ c → Along len c 0 s n
unfolding Along
along_down len c s zero h g = tt
along_down len c s (suc n) h g =
    (omega (arith, suc-mul n s), omega arith, along_down len (c + 0 - s) s n (omega arith) (omega (arith, suc-mul n s)))

module _ (c s a n len : ℕ) (h : LineFits c s a n len) where
  pub span_here : c < len
  span_here = omega (arith, h.high)

  pub span_up : (m : ℕ) → m ≤ n - (a + 1) → Along len c s 0 m
  span_up m g = along_up len c s m (omega (arith, h.high, mul-le-mul_right s g))

  pub span_down : (m : ℕ) → m ≤ a → Along len c 0 s m
  span_down m g = along_down len c s m span_here (omega (arith, h.low, mul-le-mul_right s g))

-- ---- a walk by numbers is the walk by cells

pub by_numbers : (p : Phase) (r : Axes) (w : Way) (n : ℕ) (c : Cell) (q : ℕ) (l : List ℕ) → num r c ≡ q → n ≤ room r w c
    → walked_along p (ray q (adds r w) (takes_off r w) n) l ≡ walked_for p r w n c l
unfolding walked_along ray walked_for
by_numbers p r w zero c q l e h = refl
by_numbers p r w (suc n) c q l e h =
    let d = beside w c in
    let m : ℕ = q + adds r w - takes_off r w in
    let f : num r d ≡ m = beside_num r c w (omega arith) ∙ ap (λ (x : ℕ). x + adds r w - takes_off r w) e in
    let g : n ≤ room r w d = omega (arith, beside_room r c w (omega arith)) in
    ap (λ (t : List ℕ). cond (eqb (get_or l m 0) p.pass) t (cond (eqb (get_or l m 0) 8) (set l m p.mark) l)) (by_numbers p r w n d m (set l m p.todo) f g)
    ∙ ap (λ (x : ℕ). cond (eqb (get_or l x 0) p.pass) (walked_for p r w n d (set l x p.todo)) (cond (eqb (get_or l x 0) 8) (set l x p.mark) l)) (sym f)

min_left : (a b : ℕ) → min a b ≤ a
min_left a b = omega arith

-- and both ways on each axis are the six ways
pub six_ways : (p : Phase) (r : Axes) (c : Cell) (q : ℕ) (l : List ℕ) → q ≡ num r c
    → walked_both p q 1 c.i r.r0 (walked_both p q r.r0 c.j r.r1 (walked_both p q (r.r0 * r.r1) c.k r.r2 l)) ≡ walked_from p r c l
unfolding walked_both walked_over
six_ways p r c q l e =
    let f = sym e in
    let way : (w : Way) (l : List ℕ) → walked_along p (ray q (adds r w) (takes_off r w) (min (room r w c) 64)) l ≡ walked_to p r w c l = λ w l. by_numbers p r w (min (room r w c) 64) c q l f (min_left _ _) in
    let go : (w : Way) (l m : List ℕ) → l ≡ m → walked_along p (ray q (adds r w) (takes_off r w) (min (room r w c) 64)) l ≡ walked_to p r w c m = λ w l m t. way w l ∙ ap (walked_to p r w c) t in
    go down_i _ _ (go up_i _ _ (go down_j _ _ (go up_j _ _ (go down_k _ _ (go up_k l l refl)))))
