-- How many cells a set has: none, one, those of one set and then of another; the sets of a walk along an axis; and the pairs of one triangle after another. Assumes nothing.
use mathlib.Core.Bool.{Bool, true, false, cond, ◌&&◌, ◌||◌}
use mathlib.Core.Logic.{⊎_elim}
use mathlib.Core.Path.{◌≡◌, refl, sym, ap, ◌∙◌}
use mathlib.Core.List.{List, [], ◌∷◌, ◌++◌}
use Prim.Native.Nat.{ℕ, suc, ◌+◌, ◌*◌, ◌≤◌, ◌<◌}
use native.Mathlib.Numerals.{add-one}
use native.Mathlib.Omega.{arith}
use lib.Dec.{eqb, leb, ltb}
use lib.ListN.{length, length-append}
use lib.Ieee.{Float}
use borrow.Author.Tests.{eqb-true, le-ltb, lt-leb}
use Rattle.grid.specs.declared.Axes.{Axes}
use Rattle.grid.specs.declared.Cell.{Cell}
use Rattle.grid.specs.declared.Placement.{Placement}
use Rattle.grid.specs.Grid.{Sound, InGrid, at}
use Rattle.grid.proofs.First.{le_or_lt, both_true}
use Rattle.grid.proofs.Cells.{cells_max}
use Rattle.touch.specs.declared.Bands.{Bands}
use Rattle.touch.specs.Bands.{kept_all}
use Rattle.grid.specs.declared.Stretch.{Stretch}
use Rattle.marking_mesh.specs.Ranges.{between, holds}
use Rattle.marking.specs.Painted.{left_in, one, row_of}
use Rattle.marking.proofs.Paint.{upto, Walk, walk_starts, walk_on, more_held, holds_here, holds_is}
use Rattle.order.specs.Order.{in_order, keep, chosen, join_all}
use Rattle.order.proofs.Orders.{by_bool, length_order}
use Rattle.order.proofs.Sums.{kept_one}
use Rattle.list.specs.List.{is_listed, listed}
use Rattle.list_tally.specs.Pairs.{surface_in, joins, size_of}

-- ---- the cells of a list that are in a set

keep_none : (set : Cell → Bool) (cs : List Cell) → ((c : Cell) → set c ≡ false) → length (keep set cs) ≡ 0
unfolding keep
keep_none set [] h = refl
keep_none set (c ∷ cs) h = rw (h c) (keep_none set cs h)

keep_same : (p q : Cell → Bool) (cs : List Cell) → ((c : Cell) → p c ≡ q c) → keep p cs ≡ keep q cs
unfolding keep
keep_same p q [] h = refl
keep_same p q (c ∷ cs) h = by_bool (q c) (λ e. rw (h c ∙ e, e) (ap (λ (l : List Cell). c ∷ l) (keep_same p q cs h))) (λ e. rw (h c ∙ e, e) (keep_same p q cs h))

keep_either : (p q s : Cell → Bool) (cs : List Cell) → ((c : Cell) → s c ≡ (p c || q c)) → ((c : Cell) → (p c && q c) ≡ false) → length (keep s cs) ≡ length (keep p cs) + length (keep q cs)
unfolding keep
keep_either p q s [] h z = refl
keep_either p q s (c ∷ cs) h z = go (keep_either p q s cs h z) (p c) (q c) (h c) (z c)
  where
    go : length (keep s cs) ≡ length (keep p cs) + length (keep q cs) → (x y : Bool) → s c ≡ (x || y) → (x && y) ≡ false
        → length (cond (s c) (c ∷ keep s cs) (keep s cs)) ≡ length (cond x (c ∷ keep p cs) (keep p cs)) + length (cond y (c ∷ keep q cs) (keep q cs))
    go n true true e w = absurd (let v : ◌≡◌ {A = ℕ} 0 1 = cc in omega arith)
    go n true false e w = rw e (omega (arith, n))
    go n false true e w = rw e (omega (arith, n))
    go n false false e w = rw e (omega (arith, n))

keep_most : (set : Cell → Bool) (cs : List Cell) → length (keep set cs) ≤ length cs
unfolding keep
keep_most set [] = omega arith
keep_most set (c ∷ cs) = by_bool (set c) (λ e. rw e (omega (arith, keep_most set cs))) (λ e. rw e (omega (arith, keep_most set cs)))

-- of the cells that pass one test, those of a narrower one
keep_keep : (p q : Cell → Bool) (cs : List Cell) → ((c : Cell) → q c ≡ true → p c ≡ true) → keep q (keep p cs) ≡ keep q cs
unfolding keep
keep_keep p q [] h = refl
keep_keep p q (c ∷ cs) h = go (keep_keep p q cs h) (p c) (q c) refl refl
  where
    go : keep q (keep p cs) ≡ keep q cs → (x y : Bool) → p c ≡ x → q c ≡ y → keep q (cond (p c) (c ∷ keep p cs) (keep p cs)) ≡ cond (q c) (c ∷ keep q cs) (keep q cs)
    go n true true e f = rw (e, f) (ap (λ (l : List Cell). c ∷ l) n)
    go n true false e f = rw (e, f) n
    go n false true e f = absurd (let w = h c f in let v : ◌≡◌ {A = ℕ} 0 1 = cc in omega arith)
    go n false false e f = rw (e, f) n

-- ---- a walk along an axis that stands at n, with the cells of a set counted

pub record Tallied (r : Axes) (e : Stretch) (i : ℕ) (set : Cell → Bool) (n : ℕ) : Type 0 where
  pub walk : Walk e i
  pub count : n ≡ size_of r set

module _ (r : Axes) where
  pub size_most : Sound r → (set : Cell → Bool) → size_of r set ≤ 16777216
  size_most s set = omega (arith, keep_most set (in_order r), length_order r, cells_max r s)

  pub size_same : (p q : Cell → Bool) → ((c : Cell) → p c ≡ q c) → size_of r p ≡ size_of r q
  size_same p q h = ap (λ (l : List Cell). length l) (keep_same p q (in_order r) h)

  pub tallied_most : Sound r → (e : Stretch) (i : ℕ) (set : Cell → Bool) (n : ℕ) → Tallied r e i set n → n ≤ 16777216
  tallied_most s e i set n w = omega (arith, w.count, size_most s set)

  module _ (l : List ℕ) where
    -- the cells 8 of a set
    pub surface_same : (p q : Cell → Bool) → ((c : Cell) → p c ≡ q c) → size_of r (surface_in r l p) ≡ size_of r (surface_in r l q)
    surface_same p q h = size_same (surface_in r l p) (surface_in r l q) (λ c. ap (λ (b : Bool). eqb (at r l c) 8 && b) (h c))

    module _ (e : Stretch) where
      pub tallied_starts : (p : Cell → Bool) → ((c : Cell) → p c ≡ false) → Tallied r e e.from (surface_in r l p) 0
      tallied_starts p h = record { walk = walk_starts e; count = sym (keep_none (surface_in r l p) (in_order r) (λ c. ap (λ (b : Bool). eqb (at r l c) 8 && b) (h c) ∙ none (eqb (at r l c) 8))) }
        where
          none : (b : Bool) → (b && false) ≡ false
          none true = refl
          none false = refl

      -- one place more
      pub tallied_on : (i : ℕ) (p q s : Cell → Bool) (m n : ℕ) → Tallied r e i (surface_in r l p) m → i < e.to → n ≡ size_of r (surface_in r l q)
          → ((c : Cell) → s c ≡ (p c || q c)) → ((c : Cell) → (p c && q c) ≡ false) → Tallied r e (i + 1) (surface_in r l s) (m + n)
      tallied_on i p q s m n w h b f z = record {
        walk = walk_on e i w.walk h;
        count =
            omega (
              arith,
              w.count,
              b,
              keep_either (surface_in r l p) (surface_in r l q) (surface_in r l s) (in_order r)
                  (λ c. ap (λ (x : Bool). eqb (at r l c) 8 && x) (f c) ∙ spread (eqb (at r l c) 8) (p c) (q c))
                  (λ c. apart (eqb (at r l c) 8) (p c) (q c) (z c)),
            );
      }
        where
          spread : (a x y : Bool) → (a && (x || y)) ≡ ((a && x) || (a && y))
          spread true x y = refl
          spread false x y = refl

          apart : (a x y : Bool) → (x && y) ≡ false → ((a && x) && (a && y)) ≡ false
          apart true x y h = h
          apart false x y h = refl

-- ---- the place where a walk stands is none of those behind it

behind : (e : Stretch) (n x : ℕ) → (between (upto e n) x && between (one n) x) ≡ false
behind e n x =
    ⊎_elim
    (λ h. ap (λ (b : Bool). (leb e.from x && b) && (leb n x && ltb x (n + 1))) (le-ltb x n h) ∙ none_l (leb e.from x) (leb n x && ltb x (n + 1)))
    (λ h. ap (λ (b : Bool). (leb e.from x && ltb x n) && (b && ltb x (n + 1))) (lt-leb n x h) ∙ none_r (leb e.from x && ltb x n))
    (le_or_lt n x)
  where
    none_l : (a b : Bool) → ((a && false) && b) ≡ false
    none_l true b = refl
    none_l false b = refl

    none_r : (a : Bool) → (a && false) ≡ false
    none_r true = refl
    none_r false = refl

-- so two blocks that differ in that axis have no cell in common
module _ (s : Bands) (e : Stretch) (n : ℕ) where
  cross : (x y a b k : Bool) → (x && y) ≡ false → (((x && a) && b) && k) && (((y && a) && b) && k) ≡ false
  cross true true a b k h = absurd (let v : ◌≡◌ {A = ℕ} 0 1 = cc in omega arith)
  cross true false a b k h = low (a && b && k)
    where
      low : (t : Bool) → (t && false) ≡ false
      low true = refl
      low false = refl
  cross false y a b k h = refl

  swap : (a x : Bool) → (a && x) ≡ (x && a)
  swap true true = refl
  swap true false = refl
  swap false true = refl
  swap false false = refl

  pub apart_i : (j k : Stretch) (c : Cell) → (left_in (record { i = upto e n; j = j; k = k }) s c && left_in (record { i = one n; j = j; k = k }) s c) ≡ false
  unfolding holds
  apart_i j k c = cross (between (upto e n) c.i) (between (one n) c.i) (between j c.j) (between k c.k) (kept_all s c) (behind e n c.i)

  pub apart_j : (i k : Stretch) (c : Cell) → (left_in (record { i = i; j = upto e n; k = k }) s c && left_in (record { i = i; j = one n; k = k }) s c) ≡ false
  unfolding holds
  apart_j i k c =
      let a = between i c.i in
      let x = between (upto e n) c.j in
      let y = between (one n) c.j in
      ap (λ (t : Bool). ((t && between k c.k) && kept_all s c) && (((a && y) && between k c.k) && kept_all s c)) (swap a x)
      ∙ ap (λ (t : Bool). (((x && a) && between k c.k) && kept_all s c) && ((t && between k c.k) && kept_all s c)) (swap a y)
      ∙ cross x y a (between k c.k) (kept_all s c) (behind e n c.j)

  pub apart_k : (i j : Stretch) (c : Cell) → (left_in (record { i = i; j = j; k = upto e n }) s c && left_in (record { i = i; j = j; k = one n }) s c) ≡ false
  unfolding holds
  apart_k i j c =
      let a = between i c.i && between j c.j in
      let x = between (upto e n) c.k in
      let y = between (one n) c.k in
      ap (λ (t : Bool). (t && kept_all s c) && ((a && y) && kept_all s c)) (swap a x)
      ∙ ap (λ (t : Bool). ((x && a) && kept_all s c) && (t && kept_all s c)) (swap a y)
      ∙ cross3 x y a (kept_all s c) (behind e n c.k)
    where
      cross3 : (x y a k : Bool) → (x && y) ≡ false → ((x && a) && k) && ((y && a) && k) ≡ false
      cross3 true true a k h = absurd (let v : ◌≡◌ {A = ℕ} 0 1 = cc in omega arith)
      cross3 true false a k h = low (a && k)
        where
          low : (t : Bool) → (t && false) ≡ false
          low true = refl
          low false = refl
      cross3 false y a k h = refl

-- ---- a row, of which every cell counts

pub apart_held : (e : Stretch) (n j k : ℕ) (c : Cell) → (holds (row_of (upto e n) j k) c && holds (row_of (one n) j k) c) ≡ false
unfolding holds
apart_held e n j k c = cross (between (upto e n) c.i) (between (one n) c.i) (between (one j) c.j) (between (one k) c.k) (behind e n c.i)
  where
    cross : (x y a b : Bool) → (x && y) ≡ false → ((x && a) && b) && ((y && a) && b) ≡ false
    cross true true a b h = absurd (let v : ◌≡◌ {A = ℕ} 0 1 = cc in omega arith)
    cross true false a b h = low (a && b)
      where
        low : (t : Bool) → (t && false) ≡ false
        low true = refl
        low false = refl
    cross false y a b h = refl

-- one cell of it
size_cell : (r : Axes) (l : List ℕ) (i j k : ℕ) → InGrid r (record { i = i; j = j; k = k })
    → size_of r (surface_in r l (holds (row_of (one i) j k))) ≡ cond (eqb (at r l (record { i = i; j = j; k = k })) 8) 1 0
size_cell r l i j k g =
    kept_one (surface_in r l (holds (row_of (one i) j k))) r d g other
    ∙ ap {B = ℕ} (λ (b : Bool). cond (eqb (at r l d) 8 && b) 1 0) (holds_here i j k)
    ∙ ap {B = ℕ} (λ (b : Bool). cond b 1 0) (whole (eqb (at r l d) 8))
  where
    d : Cell
    d = record { i = i; j = j; k = k }

    whole : (a : Bool) → (a && true) ≡ a
    whole true = refl
    whole false = refl

    other : (c : Cell) → (c ≡ d → ⊥) → surface_in r l (holds (row_of (one i) j k)) c ≡ false
    other c z = go (holds (row_of (one i) j k) c) refl
      where
        none : (a : Bool) → (a && false) ≡ false
        none true = refl
        none false = refl

        go : (t : Bool) → holds (row_of (one i) j k) c ≡ t → surface_in r l (holds (row_of (one i) j k)) c ≡ false
        go true f = absurd (z (holds_is i j k c f))
        go false f = ap (λ (t : Bool). eqb (at r l c) 8 && t) f ∙ none (eqb (at r l c) 8)

-- a turn of a walk along a row: the cell where it stands is counted, or not
pub turn : (r : Axes) (l : List ℕ) (e : Stretch) (i j k n m : ℕ) → InGrid r (record { i = i; j = j; k = k }) → i < e.to
    → Tallied r e i (surface_in r l (holds (row_of (upto e i) j k))) n → m ≡ cond (eqb (at r l (record { i = i; j = j; k = k })) 8) 1 0
    → Tallied r e (i + 1) (surface_in r l (holds (row_of (upto e (i + 1)) j k))) (n + m)
turn r l e i j k n m g h w f =
    tallied_on r l e i (holds (row_of (upto e i) j k)) (holds (row_of (one i) j k)) (holds (row_of (upto e (i + 1)) j k)) n m w h
    (f ∙ sym (size_cell r l i j k g))
    (more_held e j k i w.walk)
    (apart_held e i j k)

-- ---- triangle after triangle

module _ (q : ℕ → Cell → Bool) where
  joined_none : (cs : List Cell) → length (join_all (λ c. chosen (λ u. q u c) 0) cs) ≡ 0
  unfolding join_all chosen
  joined_none [] = refl
  joined_none (c ∷ cs) = joined_none cs

  joined_more : (t : ℕ) (cs : List Cell) → length (join_all (λ c. chosen (λ u. q u c) (suc t)) cs) ≡ length (join_all (λ c. chosen (λ u. q u c) t) cs) + length (keep (q t) cs)
  unfolding join_all chosen keep
  joined_more t [] = refl
  joined_more t (c ∷ cs) = go (joined_more t cs) (q t c)
    where
      go : length (join_all (λ c. chosen (λ u. q u c) (suc t)) cs) ≡ length (join_all (λ c. chosen (λ u. q u c) t) cs) + length (keep (q t) cs) → (b : Bool)
          → length ((chosen (λ u. q u c) t ++ cond b (t ∷ []) []) ++ join_all (λ c. chosen (λ u. q u c) (suc t)) cs)
          ≡ length (chosen (λ u. q u c) t ++ join_all (λ c. chosen (λ u. q u c) t) cs) + length (cond b (c ∷ keep (q t) cs) (keep (q t) cs))
      go n true =
          omega (
            arith,
            n,
            length-append (chosen (λ u. q u c) t ++ (t ∷ [])) (join_all (λ c. chosen (λ u. q u c) (suc t)) cs),
            length-append (chosen (λ u. q u c) t) (t ∷ []),
            length-append (chosen (λ u. q u c) t) (join_all (λ c. chosen (λ u. q u c) t) cs),
          )
      go n false =
          omega (
            arith,
            n,
            length-append (chosen (λ u. q u c) t ++ []) (join_all (λ c. chosen (λ u. q u c) (suc t)) cs),
            length-append (chosen (λ u. q u c) t) [],
            length-append (chosen (λ u. q u c) t) (join_all (λ c. chosen (λ u. q u c) t) cs),
          )

module _ (ps : List Float) (ts : List ℕ) (r : Axes) (p : Placement) (l : List ℕ) where
  -- the pairs of the triangles below t
  abbrev pub pairs_below : ℕ → ℕ
  pairs_below t = length (join_all (λ c. chosen (λ u. joins ps ts r p l u c) t) (listed r l))

  -- a cell 8 is listed
  surface_listed : (t : ℕ) (c : Cell) → joins ps ts r p l t c ≡ true → is_listed (at r l c) ≡ true
  surface_listed t c h = ap is_listed (eqb-true (at r l c) 8 (both_true (eqb (at r l c) 8) _ h).0)

  -- t triangles have n pairs
  pub record Paired (t n : ℕ) : Type 0 where
    pub count : n ≡ pairs_below t
    pub few : n ≤ t * 16777216

  pub paired_none : Paired 0 0
  paired_none = record { count = sym (joined_none (joins ps ts r p l) (listed r l)); few = omega arith }

  pub paired_more : Sound r → (t n m : ℕ) → Paired t n → m ≡ size_of r (joins ps ts r p l t) → Paired (t + 1) (n + m)
  paired_more s t n m a e = record {
    count =
        omega (
          arith,
          a.count,
          e,
          joined_more (joins ps ts r p l) t (listed r l),
          ap (λ (cs : List Cell). length cs) (keep_keep (λ c. is_listed (at r l c)) (joins ps ts r p l t) (in_order r) (surface_listed t)),
          ap (λ (k : ℕ). pairs_below k) (add-one t),
        );
    few = omega (arith, a.few, e, size_most r s (joins ps ts r p l t));
  }
