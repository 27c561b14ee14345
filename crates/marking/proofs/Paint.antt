-- Laws of specs/Painted.antt: painting nothing, a cell, one set and then another; and a walk along an axis, place after place. Assumes nothing.
use mathlib.Core.Bool.{Bool, true, false, cond, ◌&&◌, ◌||◌}
use mathlib.Core.Logic.{◌⊎◌, inl, inr, ⊎_elim}
use mathlib.Core.Path.{◌≡◌, refl, sym, ap, ◌∙◌}
use mathlib.Core.List.{List}
use Prim.Native.Nat.{ℕ, ◌+◌, ◌≤◌, ◌<◌}
use native.Mathlib.Omega.{arith}
use lib.Dec.{leb, ltb}
use lib.IntN.{ℤ}
use lib.ListN.{set, length-set}
use borrow.Author.Tests.{le-leb, lt-leb, lt-ltb, le-ltb, leb-true, ltb-true}
use Rattle.grid.specs.declared.Axes.{Axes}
use Rattle.grid.specs.declared.Cell.{Cell}
use Rattle.grid.specs.Grid.{InGrid, num, at, Sheet}
use Rattle.grid.proofs.First.{le_or_lt, both_true}
use Rattle.grid.proofs.Cells.{cell_path, sheet_kept, stored}
use Rattle.touch.specs.declared.Bands.{Bands}
use Rattle.touch.specs.Touch.{touching}
use Rattle.touch.specs.Bands.{kept_all, bands_of, BandsFit}
use Rattle.touch.proofs.Laws.{bands_touch}
use Rattle.grid.specs.declared.Stretch.{Stretch}
use Rattle.grid.specs.declared.Block.{Block}
use Rattle.marking_mesh.specs.Mesh.{is_candidate}
use Rattle.marking_mesh.specs.Ranges.{BlockOf, between, holds}
use Rattle.marking_mesh.proofs.Laws.{block_test}
use Rattle.marking_cuts.specs.Cuts.{Cut, Clipped, axes_leave, across_x, across_y, rest_of_row}
use Rattle.marking_cuts.proofs.Laws.{layer_all, kept_axes, kept_x, kept_y}
use Rattle.marking.specs.Painted.{Painted, left_in, one, row_of, layer_of, AxesLeave, RowRest}

-- ---- painting

module _ (r : Axes) where
  pub painted_none : (p : Cell → Bool) (l : List ℕ) → ((c : Cell) → p c ≡ false) → Painted r p l l
  painted_none p l h = record { size = refl; labels = λ c i. sym (ap (λ (b : Bool). cond b 8 (at r l c)) (h c)) }

  pub painted_same : (p q : Cell → Bool) (l m : List ℕ) → Painted r p l m → ((c : Cell) → p c ≡ q c) → Painted r q l m
  painted_same p q l m w h = record { size = w.size; labels = λ c i. w.labels c i ∙ ap (λ (b : Bool). cond b 8 (at r l c)) (h c) }

  pub painted_then : (p q s : Cell → Bool) (l m n : List ℕ) → Painted r p l m → Painted r q m n → ((c : Cell) → s c ≡ (p c || q c)) → Painted r s l n
  painted_then p q s l m n a b h =
      record {
        size = b.size ∙ a.size;
        labels = λ c i.
            b.labels c i ∙ ap (λ (v : ℕ). cond (q c) 8 v) (a.labels c i) ∙ either (p c) (q c) (at r l c) ∙ sym (ap (λ (t : Bool). cond t 8 (at r l c)) (h c));
      }
    where
      either : (a b : Bool) (v : ℕ) → cond b 8 (cond a 8 v) ≡ cond (a || b) 8 v
      either true true v = refl
      either true false v = refl
      either false b v = refl

  -- a sheet stays one
  pub painted_sheet : (p : Cell → Bool) (l m : List ℕ) → Painted r p l m → Sheet r l → Sheet r m
  painted_sheet p l m w s = sheet_kept r l m w.size s

-- ---- along an axis: the places from e's first up to, not including, i

abbrev pub upto : Stretch → ℕ → Stretch
upto e i = record { from = e.from; to = i }

-- a walk along e that stands at i
pub record Walk (e : Stretch) (i : ℕ) : Type 0 where
  pub low : e.from ≤ i
  pub high : (i ≤ e.to) ⊎ (i ≡ e.from)

pub walk_starts : (e : Stretch) → Walk e e.from
walk_starts e = record { low = omega arith; high = inr refl }

pub walk_on : (e : Stretch) (i : ℕ) → Walk e i → i < e.to → Walk e (i + 1)
walk_on e i w h = record { low = omega (arith, w.low); high = inl (omega arith) }

empty : (a x : ℕ) → (leb a x && ltb x a) ≡ false
empty a x = ⊎_elim (λ h. ap (λ (b : Bool). b && ltb x a) (le-leb a x h) ∙ le-ltb x a h) (λ h. ap (λ (b : Bool). b && ltb x a) (lt-leb a x h)) (le_or_lt a x)

-- no place yet
pub upto_none : (e : Stretch) (x : ℕ) → between (upto e e.from) x ≡ false
upto_none e x = empty e.from x

-- one place more
pub upto_more : (e : Stretch) (i : ℕ) → Walk e i → (x : ℕ) → between (upto e (i + 1)) x ≡ (between (upto e i) x || between (one i) x)
upto_more e i w x =
    ⊎_elim
    (λ h. ⊎_elim (λ k. at_place h k) (λ k. past_place k) (le_or_lt x i))
    (λ h. before_place h)
    (le_or_lt i x)
  where
    a : ℕ
    a = e.from

    at_place : i ≤ x → x ≤ i → (leb a x && ltb x (i + 1)) ≡ ((leb a x && ltb x i) || (leb i x && ltb x (i + 1)))
    at_place h k =
        let l = w.low in
        rw (le-leb a x (omega arith), lt-ltb x (i + 1) (omega arith), le-ltb x i h, le-leb i x h)

    past_place : i < x → (leb a x && ltb x (i + 1)) ≡ ((leb a x && ltb x i) || (leb i x && ltb x (i + 1)))
    past_place h =
        let l = w.low in
        rw (le-leb a x (omega arith), le-ltb x (i + 1) (omega arith), le-ltb x i (omega arith), le-leb i x (omega arith))

    before_place : x < i → (leb a x && ltb x (i + 1)) ≡ ((leb a x && ltb x i) || (leb i x && ltb x (i + 1)))
    before_place h = rw (lt-ltb x (i + 1) (omega arith), lt-ltb x i h, lt-leb i x h) (or_none (leb a x))
      where
        or_none : (b : Bool) → (b && true) ≡ ((b && true) || false)
        or_none true = refl
        or_none false = refl

-- every place
pub upto_done : (e : Stretch) (i : ℕ) → Walk e i → e.to ≤ i → (x : ℕ) → between (upto e i) x ≡ between e x
upto_done e i w h x =
    ⊎_elim
    (λ k. let q : i ≡ e.to = omega arith in ap (λ (n : ℕ). leb e.from x && ltb x n) q)
    (λ k. ap (λ (n : ℕ). leb e.from x && ltb x n) k ∙ empty e.from x ∙ sym (none e.from e.to x (omega arith)))
    w.high
  where
    none : (a b x : ℕ) → b ≤ a → (leb a x && ltb x b) ≡ false
    none a b x l =
        ⊎_elim (λ p. ap (λ (t : Bool). t && ltb x b) (le-leb a x p) ∙ le-ltb x b (omega arith)) (λ p. ap (λ (t : Bool). t && ltb x b) (lt-leb a x p)) (le_or_lt a x)

-- ---- a set with one more place along i, j or k

share : (x y k : Bool) → ((x || y) && k) ≡ ((x && k) || (y && k))
share true y true = refl
share true true false = refl
share true false false = refl
share false y k = refl

share_two : (x y c k : Bool) → ((x || y) && c && k) ≡ ((x && c && k) || (y && c && k))
share_two x y c k = ap (λ (b : Bool). b && k) (share x y c) ∙ share (x && c) (y && c) k

grow_i : (x y b c k : Bool) → ((x || y) && b && c && k) ≡ ((x && b && c && k) || (y && b && c && k))
grow_i x y b c k = ap (λ (t : Bool). t && c && k) (share x y b) ∙ share_two (x && b) (y && b) c k

grow_j : (a x y c k : Bool) → (a && (x || y) && c && k) ≡ ((a && x && c && k) || (a && y && c && k))
grow_j true x y c k = share_two x y c k
grow_j false x y c k = refl

grow_k : (a b x y k : Bool) → (a && b && (x || y) && k) ≡ ((a && b && x && k) || (a && b && y && k))
grow_k true true x y k = share x y k
grow_k true false x y k = refl
grow_k false b x y k = refl

-- the same of a block of which one axis is walked; i, j and k stand for its other ends
module _ (s : Bands) (e : Stretch) (n : ℕ) (w : Walk e n) where
  pub more_i : (j k : Stretch) (c : Cell)
      → left_in (record { i = upto e (n + 1); j = j; k = k }) s c ≡ (left_in (record { i = upto e n; j = j; k = k }) s c || left_in (record { i = one n; j = j; k = k }) s c)
  unfolding holds
  more_i j k c =
      ap (λ (t : Bool). t && between j c.j && between k c.k && kept_all s c) (upto_more e n w c.i)
      ∙ grow_i (between (upto e n) c.i) (between (one n) c.i) (between j c.j) (between k c.k) (kept_all s c)

  pub more_j : (i k : Stretch) (c : Cell)
      → left_in (record { i = i; j = upto e (n + 1); k = k }) s c ≡ (left_in (record { i = i; j = upto e n; k = k }) s c || left_in (record { i = i; j = one n; k = k }) s c)
  unfolding holds
  more_j i k c =
      ap (λ (t : Bool). between i c.i && t && between k c.k && kept_all s c) (upto_more e n w c.j)
      ∙ grow_j (between i c.i) (between (upto e n) c.j) (between (one n) c.j) (between k c.k) (kept_all s c)

  pub more_k : (i j : Stretch) (c : Cell)
      → left_in (record { i = i; j = j; k = upto e (n + 1) }) s c ≡ (left_in (record { i = i; j = j; k = upto e n }) s c || left_in (record { i = i; j = j; k = one n }) s c)
  unfolding holds
  more_k i j c =
      ap (λ (t : Bool). between i c.i && between j c.j && t && kept_all s c) (upto_more e n w c.k)
      ∙ grow_k (between i c.i) (between j c.j) (between (upto e n) c.k) (between (one n) c.k) (kept_all s c)

-- nothing yet, and all
module _ (s : Bands) (e : Stretch) where
  none_k : (a b k : Bool) → (a && b && false && k) ≡ false
  none_k true true k = refl
  none_k true false k = refl
  none_k false b k = refl

  none_j : (a c k : Bool) → (a && false && c && k) ≡ false
  none_j true c k = refl
  none_j false c k = refl

  pub none_along_i : (j k : Stretch) (c : Cell) → left_in (record { i = upto e e.from; j = j; k = k }) s c ≡ false
  unfolding holds
  none_along_i j k c = ap (λ (t : Bool). t && between j c.j && between k c.k && kept_all s c) (upto_none e c.i)

  pub none_along_j : (i k : Stretch) (c : Cell) → left_in (record { i = i; j = upto e e.from; k = k }) s c ≡ false
  unfolding holds
  none_along_j i k c =
      ap (λ (t : Bool). between i c.i && t && between k c.k && kept_all s c) (upto_none e c.j) ∙ none_j (between i c.i) (between k c.k) (kept_all s c)

  pub none_along_k : (i j : Stretch) (c : Cell) → left_in (record { i = i; j = j; k = upto e e.from }) s c ≡ false
  unfolding holds
  none_along_k i j c =
      ap (λ (t : Bool). between i c.i && between j c.j && t && kept_all s c) (upto_none e c.k) ∙ none_k (between i c.i) (between j c.j) (kept_all s c)

  module _ (n : ℕ) (w : Walk e n) (h : e.to ≤ n) where
    pub done_i : (j k : Stretch) (c : Cell) → left_in (record { i = upto e n; j = j; k = k }) s c ≡ left_in (record { i = e; j = j; k = k }) s c
    unfolding holds
    done_i j k c = ap (λ (t : Bool). t && between j c.j && between k c.k && kept_all s c) (upto_done e n w h c.i)

    pub done_j : (i k : Stretch) (c : Cell) → left_in (record { i = i; j = upto e n; k = k }) s c ≡ left_in (record { i = i; j = e; k = k }) s c
    unfolding holds
    done_j i k c = ap (λ (t : Bool). between i c.i && t && between k c.k && kept_all s c) (upto_done e n w h c.j)

    pub done_k : (i j : Stretch) (c : Cell) → left_in (record { i = i; j = j; k = upto e n }) s c ≡ left_in (record { i = i; j = j; k = e }) s c
    unfolding holds
    done_k i j c = ap (λ (t : Bool). between i c.i && between j c.j && t && kept_all s c) (upto_done e n w h c.k)

-- ---- one cell

one_is : (n x : ℕ) → between (one n) x ≡ true → x ≡ n
one_is n x h =
    let p = leb-true n x (both_true (leb n x) (ltb x (n + 1)) h).0 in
    let q = ltb-true x (n + 1) (both_true (leb n x) (ltb x (n + 1)) h).1 in
    omega arith

one_here : (n : ℕ) → between (one n) n ≡ true
one_here n = rw (le-leb n n (omega arith), lt-ltb n (n + 1) (omega arith))

pub holds_here : (i j k : ℕ) → holds (row_of (one i) j k) (record { i = i; j = j; k = k }) ≡ true
unfolding holds
holds_here i j k = rw (one_here i, one_here j, one_here k)

pub holds_is : (i j k : ℕ) (c : Cell) → holds (row_of (one i) j k) c ≡ true → c ≡ record { i = i; j = j; k = k }
unfolding holds
holds_is i j k c h =
    let x = between (one i) c.i in
    let y = between (one j) c.j in
    let z = between (one k) c.k in
    let xy = (both_true (x && y) z h).0 in
    cell_path c (record { i = i; j = j; k = k }) (one_is i c.i (both_true x y xy).0) (one_is j c.j (both_true x y xy).1) (one_is k c.k (both_true (x && y) z h).1)

-- a store at a cell paints it alone
pub painted_cell : (r : Axes) (l : List ℕ) (i j k : ℕ) → Sheet r l → InGrid r (record { i = i; j = j; k = k })
    → Painted r (holds (row_of (one i) j k)) l (set l (num r (record { i = i; j = j; k = k })) 8)
painted_cell r l i j k h g =
    record {
      size = length-set l (num r d) 8;
      labels = λ c in_c. stored r l 8 c d in_c g h.size (λ q v. v ∙ same c q) (λ z v. v ∙ other c z);
    }
  where
    d : Cell
    d = record { i = i; j = j; k = k }

    same : (c : Cell) → c ≡ d → 8 ≡ cond (holds (row_of (one i) j k) c) 8 (at r l c)
    same c q = sym (ap (λ (t : Bool). cond t 8 (at r l c)) (ap (holds (row_of (one i) j k)) q ∙ holds_here i j k))

    other : (c : Cell) → (c ≡ d → ⊥) → at r l c ≡ cond (holds (row_of (one i) j k) c) 8 (at r l c)
    other c z = go (holds (row_of (one i) j k) c) refl
      where
        go : (t : Bool) → holds (row_of (one i) j k) c ≡ t → at r l c ≡ cond (holds (row_of (one i) j k) c) 8 (at r l c)
        go true f = absurd (z (holds_is i j k c f))
        go false f = sym (ap (λ (t : Bool). cond t 8 (at r l c)) f)

-- ---- the whole of a row: no place yet, one more, every place; and it is what the bands leave of another
module _ (e : Stretch) (j k : ℕ) where
  pub none_held : (c : Cell) → holds (row_of (upto e e.from) j k) c ≡ false
  unfolding holds
  none_held c = ap (λ (t : Bool). t && between (one j) c.j && between (one k) c.k) (upto_none e c.i)

  pub more_held : (n : ℕ) → Walk e n → (c : Cell) → holds (row_of (upto e (n + 1)) j k) c ≡ (holds (row_of (upto e n) j k) c || holds (row_of (one n) j k) c)
  unfolding holds
  more_held n w c =
      ap (λ (t : Bool). t && between (one j) c.j && between (one k) c.k) (upto_more e n w c.i)
      ∙ share_two (between (upto e n) c.i) (between (one n) c.i) (between (one j) c.j) (between (one k) c.k)

  pub done_held : (n : ℕ) → Walk e n → e.to ≤ n → (c : Cell) → holds (row_of (upto e n) j k) c ≡ holds (row_of e j k) c
  unfolding holds
  done_held n w h c = ap (λ (t : Bool). t && between (one j) c.j && between (one k) c.k) (upto_done e n w h c.i)

  pub held_left : (s : Bands) (a : Stretch) → RowRest s e j k → Cut e (rest_of_row s j k) a → (c : Cell) → holds (row_of a j k) c ≡ left_in (row_of e j k) s c
  unfolding holds
  held_left s a u w c = go (between (one j) c.j) (between (one k) c.k) refl refl
    where
      x : Bool
      x = between a c.i

      y : Bool
      y = between e c.i

      d : Cell
      d = record { i = c.i; j = j; k = k }

      both : (x y k : Bool) → x ≡ (y && k) → (x && true && true) ≡ (y && true && true && k)
      both true true k h = h
      both false true k h = h
      both true false k h = h
      both false false k h = h

      no_j : (x y z k : Bool) → (x && false && z) ≡ (y && false && z && k)
      no_j true true z k = refl
      no_j true false z k = refl
      no_j false true z k = refl
      no_j false false z k = refl

      no_k : (x y k : Bool) → (x && true && false) ≡ (y && true && false && k)
      no_k true true k = refl
      no_k true false k = refl
      no_k false true k = refl
      no_k false false k = refl

      whole : (t : Bool) → between e c.i ≡ t → (t && rest_of_row s j k c.i) ≡ (t && kept_all s d)
      whole true f = sym (u.rest c.i f)
      whole false f = refl

      go : (p q : Bool) → between (one j) c.j ≡ p → between (one k) c.k ≡ q → (x && p && q) ≡ (y && p && q && kept_all s c)
      go true true f g =
          both x y (kept_all s c) (w.places c.i ∙ whole y refl ∙ ap (λ (t : Bool). y && t) (sym (ap (kept_all s) (cell_path c d refl (one_is j c.j f) (one_is k c.k g)))))
      go true false f g = no_k x y (kept_all s c)
      go false q f g = no_j x y q (kept_all s c)

-- ---- a layer of a block that the axes leave

pub layer_axes : (s : Bands) (b : Block) (k : ℕ) → AxesLeave s b → b.k.from ≤ k → k < b.k.to → AxesLeave s (layer_of b k)
unfolding holds
layer_axes s b k u h l =
    record {
      leave = λ c g.
          let i = between b.i c.i in
          let j = between b.j c.j in
          let e = one_is k c.k (both_true (i && j) (between (one k) c.k) g).1 in
          let f : between b.k c.k ≡ true = ap (between b.k) e ∙ rw (le-leb b.k.from k h, lt-ltb k b.k.to l) in
          u.leave c (rw ((both_true (i && j) (between (one k) c.k) g).0, f));
    }

-- cut along i and along j: what is left to test in a row, and that no cell is lost
module _ (s : Bands) (fit : BandsFit s) (b : Block) (k : ℕ) (e f : Stretch) (v : Cut b.i (across_y s k) e) (w : Cut b.j (across_x s k) f) where
  pub row_rest : AxesLeave s (layer_of b k) → (j : ℕ) → f.from ≤ j → j < f.to → RowRest s e j k
  unfolding holds
  row_rest u j h l =
      record {
        rest = λ x g.
            let a = both_true (between b.i x) (across_y s k x) (sym (v.places x) ∙ g) in
            let here : between f j ≡ true = rw (le-leb f.from j h, lt-ltb j f.to l) in
            let d = both_true (between b.j j) (across_x s k j) (sym (w.places j) ∙ here) in
            let axes = u.leave (record { i = x; j = j; k = k }) (rw (a.0, d.0, one_here k)) in
            layer_all s fit x j k ∙ rw (axes, d.1, a.1);
      }

  pub layer_left : (c : Cell) → left_in (record { i = e; j = f; k = one k }) s c ≡ left_in (layer_of b k) s c
  unfolding holds
  layer_left c = (λ t. v.places c.i t && w.places c.j t && between (one k) c.k && kept_all s c) ∙ go (between (one k) c.k) (kept_all s c) refl refl
    where
      x : Bool
      x = between b.i c.i

      y : Bool
      y = between b.j c.j

      none : (a d : Bool) → (a && d && false) ≡ false
      none true true = refl
      none true false = refl
      none false d = refl

      lost : (a d : Bool) → (a && d && true && false) ≡ false
      lost true true = refl
      lost true false = refl
      lost false d = refl

      go : (p q : Bool) → between (one k) c.k ≡ p → kept_all s c ≡ q → ((x && across_y s k c.i) && (y && across_x s k c.j) && p && q) ≡ (x && y && p && q)
      go true true g h =
          let d = cell_path c (record { i = c.i; j = c.j; k = k }) refl refl (one_is k c.k g) in
          let all = sym (ap (kept_all s) d) ∙ h in
          (λ t. (x && kept_y s fit c.i c.j k all t) && (y && kept_x s fit c.i c.j k all t) && true && true) ∙ plain x y
        where
          plain : (a d : Bool) → ((a && true) && (d && true) && true && true) ≡ (a && d && true && true)
          plain true true = refl
          plain true false = refl
          plain false d = refl
      go true false g h = lost (x && across_y s k c.i) (y && across_x s k c.j) ∙ sym (lost x y)
      go false q g h =
          ap (λ (t : Bool). t && q) (none (x && across_y s k c.i) (y && across_x s k c.j)) ∙ sym (ap (λ (t : Bool). t && q) (none x y))

-- ---- a loop along an axis that stands at n, and has painted a set

pub record Along (r : Axes) (e : Stretch) (n : ℕ) (done : Cell → Bool) (before after : List ℕ) : Type 0 where
  pub walk : Walk e n
  pub painted : Painted r done before after

module _ (r : Axes) (e : Stretch) where
  pub along_starts : (p : Cell → Bool) (l : List ℕ) → ((c : Cell) → p c ≡ false) → Along r e e.from p l l
  along_starts p l h = record { walk = walk_starts e; painted = painted_none r p l h }

  pub along_on : (n : ℕ) (p q s : Cell → Bool) (l m k : List ℕ) → Along r e n p l m → n < e.to → Painted r q m k → ((c : Cell) → s c ≡ (p c || q c)) → Along r e (n + 1) s l k
  along_on n p q s l m k w h b f = record { walk = walk_on e n w.walk h; painted = painted_then r p q s l m k w.painted b f }

  pub along_sheet : (n : ℕ) (p : Cell → Bool) (l m : List ℕ) → Along r e n p l m → Sheet r l → Sheet r m
  along_sheet n p l m w s = painted_sheet r p l m w.painted s

-- ---- what a block and its bands leave is what the triangle hits
pub left_hits : (t : List (List ℤ)) (r : Axes) (b : Block) (s : Bands) → BlockOf t r b → s ≡ bands_of t → (c : Cell) → left_in b s c ≡ (is_candidate t r c && touching t c)
left_hits t r b s w e c =
    ap (λ (x : Bool). x && kept_all s c) (block_test t r b w c) ∙ ap (λ (x : Bool). is_candidate t r c && x) (ap (λ (x : Bands). kept_all x c) e ∙ bands_touch t c)

-- and nothing of it is lost where the axes cut the block
pub clip_left : (s : Bands) (b a : Block) → BandsFit s → Clipped s.axes b a → (c : Cell) → left_in a s c ≡ left_in b s c
clip_left s b a f w c = ap (λ (t : Bool). t && kept_all s c) (w.cells c) ∙ go (kept_all s c) refl
  where
    none : (x : Bool) → (x && false) ≡ false
    none true = refl
    none false = refl

    go : (q : Bool) → kept_all s c ≡ q → ((holds b c && axes_leave s.axes c) && q) ≡ (holds b c && q)
    go true h = ap (λ (t : Bool). (holds b c && t) && true) (kept_axes s f c.i c.j c.k h) ∙ ap (λ (t : Bool). t && true) (whole (holds b c))
      where
        whole : (x : Bool) → (x && true) ≡ x
        whole true = refl
        whole false = refl
    go false h = none (holds b c && axes_leave s.axes c) ∙ sym (none (holds b c))
