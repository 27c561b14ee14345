-- Settling a neighbour of the closed cell: what a mark, a trip that met an exit and one that met none leave of where a closing stands. Assumes nothing.
use mathlib.Core.Bool.{Bool, true, false, cond, ◌&&◌}
use mathlib.Core.Logic.{◌⊎◌, inl, inr, ⊎_elim}
use mathlib.Core.Path.{◌≡◌, refl, sym, ap, subst, ◌∙◌}
use mathlib.Core.List.{List}
use Prim.Native.Nat.{ℕ, ◌+◌, ◌<◌, ◌≤◌, zero-le}
use native.Mathlib.Omega.{arith}
use lib.Dec.{eqb, leb}
use lib.ListN.{length, set, length-set}
use borrow.Author.Tests.{eq-eqb, ne_eqb, le-leb, lt-leb}
use Rattle.grid.specs.declared.Axes.{Axes}
use Rattle.grid.specs.declared.Cell.{Cell}
use Rattle.grid.specs.Counts.{count_of}
use Rattle.grid.specs.Grid.{num, cells, InGrid, at, Sheet, Face}
use Rattle.grid.specs.Passes.{becomes, Within}
use Rattle.grid.specs.Paths.{starts, steps, Through}
use Rattle.grid.specs.Ways.{room, beside}
use Rattle.grid.proofs.Cells.{dec_eq, not_both, num_lt, stored, swap_face, cells_max}
use Rattle.grid.proofs.Counts.{count_most, count_none}
use Rattle.grid.proofs.First.{le_or_lt}
use Rattle.grid.proofs.Paths.{joined_in, joined_kind, joined_within, joined_more, joined_trans, joined_back}
use Rattle.grid.proofs.Ways.{beside_in, beside_face}
use Rattle.edits_reach.specs.declared.Seen.{Seen}
use Rattle.edits_reach.specs.declared.Trip.{Trip}
use Rattle.edits_reach.specs.Reach.{way_of, Sees, Exit, Leads, MayReach, Reaches}
use Rattle.edits_reach.proofs.Tests.{true_false, flag}
use Rattle.edits_reach.proofs.Ways.{seen_room}
use Rattle.edits_settle.specs.declared.SealCounts.{SealCounts}
use Rattle.edits_settle.specs.Closing.{HasWay, Map, Fate, as_was, marked, cut, Rooted, Standing, Relabels, Seals, way_out, cut_off, Settles}
use Rattle.edits_settle.proofs.Relabelled.{by_place, count_kept, count_relabelled}

-- a trip that does not stop reaches all
module _ (r : Axes) (pass done : ℕ) (m : List ℕ) (s : Cell) (ok : MayReach r pass done false m s) (e : List ℕ) (w : Trip) (k : Reaches r pass done false m s e w) where
  pub unmet : w.met ≡ false
  unmet = flag w.met (λ q. true_false (k.met_at q).0 refl)

  pub reached : (x : Cell) → InGrid r x → (Through r m pass s x × (at r e x ≡ done)) ⊎ ((Through r m pass s x → ⊥) × (at r e x ≡ at r m x))
  reached x h = ⊎_elim
      (λ q. inl (q.0, q.2))
      (λ q. inr ((λ v. ⊎_elim q.0 (λ u. ok.apart (sym (k.whole unmet x v) ∙ q.1 ∙ u)) (joined_kind v)), q.1))
      (k.each x h)

-- ---- ways

module _ (r : Axes) (m : List ℕ) where
  way_six : {x : Cell} → HasWay r m x → at r m x ≡ 6
  way_six w = ⊎_elim (λ s. s.1) (λ p. p) (joined_kind w)

  -- on from a cell that has one, and back to one
  pub way_on : {a x : Cell} → HasWay r m a → Through r m 6 a x → HasWay r m x
  way_on {a} w u = joined_trans (joined_more (λ y (e : y ≡ a). subst (HasWay r m) (sym e) w) (λ y p. p) u)

  pub way_back : {a x : Cell} → at r m a ≡ 6 → Through r m 6 a x → HasWay r m x → HasWay r m a
  way_back six u w = way_on w (joined_back six u)

-- a path of cells v to x, from one that is v
pub through_label : (r : Axes) (l : List ℕ) (v : ℕ) (a : Cell) {x : Cell} → at r l a ≡ v → Through r l v a x → at r l x ≡ v
through_label r l v a {x} e u = ⊎_elim (λ (i : x ≡ a). ap (at r l) i ∙ e) (λ q. q) (joined_kind u)

-- labels v that stay keep every path of them, and every root
pub through_keep : (r : Axes) (l e : List ℕ) (v : ℕ) (a : Cell) {x : Cell} → ((y : Cell) → InGrid r y → at r l y ≡ v → at r e y ≡ v) → Through r l v a x → Through r e v a x
through_keep r l e v a g u = joined_within (λ y h q. q) g u

pub root_keep : (r : Axes) (c : Cell) → InGrid r c → (l e : List ℕ) (v : ℕ) (x : Cell) → ((y : Cell) → InGrid r y → at r l y ≡ v → at r e y ≡ v) → Rooted r c l v x → Rooted r c e v x
root_keep r c hc l e v x g k = record {
  some = k.some;
  root = g (beside (way_of v) c) (beside_in r c (way_of v) hc k.some) k.root;
  path = through_keep r l e v (beside (way_of v) c) g k.path;
}

stands_same : (r : Axes) (m : List ℕ) (c : Cell) (l e : List ℕ) (x : Cell) → at r e x ≡ at r l x → Fate r m c l x → Fate r m c e x
stands_same r m c l e x q (as_was p) = as_was (q ∙ p)
stands_same r m c l e x q (marked p s w) = marked p (subst (λ (v : ℕ). v < 6) (sym q) s) w
stands_same r m c l e x q (cut p s b w) = cut p (q ∙ s) b w

-- ---- what holds wherever a closing stands

module _ (r : Axes) (c : Cell) (l m : List ℕ) (n : ℕ) (mp : Map r m) (st : Standing r m c l n) where
  low_not : (x : Cell) → InGrid r x → at r m x < 6 → ⊥
  low_not x h g = ⊎_elim (λ e. omega (arith, e)) (λ e. ⊎_elim (λ q. omega (arith, q)) (λ q. omega (arith, q)) e) (mp x h)

  pub six_was : (x : Cell) → InGrid r x → at r l x ≡ 6 → at r m x ≡ 6
  six_was x h e = of (st.each x h)
    where
      of : Fate r m c l x → at r m x ≡ 6
      of (as_was q) = sym q ∙ e
      of (marked q s w) = q
      of (cut q s b w) = q

  path_was : (a : Cell) {x : Cell} → Through r l 6 a x → Through r m 6 a x
  path_was a u = through_keep r l m 6 a six_was u

  -- a cell 6 that is an exit has a way
  exit_way : (done : ℕ) (t : Cell) → InGrid r t → at r m t ≡ 6 → Exit r done l t → HasWay r m t
  exit_way done t h six (inl b) = starts h (b, six)
  exit_way done t h six (inr (y, hy, f, k)) = of (st.each y hy)
    where
      of : Fate r m c l y → HasWay r m t
      of (as_was q) = absurd (low_not y hy (subst (λ (v : ℕ). v < 6) q k.0))
      of (marked q s w) = steps w (swap_face f) h six
      of (cut q s b w) = absurd (omega (arith, s, k.0))

-- ---- the answer of a settling

abbrev pub came : ℕ → ℕ → SealCounts
came k j = record { sealed = k; marked = j }

came_so : (s : SealCounts) (k j : ℕ) → s.sealed ≡ k → s.marked ≡ j → came k j ≡ s
came_so s k j e q = λ t. record { sealed = sym e t; marked = sym q t }

-- ---- the two trips

module _ (r : Axes) (l : List ℕ) (q : Cell) (d : ℕ) where
  pub first_ready : Sheet r l → InGrid r q → at r l q ≡ 6 → d < 6 → MayReach r 6 d true l q
  first_ready fits h six low = record {
    sheet = fits;
    inside = h;
    pass_low = omega arith;
    done_low = omega arith;
    apart = omega arith;
    fresh = not_both _ 6 d (omega arith) six;
    firm = λ _. (omega arith, omega (arith, six));
  }

  trip_start : InGrid r q → (e : List ℕ) (w : Trip) → Reaches r 6 d true l q e w → at r e q ≡ d
  trip_start h e w k = ⊎_elim (λ a. a.2) (λ a. absurd (a.0 refl)) (k.each q h)

  -- what the trip set, and that a second one may go over it
  pub second_start : Sheet r l → InGrid r q → (e : List ℕ) (w : Trip) → Reaches r 6 d true l q e w → Sheet r e × (at r e q ≡ d)
  second_start fits h e w k = (record { sound = fits.sound; size = k.size ∙ fits.size }, trip_start h e w k)

pub relabelled_so : (v d new : ℕ) → v ≡ d → cond (eqb v d) new v ≡ new
relabelled_so v d new e = ap (λ (b : Bool). cond b new v) (eq-eqb v d e)

pub relabelled_not : (v d new : ℕ) → (v ≡ d → ⊥) → cond (eqb v d) new v ≡ v
relabelled_not v d new z = ap (λ (b : Bool). cond b new v) (ne_eqb v d z)

-- every label of q's kind becomes another, by a trip or by a pass
module _ (r : Axes) (l : List ℕ) (q : Cell) (d new : ℕ) (fits : Sheet r l) (h : InGrid r q) (own : at r l q ≡ d) (low : d < 6) (high : 6 ≤ new) (top : new < 9) where
  pub relabel_ready : MayReach r d new false l q
  relabel_ready = record {
    sheet = fits;
    inside = h;
    pass_low = omega arith;
    done_low = top;
    apart = λ e. omega arith;
    fresh = λ e. omega (arith, own, e);
    firm = λ z. absurd (true_false z refl);
  }

  pub relabelled_trip : (e : List ℕ) (w : Trip) → Reaches r d new false l q e w → Relabels r q d new l e
  relabelled_trip e w k = record {
    size = k.size;
    only = λ x g. ⊎_elim (λ a. inr a.1) (λ a. inl a.1) (reached r d new l q relabel_ready e w k x g);
    each = λ roots x g. ⊎_elim
        (λ a. a.1 ∙ sym (relabelled_so (at r l x) d new (through_label r l d q own a.0)))
        (λ a. a.1 ∙ sym (relabelled_not (at r l x) d new (λ i. a.0 (roots x g i))))
        (reached r d new l q relabel_ready e w k x g);
  }

  pub relabelled_pass : (n : ℕ) (e : List ℕ) → n ≡ length l → Within 0 n (λ _. becomes d d new) l e → Relabels r q d new l e
  relabelled_pass n e len k = record {
    size = k.size;
    only = λ x g. ⊎_elim (λ i. inr (at_pass x g ∙ i)) (λ i. inl (at_pass x g ∙ i)) (either (at r l x));
    each = λ _ x g. at_pass x g ∙ same (at r l x);
  }
    where
      at_pass : (x : Cell) → InGrid r x → at r e x ≡ becomes d d new (at r l x)
      at_pass x g = k.passed (num r x) zero-le (omega (arith, len, fits.size, num_lt r x g))

      same : (v : ℕ) → becomes d d new v ≡ cond (eqb v d) new v
      same v = dec_eq v d
          (λ e. ap (λ (b : Bool). cond b new v) (yes_both v e) ∙ sym (relabelled_so v d new e))
          (λ z. ap (λ (b : Bool). cond b new v) (no_both v z) ∙ sym (relabelled_not v d new z))
        where
          yes_both : (v : ℕ) → v ≡ d → (leb d v && leb v d) ≡ true
          yes_both v e = λ t. le-leb d v (omega arith) t && le-leb v d (omega arith) t

          no_both : (v : ℕ) → (v ≡ d → ⊥) → (leb d v && leb v d) ≡ false
          no_both v z = ⊎_elim (λ (g : d ≤ v). and_false (leb d v) (leb v d) (lt-leb v d (omega arith))) (λ g. λ t. lt-leb d v g t && leb v d) (le_or_lt d v)
            where
              and_false : (a b : Bool) → b ≡ false → (a && b) ≡ false
              and_false true b e = e
              and_false false b e = refl

      either : (v : ℕ) → (becomes d d new v ≡ new) ⊎ (becomes d d new v ≡ v)
      either v = go (leb d v && leb v d)
        where
          go : (b : Bool) → (cond b new v ≡ new) ⊎ (cond b new v ≡ v)
          go true = inl refl
          go false = inr refl

-- ---- one neighbour

module _ (r : Axes) (c : Cell) (hc : InGrid r c) (d : ℕ) (low : d < 6) (trips : Bool) (l : List ℕ) (fits : Sheet r l) where
  nothing : (e : List ℕ) (n : ℕ) (m : List ℕ) → Standing r m c e n → Standing r m c e (n + 0)
  nothing e n m st = subst (Standing r m c e) (plus n) st
    where
      plus : (n : ℕ) → n ≡ n + 0
      plus n = omega arith

  -- the one way from d up to d + 1
  one_way : (e : List ℕ) (x : ℕ) → d ≤ x → x < d + 1 → (0 < room r (way_of d) c → at r e (beside (way_of d) c) ≡ 6 → ⊥) → 0 < room r (way_of x) c → at r e (beside (way_of x) c) ≡ 6 → ⊥
  one_way e x p q k = subst (λ (y : ℕ). 0 < room r (way_of y) c → at r e (beside (way_of y) c) ≡ 6 → ⊥) (same x p q) k
    where
      same : (x : ℕ) → d ≤ x → x < d + 1 → d ≡ x
      same x p q = omega arith

  -- no label changes
  unchanged : (trips ≡ true → 0 < room r (way_of d) c → at r l (beside (way_of d) c) ≡ 6 → ⊥) → Settles d (d + 1) r c trips l l (came 0 0)
  unchanged z = record { size = refl; fewer = λ x h q. q; sides = λ w x p q. one_way l x p q (z w); few = omega arith; some = omega arith; still = λ _. refl; keeps = λ m n mp st. nothing l n m st }

  pub settled_other : (a : Seen) → Sees r l c d a → (a.label ≡ 6 → ⊥) → Settles d (d + 1) r c trips l l (came 0 0)
  settled_other a s z = unchanged (λ _ g q. z (s.label g ∙ q))

  pub settled_later : trips ≡ false → Settles d (d + 1) r c trips l l (came 0 0)
  settled_later w = unchanged (λ t. absurd (true_false t w))

  module _ (some : 0 < room r (way_of d) c) (six : at r l (beside (way_of d) c) ≡ 6) where
    abbrev q : Cell
    q = beside (way_of d) c

    hq : InGrid r q
    hq = beside_in r c (way_of d) hc some

    -- a label under 6 is not that of a cell 6
    mark_apart : {v : ℕ} → v ≡ 6 → v < 6 → ⊥
    mark_apart e g = omega arith

    -- cells 6 that q leads to are marked, and q leads to an exit
    module _ (e : List ℕ) (size : length e ≡ length l)
        (each : (x : Cell) → InGrid r x → (Through r l 6 q x × Through r e d q x × (at r e x ≡ d)) ⊎ ((x ≡ q → ⊥) × (at r e x ≡ at r l x)))
        (done : ℕ) (t : Cell) (to : Through r l 6 q t) (exit : Exit r done l t) where
      keep_low : (v : ℕ) → v < 6 → (y : Cell) → InGrid r y → at r l y ≡ v → at r e y ≡ v
      keep_low v g y h p = ⊎_elim (λ a. absurd (mark_apart (through_label r l 6 q six a.0) (subst (λ (z : ℕ). z < 6) (sym p) g))) (λ a. a.1 ∙ p) (each y h)

      seven_kept : count_of 7 e ≡ count_of 7 l
      seven_kept = count_kept 7 l e size (by_place r l e (λ a b. (b ≡ a) ⊎ ((a ≡ 7 → ⊥) × (b ≡ 7 → ⊥))) fits.size (λ x h. ⊎_elim
          (λ a. inr (not_both _ 6 7 (omega arith) (through_label r l 6 q six a.0), not_both _ d 7 (omega arith) a.2))
          (λ a. inl a.1)
          (each x h)))

      marking_keeps : (m : List ℕ) (n : ℕ) → Map r m → Standing r m c l n → Standing r m c e (n + 0)
      marking_keeps m n mp st = record {
        size = size ∙ st.size;
        each = λ x h. ⊎_elim
            (λ a. marked (via_six a.0) (subst (λ (v : ℕ). v < 6) (sym a.2) low) (has_way a.0))
            (λ a. stands_same r m c l e x a.1 (st.each x h))
            (each x h);
        closed = λ x y hx hy f px py s. ⊎_elim
            (λ a. absurd (not_both _ d 7 (omega arith) a.2 s))
            (λ a. let was = st.closed x y hx hy f px py (sym a.1 ∙ s) in ⊎_elim
            (λ b. absurd (not_both _ 6 7 (omega arith) (through_label r l 6 q six b.0) was))
            (λ b. b.1 ∙ was)
            (each y hy))
            (each x hx);
        rooted = λ x h g. ⊎_elim
            (λ a. subst (λ (v : ℕ). Rooted r c e v x) (sym a.2) (record { some = some; root = at_q; path = a.1 }))
            (λ a. subst (λ (v : ℕ). Rooted r c e v x) (sym a.1)
            (root_keep r c hc l e (at r l x) x (keep_low (at r l x) (subst (λ (v : ℕ). v < 6) a.1 g)) (st.rooted x h (subst (λ (v : ℕ). v < 6) a.1 g))))
            (each x h);
        counted = omega (arith, st.counted, seven_kept);
      }
        where
          at_q : at r e q ≡ d
          at_q = ⊎_elim (λ a. a.2) (λ a. absurd (a.0 refl)) (each q hq)

          q_six : at r m q ≡ 6
          q_six = six_was r c l m n mp st q hq six

          via_six : {x : Cell} → Through r l 6 q x → at r m x ≡ 6
          via_six u = through_label r m 6 q q_six (path_was r c l m n mp st q u)

          q_way : HasWay r m q
          q_way = way_back r m q_six (path_was r c l m n mp st q to) (exit_way r c l m n mp st done t (joined_in to) (via_six to) exit)

          has_way : {x : Cell} → Through r l 6 q x → HasWay r m x
          has_way u = way_on r m q_way (path_was r c l m n mp st q u)

      marking : (j : ℕ) → j ≤ 16777216 → Settles d (d + 1) r c trips l e (came 0 j)
      marking j some = record {
        size = size;
        fewer = λ x h p. ⊎_elim (λ a. absurd (not_both _ d 6 (omega arith) a.2 p)) (λ a. sym a.1 ∙ p) (each x h);
        sides = λ _ x p q. one_way e x p q (λ _ g. ⊎_elim (λ a. not_both _ d 6 (omega arith) a.2 g) (λ a. a.0 refl) (each (beside (way_of d) c) hq));
        few = omega arith;
        some = omega (arith, some);
        still = λ _. refl;
        keeps = marking_keeps;
      }

    -- a look found a way
    pub settled_found : (i : ℕ) → i ≡ num r q → Leads r l q → Settles d (d + 1) r c trips l (set l i d) (came 0 1)
    settled_found i e (t, u, x) = rw e (marking (set l (num r q) d) (length-set l (num r q) d) each 6 t u x 1 (omega arith))
      where
        each : (x : Cell) → InGrid r x → (Through r l 6 q x × Through r (set l (num r q) d) d q x × (at r (set l (num r q) d) x ≡ d)) ⊎ ((x ≡ q → ⊥) × (at r (set l (num r q) d) x ≡ at r l x))
        each x h = stored r l d x q h hq fits.size (λ p v. inl (starts h p, starts h p, v)) (λ z v. inr (z, v))

    module _ (l₁ : List ℕ) (w₁ : Trip) (k₁ : Reaches r 6 d true l q l₁ w₁) where
      at_q₁ : at r l₁ q ≡ d
      at_q₁ = trip_start r l q d hq l₁ w₁ k₁

      -- the trip met an exit
      trip_few : w₁.count ≤ 16777216
      trip_few = omega (arith, k₁.counted, count_most (λ x. eqb x d) l₁, k₁.size, fits.size, cells_max r fits.sound)

      settled_out : w₁.met ≡ true → Settles d (d + 1) r c trips l l₁ (came 0 w₁.count)
      settled_out met = let x = k₁.met_at met in marking l₁ k₁.size k₁.each d x.1 x.2 x.3 w₁.count trip_few

      -- it met none, and what it set takes a new label
      module _ (free : w₁.met ≡ false) (e : List ℕ) (k₂ : Relabels r q d 7 l₁ e) where
        seven_or : (x : Cell) → InGrid r x → (at r e x ≡ 7) ⊎ (at r e x ≡ at r l₁ x)
        seven_or x h = ⊎_elim (λ a. inr a) (λ a. inl a) (k₂.only x h)

        fewer : (x : Cell) → InGrid r x → at r e x ≡ 6 → at r l x ≡ 6
        fewer x h p = ⊎_elim
            (λ a. absurd (not_both _ 7 6 (omega arith) a p))
            (λ a. ⊎_elim (λ b. absurd (not_both _ d 6 (omega arith) b.2 (sym a ∙ p))) (λ b. sym (a ∙ b.1) ∙ p) (k₁.each x h))
            (seven_or x h)

        seven_kept₁ : count_of 7 l₁ ≡ count_of 7 l
        seven_kept₁ = count_kept 7 l l₁ k₁.size (by_place r l l₁ (λ a b. (b ≡ a) ⊎ ((a ≡ 7 → ⊥) × (b ≡ 7 → ⊥))) fits.size (λ x h. ⊎_elim
            (λ a. inr (not_both _ 6 7 (omega arith) (through_label r l 6 q six a.0), not_both _ d 7 (omega arith) a.2))
            (λ a. inl a.1)
            (k₁.each x h)))

        module _ (m : List ℕ) (n : ℕ) (mp : Map r m) (st : Standing r m c l n) where
          -- there was no mark d
          no_mark : (x : Cell) → InGrid r x → at r l x ≡ d → ⊥
          no_mark x h p =
              let k = st.rooted x h (subst (λ (v : ℕ). v < 6) (sym p) low) in
              not_both _ 6 d (omega arith) six (subst (λ (v : ℕ). at r l (beside (way_of v) c) ≡ v) p k.root)

          roots : (x : Cell) → InGrid r x → at r l₁ x ≡ d → Through r l₁ d q x
          roots x h p = ⊎_elim (λ a. a.1) (λ a. absurd (no_mark x h (sym a.1 ∙ p))) (k₁.each x h)

          each : (x : Cell) → InGrid r x → (Through r l 6 q x × (at r e x ≡ 7)) ⊎ ((Through r l 6 q x → ⊥) × (at r e x ≡ at r l x))
          each x h = ⊎_elim
              (λ a. inl (a.0, k₂.each roots x h ∙ relabelled_so (at r l₁ x) d 7 a.2))
              (λ a. inr ((λ u. no_mark x h (sym a.1 ∙ k₁.whole free x u)), k₂.each roots x h ∙ relabelled_not (at r l₁ x) d 7 (λ p. no_mark x h (sym a.1 ∙ p)) ∙ a.1))
              (k₁.each x h)

          -- as many became 7 as the trip set
          seven_more : count_of 7 e ≡ count_of 7 l₁ + w₁.count
          seven_more =
              let all = count_relabelled 7 d (omega arith) l₁ e k₂.size (by_place r l₁ e (λ a b. b ≡ cond (eqb a d) 7 a) (k₁.size ∙ fits.size) (k₂.each roots)) in
              let none = count_none (λ x. eqb x d) l (by_place r l l (λ a _. eqb a d ≡ false) fits.size (λ x h. ne_eqb (at r l x) d (no_mark x h))) in
              omega (arith, all, none, k₁.counted)

          -- what it reached has no mark beside it
          unmarked : (x y : Cell) → InGrid r y → Face x y → Through r l 6 q x → at r l y < 6 → ⊥
          unmarked x y hy f u g = k₁.clear free refl x u (inr (y, hy, f, (g, no_mark y hy)))

          no_way : {x : Cell} → Through r l 6 q x → HasWay r m x → ⊥
          no_way {x} u (starts h s) = k₁.clear free refl x u (inl s.0)
          no_way {x} u (steps {c = y} w f h p) = of (λ a. no_way (steps u (swap_face f) (joined_in w) (a ∙ way_six r m w)) w) (st.each y (joined_in w))
            where
              of : (at r l y ≡ at r m y → ⊥) → Fate r m c l y → ⊥
              of z (as_was a) = z a
              of z (marked a s v) = unmarked x y (joined_in w) (swap_face f) u s
              of z (cut a s b v) = v w

          seven : (x : Cell) → InGrid r x → at r l x ≡ 7 → at r e x ≡ 7
          seven x h p = ⊎_elim (λ a. a.1) (λ a. a.1 ∙ p) (each x h)

          beside_seven : (x y : Cell) → InGrid r y → Face x y → Through r l 6 q x → at r m y ≡ 6 → at r e y ≡ 7
          beside_seven x y hy f u py = of (st.each y hy)
            where
              of : Fate r m c l y → at r e y ≡ 7
              of (as_was a) = ⊎_elim (λ b. b.1) (λ b. absurd (b.0 (steps u f hy (a ∙ py)))) (each y hy)
              of (marked a s v) = absurd (unmarked x y hy f u s)
              of (cut a s b v) = seven y hy s

          keep_mark : (v : ℕ) → v < 6 → (y : Cell) → InGrid r y → at r l y ≡ v → at r e y ≡ v
          keep_mark v g y h p = ⊎_elim (λ a. absurd (mark_apart (through_label r l 6 q six a.0) (subst (λ (z : ℕ). z < 6) (sym p) g))) (λ a. a.1 ∙ p) (each y h)

          cutting_keeps : Standing r m c e (n + w₁.count)
          cutting_keeps = record {
            size = k₂.size ∙ k₁.size ∙ st.size;
            each = λ x h. ⊎_elim
                (λ a. let u = path_was r c l m n mp st q a.0 in cut (through_label r m 6 q q_six u) a.1 (q, hq, beside_face r c (way_of d) some, q_six, u) (no_way a.0))
                (λ a. stands_same r m c l e x a.1 (st.each x h))
                (each x h);
            closed = λ x y hx hy f px py s. ⊎_elim
                (λ a. beside_seven x y hy f a.0 py)
                (λ a. seven y hy (st.closed x y hx hy f px py (sym a.1 ∙ s)))
                (each x hx);
            rooted = λ x h g. ⊎_elim
                (λ a. absurd (omega (arith, a.1)))
                (λ a. let g' = subst (λ (v : ℕ). v < 6) a.1 g in subst (λ (v : ℕ). Rooted r c e v x) (sym a.1) (root_keep r c hc l e (at r l x) x (keep_mark (at r l x) g') (st.rooted x h g')))
                (each x h);
            counted = omega (arith, st.counted, seven_more, seven_kept₁);
          }
            where
              q_six : at r m q ≡ 6
              q_six = six_was r c l m n mp st q hq six

        settled_in : trips ≡ true → Settles d (d + 1) r c trips l e (came w₁.count 0)
        settled_in w = record {
          size = k₂.size ∙ k₁.size;
          fewer = fewer;
          sides = λ _ x y z. one_way e x y z (λ _ p. ⊎_elim (λ a. not_both _ 7 6 (omega arith) a p) (λ a. not_both _ d 6 (omega arith) (a ∙ at_q₁) p) (seven_or q hq));
          few = omega (arith, trip_few);
          some = omega arith;
          still = λ z. absurd (true_false w z);
          keeps = λ m n mp st. cutting_keeps m n mp st;
        }

    pub settled_sealed : trips ≡ true → (e : List ℕ) (s : SealCounts) → Seals r l q d e s → Settles d (d + 1) r c trips l e s
    settled_sealed w e s (way_out w₁ k₁ met y z) = subst (Settles d (d + 1) r c trips l e) (came_so s 0 w₁.count y z) (settled_out e w₁ k₁ met)
    settled_sealed w e s (cut_off w₁ l₁ k₁ free k₂ y z) = subst (Settles d (d + 1) r c trips l e) (came_so s w₁.count 0 y z) (settled_in l₁ w₁ k₁ free e k₂ w)

-- ---- the neighbour as the code has it: a look saw that it is 6

module _ (r : Axes) (l : List ℕ) (c : Cell) (d : ℕ) (a : Seen) (hc : InGrid r c) (s : Sees r l c d a) (six : a.label ≡ 6) where
  pub seen_some : 0 < room r (way_of d) c
  seen_some = seen_room r l c d a s (λ z. omega arith)

  pub seen_label : at r l (beside (way_of d) c) ≡ 6
  seen_label = sym (s.label seen_some) ∙ six

  module _ (q : Cell) (e : q ≡ beside (way_of d) c) where
    pub seen_in : InGrid r q
    seen_in = subst (InGrid r) (sym e) (beside_in r c (way_of d) hc seen_some)

    pub seen_number : a.n ≡ num r q
    seen_number = s.number seen_some ∙ ap (num r) (sym e)

    pub seen_six : at r l q ≡ 6
    seen_six = ap (at r l) e ∙ seen_label

    pub seen_place : length l ≡ cells r → a.n < length l
    seen_place size = omega (arith, size, seen_number, num_lt r q seen_in)

-- ---- one neighbour after the other

-- all ways are done
pub all_ways : (d : ℕ) → d ≤ 6 → 6 ≤ d → d ≡ 6
all_ways d g h = omega arith

module _ (r : Axes) (c : Cell) (trips : Bool) (l : List ℕ) where
  pub settles_none : Settles 0 0 r c trips l l (came 0 0)
  settles_none = record {
    size = refl;
    fewer = λ x h q. q;
    sides = λ _ d g h. absurd (never d h);
    few = zero-le;
    some = zero-le;
    still = λ _. refl;
    keeps = λ m n mp st. subst (Standing r m c l) (plus n) st;
  }
    where
      never : (d : ℕ) → d < 0 → ⊥
      never d h = omega arith

      plus : (n : ℕ) → n ≡ n + 0
      plus n = omega arith

  pub settles_then : InGrid r c → (i j k : ℕ) (a e : List ℕ) (s t : SealCounts) → Settles i j r c trips l a s → Settles j k r c trips a e t → Settles i k r c trips l e (came (s.sealed + t.sealed) (s.marked + t.marked))
  settles_then hc i j k a e s t u o = record {
    size = o.size ∙ u.size;
    fewer = λ x h p. u.fewer x h (o.fewer x h p);
    sides = λ w d g h room p. ⊎_elim
        (λ q. o.sides w d q h room p)
        (λ q. u.sides w d g q room (o.fewer (beside (way_of d) c) (beside_in r c (way_of d) hc room) p))
        (le_or_lt j d);
    few = omega (arith, u.few, o.few);
    some = omega (arith, u.some, o.some);
    still = λ w. omega (arith, u.still w, o.still w);
    keeps = λ m n mp st. subst (Standing r m c e) (plus n s.sealed t.sealed) (o.keeps m (n + s.sealed) mp (u.keeps m n mp st));
  }
    where
      plus : (n k j : ℕ) → n + k + j ≡ n + (k + j)
      plus n k j = omega arith
