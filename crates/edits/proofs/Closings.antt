-- A closing: what stands once the neighbours are settled, and the marks 6 again, is what 01 says. Assumes nothing.
use mathlib.Core.Bool.{true, false, cond}
use mathlib.Core.Logic.{◌⊎◌, inl, inr, ⊎_elim}
use mathlib.Core.Path.{◌≡◌, refl, sym, ap, subst, ◌∙◌}
use mathlib.Core.List.{List}
use Prim.Native.Nat.{ℕ, ◌+◌, ◌<◌, ◌≤◌, zero-le}
use native.Mathlib.Omega.{arith}
use lib.Dec.{ltb}
use lib.ListN.{length, get_or, set, length-set}
use Rattle.grid.specs.declared.Axes.{Axes}
use Rattle.grid.specs.declared.Cell.{Cell}
use Rattle.grid.specs.Counts.{count_of}
use Rattle.grid.specs.Grid.{num, cells, InGrid, at, Sheet, Face}
use Rattle.grid.specs.Paths.{starts, steps, Through}
use Rattle.grid.specs.Ways.{room, beside}
use Rattle.grid.proofs.Cells.{dec_cell, not_both, num_lt, here, there, stored}
use Rattle.grid.proofs.First.{le_or_lt}
use Rattle.grid.proofs.Paths.{joined_in, joined_trans, joined_more}
use Rattle.grid.proofs.Ways.{face_way}
use Rattle.edits_reach.specs.Reach.{way_of}
use Rattle.edits_reach.proofs.Ways.{number_of, way_numbered, numbered_low}
use Rattle.edits_settle.specs.declared.SealCounts.{SealCounts}
use Rattle.edits.specs.Edits.{closing, lidded, HasWay, Closes, lid, sealed, stays, changed, Edited}
use Rattle.edits_settle.specs.Closing.{Map, FromBeside, Fate, as_was, marked, cut, Standing, Settles, Restores, is_below}
use Rattle.edits_settle.proofs.Relabelled.{by_place, count_kept}
use Rattle.edits_settle.proofs.Restorings.{below_so, below_not}
use Rattle.edits.proofs.Changes.{changed_count, changed_one}
use Rattle.edits_settle.proofs.Settlings.{way_on, through_label, through_keep}

module _ (r : Axes) (m : List ℕ) (c : Cell) (fits : Sheet r m) (mp : Map r m) (hc : InGrid r c) where
  abbrev m₈ : List ℕ
  m₈ = lidded r m c

  size₈ : length m₈ ≡ cells r
  size₈ = length-set m (num r c) 8 ∙ fits.size

  at_c : at r m₈ c ≡ 8
  at_c = here r m 8 c hc fits.size

  other_six : (x : Cell) → InGrid r x → at r m₈ x ≡ 6 → at r m x ≡ 6
  other_six x h e = stored r m 8 x c h hc fits.size (λ _ q. absurd (not_both _ 8 6 (omega arith) q e)) (λ _ q. sym q ∙ e)

  pub map₈ : Map r m₈
  map₈ x h = stored r m 8 x c h hc fits.size (λ _ q. inr (inr q)) (λ _ q. ⊎_elim (λ a. inl (q ∙ a)) (λ a. ⊎_elim (λ b. inr (inl (q ∙ b))) (λ b. inr (inr (q ∙ b))) a) (mp x h))

  pub standing : Standing r m₈ c m₈ 0
  standing = record {
    size = size₈;
    each = λ x h. as_was refl;
    closed = λ x y hx hy f p q s. absurd (not_both _ 6 7 (omega arith) p s);
    rooted = λ x h g. absurd (⊎_elim (λ e. omega (arith, e)) (λ e. ⊎_elim (λ q. omega (arith, q)) (λ q. omega (arith, q)) e) (map₈ x h));
    counted = omega arith;
  }

  -- a cell that is no 6
  pub closed_plain : (i : ℕ) → i ≡ num r c → (get_or m i 0 ≡ 6 → ⊥) → (at r m c ≡ 8 → ⊥) → Edited r m (closing c) 1 (set m i 8)
  closed_plain i e z y = rw e (record {
    size = length-set m (num r c) 8;
    each = λ d h. stored r m 8 d c h hc fits.size (λ p q. lid p q) (λ p q. stays p (λ was. absurd (z (ap (λ (x : ℕ). get_or m x 0) e ∙ was))) q);
    counted = sym (changed_one m (lidded r m c) (num r c) 8 (rw fits.size (num_lt r c hc)) (length-set m (num r c) 8) y at_c ∙ ap (λ (n : ℕ). n + 1) none);
  })
    where
      none : changed m₈ m₈ ≡ 0
      none = let t = changed_count 7 m₈ m₈ refl (λ i h. inl refl) in omega arith

  -- the neighbours are settled, and no mark is left
  module _ (was : at r m c ≡ 6) (l f : List ℕ) (n : ℕ) (st : Standing r m₈ c l n) (sides : (d : ℕ) → d < 6 → 0 < room r (way_of d) c → at r l (beside (way_of d) c) ≡ 6 → ⊥)
      (size : length f ≡ length l) (back : (x : Cell) → InGrid r x → at r f x ≡ cond (ltb (at r l x) 6) 6 (at r l x)) where
    back_mark : (x : Cell) → InGrid r x → at r l x < 6 → at r f x ≡ 6
    back_mark x h g = back x h ∙ below_so (at r l x) 6 g

    back_same : (x : Cell) → InGrid r x → (v : ℕ) → 6 ≤ v → at r l x ≡ v → at r f x ≡ v
    back_same x h v g e = back x h ∙ below_not (at r l x) 6 (omega (arith, e)) ∙ e

    high₈ : (x : Cell) → InGrid r x → 6 ≤ at r m₈ x
    high₈ x h = ⊎_elim (λ e. omega (arith, e)) (λ e. ⊎_elim (λ q. omega (arith, q)) (λ q. omega (arith, q)) e) (map₈ x h)

    now_8 : at r f c ≡ 8
    now_8 = of (st.each c hc)
      where
        of : Fate r m₈ c l c → at r f c ≡ 8
        of (as_was q) = back_same c hc 8 (omega arith) (q ∙ at_c)
        of (marked q s w) = absurd (not_both _ 8 6 (omega arith) at_c q)
        of (cut q s b w) = absurd (not_both _ 8 6 (omega arith) at_c q)

    -- joined to c, from one of its neighbours
    side_of : {x : Cell} → Through r m 6 c x → (x ≡ c) ⊎ FromBeside r m₈ c x
    side_of (starts h e) = inl e
    side_of (steps {c = d} {d = x} u g h p) =
        let from = side_of u in
        dec_cell r x c h hc (λ e. inl e) (λ z.
        let p' : at r m₈ x ≡ 6 = there r m 8 x c h hc z ∙ p in
        inr (⊎_elim
        (λ (e : d ≡ c). (x, h, subst (λ (y : Cell). Face y x) e g, p', starts h refl))
        (λ a. (a.0, a.1, a.2, a.3, steps a.4 g h p'))
        from))

    from_side : {x : Cell} → FromBeside r m₈ c x → Through r m 6 c x
    from_side (q, hq, g, p, u) =
        joined_trans (joined_more (λ y (e : y ≡ q). subst (Through r m 6 c) (sym e) (steps (starts hc refl) g hq (other_six q hq p))) (λ y s. s)
        (through_keep r m₈ m 6 q other_six u))

    -- what is joined to a sealed cell is sealed
    sealed_on : (q : Cell) → at r m₈ q ≡ 6 → at r l q ≡ 7 → {x : Cell} → Through r m₈ 6 q x → at r l x ≡ 7
    sealed_on q p s {x} (starts h e) = ap (at r l) e ∙ s
    sealed_on q p s (steps {c = d} {d = x} u g h t) = st.closed d x (joined_in u) h g (through_label r m₈ 6 q p u) t (sealed_on q p s u)

    spared : (x : Cell) → InGrid r x → at r l x ≡ at r m₈ x → FromBeside r m₈ c x → HasWay r m₈ x
    spared x h e (q, hq, g, p, u) = of (st.each q hq)
      where
        of : Fate r m₈ c l q → HasWay r m₈ x
        of (as_was a) =
            let w = face_way r c q hq g in
            let i = way_numbered w.0 in
            absurd (sides (number_of w.0) (numbered_low w.0) (subst (λ y. 0 < room r y c) (sym i) w.1) (ap (λ y. at r l (beside y c)) i ∙ ap (at r l) (sym w.2) ∙ a ∙ p))
        of (marked a s w) = way_on r m₈ w u
        of (cut a s b w) = absurd (not_both _ 7 6 (omega arith) (sealed_on q p s u) (e ∙ through_label r m₈ 6 q p u))

    label_after : (d : Cell) → InGrid r d → (d ≡ c → ⊥) → Closes r m c d (at r f d)
    label_after d h z = of (st.each d h)
      where
        same : at r m₈ d ≡ at r m d
        same = there r m 8 d c h hc z

        of : Fate r m₈ c l d → Closes r m c d (at r f d)
        of (as_was a) = stays z (λ _ u. ⊎_elim (λ e. absurd (z e)) (λ b. spared d h a b) (side_of u)) (back_same d h (at r m₈ d) (high₈ d h) a ∙ same)
        of (marked a s w) = stays z (λ _ _. w) (back_mark d h s ∙ sym a ∙ same)
        of (cut a s b w) = sealed z was (from_side b) w (back_same d h 7 (omega arith) s)

    -- of the labels after, only 7 is new, but for c
    seven_new : (x : Cell) → InGrid r x → (at r f x ≡ at r m₈ x) ⊎ ((at r m₈ x ≡ 7 → ⊥) × (at r f x ≡ 7))
    seven_new x h = of (st.each x h)
      where
        of : Fate r m₈ c l x → (at r f x ≡ at r m₈ x) ⊎ ((at r m₈ x ≡ 7 → ⊥) × (at r f x ≡ 7))
        of (as_was a) = inl (back_same x h (at r m₈ x) (high₈ x h) a)
        of (marked a s w) = inl (back_mark x h s ∙ sym a)
        of (cut a s b w) = inr (not_both _ 6 7 (omega arith) a, back_same x h 7 (omega arith) s)

    size_f : length f ≡ cells r
    size_f = size ∙ st.size

    kept : count_of 7 f ≡ count_of 7 l
    kept = count_kept 7 l f size (by_place r l f (λ a b. (b ≡ a) ⊎ ((a ≡ 7 → ⊥) × (b ≡ 7 → ⊥))) st.size (λ x h. ⊎_elim
        (λ (g : 6 ≤ at r l x). inl (back_same x h (at r l x) g refl))
        (λ g. inr ((λ e. omega (arith, e)), not_both _ 6 7 (omega arith) (back_mark x h g)))
        (le_or_lt 6 (at r l x))))

    pub closed_up : Edited r m (closing c) (n + 1) f
    closed_up = record {
      size = size_f ∙ sym fits.size;
      each = λ d h. dec_cell r d c h hc (λ e. lid e (ap (at r f) e ∙ now_8)) (label_after d h);
      counted = omega (
        arith,
        st.counted,
        kept,
        changed_one m f (num r c) 8 (rw fits.size (num_lt r c hc)) (size_f ∙ sym fits.size) (not_both _ 6 8 (omega arith) was) now_8,
        changed_count 7 m₈ f (size_f ∙ sym size₈) (by_place r m₈ f (λ a b. (b ≡ a) ⊎ ((a ≡ 7 → ⊥) × (b ≡ 7))) size₈ seven_new),
      );
    }

  -- as the code has it: i is c's number, and the neighbours are settled twice
  pub closed_steps : (i : ℕ) → i ≡ num r c → get_or m i 0 ≡ 6 → (a b f : List ℕ) (j k : SealCounts)
      → Settles 0 6 r c false (set m i 8) a j → Settles 0 6 r c true a b k → Restores (is_below 6) r c b f → Edited r m (closing c) (k.sealed + 1) f
  closed_steps i e six a b f j k s t u =
      let first = subst (λ (x : ℕ). Settles 0 6 r c false (set m x 8) a j) e s in
      let st = subst (Standing r m₈ c b) (sum j.sealed k.sealed (first.still refl)) (t.keeps m₈ (0 + j.sealed) map₈ (first.keeps m₈ 0 map₈ standing)) in
      closed_up (ap (λ (x : ℕ). get_or m x 0) (sym e) ∙ six) b f k.sealed st (λ d h. t.sides refl d zero-le h) u.size (u.each st.rooted)
    where
      sum : (j k : ℕ) → j ≡ 0 → 0 + j + k ≡ k
      sum j k e = omega arith
