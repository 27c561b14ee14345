-- Demand 3: an edit of a map that is the fill of its own surface cells leaves one. Assumes nothing.
use mathlib.Core.Logic.{◌⊎◌, inl, inr, ⊎_elim}
use mathlib.Core.Path.{◌≡◌, refl, sym, ap, subst, ◌∙◌}
use mathlib.Core.List.{List}
use Prim.Native.Nat.{ℕ}
use native.Mathlib.Omega.{arith}
use lib.ListN.{length}
use Rattle.grid.specs.declared.Axes.{Axes}
use Rattle.grid.specs.declared.Cell.{Cell}
use Rattle.grid.specs.Flood.{NoSurface, Aired, Floods, surface, outside, inside, Flooded}
use Rattle.grid.specs.Grid.{cells, InGrid, at, Face, Border}
use Rattle.grid.specs.Paths.{starts, steps, Through}
use Rattle.grid.proofs.Cells.{dec_cell, not_both, here, there, swap_face}
use Rattle.grid.proofs.Floods.{aired_open, outside_means}
use Rattle.grid.proofs.Paths.{joined_in, joined_kind, joined_within}
use Rattle.edits.specs.Edits.{MeetsAir, Opens, aired, unreached, alone, other, lidded, HasWay, Closes, lid, sealed, stays}

-- fewer surface cells, more cells with a path to the border
pub aired_more : (r : Axes) (l m : List ℕ) → ((c : Cell) → InGrid r c → at r m c ≡ 8 → at r l c ≡ 8) → {c : Cell} → Aired r l c → Aired r m c
aired_more r l m k u = joined_within (λ d h s. (s.0, λ e. s.1 (k d h e))) (λ d h p e. p (k d h e)) u

no_8 : {v : ℕ} (n : ℕ) → (n ≡ 8 → ⊥) → v ≡ n → v ≡ 8 → ⊥
no_8 n z e q = z (sym e ∙ q)

module _ (r : Axes) (f : List ℕ) (fl : Flooded r f f) where
  -- what has a path is 6, and what is 6 has one
  six : {d : Cell} → Aired r f d → at r f d ≡ 6
  six {d} u = (outside_means r f d (at r f d) (fl.each d (joined_in u))).1 u

  is_aired : (d : Cell) → InGrid r d → at r f d ≡ 6 → Aired r f d
  is_aired d h q = (outside_means r f d (at r f d) (fl.each d h)).0 q

  module _ (c : Cell) (hc : InGrid r c) (g : List ℕ) (size : length f ≡ cells r) where
    -- ---- closing
    module _ (was : at r f c ≡ 8 → ⊥) (cl : (d : Cell) → InGrid r d → Closes r f c d (at r g d)) where
      still_8 : (d : Cell) → InGrid r d → at r f d ≡ 8 → at r g d ≡ 8
      still_8 d h q = of (cl d h)
        where
          of : Closes r f c d (at r g d) → at r g d ≡ 8
          of (lid e p) = p
          of (sealed z w u n p) = absurd (⊎_elim z (λ s. not_both _ 6 8 (omega arith) s q) (joined_kind u))
          of (stays z k p) = p ∙ q

      only_8 : (d : Cell) → InGrid r d → (d ≡ c → ⊥) → (at r f d ≡ 8 → ⊥) → at r g d ≡ 8 → ⊥
      only_8 d h z n q = of (cl d h)
        where
          of : Closes r f c d (at r g d) → ⊥
          of (lid e p) = z e
          of (sealed _ w u _ p) = not_both _ 7 8 (omega arith) p q
          of (stays _ k p) = n (sym p ∙ q)

      here_8 : at r g c ≡ 8
      here_8 = of (cl c hc)
        where
          of : Closes r f c c (at r g c) → at r g c ≡ 8
          of (lid e p) = p
          of (sealed z w u n p) = absurd (z refl)
          of (stays z k p) = absurd (z refl)

      not_c : {d : Cell} → Aired r g d → d ≡ c → ⊥
      not_c {d} u e = aired_open r g u (ap (at r g) e ∙ here_8)

      less : {d : Cell} → Aired r g d → Aired r f d
      less u = aired_more r g f still_8 u

      lid_away : (d : Cell) → InGrid r d → (d ≡ c → ⊥) → at r (lidded r f c) d ≡ at r f d
      lid_away d h z = there r f 8 d c h hc z

      lid_not : (d : Cell) → at r (lidded r f c) d ≡ 6 → d ≡ c → ⊥
      lid_not d q e = not_both _ 8 6 (omega arith) (here r f 8 c hc size) (ap (at r (lidded r f c)) (sym e) ∙ q)

      to_way : {d : Cell} → Aired r g d → HasWay r (lidded r f c) d
      to_way (starts {c = d} h s) = let u = starts h s in starts h (s.0, lid_away d h (not_c u) ∙ six (less u))
      to_way (steps {d = d} w e h z) = let u = steps w e h z in steps (to_way w) e h (lid_away d h (not_c u) ∙ six (less u))

      air_again : (d : Cell) → InGrid r d → at r (lidded r f c) d ≡ 6 → NoSurface r g d
      air_again d h q = let z = lid_not d q in only_8 d h z (no_8 6 (omega arith) (sym (lid_away d h z) ∙ q))

      from_way : {d : Cell} → HasWay r (lidded r f c) d → Aired r g d
      from_way u = joined_within (λ d h s. (s.0, air_again d h s.1)) (λ d h p. air_again d h p) u

      -- a path never meets c, or leads on from it
      past_c : {d : Cell} → Aired r f d → Aired r g d ⊎ Through r f 6 c d
      past_c (starts {c = d} h s) = dec_cell r d c h hc (λ e. inr (starts h e)) (λ y. inl (starts h (s.0, only_8 d h y s.1)))
      past_c (steps {d = d} u e h z) =
          let w = past_c u in
          let v = six (steps u e h z) in
          dec_cell r d c h hc (λ q. inr (starts h q)) (λ y. ⊎_elim (λ j. inl (steps j e h (only_8 d h y z))) (λ j. inr (steps j e h v)) w)

      apart : at r f c ≡ 7 → {d : Cell} → Aired r f d → Aired r g d
      apart q (starts {c = d} h s) = let u = starts h s in starts h (s.0, only_8 d h (λ e. not_both _ 7 6 (omega arith) q (ap (at r f) (sym e) ∙ six u)) s.1)
      apart q (steps {d = d} w e h z) = let u = steps w e h z in steps (apart q w) e h (only_8 d h (λ y. not_both _ 7 6 (omega arith) q (ap (at r f) (sym y) ∙ six u)) z)

      spared : (d : Cell) → Aired r f d → (at r f c ≡ 6 → Through r f 6 c d → HasWay r (lidded r f c) d) → Aired r g d
      spared d u k = of (fl.each c hc)
        where
          of : Floods r f c (at r f c) → Aired r g d
          of (surface p e) = absurd (was p)
          of (outside a e) = ⊎_elim (λ j. j) (λ v. from_way (k e v)) (past_c u)
          of (inside n z e) = apart e u

      pub fresh_close : Flooded r g g
      fresh_close = record { size = refl; each = λ d h. of d h (cl d h) }
        where
          same : (d : Cell) → (at r f c ≡ 6 → Through r f 6 c d → HasWay r (lidded r f c) d) → at r g d ≡ at r f d → Floods r f d (at r f d) → Floods r g d (at r g d)
          same d k q (surface p e) = surface (q ∙ e) (q ∙ e)
          same d k q (outside a e) = outside (spared d a k) (q ∙ e)
          same d k q (inside n z e) = inside (no_8 7 (omega arith) (q ∙ e)) (λ u. z (less u)) (q ∙ e)

          of : (d : Cell) → InGrid r d → Closes r f c d (at r g d) → Floods r g d (at r g d)
          of d h (lid e p) = surface p p
          of d h (sealed z w u n p) = inside (no_8 7 (omega arith) p) (λ a. n (to_way a)) p
          of d h (stays z k p) = same d k p (fl.each d h)

    -- ---- opening
    module _ (was : at r f c ≡ 8) (op : (d : Cell) → InGrid r d → Opens r f c d (at r g d)) where
      -- c meets the air
      module _ (t : MeetsAir r f c) where
        abbrev Reaches : Cell → Type 0
        Reaches d = (Through r f 7 c d × (at r g d ≡ 6)) ⊎ ((Through r f 7 c d → ⊥) × (at r g d ≡ at r f d))

        reaches : (d : Cell) → InGrid r d → Reaches d
        reaches d h = of (op d h)
          where
            of : Opens r f c d (at r g d) → Reaches d
            of (aired _ u e) = inl (u, e)
            of (unreached _ n e) = inr (n, e)
            of (alone z _ _) = absurd (z t)
            of (other z _ _) = absurd (z t)

        fewer : (d : Cell) → InGrid r d → at r g d ≡ 8 → at r f d ≡ 8
        fewer d h q = ⊎_elim (λ x. absurd (not_both _ 6 8 (omega arith) x.1 q)) (λ x. sym x.1 ∙ q) (reaches d h)

        grows : {d : Cell} → Aired r f d → Aired r g d
        grows u = aired_more r f g fewer u

        opens : {d : Cell} → InGrid r d → Through r f 7 c d → at r g d ≡ 8 → ⊥
        opens {d} h v q = ⊎_elim (λ x. not_both _ 6 8 (omega arith) x.1 q) (λ x. x.0 v) (reaches d h)

        c_aired : Aired r g c
        c_aired = ⊎_elim
            (λ b. starts hc (b, opens hc (starts hc refl)))
            (λ e. steps (grows (is_aired e.0 e.1 e.3)) (swap_face e.2) hc (opens hc (starts hc refl)))
            t

        all_aired : {d : Cell} → Through r f 7 c d → Aired r g d
        all_aired (starts h e) = subst (Aired r g) (sym e) c_aired
        all_aired (steps u e h q) = steps (all_aired u) e h (opens h (steps u e h q))

        -- what has a path now was opened, or had one
        either : {d : Cell} → Aired r g d → Through r f 7 c d ⊎ Aired r f d
        either (starts {c = d} h s) = ⊎_elim (λ x. inl x.0) (λ x. inr (starts h (s.0, λ q. s.1 (x.1 ∙ q)))) (reaches d h)
        either (steps {d = d} u e h z) =
            let w = either u in
            ⊎_elim
            (λ x. inl x.0)
            (λ x. ⊎_elim (λ v. inr (beside d e h v x z (fl.each d h))) (λ v. inr (steps v e h (λ q. z (x.1 ∙ q)))) w)
            (reaches d h)
          where
            beside : {b : Cell} (d : Cell) → Face b d → InGrid r d → Through r f 7 c b → (Through r f 7 c d → ⊥) × (at r g d ≡ at r f d) → (at r g d ≡ 8 → ⊥) → Floods r f d (at r f d) → Aired r f d
            beside d e h v x z (surface p q) = absurd (z (x.1 ∙ p))
            beside d e h v x z (outside a q) = a
            beside d e h v x z (inside n y q) = absurd (x.0 (steps v e h q))

        fresh_aired : Flooded r g g
        fresh_aired = record { size = refl; each = λ d h. ⊎_elim (λ x. outside (all_aired x.0) x.1) (λ x. same d x (fl.each d h)) (reaches d h) }
          where
            same : (d : Cell) → (Through r f 7 c d → ⊥) × (at r g d ≡ at r f d) → Floods r f d (at r f d) → Floods r g d (at r g d)
            same d x (surface p e) = surface (x.1 ∙ e) (x.1 ∙ e)
            same d x (outside a e) = outside (grows a) (x.1 ∙ e)
            same d x (inside n z e) = inside (no_8 7 (omega arith) (x.1 ∙ e)) (λ u. ⊎_elim x.0 z (either u)) (x.1 ∙ e)

      -- c is shut in
      module _ (t : MeetsAir r f c → ⊥) where
        now_7 : at r g c ≡ 7
        now_7 = of (op c hc)
          where
            of : Opens r f c c (at r g c) → at r g c ≡ 7
            of (aired z _ _) = absurd (t z)
            of (unreached z _ _) = absurd (t z)
            of (alone _ _ e) = e
            of (other _ z _) = absurd (z refl)

        away : (d : Cell) → InGrid r d → (d ≡ c → ⊥) → at r g d ≡ at r f d
        away d h y = of (op d h)
          where
            of : Opens r f c d (at r g d) → at r g d ≡ at r f d
            of (aired z _ _) = absurd (t z)
            of (unreached z _ _) = absurd (t z)
            of (alone _ e _) = absurd (y e)
            of (other _ _ e) = e

        before : {d : Cell} → Aired r g d → Aired r f d
        before (starts {c = d} h s) =
            let n : d ≡ c → ⊥ = λ q. t (inl (subst (Border r) q s.0)) in
            starts h (s.0, λ q. s.1 (away d h n ∙ q))
        before (steps {c = b} {d = d} u a h z) =
            let w = before u in
            let n : d ≡ c → ⊥ = λ q. t (inr (b, joined_in w, subst (λ (x : Cell). Face x b) q (swap_face a), six w)) in
            steps w a h (λ q. z (away d h n ∙ q))

        after : {d : Cell} → Aired r f d → Aired r g d
        after u = aired_more r f g (λ d h q. dec_cell r d c h hc (λ x. absurd (not_both _ 7 8 (omega arith) now_7 (ap (at r g) (sym x) ∙ q))) (λ z. sym (away d h z) ∙ q)) u

        fresh_alone : Flooded r g g
        fresh_alone = record {
          size = refl;
          each = λ d h. dec_cell r d c h hc
              (λ x. let q : at r g d ≡ 7 = ap (at r g) x ∙ now_7 in inside (no_8 7 (omega arith) q) (λ u. aired_open r f (before u) (ap (at r f) x ∙ was)) q)
              (λ z. same d (away d h z) (fl.each d h));
        }
          where
            same : (d : Cell) → at r g d ≡ at r f d → Floods r f d (at r f d) → Floods r g d (at r g d)
            same d s (surface p e) = surface (s ∙ e) (s ∙ e)
            same d s (outside a e) = outside (after a) (s ∙ e)
            same d s (inside n z e) = inside (no_8 7 (omega arith) (s ∙ e)) (λ u. z (before u)) (s ∙ e)

      pub fresh_open : Flooded r g g
      fresh_open = of (op c hc)
        where
          of : Opens r f c c (at r g c) → Flooded r g g
          of (aired t _ _) = fresh_aired t
          of (unreached t _ _) = fresh_aired t
          of (alone t _ _) = fresh_alone t
          of (other t _ _) = fresh_alone t
