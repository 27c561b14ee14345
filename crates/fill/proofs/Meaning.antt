-- What each mode's procedure means (specs/Modes.antt), from labels 0 and 8. Assumes nothing.
use mathlib.Core.Bool.{Bool, true, false, not, cond, ◌&&◌, ◌||◌, true≢false}
use mathlib.Core.Logic.{◌⊎◌, inl, inr, ⊎_elim, ◌↔◌}
use mathlib.Core.Path.{◌≡◌, refl, sym, ap, subst, ◌∙◌}
use mathlib.Core.List.{List, map}
use Prim.Native.Nat.{ℕ, zero, suc, ◌+◌, ◌≤◌, ◌<◌}
use native.Mathlib.Omega.{arith}
use lib.Dec.{eqb, leb}
use lib.ListN.{length, get_or, length-map, get_or-map}
use lib.Seq.{ext_get_or}
use borrow.Author.Tests.{eqb-true, eq-eqb, ne_eqb, le-leb, lt-leb}
use Rattle.grid.specs.declared.Axes.{Axes}
use Rattle.grid.specs.declared.Cell.{Cell}
use Rattle.grid.specs.declared.LabelSet.{LabelSet}
use Rattle.grid.specs.Checks.{takes, label_ranges}
use Rattle.grid.specs.Counts.{count_of}
use Rattle.grid.specs.Flood.{Aired, Floods, surface, outside, inside, Flooded}
use Rattle.grid.specs.Grid.{InGrid, num, cells, cell_numbered, at, Border, on_border}
use Rattle.grid.specs.Paths.{starts, steps}
use Rattle.grid.proofs.Cells.{not_both, num_lt, number_of_cell, cell_in, labels_length, labels_at, border_test}
use Rattle.grid.proofs.Checks.{taken_means}
use Rattle.grid.proofs.First.{every_all}
use Rattle.grid.proofs.Counts.{count_most, count_others, count_map, count_alike, count_none}
use Rattle.fill_walks.specs.Spread.{Plain, Reached, Spread}
use Rattle.fill_walks.proofs.Keeps.{Weighs}
use Rattle.fill_walks.proofs.Runs.{All, Same, Stays, run_keeps, run_stays, run_falls}
use Rattle.fill_walks.proofs.Spreads.{spreads}
use Rattle.fill.specs.declared.FillCounts.{FillCounts}
use Rattle.fill.specs.declared.Mode.{Mode}
use Rattle.fill.specs.declared.Mode.TheVariants.{SurfaceOnly, Flood, Cavities}
use Rattle.fill.specs.Phases.{seed_of, seeded, outward, phase_of, Alternate, last, again, surface_only, FloodRun, CavityRun}
use Rattle.grid.specs.Passes.{becomes}
use Rattle.fill.specs.Modes.{marks, is_left, left, OthersOutside, SameSurface, Among, cavity_labels, Fills, Means}
use Rattle.fill.specs.Passes.{Marks}
use Rattle.grid.proofs.Passes.{map_at}
use Rattle.fill.proofs.Swings.{outward_proper}

-- ---- labels 0 and 8

-- check 11 leaves no others
takes_marks : (v : ℕ) → takes marks v ≡ true → (v ≡ 0) ⊎ (v ≡ 8)
takes_marks v h = ⊎_elim (λ e. inl (omega (arith, e.1))) (λ e. inr (omega (arith, e.0, e.1))) (taken_means marks v h)

pub only_marks : (l : List ℕ) → ((n : ℕ) → n < length l → takes marks (get_or l n 0) ≡ true) → Marks l
only_marks l h n g = takes_marks (get_or l n 0) (h n g)

-- two rules that agree on 0 and 8
pub map_marks : (f g : ℕ → ℕ) (l : List ℕ) → Marks l → f 0 ≡ g 0 → f 8 ≡ g 8 → map f l ≡ map g l
map_marks f g l m p q =
    ext_get_or 0 (map f l) (map g l) (length-map l f ∙ sym (length-map l g)) (λ n h.
    let b : n < length l = omega (arith, length-map l f) in
    map_at f l n b ∙ ⊎_elim (λ e. ap f e ∙ p ∙ sym (ap g e)) (λ e. ap f e ∙ q ∙ sym (ap g e)) (m n b) ∙ sym (map_at g l n b))

-- no label is left where each is another number than 0
pub none_left : (r : Axes) (l : List ℕ) → length l ≡ cells r → ((c : Cell) → InGrid r c → at r l c ≡ 0 → ⊥) → left l ≡ 0
none_left r l e h =
    count_none is_left l (λ n g.
    ne_eqb (get_or l n 0) 0 (λ q. h (cell_numbered r n) (cell_in r n (omega (arith, e))) (ap (λ (x : ℕ). get_or l x 0) (number_of_cell r n) ∙ q)))

module _ (r : Axes) (l : List ℕ) (size : length l ≡ cells r) (m : Marks l) where
  kind : (c : Cell) → InGrid r c → (at r l c ≡ 0) ⊎ (at r l c ≡ 8)
  kind c h = m (num r c) (rw size (num_lt r c h))

  after_map : (f : ℕ → ℕ) (c : Cell) → InGrid r c → at r (map f l) c ≡ f (at r l c)
  after_map f c h = map_at f l (num r c) (rw size (num_lt r c h))

  -- ---- surface-only

  others_outside : OthersOutside r l (map surface_only l)
  others_outside = record {
    size = length-map l surface_only;
    surfaces = λ c h e. after_map surface_only c h ∙ ap surface_only e;
    others = λ c h z. after_map surface_only c h ∙ ⊎_elim (λ e. ap surface_only e) (λ e. absurd (z e)) (kind c h);
  }

  pub surface_only_left : left (map surface_only l) ≡ 0
  surface_only_left =
      none_left r (map surface_only l) (length-map l surface_only ∙ size) (λ c h e.
      ⊎_elim (λ q. not_both _ 6 0 (omega arith) (after_map surface_only c h ∙ ap surface_only q) e) (λ q. not_both _ 8 0 (omega arith) (after_map surface_only c h ∙ ap surface_only q) e) (kind c h))

  -- ---- the seeding, cell by cell

  pub seeded_size : length (seeded r l) ≡ cells r
  seeded_size = labels_length r (seed_of r l)

  data Start (c : Cell) : Type 0 where
    seed : Border r c → at r l c ≡ 0 → at r (seeded r l) c ≡ 1 → Start c
    wall : at r l c ≡ 8 → at r (seeded r l) c ≡ 8 → Start c
    inner : (Border r c → ⊥) → at r l c ≡ 0 → at r (seeded r l) c ≡ 0 → Start c

  start : (c : Cell) → InGrid r c → Start c
  start c h = go (on_border r c) refl (kind c h)
    where
      is : (b : Bool) (v : ℕ) → on_border r c ≡ b → at r l c ≡ v → at r (seeded r l) c ≡ cond b (becomes 0 0 1 v) v
      is b v p q = labels_at r (seed_of r l) c h ∙ (λ t. cond (p t) (becomes 0 0 1 (q t)) (q t))

      go : (b : Bool) → on_border r c ≡ b → (at r l c ≡ 0) ⊎ (at r l c ≡ 8) → Start c
      go true p (inl q) = seed ((border_test r c h).0 p) q (is true 0 p q)
      go true p (inr q) = wall q (is true 8 p q)
      go false p (inl q) = inner (λ b. true≢false (sym ((border_test r c h).1 b) ∙ p)) q (is false 0 p q)
      go false p (inr q) = wall q (is false 8 p q)

  -- ---- flood: what the phase reaches is what a path of no surface joins to the border

  abbrev s : List ℕ
  s = seeded r l

  aired_reached : {c : Cell} → Aired r l c → Reached (outward 8) r s c
  aired_reached (starts {c = c} h b) = go (start c h)
    where
      go : Start c → Reached (outward 8) r s c
      go (seed p q e) = starts h e
      go (wall q e) = absurd (b.1 q)
      go (inner p q e) = absurd (p b.0)
  aired_reached (steps {c = b} {d = d} u f h z) = go (aired_reached u) (start d h)
    where
      go : Reached (outward 8) r s b → Start d → Reached (outward 8) r s d
      go v (seed p q e) = starts h e
      go v (wall q e) = absurd (z q)
      go v (inner p q e) = steps v f h e

  reached_aired : {c : Cell} → Reached (outward 8) r s c → Aired r l c
  reached_aired (starts {c = c} h b) = go (start c h)
    where
      go : Start c → Aired r l c
      go (seed p q e) = starts h (p, not_both _ 0 8 (omega arith) q)
      go (wall q e) = absurd (not_both _ 8 1 (omega arith) e b)
      go (inner p q e) = absurd (not_both _ 0 1 (omega arith) e b)
  reached_aired (steps {c = a} {d = d} u f h b) = go (reached_aired u) (start d h)
    where
      go : Aired r l a → Start d → Aired r l d
      go v (seed p q e) = absurd (not_both _ 1 0 (omega arith) e b)
      go v (wall q e) = absurd (not_both _ 8 0 (omega arith) e b)
      go v (inner p q e) = steps v f h (not_both _ 0 8 (omega arith) q)

  module _ (f : List ℕ) (n : ℕ) (run : FloodRun r l f n) where
    abbrev e : List ℕ
    e = run.ended

    plain : Plain (outward 8)
    plain = record { proper = outward_proper 8 (omega arith); nobody = refl; unmarked = refl; apart = omega arith }

    spread : Spread (outward 8) r s e
    spread = spreads (outward 8) plain r s e n seeded_size run.phase

    ended_size : length e ≡ cells r
    ended_size = spread.size ∙ seeded_size

    filled_at : (c : Cell) → InGrid r c → (v : ℕ) → at r e c ≡ v → at r f c ≡ becomes 0 0 7 v
    filled_at c h v q = ap (λ (x : List ℕ). at r x c) run.labels ∙ map_at (becomes 0 0 7) e (num r c) (rw ended_size (num_lt r c h)) ∙ ap (becomes 0 0 7) q

    floods : (c : Cell) → InGrid r c → Floods r l c (at r f c)
    floods c h = ⊎_elim (λ q. outside (reached_aired q.0) (filled_at c h 6 q.1)) (λ q. rest q.0 q.1 (start c h)) (spread.cells c h)
      where
        rest : (Reached (outward 8) r s c → ⊥) → at r e c ≡ at r s c → Start c → Floods r l c (at r f c)
        rest z q (seed p k x) = absurd (z (starts h x))
        rest z q (wall k x) = surface k (filled_at c h 8 (q ∙ x))
        rest z q (inner p k x) = inside (not_both _ 0 8 (omega arith) k) (λ a. z (aired_reached a)) (filled_at c h 0 (q ∙ x))

    pub flooded : Flooded r l f
    flooded = record { size = ap length run.labels ∙ length-map e (becomes 0 0 7) ∙ ended_size ∙ sym size; each = floods }

    pub flood_left : left f ≡ 0
    flood_left = none_left r f (flooded.size ∙ size) (λ c h q. other (floods c h) q)
      where
        other : {c : Cell} → Floods r l c (at r f c) → at r f c ≡ 0 → ⊥
        other (surface p k) q = not_both _ 8 0 (omega arith) k q
        other (outside p k) q = not_both _ 6 0 (omega arith) k q
        other (inside p z k) q = not_both _ 7 0 (omega arith) k q

    -- scans are at most the Outside cells plus 1: each scan but the last makes one cell Outside
    not_6 : ℕ → Bool
    not_6 v = not (eqb v 6)

    weighs : Weighs (outward 8) not_6
    unfolding not_6
    weighs = record { passing = refl; marking = refl; before = refl; after = refl }

    same_6 : (v : ℕ) → eqb (becomes 0 0 7 v) 6 ≡ eqb v 6
    same_6 zero = refl
    same_6 (suc v) = rw (le-leb 0 (suc v) (omega arith), lt-leb (suc v) 0 (omega arith))

    pub flood_few : n ≤ count_of 6 f + 1
    unfolding not_6
    flood_few =
        let falls = (run_falls (outward 8) r not_6 weighs run.phase seeded_size).1 in
        let sixes : count_of 6 f ≡ count_of 6 e = ap (count_of 6) run.labels ∙ count_map (λ v. eqb v 6) (becomes 0 0 7) e ∙ count_alike (λ v. eqb (becomes 0 0 7 v) 6) (λ v. eqb v 6) same_6 e in
        omega (arith, falls, sixes, count_most not_6 s, seeded_size, count_others (λ v. eqb v 6) e, ended_size)

  -- ---- cavities: surface labels stay surface labels

  abbrev walls : ℕ → Bool
  walls v = (leb 3 v && leb v 5) || eqb v 8

  outward_walls : Same (outward 4) walls
  outward_walls = record { passing = refl; setting = refl; marking = refl }

  phase_walls : (b : Bool) → Same (phase_of b) walls
  phase_walls true = record { passing = refl; setting = refl; marking = refl }
  phase_walls false = record { passing = refl; setting = refl; marking = refl }

  turns_keep : {b : Bool} {a e : List ℕ} {n : ℕ} → Alternate r b a e n → map walls e ≡ map walls a
  turns_keep (last {b = b} t) = run_keeps (phase_of b) r walls (phase_walls b) t
  turns_keep (again {b = b} t u) = turns_keep u ∙ run_keeps (phase_of b) r walls (phase_walls b) t

  back_to_8 : (v : ℕ) → (becomes 3 5 8 v ≡ 8) ↔ (walls v ≡ true)
  back_to_8 v = (to (leb 3 v && leb v 5), back (leb 3 v && leb v 5))
    where
      to : (b : Bool) → cond b 8 v ≡ 8 → (b || eqb v 8) ≡ true
      to true e = refl
      to false e = eq-eqb v 8 e

      back : (b : Bool) → (b || eqb v 8) ≡ true → cond b 8 v ≡ 8
      back true e = refl
      back false e = eqb-true v 8 e

  start_walls : (c : Cell) → Start c → (walls (at r s c) ≡ true) ↔ (at r l c ≡ 8)
  start_walls c (seed p q e) = ((λ w. absurd (true≢false (sym w ∙ ap walls e))), λ k. absurd (not_both _ 0 8 (omega arith) q k))
  start_walls c (wall q e) = ((λ w. q), λ k. ap walls e)
  start_walls c (inner p q e) = ((λ w. absurd (true≢false (sym w ∙ ap walls e))), λ k. absurd (not_both _ 0 8 (omega arith) q k))

  module _ (f : List ℕ) (n : ℕ) (run : CavityRun r l f n) where
    kept : map walls run.ended ≡ map walls s
    kept = turns_keep run.alternate ∙ run_keeps (outward 4) r walls outward_walls run.phase

    kept_size : length run.ended ≡ cells r
    kept_size = sym (length-map run.ended walls) ∙ ap length kept ∙ length-map s walls ∙ seeded_size

    kept_at : (c : Cell) → walls (at r run.ended c) ≡ walls (at r s c)
    kept_at c = sym (get_or-map walls run.ended (num r c) 0) ∙ ap (λ (x : List Bool). get_or x (num r c) (walls 0)) kept ∙ get_or-map walls s (num r c) 0

    pub same_surface : SameSurface r l f
    same_surface c h =
        let is : at r f c ≡ becomes 3 5 8 (at r run.ended c) = ap (λ (x : List ℕ). at r x c) run.labels ∙ map_at (becomes 3 5 8) run.ended (num r c) (rw kept_size (num_lt r c h)) in
        let b = back_to_8 (at r run.ended c) in
        let w = start_walls c (start c h) in
        ((λ q. w.0 (sym (kept_at c) ∙ b.0 (sym is ∙ q))), (λ q. is ∙ b.1 (kept_at c ∙ w.1 q)))

  -- ---- cavities: no label but these

  -- every label but 3
  abbrev working : LabelSet
  working = label_ranges 0 2 4 8

  outward_works : Stays (outward 4) (takes working)
  outward_works = record { passing = refl; setting = refl; marking = refl }

  phase_works : (b : Bool) → Stays (phase_of b) (takes working)
  phase_works true = record { passing = refl; setting = refl; marking = refl }
  phase_works false = record { passing = refl; setting = refl; marking = refl }

  turns_work : {b : Bool} {a e : List ℕ} {n : ℕ} → Alternate r b a e n → All (takes working) a → All (takes working) e
  turns_work (last {b = b} t) a = run_stays (phase_of b) r (takes working) (phase_works b) t a
  turns_work (again {b = b} t u) a = turns_work u (run_stays (phase_of b) r (takes working) (phase_works b) t a)

  seeds_work : All (takes working) s
  seeds_work n h = subst (λ (x : ℕ). takes working (get_or s x 0) ≡ true) (number_of_cell r n) (go (start (cell_numbered r n) (cell_in r n (omega (arith, seeded_size)))))
    where
      go : Start (cell_numbered r n) → takes working (at r s (cell_numbered r n)) ≡ true
      go (seed p q e) = ap (takes working) e
      go (wall q e) = ap (takes working) e
      go (inner p q e) = ap (takes working) e

  -- 3, 4 and 5 become 8
  last_step : (v : ℕ) → takes working v ≡ true → takes cavity_labels (becomes 3 5 8 v) ≡ true
  last_step zero h = refl
  last_step (suc zero) h = refl
  last_step (suc (suc zero)) h = refl
  last_step (suc (suc (suc zero))) h = refl
  last_step (suc (suc (suc (suc zero)))) h = refl
  last_step (suc (suc (suc (suc (suc zero))))) h = refl
  last_step (suc (suc (suc (suc (suc (suc zero)))))) h = refl
  last_step (suc (suc (suc (suc (suc (suc (suc zero))))))) h = refl
  last_step (suc (suc (suc (suc (suc (suc (suc (suc zero)))))))) h = refl
  last_step (suc (suc (suc (suc (suc (suc (suc (suc (suc v))))))))) h = absurd (⊎_elim (λ e. omega (arith, e.1)) (λ e. omega (arith, e.1)) (taken_means working (suc (suc (suc (suc (suc (suc (suc (suc (suc v))))))))) h))

  cavity_labels_lem : (f : List ℕ) (n : ℕ) → CavityRun r l f n → Among cavity_labels f
  cavity_labels_lem f n run =
      let worked = turns_work run.alternate (run_stays (outward 4) r (takes working) outward_works run.phase seeds_work) in
      every_all (takes cavity_labels) 0 f (λ k h.
      let g : k < length run.ended = subst (λ (x : ℕ). k < x) (ap length run.labels ∙ length-map run.ended (becomes 3 5 8)) h in
      ap (λ (x : List ℕ). takes cavity_labels (get_or x k 0)) run.labels
      ∙ ap (takes cavity_labels) (map_at (becomes 3 5 8) run.ended k g)
      ∙ last_step (get_or run.ended k 0) (worked k g))

-- ---- in every mode, what the procedure leaves means what it should

pub fills_mean : (mode : Mode) (r : Axes) (l m : List ℕ) (n : FillCounts) → length l ≡ cells r → Marks l → Fills mode r l n m → Means mode r l n m
fills_mean SurfaceOnly r l m n size k w =
    let e = w.scanned.0 in
    (subst (OthersOutside r l) (sym e) (others_outside r l size k), w.scanned.1, w.counted ∙ ap left e ∙ surface_only_left r l size k)
fills_mean Flood r l m n size k w =
    let run = w.scanned in
    (flooded r l size k m n.scans run, w.counted ∙ flood_left r l size k m n.scans run, flood_few r l size k m n.scans run)
fills_mean Cavities r l m n size k w = (same_surface r l size k m n.scans w.scanned, cavity_labels_lem r l size k m n.scans w.scanned)
