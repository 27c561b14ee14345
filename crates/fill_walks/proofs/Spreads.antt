-- A phase without walkers and marks spreads: its run sets exactly the cells that are reached (specs/Spread.antt). Assumes nothing.
use mathlib.Core.Bool.{Bool, true, cond, true≢false}
use mathlib.Core.Logic.{◌⊎◌, inl, inr, ⊎_elim}
use mathlib.Core.Path.{◌≡◌, refl, sym, ap, subst, ◌∙◌}
use mathlib.Core.List.{List, [], ◌∷◌}
use Prim.Native.Nat.{ℕ, zero, suc, ◌+◌, ◌≤◌, ◌<◌, min}
use native.Mathlib.Omega.{arith}
use lib.Dec.{eqb}
use lib.ListN.{length, set, length-set}
use lib.Seq.{set-get_or}
use borrow.Author.Tests.{eq-eqb, ne_eqb}
use Rattle.std.specs.Prelude.{Option}
use Rattle.grid.specs.declared.Axes.{Axes}
use Rattle.grid.specs.declared.Cell.{Cell}
use Rattle.grid.specs.Grid.{num, cells, InGrid, at, Face}
use Rattle.grid.specs.Paths.{starts, steps}
use Rattle.grid.specs.Ways.{Way, up_k, down_k, up_j, down_j, up_i, down_i, ways, room, beside}
use Rattle.grid.proofs.Cells.{dec_eq, here, stored, by_cell}
use Rattle.grid.proofs.Paths.{joined_in}
use Rattle.grid.proofs.Ways.{beside_in, beside_face, beside_room, face_way}
use Rattle.fill_walks.specs.declared.Phase.{Phase}
use Rattle.fill_walks.specs.Scan.{State, is_walker, walked_for, walked_to, walked_over, walked_from, visited, in_turn, scanned}
use Rattle.fill_walks.specs.Run.{Run, done, more}
use Rattle.fill_walks.specs.Spread.{Plain, Reached, Spread}
use Rattle.fill_walks.proofs.Keeps.{scan_keeps, by_visit}

-- ---- where a phase from m stands at l: a label is as it was, or its cell is reached and to walk or set

pub record Half (p : Phase) (r : Axes) (m l : List ℕ) : Type 0 where
  pub size : length l ≡ cells r
  pub each : (c : Cell) → InGrid r c → (at r l c ≡ at r m c) ⊎ (Reached p r m c × ((at r l c ≡ p.todo) ⊎ (at r l c ≡ p.done)))

-- from l to l' walks pass cells that are reached
pub record Grow (p : Phase) (r : Axes) (m l l' : List ℕ) : Type 0 where
  pub size : length l' ≡ length l
  pub each : (c : Cell) → InGrid r c → (at r l' c ≡ at r l c) ⊎ ((at r l c ≡ p.pass) × (at r l' c ≡ p.todo) × Reached p r m c)

-- no reached cell that is set has a neighbour to pass
abbrev pub Closed : Phase → Axes → List ℕ → List ℕ → Type 0
Closed p r m l = (c d : Cell) → InGrid r c → InGrid r d → Face c d → Reached p r m c → at r l c ≡ p.done → at r l d ≡ p.pass → ⊥

pub record Stands (p : Phase) (r : Axes) (m l : List ℕ) : Type 0 where
  pub half : Half p r m l
  pub closed : Closed p r m l

-- something of each way of a list
unfoldable Each : (Way → Type 0) → List Way → Type 0
Each Q [] = Unit
Each Q (w ∷ ws) = Q w × Each Q ws

each_way : (Q : Way → Type 0) → Each Q ways → (w : Way) → Q w
unfolding Each
each_way Q a up_k = a.0
each_way Q a down_k = a.1.0
each_way Q a up_j = a.1.1.0
each_way Q a down_j = a.1.1.1.0
each_way Q a up_i = a.1.1.1.1.0
each_way Q a down_i = a.1.1.1.1.1.0

module _ (p : Phase) (pl : Plain p) (r : Axes) (m : List ℕ) where
  grow_none : (l : List ℕ) → Grow p r m l l
  grow_none l = record { size = refl; each = λ c h. inl refl }

  grow_then : (l₁ l₂ l₃ : List ℕ) → Grow p r m l₁ l₂ → Grow p r m l₂ l₃ → Grow p r m l₁ l₃
  grow_then l₁ l₂ l₃ f g = record {
    size = g.size ∙ f.size;
    each = λ c h. ⊎_elim
        (λ q. ⊎_elim (λ e. inl (q ∙ e)) (λ e. inr (e.0, q ∙ e.1, e.2)) (f.each c h))
        (λ q. ⊎_elim (λ e. inr (sym e ∙ q.0, q.1, q.2)) (λ e. absurd (pl.apart (sym q.0 ∙ e.1))) (f.each c h))
        (g.each c h);
  }

  -- no label becomes one to pass
  grow_some : (l l' : List ℕ) → Grow p r m l l' → (c : Cell) → InGrid r c → (at r l c ≡ p.pass → ⊥) → at r l' c ≡ p.pass → ⊥
  grow_some l l' g c h z e = ⊎_elim (λ q. z (sym q ∙ e)) (λ q. z q.0) (g.each c h)

  half_grow : (l l' : List ℕ) → Half p r m l → Grow p r m l l' → Half p r m l'
  half_grow l l' a g = record {
    size = g.size ∙ a.size;
    each = λ c h. ⊎_elim
        (λ q. ⊎_elim (λ e. inl (q ∙ e)) (λ e. inr (e.0, ⊎_elim (λ x. inl (q ∙ x)) (λ x. inr (q ∙ x)) e.1)) (a.each c h))
        (λ q. inr (q.2, inl q.1))
        (g.each c h);
  }

  grow_set : (l : List ℕ) (d : Cell) → Half p r m l → InGrid r d → at r l d ≡ p.pass → Reached p r m d → Grow p r m l (set l (num r d) p.todo)
  grow_set l d a h e q = record {
    size = length-set l (num r d) p.todo;
    each = λ c g. stored r l p.todo c d g h a.size (λ e' f. inr (ap (λ x. at r l x) e' ∙ e, f, rw e' q)) (λ z f. inl f);
  }

  -- ---- a walk from a reached cell: it grows, and its first cell is not to be passed afterwards

  walk_grow : (w : Way) (n : ℕ) (c : Cell) (l : List ℕ) → InGrid r c → n ≤ room r w c → Reached p r m c → Half p r m l
      → Grow p r m l (walked_for p r w n c l) × (0 < n → at r (walked_for p r w n c l) (beside w c) ≡ p.pass → ⊥)
  unfolding walked_for
  walk_grow w zero c l h b u a = (grow_none l, λ h. omega arith)
  walk_grow w (suc n) c l h b u a =
      let d = beside w c in
      let i = beside_in r c w h (omega arith) in
      let stop : List ℕ = cond (eqb (at r l d) 8) (set l (num r d) p.mark) l in
      let l₁ = set l (num r d) p.todo in
      let on = walked_for p r w n d l₁ in
      dec_eq (at r l d) p.pass
      (λ z.
      let v : Reached p r m d = ⊎_elim (λ y. steps u (beside_face r c w (omega arith)) i (sym y ∙ z)) (λ y. y.0) (a.each d i) in
      let g₁ = grow_set l d a i z v in
      let o = here r l p.todo d i a.size in
      let t = walk_grow w n d l₁ i (omega (arith, beside_room r c w (omega arith))) v (half_grow l l₁ a g₁) in
      subst (λ (x : List ℕ). Grow p r m l x × (0 < suc n → at r x d ≡ p.pass → ⊥)) (sym (ap (λ (b : Bool). cond b on stop) (eq-eqb (at r l d) p.pass z)))
      (grow_then l _ _ g₁ t.0, λ _. grow_some _ _ t.0 d i (λ y. pl.apart (sym y ∙ o))))
      (λ z.
      let same : stop ≡ l = dec_eq (at r l d) 8
      (λ y. ap (λ (b : Bool). cond b (set l (num r d) p.mark) l) (eq-eqb (at r l d) 8 y) ∙ ap (λ (x : ℕ). set l (num r d) x) (pl.unmarked ∙ sym y) ∙ set-get_or l (num r d) 0)
      (λ y. ap (λ (b : Bool). cond b (set l (num r d) p.mark) l) (ne_eqb (at r l d) 8 y)) in
      subst (λ (x : List ℕ). Grow p r m l x × (0 < suc n → at r x d ≡ p.pass → ⊥)) (sym (ap (λ (b : Bool). cond b on stop) (ne_eqb (at r l d) p.pass z) ∙ same))
      (grow_none l, λ _. z))

  -- what one way leaves of the neighbour there
  abbrev Left : Cell → List ℕ → Way → Type 0
  Left c l w = 0 < room r w c → at r l (beside w c) ≡ p.pass → ⊥

  over_grow : (ws : List Way) (c : Cell) (l : List ℕ) → InGrid r c → Reached p r m c → Half p r m l
      → Grow p r m l (walked_over p r ws c l) × Each (Left c (walked_over p r ws c l)) ws
  unfolding walked_over Each
  over_grow [] c l h u a = (grow_none l, tt)
  over_grow (w ∷ ws) c l h u a =
      let f = walk_grow w (min (room r w c) 64) c l h (omega arith) u a in
      let l₁ = walked_to p r w c l in
      let g = over_grow ws c l₁ h u (half_grow l l₁ a f.0) in
      (grow_then l l₁ _ f.0 g.0, ((λ b. grow_some l₁ _ g.0 (beside w c) (beside_in r c w h b) (f.1 (omega arith))), g.1))

  -- all six ways: no neighbour is to be passed afterwards
  from_grow : (c : Cell) (l : List ℕ) → InGrid r c → Reached p r m c → Half p r m l
      → Grow p r m l (walked_from p r c l) × ((b : Cell) → InGrid r b → Face c b → at r (walked_from p r c l) b ≡ p.pass → ⊥)
  from_grow c l h u a =
      let g = over_grow ways c l h u a in
      (g.0, λ b i f. let w = face_way r c b i f in rw w.2 (each_way (Left c (walked_from p r c l)) g.1 w.0 w.1))

  -- ---- a visit

  -- a reached cell was to walk or to be passed
  reached_was : {c : Cell} → Reached p r m c → at r m c ≡ p.done → ⊥
  reached_was (starts h e) q = pl.proper.set_unwalked (sym q ∙ e)
  reached_was (steps u f h e) q = pl.proper.set_unpassed (sym q ∙ e)

  reached_todo : (l : List ℕ) (c : Cell) → Half p r m l → InGrid r c → at r l c ≡ p.todo → Reached p r m c
  reached_todo l c a h e = ⊎_elim (λ q. starts h (sym q ∙ e)) (λ q. q.0) (a.each c h)

  half_set : (l : List ℕ) (d : Cell) → Half p r m l → InGrid r d → at r l d ≡ p.todo → Half p r m (set l (num r d) p.done)
  half_set l d a h e = record {
    size = length-set l (num r d) p.done ∙ a.size;
    each = λ c g. stored r l p.done c d g h a.size
        (λ e' f. inr (rw e' (reached_todo l d a h e), inr f))
        (λ z f. ⊎_elim (λ q. inl (f ∙ q)) (λ q. inr (q.0, ⊎_elim (λ x. inl (f ∙ x)) (λ x. inr (f ∙ x)) q.1)) (a.each c g));
  }

  closed_set : (l l' : List ℕ) (d : Cell) → Half p r m l → Closed p r m l → InGrid r d → Grow p r m (set l (num r d) p.done) l'
      → ((b : Cell) → InGrid r b → Face d b → at r l' b ≡ p.pass → ⊥) → Closed p r m l'
  closed_set l l' d a cl h g near x y hx hy f u e =
      let s = set l (num r d) p.done in
      let e' : at r s x ≡ p.done = ⊎_elim (λ q. sym q ∙ e) (λ q. absurd (pl.proper.set_unwalked (sym e ∙ q.1))) (g.each x hx) in
      stored r l p.done x d hx h a.size
      (λ w q. near y hy (subst (λ (v : Cell). Face v y) w f))
      (λ _ q. grow_some s l' g y hy (λ z. stored r l p.done y d hy h a.size
      (λ w' q'. pl.proper.set_unpassed (sym q' ∙ z))
      (λ _ q'. cl x y hx hy f u (sym q ∙ e') (sym q' ∙ z))))

  -- nobody walks uncounted
  no_walker : (v : ℕ) → is_walker p.walkers v ≡ true → ⊥
  no_walker v e = true≢false (sym e ∙ ap (λ (w : Option ℕ). is_walker w v) pl.nobody)

  visit_stands : (c : Cell) → InGrid r c → (s : State) → Stands p r m s.labels → Stands p r m (visited p r c s).labels
  visit_stands c h s a =
      let l = s.labels in
      by_visit p r c s
      (λ e q.
      let l₁ = set l (num r c) p.done in
      let b = half_set l c a.half h e in
      let g = from_grow c l₁ h (reached_todo l c a.half h e) b in
      subst (λ (t : State). Stands p r m t.labels) (sym q) (record { half = half_grow l₁ _ b g.0; closed = closed_set l _ c a.half a.closed h g.0 g.1 }))
      (λ z e q. absurd (no_walker (at r l c) e))
      (λ z e q. subst (λ (t : State). Stands p r m t.labels) (sym q) a)

  scan_stands : (l : List ℕ) → Stands p r m l → Stands p r m (scanned p r l).labels
  scan_stands l a = scan_keeps p r (λ s. Stands p r m s.labels) visit_stands l a

-- ---- a scan that walked none changes nothing and met no cell to walk

abbrev Rises : (ℕ → State → State) → Type 0
Rises f = (t : ℕ) (s : State) → s.walked ≤ (f t s).walked

abbrev Quiet : (ℕ → State → State) → (ℕ → State → Type 0) → Type 0
Quiet f Q = (t : ℕ) (s : State) → (f t s).walked ≤ s.walked → (f t s ≡ s) × Q t s

turn_rises : (f : ℕ → State → State) → Rises f → (n i : ℕ) (s : State) → s.walked ≤ (in_turn f n i s).walked
unfolding in_turn
turn_rises f h zero i s = omega arith
turn_rises f h (suc n) i s = omega (arith, h i s, turn_rises f h n (i + 1) (f i s))

turn_quiet : (f : ℕ → State → State) (Q : ℕ → State → Type 0) → Rises f → Quiet f Q → (n i : ℕ) (s : State) → (in_turn f n i s).walked ≤ s.walked
    → (in_turn f n i s ≡ s) × ((t : ℕ) → i ≤ t → t < i + n → Q t s)
unfolding in_turn
turn_quiet f Q h q zero i s e = (refl, λ t a b. absurd (none t i a b))
  where
    none : (t i : ℕ) → i ≤ t → t < i + 0 → ⊥
    none t i a b = omega arith
turn_quiet f Q h q (suc n) i s e =
    let now = q i s (omega (arith, e, turn_rises f h n (i + 1) (f i s))) in
    let rest = turn_quiet f Q h q n (i + 1) (f i s) (omega (arith, e, h i s)) in (
      rest.0 ∙ now.0,
      λ t a b. dec_eq t i
          (λ p. subst (λ (x : ℕ). Q x s) (sym p) now.1)
          (λ z. subst (λ (x : State). Q t x) now.0 (rest.1 t (omega arith) (omega arith))),
    )

module _ (p : Phase) (pl : Plain p) (r : Axes) where
  visit_rises : (c : Cell) (s : State) → s.walked ≤ (visited p r c s).walked
  visit_rises c s =
      by_visit p r c s
      (λ e q. subst (λ (t : State). s.walked ≤ t.walked) (sym q) (omega arith))
      (λ z e q. subst (λ (t : State). s.walked ≤ t.walked) (sym q) (omega arith))
      (λ z e q. subst (λ (t : State). s.walked ≤ t.walked) (sym q) (omega arith))

  visit_quiet : (c : Cell) (s : State) → (visited p r c s).walked ≤ s.walked → (visited p r c s ≡ s) × (at r s.labels c ≡ p.todo → ⊥)
  visit_quiet c s h =
      by_visit p r c s
      (λ e q. absurd (more_than _ (subst (λ (t : State). t.walked ≤ s.walked) q h)))
      (λ z e q. absurd (no_walker p pl r [] (at r s.labels c) e))
      (λ z e q. (q, z))
    where
      more_than : (n : ℕ) → n + 1 ≤ n → ⊥
      more_than n g = omega arith

  -- none is left to walk
  abbrev Walked : List ℕ → Type 0
  Walked l = (c : Cell) → InGrid r c → at r l c ≡ p.todo → ⊥

  scan_quiet : (l : List ℕ) → (scanned p r l).walked ≤ 0 → ((scanned p r l).labels ≡ l) × Walked l
  scan_quiet l h =
      let cell : ℕ → ℕ → ℕ → Cell = λ i j k. record { i = i; j = j; k = k } in
      let row-rises : (i j : ℕ) (s : State) → s.walked ≤ (in_turn (λ k. visited p r (cell i j k)) r.r2 0 s).walked = λ i j. turn_rises _ (λ k. visit_rises (cell i j k)) r.r2 0 in
      let g = turn_quiet _ (λ i s. (j : ℕ) → 0 ≤ j → j < 0 + r.r1 → (k : ℕ) → 0 ≤ k → k < 0 + r.r2 → at r s.labels (cell i j k) ≡ p.todo → ⊥)
      (λ i. turn_rises _ (row-rises i) r.r1 0)
      (λ i. turn_quiet _ (λ j s. (k : ℕ) → 0 ≤ k → k < 0 + r.r2 → at r s.labels (cell i j k) ≡ p.todo → ⊥)
      (row-rises i)
      (λ j. turn_quiet _ (λ k s. at r s.labels (cell i j k) ≡ p.todo → ⊥) (λ k. visit_rises (cell i j k)) (λ k. visit_quiet (cell i j k)) r.r2 0)
      r.r1 0)
      r.r0 0 (record { labels = l; walked = 0 }) h in (
        ap (λ (s : State). s.labels) g.0,
        λ c a. g.1 c.i (omega arith) (omega (arith, a.i_in)) c.j (omega arith) (omega (arith, a.j_in)) c.k (omega arith) (omega (arith, a.k_in)),
      )

  run_ends : (m : List ℕ) {l e : List ℕ} {n : ℕ} → Run p r l e n → Stands p r m l → Stands p r m e × Walked e
  run_ends m (done {l = l} {e = e} q) a =
      let s = scan_quiet l (subst (λ (t : State). t.walked ≤ 0) (sym q) (omega arith)) in
      let q' : l ≡ e = sym s.0 ∙ ap (λ (t : State). t.labels) q in
      subst (λ (x : List ℕ). Stands p r m x × Walked x) q' (a, s.1)
  run_ends m (more {l = l} q t) a = run_ends m t (subst (λ (x : State). Stands p r m x.labels) q (scan_stands p pl r m l a))

  -- every reached cell is set
  all_set : (m e : List ℕ) → Stands p r m e → Walked e → {c : Cell} → Reached p r m c → at r e c ≡ p.done
  all_set m e a n (starts {c = c} h q) =
      ⊎_elim (λ x. absurd (n c h (x ∙ q))) (λ x. ⊎_elim (λ y. absurd (n c h y)) (λ y. y) x.1) (a.half.each c h)
  all_set m e a n (steps {c = c} {d = d} u f h q) =
      let i = all_set m e a n u in
      ⊎_elim (λ x. absurd (a.closed c d (joined_in u) h f u i (x ∙ q))) (λ x. ⊎_elim (λ y. absurd (n d h y)) (λ y. y) x.1) (a.half.each d h)

  -- a whole run sets what is reached and leaves the rest
  pub spreads : (m e : List ℕ) (n : ℕ) → length m ≡ cells r → Run p r m e n → Spread p r m e
  spreads m e n size t =
      let begun : Stands p r m m = record { half = record { size = size; each = λ c h. inl refl }; closed = λ c d h g f u q. absurd (reached_was p pl r m u q) } in
      let a = run_ends m t begun in
      record {
        size = a.0.half.size ∙ sym size;
        cells = λ c h. ⊎_elim
            (λ q. inr ((λ u. reached_was p pl r m u (sym q ∙ all_set m e a.0 a.1 u)), q))
            (λ q. inl (q.0, all_set m e a.0 a.1 q.0))
            (a.0.half.each c h);
      }

-- two results that fit coincide
pub spread_one : (p : Phase) (r : Axes) (m a b : List ℕ) → length m ≡ cells r → Spread p r m a → Spread p r m b → a ≡ b
spread_one p r m a b e f g =
    by_cell r a b (f.size ∙ e) (g.size ∙ e) (λ c h. ⊎_elim
    (λ x. ⊎_elim (λ y. x.1 ∙ sym y.1) (λ y. absurd (y.0 x.0)) (g.cells c h))
    (λ x. ⊎_elim (λ y. absurd (x.0 y.0)) (λ y. x.1 ∙ sym y.1) (g.cells c h))
    (f.cells c h))
