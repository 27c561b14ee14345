-- Laws of specs/Quiet.antt: a visit of an idle cell changes nothing, a quiet cell that is to walk may be set before its turn, and what is idle or quiet stays so. Assumes nothing.
use mathlib.Core.Bool.{Bool, true, cond, true≢false}
use mathlib.Core.Logic.{◌⊎◌, inl, inr}
use mathlib.Core.Path.{◌≡◌, refl, sym, ap, subst, ◌∙◌}
use mathlib.Core.List.{List, [], ◌∷◌}
use Prim.Native.Nat.{ℕ, zero, suc, ◌+◌, ◌≤◌, ◌<◌, min}
use native.Mathlib.Omega.{arith}
use lib.Dec.{eqb}
use lib.ListN.{length, get_or, set, length-set}
use lib.Seq.{set-get_or, set_comm, get_or-set_same, get_or-set_other}
use borrow.Author.Tests.{eq-eqb, ne_eqb}
use Rattle.grid.specs.declared.Axes.{Axes}
use Rattle.grid.specs.declared.Cell.{Cell}
use Rattle.grid.specs.Grid.{num, cells, InGrid, at}
use Rattle.grid.specs.Ways.{Way, ways, room, beside}
use Rattle.grid.proofs.Cells.{dec_eq, num_inj, here, there, stored, dec_cell}
use Rattle.grid.proofs.Ways.{beside_in, beside_room}
use Rattle.fill_walks.specs.declared.Phase.{Phase}
use Rattle.fill_walks.specs.Scan.{State, is_walker, walked_for, walked_over, walked_from, visited, in_turn, rowed, slabbed}
use Rattle.fill_walks.specs.Quiet.{Clear, Stops, Quiet, Idle, SetEarly, SameEnd}
use Rattle.fill_walks.proofs.Turns.{visit_done, visit_walk, visit_none}
use Rattle.fill_walks.proofs.Keeps.{Kept, for_keeps, walk_keeps, by_visit}

-- ---- the labels that a phase gives stop a walk

module _ (p : Phase) (k : Clear p) where
  pub stops_todo : Stops p p.todo
  stops_todo = record { unpassed = λ e. k.apart (sym e); unmarked = λ e. absurd (k.proper.eight_unwalked (sym e)) }

  pub stops_done : Stops p p.done
  stops_done = record { unpassed = k.proper.set_unpassed; unmarked = λ e. absurd (k.set_unmarked e) }

  pub stops_mark : Stops p p.mark
  stops_mark = record { unpassed = k.proper.surface_unpassed; unmarked = λ e. e }

-- a cell stays quiet where what changes are labels that stop a walk
pub quiet_kept : (p : Phase) (r : Axes) (l m : List ℕ) (c : Cell) → InGrid r c → ((d : Cell) → InGrid r d → Stops p (at r l d) → Stops p (at r m d)) → Quiet p r l c → Quiet p r m c
quiet_kept p r l m c h f q w g = f (beside w c) (beside_in r c w h g) (q w g)

-- ---- one step of a walk

module _ (p : Phase) (r : Axes) (w : Way) (n : ℕ) (c : Cell) (l : List ℕ) where
  abbrev on : List ℕ
  on = walked_for p r w n (beside w c) (set l (num r (beside w c)) p.todo)

  abbrev stops : List ℕ
  stops = cond (eqb (at r l (beside w c)) 8) (set l (num r (beside w c)) p.mark) l

  step_pass : at r l (beside w c) ≡ p.pass → walked_for p r w (suc n) c l ≡ on
  unfolding walked_for
  step_pass e = ap (λ (b : Bool). cond b on stops) (eq-eqb (at r l (beside w c)) p.pass e)

  step_other : (at r l (beside w c) ≡ p.pass → ⊥) → walked_for p r w (suc n) c l ≡ stops
  unfolding walked_for
  step_other z = ap (λ (b : Bool). cond b on stops) (ne_eqb (at r l (beside w c)) p.pass z)

  step_mark : (at r l (beside w c) ≡ p.pass → ⊥) → at r l (beside w c) ≡ 8 → walked_for p r w (suc n) c l ≡ set l (num r (beside w c)) p.mark
  step_mark z e = step_other z ∙ ap (λ (b : Bool). cond b (set l (num r (beside w c)) p.mark) l) (eq-eqb (at r l (beside w c)) 8 e)

  step_stop : (at r l (beside w c) ≡ p.pass → ⊥) → (at r l (beside w c) ≡ 8 → ⊥) → walked_for p r w (suc n) c l ≡ l
  step_stop z y = step_other z ∙ ap (λ (b : Bool). cond b (set l (num r (beside w c)) p.mark) l) (ne_eqb (at r l (beside w c)) 8 y)

-- ---- no walk from a quiet cell changes anything

module _ (p : Phase) (r : Axes) (c : Cell) (l : List ℕ) (q : Quiet p r l c) where
  quiet_way : (w : Way) (n : ℕ) → n ≤ room r w c → walked_for p r w n c l ≡ l
  unfolding walked_for
  quiet_way w zero g = refl
  quiet_way w (suc n) g =
      let s = q w (omega arith) in
      dec_eq (at r l (beside w c)) 8
      (λ e. step_mark p r w n c l s.unpassed e ∙ ap (set l (num r (beside w c))) (s.unmarked e ∙ sym e) ∙ set-get_or l (num r (beside w c)) 0)
      (step_stop p r w n c l s.unpassed)

  quiet_ways : (ws : List Way) → walked_over p r ws c l ≡ l
  unfolding walked_over
  quiet_ways [] = refl
  quiet_ways (w ∷ ws) = ap (walked_over p r ws c) (quiet_way w (min (room r w c) 64) (omega arith)) ∙ quiet_ways ws

  pub quiet_walk : walked_from p r c l ≡ l
  quiet_walk = quiet_ways ways

pub idle_visit : (p : Phase) (r : Axes) (c : Cell) (s : State) → Idle p r s.labels c → visited p r c s ≡ s
idle_visit p r c s h =
    by_visit p r c s
    (λ e v. absurd (h.walked e))
    (λ z e v. v ∙ ap (λ (l : List ℕ). record { labels = l; walked = s.walked }) (quiet_walk p r c s.labels (h.quiet e)))
    (λ z e v. v)

-- ---- what is done to a state in turn, and a change to it that comes sooner

module _ (P : State → Type 0) (push : State → State) where
  -- f at t comes to the same before the change and after it
  abbrev Passes : (State → State) → Type 0
  Passes g = (s : State) → P s → (g (push s) ≡ push (g s)) × P (g s)

  turn_pass : (f : ℕ → State → State) (n a : ℕ) → ((t : ℕ) → a ≤ t → t < a + n → Passes (f t)) → Passes (in_turn f n a)
  unfolding in_turn
  turn_pass f zero a h s e = (refl, e)
  turn_pass f (suc n) a h s e =
      let x = h a (omega arith) (omega arith) s e in
      let y = turn_pass f n (a + 1) (λ t u v. h t (omega arith) (omega arith)) (f a s) x.1 in
      (ap (in_turn f n (a + 1)) x.0 ∙ y.0, y.1)

  -- and f at x undoes that it came sooner
  abbrev Absorbs : (State → State) → Type 0
  Absorbs g = (s : State) → P s → g (push s) ≡ g s

  turn_absorb : (f : ℕ → State → State) (n a x : ℕ) → a ≤ x → x < a + n → ((t : ℕ) → a ≤ t → t < a + n → (t ≡ x → ⊥) → Passes (f t)) → Absorbs (f x) → Absorbs (in_turn f n a)
  unfolding in_turn
  turn_absorb f zero a x u v h g s e = absurd (omega arith)
  turn_absorb f (suc n) a x u v h g s e =
      dec_eq a x
      (λ q. ap (in_turn f n (a + 1)) (subst (λ (t : ℕ). f t (push s) ≡ f t s) (sym q) (g s e)))
      (λ z.
      let y = h a (omega arith) (omega arith) z s e in
      ap (in_turn f n (a + 1)) y.0
      ∙ turn_absorb f n (a + 1) x (least a x u z) (omega arith) (λ t b c. h t (omega arith) (omega arith)) g (f a s) y.1)
    where
      least : (a x : ℕ) → a ≤ x → (a ≡ x → ⊥) → a + 1 ≤ x
      least a x u z = omega arith

-- ---- a quiet cell that is to walk may be set before its turn

module _ (p : Phase) (k : Clear p) (r : Axes) (c : Cell) (h : InGrid r c) where
  pub record Waits (l : List ℕ) : Type 0 where
    pub size : length l ≡ cells r
    pub todo : at r l c ≡ p.todo
    pub quiet : Quiet p r l c

  abbrev sets : List ℕ → List ℕ
  sets l = set l (num r c) p.done

  abbrev pub sooner : State → State
  sooner s = record { labels = sets s.labels; walked = s.walked + 1 }

  -- another cell may change, to a label that stops a walk
  waits_on : (l : List ℕ) (d : Cell) (v : ℕ) → InGrid r d → (c ≡ d → ⊥) → Stops p v → Waits l → Waits (set l (num r d) v)
  waits_on l d v g z t e = record {
    size = length-set l (num r d) v ∙ e.size;
    todo = there r l v c d h g z ∙ e.todo;
    quiet = quiet_kept p r l (set l (num r d) v) c h (λ x i u. stored r l v x d i g e.size (λ q y. subst (Stops p) (sym y) t) (λ y q. subst (Stops p) (sym q) u)) e.quiet;
  }

  not_here : (l : List ℕ) (d : Cell) (v : ℕ) → (p.todo ≡ v → ⊥) → Waits l → at r l d ≡ v → c ≡ d → ⊥
  not_here l d v z e q x = z (sym e.todo ∙ ap (at r l) x ∙ q)

  waits_kept : Kept p r Waits
  waits_kept = record {
    passing = λ l d g e w. waits_on l d p.todo g (not_here l d p.pass (λ q. k.apart (sym q)) w e) (stops_todo p k) w;
    marking = λ l d g z e w. waits_on l d p.mark g (not_here l d 8 (λ q. k.proper.eight_unwalked (sym q)) w e) (stops_mark p k) w;
  }

  -- a walk from another cell comes to the same
  way_sooner : (w : Way) (n : ℕ) (q : Cell) (l : List ℕ) → InGrid r q → n ≤ room r w q → Waits l → walked_for p r w n q (sets l) ≡ sets (walked_for p r w n q l)
  unfolding walked_for
  way_sooner w zero q l i g e = refl
  way_sooner w (suc n) q l i g e =
      let d = beside w q in
      let j = beside_in r q w i (omega arith) in
      dec_cell r d c j h
      (λ x.
      let now : at r (sets l) d ≡ p.done = ap (at r (sets l)) x ∙ here r l p.done c h e.size in
      let was : at r l d ≡ p.todo = ap (at r l) x ∙ e.todo in
      step_stop p r w n q (sets l) (λ y. k.proper.set_unpassed (sym now ∙ y)) (λ y. k.set_unmarked (sym now ∙ y))
      ∙ sym (ap sets (step_stop p r w n q l (λ y. k.apart (sym y ∙ was)) (λ y. k.proper.eight_unwalked (sym y ∙ was)))))
      (λ z.
      let same : at r (sets l) d ≡ at r l d = there r l p.done d c j h z in
      let apart : num r c ≡ num r d → ⊥ = λ y. z (sym (num_inj r c d h j y)) in
      dec_eq (at r l d) p.pass
      (λ y.
      step_pass p r w n q (sets l) (same ∙ y)
      ∙ ap (walked_for p r w n d) (set_comm l (num r c) (num r d) p.done p.todo apart)
      ∙ way_sooner w n d (set l (num r d) p.todo) j (omega (arith, beside_room r q w (omega arith))) (waits_kept.passing l d j y e)
      ∙ sym (ap sets (step_pass p r w n q l y)))
      (λ y.
      dec_eq (at r l d) 8
      (λ x. step_mark p r w n q (sets l) (λ u. y (sym same ∙ u)) (same ∙ x) ∙ set_comm l (num r c) (num r d) p.done p.mark apart ∙ sym (ap sets (step_mark p r w n q l y x)))
      (λ x. step_stop p r w n q (sets l) (λ u. y (sym same ∙ u)) (λ u. x (sym same ∙ u)) ∙ sym (ap sets (step_stop p r w n q l y x)))))

  ways_sooner : (ws : List Way) (q : Cell) (l : List ℕ) → InGrid r q → Waits l → walked_over p r ws q (sets l) ≡ sets (walked_over p r ws q l)
  unfolding walked_over
  ways_sooner [] q l i e = refl
  ways_sooner (w ∷ ws) q l i e =
      ap (walked_over p r ws q) (way_sooner w (min (room r w q) 64) q l i (omega arith) e)
      ∙ ways_sooner ws q (walked_for p r w (min (room r w q) 64) q l) i (for_keeps p r Waits waits_kept w (min (room r w q) 64) q l i (omega arith) e)

  abbrev pub WaitsIn : State → Type 0
  WaitsIn s = Waits s.labels

  -- so does a visit of another cell
  visit_sooner : (q : Cell) → InGrid r q → (c ≡ q → ⊥) → Passes WaitsIn sooner (visited p r q)
  visit_sooner q i z s e =
      let l = s.labels in
      let same : at r (sets l) q ≡ at r l q = there r l p.done q c i h (λ y. z (sym y)) in
      let apart : num r c ≡ num r q → ⊥ = λ y. z (num_inj r c q h i y) in
      by_visit p r q s
      (λ y v.
      let f = waits_on l q p.done i z (stops_done p k) e in (
        visit_done p r q (sets l) (s.walked + 1) (same ∙ y)
            ∙ ap (λ (m : List ℕ). record { labels = m; walked = s.walked + 1 + 1 }) (ap (walked_from p r q) (set_comm l (num r c) (num r q) p.done p.done apart) ∙ ways_sooner ways q (set l (num r q) p.done) i f)
            ∙ sym (ap sooner v),
        subst WaitsIn (sym v) (walk_keeps p r Waits waits_kept q (set l (num r q) p.done) i f),
      ))
      (λ y u v. (
        visit_walk p r q (sets l) (s.walked + 1) (λ x. y (sym same ∙ x)) (ap (is_walker p.walkers) same ∙ u)
            ∙ ap (λ (m : List ℕ). record { labels = m; walked = s.walked + 1 }) (ways_sooner ways q l i e)
            ∙ sym (ap sooner v),
        subst WaitsIn (sym v) (walk_keeps p r Waits waits_kept q l i e),
      ))
      (λ y u v. (
        visit_none p r q (sets l) (s.walked + 1) (λ x. y (sym same ∙ x)) (ap (is_walker p.walkers) same ∙ u) ∙ sym (ap sooner v),
        subst WaitsIn (sym v) e,
      ))

  -- and at the cell's own turn nothing is left to do
  visit_absorbs : Absorbs WaitsIn sooner (visited p r c)
  visit_absorbs s e =
      let l = s.labels in
      let now : at r (sets l) c ≡ p.done = here r l p.done c h e.size in
      let calm : Quiet p r (sets l) c = quiet_kept p r l (sets l) c h (λ x i u. stored r l p.done x c i h e.size (λ q y. subst (Stops p) (sym y) (stops_done p k)) (λ y q. subst (Stops p) (sym q) u)) e.quiet in
      visit_none p r c (sets l) (s.walked + 1) (λ y. k.proper.set_unwalked (sym now ∙ y)) (ap (is_walker p.walkers) now ∙ k.set_stays)
      ∙ sym (visit_done p r c l s.walked e.todo ∙ ap (λ (m : List ℕ). record { labels = m; walked = s.walked + 1 }) (quiet_walk p r c (sets l) calm))

  abbrev cell : ℕ → ℕ → ℕ → Cell
  cell i j k = record { i = i; j = j; k = k }

  row_passes : (i j : ℕ) → i < r.r0 → j < r.r1 → ((x : ℕ) → c ≡ cell i j x → ⊥) → Passes WaitsIn sooner (rowed p r i j)
  row_passes i j u v z = turn_pass WaitsIn sooner _ r.r2 0 (λ t a b. visit_sooner (cell i j t) (record { i_in = u; j_in = v; k_in = omega arith }) (z t))

  row_absorbs : Absorbs WaitsIn sooner (rowed p r c.i c.j)
  row_absorbs =
      turn_absorb WaitsIn sooner _ r.r2 0 c.k (omega arith) (omega (arith, h.k_in))
      (λ t a b z. visit_sooner (cell c.i c.j t) (record { i_in = h.i_in; j_in = h.j_in; k_in = omega arith }) (λ q. z (sym (ap (λ (d : Cell). d.k) q))))
      visit_absorbs

  slab_passes : (i : ℕ) → i < r.r0 → (c.i ≡ i → ⊥) → Passes WaitsIn sooner (slabbed p r i)
  slab_passes i u z = turn_pass WaitsIn sooner _ r.r1 0 (λ t a b. row_passes i t u (omega arith) (λ x q. z (ap (λ (d : Cell). d.i) q)))

  slab_absorbs : Absorbs WaitsIn sooner (slabbed p r c.i)
  slab_absorbs =
      turn_absorb WaitsIn sooner _ r.r1 0 c.j (omega arith) (omega (arith, h.j_in))
      (λ t a b z. row_passes c.i t h.i_in (omega arith) (λ x q. z (sym (ap (λ (d : Cell). d.j) q))))
      row_absorbs

  pub sooner_same : (n a : ℕ) → a ≤ c.i → c.i < a + n → a + n ≤ r.r0 → (s : State) → WaitsIn s → SameEnd p r n a s (sooner s)
  sooner_same n a u v m =
      turn_absorb WaitsIn sooner _ n a c.i u v
      (λ t b d z. slab_passes t (omega arith) (λ q. z (sym q)))
      slab_absorbs

-- ---- what is idle or quiet stays so while cells are set before their turn

module _ (p : Phase) (k : Clear p) (r : Axes) (l m : List ℕ) (t : SetEarly p l m) where
  early_stops : (d : Cell) → InGrid r d → Stops p (at r l d) → Stops p (at r m d)
  early_stops d i s = go (t.labels (num r d))
    where
      go : (at r m d ≡ at r l d) ⊎ ((at r l d ≡ p.todo) × (at r m d ≡ p.done)) → Stops p (at r m d)
      go (inl e) = subst (Stops p) (sym e) s
      go (inr e) = subst (Stops p) (sym e.1) (stops_done p k)

  pub early_quiet : (c : Cell) → InGrid r c → Quiet p r l c → Quiet p r m c
  early_quiet c h = quiet_kept p r l m c h early_stops

  -- a label that is to walk, or walks, was there before
  pub early_todo : (d : ℕ) → get_or m d 0 ≡ p.todo → get_or l d 0 ≡ p.todo
  early_todo d e = go (t.labels d)
    where
      go : (get_or m d 0 ≡ get_or l d 0) ⊎ ((get_or l d 0 ≡ p.todo) × (get_or m d 0 ≡ p.done)) → get_or l d 0 ≡ p.todo
      go (inl q) = sym q ∙ e
      go (inr q) = q.0

  pub early_walker : (d : ℕ) → is_walker p.walkers (get_or m d 0) ≡ true → is_walker p.walkers (get_or l d 0) ≡ true
  early_walker d e = go (t.labels d)
    where
      go : (get_or m d 0 ≡ get_or l d 0) ⊎ ((get_or l d 0 ≡ p.todo) × (get_or m d 0 ≡ p.done)) → is_walker p.walkers (get_or l d 0) ≡ true
      go (inl q) = ap (is_walker p.walkers) (sym q) ∙ e
      go (inr q) = absurd (true≢false (sym e ∙ ap (is_walker p.walkers) q.1 ∙ k.set_stays))

  pub early_idle : (c : Cell) → InGrid r c → Idle p r l c → Idle p r m c
  early_idle c h s = record { walked = λ e. s.walked (early_todo (num r c) e); quiet = λ e. early_quiet c h (s.quiet (early_walker (num r c) e)) }

-- ---- cells set before their turn, one after the other

pub early_none : (p : Phase) (l : List ℕ) → SetEarly p l l
early_none p l = record { size = refl; labels = λ d. inl refl }

pub early_one : (p : Phase) (l : List ℕ) (n : ℕ) → n < length l → get_or l n 0 ≡ p.todo → SetEarly p l (set l n p.done)
early_one p l n h e = record {
  size = length-set l n p.done;
  labels = λ d. dec_eq d n
      (λ q. inr (ap (λ (x : ℕ). get_or l x 0) q ∙ e, ap (λ (x : ℕ). get_or (set l n p.done) x 0) q ∙ get_or-set_same l n p.done 0 h))
      (λ z. inl (get_or-set_other l n d p.done 0 z));
}

pub early_then : (p : Phase) → Clear p → {l m e : List ℕ} → SetEarly p l m → SetEarly p m e → SetEarly p l e
early_then p k {l = l} {m = m} {e = e} a b = record { size = b.size ∙ a.size; labels = λ d. go d (a.labels d) (b.labels d) }
  where
    go : (d : ℕ) → (get_or m d 0 ≡ get_or l d 0) ⊎ ((get_or l d 0 ≡ p.todo) × (get_or m d 0 ≡ p.done)) → (get_or e d 0 ≡ get_or m d 0) ⊎ ((get_or m d 0 ≡ p.todo) × (get_or e d 0 ≡ p.done))
        → (get_or e d 0 ≡ get_or l d 0) ⊎ ((get_or l d 0 ≡ p.todo) × (get_or e d 0 ≡ p.done))
    go d (inl x) (inl y) = inl (y ∙ x)
    go d (inl x) (inr y) = inr (sym x ∙ y.0, y.1)
    go d (inr x) (inl y) = inr (x.0, y ∙ x.1)
    go d (inr x) (inr y) = absurd (k.proper.set_unwalked (sym x.1 ∙ y.0))
