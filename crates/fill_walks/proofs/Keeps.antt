-- What each store of a walk keeps, a scan keeps; and of a count that walked cells lose, a scan loses what it walked. Assumes nothing.
use mathlib.Core.Bool.{Bool, true, false, cond}
use mathlib.Core.Path.{◌≡◌, refl, sym, ap, subst, ◌∙◌}
use mathlib.Core.List.{List, [], ◌∷◌}
use Prim.Native.Nat.{ℕ, zero, suc, ◌+◌, ◌≤◌, ◌<◌, min}
use native.Mathlib.Omega.{arith}
use lib.Dec.{eqb}
use lib.ListN.{length, set, length-set}
use borrow.Author.Tests.{eq-eqb, ne_eqb}
use Rattle.grid.specs.declared.Axes.{Axes}
use Rattle.grid.specs.declared.Cell.{Cell}
use Rattle.grid.specs.Grid.{num, cells, InGrid, at}
use Rattle.grid.specs.Ways.{Way, ways, room, beside}
use Rattle.grid.specs.Counts.{count}
use Rattle.grid.proofs.Cells.{dec_eq, num_lt}
use Rattle.grid.proofs.Ways.{beside_in, beside_room}
use Rattle.grid.proofs.Counts.{count_same, count_less}
use Rattle.fill_walks.specs.declared.Phase.{Phase}
use Rattle.fill_walks.specs.Scan.{State, is_walker, walked_for, walked_over, walked_from, visited, in_turn, scanned}
use Rattle.fill_walks.proofs.Turns.{visit_done, visit_walk, visit_none}

-- ---- a walk, over what its stores keep

-- a walk stores in cells of the grid, at a label passed and at an 8
pub record Kept (p : Phase) (r : Axes) (P : List ℕ → Type 0) : Type 0 where
  pub passing : (l : List ℕ) (d : Cell) → InGrid r d → at r l d ≡ p.pass → P l → P (set l (num r d) p.todo)
  pub marking : (l : List ℕ) (d : Cell) → InGrid r d → (at r l d ≡ p.pass → ⊥) → at r l d ≡ 8 → P l → P (set l (num r d) p.mark)

module _ (p : Phase) (r : Axes) (P : List ℕ → Type 0) (k : Kept p r P) where
  pub for_keeps : (w : Way) (n : ℕ) (c : Cell) (l : List ℕ) → InGrid r c → n ≤ room r w c → P l → P (walked_for p r w n c l)
  unfolding walked_for
  for_keeps w zero c l h g a = a
  for_keeps w (suc n) c l h g a =
      let d = beside w c in
      let i = beside_in r c w h (omega arith) in
      let stop : List ℕ = cond (eqb (at r l d) 8) (set l (num r d) p.mark) l in
      let on = walked_for p r w n d (set l (num r d) p.todo) in
      dec_eq (at r l d) p.pass
      (λ e. subst P (sym (ap (λ (b : Bool). cond b on stop) (eq-eqb (at r l d) p.pass e)))
      (for_keeps w n d (set l (num r d) p.todo) i (omega (arith, beside_room r c w (omega arith))) (k.passing l d i e a)))
      (λ z. subst P (sym (ap (λ (b : Bool). cond b on stop) (ne_eqb (at r l d) p.pass z)))
      (dec_eq (at r l d) 8
      (λ e. subst P (sym (ap (λ (b : Bool). cond b (set l (num r d) p.mark) l) (eq-eqb (at r l d) 8 e))) (k.marking l d i z e a))
      (λ y. subst P (sym (ap (λ (b : Bool). cond b (set l (num r d) p.mark) l) (ne_eqb (at r l d) 8 y))) a)))

  over_keeps : (ws : List Way) (c : Cell) (l : List ℕ) → InGrid r c → P l → P (walked_over p r ws c l)
  unfolding walked_over
  over_keeps [] c l h a = a
  over_keeps (w ∷ ws) c l h a = over_keeps ws c _ h (for_keeps w (min (room r w c) 64) c l h (omega arith) a)

  pub walk_keeps : (c : Cell) (l : List ℕ) → InGrid r c → P l → P (walked_from p r c l)
  walk_keeps = over_keeps ways

-- ---- a scan, over what its visits keep

turn_keeps : (P : State → Type 0) (f : ℕ → State → State) (n i : ℕ) → ((t : ℕ) → t < i + n → (s : State) → P s → P (f t s)) → (s : State) → P s → P (in_turn f n i s)
unfolding in_turn
turn_keeps P f zero i h s a = a
turn_keeps P f (suc n) i h s a = turn_keeps P f n (i + 1) (λ t g. h t (omega arith)) (f i s) (h i (omega arith) s a)

pub scan_keeps : (p : Phase) (r : Axes) (P : State → Type 0) → ((c : Cell) → InGrid r c → (s : State) → P s → P (visited p r c s))
    → (l : List ℕ) → P (record { labels = l; walked = 0 }) → P (scanned p r l)
scan_keeps p r P h l a =
    turn_keeps P _ r.r0 0
    (λ i hi. turn_keeps P _ r.r1 0
    (λ j hj. turn_keeps P _ r.r2 0
    (λ k hk s. h (record { i = i; j = j; k = k }) (record { i_in = omega arith; j_in = omega arith; k_in = omega arith }) s)))
    (record { labels = l; walked = 0 }) a

-- a visit, by the label that it finds
pub by_visit : {C : Type 0} (p : Phase) (r : Axes) (c : Cell) (s : State)
    → (at r s.labels c ≡ p.todo → visited p r c s ≡ record { labels = walked_from p r c (set s.labels (num r c) p.done); walked = s.walked + 1 } → C)
    → ((at r s.labels c ≡ p.todo → ⊥) → is_walker p.walkers (at r s.labels c) ≡ true → visited p r c s ≡ record { labels = walked_from p r c s.labels; walked = s.walked } → C)
    → ((at r s.labels c ≡ p.todo → ⊥) → is_walker p.walkers (at r s.labels c) ≡ false → visited p r c s ≡ s → C) → C
by_visit {C} p r c s taken walks left =
    dec_eq (at r s.labels c) p.todo
    (λ e. taken e (visit_done p r c s.labels s.walked e))
    (λ z. go z (is_walker p.walkers (at r s.labels c)) refl)
  where
    go : (at r s.labels c ≡ p.todo → ⊥) → (b : Bool) → is_walker p.walkers (at r s.labels c) ≡ b → C
    go z true e = walks z e (visit_walk p r c s.labels s.walked z e)
    go z false e = left z e (visit_none p r c s.labels s.walked z e)

-- ---- a count of which each walked cell takes one, and nothing else changes

pub record Weighs (p : Phase) (ok : ℕ → Bool) : Type 0 where
  pub passing : ok p.todo ≡ ok p.pass
  pub marking : ok p.mark ≡ ok 8
  pub before : ok p.todo ≡ true
  pub after : ok p.done ≡ false

module _ (p : Phase) (r : Axes) (ok : ℕ → Bool) (w : Weighs p ok) where
  -- what is counted, and what was walked
  pub record Weight (n : ℕ) (s : State) : Type 0 where
    pub size : length s.labels ≡ cells r
    pub sum : count ok s.labels + s.walked ≡ n

  pub record Sized (n : ℕ) (l : List ℕ) : Type 0 where
    pub size : length l ≡ cells r
    pub sum : count ok l ≡ n

  sized_kept : (n : ℕ) → Kept p r (Sized n)
  sized_kept n = record {
    passing = λ l d h e a. record { size = length-set l (num r d) p.todo ∙ a.size; sum = count_same ok l (num r d) p.todo (w.passing ∙ sym (ap ok e)) ∙ a.sum };
    marking = λ l d h z e a. record { size = length-set l (num r d) p.mark ∙ a.size; sum = count_same ok l (num r d) p.mark (w.marking ∙ sym (ap ok e)) ∙ a.sum };
  }

  walk_sized : (n : ℕ) (c : Cell) (l : List ℕ) → InGrid r c → Sized n l → Sized n (walked_from p r c l)
  walk_sized n = walk_keeps p r (Sized n) (sized_kept n)

  visit_weight : (n : ℕ) (c : Cell) → InGrid r c → (s : State) → Weight n s → Weight n (visited p r c s)
  visit_weight n c h s a =
      let l = s.labels in
      by_visit p r c s
      (λ e q.
      let m = set l (num r c) p.done in
      let less = count_less ok l (num r c) p.done (rw a.size (num_lt r c h)) (ap ok e ∙ w.before) w.after in
      let k = walk_sized (count ok m) c m h (record { size = length-set l (num r c) p.done ∙ a.size; sum = refl }) in
      subst (Weight n) (sym q) (record { size = k.size; sum = omega (arith, k.sum, less, a.sum) }))
      (λ z e q.
      let k = walk_sized (count ok l) c l h (record { size = a.size; sum = refl }) in
      subst (Weight n) (sym q) (record { size = k.size; sum = omega (arith, k.sum, a.sum) }))
      (λ z e q. subst (Weight n) (sym q) a)

  -- what a scan walks is what the count loses
  pub scan_weight : (l : List ℕ) → length l ≡ cells r → Weight (count ok l) (scanned p r l)
  scan_weight l e = scan_keeps p r (Weight (count ok l)) (visit_weight (count ok l)) l (record { size = e; sum = omega arith })
