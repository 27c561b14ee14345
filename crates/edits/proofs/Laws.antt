-- What the contracts of `open_cell` and `close_cell` say: their numbers, that two results coincide, which cells an edit changes, and demand 3 over any list of edits. Assumes nothing.
use Rattle.std.specs.Prelude.{Ok, Err}
use mathlib.Core.Bool.{Bool, true, false, cond}
use mathlib.Core.Logic.{◌⊎◌, inl, inr, ⊎_elim}
use mathlib.Core.Path.{◌≡◌, refl, sym, ap, ◌∙◌}
use mathlib.Core.List.{List, [], ◌∷◌}
use Prim.Native.Nat.{ℕ, ◌<◌}
use native.Mathlib.Omega.{arith}
use lib.Dec.{eqb}
use lib.ListN.{length, get_or, length-map}
use borrow.Author.Tests.{ne_eqb}
use Rattle.grid.specs.declared.Axes.{Axes}
use Rattle.grid.specs.declared.Cell.{Cell}
use Rattle.grid.specs.declared.Refusal.{Refusal}
use Rattle.grid.specs.Answers.{Outcome, Ends, Gives, Checked}
use Rattle.grid.specs.Checks.{takes}
use Rattle.grid.specs.Flood.{Floods, surface, outside, inside, Flooded}
use Rattle.grid.specs.Grid.{cells, num, InGrid, at, Sheet}
use Rattle.grid.specs.Paths.{Through}
use Rattle.grid.proofs.Cells.{dec_eq, not_both, num_lt, by_cell, sheet_kept}
use Rattle.grid.proofs.Checks.{map_fine, fine_map, no_fault, ends_one, ends_same, ends_gives}
use Rattle.grid.proofs.Floods.{surface_means, flooded_one}
use Rattle.grid.proofs.Paths.{joined_kind}
use Rattle.fill.specs.declared.FillCounts.{FillCounts}
use Rattle.fill.specs.declared.Mode.TheVariants.{Flood}
use Rattle.fill.specs.Modes.{marks, fill_fault, Means}
use Rattle.grid.proofs.Passes.{map_at}
use Rattle.edits.specs.Edits.{Edit, opening, closing, edit_fault, Opens, aired, unreached, alone, other, Closes, lid, sealed, stays, Becomes, changed, Edited}
use Rattle.edits.specs.History.{Call, After, none, next, IsFill, surfaces, IsFresh}
use Rattle.edits.proofs.Faults.{edit_sound, edit_finds}
use Rattle.edits.proofs.Fresh.{aired_more}
use Rattle.edits.proofs.Calls.{call_flooded}

-- ---- refusals

pub edit_numbers : (r : Axes) (e : Edit) (l m : List ℕ) (o : Outcome ℕ) → Call r e l o m → Gives (8 ∷ 9 ∷ 11 ∷ 12 ∷ 13 ∷ []) o
edit_numbers r e l m o k = ends_gives (8 ∷ 9 ∷ 11 ∷ 12 ∷ 13 ∷ []) (edit_fault r l e) l (Edited r l e) o m (edit_finds r l e) k

-- a refusal leaves every label
pub refused_same : (r : Axes) (e : Edit) (l m : List ℕ) (f : Refusal) → Call r e l (Err f) m → m ≡ l
refused_same r e l m f k = ends_same (edit_fault r l e) l (Edited r l e) f m k

-- ---- two results that fit coincide

opens_one : (r : Axes) (l : List ℕ) (c d : Cell) (v w : ℕ) → Opens r l c d v → Opens r l c d w → v ≡ w
opens_one r l c d v w (aired t u e) (aired _ _ q) = e ∙ sym q
opens_one r l c d v w (aired t u e) (unreached _ n _) = absurd (n u)
opens_one r l c d v w (aired t u e) (alone z _ _) = absurd (z t)
opens_one r l c d v w (aired t u e) (other z _ _) = absurd (z t)
opens_one r l c d v w (unreached t n e) (aired _ u _) = absurd (n u)
opens_one r l c d v w (unreached t n e) (unreached _ _ q) = e ∙ sym q
opens_one r l c d v w (unreached t n e) (alone z _ _) = absurd (z t)
opens_one r l c d v w (unreached t n e) (other z _ _) = absurd (z t)
opens_one r l c d v w (alone z i e) (aired t _ _) = absurd (z t)
opens_one r l c d v w (alone z i e) (unreached t _ _) = absurd (z t)
opens_one r l c d v w (alone z i e) (alone _ _ q) = e ∙ sym q
opens_one r l c d v w (alone z i e) (other _ n _) = absurd (n i)
opens_one r l c d v w (other z n e) (aired t _ _) = absurd (z t)
opens_one r l c d v w (other z n e) (unreached t _ _) = absurd (z t)
opens_one r l c d v w (other z n e) (alone _ i _) = absurd (n i)
opens_one r l c d v w (other z n e) (other _ _ q) = e ∙ sym q

closes_one : (r : Axes) (l : List ℕ) (c d : Cell) (v w : ℕ) → Closes r l c d v → Closes r l c d w → v ≡ w
closes_one r l c d v w (lid i e) (lid _ q) = e ∙ sym q
closes_one r l c d v w (lid i e) (sealed z _ _ _ _) = absurd (z i)
closes_one r l c d v w (lid i e) (stays z _ _) = absurd (z i)
closes_one r l c d v w (sealed z _ _ _ e) (lid i _) = absurd (z i)
closes_one r l c d v w (sealed z _ _ _ e) (sealed _ _ _ _ q) = e ∙ sym q
closes_one r l c d v w (sealed z s u n e) (stays _ k _) = absurd (n (k s u))
closes_one r l c d v w (stays z _ e) (lid i _) = absurd (z i)
closes_one r l c d v w (stays z k e) (sealed _ s u n _) = absurd (n (k s u))
closes_one r l c d v w (stays z _ e) (stays _ _ q) = e ∙ sym q

becomes_one : (r : Axes) (l : List ℕ) (e : Edit) (d : Cell) (v w : ℕ) → Becomes r l e d v → Becomes r l e d w → v ≡ w
becomes_one r l (opening c) d v w a b = opens_one r l c d v w a b
becomes_one r l (closing c) d v w a b = closes_one r l c d v w a b

edited_one : (r : Axes) (l : List ℕ) (e : Edit) (m n : ℕ) (a b : List ℕ) → length l ≡ cells r → Edited r l e m a → Edited r l e n b → (m ≡ n) × (a ≡ b)
edited_one r l e m n a b size p q =
    let same = by_cell r a b (p.size ∙ size) (q.size ∙ size) (λ d h. becomes_one r l e d (at r a d) (at r b d) (p.each d h) (q.each d h)) in
    (p.counted ∙ ap (changed l) same ∙ sym q.counted, same)

-- the map is as long as its axes say, where an edit is not refused
edit_size : (r : Axes) (l : List ℕ) (e : Edit) → edit_fault r l e ≡ Ok tt → length l ≡ cells r
edit_size r l (opening c) h = (edit_sound r l c true h).sheet.size
edit_size r l (closing c) h = (edit_sound r l c false h).sheet.size

pub settled : (r : Axes) (e : Edit) (l : List ℕ) (f g : Outcome ℕ) (a b : List ℕ) → Call r e l f a → Call r e l g b → (f ≡ g) × (a ≡ b)
settled r e l f g a b p q =
    let u = ends_one (edit_fault r l e) l (Edited r l e) (λ m n x y h v w. edited_one r l e m n x y (edit_size r l e h) v w) f g a b p q in
    (u.0, u.1)

-- ---- the frame: "An opening changes only its cell and Inside cells joined to it; a closing only its cell and Outside cells that were joined to it"

pub opening_changes : (r : Axes) (l m : List ℕ) (c : Cell) (n : ℕ) → Edited r l (opening c) n m → (d : Cell) → InGrid r d → (at r m d ≡ at r l d → ⊥) → (d ≡ c) ⊎ ((at r l d ≡ 7) × Through r l 7 c d)
opening_changes r l m c n k d h z = of (k.each d h)
  where
    of : Opens r l c d (at r m d) → (d ≡ c) ⊎ ((at r l d ≡ 7) × Through r l 7 c d)
    of (aired t u e) = ⊎_elim (λ i. inl i) (λ q. inr (q, u)) (joined_kind u)
    of (unreached t u e) = absurd (z e)
    of (alone t i e) = inl i
    of (other t i e) = absurd (z e)

pub closing_changes : (r : Axes) (l m : List ℕ) (c : Cell) (n : ℕ) → Edited r l (closing c) n m → (d : Cell) → InGrid r d → (at r m d ≡ at r l d → ⊥) → (d ≡ c) ⊎ ((at r l d ≡ 6) × Through r l 6 c d)
closing_changes r l m c n k d h z = of (k.each d h)
  where
    of : Closes r l c d (at r m d) → (d ≡ c) ⊎ ((at r l d ≡ 6) × Through r l 6 c d)
    of (lid i e) = inl i
    of (sealed i s u w e) = ⊎_elim (λ i. inl i) (λ q. inr (q, u)) (joined_kind u)
    of (stays i w e) = absurd (z e)

-- ---- demand 3

-- a fill is one of all maps with the same surface cells
reflooded : (r : Axes) (l m f : List ℕ) → length f ≡ length m → ((c : Cell) → InGrid r c → at r l c ≡ 8 → at r m c ≡ 8) → ((c : Cell) → InGrid r c → at r m c ≡ 8 → at r l c ≡ 8)
    → Flooded r l f → Flooded r m f
reflooded r l m f size to back k = record { size = size; each = λ d h. of d h (k.each d h) }
  where
    of : (d : Cell) → InGrid r d → Floods r l d (at r f d) → Floods r m d (at r f d)
    of d h (surface p e) = surface (to d h p) e
    of d h (outside a e) = outside (aired_more r l m back a) e
    of d h (inside n z e) = inside (λ q. n (back d h q)) (λ u. z (aired_more r m l to u)) e

-- its own among them
own : (r : Axes) (l f : List ℕ) → Flooded r l f → Flooded r f f
own r l f k = reflooded r l f f refl (λ c h q. (surface_means r l c (at r f c) (k.each c h)).1 q) (λ c h q. (surface_means r l c (at r f c) (k.each c h)).0 q) k

is_fill : (r : Axes) (l : List ℕ) → IsFill r l → Sheet r l × Flooded r l l
is_fill r l (s, n, k) = of (fill_fault r s) refl k
  where
    of : (f : Checked) → f ≡ fill_fault r s → Ends f s (Means Flood r s) (Ok n) l → Sheet r l × Flooded r l l
    of (Ok u) q k = (sheet_kept r s l k.0.size (map_fine marks r s (sym q)).0, own r s l k.0)
    of (Err f) q k = absurd (let z : ◌≡◌ {A = ℕ} 0 1 = clash k.0 in omega arith)
      where
        clash : Ok n ≡ Err f → ◌≡◌ {A = ℕ} 0 1
        clash h = cc

-- after any list of edits the map still is the fill of its own surface cells
after_flooded : (r : Axes) (start : List ℕ) (es : List Edit) (l : List ℕ) → Sheet r start × Flooded r start start → After r start es l → Sheet r l × Flooded r l l
after_flooded r start [] l s none = s
after_flooded r start (e ∷ es) l s (next {l = k} _ o a c) =
    let p = after_flooded r start es k s a in
    let fl = call_flooded r e k o l c p.1 in
    (sheet_kept r k l (call_size o c) p.0, fl)
  where
    call_size : (o : Outcome ℕ) → Call r e k o l → length l ≡ length k
    call_size o c = of (edit_fault r k e) o c
      where
        of : (f : Checked) (o : Outcome ℕ) → Ends f k (Edited r k e) o l → length l ≡ length k
        of (Err f) o q = ap length q.1
        of (Ok u) (Ok n) q = q.size
        of (Ok u) (Err g) q = absurd q

-- and its fresh fill is the map itself
module _ (r : Axes) (l : List ℕ) (s : Sheet r l) (fl : Flooded r l l) where
  abbrev mark : ℕ → ℕ
  mark v = cond (eqb v 8) 8 0

  mark_at_lem : (n : ℕ) → n < length l → get_or (surfaces l) n 0 ≡ mark (get_or l n 0)
  mark_at_lem n h = map_at mark l n h

  mark_cell : (c : Cell) → InGrid r c → at r (surfaces l) c ≡ mark (at r l c)
  mark_cell c h = mark_at_lem (num r c) (rw s.size (num_lt r c h))

  size : length (surfaces l) ≡ length l
  size = length-map l mark

  taken : fill_fault r (surfaces l) ≡ Ok tt
  taken = fine_map marks r (surfaces l) (sheet_kept r l (surfaces l) size s) (λ n h. ap (takes marks) (mark_at_lem n (omega (arith, size))) ∙ either (eqb (get_or l n 0) 8))
    where
      either : (b : Bool) → takes marks (cond b 8 0) ≡ true
      either true = refl
      either false = refl

  same : Flooded r (surfaces l) l
  same = reflooded r l (surfaces l) l (sym size)
      (λ c h q. mark_cell c h ∙ ap mark q)
      (λ c h q. dec_eq (at r l c) 8 (λ e. e) (λ z. absurd (not_both _ 0 8 (omega arith) (mark_cell c h ∙ ap {B = ℕ} (λ (b : Bool). cond b 8 0) (ne_eqb (at r l c) 8 z)) q)))
      fl

  own_fresh : IsFresh r l
  own_fresh o f k = of (fill_fault r (surfaces l)) o taken k
    where
      of : (g : Checked) (o : Outcome FillCounts) → g ≡ Ok tt → Ends g (surfaces l) (Means Flood r (surfaces l)) o f → (n : FillCounts) × (o ≡ Ok n) × (f ≡ l)
      of (Ok u) (Ok n) q k = (n, refl, flooded_one r (surfaces l) f l (size ∙ s.size) k.0 same)
      of (Ok u) (Err g) q k = absurd k
      of (Err g) o q k = absurd (no_fault g q)

-- "After any sequence of openings and closings of such a map, refused ones included, every label equals a fresh fill of the surface cells as they then stand"
pub demand_3 : (r : Axes) (start : List ℕ) (es : List Edit) (l : List ℕ) → IsFill r start → After r start es l → IsFresh r l
demand_3 r start es l s a = let p = after_flooded r start es l (is_fill r start s) a in own_fresh r l p.0 p.1
