-- What a trip's tests say. Assumes nothing.
use mathlib.Core.Bool.{Bool, true, false, not, cond, ◌&&◌}
use mathlib.Core.Path.{◌≡◌, refl, sym, ◌∙◌}
use Prim.Native.Nat.{ℕ}
use native.Mathlib.Omega.{arith}
use lib.Dec.{eqb, ltb}
use borrow.Author.Tests.{ltb-true, lt-ltb, eq-eqb, ne_eqb}
use Rattle.grid.specs.declared.Axes.{Axes}
use Rattle.grid.specs.declared.Cell.{Cell}
use Rattle.grid.specs.Grid.{InGrid, Border, on_border}
use Rattle.grid.proofs.Cells.{border_test}
use Rattle.grid.proofs.First.{both_true}
use Rattle.edits_reach.specs.Reach.{Marked}

pub true_false : {b : Bool} → b ≡ true → b ≡ false → ⊥
true_false p q = let z : ◌≡◌ {A = ℕ} 0 1 = cc in omega arith

pub flag : (b : Bool) → (b ≡ true → ⊥) → b ≡ false
flag true z = absurd (z refl)
flag false z = refl

-- the way to try next
pub onward_at : (b : Bool) (n : ℕ) → b ≡ false → cond b 6 n ≡ n
onward_at true n e = absurd (true_false refl e)
onward_at false n e = refl

pub onward_end : (b : Bool) (n : ℕ) → b ≡ true → cond b 6 n ≡ 6
onward_end true n e = refl
onward_end false n e = absurd (true_false e refl)

-- a border cell, where the trip stops at one
module _ (stop : Bool) (r : Axes) (c : Cell) (h : InGrid r c) (b : Bool) (u : b ≡ cond stop (on_border r c) false) where
  pub exit_so : b ≡ true → (stop ≡ true) × Border r c
  exit_so w = of stop (sym u ∙ w)
    where
      of : (s : Bool) → cond s (on_border r c) false ≡ true → (s ≡ true) × Border r c
      of true e = (refl, (border_test r c h).0 e)
      of false e = absurd (true_false e refl)

  pub exit_not : b ≡ false → stop ≡ true → Border r c → ⊥
  exit_not w s q = of stop (sym u ∙ w) s
    where
      of : (t : Bool) → cond t (on_border r c) false ≡ false → t ≡ true → ⊥
      of true e _ = true_false ((border_test r c h).1 q) e
      of false e t = true_false t refl

-- a marked neighbour, likewise
module _ (stop : Bool) (done v : ℕ) (b : Bool) (u : b ≡ (stop && (ltb v 6 && not (eqb v done)))) where
  pub mark_so : b ≡ true → (stop ≡ true) × Marked done v
  mark_so w =
      let p = both_true stop (ltb v 6 && not (eqb v done)) (sym u ∙ w) in
      let q = both_true (ltb v 6) (not (eqb v done)) p.1 in
      (p.0, (ltb-true v 6 q.0, λ e. other (eqb v done) (eq-eqb v done e) q.1))
    where
      other : (x : Bool) → x ≡ true → not x ≡ true → ⊥
      other true p q = true_false q refl
      other false p q = true_false p refl

  pub mark_not : b ≡ false → stop ≡ true → Marked done v → ⊥
  mark_not w s q = true_false (sym u') w
    where
      all : (x y z : Bool) → x ≡ true → y ≡ true → z ≡ false → true ≡ (x && (y && not z))
      all true true false p q e = refl
      all true true true p q e = absurd (true_false refl e)
      all true false z p q e = absurd (true_false q refl)
      all false y z p q e = absurd (true_false p refl)

      u' : true ≡ b
      u' = all stop (ltb v 6) (eqb v done) s (lt-ltb v 6 q.0) (ne_eqb v done q.1) ∙ sym u
