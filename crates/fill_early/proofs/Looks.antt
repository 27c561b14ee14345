-- What a look one step up and down each axis says of a cell. Assumes nothing.
use mathlib.Core.Bool.{Bool, cond}
use mathlib.Core.Logic.{◌⊎◌, inl, inr}
use mathlib.Core.Path.{◌≡◌, refl, ap, subst, ◌∙◌}
use mathlib.Core.List.{List}
use Prim.Native.Nat.{ℕ, ◌+◌, ◌*◌, ◌-◌, ◌≤◌, ◌<◌}
use native.Mathlib.Nat.{one-mul, mul-le-mul_right}
use native.Mathlib.Omega.{arith}
use lib.ListN.{get_or}
use borrow.Author.Tests.{lt-ltb, le-ltb}
use Rattle.grid.specs.declared.Axes.{Axes}
use Rattle.grid.specs.declared.Cell.{Cell}
use Rattle.grid.specs.Grid.{num, cells, InGrid, at}
use Rattle.grid.specs.Ways.{Way, up_k, down_k, up_j, down_j, up_i, down_i, room, beside}
use Rattle.grid.proofs.Cells.{num_lt}
use Rattle.grid.proofs.First.{le_or_lt}
use Rattle.grid.proofs.Ways.{adds, takes_off, beside_in, beside_num}
use Rattle.fill_walks.specs.declared.Phase.{Phase}
use Rattle.fill_walks.specs.Quiet.{Stops, Quiet}
use Rattle.fill_early.specs.Early.{step_if}

pub step_some : (m s : ℕ) → 0 < m → step_if m s ≡ s
step_some m s h = ap (λ (b : Bool). cond b s 0) (lt-ltb 0 m h)

pub step_none : (m s : ℕ) → m ≤ 0 → step_if m s ≡ 0
step_none m s h = ap (λ (b : Bool). cond b s 0) (le-ltb 0 m h)

once : (a s : ℕ) → 0 < a → s ≤ a * s
once a s h = omega (arith, one-mul s, mul-le-mul_right s h)

module _ (r : Axes) (c : Cell) (h : InGrid r c) where
  -- a step up stays below the number of cells, and a step down above 0
  pub step_up : (w : Way) → takes_off r w ≡ 0 → num r c + step_if (room r w c) (adds r w) < cells r
  step_up w e = go (le_or_lt (room r w c) 0)
    where
      go : (room r w c ≤ 0) ⊎ (0 < room r w c) → num r c + step_if (room r w c) (adds r w) < cells r
      go (inl g) = omega (arith, step_none (room r w c) (adds r w) g, num_lt r c h)
      go (inr g) = omega (arith, step_some (room r w c) (adds r w) g, beside_num r c w g, num_lt r (beside w c) (beside_in r c w h g), e)

  pub step_down : (s a : ℕ) → a * s ≤ num r c → step_if a s ≤ num r c
  step_down s a g = go (le_or_lt a 0)
    where
      go : (a ≤ 0) ⊎ (0 < a) → step_if a s ≤ num r c
      go (inl x) = omega (arith, step_none a s x)
      go (inr x) = omega (arith, step_some a s x, once a s x)

  -- the label a step away is that of the neighbour, if there is one
  module _ (l : List ℕ) (p : Phase) where
    above : (w : Way) → takes_off r w ≡ 0 → 0 < room r w c → Stops p (get_or l (num r c + step_if (room r w c) (adds r w)) 0) → Stops p (at r l (beside w c))
    above w e g s = subst (λ (n : ℕ). Stops p (get_or l n 0)) (ap (λ (x : ℕ). num r c + x) (step_some (room r w c) (adds r w) g) ∙ omega (arith, e, beside_num r c w g)) s

    below : (w : Way) → adds r w ≡ 0 → 0 < room r w c → Stops p (get_or l (num r c - step_if (room r w c) (takes_off r w)) 0) → Stops p (at r l (beside w c))
    below w e g s = subst (λ (n : ℕ). Stops p (get_or l n 0)) (ap (λ (x : ℕ). num r c - x) (step_some (room r w c) (takes_off r w) g) ∙ omega (arith, e, beside_num r c w g)) s

    pub quiet_near : Stops p (get_or l (num r c + step_if (r.r0 - (c.i + 1)) 1) 0) × Stops p (get_or l (num r c - step_if c.i 1) 0)
        → Stops p (get_or l (num r c + step_if (r.r1 - (c.j + 1)) r.r0) 0) × Stops p (get_or l (num r c - step_if c.j r.r0) 0)
        → Stops p (get_or l (num r c + step_if (r.r2 - (c.k + 1)) (r.r0 * r.r1)) 0) × Stops p (get_or l (num r c - step_if c.k (r.r0 * r.r1)) 0)
        → Quiet p r l c
    quiet_near a b d up_i g = above up_i refl g a.0
    quiet_near a b d down_i g = below down_i refl g a.1
    quiet_near a b d up_j g = above up_j refl g b.0
    quiet_near a b d down_j g = below down_j refl g b.1
    quiet_near a b d up_k g = above up_k refl g d.0
    quiet_near a b d down_k g = below down_k refl g d.1

pub near_as : (p : Phase) (l : List ℕ) {n m u v d e : ℕ} → n ≡ m → u ≡ v → d ≡ e → Stops p (get_or l (n + u) 0) × Stops p (get_or l (n - d) 0) → Stops p (get_or l (m + v) 0) × Stops p (get_or l (m - e) 0)
near_as p l {n = n} {v = v} {e = e} a b c s =
    (subst (λ (x : ℕ). Stops p (get_or l x 0)) (ap (λ (x : ℕ). n + x) b ∙ ap (λ (x : ℕ). x + v) a) s.0, subst (λ (x : ℕ). Stops p (get_or l x 0)) (ap (λ (x : ℕ). n - x) c ∙ ap (λ (x : ℕ). x - e) a) s.1)
