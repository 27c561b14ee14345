-- The ways by number, and what a look finds. Assumes nothing.
use mathlib.Core.Bool.{true, false}
use mathlib.Core.Path.{◌≡◌, refl, sym, ap, subst, ◌∙◌}
use mathlib.Core.List.{List}
use Prim.Native.Nat.{ℕ, zero, suc, ◌+◌, ◌*◌, ◌-◌, ◌<◌, ◌≤◌}
use native.Mathlib.Nat.{suc-mul}
use native.Mathlib.Omega.{arith}
use lib.ListN.{get_or}
use Rattle.grid.specs.declared.Axes.{Axes}
use Rattle.grid.specs.declared.Cell.{Cell}
use Rattle.grid.specs.Grid.{num, InGrid, Sound}
use Rattle.grid.specs.Ways.{Way, up_k, down_k, up_j, down_j, up_i, down_i, room, beside}
use Rattle.grid.proofs.Cells.{num_lt, terms, cells_max}
use Rattle.grid.proofs.Ways.{adds, takes_off, beside_num}
use Rattle.edits_reach.specs.declared.Seen.{Seen}
use Rattle.edits_reach.specs.Reach.{way_of, Sees}
use Rattle.edits_reach.proofs.Tests.{true_false}

-- the number of a way
abbrev pub number_of : Way → ℕ
number_of up_i = 0
number_of down_i = 1
number_of up_j = 2
number_of down_j = 3
number_of up_k = 4
number_of down_k = 5

pub way_numbered : (w : Way) → way_of (number_of w) ≡ w
way_numbered up_i = refl
way_numbered down_i = refl
way_numbered up_j = refl
way_numbered down_j = refl
way_numbered up_k = refl
way_numbered down_k = refl

pub numbered_low : (w : Way) → number_of w < 6
numbered_low up_i = omega arith
numbered_low down_i = omega arith
numbered_low up_j = omega arith
numbered_low down_j = omega arith
numbered_low up_k = omega arith
numbered_low down_k = omega arith

-- the numbers past 4
pub last_way : (d : ℕ) → (d ≡ 0 → ⊥) → (d ≡ 1 → ⊥) → (d ≡ 2 → ⊥) → (d ≡ 3 → ⊥) → (d ≡ 4 → ⊥) → way_of d ≡ down_k
last_way zero a b c e f = absurd (a refl)
last_way (suc zero) a b c e f = absurd (b refl)
last_way (suc (suc zero)) a b c e f = absurd (c refl)
last_way (suc (suc (suc zero))) a b c e f = absurd (e refl)
last_way (suc (suc (suc (suc zero)))) a b c e f = absurd (f refl)
last_way (suc (suc (suc (suc (suc d))))) a b c e f = refl

module _ (r : Axes) (c : Cell) (d : ℕ) (w : Way) (e : way_of d ≡ w) where
  pub room_is : room r w c ≡ room r (way_of d) c
  room_is = ap (λ (x : Way). room r x c) (sym e)

  pub beside_is : beside w c ≡ beside (way_of d) c
  beside_is = ap (λ (x : Way). beside x c) (sym e)

  module _ (h : 0 < room r (way_of d) c) where
    pub room_some : 0 < room r w c
    room_some = subst (λ (x : Way). 0 < room r x c) e h

    pub number_is : (n m : ℕ) → n ≡ num r c → m ≡ n + adds r w - takes_off r w → m ≡ num r (beside (way_of d) c)
    number_is n m q s = s ∙ ap (λ (x : ℕ). x + adds r w - takes_off r w) q ∙ sym (beside_num r c w room_some) ∙ ap (num r) beside_is

-- a cell of the grid has a number that every sum of a trip can hold
pub num_max : (r : Axes) (c : Cell) → Sound r → InGrid r c → num r c < 16777216
num_max r c s h = omega (arith, num_lt r c h, cells_max r s)

pub layer_max : (r : Axes) (c : Cell) → Sound r → InGrid r c → r.r0 * r.r1 ≤ 65536
layer_max r c s h = (terms r c s h).r01

less : (a n : ℕ) → 0 < a → n ≤ a * n
less zero n h = absurd (never h)
  where
    never : 0 < 0 → ⊥
    never h = omega arith
less (suc a) n h = omega (arith, suc-mul a n)

-- what a step takes off is in the number
pub takes_less : (r : Axes) (c : Cell) (w : Way) → 0 < room r w c → (n : ℕ) → n ≡ num r c → takes_off r w ≤ n
takes_less r c up_k h n e = omega arith
takes_less r c down_k h n e = omega (arith, less c.k (r.r0 * r.r1) h, e)
takes_less r c up_j h n e = omega arith
takes_less r c down_j h n e = omega (arith, less c.j r.r0 h, e)
takes_less r c up_i h n e = omega arith
takes_less r c down_i h n e = omega (arith, h, e)

-- ---- looks

module _ (r : Axes) (l : List ℕ) (c : Cell) (d : ℕ) where
  pub sees_there : (m : ℕ) → 0 < room r (way_of d) c → m ≡ num r (beside (way_of d) c) → Sees r l c d (record { label = get_or l m 0; n = m; edge = false })
  sees_there m h e = record { label = λ _. ap (λ (x : ℕ). get_or l x 0) e; number = λ _. e; none = λ z. absurd (never (room r (way_of d) c) h z); edge = λ z. absurd (true_false z refl) }
    where
      never : (n : ℕ) → 0 < n → n ≡ 0 → ⊥
      never n h z = omega arith

  pub sees_edge : (n : ℕ) → (0 < room r (way_of d) c → ⊥) → Sees r l c d (record { label = 9; n = n; edge = true })
  sees_edge n z = record { label = λ h. absurd (z h); number = λ h. absurd (z h); none = λ _. refl; edge = λ _. nothing (room r (way_of d) c) z }
    where
      nothing : (n : ℕ) → (0 < n → ⊥) → n ≡ 0
      nothing n z = omega arith

  -- a label that is none of the edge's is a neighbour's
  pub seen_room : (a : Seen) → Sees r l c d a → (a.label ≡ 9 → ⊥) → 0 < room r (way_of d) c
  seen_room a s z = some (room r (way_of d) c) (λ e. z (s.none e))
    where
      some : (n : ℕ) → (n ≡ 0 → ⊥) → 0 < n
      some n z = omega arith
