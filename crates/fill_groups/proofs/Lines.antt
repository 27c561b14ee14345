-- Laws of the line along an axis through a cell (specs/Groups.antt): where its cells' numbers lie, which cells lie near on it, and that the table covers all that may act after walks along it. Assumes nothing.
use mathlib.Core.Logic.{inl, inr}
use mathlib.Core.Path.{◌≡◌, sym, ap, subst}
use mathlib.Core.List.{List}
use Prim.Native.Nat.{ℕ, ◌+◌, ◌*◌, ◌-◌, ◌≤◌, ◌<◌}
use native.Mathlib.Nat.{add-mul}
use native.Mathlib.Omega.{arith}
use Rattle.grid.specs.declared.Axes.{Axes}
use Rattle.grid.specs.declared.Cell.{Cell}
use Rattle.grid.specs.Grid.{num, cells, InGrid}
use Rattle.grid.proofs.Cells.{num_inj, num_lt}
use Rattle.fill_walks.specs.declared.Phase.{Phase}
use Rattle.fill_walks.specs.Rays.{LineFits}
use Rattle.fill_walks.specs.Quiet.{Clear, on, Near, Swept}
use Rattle.fill_groups.specs.declared.Axis.{Axis}
use Rattle.fill_groups.specs.declared.Axis.TheVariants.{I, J, K}
use Rattle.fill_groups.specs.Groups.{place_of, moved, coordinate, extent, stride, Up, Raises, Covers}
use Rattle.fill_groups.proofs.Cover.{covers_swept, up_at, back}

moved_in : (a : Axis) (r : Axes) (c : Cell) (x : ℕ) → InGrid r c → x < extent a r → InGrid r (moved a c x)
moved_in I r c x h g = record { i_in = g; j_in = h.j_in; k_in = h.k_in }
moved_in J r c x h g = record { i_in = h.i_in; j_in = g; k_in = h.k_in }
moved_in K r c x h g = record { i_in = h.i_in; j_in = h.j_in; k_in = g }

moved_num : (a : Axis) (r : Axes) (c : Cell) (x : ℕ) → num r (moved a c x) + coordinate a c * stride a r ≡ num r c + x * stride a r
moved_num I r c x = omega arith
moved_num J r c x = omega arith
moved_num K r c x = omega arith

coordinate_in : (a : Axis) (r : Axes) (c : Cell) → InGrid r c → coordinate a c < extent a r
coordinate_in I r c h = h.i_in
coordinate_in J r c h = h.j_in
coordinate_in K r c h = h.k_in

stride_most : (a : Axis) (r : Axes) → r.r0 ≤ 65536 → r.r0 * r.r1 ≤ 65536 → stride a r ≤ 65536
stride_most I r f g = omega arith
stride_most J r f g = f
stride_most K r f g = g

-- the line is within the labels
pub span_line : (a : Axis) (r : Axes) (c : Cell) → InGrid r c → (q : ℕ) → q ≡ num r c → (len : ℕ) → len ≡ cells r → r.r0 ≤ 65536 → r.r0 * r.r1 ≤ 65536 → LineFits q (stride a r) (coordinate a c) (extent a r) len
span_line a r c h q e len n f g =
    let at : ℕ = coordinate a c in
    let inside = coordinate_in a r c h in
    let rest : ℕ = extent a r - (at + 1) in
    record {
      step = stride_most a r f g;
      inside = inside;
      low = omega (arith, moved_num a r c 0);
      high = omega (arith, e, n, moved_num a r c (at + rest), add-mul at rest (stride a r), num_lt r (moved a c (at + rest)) (moved_in a r c (at + rest) h (omega arith)));
    }

-- d is the line's cell at a place from low to high
data OnLine (a : Axis) (c : Cell) (low high : ℕ) (d : Cell) : Type 0 where
  at_place : (x : ℕ) → low ≤ x → x ≤ high → d ≡ moved a c x → OnLine a c low high d

module _ (a : Axis) (r : Axes) (c : Cell) (h : InGrid r c) (up down : ℕ) where
  near_line : coordinate a c + up < extent a r → down ≤ coordinate a c → (d : Cell) → InGrid r d → Near (num r c) (stride a r) up down (num r d)
      → OnLine a c (coordinate a c - down) (coordinate a c + up) d
  near_line f g d i (inl (on s b e)) =
      let x : ℕ = coordinate a c + s in
      at_place x (omega arith) (omega arith) (num_inj r d (moved a c x) i (moved_in a r c x h (omega arith)) (omega (arith, e, moved_num a r c x, add-mul (coordinate a c) s (stride a r))))
  near_line f g d i (inr (on s b e)) =
      let x : ℕ = coordinate a c - s in
      at_place x (omega arith) (omega arith) (num_inj r d (moved a c x) i (moved_in a r c x h (omega arith)) (omega (arith, e, moved_num a r c x, back (coordinate a c) s (stride a r) (omega arith))))

-- after walks up and down a line, where the groups between their ends were raised
pub covers_line : (p : Phase) → Clear p → (a : Axis) (r : Axes) (c : Cell) → InGrid r c → (q : ℕ) → q ≡ num r c → (up down : ℕ) (l m t u : List ℕ)
    → Swept p q (stride a r) up down l m → coordinate a c + up < extent a r → down ≤ coordinate a c → Raises t u
    → ((x : ℕ) → coordinate a c - down ≤ x → x ≤ coordinate a c + up → Up u (place_of (moved a c x))) → Covers p r l t → Covers p r m u
covers_line p k a r c h q e up down l m t u w f g s z v =
    covers_swept p k r (num r c) (stride a r) up down l m t u (subst (λ (x : ℕ). Swept p x (stride a r) up down l m) e w) s (λ d i n. go d (near_line a r c h up down f g d i n)) v
  where
    go : (d : Cell) → OnLine a c (coordinate a c - down) (coordinate a c + up) d → Up u (place_of d)
    go d (at_place x b y n) = up_at u (place_of (moved a c x)) (place_of d) (sym (ap place_of n)) (z x b y)
