-- The rows of the table that fill a map, scan by scan, by computation. Assumes nothing.
use mathlib.Core.Path.{◌≡◌, refl}
use mathlib.Core.Bool.{Bool, true, false}
use mathlib.Core.List.{List, ◌∷◌, ◌++◌}
use Prim.Native.Nat.{ℕ}
use lib.ListN.{replicate}
use Rattle.grid.specs.declared.Axes.{Axes}
use Rattle.grid.specs.Counts.{count}
use Rattle.grid.specs.First.{first_not}
use Rattle.grid.specs.Grid.{first_ones}
use Rattle.fill_walks.specs.declared.Phase.{Phase}
use Rattle.fill_walks.specs.Scan.{walked_for, walked_over, visited, in_turn, scanned}
use Rattle.fill_walks.specs.Run.{done, more}
use Rattle.fill.specs.declared.Mode.TheVariants.{Flood, Cavities}
use Rattle.fill.specs.Phases.{outward, phase_of, last, again}
use Rattle.test_samples.specs.Table.{Holds, filling, axes, counts, box, cube}

-- one scan, as it computes
abbrev Leaves : Phase → Axes → List ℕ → List ℕ → ℕ → Type 0
Leaves p r l m w = scanned p r l ≡ record { labels = m; walked = w }

-- ---- 3 by 3 by 3, two cells marked

abbrev seeds_3 : List ℕ
seeds_3 = 8 ∷ 8 ∷ replicate 11 1 ++ 0 ∷ replicate 13 1

marked_1 : Leaves (outward 8) (axes 3 3 3) seeds_3 (8 ∷ 8 ∷ replicate 25 6) 25
unfolding visited in_turn walked_over walked_for
marked_1 = refl

marked_2 : Leaves (outward 8) (axes 3 3 3) (8 ∷ 8 ∷ replicate 25 6) (8 ∷ 8 ∷ replicate 25 6) 0
unfolding visited in_turn walked_over walked_for
marked_2 = refl

pub marked_filled : Holds (filling (axes 3 3 3) Flood (8 ∷ 8 ∷ replicate 25 0) (counts 2 0) (8 ∷ 8 ∷ replicate 25 6) 25 0)
unfolding first_not first_ones count
marked_filled = (record { scanned = record { ended = 8 ∷ 8 ∷ replicate 25 6; phase = more {w = 24} marked_1 (done marked_2); labels = refl }; counted = refl }, refl, refl)

-- ---- 3 by 3 by 3, all but the centre marked

box_out : (mark : ℕ) → Leaves (outward mark) (axes 3 3 3) (box 8 0) (box 8 0) 0
unfolding visited in_turn walked_over walked_for
box_out mark = refl

box_in : Leaves (phase_of true) (axes 3 3 3) (box 8 0) (box 8 0) 0
unfolding visited in_turn walked_over walked_for
box_in = refl

pub box_flood : Holds (filling (axes 3 3 3) Flood (box 8 0) (counts 1 0) (box 8 7) 0 1)
unfolding first_not first_ones count
box_flood = (record { scanned = record { ended = box 8 0; phase = done (box_out 8); labels = refl }; counted = refl }, refl, refl)

pub box_cavities : Holds (filling (axes 3 3 3) Cavities (box 8 0) (counts 2 1) (box 8 0) 0 0)
unfolding first_not first_ones count
box_cavities = (
  record {
    scanned = record { walked = box 8 0; ended = box 8 0; first = 1; later = 1; phase = done (box_out 4); alternate = last (done box_in); labels = refl; both = refl };
    counted = refl;
  },
  refl,
  refl,
)

-- ---- 5 by 5 by 5, the 26 cells about the centre marked

-- the first phase: a scan that walks the 98, and one that walks none; the walls take its surface label
cube_1 : Leaves (outward 8) (axes 5 5 5) (cube 1 8 0) (cube 6 8 0) 98
unfolding visited in_turn walked_over walked_for
cube_1 = refl

cube_2 : Leaves (outward 8) (axes 5 5 5) (cube 6 8 0) (cube 6 8 0) 0
unfolding visited in_turn walked_over walked_for
cube_2 = refl

hull_1 : Leaves (outward 4) (axes 5 5 5) (cube 1 8 0) (cube 6 4 0) 98
unfolding visited in_turn walked_over walked_for
hull_1 = refl

hull_2 : Leaves (outward 4) (axes 5 5 5) (cube 6 4 0) (cube 6 4 0) 0
unfolding visited in_turn walked_over walked_for
hull_2 = refl

-- inward: the walls walk, and the centre is walked; then none. Outward: none
hull_3 : Leaves (phase_of true) (axes 5 5 5) (cube 6 4 0) (cube 6 4 7) 1
unfolding visited in_turn walked_over walked_for
hull_3 = refl

hull_4 : (inward : Bool) → Leaves (phase_of inward) (axes 5 5 5) (cube 6 4 7) (cube 6 4 7) 0
unfolding visited in_turn walked_over walked_for
hull_4 true = refl
hull_4 false = refl

pub cube_flood : Holds (filling (axes 5 5 5) Flood (cube 0 8 0) (counts 2 0) (cube 6 8 7) 98 1)
unfolding first_not first_ones count
cube_flood = (record { scanned = record { ended = cube 6 8 0; phase = more {m = cube 6 8 0} {w = 97} cube_1 (done cube_2); labels = refl }; counted = refl }, refl, refl)

pub cube_cavities : Holds (filling (axes 5 5 5) Cavities (cube 0 8 0) (counts 5 0) (cube 6 8 7) 98 1)
unfolding first_not first_ones count
cube_cavities = (
  record {
    scanned = record {
      walked = cube 6 4 0;
      ended = cube 6 4 7;
      first = 2;
      later = 3;
      phase = more {m = cube 6 4 0} {w = 97} hull_1 (done hull_2);
      alternate = again {m = cube 6 4 7} {k = 0} {n = 1} (more {m = cube 6 4 7} {w = 0} hull_3 (done (hull_4 true))) (last (done (hull_4 false)));
      labels = refl;
      both = refl;
    };
    counted = refl;
  },
  refl,
  refl,
)
