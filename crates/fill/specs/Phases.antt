-- 01, Fill: the phases and the last step of each mode, after the seeding, which is that of the crate `fill_seeds`. Definitions only.
--
-- "Labels by order in V's enum: 0 Undefined, 1 outside-to-walk, 2 inside-to-walk, 3 no-walk, 4 surface-walk-1, 5 surface-walk-2, 6 Outside, 7 Inside, 8 surface."
use Rattle.std.specs.Prelude.{Bool, true, false, not, cond, ◌≡◌, Some, None, List, map, ℕ, suc, ◌+◌, eqb}
use Rattle.grid.specs.declared.Axes.{Axes}
use Rattle.grid.specs.Passes.{becomes}
use Rattle.grid.specs.Labels.{UNDEFINED, OUTSIDE_TO_WALK, INSIDE_TO_WALK, NO_WALK, SURFACE_WALK_1, SURFACE_WALK_2, OUTSIDE, INSIDE, SURFACE}
use Rattle.fill_walks.specs.declared.Phase.{Phase}
use Rattle.fill_walks.specs.Run.{Run}
pub use Rattle.fill_seeds.specs.Seeds.{seed_of, seeded}

-- ---- the phases

-- the first phase: "1 to 6, no walkers", and the label that it gives a surface
abbrev pub outward : ℕ → Phase
outward mark = record { pass = UNDEFINED; todo = OUTSIDE_TO_WALK; done = OUTSIDE; walkers = None; mark = mark }

-- "phase (2 to 7, walkers 4, mark 5) and phase (1 to 6, walkers 5, mark 4)": inward, and outward again
abbrev pub phase_of : Bool → Phase
phase_of true = record { pass = UNDEFINED; todo = INSIDE_TO_WALK; done = INSIDE; walkers = Some SURFACE_WALK_1; mark = SURFACE_WALK_2 }
phase_of false = record { pass = UNDEFINED; todo = OUTSIDE_TO_WALK; done = OUTSIDE; walkers = Some SURFACE_WALK_2; mark = SURFACE_WALK_1 }

-- "in turn ... until one has walked none in all its scans": a phase that walked none is one scan long, since a scan that walked some is not its last
pub data Alternate (r : Axes) : Bool → List ℕ → List ℕ → ℕ → Type 0 where
  last : {b : Bool} {l e : List ℕ} → Run (phase_of b) r l e 1 → Alternate r b l e 1
  again : {b : Bool} {l m e : List ℕ} {k n : ℕ} → Run (phase_of b) r l m (suc (suc k)) → Alternate r (not b) m e n → Alternate r b l e (suc (suc k) + n)

-- ---- the modes: from the labels before, the labels after and the scans

-- "Surface-only is no fill: it makes every non-8 label 6 in 0 scans"
abbrev pub surface_only : ℕ → ℕ
surface_only v = cond (eqb v SURFACE) SURFACE OUTSIDE

-- "Without cavities: one phase (1 to 6, no walkers, surface stays 8), then 0 becomes 7"
pub record FloodRun (r : Axes) (before after : List ℕ) (scans : ℕ) : Type 0 where
  pub ended : List ℕ
  pub phase : Run (outward SURFACE) r (seeded r before) ended scans
  pub labels : after ≡ map (becomes UNDEFINED UNDEFINED INSIDE) ended

-- "With cavities: phase 1 to 6 with mark 4; then in turn phase (2 to 7 ...) and phase (1 to 6 ...) ...; last 3, 4, 5 become 8"
pub record CavityRun (r : Axes) (before after : List ℕ) (scans : ℕ) : Type 0 where
  pub walked : List ℕ
  pub ended : List ℕ
  pub first : ℕ
  pub later : ℕ
  pub phase : Run (outward SURFACE_WALK_1) r (seeded r before) walked first
  pub alternate : Alternate r true walked ended later
  pub labels : after ≡ map (becomes NO_WALK SURFACE_WALK_2 SURFACE) ended
  pub both : scans ≡ first + later
