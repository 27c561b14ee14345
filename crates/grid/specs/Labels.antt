-- 01, Fill: "Labels by order in V's enum: 0 Undefined, 1 outside-to-walk, 2 inside-to-walk, 3 no-walk, 4 surface-walk-1, 5 surface-walk-2, 6 Outside, 7 Inside, 8 surface." Definitions only.
use Rattle.std.specs.Prelude.{ℕ}

abbrev pub UNDEFINED : ℕ
UNDEFINED = 0

abbrev pub OUTSIDE_TO_WALK : ℕ
OUTSIDE_TO_WALK = 1

abbrev pub INSIDE_TO_WALK : ℕ
INSIDE_TO_WALK = 2

abbrev pub NO_WALK : ℕ
NO_WALK = 3

abbrev pub SURFACE_WALK_1 : ℕ
SURFACE_WALK_1 = 4

abbrev pub SURFACE_WALK_2 : ℕ
SURFACE_WALK_2 = 5

abbrev pub OUTSIDE : ℕ
OUTSIDE = 6

abbrev pub INSIDE : ℕ
INSIDE = 7

abbrev pub SURFACE : ℕ
SURFACE = 8
