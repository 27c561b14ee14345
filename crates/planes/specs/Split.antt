-- 01, List, classes, planes, boxes: points split by a plane. Definitions only.
use Rattle.std.specs.Prelude.{Bool, true, not, List, [], ◌∷◌, ◌≡◌, ℕ, ◌*◌, ◌<◌, ℤ, pos, ◌+ℤ◌, length, get_or, Float, Ok}
use Rattle.std.specs.Int.Signed.{lt_z}
use Rattle.std.specs.Float.{nan, inf, fin}
use Rattle.std.specs.Float.Ieee.{up, down}
use Rattle.grid.specs.Answers.{Outcome, fault_if, ◌and_then◌, lent_after, Checked}
use Rattle.numbers.specs.Rounding.{signed}
use Rattle.sizing.specs.Points.{bounded, length_fault, numbers_fault}
use Rattle.sizing.specs.Sizing.{points, coord}
use Rattle.order.specs.Order.{chosen, join_all}
use Rattle.order.specs.Output.{room_fault, over}
use Rattle.planes.specs.declared.Side.{Side}
use Rattle.planes.specs.declared.Side.TheVariants.{First, Second}
use Rattle.planes.specs.declared.Sides.{Sides}
use Rattle.planes.specs.Planes.{axis_fault}
use Rattle.grid.specs.declared.Reason.TheVariants.{BadNumber}

-- 01, Form by location: "plane side sign is exact". p + d as it is, not rounded, for finite p = ±m 2^e and d = ±n 2^g: a whole number of 1 / (down e * down g), where up e / down e is 2^e
unfoldable pub exact_sum : Float → Float → ℤ
exact_sum (fin s m e) (fin t n g) = signed s (m * up e * down g) +ℤ signed t (n * up g * down e)
exact_sum (fin s m e) nan = pos 0
exact_sum (fin s m e) (inf t) = pos 0
exact_sum nan d = pos 0
exact_sum (inf s) d = pos 0

-- "a point with p + d above 0 goes to the first output, below 0 to the second, 0 to both": to the first unless it is below, to the second unless it is above
unfoldable pub goes_to : Side → Float → Float → Bool
goes_to First p d = not (lt_z (exact_sum p d) (pos 0))
goes_to Second p d = not (lt_z (pos 0) (exact_sum p d))

-- the three numbers of point v
abbrev pub point_of : List Float → ℕ → List Float
point_of ps v = coord ps 0 v ∷ coord ps 1 v ∷ coord ps 2 v ∷ []

-- the points that go to a side, in their order; how many; and their numbers
abbrev pub split_points : Side → List Float → ℕ → Float → List ℕ
split_points side ps axis d = chosen (λ v. goes_to side (coord ps axis v) d) (points ps)

abbrev pub split_count : Side → List Float → ℕ → Float → ℕ
split_count side ps axis d = length (split_points side ps axis d)

abbrev pub split_to : Side → List Float → ℕ → Float → List Float
split_to side ps axis d = join_all (point_of ps) (split_points side ps axis d)

-- "3: .. a plane's d likewise, but over 2^30"; "a lent origin or d is numbered before them"
abbrev pub d_fault : Float → Checked
d_fault d = fault_if (not (bounded 30 d)) BadNumber 0 (Ok tt)

-- 14 of the two outputs, of lengths m and n, to which a and b points go
abbrev pub rooms_fault : ℕ → ℕ → ℕ → ℕ → Checked
rooms_fault a b m n = room_fault m (3 * a) and_then room_fault n (3 * b)

-- the whole call: 1, 3 and 12, then 14
abbrev pub split_fault : List Float → ℕ → Float → Checked
split_fault ps axis d = length_fault (length ps) and_then d_fault d and_then numbers_fault 1 ps and_then axis_fault axis

abbrev pub all_split_fault : List Float → ℕ → Float → ℕ → ℕ → Checked
all_split_fault ps axis d m n = split_fault ps axis d and_then rooms_fault (split_count First ps axis d) (split_count Second ps axis d) m n

abbrev pub split_answer : List Float → ℕ → Float → List Float → List Float → Outcome Sides
split_answer ps axis d above below =
    all_split_fault ps axis d (length above) (length below) and_then Ok (record { first = split_count First ps axis d; second = split_count Second ps axis d })

-- the output o of a side, where the two are `above` and `below`
abbrev pub split_buffer : Side → List Float → ℕ → Float → List Float → List Float → List Float → List Float
split_buffer side ps axis d o above below = lent_after (all_split_fault ps axis d (length above) (length below)) o (over (split_to side ps axis d) o)

-- points and a d that pass 3
pub record Bounded (ps : List Float) (d : Float) : Type 0 where
  pub each : (n : ℕ) → n < length ps → bounded 20 (get_or ps n nan) ≡ true
  pub plane : bounded 30 d ≡ true
  pub few : points ps < 65537
