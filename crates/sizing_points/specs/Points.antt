-- The refusals 1, 2 and 3 of lent points, as 01's table has them. Points are f32 triples, one number after the other. Definitions only.
use Rattle.std.specs.Prelude.{ℕ, ◌+◌, ◌*◌, ◌/◌, ◌%◌, ◌^◌, Bool, false, not, ◌||◌, List, leb, ltb, eqb, length, Float, Ok}
use Rattle.std.specs.Float.{nan, inf, fin}
use Rattle.std.specs.Float.Ieee.{up, down}
use Rattle.grid.specs.Answers.{fault_if, ◌and_then◌, Checked}
use Rattle.grid.specs.Checks.{first_fault}
use Rattle.grid.specs.declared.Reason.TheVariants.{BadCount, NoPoints, BadNumber}

-- "1: a point or triangle length is not a multiple of 3, or more than 65,536 of either"
abbrev pub length_fault : ℕ → Checked
length_fault n = fault_if (not (eqb (n % 3) 0) || ltb 65536 (n / 3)) BadCount 0 (Ok tt)

-- "2: no points"
abbrev pub none_fault : ℕ → Checked
none_fault n = fault_if (eqb n 0) NoPoints 0 (Ok tt)

-- neither NaN nor infinite, and at most 2 ^ k in magnitude
unfoldable pub bounded : ℕ → Float → Bool
bounded k nan = false
bounded k (inf s) = false
bounded k (fin s m e) = leb (m * up e) (2 ^ k * down e)

-- "3: a point or origin number is NaN, infinite, or over 2^20 in magnitude"; "the index of the f32", after those that are numbered `before` the points
abbrev pub numbers_fault : ℕ → List Float → Checked
numbers_fault before ps = first_fault BadNumber (λ n. before + n) (bounded 20) ps

-- the refusals of points that no other number goes before
abbrev pub points_fault : List Float → Checked
points_fault ps = length_fault (length ps) and_then (none_fault (length ps) and_then numbers_fault 0 ps)
