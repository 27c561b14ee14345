-- 01, Sizing and placement, of the list of the points' numbers, three to a point. Each operation on floats is IEEE 754's on an f32, rounded once, in the order given. Definitions only.
use Rattle.std.specs.Prelude.{ℕ, zero, suc, ◌+◌, ◌-◌, ◌*◌, ◌/◌, ◌^◌, ◌≤◌, ◌<◌, Bool, true, false, not, cond, ◌&&◌, ◌||◌, ◌≡◌, List, length, get_or, leb, ltb, eqb, pos, negsuc, Float, Ok, Err}
use Rattle.std.specs.Float.{nan, fin, binary32}
use Rattle.std.specs.Float.Ieee.{lt, le, sub, mul, div, of_int}
use Rattle.numbers.specs.Rounding.{Whole}
use Rattle.numbers.specs.Rounding.{ceil_of, trunc_of}
use Rattle.grid.specs.declared.Axes.{Axes}
use Rattle.grid.specs.declared.Placement.{Placement}
use Rattle.grid.specs.Answers.{Outcome, fault_if, ◌and_then◌, Checked}
use Rattle.grid.specs.Checks.{axes_fault}
use Rattle.sizing.specs.declared.Point.{Point}
pub use Rattle.grid.specs.declared.Laid.{Laid}
use Rattle.sizing.specs.declared.Span.{Span}
use Rattle.sizing.specs.declared.Spans.{Spans}
use Rattle.sizing.specs.Points.{points_fault}
use Rattle.grid.specs.declared.Reason.TheVariants.{BadSize, BadResolution, NoExtent}

-- ---- the answer

-- ---- the points

-- how many points there are, and coordinate a of point i: 0 for x, 1 for y, 2 for z
abbrev pub points : List Float → ℕ
points ps = length ps / 3

abbrev pub coord : List Float → ℕ → ℕ → Float
coord ps a i = get_or ps (3 * i + a) nan

abbrev pub point_at : List Float → ℕ → Point
point_at ps i = record { x = coord ps 0 i; y = coord ps 1 i; z = coord ps 2 i }

-- "Origin is the smallest x, y and z; of equal values the earliest point's bits." What that means of a coordinate
pub record Smallest (ps : List Float) (a : ℕ) (v : Float) : Type 0 where
  pub point : ℕ
  pub is_point : point < points ps
  pub value : v ≡ coord ps a point
  pub earliest : (j : ℕ) → j < point → lt v (coord ps a j) ≡ true
  pub least : (j : ℕ) → j < points ps → le v (coord ps a j) ≡ true

-- the greatest, for the extents
pub record Greatest (ps : List Float) (a : ℕ) (v : Float) : Type 0 where
  pub point : ℕ
  pub is_point : point < points ps
  pub value : v ≡ coord ps a point
  pub most : (j : ℕ) → j < points ps → le (coord ps a j) v ≡ true

-- how they are found: of an earlier a and a later b the lower and the upper, of equal ones a
abbrev pub lower : Float → Float → Float
lower a b = cond (lt b a) b a

abbrev pub upper : Float → Float → Float
upper a b = cond (lt a b) b a

-- a span and one number more; of a single point; and of the points 0 to n, one after the other
abbrev pub span_with : Span → Float → Span
span_with s p = record { lo = lower s.lo p; hi = upper s.hi p }

abbrev pub spans_with : Spans → Point → Spans
spans_with s p = record { x = span_with s.x p.x; y = span_with s.y p.y; z = span_with s.z p.z }

abbrev pub spans_at : Point → Spans
spans_at p = record { x = record { lo = p.x; hi = p.x }; y = record { lo = p.y; hi = p.y }; z = record { lo = p.z; hi = p.z } }

unfoldable pub spans_to : List Float → ℕ → Spans
spans_to ps zero = spans_at (point_at ps 0)
spans_to ps (suc n) = spans_with (spans_to ps n) (point_at ps (suc n))

-- the smallest and the greatest of each coordinate
abbrev pub spans_of : List Float → Spans
spans_of ps = spans_to ps (points ps - 1)

-- max - min
abbrev pub extent : Span → Float
extent s = sub binary32 s.hi s.lo

-- ---- "Placement: origin, scale and its reciprocal travel together."

abbrev pub placed_at : Spans → Float → Placement
placed_at s scale =
    record { x = s.x.lo; y = s.y.lo; z = s.z.lo; scale = scale; reciprocal = div binary32 (fin false 1 (pos 0)) scale }

-- ---- "By cell size: axis = max(ceil((max - min) / size), 2) + 1; scale = size."

-- 2 ^ -10 and 2 ^ 20
abbrev pub least_size : Float
least_size = fin false 1 (negsuc 9)

abbrev pub greatest_size : Float
greatest_size = fin false 1 (pos 20)

-- "5: cell size not within 2^-10 to 2^20, ends included"
abbrev pub size_fault : Float → Checked
size_fault size = fault_if (not (le least_size size && le size greatest_size)) BadSize 0 (Ok tt)

abbrev pub larger : ℕ → ℕ → ℕ
larger a b = cond (leb a b) b a

-- a rounded quotient as a count. After the checks it is a whole number not below 0 (`size_counts`, `resolution_counts` in proofs/Ranges.antt); for the rest, one below 0 is 0, as the crate's cast has it, and one that is too large, or none, is more than any axis has
unfoldable pub natural : Whole → ℕ
natural (Ok (pos n)) = n
natural (Ok (negsuc n)) = 0
natural (Err e) = 257

-- the same as a promise: the count, which leaves room for two more
pub record CountsAs (w : Whole) (r : ℕ) : Type 0 where
  pub is : r ≡ natural w
  pub room : r ≤ 2 ^ 63

abbrev pub axis_by_size : Span → Float → ℕ
axis_by_size s size = larger (natural (ceil_of (div binary32 (extent s) size))) 2 + 1

abbrev pub size_axes : Spans → Float → Axes
size_axes s size = record { r0 = axis_by_size s.x size; r1 = axis_by_size s.y size; r2 = axis_by_size s.z size }

-- a grid of these axes at this place, if no axis is at fault
abbrev pub grid_of : Axes → Placement → Outcome Laid
grid_of a p = axes_fault a and_then Ok (record { axes = a; placement = p })

abbrev pub size_grid : Spans → Float → Outcome Laid
size_grid s size = grid_of (size_axes s size) (placed_at s size)

-- the whole call: 1, 2, 3, 5, 8
abbrev pub by_size : List Float → Float → Outcome Laid
by_size ps size = (points_fault ps and_then size_fault size) and_then size_grid (spans_of ps) size

-- ---- "By resolution R, with extents d"

-- "6: resolution under 2 or over 254"
abbrev pub resolution_fault : ℕ → Checked
resolution_fault r = fault_if (ltb r 2 || ltb 254 r) BadResolution 0 (Ok tt)

abbrev pub tops : Float → Float → Float → Bool
tops a b c = le b a && le c a

-- "the main axis is x if dx >= dy and dx >= dz; else y if dy >= dx and dy >= dz; else z"
abbrev pub main_axis : Float → Float → Float → ℕ
main_axis dx dy dz = cond (tops dx dy dz) 0 (cond (tops dy dx dz) 1 2)

-- the extent of axis m
abbrev pub extent_at : ℕ → Float → Float → Float → Float
extent_at m dx dy dz = cond (eqb m 0) dx (cond (eqb m 1) dy dz)

-- "7: resolution way: largest extent under 2^-10", which is the main axis's (`main_largest` in proofs/Ranges.antt)
abbrev pub least_extent : Float
least_extent = fin false 1 (negsuc 9)

abbrev pub extent_fault : Float → Checked
extent_fault dmain = fault_if (lt dmain least_extent) NoExtent 0 (Ok tt)

-- a count as an f32
abbrev pub as_float : ℕ → Float
as_float r = of_int binary32 (pos r)

-- "Main axis R; each other axis 2 + trunc((R * d) / dmain)."
abbrev pub axis_by_resolution : ℕ → ℕ → ℕ → Float → Float → ℕ
axis_by_resolution r m a d dmain = cond (eqb m a) r (2 + natural (trunc_of (div binary32 (mul binary32 (as_float r) d) dmain)))

-- the main axis of some spans, and its extent
abbrev pub main_of : Spans → ℕ
main_of s = main_axis (extent s.x) (extent s.y) (extent s.z)

abbrev pub dmain_of : Spans → Float
dmain_of s = extent_at (main_of s) (extent s.x) (extent s.y) (extent s.z)

abbrev pub resolution_axes : Spans → ℕ → Axes
resolution_axes s r =
    record {
      r0 = axis_by_resolution r (main_of s) 0 (extent s.x) (dmain_of s);
      r1 = axis_by_resolution r (main_of s) 1 (extent s.y) (dmain_of s);
      r2 = axis_by_resolution r (main_of s) 2 (extent s.z) (dmain_of s);
    }

-- "scale = dmain / (R - 1)"
abbrev pub resolution_scale : Spans → ℕ → Float
resolution_scale s r = div binary32 (dmain_of s) (as_float (r - 1))

abbrev pub resolution_grid : Spans → ℕ → Outcome Laid
resolution_grid s r = extent_fault (dmain_of s) and_then grid_of (resolution_axes s r) (placed_at s (resolution_scale s r))

-- the whole call: 1, 2, 3, 6, 7; and 8, which proofs/Ranges.antt shows never to happen
abbrev pub by_resolution : List Float → ℕ → Outcome Laid
by_resolution ps r = (points_fault ps and_then resolution_fault r) and_then resolution_grid (spans_of ps) r
