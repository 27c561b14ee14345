-- What the contracts of `planes_about` and `split_points` say: their numbers, that a refusal leaves what is lent, that two results coincide, and what the planes and sides mean. Assumes nothing.
use Rattle.grid.specs.declared.Refusal.{Refusal}
use Rattle.planes.specs.declared.Sides.{Sides}
use Rattle.planes.specs.declared.Planes.{Planes}
use Rattle.std.specs.Prelude.{Ok, Err}
use mathlib.Core.Bool.{true, false, not, ◌&&◌, ◌||◌, true≢false}
use mathlib.Core.List.{List, [], ◌∷◌}
use mathlib.Core.Path.{◌≡◌, refl, sym, ap, ◌∙◌}
use Prim.Native.Nat.{ℕ, ◌+◌, ◌*◌, ◌/◌, ◌%◌, ◌<◌}
use native.Mathlib.Omega.{arith}
use lib.Dec.{T, eqb, ltb}
use lib.IntN.{ℤ, pos, negsuc}
use lib.Signed.{lt_z}
use lib.ListN.{length, get_or}
use lib.Ieee.{Float, nan, fin, binary32, le, eq, div}
use borrow.Author.Tests.{le-ltb}
use Rattle.grid.specs.declared.Placement.{Placement}
use Rattle.grid.specs.Answers.{Outcome, is_one_of, Finds, Gives}
use Rattle.grid.proofs.Checks.{finds_if, finds_then, finds_first, gives_then, refused_same}
use Rattle.sizing.specs.Points.{bounded, length_fault, numbers_fault}
use Rattle.marking_mesh.specs.Faults.{origin_fault, least_scale, greatest_scale, lent_fault}
use Rattle.order.specs.Output.{room_fault}
use Rattle.order.proofs.Outputs.{finds_room}
use Rattle.planes.specs.declared.Side.TheVariants.{First, Second}
use Rattle.planes.specs.Planes.{axis_fault, out_of_range, plane_count, plane_at, planes_of, planes_fault, all_planes_fault, planes_answer, planes_buffer}
use Rattle.planes.specs.Split.{exact_sum, goes_to, split_count, d_fault, split_fault, all_split_fault, split_answer, split_buffer}
use Rattle.planes_range.proofs.Ranges.{planes_length, planes_at}
use Rattle.grid.specs.declared.Reason.TheVariants.{BadCount, BadNumber, BadSize, OutOfRange}

-- ---- which numbers the calls give

finds_axis : (ns : List ℕ) (axis : ℕ) → T (is_one_of 12 ns) → Finds ns (axis_fault axis)
finds_axis ns axis h = finds_if ns (ltb 2 axis) OutOfRange 0 (Ok tt) h tt

pub planes_numbers : (placement : Placement) (axis low high best step : ℕ) (o : List Float) → Gives (3 ∷ 5 ∷ 12 ∷ 14 ∷ []) (planes_answer placement axis low high best step o)
planes_numbers placement axis low high best step o = gives_then ns (all_planes_fault placement axis low high best step (length o)) _ all (λ f. tt)
  where
    ns : List ℕ
    ns = 3 ∷ 5 ∷ 12 ∷ 14 ∷ []

    lent : Finds ns (lent_fault placement)
    lent = finds_if ns (not (le least_scale placement.scale && le placement.scale greatest_scale && eq placement.reciprocal (div binary32 (fin false 1 (pos 0)) placement.scale))) BadSize 0 (Ok tt) tt tt

    before : Finds ns (planes_fault placement axis low high best step)
    before =
        finds_then ns (origin_fault placement) _ (finds_first ns BadNumber (λ n. 0 + n) (bounded 20) (placement.x ∷ placement.y ∷ placement.z ∷ []) tt)
        (finds_then ns (lent_fault placement) _ lent
        (finds_then ns (axis_fault axis) _ (finds_axis ns axis tt) (finds_if ns (out_of_range low high best step) OutOfRange 0 (Ok tt) tt tt)))

    all : Finds ns (all_planes_fault placement axis low high best step (length o))
    all = finds_then ns (planes_fault placement axis low high best step) _ before (finds_room ns (length o) (plane_count low high best step) tt)

pub split_numbers : (ps : List Float) (axis : ℕ) (d : Float) (above below : List Float) → Gives (1 ∷ 3 ∷ 12 ∷ 14 ∷ []) (split_answer ps axis d above below)
split_numbers ps axis d above below = gives_then ns (all_split_fault ps axis d (length above) (length below)) _ all (λ f. tt)
  where
    ns : List ℕ
    ns = 1 ∷ 3 ∷ 12 ∷ 14 ∷ []

    before : Finds ns (split_fault ps axis d)
    before =
        finds_then ns (length_fault (length ps)) _ (finds_if ns (not (eqb (length ps % 3) 0) || ltb 65536 (length ps / 3)) BadCount 0 (Ok tt) tt tt)
        (finds_then ns (d_fault d) _ (finds_if ns (not (bounded 30 d)) BadNumber 0 (Ok tt) tt tt)
        (finds_then ns (numbers_fault 1 ps) _ (finds_first ns BadNumber (λ n. 1 + n) (bounded 20) ps tt) (finds_axis ns axis tt)))

    all : Finds ns (all_split_fault ps axis d (length above) (length below))
    all =
        finds_then ns (split_fault ps axis d) _ before
        (finds_then ns (room_fault (length above) (3 * split_count First ps axis d)) _
        (finds_room ns (length above) (3 * split_count First ps axis d) tt) (finds_room ns (length below) (3 * split_count Second ps axis d) tt))

-- ---- a refusal leaves every lent number

pub planes_refused_same : (placement : Placement) (axis low high best step : ℕ) (o : List Float) (f : Refusal)
    → planes_answer placement axis low high best step o ≡ Err f → planes_buffer placement axis low high best step o ≡ o
planes_refused_same placement axis low high best step o f h = refused_same (all_planes_fault placement axis low high best step (length o)) _ f o _ h

pub split_refused_same : (ps : List Float) (axis : ℕ) (d : Float) (above below : List Float) (f : Refusal) → split_answer ps axis d above below ≡ Err f
    → (split_buffer First ps axis d above above below ≡ above) × (split_buffer Second ps axis d below above below ≡ below)
split_refused_same ps axis d above below f h =
    let checks = all_split_fault ps axis d (length above) (length below) in
    (refused_same checks _ f above _ h, refused_same checks _ f below _ h)

-- ---- two results that fit the promise are one

pub planes_settled : (placement : Placement) (axis low high best step : ℕ) (o : List Float) (a b : Outcome Planes) (m n : List Float)
    → a ≡ planes_answer placement axis low high best step o → b ≡ planes_answer placement axis low high best step o
    → m ≡ planes_buffer placement axis low high best step o → n ≡ planes_buffer placement axis low high best step o → (a ≡ b) × (m ≡ n)
planes_settled placement axis low high best step o a b m n e f g h = ((e ∙ sym f), g ∙ sym h)

pub split_settled : (ps : List Float) (axis : ℕ) (d : Float) (above below : List Float) (a b : Outcome Sides) (m n u v : List Float)
    → a ≡ split_answer ps axis d above below → b ≡ split_answer ps axis d above below
    → m ≡ split_buffer First ps axis d above above below → n ≡ split_buffer First ps axis d above above below
    → u ≡ split_buffer Second ps axis d below above below → v ≡ split_buffer Second ps axis d below above below
    → (a ≡ b) × (m ≡ n) × (u ≡ v)
split_settled ps axis d above below a b m n u v e f g h i j = ((e ∙ sym f), g ∙ sym h, i ∙ sym j)

-- ---- the planes: as many as are asked, each at the next index
pub planes_count : (origin scale : Float) (first n : ℕ)
    → (length (planes_of origin scale first n) ≡ n) × ((k : ℕ) → k < n → get_or (planes_of origin scale first n) k nan ≡ plane_at origin scale (first + k))
planes_count origin scale first n = (planes_length origin scale first n, λ k h. planes_at origin scale first n k h)

-- ---- the sides: above 0 to the first, below 0 to the second, 0 to both

above_not_below : (z : ℤ) → lt_z (pos 0) z ≡ true → lt_z z (pos 0) ≡ false
above_not_below (pos n) h = le-ltb n 0 (omega arith)
above_not_below (negsuc n) h = absurd (true≢false (sym h))

below_not_above : (z : ℤ) → lt_z z (pos 0) ≡ true → lt_z (pos 0) z ≡ false
below_not_above (pos n) h = absurd (true≢false (sym h ∙ le-ltb n 0 (omega arith)))
below_not_above (negsuc n) h = refl

module _ (p d : Float) where
  pub split_above : lt_z (pos 0) (exact_sum p d) ≡ true → (goes_to First p d ≡ true) × (goes_to Second p d ≡ false)
  unfolding goes_to
  split_above h = (ap not (above_not_below (exact_sum p d) h), ap not h)

  pub split_below : lt_z (exact_sum p d) (pos 0) ≡ true → (goes_to First p d ≡ false) × (goes_to Second p d ≡ true)
  unfolding goes_to
  split_below h = (ap not h, ap not (below_not_above (exact_sum p d) h))

  pub split_on : exact_sum p d ≡ pos 0 → (goes_to First p d ≡ true) × (goes_to Second p d ≡ true)
  unfolding goes_to
  split_on e = (ap (λ (z : ℤ). not (lt_z z (pos 0))) e, ap (λ (z : ℤ). not (lt_z (pos 0) z)) e)
