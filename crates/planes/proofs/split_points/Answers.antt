-- `planes::split_points` meets its contract: a refusal, or the points of one side and then of the other. Assumes nothing.
use Rattle.std.specs.Prelude.{Ok}
use native.Mathlib.Omega.{arith}
use mathlib.Core.List.{List}
use mathlib.Core.Path.{◌≡◌, sym, ◌∙◌}
use Prim.Native.Nat.{ℕ, ◌*◌, ◌≤◌}
use lib.Ieee.{Float, nan}
use lib.ListN.{length}
use Rattle.grid.specs.Answers.{Outcome, ◌and_then◌, lent_after, Checked}
use Rattle.order.specs.Output.{Written, over}
use Rattle.order.proofs.Lent.{fine_answer, fine_lent}
use Rattle.order.proofs.Outputs.{written_over, then_next}
use Rattle.planes.specs.declared.Side.{Side}
use Rattle.planes.specs.declared.Side.TheVariants.{First, Second}
use Rattle.planes.specs.declared.Sides.{Sides}
use Rattle.planes.specs.Split.{split_count, split_to, split_fault, rooms_fault, Bounded}
use Rattle.planes.proofs.Sums.{split_fine, rooms_fine, few_points, side_length}
use Rattle.planes.proofs.split_points.Goals as goal
use Rattle.planes.proofs.split_points.Goals.{After-rooms_fault, In_ok-split_fault, In_ok-rooms_fault, Start}

abbrev early : Start → Checked
early c = split_fault c.args.ps.now c.args.axis c.args.d

-- the checks before 14 found nothing
fine : (c : In_ok-split_fault) → early (goal.at.In_ok-split_fault c).Start ≡ Ok tt
fine c = sym c.split_fault.ensures ∙ c.in_ok-split_fault.was

ready : (c : Start) → early c ≡ Ok tt → (c.args.axis ≤ 2) × Bounded c.args.ps.now c.args.d
ready c h = split_fine c.args.ps.now c.args.axis c.args.d h

abbrev count : Start → Side → ℕ
count c side = split_count side c.args.ps.now c.args.axis c.args.d

few : (c : Start) → early c ≡ Ok tt → (side : Side) → count c side ≤ 65536
few c h side = few_points side c.args.ps.now c.args.axis c.args.d (ready c h).1.few

abbrev down : Start → List Float
down c = c.args.below.now

-- what is lent, the points of a side, the checks before 14 and with it, and the answer
abbrev up : Start → List Float
up c = c.args.above.now

abbrev late : Start → Checked
late c = rooms_fault (count c First) (count c Second) (length (up c)) (length (down c))

fits : (c : Start) → late c ≡ Ok tt → (3 * count c First ≤ length (up c)) × (3 * count c Second ≤ length (down c))
fits c h = rooms_fine (count c First) (count c Second) (length (up c)) (length (down c)) h

-- what 14 says of the two sides
rooms : (c : After-rooms_fault) → c.rooms_fault.result ≡ late (goal.at.After-rooms_fault c).Start
rooms c = c.rooms_fault.ensures ∙ (λ t. rooms_fault (c.count_side-first.ensures t) (c.count_side-second.ensures t) (length (up (goal.at.After-rooms_fault c).Start)) (length (down (goal.at.After-rooms_fault c).Start)))

no_14 : (c : In_ok-rooms_fault) → late (goal.at.In_ok-rooms_fault c).Start ≡ Ok tt
no_14 c = sym (rooms (goal.at.In_ok-rooms_fault c).After-rooms_fault) ∙ c.in_ok-rooms_fault.was

abbrev answer : Start → Outcome Sides
answer c = Ok (record { first = count c First; second = count c Second })

abbrev checks : Start → Checked
checks c = early c and_then late c

abbrev part : Start → Side → List Float
part c side = split_to side c.args.ps.now c.args.axis c.args.d

-- what a lent output o holds after the call, of a side
abbrev after : Start → Side → List Float → List Float
after c side o = lent_after (checks c) o (over (part c side) o)

-- an output that is written
written : (c : Start) (side : Side) (o m : List Float) → checks c ≡ Ok tt → 3 * count c side ≤ length o → Written nan 0 (part c side) o m → m ≡ after c side o
written c side o m ok h w =
    written_over nan (part c side) o m (omega (arith, side_length side c.args.ps.now c.args.axis c.args.d)) w ∙ fine_lent (checks c) o (over (part c side) o) ok

pub count_side-first-requires : goal.count_side-first-requires
count_side-first-requires c = ready (goal.at.count_side-first-requires c).Start (fine c)

pub count_side-second-requires : goal.count_side-second-requires
count_side-second-requires c = ready (goal.at.count_side-second-requires c).Start (fine (goal.at.count_side-second-requires c).In_ok-split_fault)

pub rooms_fault-requires : goal.rooms_fault-requires
rooms_fault-requires c =
    let w = few (goal.at.rooms_fault-requires c).Start (fine (goal.at.rooms_fault-requires c).In_ok-split_fault) in
    (omega (arith, w First, c.count_side-first.ensures), omega (arith, w Second, c.count_side-second.ensures))

pub write_side-requires : goal.write_side-requires
write_side-requires c = record { axis_bound = ready (goal.at.write_side-requires c).Start (fine (goal.at.write_side-requires c).In_ok-split_fault); d_in_bounds = (fits (goal.at.write_side-requires c).Start (no_14 (goal.at.write_side-requires c).In_ok-rooms_fault)).0 }

pub write_side-requires-2 : goal.write_side-requires-2
write_side-requires-2 c = record { axis_bound = ready (goal.at.write_side-requires-2 c).Start (fine (goal.at.write_side-requires-2 c).In_ok-split_fault); d_in_bounds = (fits (goal.at.write_side-requires-2 c).Start (no_14 (goal.at.write_side-requires-2 c).In_ok-rooms_fault)).1 }

pub returns : goal.returns
returns c = let room = no_14 (goal.at.returns c).In_ok-rooms_fault in
    let ok = sym (then_next (early (goal.at.returns c).Start) (late (goal.at.returns c).Start) (fine (goal.at.returns c).In_ok-split_fault)) ∙ room in record { answer = (λ t. Ok (record { first = c.count_side-first.ensures t; second = c.count_side-second.ensures t })) ∙ fine_answer (checks (goal.at.returns c).Start) (answer (goal.at.returns c).Start) ok; above_after = written (goal.at.returns c).Start First (up (goal.at.returns c).Start) _ ok (fits (goal.at.returns c).Start room).0 c.write_side.ensures; below_after = written (goal.at.returns c).Start Second (down (goal.at.returns c).Start) _ ok (fits (goal.at.returns c).Start room).1 c.write_side-2.ensures }
