-- `planes::planes_about` meets its contract: a refusal, or every plane. Assumes nothing.
use Rattle.std.specs.Prelude.{Ok}
use native.Mathlib.Omega.{arith}
use mathlib.Core.List.{List}
use mathlib.Core.Path.{◌≡◌, sym, ap, subst, ◌∙◌}
use Prim.Native.Nat.{ℕ, ◌-◌, ◌≤◌}
use lib.Ieee.{Float, nan}
use lib.ListN.{length}
use Rattle.grid.specs.Answers.{Outcome, ◌and_then◌, Checked}
use Rattle.marking_mesh.specs.Mesh.{origin_along}
use Rattle.order.specs.Output.{Written, room_fault, over}
use Rattle.order.proofs.Lent.{fine_answer, fine_lent}
use Rattle.order.proofs.Outputs.{written_over, then_next, room_fine}
use Rattle.planes.specs.declared.Planes.{Planes}
use Rattle.planes.specs.Planes.{first_plane, plane_count, planes_of, planes_fault}
use Rattle.planes_range.proofs.Ranges.{planes_length}
use Rattle.planes.proofs.planes_about.Goals as goal
use Rattle.planes.proofs.planes_about.Goals.{After-write_planes}

abbrev count : After-write_planes → ℕ
count c = plane_count c.args.low c.args.high c.args.best c.args.step

abbrev first : After-write_planes → ℕ
first c = first_plane c.args.low c.args.best c.args.step

abbrev answer : After-write_planes → Outcome Planes
answer c = Ok (record { first = first c; count = count c })

abbrev early : After-write_planes → Checked
early c = planes_fault c.args.placement c.args.axis c.args.low c.args.high c.args.best c.args.step

-- what is lent, the planes, the checks before 14 and with it, and the answer
abbrev lent : After-write_planes → List Float
lent c = c.args.ds.now

abbrev late : After-write_planes → Checked
late c = room_fault (length (lent c)) (count c)

abbrev checks : After-write_planes → Checked
checks c = early c and_then late c

-- how many planes there are, and what 14 says of them
counted : (c : After-write_planes) → c.saturating_sub-count.result ≡ count c
counted c = c.saturating_sub-count.ensures ∙ (λ t. c.past_plane-past.ensures t - c.first_plane-first.ensures t)

-- the checks before 14 found nothing
fine : (c : After-write_planes) → early c ≡ Ok tt
fine c = sym c.planes_fault.ensures ∙ c.in_ok-planes_fault.was

fits : (c : After-write_planes) → late c ≡ Ok tt → count c ≤ length (lent c)
fits c h = room_fine (length (lent c)) (count c) h

room : (c : After-write_planes) → c.room_fault.result ≡ late c
room c = c.room_fault.ensures ∙ ap (λ (n : ℕ). room_fault (length (lent c)) n) (counted c)

no_14 : (c : After-write_planes) → late c ≡ Ok tt
no_14 c = sym (room c) ∙ c.in_ok-room_fault.was

abbrev planes : After-write_planes → List Float
planes c = planes_of (origin_along c.args.placement c.args.axis) c.args.placement.scale (first c) (count c)

pub returns : goal.returns
returns c = let w = (goal.at.returns c).After-write_planes in
    let o = lent w in
    let m = c.write_planes.new.ds in
    let room = no_14 w in
    let ok = sym (then_next (early w) (late w) (fine w)) ∙ room in
    let is-count = counted w in
    let wrote = subst (λ (l : List Float). Written nan 0 l o m) (λ t. planes_of (c.origin_along-origin.ensures t) c.args.placement.scale (c.first_plane-first.ensures t) (is-count t)) c.write_planes.ensures in
    let size = planes_length (origin_along c.args.placement c.args.axis) c.args.placement.scale (first w) (count w) in record { answer = (λ t. Ok (record { first = c.first_plane-first.ensures t; count = is-count t })) ∙ fine_answer (checks w) (answer w) ok; ds_after = written_over nan (planes w) o m (omega (arith, size, fits w room)) wrote ∙ fine_lent (checks w) o (over (planes w) o) ok }
