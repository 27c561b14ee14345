-- `boxes::boxes` meets its contract: a refusal, or the boxes of all cells that have the label. Assumes nothing.
use Rattle.std.proofs.lemmas.Result.{err_from_is_err_and}
use Rattle.std.specs.Prelude.{Ok}
use mathlib.Core.Path.{◌≡◌, sym, subst, ◌∙◌}
use Prim.Native.Nat.{ℕ, ◌*◌, ◌≤◌}
use lib.ListN.{length}
use Rattle.grid.specs.Answers.{◌and_then◌, Checked}
use Rattle.grid.specs.Grid.{Sheet}
use Rattle.boxes.specs.Boxes.{box_count, boxes_fault, rooms_fault, all_fault}
use Rattle.boxes.proofs.Laws.{box_count_lem}
use Rattle.boxes.proofs.Writes.{count_few}
use Rattle.boxes.proofs.Calls.{sheet_left, room_left, refused_meets, boxed_meets}
use Rattle.boxes.proofs.boxes.Goals as goal
use Rattle.boxes.proofs.boxes.Goals.{After-count_label-n, After-rooms_fault, In_ok-boxes_fault, In_ok-rooms_fault}

-- the map's checks found nothing
fine : (c : In_ok-boxes_fault) → boxes_fault c.args.labels.now c.args.r c.args.placement c.args.label ≡ Ok tt
fine c = sym c.boxes_fault.ensures ∙ c.in_ok-boxes_fault.was

sheet : (c : In_ok-boxes_fault) → Sheet c.args.r c.args.labels.now
sheet c = sheet_left c.args.labels.now c.args.r c.args.placement c.args.label (fine c)

room : (c : In_ok-rooms_fault) → (24 * c.count_label-n.result ≤ length c.args.points.now) × (36 * c.count_label-n.result ≤ length c.args.triangles.now)
room c = room_left _ _ _ (sym c.rooms_fault.ensures ∙ c.in_ok-rooms_fault.was)

-- the count is of the cells that have the label
number : (c : After-count_label-n) → c.count_label-n.result ≡ box_count c.args.labels.now c.args.r c.args.label
number c = c.count_label-n.ensures ∙ sym (box_count_lem c.args.labels.now c.args.r c.args.label (sheet (goal.at.After-count_label-n c).In_ok-boxes_fault).size)

-- what the second check finds, all find
all : (c : After-rooms_fault) → c.rooms_fault.result ≡ all_fault c.args.labels.now c.args.r c.args.placement c.args.label (length c.args.points.now) (length c.args.triangles.now)
all c =
    let rooms : ℕ → Checked = λ n. rooms_fault n (length c.args.points.now) (length c.args.triangles.now) in
    c.rooms_fault.ensures ∙ (λ t. sym (fine (goal.at.After-rooms_fault c).In_ok-boxes_fault) t and_then rooms (number (goal.at.After-rooms_fault c).After-count_label-n t))

pub rooms_fault-requires : goal.rooms_fault-requires
rooms_fault-requires c = let a = c.args in subst (λ (n : ℕ). n ≤ 16777216) (sym c.count_label-n.ensures) (count_few a.labels.now a.r a.label (sheet (goal.at.rooms_fault-requires c).In_ok-boxes_fault))

pub write_boxes-requires : goal.write_boxes-requires
write_boxes-requires c = let w = room (goal.at.write_boxes-requires c).In_ok-rooms_fault in record { sheet = sheet (goal.at.write_boxes-requires c).In_ok-boxes_fault; points_room = subst (λ (m : ℕ). 24 * m ≤ length c.args.points.now) c.count_label-n.ensures w.0; triangles_room = subst (λ (m : ℕ). 36 * m ≤ length c.args.triangles.now) c.count_label-n.ensures w.1 }

pub returns-in_err-rooms_fault : goal.returns-in_err-rooms_fault
returns-in_err-rooms_fault c = let a = c.args in let w = refused_meets a.labels.now a.r a.placement a.label a.points.now a.triangles.now _ (sym c.in_err-rooms_fault.was ∙ all (goal.at.returns-in_err-rooms_fault c).After-rooms_fault) in
    let p = err_from_is_err_and c.from_residual-in_err-rooms_fault.result c.from_residual-in_err-rooms_fault.ensures.1 in record { answer = rw (p.1, p.2) w.0; points_after = w.1.0; triangles_after = w.1.1 }

pub returns : goal.returns
returns c = let a = c.args in let w = boxed_meets a.labels.now a.r a.placement a.label a.points.now a.triangles.now _ _ _ (sym (all (goal.at.returns c).After-rooms_fault) ∙ c.in_ok-rooms_fault.was) (number (goal.at.returns c).After-count_label-n) (room (goal.at.returns c).In_ok-rooms_fault) (c.write_boxes.ensures.written, c.write_boxes.ensures.triangles_written) in record { answer = w.0; points_after = w.1.0; triangles_after = w.1.1 }
