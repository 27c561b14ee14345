-- `list::list_cells` meets its contract: a refusal, or the records of the listed cells. Assumes nothing.
use Rattle.std.specs.Prelude.{Ok}
use mathlib.Core.Path.{◌≡◌, sym, ap, ◌∙◌}
use mathlib.Core.List.{[]}
use Prim.Native.Nat.{ℕ, ◌*◌}
use native.Mathlib.Omega.{arith}
use lib.ListN.{length}
use Rattle.grid.specs.declared.LabelSet.{LabelSet}
use Rattle.grid.specs.Answers.{lent_after, Checked}
use Rattle.grid.specs.Checks.{map_fault}
use Rattle.order.specs.Order.{known_labels}
use Rattle.order.specs.Output.{room_fault, over}
use Rattle.order.proofs.Outputs.{written_over, then_next, room_fine}
use Rattle.list_record.specs.Record.{width}
use Rattle.list.specs.List.{listed, plain_records}
use Rattle.list.proofs.Rows.{rows_length}
use Rattle.list.proofs.list_cells.Goals as goal

pub returns-clause-records_after : goal.returns-clause-records_after
returns-clause-records_after c =
    let a = c.args in
    let l = a.labels.now in
    let r = a.r in
    let o = a.records.now in
    let need = length (listed r l) * width in
    let first : map_fault known_labels r l ≡ Ok tt = sym (c.map_fault.ensures ∙ ap (λ (s : LabelSet). map_fault s r l) c.known_labels.ensures) ∙ c.in_ok-map_fault.was in
    let last : room_fault (length o) need ≡ Ok tt = sym (c.room_fault.ensures ∙ ap (λ (x : ℕ). room_fault (length o) (x * width)) c.count_cells-cells.ensures.0) ∙ c.in_ok-room_fault.was in
    let all = sym last ∙ then_next (map_fault known_labels r l) (room_fault (length o) need) first in
    let room = room_fine (length o) need last in
    written_over 0 (plain_records r l) o _ (omega (arith, rows_length r l (λ c. []) 0 (listed r l))) c.write_records.ensures
    ∙ ap (λ (x : Checked). lent_after x o (over (plain_records r l) o)) all
