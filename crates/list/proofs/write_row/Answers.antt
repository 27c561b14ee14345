-- `list::write_row` meets its contract: cell after cell (`Parts`). Assumes nothing.
use mathlib.Core.Bool.{Bool, true, false}
use mathlib.Core.Path.{◌≡◌, sym, ap, subst, ◌∙◌}
use mathlib.Core.List.{List, [], ◌∷◌}
use Prim.Native.Nat.{ℕ, ◌*◌}
use native.Mathlib.Omega.{arith}
use lib.ListN.{get_or}
use Rattle.grid.specs.declared.Cell.{Cell}
use Rattle.grid.specs.Grid.{InGrid, num, at}
use Rattle.order.specs.Order.{row}
use Rattle.order.specs.Output.{Written}
use Rattle.list_record.specs.Record.{width, numbers_of}
use Rattle.list.specs.List.{is_listed, flag_of, RoomFrom}
use Rattle.list.proofs.Rows.{Parts, parts_none, parts_room, parts_yes, parts_no, one_yes, row_none, row_next, row_part}
use Rattle.list.proofs.write_row.Goals as goal
use Rattle.list.proofs.write_row.Goals.{In-loop-k}

-- the cell of a turn
abbrev cell : In-loop-k → Cell
cell c = record { i = c.args.i; j = c.args.j; k = c.loop-k.k }

here : (c : In-loop-k) → InGrid c.args.r (cell c)
here c = let p = c.requires.sheet in record { i_in = p.1; j_in = p.2; k_in = c.loop-k-test.true }

-- its label is the one that is read
label_is : (c : In-loop-k) (n : ℕ) → n ≡ num c.args.r (cell c) → get_or c.args.labels.now n 0 ≡ at c.args.r c.args.labels.now (cell c)
label_is c n e = ap (λ (k : ℕ). get_or c.args.labels.now k 0) e

-- the room for one more
room : (c : In-loop-k) → is_listed (at c.args.r c.args.labels.now (cell c)) ≡ is_listed 8 → RoomFrom c.loop-k.q (cell c ∷ []) c.loop-k.records
room c h =
    let a = c.args in let k = c.loop-k.k in
    subst (λ (cs : List Cell). RoomFrom c.loop-k.q cs c.loop-k.records) (one_yes a.r a.labels.now (cell c) h)
    (parts_room a.r a.labels.now a.records.now a.p _ _ (row a.i a.j 0 k) (cell c ∷ []) _ _ _ c.loop-k.invariant (row_next a.i a.j k) (row_part a.i a.j k a.r.r2 c.loop-k-test.true) c.requires.room_from)

pub loop-k-init : goal.loop-k-init
loop-k-init c = let a = c.args in subst (Parts a.r a.labels.now a.records.now a.records.now a.p a.p) (sym (row_none a.i a.j)) (parts_none a.r a.labels.now a.records.now a.p)

pub write-requires : goal.write-requires
write-requires c = let s = c.requires.sheet.0.sound in let h = here (goal.at.write-requires c).In-loop-k in
    let w = ap is_listed (sym (label_is (goal.at.write-requires c).In-loop-k _ c.number.ensures)) ∙ sym c.is_listed.ensures ∙ c.if-is_listed.true in record { width_in_bounds = omega (arith, (room (goal.at.write-requires c).In-loop-k w).room); i_bound = (omega (arith, h.i_in, s.axis0.most), omega (arith, h.j_in, s.axis1.most), omega (arith, h.k_in, s.axis2.most)) }

pub overflow_add-q : goal.overflow_add-q
overflow_add-q c =
    let w = ap is_listed (sym (label_is (goal.at.overflow_add-q c).In-loop-k _ c.number.ensures)) ∙ sym c.is_listed.ensures ∙ c.if-is_listed.true in
    omega (arith, (room (goal.at.overflow_add-q c).In-loop-k w).few)

pub loop-k-preserved : goal.loop-k-preserved
loop-k-preserved c =
    let a = c.args in
    let turn = (goal.at.loop-k-preserved c).In-loop-k in
    let e = label_is turn _ c.number.ensures in
    let next = row_next a.i a.j c.loop-k.k in
    let told : (b : Bool) → c.is_listed.result ≡ b → is_listed (at a.r a.labels.now (cell turn)) ≡ b = λ b f. ap is_listed (sym e) ∙ sym c.is_listed.ensures ∙ f in
    elim c.if-is_listed.branch [
      | goal.then-is_listed w ↦ rw (w.records-is, w.q-is)
          (parts_yes a.r a.labels.now (cell turn) a.records.now _ a.p _ _ _ c.loop-k.invariant next (told true w.if-is_listed.true) _
          (subst (λ (v : ℕ). Written 0 (c.loop-k.q * width) (numbers_of (record { cell = cell turn; surface = v; start = 0; end = 0 })) c.loop-k.records w.write.new.records) (w.flag_of.ensures ∙ ap flag_of e) w.write.ensures))
      | goal.else-is_listed w ↦ rw (w.records-is, w.q-is) (parts_no a.r a.labels.now (cell turn) a.records.now _ a.p _ _ _ c.loop-k.invariant next (told false w.if-is_listed.false))
    ]
