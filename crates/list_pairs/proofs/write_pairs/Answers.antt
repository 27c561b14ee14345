-- `list_pairs::write_pairs` meets its contract: pass after pass (`proofs/Wholes.antt`). Assumes nothing.
use mathlib.Core.Path.{sym, ap, subst}
use mathlib.Core.List.{List}
use Prim.Native.Nat.{ℕ}
use native.Mathlib.Omega.{arith}
use lib.ListN.{length}
use Rattle.marking_mesh.specs.Mesh.{triangles}
use Rattle.list_rows.specs.Rows.{Entered}
use Rattle.list_hits.specs.Hits.{all_of}
use Rattle.list_pairs.proofs.Wholes.{plain_shown, shown_table, count_room, ends_all, laid_shown, place_room, records_whole, triangles_whole}
use mathlib.Core.Bool.{true}
use Rattle.list_pairs.proofs.write_pairs.Goals as goal

pub guesses-guesses-requires : goal.guesses-guesses-requires
guesses-guesses-requires c =
    let a = c.args in (shown_table a.ps.now a.ts.now a.laid.axes a.laid.placement a.labels.now c.requires.sheet.0 a.cells c.requires.cells_value.0 a.records.now c.requires.cells_value.1 _ (plain_shown a.ps.now a.ts.now a.laid.axes a.laid.placement a.labels.now c.requires.sheet.0 a.cells c.requires.cells_value.0 a.records.now c.requires.cells_value.1 _ c.write_records.ensures), c.requires.sheet.0.sound)

pub enter_all-requires : goal.enter_all-requires
enter_all-requires c = let a = c.args in record { table = (shown_table a.ps.now a.ts.now a.laid.axes a.laid.placement a.labels.now c.requires.sheet.0 a.cells c.requires.cells_value.0 a.records.now c.requires.cells_value.1 _ (plain_shown a.ps.now a.ts.now a.laid.axes a.laid.placement a.labels.now c.requires.sheet.0 a.cells c.requires.cells_value.0 a.records.now c.requires.cells_value.1 _ c.write_records.ensures), c.requires.sheet.0.sound, sym c.guesses-guesses.ensures); ready = c.requires.sheet.1; room = count_room a.ps.now a.ts.now a.laid.axes a.laid.placement a.labels.now c.requires.sheet.0 a.cells c.requires.cells_value.0 a.records.now c.requires.cells_value.1 _ c.write_records.ensures c.requires.sheet.1.few _ }

pub lay_ranges-requires : goal.lay_ranges-requires
lay_ranges-requires c =
    let a = c.args in (omega (arith, c.requires.cells_value.1, c.write_records.ensures.size, c.enter_all.ensures.bumped.size), omega (arith, ends_all a.ps.now a.ts.now a.laid.axes a.laid.placement a.labels.now c.requires.sheet.0 a.cells c.requires.cells_value.0 a.records.now c.requires.cells_value.1 _ _ _ _ c.write_records.ensures c.enter_all.ensures, c.requires.labels_bound.0))

pub enter_all-requires-2 : goal.enter_all-requires-2
enter_all-requires-2 c = let a = c.args in let s = laid_shown a.ps.now a.ts.now a.laid.axes a.laid.placement a.labels.now c.requires.sheet.0 a.cells c.requires.cells_value.0 a.records.now c.requires.cells_value.1 _ _ _ _ c.write_records.ensures c.enter_all.ensures _ c.lay_ranges.ensures in record { table = (shown_table a.ps.now a.ts.now a.laid.axes a.laid.placement a.labels.now c.requires.sheet.0 a.cells c.requires.cells_value.0 a.records.now c.requires.cells_value.1 _ s, c.requires.sheet.0.sound, sym c.guesses-guesses.ensures); ready = c.requires.sheet.1; room = place_room a.ps.now a.ts.now a.laid.axes a.laid.placement a.labels.now c.requires.sheet.0 a.cells c.requires.cells_value.0 a.records.now c.requires.cells_value.1 _ _ _ _ c.write_records.ensures c.enter_all.ensures _ c.lay_ranges.ensures c.requires.labels_bound.0 _ (omega (arith, c.requires.labels_bound.1, ap (λ (xs : List ℕ). length xs) c.enter_all.ensures.given)) }

pub returns : goal.returns
returns c = let a = c.args in let z = subst (λ (q : List ℕ). Entered true a.cells (all_of a.ps.now a.ts.now a.laid.axes a.laid.placement c.lay_ranges.new.records (triangles a.ts.now)) c.lay_ranges.new.records q c.enter_all-2.new.records c.enter_all-2.new.list) c.enter_all.ensures.given c.enter_all-2.ensures in record { records_after = records_whole a.ps.now a.ts.now a.laid.axes a.laid.placement a.labels.now c.requires.sheet.0 a.cells c.requires.cells_value.0 a.records.now c.requires.cells_value.1 _ _ _ _ c.write_records.ensures c.enter_all.ensures _ c.lay_ranges.ensures _ _ z; list_after = triangles_whole a.ps.now a.ts.now a.laid.axes a.laid.placement a.labels.now c.requires.sheet.0 a.cells c.requires.cells_value.0 a.records.now c.requires.cells_value.1 _ _ _ _ c.write_records.ensures c.enter_all.ensures _ c.lay_ranges.ensures _ _ z c.requires.labels_bound.1 }
