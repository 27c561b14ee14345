-- `list_pairs::list_pairs` meets its contract: a refusal, or the records and the triangles of each. Assumes nothing.
use Rattle.std.specs.Prelude.{Ok}
use mathlib.Core.Path.{◌≡◌, sym, ◌∙◌}
use lib.ListN.{length}
use Rattle.list.specs.List.{listed}
use Rattle.list_tally.specs.Pairs.{pair_count}
use Rattle.list_pairs.specs.Paired.{list_input_fault, rooms_fault}
use Rattle.list_pairs.proofs.Laws.{input_ready, rooms_fine}
use Rattle.grid.specs.Grid.{Sheet}
use Rattle.marking.specs.Painted.{Ready}
use native.Mathlib.Omega.{arith}
use Rattle.list_pairs.proofs.list_pairs.Goals as goal
use Rattle.list_pairs.proofs.list_pairs.Goals.{After-rooms_fault, In_ok-list_input_fault}

-- the first checks found nothing
fine : (c : In_ok-list_input_fault) → list_input_fault c.args.points.now c.args.triangles.now c.args.r c.args.placement c.args.labels.now ≡ Ok tt
fine c = sym c.list_input_fault.ensures ∙ c.in_ok-list_input_fault.was

ready : (c : In_ok-list_input_fault) → Ready c.args.points.now c.args.triangles.now c.args.r c.args.placement × Sheet c.args.r c.args.labels.now
ready c = let a = c.args in input_ready a.points.now a.triangles.now a.r a.placement a.labels.now (fine c)

-- what the checks of room found is what the definition says
rooms : (c : After-rooms_fault) → c.rooms_fault.result ≡ rooms_fault (length (listed c.args.r c.args.labels.now)) (pair_count c.args.points.now c.args.triangles.now c.args.r c.args.placement c.args.labels.now) (length c.args.records.now) (length c.args.list.now)
rooms c = let a = c.args in c.rooms_fault.ensures ∙ (λ i. rooms_fault (c.count_cells-cells.ensures.0 i) (c.count_pairs-pairs.ensures i) (length a.records.now) (length a.list.now))

pub count_cells-cells-requires : goal.count_cells-cells-requires
count_cells-cells-requires c = (ready c).1

pub count_pairs-pairs-requires : goal.count_pairs-pairs-requires
count_pairs-pairs-requires c = record { sheet = (ready (goal.at.count_pairs-pairs-requires c).In_ok-list_input_fault).1; ready = (ready (goal.at.count_pairs-pairs-requires c).In_ok-list_input_fault).0 }

pub write_pairs-requires : goal.write_pairs-requires
write_pairs-requires c = let a = c.args in let w = ready (goal.at.write_pairs-requires c).In_ok-list_input_fault in let n = c.count_cells-cells.ensures.0 in let f = rooms_fine (length (listed a.r a.labels.now)) (pair_count a.points.now a.triangles.now a.r a.placement a.labels.now) (length a.records.now) (length a.list.now) (sym (rooms (goal.at.write_pairs-requires c).After-rooms_fault) ∙ c.in_ok-rooms_fault.was) in record { sheet = (w.1, w.0); cells_value = (n, omega (arith, n, f.0)); labels_bound = (f.1, f.2) }
