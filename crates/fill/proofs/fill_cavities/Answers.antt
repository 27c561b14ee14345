-- `fill::fill_cavities` meets its contract: the first phase, the phases in turn, and the last step. Assumes nothing.
use mathlib.Core.Path.{◌≡◌, refl, ap, subst, ◌∙◌}
use mathlib.Core.List.{List, map}
use Prim.Native.Nat.{ℕ, ◌+◌}
use native.Mathlib.Omega.{arith}
use lib.ListN.{length}
use Rattle.grid.proofs.Cells.{cells_max}
use Rattle.fill_walks.specs.declared.Phase.{Phase}
use Rattle.fill_walks.specs.Run.{Run}
use Rattle.fill.specs.Phases.{seeded, outward, CavityRun}
use Rattle.grid.specs.Passes.{becomes}
use Rattle.fill.proofs.Passes.{surfaces_back}
use Rattle.grid.proofs.Passes.{within_map}
use Rattle.fill.proofs.Swings.{cavities_few}
use Rattle.fill.proofs.Meaning.{seeded_size}
use Rattle.fill.proofs.fill_cavities.Goals as goal

-- the first phase, from the seeded labels
first_phase : (c : goal.After-count_label-left) → Run (outward 4) c.args.r (seeded c.args.r c.args.labels.now) c.run_phase-first.new.l c.run_phase-first.result
first_phase c =
    let r = c.args.r in
    let e = c.run_phase-first.new.l in
    let n = c.run_phase-first.result in
    subst (λ (p : Phase). Run p r (seeded r c.args.labels.now) e n) c.outward_with-p.ensures
    (subst (λ (s : List ℕ). Run c.outward_with-p.result r s e n) c.seed.ensures c.run_phase-first.ensures)

-- the labels after the phases are as many as before
ended_size : (c : goal.After-count_label-left) → length c.phases_in_turn-later.new.labels ≡ length c.args.labels.now
ended_size c = c.phases_in_turn-later.auto.labels ∙ c.run_phase-first.auto.l ∙ c.seed.auto.labels

pub overflow_add-result : goal.overflow_add-result
overflow_add-result c =
    omega (arith, cavities_few c.args.r (seeded c.args.r c.args.labels.now) _ _ _ _ (seeded_size c.args.r c.args.labels.now c.requires.0.size c.requires.1) (first_phase c) c.phases_in_turn-later.ensures, cells_max c.args.r c.requires.0.sound)

pub returns : goal.returns
returns c =
    let l = c.args.labels.now in
    let ended = c.phases_in_turn-later.new.labels in
    let fours : c.replace.new.labels ≡ map (becomes 4 5 8) ended = within_map (becomes 4 5 8) _ ended _ (omega (arith, ended_size c)) c.replace.ensures in
    let threes : c.replace-2.new.labels ≡ map (becomes 3 3 8) c.replace.new.labels = within_map (becomes 3 3 8) _ _ _ (omega (arith, c.replace.auto.labels, ended_size c)) c.replace-2.ensures in
    let ran : CavityRun c.args.r l c.replace-2.new.labels (c.run_phase-first.result + c.phases_in_turn-later.result) = record {
      walked = c.run_phase-first.new.l;
      ended = ended;
      first = c.run_phase-first.result;
      later = c.phases_in_turn-later.result;
      phase = first_phase c;
      alternate = c.phases_in_turn-later.ensures;
      labels = threes ∙ ap (map (becomes 3 3 8)) fours ∙ surfaces_back ended;
      both = refl;
    } in
    record { scanned = ran; counted = c.count_label-left.ensures }
