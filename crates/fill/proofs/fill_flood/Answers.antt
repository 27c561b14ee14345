-- `fill::fill_flood` meets its contract: one phase, after which none is left (`flood_left`). Assumes nothing.
use mathlib.Core.Path.{sym, subst}
use mathlib.Core.List.{List}
use Prim.Native.Nat.{ℕ}
use native.Mathlib.Omega.{arith}
use Rattle.fill_walks.specs.declared.Phase.{Phase}
use Rattle.fill_walks.specs.Run.{Run}
use Rattle.fill.specs.Phases.{seeded, FloodRun}
use Rattle.grid.specs.Passes.{becomes}
use Rattle.grid.proofs.Passes.{within_map}
use Rattle.fill.proofs.Meaning.{flood_left}
use Rattle.fill.proofs.fill_flood.Goals as goal

pub returns : goal.returns
returns c =
    let l = c.args.labels.now in
    let f = c.replace.new.labels in
    let n = c.run_phase-scans.result in
    let ended = c.run_phase-scans.new.l in
    let ran : FloodRun c.args.r l f n = record {
      ended = ended;
      phase = subst (λ (p : Phase). Run p c.args.r (seeded c.args.r l) ended n) c.outward_with-p.ensures (subst (λ (s : List ℕ). Run c.outward_with-p.result c.args.r s ended n) c.seed.ensures c.run_phase-scans.ensures);
      labels = within_map (becomes 0 0 7) _ ended f (omega (arith, c.run_phase-scans.auto.l, c.seed.auto.labels)) c.replace.ensures;
    } in
    record { scanned = ran; counted = sym (flood_left c.args.r l c.requires.0.size c.requires.1 f n ran) }
