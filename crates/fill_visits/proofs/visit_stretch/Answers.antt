-- `fill_visits::visit_stretch` meets its contract: a visit in each turn (`Turns`), at the number of the turn's cell. Assumes nothing.
use mathlib.Core.Bool.{false}
use mathlib.Core.Path.{◌≡◌, refl, sym, subst, ◌∙◌}
use Prim.Native.Nat.{ℕ, ◌+◌, ◌*◌, ◌<◌}
use native.Mathlib.Nat.{add-mul, one-mul}
use native.Mathlib.Omega.{arith}
use lib.ListN.{length, get_or}
use Rattle.grid.specs.declared.Cell.{Cell}
use Rattle.grid.specs.Grid.{InGrid}
use Rattle.grid.proofs.Cells.{num_lt}
use Rattle.fill_walks.specs.Scan.{is_walker}
use Rattle.fill_walks.proofs.Turns.{visit_none, turns_more, turns_all}
use Rattle.fill_visits.proofs.visit_stretch.Goals as goal
use Rattle.fill_visits.proofs.visit_stretch.Goals.{In-loop-k, then-not-is_idle, else-not-is_idle}

-- the cell of this turn
abbrev cell_of : In-loop-k → Cell
cell_of c = record { i = c.args.first.i; j = c.args.first.j; k = c.loop-k.k }

in_grid_lem : (c : In-loop-k) → InGrid c.args.r (cell_of c)
in_grid_lem c = record { i_in = c.requires.i_lt_r0.0; j_in = c.requires.i_lt_r0.1; k_in = omega (arith, c.loop-k-test.true, c.requires.i_lt_r0.3) }

within : (c : In-loop-k) → c.loop-k.n < length c.loop-k.l
within c = omega (arith, num_lt c.args.r (cell_of c) (in_grid_lem c), c.loop-k.invariant.1, c.loop-k.invariant.0.sheet.size)

pub bounds-l-n : goal.bounds-l-n
bounds-l-n c = within (goal.at.bounds-l-n c).In-loop-k

pub loop-k-preserved : goal.loop-k-preserved
loop-k-preserved c =
    let a = c.args in
    let k = c.loop-k.k in
    let i = c.loop-k.invariant in
    let next : c.loop-k.n + a.r.r0 * a.r.r1 ≡ a.first.i + a.first.j * a.r.r0 + (k + 1) * (a.r.r0 * a.r.r1) = omega (arith, i.1, add-mul k 1 (a.r.r0 * a.r.r1), one-mul (a.r.r0 * a.r.r1)) in
    elim c.if-not-is_idle.branch [
      | then-not-is_idle w ↦
          rw (w.l-is, w.table-is, w.walked-is) (
            turns_more _ _ _ _ _ _ _ _ _ _ _ _ i.0 c.loop-k-test.true w.visit-walked.auto.l w.visit-walked.ensures.upper_bound.0 w.visit-walked.ensures.result_after,
            next,
            w.visit-walked.ensures.upper_bound.1,
            w.visit-walked.auto.table ∙ i.3,
          )
      | else-not-is_idle w ↦
          let s = c.is_idle.ensures w.if-not-is_idle.false in
          rw (w.l-is, w.table-is, w.walked-is) (
            turns_more _ _ _ _ _ _ _ _ _ _ _ _ i.0 c.loop-k-test.true refl (omega arith) (sym (visit_none a.p a.r (cell_of (goal.at.loop-k-preserved c).In-loop-k) c.loop-k.l c.loop-k.walked (subst (λ (q : ℕ). get_or c.loop-k.l q 0 ≡ a.p.todo → ⊥) i.1 s.0) (subst (λ (q : ℕ). is_walker a.p.walkers (get_or c.loop-k.l q 0) ≡ false) i.1 s.1))),
            next,
            i.2,
            i.3,
          )
    ]

pub returns : goal.returns
returns c = let t = c.loop-k.invariant.0 in record { result_after = turns_all _ _ _ _ _ _ _ _ _ _ t c.loop-k-test.false; k_bound = (omega (arith, t.few, t.at_most), c.loop-k.invariant.2) }
