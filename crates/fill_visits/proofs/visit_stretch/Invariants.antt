-- `fill_visits::visit_stretch` meets its contract: a visit in each turn (`Turns`), at the number of the turn's cell. Assumes nothing.
use mathlib.Core.Path.{◌≡◌}
use Prim.Native.Nat.{◌+◌, ◌*◌}
use lib.ListN.{length}
use Rattle.fill_walks.specs.Scan.{visited}
use Rattle.fill_walks.proofs.Turns.{Turns}
use Rattle.fill_groups.specs.Groups.{Covers}
use Rattle.fill_visits.proofs.visit_stretch.Given as goal

abbrev pub invariant-loop-k : goal.invariant-loop-k
invariant-loop-k l = Turns l.r (λ k. visited l.p l.r (record { i = l.i; j = l.j; k = k })) l.fn.first.k l.to 1 l.initial.l l.before l.l l.walked l.k × (l.n ≡ l.i + l.j * l.r.r0 + l.k * (l.r.r0 * l.r.r1)) × Covers l.p l.r l.l l.table × (length l.table ≡ length l.initial.table)
