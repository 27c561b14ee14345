-- `fill_walks::walk` meets its contract: the rest of the walk from here leaves what the whole walk leaves, and what changed so far lies on the way here. Assumes nothing.
use mathlib.Core.Path.{◌≡◌}
use Prim.Native.Nat.{◌-◌, ◌<◌}
use lib.ListN.{length}
use Rattle.fill_walks.specs.Rays.{ray, Along, walked_along}
use Rattle.fill_walks.specs.Quiet.{Trailed}
use Rattle.fill_walks.proofs.Trails.{Stands}
use Rattle.fill_walks.proofs.walk.Given as goal

abbrev pub invariant-loop-n : goal.invariant-loop-n
invariant-loop-n l = (l.at < length l.initial.l) × (length l.l ≡ length l.initial.l) × Along (length l.initial.l) l.at l.add l.sub (l.count - l.n) × (walked_along l.p (ray l.at l.add l.sub (l.count - l.n)) l.l ≡ walked_along l.p (ray l.from l.add l.sub l.count) l.initial.l) × Stands l.p l.from l.add l.sub l.n l.at × Trailed l.p l.from l.add l.sub l.n l.initial.l l.l
