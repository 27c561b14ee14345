-- `fill_walks::both_ways` meets its contract: a walk up the axis, then one down. Assumes nothing.
use native.Mathlib.Omega.{arith}
use lib.ListN.{length}
use Rattle.fill_walks.specs.Rays.{LineFits, walked_both}
use Rattle.fill_walks.proofs.Rays.{span_here, span_up, span_down}
use Rattle.fill_walks.proofs.Trails.{swept}
use Rattle.fill_walks.proofs.both_ways.Goals as goal

pub walk-up-requires : goal.walk-up-requires
walk-up-requires c = record { from_in_bounds = (span_here _ _ _ _ _ c.requires, c.requires.step); along = span_up _ _ _ _ _ c.requires _ (omega (arith, c.min.ensures)) }

pub walk-down-requires : goal.walk-down-requires
walk-down-requires c = let pre : LineFits c.args.from c.args.stride c.args.a c.args.n (length c.walk-up.new.l) = rw c.walk-up.auto.l c.requires in record { from_in_bounds = (span_here _ _ _ _ _ pre, omega arith); along = span_down _ _ _ _ _ pre _ (omega (arith, c.min-2.ensures)) }

pub returns : goal.returns
unfolding walked_both
returns c = record { l_after = cc; swept = (swept _ _ _ _ _ _ _ _ c.walk-up.ensures.upper_bound.1 c.walk-down.ensures.upper_bound.1, omega (arith, c.walk-up.ensures.upper_bound.0, c.min.ensures, c.requires.inside), omega (arith, c.walk-down.ensures.upper_bound.0, c.min-2.ensures)) }
