-- `edits_look::look_along` meets its contract. Assumes nothing.
use Rattle.edits_reach.proofs.Rays.{onto_start, onto_in, onto_room, onto_more, onto_exit}
use Rattle.edits_look.proofs.look_along.Goals as goal

pub loop-r-init : goal.loop-r-init
loop-r-init c = onto_start _ _ _ _ c.requires.in_grid.0 c.requires.in_grid.1

pub look-a-requires : goal.look-a-requires
look-a-requires c = record { sheet = c.requires.sheet; in_grid = (onto_in _ _ _ _ _ c.loop-r.invariant, c.loop-r.invariant.number) }

pub returns-then-a-ne-OUTSIDE : goal.returns-then-a-ne-OUTSIDE
returns-then-a-ne-OUTSIDE c = onto_exit _ _ _ _ _ c.loop-r.invariant _ _ c.look-a.ensures

pub neighbour-here-requires : goal.neighbour-here-requires
neighbour-here-requires c = record { in_grid = onto_in _ _ _ _ _ c.loop-r.invariant; has_room = onto_room _ _ _ _ _ c.loop-r.invariant _ _ c.look-a.ensures c.if-a-ne-OUTSIDE.false }

pub loop-r-preserved : goal.loop-r-preserved
loop-r-preserved c = onto_more _ _ _ _ _ c.loop-r.invariant _ _ c.look-a.ensures c.if-a-ne-OUTSIDE.false _ c.neighbour-here.ensures
