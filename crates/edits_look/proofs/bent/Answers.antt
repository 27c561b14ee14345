-- `edits_look::bent` meets its contract. Assumes nothing.
use Rattle.edits_reach.proofs.Rays.{onto_start, onto_in, onto_room, onto_more, onto_leads}
use Rattle.edits_look.proofs.bent.Goals as goal

pub loop-r-init : goal.loop-r-init
loop-r-init c = onto_start _ _ _ _ c.requires.in_grid.0 c.requires.in_grid.1

pub look-a-requires : goal.look-a-requires
look-a-requires c = record { sheet = c.requires.sheet; in_grid = (onto_in _ _ _ _ _ c.loop-r.invariant, c.loop-r.invariant.number) }

pub neighbour-here-requires : goal.neighbour-here-requires
neighbour-here-requires c = record { in_grid = onto_in _ _ _ _ _ c.loop-r.invariant; has_room = onto_room _ _ _ _ _ c.loop-r.invariant _ _ c.look-a.ensures c.if-a-ne-OUTSIDE.false }

pub straight-requires : goal.straight-requires
straight-requires c = let o = onto_more _ _ _ _ _ c.loop-r.invariant _ _ c.look-a.ensures c.if-a-ne-OUTSIDE.false _ c.neighbour-here.ensures in record { sheet = c.requires.sheet; in_grid = (onto_in _ _ _ _ _ o, o.number) }

pub returns-then-straight : goal.returns-then-straight
returns-then-straight c = λ _. let o = onto_more _ _ _ _ _ c.loop-r.invariant _ _ c.look-a.ensures c.if-a-ne-OUTSIDE.false _ c.neighbour-here.ensures in onto_leads _ _ _ _ _ o (c.straight.ensures c.if-straight.true)

pub loop-r-preserved : goal.loop-r-preserved
loop-r-preserved c = onto_more _ _ _ _ _ c.loop-r.invariant _ _ c.look-a.ensures c.if-a-ne-OUTSIDE.false _ c.neighbour-here.ensures
