-- `edits_settle::settle` meets its contract: a mark, or what a trip tells. Assumes nothing.
use Rattle.edits_reach.specs.Reach.{Leads}
use Rattle.edits_settle.specs.Closing.{Seals}
use Rattle.edits_settle.proofs.Settlings.{settled_found, settled_sealed, seen_some, seen_label}
use mathlib.Core.Path.{subst}
use Rattle.grid.specs.declared.Cell.{Cell}
use Rattle.edits_settle.proofs.settle.Goals as goal

pub returns-then-finds_way : goal.returns-then-finds_way
returns-then-finds_way c = let a = c.args in settled_found _ _ c.requires.in_grid.0 _ c.requires.d_bound c.args.trips _ c.requires.sheet (seen_some _ _ _ _ _ c.requires.in_grid.0 c.look-a.ensures c.if-a-ne-OUTSIDE.false) (seen_label _ _ _ _ _ c.requires.in_grid.0 c.look-a.ensures c.if-a-ne-OUTSIDE.false) _ (c.look-a.ensures.number (seen_some _ _ _ _ _ c.requires.in_grid.0 c.look-a.ensures c.if-a-ne-OUTSIDE.false)) (subst (λ (x : Cell). Leads a.r a.l.now x) c.neighbour-q.ensures (c.finds_way.ensures c.if-finds_way.true))

pub returns-then-trips : goal.returns-then-trips
returns-then-trips c = let a = c.args in settled_sealed _ _ c.requires.in_grid.0 _ c.requires.d_bound c.args.trips _ c.requires.sheet (seen_some _ _ _ _ _ c.requires.in_grid.0 c.look-a.ensures c.if-a-ne-OUTSIDE.false) (seen_label _ _ _ _ _ c.requires.in_grid.0 c.look-a.ensures c.if-a-ne-OUTSIDE.false) c.if-trips.true _ _ (subst (λ (x : Cell). Seals a.r a.l.now x a.d c.seal.new.l c.seal.result) c.neighbour-q.ensures c.seal.ensures)
