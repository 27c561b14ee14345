-- `marking::mark_block` meets its contract: a loop along k (`Along`), a layer in each turn. Assumes nothing.
use native.Mathlib.Omega.{arith}
use Rattle.marking.proofs.Paint.{along_starts, along_on, along_sheet, painted_same, none_along_k, more_k, done_k, layer_axes}
use Rattle.marking.proofs.mark_block.Goals as goal

pub loop-k-init : goal.loop-k-init
loop-k-init c =
    let a = c.args in
    along_starts a.r a.b.k _ a.labels.now (none_along_k a.s a.b.k a.b.i a.b.j)

pub mark_layer-requires : goal.mark_layer-requires
mark_layer-requires c = let a = c.args in
    let h = c.requires.to_le_r0 in record { sheet = along_sheet a.r a.b.k c.loop-k.k _ _ _ c.loop-k.invariant c.requires.sheet; bands_fit = (c.requires.bands_fit.0, layer_axes a.s a.b c.loop-k.k c.requires.bands_fit.1 c.loop-k.invariant.walk.low c.loop-k-test.true); to_le_r0 = (h.0, h.1, omega (arith, h.2, c.loop-k-test.true)) }

pub loop-k-preserved : goal.loop-k-preserved
loop-k-preserved c =
    let a = c.args in
    let w = c.loop-k.invariant in
    let k = c.loop-k.k in
    along_on a.r a.b.k k _ _ _ _ _ _ w c.loop-k-test.true c.mark_layer.ensures (more_k a.s a.b.k k w.walk a.b.i a.b.j)

pub returns : goal.returns
returns c =
    let a = c.args in
    let w = c.loop-k.invariant in
    painted_same a.r _ _ _ _ w.painted (done_k a.s a.b.k c.loop-k.k w.walk c.loop-k-test.false a.b.i a.b.j)
