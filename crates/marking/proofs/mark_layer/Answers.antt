-- `marking::mark_layer` meets its contract: a loop along j (`Along`), a row in each turn, over what the layer's cuts leave. Assumes nothing.
use native.Mathlib.Nat.{le_trans}
use native.Mathlib.Omega.{arith}
use Rattle.marking.specs.Painted.{one}
use Rattle.marking.proofs.Paint.{along_starts, along_on, along_sheet, painted_same, none_along_j, more_j, done_j, row_rest, layer_left}
use Rattle.marking.proofs.mark_layer.Goals as goal

pub loop-j-init : goal.loop-j-init
loop-j-init c =
    let a = c.args in
    along_starts a.r c.layer_along_j-f.result _ a.labels.now (none_along_j a.s c.layer_along_j-f.result c.layer_along_i-e.result (one a.k))

pub mark_row-requires : goal.mark_row-requires
mark_row-requires c = let a = c.args in
    let h = c.requires.to_le_r0 in
    let j = c.loop-j.j in
    let w = c.loop-j.invariant in record { sheet = along_sheet a.r c.layer_along_j-f.result j _ _ _ w c.requires.sheet; bands_fit = (c.requires.bands_fit.0, row_rest a.s c.requires.bands_fit.0 a.b a.k c.layer_along_i-e.result c.layer_along_j-f.result c.layer_along_i-e.ensures c.layer_along_j-f.ensures c.requires.bands_fit.1 j w.walk.low c.loop-j-test.true); to_le_r0 = (le_trans c.layer_along_i-e.ensures.within h.0, omega (arith, h.1, c.loop-j-test.true, c.layer_along_j-f.ensures.within), h.2) }

pub loop-j-preserved : goal.loop-j-preserved
loop-j-preserved c =
    let a = c.args in
    let w = c.loop-j.invariant in
    let j = c.loop-j.j in
    let f = c.layer_along_j-f.result in
    along_on a.r f j _ _ _ _ _ _ w c.loop-j-test.true c.mark_row.ensures (more_j a.s f j w.walk c.layer_along_i-e.result (one a.k))

pub returns : goal.returns
returns c =
    let a = c.args in
    let w = c.loop-j.invariant in
    let cut = painted_same a.r _ _ _ _ w.painted (done_j a.s c.layer_along_j-f.result c.loop-j.j w.walk c.loop-j-test.false c.layer_along_i-e.result (one a.k)) in
    painted_same a.r _ _ _ _ cut (layer_left a.s c.requires.bands_fit.0 a.b a.k c.layer_along_i-e.result c.layer_along_j-f.result c.layer_along_i-e.ensures c.layer_along_j-f.ensures)
