-- `list_tally::count_block` meets its contract: a loop along k (`Tallied`), a layer in each turn. Assumes nothing.
use mathlib.Core.Path.{◌∙◌}
use native.Mathlib.Omega.{arith}
use Rattle.marking.specs.Painted.{left_in, layer_of}
use Rattle.marking.proofs.Paint.{more_k, none_along_k, done_k, layer_axes}
use Rattle.list_tally.specs.Pairs.{surface_in}
use Rattle.list_tally.proofs.Sizes.{tallied_starts, tallied_on, tallied_most, surface_same, size_most, apart_k}
use Rattle.list_tally.proofs.count_block.Goals as goal

pub loop-k-init : goal.loop-k-init
loop-k-init c = let a = c.args in tallied_starts a.r a.labels.now a.b.k _ (none_along_k a.s a.b.k a.b.i a.b.j)

pub count_layer-n-requires : goal.count_layer-n-requires
count_layer-n-requires c = let a = c.args in
    let h = c.requires.to_le_r0 in record { sheet = c.requires.sheet; bands_fit = (c.requires.bands_fit.0, layer_axes a.s a.b c.loop-k.k c.requires.bands_fit.1 c.loop-k.invariant.walk.low c.loop-k-test.true); to_le_r0 = (h.0, h.1, omega (arith, h.2, c.loop-k-test.true)) }

pub overflow_add-n : goal.overflow_add-n
overflow_add-n c = let a = c.args in let s = c.requires.sheet.sound in omega (arith, tallied_most a.r s a.b.k _ _ _ c.loop-k.invariant, c.count_layer-n.ensures, size_most a.r s (surface_in a.r a.labels.now (left_in (layer_of a.b c.loop-k.k) a.s)))

pub loop-k-preserved : goal.loop-k-preserved
loop-k-preserved c = let a = c.args in let w = c.loop-k.invariant in let k = c.loop-k.k in tallied_on a.r a.labels.now a.b.k k _ _ _ _ _ w c.loop-k-test.true c.count_layer-n.ensures (more_k a.s a.b.k k w.walk a.b.i a.b.j) (apart_k a.s a.b.k k a.b.i a.b.j)

pub returns : goal.returns
returns c = let a = c.args in let w = c.loop-k.invariant in w.count ∙ surface_same a.r a.labels.now _ _ (done_k a.s a.b.k c.loop-k.k w.walk c.loop-k-test.false a.b.i a.b.j)
