-- `list_tally::count_layer` meets its contract: a loop along j (`Tallied`), a row in each turn, over what the layer's cuts leave. Assumes nothing.
use mathlib.Core.Path.{◌∙◌}
use native.Mathlib.Nat.{le_trans}
use native.Mathlib.Omega.{arith}
use Rattle.marking.specs.Painted.{left_in, row_of, one}
use Rattle.marking.proofs.Paint.{more_j, none_along_j, done_j, row_rest, layer_left}
use Rattle.list_tally.specs.Pairs.{surface_in}
use Rattle.list_tally.proofs.Sizes.{tallied_starts, tallied_on, tallied_most, surface_same, size_most, apart_j}
use Rattle.list_tally.proofs.count_layer.Goals as goal

pub loop-j-init : goal.loop-j-init
loop-j-init c =
    let a = c.args in
    let f = c.layer_along_j-f.result in
    tallied_starts a.r a.labels.now f _ (none_along_j a.s f c.layer_along_i-e.result (one a.k))

pub count_row-n-requires : goal.count_row-n-requires
count_row-n-requires c = let a = c.args in
    let h = c.requires.to_le_r0 in
    let w = c.loop-j.invariant in record { sheet = c.requires.sheet; bands_fit = (c.requires.bands_fit.0, row_rest a.s c.requires.bands_fit.0 a.b a.k c.layer_along_i-e.result c.layer_along_j-f.result c.layer_along_i-e.ensures c.layer_along_j-f.ensures c.requires.bands_fit.1 c.loop-j.j w.walk.low c.loop-j-test.true); to_le_r0 = (le_trans c.layer_along_i-e.ensures.within h.0, omega (arith, h.1, c.loop-j-test.true, c.layer_along_j-f.ensures.within), h.2) }

pub overflow_add-n : goal.overflow_add-n
overflow_add-n c =
    let a = c.args in
    let s = c.requires.sheet.sound in
    omega (arith, tallied_most a.r s c.layer_along_j-f.result _ _ _ c.loop-j.invariant, c.count_row-n.ensures, size_most a.r s (surface_in a.r a.labels.now (left_in (row_of c.layer_along_i-e.result c.loop-j.j a.k) a.s)))

pub loop-j-preserved : goal.loop-j-preserved
loop-j-preserved c =
    let a = c.args in
    let w = c.loop-j.invariant in
    let j = c.loop-j.j in
    let f = c.layer_along_j-f.result in
    let e = c.layer_along_i-e.result in
    tallied_on a.r a.labels.now f j _ _ _ _ _ w c.loop-j-test.true c.count_row-n.ensures (more_j a.s f j w.walk e (one a.k)) (apart_j a.s f j e (one a.k))

pub returns : goal.returns
returns c =
    let a = c.args in
    let w = c.loop-j.invariant in
    w.count
    ∙ surface_same a.r a.labels.now _ _
    (λ d. done_j a.s c.layer_along_j-f.result c.loop-j.j w.walk c.loop-j-test.false c.layer_along_i-e.result (one a.k) d ∙ layer_left a.s c.requires.bands_fit.0 a.b a.k c.layer_along_i-e.result c.layer_along_j-f.result c.layer_along_i-e.ensures c.layer_along_j-f.ensures d)
