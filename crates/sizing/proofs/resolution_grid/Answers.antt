-- `sizing::resolution_grid` meets its contract: the definition at what each call ensures. Assumes nothing.
use mathlib.Core.Path.{◌≡◌, sym, ap, ◌∙◌}
use Prim.Native.Nat.{ℕ, ◌-◌}
use lib.Ieee.{Float, binary32, lt, div, of_bits}
use Rattle.std.specs.Prelude.{Err}
use Rattle.grid.specs.declared.Refusal.{Refusal}
use Rattle.grid.specs.declared.Reason.TheVariants.{NoExtent}
use Rattle.grid.proofs.Checks.{refused_here, refused_not}
use Rattle.sizing.specs.Sizing.{main_of, dmain_of, extent, extent_at, axis_by_resolution, as_float, placed_at, resolution_axes, resolution_scale, grid_of, least_extent}
use Rattle.sizing.proofs.resolution_grid.Goals as goal
use Rattle.sizing.proofs.resolution_grid.Goals.{After-extent_at-dmain}

-- the main axis's extent
main_is : (c : After-extent_at-dmain) → c.extent_at-dmain.result ≡ dmain_of c.args.s
main_is c =
    let s = c.args.s in
    c.extent_at-dmain.ensures ∙ ap (λ (m : ℕ). extent_at m (extent s.x) (extent s.y) (extent s.z)) c.main_axis-m.ensures

pub returns-then-dmain : goal.returns-then-dmain
unfolding of_bits
returns-then-dmain c =
    ap (λ (f : Refusal). Err f) c.at.ensures
    ∙ refused_here _ NoExtent 0 _ (ap (λ (d : Float). lt d least_extent) (sym (main_is (goal.at.returns-then-dmain c).After-extent_at-dmain)) ∙ c.if-dmain.true)

pub returns : goal.returns
unfolding of_bits
returns c =
    let a = c.args in
    let s = a.s in
    let r = a.resolution in
    let em : c.main_axis-m.result ≡ main_of s = c.main_axis-m.ensures in
    let ed : c.extent_at-dmain.result ≡ dmain_of s = main_is (goal.at.returns c).After-extent_at-dmain in
    let e0 : c.axis_by_resolution-r0.result ≡ (resolution_axes s r).r0 = c.axis_by_resolution-r0.ensures ∙ (λ t. axis_by_resolution r (em t) 0 (extent s.x) (ed t)) in
    let e1 : c.axis_by_resolution-r1.result ≡ (resolution_axes s r).r1 = c.axis_by_resolution-r1.ensures ∙ (λ t. axis_by_resolution r (em t) 1 (extent s.y) (ed t)) in
    let e2 : c.axis_by_resolution-r2.result ≡ (resolution_axes s r).r2 = c.axis_by_resolution-r2.ensures ∙ (λ t. axis_by_resolution r (em t) 2 (extent s.z) (ed t)) in
    let k : c.as_float.result ≡ as_float (r - 1) = c.as_float.ensures in
    let at : c.placed.result ≡ placed_at s (resolution_scale s r) = c.placed.ensures ∙ (λ t. placed_at s (div binary32 (ed t) (k t))) in
    c.graded.ensures
    ∙ (λ t. grid_of (record { r0 = e0 t; r1 = e1 t; r2 = e2 t }) (at t))
    ∙ refused_not _ NoExtent 0 _ (ap (λ (d : Float). lt d least_extent) (sym ed) ∙ c.if-dmain.false)
