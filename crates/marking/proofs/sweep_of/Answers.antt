-- `marking::sweep_of` meets its contract: the cells of the block that the bands leave are those that the triangle hits. Assumes nothing.
use mathlib.Core.Bool.{Bool, true, false, ◌&&◌}
use mathlib.Core.List.{List}
use mathlib.Core.Path.{◌≡◌, refl, sym, ap, subst, ◌∙◌}
use native.Mathlib.Nat.{le_trans}
use lib.Dec.{T, lit<}
use lib.IntN.{ℤ}
use Rattle.grid.specs.declared.Cell.{Cell}
use Rattle.grid.proofs.First.{both_true}
use Rattle.touch.specs.declared.Bands.{Bands}
use Rattle.touch.specs.Bands.{kept_all, TriangleFits, BandsFit}
use Rattle.grid.specs.Grid.{InGrid}
use Rattle.touch.specs.Touch.{vertex, touching}
use Rattle.touch.proofs.Meaning.{own_cell}
use Rattle.touch.proofs.Laws.{bands_fit, bands_touch}
use Rattle.marking_mesh.specs.Mesh.{triangle_of, is_candidate}
use Rattle.marking_mesh.specs.Ranges.{OnCells, holds}
use Rattle.marking_cuts.specs.Cuts.{axes_leave}
use Rattle.marking_cuts.proofs.Laws.{kept_axes}
use Rattle.marking_mesh.proofs.Laws.{on_cells, on_vertex, corners, block_test, ends_in, own_cell_of, own_in, own_is_candidate}
use Rattle.marking.specs.Marked.{hits}
use Rattle.marking.proofs.Paint.{left_hits, clip_left}
use Rattle.marking.proofs.sweep_of.Goals as goal
use Rattle.marking.proofs.sweep_of.Goals.{After-bands_of-bands, After-triangle_of-triangle}

-- the triangle's vertices fall on cells
placed : (c : After-triangle_of-triangle) → OnCells c.args.r (triangle_of c.args.ps.now c.args.ts.now c.args.placement c.args.t)
placed c = let a = c.args in on_cells a.ps.now a.ts.now a.r a.placement c.requires.ready.on a.t c.requires.t_bound

-- and their coordinates have their range
fits : (c : After-triangle_of-triangle) → TriangleFits c.triangle_of-triangle.result
fits c =
    let a = c.args in
    subst TriangleFits (sym c.triangle_of-triangle.ensures) (corners a.ps.now a.ts.now a.r a.placement a.t c.requires.sound (placed c))

-- the bands have their ranges
bands_ok : (c : After-bands_of-bands) → BandsFit c.bands_of-bands.result
bands_ok c = subst BandsFit (sym c.bands_of-bands.ensures) (bands_fit c.triangle_of-triangle.result (fits (goal.at.After-bands_of-bands c).After-triangle_of-triangle))

true_of : (b : Bool) → T b → b ≡ true
true_of true h = refl
true_of false h = absurd h

-- the cell of the first vertex, which is a candidate and touched
own : (c : After-triangle_of-triangle) → (d : Cell) × InGrid c.args.r d × (is_candidate (triangle_of c.args.ps.now c.args.ts.now c.args.placement c.args.t) c.args.r d ≡ true) × (touching (triangle_of c.args.ps.now c.args.ts.now c.args.placement c.args.t) d ≡ true)
own c =
    let a = c.args in
    let t = triangle_of a.ps.now a.ts.now a.placement a.t in
    let w = own_cell_of a.r (vertex t 0) (on_vertex a.r t (placed c) 0 (lit< tt)) in
    (w.0, own_in a.r (vertex t 0) w.0 (on_vertex a.r t (placed c) 0 (lit< tt)) w.1, own_is_candidate t a.r 0 w.0 (placed c) (lit< tt) w.1, true_of (touching t w.0) (own_cell t w.0 0 (lit< tt) w.1.on_i w.1.on_j w.1.on_k))

pub bands_of-bands-requires : goal.bands_of-bands-requires
bands_of-bands-requires c = fits (goal.at.bands_of-bands-requires c).After-triangle_of-triangle

pub clip-block-requires : goal.clip-block-requires
clip-block-requires c = let s = c.requires.sound in record { to_bound = (le_trans (ends_in _ _ _ _ _ c.candidates-all.ensures.on_i) s.axis0.most, le_trans (ends_in _ _ _ _ _ c.candidates-all.ensures.on_j) s.axis1.most, le_trans (ends_in _ _ _ _ _ c.candidates-all.ensures.on_k) s.axis2.most); three_fit = ((bands_ok (goal.at.clip-block-requires c).After-bands_of-bands).axes_ok, (bands_ok (goal.at.clip-block-requires c).After-bands_of-bands).axes_axial) }

pub returns : goal.returns
unfolding hits
returns c =
    let a = c.args in
    let t = c.triangle_of-triangle.result in
    let all = c.candidates-all.result in
    let s = c.bands_of-bands.result in
    let ok = bands_ok (goal.at.returns c).After-bands_of-bands in
    let own_is = own (goal.at.returns c).After-triangle_of-triangle in
    let d = own_is.0 in
    let held : holds all d ≡ true = block_test t a.r all c.candidates-all.ensures d ∙ ap (λ (x : List (List ℤ)). is_candidate x a.r d) c.triangle_of-triangle.ensures ∙ own_is.2 in
    let left : kept_all s d ≡ true = ap (λ (x : Bands). kept_all x d) c.bands_of-bands.ensures ∙ bands_touch t d ∙ ap (λ (x : List (List ℤ)). touching x d) c.triangle_of-triangle.ensures ∙ own_is.3 in
    record {
      fit = ok;
      axial = record { leave = λ e h. (both_true (holds all e) (axes_leave s.axes e) (sym (c.clip-block.ensures.cells e) ∙ h)).1 };
      i_in = le_trans c.clip-block.ensures.i_within (ends_in _ _ _ _ _ c.candidates-all.ensures.on_i);
      j_in = le_trans c.clip-block.ensures.j_within (ends_in _ _ _ _ _ c.candidates-all.ensures.on_j);
      k_in = le_trans c.clip-block.ensures.k_within (ends_in _ _ _ _ _ c.candidates-all.ensures.on_k);
      some = d;
      some_in = own_is.1;
      some_held = c.clip-block.ensures.cells d ∙ (λ i. held i && kept_axes s ok d.i d.j d.k left i);
      cells = λ (e : Cell).
          clip_left s all c.clip-block.result ok c.clip-block.ensures e
          ∙ left_hits t a.r all s c.candidates-all.ensures c.bands_of-bands.ensures e ∙ ap (λ (x : List (List ℤ)). is_candidate x a.r e && touching x e) c.triangle_of-triangle.ensures;
    }
