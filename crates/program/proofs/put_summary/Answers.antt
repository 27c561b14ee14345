-- `program::put_summary` meets its contract: one line after the other. Assumes nothing.
use native.Mathlib.Omega.{arith}
use mathlib.Core.List.{◌∷◌, [], ◌++◌}
use Rattle.program_text.specs.Text.{line}
use Rattle.program_text.proofs.Laws.{put_then, line_most}
use Rattle.program.specs.Program.{cells_word, outside_word, inside_word, surface_word, left_word, scans_word}
use Rattle.program.proofs.put_summary.Goals as goal

pub put_line-b-requires : goal.put_line-b-requires
put_line-b-requires c =
    let n = c.args.n in
    omega (arith, c.requires, c.put_line-a.ensures.ends, c.put_line-a.ensures.written.size, line_most cells_word (n.axes.r0 ∷ n.axes.r1 ∷ n.axes.r2 ∷ []))

pub put_line-c-requires : goal.put_line-c-requires
put_line-c-requires c =
    let n = c.args.n in
    omega (arith, c.requires, c.put_line-a.ensures.ends, c.put_line-a.ensures.written.size, line_most cells_word (n.axes.r0 ∷ n.axes.r1 ∷ n.axes.r2 ∷ []), c.put_line-b.ensures.ends, c.put_line-b.ensures.written.size, line_most outside_word (n.outside ∷ []))

pub put_line-d-requires : goal.put_line-d-requires
put_line-d-requires c =
    let n = c.args.n in
    omega (arith, c.requires, c.put_line-a.ensures.ends, c.put_line-a.ensures.written.size, line_most cells_word (n.axes.r0 ∷ n.axes.r1 ∷ n.axes.r2 ∷ []), c.put_line-b.ensures.ends, c.put_line-b.ensures.written.size, line_most outside_word (n.outside ∷ []), c.put_line-c.ensures.ends, c.put_line-c.ensures.written.size, line_most inside_word (n.inside ∷ []))

pub put_line-e-requires : goal.put_line-e-requires
put_line-e-requires c =
    let n = c.args.n in
    omega (arith, c.requires, c.put_line-a.ensures.ends, c.put_line-a.ensures.written.size, line_most cells_word (n.axes.r0 ∷ n.axes.r1 ∷ n.axes.r2 ∷ []), c.put_line-b.ensures.ends, c.put_line-b.ensures.written.size, line_most outside_word (n.outside ∷ []), c.put_line-c.ensures.ends, c.put_line-c.ensures.written.size, line_most inside_word (n.inside ∷ []), c.put_line-d.ensures.ends, c.put_line-d.ensures.written.size, line_most surface_word (n.surface ∷ []))

pub put_line-requires : goal.put_line-requires
put_line-requires c =
    let n = c.args.n in
    omega (arith, c.requires, c.put_line-a.ensures.ends, c.put_line-a.ensures.written.size, line_most cells_word (n.axes.r0 ∷ n.axes.r1 ∷ n.axes.r2 ∷ []), c.put_line-b.ensures.ends, c.put_line-b.ensures.written.size, line_most outside_word (n.outside ∷ []), c.put_line-c.ensures.ends, c.put_line-c.ensures.written.size, line_most inside_word (n.inside ∷ []), c.put_line-d.ensures.ends, c.put_line-d.ensures.written.size, line_most surface_word (n.surface ∷ []), c.put_line-e.ensures.ends, c.put_line-e.ensures.written.size, line_most left_word (n.left ∷ []))

pub returns : goal.returns
returns c =
    let n = c.args.n in
    put_then 0 _ _ (line cells_word (n.axes.r0 ∷ n.axes.r1 ∷ n.axes.r2 ∷ []) ++ line outside_word (n.outside ∷ []) ++ line inside_word (n.inside ∷ []) ++ line surface_word (n.surface ∷ []) ++ line left_word (n.left ∷ [])) (line scans_word (n.scans ∷ [])) _ _ _ (put_then 0 _ _ (line cells_word (n.axes.r0 ∷ n.axes.r1 ∷ n.axes.r2 ∷ []) ++ line outside_word (n.outside ∷ []) ++ line inside_word (n.inside ∷ []) ++ line surface_word (n.surface ∷ [])) (line left_word (n.left ∷ [])) _ _ _ (put_then 0 _ _ (line cells_word (n.axes.r0 ∷ n.axes.r1 ∷ n.axes.r2 ∷ []) ++ line outside_word (n.outside ∷ []) ++ line inside_word (n.inside ∷ [])) (line surface_word (n.surface ∷ [])) _ _ _ (put_then 0 _ _ (line cells_word (n.axes.r0 ∷ n.axes.r1 ∷ n.axes.r2 ∷ []) ++ line outside_word (n.outside ∷ [])) (line inside_word (n.inside ∷ [])) _ _ _ (put_then 0 _ _ (line cells_word (n.axes.r0 ∷ n.axes.r1 ∷ n.axes.r2 ∷ [])) (line outside_word (n.outside ∷ [])) _ _ _ c.put_line-a.ensures c.put_line-b.ensures) c.put_line-c.ensures) c.put_line-d.ensures) c.put_line-e.ensures) c.put_line.ensures
