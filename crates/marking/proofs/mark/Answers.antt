-- `marking::mark` meets its contract: a refusal, or zeros and then every triangle. Assumes nothing.
use Rattle.std.specs.Prelude.{Ok}
use mathlib.Core.List.{List}
use mathlib.Core.Path.{◌≡◌, sym, ap, subst, ◌∙◌}
use Prim.Native.Nat.{ℕ}
use lib.ListN.{length, replicate, length-replicate}
use Rattle.grid.specs.Answers.{lent_after, Checked, ◌and_then◌}
use Rattle.marking_mesh.specs.Faults.{mesh_fault}
use Rattle.marking.specs.Marked.{is_surface, marked_labels}
use Rattle.grid.specs.Grid.{Sheet}
use Rattle.marking.specs.Painted.{Painted}
use Rattle.marking.proofs.Laws.{ready, painted_marked}
use Rattle.marking.proofs.mark.Goals as goal
use Rattle.marking.proofs.mark.Goals.{In_ok-mesh_fault}

-- the checks found nothing
fine : (c : In_ok-mesh_fault) → mesh_fault c.args.points.now c.args.triangles.now c.args.r c.args.placement (length c.args.labels.now) ≡ Ok tt
fine c = sym c.mesh_fault.ensures ∙ c.in_ok-mesh_fault.was

pub mark_triangles-requires : goal.mark_triangles-requires
mark_triangles-requires c = let a = c.args in
    let l = a.labels.now in
    let w = ready a.points.now a.triangles.now a.r a.placement (length l) (fine (goal.at.mark_triangles-requires c).In_ok-mesh_fault) in
    let zeros : Sheet a.r (replicate (length l) 0) = record { sound = w.1; size = length-replicate (length l) 0 ∙ w.2 } in record { sheet = subst (Sheet a.r) (sym (c.fill.ensures.after (λ y h. h))) zeros; ready = w.0 }

pub returns : goal.returns
returns c = let a = c.args in
    let l = a.labels.now in
    let ok = fine (goal.at.returns c).In_ok-mesh_fault in
    let w = ready a.points.now a.triangles.now a.r a.placement (length l) ok in
    let done = subst (λ (z : List ℕ). Painted a.r (is_surface a.points.now a.triangles.now a.r a.placement) z c.mark_triangles.new.labels) (c.fill.ensures.after (λ y h. h)) c.mark_triangles.ensures in record { answer = ap (λ (x : Checked). (x and_then Ok tt)) (sym ok); labels_after = painted_marked a.points.now a.triangles.now a.r a.placement (length l) _ w.2 done ∙ ap (λ (x : Checked). lent_after x l (marked_labels a.points.now a.triangles.now a.r a.placement)) (sym ok) }
