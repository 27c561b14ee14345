-- `marking_candidates::candidates` meets its contract, axis by axis. Assumes nothing.
use Rattle.touch.specs.Touch.{vertex}
use Rattle.marking_mesh.proofs.Laws.{on_i, on_j, on_k, on_vertex, handed_on, handed_ends}
use Rattle.marking_candidates.proofs.candidates.Goals as goal

pub ends_of-j-requires : goal.ends_of-j-requires
ends_of-j-requires c = let a = c.args in record { all_on_axis = handed_on a.r.r1 c.requires.sound.axis1 a.t 1 (λ v k. on_j a.r (vertex a.t v) (on_vertex a.r a.t c.requires.on_cells v k)); axis = c.requires.sound.axis1 }

pub ends_of-k-requires : goal.ends_of-k-requires
ends_of-k-requires c = let a = c.args in record { all_on_axis = handed_on a.r.r2 c.requires.sound.axis2 a.t 2 (λ v k. on_k a.r (vertex a.t v) (on_vertex a.r a.t c.requires.on_cells v k)); axis = c.requires.sound.axis2 }

pub returns : goal.returns
returns c =
    let r = c.args.r in
    let t = c.args.t in
    let s = c.requires.sound in
    let on = on_vertex r t c.requires.on_cells in
    record {
      on_i = handed_ends r.r0 s.axis0 t 0 (λ v k. on_i r (vertex t v) (on v k)) _ c.ends_of-i.ensures;
      on_j = handed_ends r.r1 s.axis1 t 1 (λ v k. on_j r (vertex t v) (on v k)) _ c.ends_of-j.ensures;
      on_k = handed_ends r.r2 s.axis2 t 2 (λ v k. on_k r (vertex t v) (on v k)) _ c.ends_of-k.ensures;
    }
