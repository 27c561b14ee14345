-- What the loop of write_boxes goes by: the boxes of the cells that the walk has passed stand in both outputs. Assumes nothing.
use mathlib.Core.Bool.{Bool, true, false}
use mathlib.Core.Path.{◌≡◌, refl, sym, ap, subst, ◌∙◌}
use mathlib.Core.List.{List, [], ◌∷◌, ◌++◌, append_assoc, append-nil}
use Prim.Native.Nat.{ℕ, zero, suc, ◌+◌, ◌*◌, ◌≤◌, ◌<◌}
use native.Mathlib.Numerals.{add-one}
use native.Mathlib.Omega.{arith}
use lib.Dec.{eqb}
use lib.ListN.{length, length-append}
use lib.Ieee.{Float, nan}
use Rattle.grid.specs.declared.Axes.{Axes}
use Rattle.grid.specs.declared.Cell.{Cell}
use Rattle.grid.specs.declared.Placement.{Placement}
use Rattle.grid.specs.Counts.{count_of}
use Rattle.grid.specs.Grid.{Sheet, at}
use Rattle.grid.proofs.Cells.{cells_max}
use Rattle.grid.proofs.Counts.{count_most}
use Rattle.order.specs.Order.{join_all, AtOrPast, next_cell}
use Rattle.order.specs.Output.{Written}
use Rattle.order.proofs.Orders.{Passing, passing_first, passing_no, passing_yes, passing_done, passing_room}
use Rattle.order.proofs.Outputs.{written_none, written_then}
use Rattle.boxes.specs.Boxes.{cell_corners, cell_triangles, box_cells, box_count, box_points, box_triangles}
use Rattle.boxes_corners.proofs.Rows.{written_as, written_row}
use Rattle.boxes.proofs.Laws.{cell_points, triangles_length, box_count_lem}

-- ---- one box more, and how many there are

-- the triangles of one box more
triangles_more : (m n : ℕ) → box_triangles m (n + 1) ≡ box_triangles m n ++ cell_triangles (8 * (m + n))
unfolding box_triangles
triangles_more m n = ap (box_triangles m) (add-one n) ∙ go m n
  where
    go : (m n : ℕ) → box_triangles m (suc n) ≡ box_triangles m n ++ cell_triangles (8 * (m + n))
    go m zero = append-nil (cell_triangles (8 * m)) ∙ ap (λ (k : ℕ). cell_triangles (8 * k)) (let e : m ≡ m + 0 = omega arith in e)
    go m (suc n) =
        ap (λ (l : List ℕ). cell_triangles (8 * m) ++ l) (go (m + 1) n ∙ ap (λ (k : ℕ). box_triangles (m + 1) n ++ cell_triangles (8 * k)) (let e : m + 1 + n ≡ m + suc n = omega arith in e))
        ∙ sym (append_assoc (cell_triangles (8 * m)) (box_triangles (m + 1) n) (cell_triangles (8 * (m + suc n))))

-- no more boxes than cells
pub count_few : (l : List ℕ) (r : Axes) (label : ℕ) → Sheet r l → count_of label l ≤ 16777216
count_few l r label s = omega (arith, count_most (λ v. eqb v label) l, s.size, cells_max r s.sound)

-- ---- the loop

-- has this cell the label
abbrev pub asked : Axes → List ℕ → ℕ → Cell → Bool
asked r l label c = eqb (at r l c) label

-- n boxes are written, those of `done`, and the walk stands at c
pub record Writing (l : List ℕ) (r : Axes) (label : ℕ) (p : Placement) (ps₀ : List Float) (ts₀ : List ℕ) (ps : List Float) (ts : List ℕ) (n : ℕ) (c : Cell) : Type 0 where
  pub done : List Cell
  pub passing : Passing r (asked r l label) done c
  pub number : n ≡ length done
  pub points : Written nan 0 (box_points p done) ps₀ ps
  pub triangles : Written 0 0 (box_triangles 0 n) ts₀ ts

module _ (l : List ℕ) (r : Axes) (label : ℕ) (p : Placement) (ps₀ : List Float) (ts₀ : List ℕ) (s : Sheet r l) where
  pub writing_none : Writing l r label p ps₀ ts₀ ps₀ ts₀ 0 (record { i = 0; j = 0; k = 0 })
  unfolding box_triangles join_all
  writing_none = record {
    done = [];
    passing = passing_first r s.sound (asked r l label);
    number = refl;
    points = written_none nan 0 ps₀;
    triangles = written_none 0 0 ts₀;
  }

  module _ (ps : List Float) (ts : List ℕ) (n : ℕ) (c : Cell) (a : Writing l r label p ps₀ ts₀ ps ts n c) where
    pub writing_done : r.r0 ≤ c.i → Written nan 0 (box_points p (box_cells r l label)) ps₀ ps × Written 0 0 (box_triangles 0 (box_count l r label)) ts₀ ts
    writing_done h =
        let e = passing_done r s.sound (asked r l label) a.done c a.passing h in
        (written_as nan 0 _ _ ps₀ ps (ap (box_points p) e) a.points, written_as 0 0 _ _ ts₀ ts (ap (box_triangles 0) (a.number ∙ ap (λ (cs : List Cell). length cs) e)) a.triangles)

    module _ (h : c.i < r.r0) (d : Cell) (e : d ≡ next_cell r c) (o : AtOrPast r d) where
      pub writing_no : asked r l label c ≡ false → Writing l r label p ps₀ ts₀ ps ts n d
      writing_no w = record {
        done = a.done;
        passing = passing_no r s.sound (asked r l label) a.done c a.passing h d e o w;
        number = a.number;
        points = a.points;
        triangles = a.triangles;
      }

      module _ (w : asked r l label c ≡ true) where
        -- there is one box more than those written
        pub writing_room : n < count_of label l
        writing_room = omega (arith, a.number, passing_room r s.sound (asked r l label) a.done c a.passing h d e o w, box_count_lem l r label s.size)

        pub writing_yes : (ps' : List Float) (ts' : List ℕ) → Written nan (24 * n) (cell_corners p c) ps ps' → Written 0 (36 * n) (cell_triangles (8 * n)) ts ts' → Writing l r label p ps₀ ts₀ ps' ts' (n + 1) d
        writing_yes ps' ts' x y = record {
          done = a.done ++ (c ∷ []);
          passing = passing_yes r s.sound (asked r l label) a.done c a.passing h d e o w;
          number = omega (arith, a.number, length-append a.done (c ∷ []));
          points =
              written_row (cell_corners p) 24 (cell_points p) nan 0 a.done c ps₀ ps ps' a.points
              (subst (λ (i : ℕ). Written nan i (cell_corners p c) ps ps') (let q : 24 * n ≡ 0 + 24 * length a.done = omega (arith, a.number) in q) x);
          triangles =
              written_as 0 0 _ _ ts₀ ts' (sym (triangles_more 0 n ∙ ap (λ (k : ℕ). box_triangles 0 n ++ cell_triangles (8 * k)) (let q : 0 + n ≡ n = omega arith in q)))
              (written_then 0 0 (box_triangles 0 n) (cell_triangles (8 * n)) ts₀ ts ts' a.triangles
              (subst (λ (i : ℕ). Written 0 i (cell_triangles (8 * n)) ts ts') (let q : 36 * n ≡ 0 + length (box_triangles 0 n) = omega (arith, triangles_length 0 n) in q) y));
        }
