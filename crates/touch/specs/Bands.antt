-- What the test of specs/Touch.antt comes to when that of a triangle is computed once: for each direction the cells that it leaves. proofs/Laws.antt shows the two equal (`bands_touch`). Then the ranges. Definitions only.
use Rattle.std.specs.Prelude.{Bool, ◌&&◌, ◌≡◌, List, ◌<◌, ◌^◌, ℤ, pos, ◌+ℤ◌, ◌-ℤ◌, ◌*ℤ◌}
use Rattle.std.specs.Int.Signed.{le_z}
use Rattle.grid.specs.declared.Cell.{Cell}
use Rattle.numbers.specs.Rounding.{units}
use Rattle.ints.specs.Bound.{In, Each, Every}
use Rattle.ints.specs.Order.{lesser, greater}
use Rattle.touch.specs.declared.Band.{Band}
use Rattle.touch.specs.declared.Three.{Three}
use Rattle.touch.specs.declared.Bands.{Bands}
use Rattle.touch.specs.Touch.{along, vertex, dot_z, cube_reach, cross, axis_x, axis_y, axis_z, normal, edge_of}

-- of a direction d: from the least projection less the reach to the greatest and the reach
unfoldable pub band_of : List ℤ → List (List ℤ) → Band
band_of d t =
    record {
      x = pos units *ℤ along d 0;
      y = pos units *ℤ along d 1;
      z = pos units *ℤ along d 2;
      low = lesser (lesser (dot_z d (vertex t 0)) (dot_z d (vertex t 1))) (dot_z d (vertex t 2)) -ℤ cube_reach d;
      high = greater (greater (dot_z d (vertex t 0)) (dot_z d (vertex t 1))) (dot_z d (vertex t 2)) +ℤ cube_reach d;
    }

abbrev pub three_of : List ℤ → List ℤ → List ℤ → List (List ℤ) → Three
three_of x y z t = record { x = band_of x t; y = band_of y t; z = band_of z t }

-- of the products of an edge with the axes
abbrev pub products_of : List ℤ → List (List ℤ) → Three
products_of e t = three_of (cross e axis_x) (cross e axis_y) (cross e axis_z) t

abbrev pub bands_of : List (List ℤ) → Bands
bands_of t =
    record {
      axes = three_of axis_x axis_y axis_z t;
      normal = band_of (normal t) t;
      edge01 = products_of (edge_of t 0 1) t;
      edge12 = products_of (edge_of t 1 2) t;
      edge20 = products_of (edge_of t 2 0) t;
    }

-- a cell is left
abbrev pub kept : Band → ℤ → ℤ → ℤ → Bool
kept s i j k = le_z s.low (s.x *ℤ i +ℤ s.y *ℤ j +ℤ s.z *ℤ k) && le_z (s.x *ℤ i +ℤ s.y *ℤ j +ℤ s.z *ℤ k) s.high

abbrev pub kept_three : Three → ℤ → ℤ → ℤ → Bool
kept_three s i j k = kept s.x i j k && kept s.y i j k && kept s.z i j k

abbrev pub kept_at : Bands → ℤ → ℤ → ℤ → Bool
kept_at s i j k =
    kept_three s.axes i j k && kept s.normal i j k && kept_three s.edge01 i j k && kept_three s.edge12 i j k && kept_three s.edge20 i j k

unfoldable pub kept_all : Bands → Cell → Bool
kept_all s c = kept_at s (pos c.i) (pos c.j) (pos c.k)

-- ---- the ranges, which hold for up to 1,024 units of a side

-- the coordinates of a vertex that falls on one of 256 cells a side, and of a triangle's three
abbrev pub VertexFits : List ℤ → Type 0
VertexFits v = Each (2 ^ 18) v

abbrev pub TriangleFits : List (List ℤ) → Type 0
TriangleFits t = Every (2 ^ 18) t

-- of the difference of two vertices, and of the product of two differences
abbrev pub EdgeFits : List ℤ → Type 0
EdgeFits v = Each (2 ^ 19) v

abbrev pub DirectionFits : List ℤ → Type 0
DirectionFits d = Each (2 ^ 39) d

-- of a direction times the side, and of projections
pub record BandFits (s : Band) : Type 0 where
  pub x_in : In (2 ^ 49) s.x
  pub y_in : In (2 ^ 49) s.y
  pub z_in : In (2 ^ 49) s.z
  pub low_in : In (2 ^ 59) s.low
  pub high_in : In (2 ^ 59) s.high

pub record ThreeFit (s : Three) : Type 0 where
  pub x_ok : BandFits s.x
  pub y_ok : BandFits s.y
  pub z_ok : BandFits s.z

-- the axes have one coordinate each that is not 0, and an edge's products with them two
pub record Axial (s : Three) : Type 0 where
  pub x_y : s.x.y ≡ pos 0
  pub x_z : s.x.z ≡ pos 0
  pub y_x : s.y.x ≡ pos 0
  pub y_z : s.y.z ≡ pos 0
  pub z_x : s.z.x ≡ pos 0
  pub z_y : s.z.y ≡ pos 0

pub record Crosswise (s : Three) : Type 0 where
  pub x_x : s.x.x ≡ pos 0
  pub y_y : s.y.y ≡ pos 0
  pub z_z : s.z.z ≡ pos 0

-- all of it, which a triangle's bands have (`bands_fit` in proofs/Laws.antt)
pub record BandsFit (s : Bands) : Type 0 where
  pub axes_ok : ThreeFit s.axes
  pub normal_ok : BandFits s.normal
  pub edge01_ok : ThreeFit s.edge01
  pub edge12_ok : ThreeFit s.edge12
  pub edge20_ok : ThreeFit s.edge20
  pub axes_axial : Axial s.axes
  pub edge01_flat : Crosswise s.edge01
  pub edge12_flat : Crosswise s.edge12
  pub edge20_flat : Crosswise s.edge20

-- a cell's coordinates, with a sign and without
pub record CoordinatesFit (i j k : ℤ) : Type 0 where
  pub i_in : In 255 i
  pub j_in : In 255 j
  pub k_in : In 255 k

pub record CellFits (c : Cell) : Type 0 where
  pub i_near : c.i < 256
  pub j_near : c.j < 256
  pub k_near : c.k < 256
