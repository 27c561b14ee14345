-- What cutting a row of places leaves of it: the places x where step * x is from low to high, and the cells of a row that bands leave. Definitions only.
use Rattle.std.specs.Prelude.{Bool, ◌&&◌, ◌≡◌, ℕ, ◌≤◌, ◌<◌, ◌^◌, leb, ltb, ℤ, pos, ◌*ℤ◌}
use Rattle.std.specs.Int.Signed.{le_z}
use Rattle.touch.specs.declared.Band.{Band}
use Rattle.touch.specs.declared.Three.{Three}
use Rattle.touch.specs.declared.Bands.{Bands}
use Rattle.touch.specs.Bands.{kept, kept_three}
use Rattle.grid.specs.declared.Cell.{Cell}
use Rattle.grid.specs.declared.Stretch.{Stretch}
use Rattle.grid.specs.declared.Block.{Block}
use Rattle.marking_mesh.specs.Ranges.{between, holds}

-- step * x is from low to high
abbrev pub lies : ℤ → ℤ → ℤ → ℕ → Bool
lies step low high x = le_z low (step *ℤ pos x) && le_z (step *ℤ pos x) high

-- a has the places of e that `keeps` keeps, and ends no later
pub record Cut (e : Stretch) (keeps : ℕ → Bool) (a : Stretch) : Type 0 where
  pub places : (x : ℕ) → between a x ≡ (between e x && keeps x)
  pub within : a.to ≤ e.to

-- a step above 0
pub record Rising (step : ℤ) : Type 0 where
  pub size : ℕ
  pub is : step ≡ pos size
  pub some : 0 < size
  pub small : size ≤ 2 ^ 49

-- from n on, and not before, the places past `from` have reached low; before n, and not from there on, those before `to` are not above high
pub record First (step low : ℤ) (from n : ℕ) : Type 0 where
  pub after : from ≤ n
  pub reached : (x : ℕ) → from ≤ x → le_z low (step *ℤ pos x) ≡ leb n x

pub record Past (step high : ℤ) (to n : ℕ) : Type 0 where
  pub before : n ≤ to
  pub under : (x : ℕ) → x < to → le_z (step *ℤ pos x) high ≡ ltb x n

-- the cells of a row along i, along j and along k that are left
abbrev pub on_axis_i : Band → ℤ → ℤ → ℕ → Bool
on_axis_i s j k x = kept s (pos x) j k

abbrev pub on_axis_j : Band → ℤ → ℤ → ℕ → Bool
on_axis_j s i k x = kept s i (pos x) k

abbrev pub on_axis_k : Band → ℤ → ℤ → ℕ → Bool
on_axis_k s i j x = kept s i j (pos x)

-- what the thirteen come to in a layer: the products with x say nothing of i, those with y nothing of j, those with z nothing of k (`layer_all` in proofs/Laws.antt)
abbrev pub across_x : Bands → ℕ → ℕ → Bool
across_x s k j = kept s.edge01.x (pos 0) (pos j) (pos k) && kept s.edge12.x (pos 0) (pos j) (pos k) && kept s.edge20.x (pos 0) (pos j) (pos k)

abbrev pub across_y : Bands → ℕ → ℕ → Bool
across_y s k i = kept s.edge01.y (pos i) (pos 0) (pos k) && kept s.edge12.y (pos i) (pos 0) (pos k) && kept s.edge20.y (pos i) (pos 0) (pos k)

abbrev pub rest_of_row : Bands → ℕ → ℕ → ℕ → Bool
rest_of_row s j k i =
    kept s.normal (pos i) (pos j) (pos k) && kept s.edge01.z (pos i) (pos j) (pos 0) && kept s.edge12.z (pos i) (pos j) (pos 0) && kept s.edge20.z (pos i) (pos j) (pos 0)

-- and in a slab (`slab_all`)
abbrev pub across_z : Bands → ℕ → ℕ → Bool
across_z s i j = kept s.edge01.z (pos i) (pos j) (pos 0) && kept s.edge12.z (pos i) (pos j) (pos 0) && kept s.edge20.z (pos i) (pos j) (pos 0)

abbrev pub rest_along_k : Bands → ℕ → ℕ → ℕ → Bool
rest_along_k s i j k =
    kept s.normal (pos i) (pos j) (pos k) && kept s.edge01.x (pos 0) (pos j) (pos k) && kept s.edge12.x (pos 0) (pos j) (pos k) && kept s.edge20.x (pos 0) (pos j) (pos k)

abbrev pub axes_leave : Three → Cell → Bool
axes_leave s c = kept_three s (pos c.i) (pos c.j) (pos c.k)

-- a has the cells of b that the axes leave, and ends no later
pub record Clipped (axes : Three) (b a : Block) : Type 0 where
  pub cells : (c : Cell) → holds a c ≡ (holds b c && axes_leave axes c)
  pub i_within : a.i.to ≤ b.i.to
  pub j_within : a.j.to ≤ b.j.to
  pub k_within : a.k.to ≤ b.k.to
