-- Laws of specs/Flood.antt: each label says exactly what it should, and two fills of the same surface cells coincide. Assumes nothing.
use mathlib.Core.Logic.{⊎_elim, ◌↔◌}
use mathlib.Core.Path.{◌≡◌, sym, ◌∙◌}
use mathlib.Core.List.{List}
use Prim.Native.Nat.{ℕ}
use native.Mathlib.Omega.{arith}
use lib.ListN.{length}
use Rattle.grid.specs.declared.Axes.{Axes}
use Rattle.grid.specs.declared.Cell.{Cell}
use Rattle.grid.specs.Grid.{cells, at}
use Rattle.grid.specs.Flood.{NoSurface, Aired, Floods, surface, outside, inside, Flooded}
use Rattle.grid.proofs.Cells.{not_both, by_cell}
use Rattle.grid.proofs.Paths.{joined_kind}

module _ (r : Axes) (m : List ℕ) where
  -- a path to the border passes no surface
  pub aired_open : {c : Cell} → Aired r m c → NoSurface r m c
  aired_open u = ⊎_elim (λ s. s.1) (λ p. p) (joined_kind u)

  module _ (c : Cell) (v : ℕ) where
    -- the three labels, each exactly when
    pub surface_means : Floods r m c v → (v ≡ 8) ↔ (at r m c ≡ 8)
    surface_means f = (to f, back f)
      where
        to : Floods r m c v → v ≡ 8 → at r m c ≡ 8
        to (surface p e) q = p
        to (outside a e) q = absurd (not_both v 6 8 (omega arith) e q)
        to (inside n z e) q = absurd (not_both v 7 8 (omega arith) e q)

        back : Floods r m c v → at r m c ≡ 8 → v ≡ 8
        back (surface p e) q = e
        back (outside a e) q = absurd (aired_open a q)
        back (inside n z e) q = absurd (n q)

    pub outside_means : Floods r m c v → (v ≡ 6) ↔ Aired r m c
    outside_means f = (to f, back f)
      where
        to : Floods r m c v → v ≡ 6 → Aired r m c
        to (surface p e) q = absurd (not_both v 8 6 (omega arith) e q)
        to (outside a e) q = a
        to (inside n z e) q = absurd (not_both v 7 6 (omega arith) e q)

        back : Floods r m c v → Aired r m c → v ≡ 6
        back (surface p e) a = absurd (aired_open a p)
        back (outside b e) a = e
        back (inside n z e) a = absurd (z a)

    pub inside_means : Floods r m c v → (v ≡ 7) ↔ (NoSurface r m c × (Aired r m c → ⊥))
    inside_means f = (to f, back f)
      where
        to : Floods r m c v → v ≡ 7 → NoSurface r m c × (Aired r m c → ⊥)
        to (surface p e) q = absurd (not_both v 8 7 (omega arith) e q)
        to (outside a e) q = absurd (not_both v 6 7 (omega arith) e q)
        to (inside n z e) q = (n, z)

        back : Floods r m c v → NoSurface r m c × (Aired r m c → ⊥) → v ≡ 7
        back (surface p e) a = absurd (a.0 p)
        back (outside b e) a = absurd (a.1 b)
        back (inside n z e) a = e

  floods_one : (c : Cell) (v w : ℕ) → Floods r m c v → Floods r m c w → v ≡ w
  floods_one c v w (surface p e) g = e ∙ sym ((surface_means c w g).1 p)
  floods_one c v w (outside a e) g = e ∙ sym ((outside_means c w g).1 a)
  floods_one c v w (inside n z e) g = e ∙ sym ((inside_means c w g).1 (n, z))

  -- there is one fill
  pub flooded_one : (a b : List ℕ) → length m ≡ cells r → Flooded r m a → Flooded r m b → a ≡ b
  flooded_one a b e f g = by_cell r a b (f.size ∙ e) (g.size ∙ e) (λ c h. floods_one c (at r a c) (at r b c) (f.each c h) (g.each c h))
