-- 01, Fill: a phase, which is scans. Definitions only.
use Rattle.std.specs.Prelude.{◌≡◌, List, ℕ, suc}
use Rattle.grid.specs.declared.Axes.{Axes}
use Rattle.grid.specs.Labels.{SURFACE}
use Rattle.fill_walks.specs.declared.Phase.{Phase}
use Rattle.fill_walks.specs.Scan.{scanned}

-- "A phase ends after a scan that walked none": from the labels l a phase of n scans, the last one included, leaves the labels e
pub data Run (p : Phase) (r : Axes) : List ℕ → List ℕ → ℕ → Type 0 where
  done : {l e : List ℕ} → scanned p r l ≡ record { labels = e; walked = 0 } → Run p r l e 1
  more : {l m e : List ℕ} {w n : ℕ} → scanned p r l ≡ record { labels = m; walked = suc w } → Run p r m e n → Run p r l e (suc n)

-- a phase that ends from any labels: what it sets is neither passed nor walked again
pub record Proper (p : Phase) : Type 0 where
  pub set_unwalked : p.done ≡ p.todo → ⊥
  pub set_unpassed : p.done ≡ p.pass → ⊥
  pub surface_unwalked : p.mark ≡ p.todo → ⊥
  pub surface_unpassed : p.mark ≡ p.pass → ⊥
  pub eight_unwalked : SURFACE ≡ p.todo → ⊥
  pub eight_unpassed : SURFACE ≡ p.pass → ⊥
