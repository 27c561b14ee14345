-- What the contract of `fill` says: its numbers, that two results coincide in every mode, and demand 2 cell by cell. Assumes nothing.
use Rattle.std.specs.Prelude.{Err}
use mathlib.Core.Logic.{◌↔◌}
use mathlib.Core.Path.{◌≡◌, sym, ap, subst, ◌∙◌}
use mathlib.Core.List.{List, [], ◌∷◌, map}
use Prim.Native.Nat.{ℕ}
use native.Mathlib.Omega.{arith}
use Rattle.grid.specs.declared.Axes.{Axes}
use Rattle.grid.specs.declared.Cell.{Cell}
use Rattle.grid.specs.declared.Refusal.{Refusal}
use Rattle.grid.specs.Answers.{Outcome, Ends, Gives}
use Rattle.grid.specs.Flood.{NoSurface, Aired}
use Rattle.grid.specs.Grid.{InGrid, at}
use Rattle.grid.proofs.Checks.{finds_map, ends_one, ends_same, ends_gives}
use Rattle.grid.proofs.Floods.{surface_means, outside_means, inside_means}
use Rattle.fill_walks.proofs.Runs.{run_one}
use Rattle.fill.specs.declared.FillCounts.{FillCounts}
use Rattle.fill.specs.declared.Mode.{Mode}
use Rattle.fill.specs.declared.Mode.TheVariants.{SurfaceOnly, Flood, Cavities}
use Rattle.fill.specs.Phases.{outward, Alternate}
use Rattle.grid.specs.Passes.{becomes}
use Rattle.fill.specs.Modes.{marks, fill_fault, left, Scans, Fills, Means}
use Rattle.fill.proofs.Swings.{alternate_one}

-- ---- which numbers fill gives: 8, 9 and 11

pub fill_numbers : (mode : Mode) (r : Axes) (l m : List ℕ) (o : Outcome FillCounts) → Ends (fill_fault r l) l (Fills mode r l) o m → Gives (8 ∷ 9 ∷ 11 ∷ []) o
fill_numbers mode r l m o e = ends_gives (8 ∷ 9 ∷ 11 ∷ []) (fill_fault r l) l (Fills mode r l) o m (finds_map (8 ∷ 9 ∷ 11 ∷ []) marks r l tt tt tt) e

-- a refusal leaves every label
pub refused_same : (mode : Mode) (r : Axes) (l m : List ℕ) (f : Refusal) → Ends (fill_fault r l) l (Fills mode r l) (Err f) m → m ≡ l
refused_same mode r l m f e = ends_same (fill_fault r l) l (Fills mode r l) f m e

-- ---- two results that fit coincide, labels, scans and cells left, in every mode

scans_one : (mode : Mode) (r : Axes) (l a b : List ℕ) (i j : ℕ) → Scans mode r l a i → Scans mode r l b j → (a ≡ b) × (i ≡ j)
scans_one SurfaceOnly r l a b i j p q = (p.0 ∙ sym q.0, p.1 ∙ sym q.1)
scans_one Flood r l a b i j p q =
    let u = run_one (outward 8) r p.phase q.phase in
    (p.labels ∙ ap (map (becomes 0 0 7)) u.0 ∙ sym q.labels, u.1)
scans_one Cavities r l a b i j p q =
    let u = run_one (outward 4) r p.phase q.phase in
    let v = alternate_one r (subst (λ (x : List ℕ). Alternate r _ x p.ended p.later) u.0 p.alternate) q.alternate in
    (p.labels ∙ ap (map (becomes 3 5 8)) v.0 ∙ sym q.labels, omega (arith, p.both, q.both, u.1, v.1))

pub fills_one : (mode : Mode) (r : Axes) (l : List ℕ) (m n : FillCounts) (a b : List ℕ) → Fills mode r l m a → Fills mode r l n b → (m ≡ n) × (a ≡ b)
fills_one mode r l m n a b p q =
    let u = scans_one mode r l a b m.scans n.scans p.scanned q.scanned in
    let v : m.left ≡ n.left = p.counted ∙ ap left u.0 ∙ sym q.counted in
    ((λ t. record { scans = u.1 t; left = v t }), u.0)

pub settled : (mode : Mode) (r : Axes) (l : List ℕ) (f g : Outcome FillCounts) (a b : List ℕ)
    → Ends (fill_fault r l) l (Fills mode r l) f a → Ends (fill_fault r l) l (Fills mode r l) g b → (f ≡ g) × (a ≡ b)
settled mode r l f g a b p q =
    let u = ends_one (fill_fault r l) l (Fills mode r l) (λ m n x y _ v w. fills_one mode r l m n x y v w) f g a b p q in
    (u.0, u.1)

-- ---- demand 2: after a fill without cavities, cell by cell

module _ (r : Axes) (l m : List ℕ) (n : FillCounts) (f : Means Flood r l n m) (c : Cell) (h : InGrid r c) where
  -- 8 stays 8, and no other label becomes 8
  pub flood_surface : (at r m c ≡ 8) ↔ (at r l c ≡ 8)
  flood_surface = surface_means r l c (at r m c) (f.0.each c h)

  -- Outside exactly if a path of cells that are no surface joins it to a border cell
  pub flood_outside : (at r m c ≡ 6) ↔ Aired r l c
  flood_outside = outside_means r l c (at r m c) (f.0.each c h)

  -- Inside exactly otherwise
  pub flood_inside : (at r m c ≡ 7) ↔ (NoSurface r l c × (Aired r l c → ⊥))
  flood_inside = inside_means r l c (at r m c) (f.0.each c h)
