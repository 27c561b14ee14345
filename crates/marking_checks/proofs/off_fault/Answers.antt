-- `marking_checks::off_fault` meets its contract: where each point falls on a cell, each corner does. Assumes nothing.
use Rattle.std.specs.Prelude.{Ok}
use mathlib.Core.Bool.{Bool, true, false, true≢false}
use mathlib.Core.List.{List}
use mathlib.Core.Path.{◌≡◌, refl, sym, ap, ◌∙◌}
use Prim.Native.Nat.{ℕ, ◌/◌, ◌<◌}
use lib.Dec.{ltb}
use lib.Ieee.{Float}
use lib.ListN.{length}
use borrow.Author.Tests.{ltb-true}
use Rattle.grid.specs.declared.Axes.{Axes}
use Rattle.grid.specs.declared.Placement.{Placement}
use Rattle.grid.specs.Answers.{fault_if}
use Rattle.grid.specs.First.{first_not}
use Rattle.grid.proofs.First.{at_first}
use Rattle.sizing.specs.Sizing.{points}
use Rattle.marking_mesh.specs.Mesh.{on_grid, vertex_of}
use Rattle.marking_mesh.specs.Ranges.{Named}
use Rattle.marking_checks.proofs.off_fault.Goals as goal
use Rattle.grid.specs.declared.Reason.TheVariants.{OffGrid}

none_off : (ps : List Float) (ts : List ℕ) (r : Axes) (placement : Placement) → Named ps ts → ((v : ℕ) → v < points ps → on_grid r (vertex_of ps placement v) ≡ true)
    → ltb (first_not (λ v. on_grid r (vertex_of ps placement v)) ts) (length ts) ≡ false
none_off ps ts r placement n h = go (ltb k (length ts)) refl
  where
    k : ℕ
    k = first_not (λ v. on_grid r (vertex_of ps placement v)) ts

    go : (b : Bool) → ltb k (length ts) ≡ b → b ≡ false
    go true e =
        let l = ltb-true k (length ts) e in
        absurd (true≢false (sym (h _ (n.names k l)) ∙ at_first (λ v. on_grid r (vertex_of ps placement v)) 0 ts l))
    go false e = refl

pub returns-then-few_and_on : goal.returns-then-few_and_on
returns-then-few_and_on c =
    let a = c.args in
    let k = first_not (λ v. on_grid a.r (vertex_of a.ps.now a.placement v)) a.ts.now in
    sym (ap (λ (b : Bool). fault_if b OffGrid (k / 3) (Ok tt)) (none_off a.ps.now a.ts.now a.r a.placement c.requires.named (c.few_and_on.ensures c.if-few_and_on.true)))
