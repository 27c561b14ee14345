-- `sizing::spans_of` meets its contract. The loop's invariant: the spans are those of the points before i. Assumes nothing.
use native.Mathlib.Omega.{arith}
use mathlib.Core.Path.{◌≡◌, ap, ◌∙◌}
use Prim.Native.Nat.{ℕ, ◌+◌, ◌-◌}
use Rattle.sizing.specs.Sizing.{spans_at, spans_with, spans_to}
use Rattle.sizing.proofs.Laws.{spans_first, spans_next}
use Rattle.sizing.proofs.spans_of.Goals as goal

pub loop-i-init : goal.loop-i-init
loop-i-init c = c.single-s.ensures ∙ ap spans_at c.point_at.ensures ∙ spans_first _

pub loop-i-preserved : goal.loop-i-preserved
loop-i-preserved c =
    let ps = c.args.ps.now in
    let i = c.loop-i.i in
    let here : i ≡ i + 1 - 1 = omega arith in
    c.widened_by-s.ensures
    ∙ (λ t. spans_with (c.loop-i.invariant t) (c.point_at-in-loop-i.ensures t))
    ∙ spans_next ps i (omega arith)
    ∙ ap (λ (n : ℕ). spans_to ps n) here

pub returns : goal.returns
returns c =
    let i = c.loop-i.i in
    c.loop-i.invariant ∙ ap (λ (n : ℕ). spans_to c.args.ps.now n) (omega arith)
