-- `fill_walks::walk` meets its contract: the rest of the walk from here leaves what the whole walk leaves, and what changed so far lies on the way here. Assumes nothing.
use mathlib.Core.Path.{◌≡◌, sym, ap, subst, ◌∙◌}
use Prim.Native.Nat.{ℕ, ◌+◌, ◌-◌, ◌≤◌, ◌<◌}
use native.Mathlib.Omega.{arith}
use lib.ListN.{length, set, length-set}
use Rattle.fill_walks.specs.Rays.{ray, Along, walked_along}
use Rattle.fill_walks.proofs.Rays.{along_step, go_none, go_pass, go_mark, go_stop}
use Rattle.fill_walks.proofs.Trails.{stands_on, trail_as, trail_more, trail_mark}
use Rattle.fill_walks.proofs.walk.Goals as goal
use Rattle.fill_walks.proofs.walk.Goals.{In-loop-n}

-- another step is left
left : (count n : ℕ) → n < count → 0 < count - n
left count n h = omega arith

-- the next number is below the length, and so is the rest of the ray
next : (c : In-loop-n) →
    (c.args.sub ≤ c.loop-n.at + c.args.add)
    × (c.loop-n.at + c.args.add - c.args.sub < length c.args.l.now)
    × Along (length c.args.l.now) (c.loop-n.at + c.args.add - c.args.sub) c.args.add c.args.sub (c.args.count - c.loop-n.n - 1)
next c = along_step _ _ _ _ _ (left _ _ c.loop-n-test.true) c.loop-n.invariant.2

-- one step less is left
one_less : (count n : ℕ) → count - n - 1 ≡ count - (n + 1)
one_less count n = omega arith

pub overflow_sub-at : goal.overflow_sub-at
overflow_sub-at c = (next c).0

pub bounds-l-at : goal.bounds-l-at
bounds-l-at c = omega (arith, (next (goal.at.bounds-l-at c).In-loop-n).1, c.loop-n.invariant.1)

pub returns-then-surface : goal.returns-then-surface
returns-then-surface c = record { l_after = sym (go_mark _ _ _ _ _ _ (left _ _ c.loop-n-test.true) c.if-v-pass.true c.if-surface.true) ∙ c.loop-n.invariant.3; upper_bound = (omega arith, trail_mark _ _ _ _ _ _ _ _ (omega (arith, (next (goal.at.returns-then-surface c).In-loop-n).1, c.loop-n.invariant.1)) c.loop-n.invariant.5) }

pub returns-else-surface : goal.returns-else-surface
returns-else-surface c = record { l_after = sym (go_stop _ _ _ _ _ _ (left _ _ c.loop-n-test.true) c.if-v-pass.true c.if-surface.false) ∙ c.loop-n.invariant.3; upper_bound = (omega arith, c.loop-n.invariant.5) }

pub bounds-l-at-in-loop-n : goal.bounds-l-at-in-loop-n
bounds-l-at-in-loop-n c = omega (arith, (next (goal.at.bounds-l-at-in-loop-n c).In-loop-n).1, c.loop-n.invariant.1)

pub loop-n-preserved : goal.loop-n-preserved
loop-n-preserved c =
    let n = next (goal.at.loop-n-preserved c).In-loop-n in
    let i = c.loop-n.invariant in
    let a = c.args in
    let e = one_less a.count c.loop-n.n in
    let at : ℕ = c.loop-n.at + a.add - a.sub in
    let on = stands_on a.p _ _ _ _ _ n.0 i.4 in (
      n.1,
      simp length-set i.1,
      subst (λ (m : ℕ). Along (length a.l.now) at a.add a.sub m) e n.2,
      ap (λ (m : ℕ). walked_along a.p (ray at a.add a.sub m) (set c.loop-n.l at a.p.todo)) (sym e)
          ∙ sym (go_pass _ _ _ _ _ _ (left _ _ c.loop-n-test.true) c.if-v-pass.false) ∙ i.3,
      on,
      trail_more a.p _ _ _ _ _ _ _ (omega (arith, n.1, i.1)) on i.5,
    )

pub returns : goal.returns
returns c =
    let e : c.loop-n.n ≡ c.args.count = omega arith in record {
      l_after = sym (go_none _ _ _ _ _ _ (omega arith)) ∙ c.loop-n.invariant.3;
      upper_bound = (omega arith, trail_as _ _ _ _ e c.loop-n.invariant.5);
    }
