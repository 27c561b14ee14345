-- `numbers::shifted` meets its contract. The product is below 2 ^ 54, and from 62 places on only its sign is left. Assumes nothing.
use native.Mathlib.Omega.{arith}
use mathlib.Core.Path.{sym, ap, ◌∙◌}
use mathlib.Core.Bool.{Bool, true, false}
use Prim.Native.Nat.{ℕ, ◌*◌, ◌^◌, ◌<◌}
use Rattle.numbers.specs.Rounding.{signed, floor_z}
use Rattle.numbers.proofs.Laws.{down_positive, down_negative, clamped}
use Rattle.numbers.proofs.shifted.Goals as goal
use Rattle.numbers.proofs.shifted.Goals.{Start}

bound : (d : ℕ) → d < 2 ^ 24 → d * 2 ^ 30 < 2 ^ 54
bound d h = omega arith

-- the digits, 30 places up
abbrev v : Start → ℕ
v c = c.args.d * 2 ^ 30

small : (c : Start) → v c < 2 ^ 54
small c = bound c.args.d c.requires

pub returns-then-k-gt62 : goal.returns-then-k-gt62
returns-then-k-gt62 c =
    down_negative (v (goal.at.returns-then-k-gt62 c).Start) (2 ^ 62) (small (goal.at.returns-then-k-gt62 c).Start)
    ∙ clamped true (v (goal.at.returns-then-k-gt62 c).Start) c.args.k (small (goal.at.returns-then-k-gt62 c).Start) c.if-k-gt62.true
    ∙ ap (λ (b : Bool). floor_z (signed b (v (goal.at.returns-then-k-gt62 c).Start)) (2 ^ c.args.k)) (sym c.if-neg.true)

pub returns-then-k-gt62-2 : goal.returns-then-k-gt62-2
returns-then-k-gt62-2 c =
    down_positive (v (goal.at.returns-then-k-gt62-2 c).Start) (2 ^ 62) (small (goal.at.returns-then-k-gt62-2 c).Start)
    ∙ clamped false (v (goal.at.returns-then-k-gt62-2 c).Start) c.args.k (small (goal.at.returns-then-k-gt62-2 c).Start) c.if-k-gt62-2.true
    ∙ ap (λ (b : Bool). floor_z (signed b (v (goal.at.returns-then-k-gt62-2 c).Start)) (2 ^ c.args.k)) (sym c.if-neg.false)
