-- `sizing::cells_of` meets its contract: each case is the definition's. Assumes nothing.
use Rattle.std.specs.Prelude.{Ok}
use borrow.Author.Rules.{rules}
use mathlib.Core.Path.{◌≡◌, sym, ap, ◌∙◌, subst}
use Prim.Native.Nat.{◌≤◌, ◌^◌}
use lib.Dec.{lit≤}
use lib.IntN.{ℤ, nat_abs}
use lib.Signed.{nat_abs-le}
use mir.Syntax.{w64}
use mir.Val.{to_z, of_z, SFits}
use Prim.Native.Nat.{zero-le}
use Rattle.sizing.specs.Sizing.{natural}
use Rattle.sizing.proofs.Laws.{count_none, count_some}
use Rattle.sizing.proofs.cells_of.Goals as goal
use Rattle.sizing.proofs.cells_of.Goals.{In-Ok}

-- the arm's number, as the machine reads it back from its bits
abbrev z : In-Ok → ℤ
z c = to_z w64 (of_z w64 c.in-Ok.n)

same : (c : In-Ok) → z c ≡ c.in-Ok.n
same c = search rules

is_w : (c : In-Ok) → Ok (z c) ≡ c.args.w
is_w c = ap Ok (same c) ∙ sym c.in-Ok.is

small : (c : In-Ok) → nat_abs (z c) ≤ 2 ^ 63
small c = let f : SFits w64 (z c) = subst (SFits w64) (sym (same c)) (search rules) in nat_abs-le (z c) f.sfits

pub returns-then-n-lt0 : goal.returns-then-n-lt0
returns-then-n-lt0 c = record { is = count_none (z (goal.at.returns-then-n-lt0 c).In-Ok) c.if-n-lt0.true ∙ ap natural (is_w (goal.at.returns-then-n-lt0 c).In-Ok); room = zero-le }

pub returns-else-n-lt0 : goal.returns-else-n-lt0
returns-else-n-lt0 c = record { is = count_some (z (goal.at.returns-else-n-lt0 c).In-Ok) c.if-n-lt0.false ∙ ap natural (is_w (goal.at.returns-else-n-lt0 c).In-Ok); room = small (goal.at.returns-else-n-lt0 c).In-Ok }

pub returns-in-Err : goal.returns-in-Err
unfolding natural
returns-in-Err c = record { is = sym (ap natural c.in-Err.is); room = lit≤ tt }
