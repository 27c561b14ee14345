-- `numbers::ceil` meets its contract: the ceiling is the floor of -x, negated (`ceil_is`). Assumes nothing.
use Rattle.std.proofs.lemmas.Result.{err_from_is_err_and}
use Rattle.std.specs.Prelude.{Ok}
use mathlib.Core.Path.{◌≡◌, sym, ap, ◌∙◌, subst}
use Prim.Native.Nat.{◌<◌, ◌*◌, ◌^◌}
use lib.IntN.{ℤ, neg_ℤ}
use lib.Signed.{mag}
use lib.Ieee.{neg}
use native.Mathlib.Nat.{lt_of_lt_of_le}
use lib.Dec.{lit<, lit≤}
use Rattle.numbers.specs.Rounding.{floor_times, limit}
use Rattle.numbers.proofs.Laws.{map_whole, ceil_is, Under, floor_under, minus_fits, minus_back}
use Rattle.numbers.proofs.ceil.Goals as goal

abbrev n : goal.In_ok-n → ℤ
n c = c.in_ok-n.n

floor_is : (c : goal.In_ok-n) → floor_times (2 ^ 0) (neg c.args.x) ≡ Ok (n c)
floor_is c = sym c.floor_scaled.ensures ∙ c.in_ok-n.was

small : (c : goal.In_ok-n) → mag (n c) < 2 ^ 62
small c =
    lt_of_lt_of_le (subst (Under (1 * limit)) (floor_is c) (floor_under (2 ^ 0) (neg c.args.x) (lit< tt))) (lit≤ tt)

pub overflow_sub-result : goal.overflow_sub-result
overflow_sub-result c = minus_fits (n c) (small c)

pub returns : goal.returns
returns c = ap Ok (minus_back (n c) (small c)) ∙ sym (ceil_is c.args.x ∙ ap (map_whole neg_ℤ) (floor_is c))

pub returns-in_err-n : goal.returns-in_err-n
returns-in_err-n c =
    let p = err_from_is_err_and c.from_residual.result c.from_residual.ensures.1 in
    rw (p.1, p.2) (sym (ceil_is c.args.x ∙ ap (map_whole neg_ℤ) (sym c.floor_scaled.ensures ∙ c.in_err-n.was)))
