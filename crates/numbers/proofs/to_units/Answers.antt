-- `numbers::to_units` meets its contract: half of one more than the floor of 2 * units * t, rounded down (`nearest_is`). Assumes nothing.
use Rattle.std.proofs.lemmas.Result.{err_from_is_err_and}
use Rattle.std.specs.Prelude.{Ok}
use native.Mathlib.Nat.{lt_of_lt_of_le}
use mathlib.Core.Path.{◌≡◌, sym, ap, ◌∙◌, subst}
use Prim.Native.Nat.{◌<◌, ◌*◌, ◌^◌}
use lib.IntN.{ℤ}
use lib.Signed.{mag}
use lib.Dec.{lit<, lit≤}
use Rattle.numbers.specs.Rounding.{floor_times, units, limit}
use Rattle.numbers.proofs.Laws.{map_whole, halved, nearest_is, Under, floor_under, more_fits, halved_back}
use Rattle.numbers.proofs.to_units.Goals as goal

abbrev n : goal.In_ok-n → ℤ
n c = c.in_ok-n.n

floor_is : (c : goal.In_ok-n) → floor_times (2 * units) c.args.t ≡ Ok (n c)
floor_is c = sym c.floor_scaled.ensures ∙ c.in_ok-n.was

small : (c : goal.In_ok-n) → mag (n c) < 2 ^ 62
small c =
    lt_of_lt_of_le (subst (Under (2 * units * limit)) (floor_is c) (floor_under (2 * units) c.args.t (lit< tt))) (lit≤ tt)

pub overflow_add-result : goal.overflow_add-result
overflow_add-result c = more_fits (n c) (small c)

pub returns : goal.returns
returns c = ap Ok (halved_back (n c) (small c)) ∙ sym (nearest_is units c.args.t ∙ ap (map_whole halved) (floor_is c))

pub returns-in_err-n : goal.returns-in_err-n
returns-in_err-n c =
    let p = err_from_is_err_and c.from_residual.result c.from_residual.ensures.1 in
    rw (p.1, p.2) (sym (nearest_is units c.args.t ∙ ap (map_whole halved) (sym c.floor_scaled.ensures ∙ c.in_err-n.was)))
