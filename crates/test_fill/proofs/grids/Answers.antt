-- `test_fill::grids` is a power of 2, at most the twelfth. Assumes nothing.
use native.Mathlib.Omega.{arith}
use native.Mathlib.Nat.{mod-le}
use Prim.Native.Nat.{◌*◌, ◌≤◌, ◌^◌}
use lib.Pow.{pow_mono}
use Rattle.test_fill.proofs.grids.Goals as goal

pub returns : goal.returns
returns c = let h : 2 ^ c.args.n ≤ 4096 = pow_mono c.requires in omega (arith, mod-le (1 * 2 ^ c.args.n) 18446744073709551616)
