-- `marking_cuts::band_along_i` meets its contract: the band's test along the row is a line's (`line_i`). Assumes nothing.
use native.Mathlib.Omega.{arith}
use lib.IntN.{◌+ℤ◌, ◌*ℤ◌}
use mir.Syntax.{w64}
use mir.Val.{to_z, of_z}
use Prim.Native.Nat.{◌+◌, ◌*◌, ◌^◌}
use Rattle.ints.specs.Bound.{Val, arg, plus, minus, times, v_in, v_add, v_sub, v_mul, fits, in_up}
use Rattle.marking_cuts.proofs.Laws.{line_i, cut_is, cut_same}
use Rattle.marking_cuts.proofs.band_along_i.Goals as goal
use Rattle.marking_cuts.proofs.band_along_i.Goals.{Start}

-- what the row adds to every place
base : (c : Start) → Val (2 ^ 49 * 255 + 2 ^ 49 * 255) (to_z w64 (of_z w64 (to_z w64 (of_z w64 (to_z w64 (of_z w64 c.args.s.y) *ℤ to_z w64 (of_z w64 c.args.j))) +ℤ to_z w64 (of_z w64 (to_z w64 (of_z w64 c.args.s.z) *ℤ to_z w64 (of_z w64 c.args.k)))))) (c.args.s.y *ℤ c.args.j +ℤ c.args.s.z *ℤ c.args.k)
base c = plus tt (times tt (arg tt c.requires.1.y_in) (arg tt c.requires.2)) (times tt (arg tt c.requires.1.z_in) (arg tt c.requires.3))

pub overflow_mul-base : goal.overflow_mul-base
overflow_mul-base c = fits tt (v_mul (arg tt c.requires.1.y_in) (arg tt c.requires.2))

pub overflow_mul-base-2 : goal.overflow_mul-base-2
overflow_mul-base-2 c = fits tt (v_mul (arg tt c.requires.1.z_in) (arg tt c.requires.3))

pub overflow_add-base : goal.overflow_add-base
overflow_add-base c =
    let p = c.requires in
    fits tt (v_add (times tt (arg tt p.1.y_in) (arg tt p.2)) (times tt (arg tt p.1.z_in) (arg tt p.3)))

pub overflow_sub-s : goal.overflow_sub-s
overflow_sub-s c = fits tt (v_sub (arg tt c.requires.1.low_in) (base (goal.at.overflow_sub-s c).Start))

pub overflow_sub-s-2 : goal.overflow_sub-s-2
overflow_sub-s-2 c = fits tt (v_sub (arg tt c.requires.1.high_in) (base (goal.at.overflow_sub-s-2 c).Start))

pub cut-requires : goal.cut-requires
cut-requires c =
    let p = c.requires in (
      omega (arith, c.if-to-from.false),
      p.0,
      v_in (arg tt p.1.x_in),
      in_up (2 ^ 61) tt (v_in (minus tt (arg tt p.1.low_in) (base (goal.at.cut-requires c).Start))),
      in_up (2 ^ 61) tt (v_in (minus tt (arg tt p.1.high_in) (base (goal.at.cut-requires c).Start))),
    )

pub returns : goal.returns
returns c =
    let a = c.args in
    let p = c.requires in
    cut_same a.e _ _ _ (cut_is a.e _ (arg tt p.1.x_in).is (minus tt (arg tt p.1.low_in) (base (goal.at.returns c).Start)).is (minus tt (arg tt p.1.high_in) (base (goal.at.returns c).Start)).is c.cut.ensures) (line_i a.s a.j a.k)
