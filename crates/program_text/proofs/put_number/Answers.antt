-- `program_text::put_number` meets its contract: the space, and then the digits. Assumes nothing.
use native.Mathlib.Omega.{arith}
use mathlib.Core.List.{◌∷◌, []}
use mathlib.Core.Path.{◌∙◌}
use Prim.Native.Nat.{◌+◌}
use Rattle.program_text.specs.Text.{decimal}
use Rattle.program_text.proofs.Laws.{decimal_is, few_digits, put_one, put_then, put_as}
use Rattle.program_text.proofs.put_number.Goals as goal

pub returns : goal.returns
returns c =
    let e = decimal_is c.args.number c.decimal-k.result c.decimal-k.ensures.len (few_digits c.args.number c.decimal-k.result c.decimal-k.ensures.len c.ranges.number.fits) in
    put_then c.args.at (c.args.at + 1) _ (32 ∷ []) (decimal c.args.number) c.args.out.now _ _ (put_one c.args.at 32 c.args.out.now (omega (arith, c.requires))) (put_as (c.args.at + 1) _ _ _ _ _ (c.decimal-k.ensures.digits ∙ e) c.put_bytes.ensures)
