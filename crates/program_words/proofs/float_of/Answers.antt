-- `program_words::float_of` meets its contract, and never makes a float of a NaN's pattern. Assumes nothing.
use mathlib.Core.Bool.{Bool, not}
use mathlib.Core.Path.{sym, subst}
use lib.Dec.{T}
use lib.Ieee.{nan_bits}
use Rattle.program_words.proofs.Laws.{nan_pattern}
use Rattle.program_words.proofs.float_of.Goals as goal

pub returns-then-field-digits : goal.returns-then-field-digits
returns-then-field-digits c = nan_pattern c.args.bits c.if-field-digits.true

pub float_from_bits-result : goal.float_from_bits-result
unfolding nan_bits
float_from_bits-result c = subst (λ (b : Bool). T (not b)) (sym c.if-field-digits.false) tt
