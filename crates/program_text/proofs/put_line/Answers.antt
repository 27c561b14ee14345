-- `program_text::put_line` meets its contract: the word, the numbers, and the end of the line. Assumes nothing.
use native.Mathlib.Omega.{arith}
use mathlib.Core.List.{◌∷◌, [], ◌++◌}
use Prim.Native.Nat.{◌<◌}
use lib.ListN.{length}
use Rattle.order.specs.Order.{join_all}
use Rattle.program_text.specs.Text.{spaced}
use Rattle.program_text.proofs.Laws.{numbers_most, put_one, put_then}
use Rattle.program_text.proofs.put_line.Goals as goal

-- after the numbers there is room for the line's end
room : (c : goal.After-slice_known-3-1) → c.put_numbers-end.result < length c.put_numbers-end.new.out
room c =
    omega (arith, c.put_numbers-end.ensures.ends, c.put_numbers-end.ensures.written.size, c.put_bytes-after_word.ensures.ends, c.put_bytes-after_word.ensures.written.size, c.requires, numbers_most c.args.numbers.now)

pub bounds-out-end : goal.bounds-out-end
bounds-out-end c = room c

pub overflow_add-result : goal.overflow_add-result
overflow_add-result c = omega (arith, room c)

pub returns : goal.returns
returns c =
    let a = c.args in
    put_then a.at c.put_numbers-end.result _ (a.word.now ++ join_all spaced a.numbers.now) (10 ∷ []) _ _ _ (put_then a.at _ c.put_numbers-end.result a.word.now (join_all spaced a.numbers.now) _ _ _ c.put_bytes-after_word.ensures c.put_numbers-end.ensures) (put_one c.put_numbers-end.result 10 c.put_numbers-end.new.out (room c))
