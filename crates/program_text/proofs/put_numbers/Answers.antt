-- `program_text::put_numbers` meets its contract: one number after the other. Assumes nothing.
use Rattle.program_text.proofs.Laws.{none_put, ends_most, one_number}
use Rattle.program_text.proofs.put_numbers.Goals as goal

pub loop-number-init : goal.loop-number-init
loop-number-init c = let a = c.args in none_put a.at a.numbers.now a.out.now

pub put_number-end-requires : goal.put_number-end-requires
put_number-end-requires c =
    ends_most _ _ _ _ _ _ c.loop-number.invariant c.loop-number-test.true c.requires

pub loop-number-preserved : goal.loop-number-preserved
loop-number-preserved c =
    one_number _ _ _ _ _ _ c.loop-number.invariant _ _ c.loop-number-test.true c.put_number-end.ensures
