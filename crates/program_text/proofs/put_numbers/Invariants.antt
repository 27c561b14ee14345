-- `program_text::put_numbers` meets its contract: one number after the other. Assumes nothing.
use Rattle.program_text.proofs.Laws.{NumbersTo}
use Rattle.program_text.proofs.put_numbers.Given as goal

abbrev pub invariant-loop-number : goal.invariant-loop-number
invariant-loop-number l = NumbersTo l.at l.numbers l.initial.out l.out l.number-index l.end
