-- `program_words::word` stays in its slice, and four bytes make a u32. Assumes nothing.
use mathlib.Core.Path.{refl}
use Rattle.program_words.specs.Words.{word_at}
use Rattle.program_words.proofs.word.Goals as goal

pub returns : goal.returns
unfolding word_at
returns c = refl
