-- `classes::classify_part` meets its contract: the entries up to e have been met. Assumes nothing.
use Rattle.classes.specs.Classes.{Classified}
use Rattle.classes.proofs.classify_part.Given as goal

abbrev pub invariant-loop-e : goal.invariant-loop-e
invariant-loop-e l = Classified l.entries l.from l.e l.part l.initial.classes l.classes
