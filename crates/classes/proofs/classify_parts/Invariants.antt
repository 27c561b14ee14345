-- `classes::classify_parts` meets its contract: after p turns the classes are those by the first p parts. Assumes nothing.
use Rattle.classes.specs.Classes.{Classes}
use Rattle.classes.proofs.Naming.{ruled}
use Rattle.classes.proofs.classify_parts.Given as goal

abbrev pub invariant-loop-p : goal.invariant-loop-p
invariant-loop-p l = Classes l.count (ruled l.entries l.ends l.p) l.initial.classes l.classes
