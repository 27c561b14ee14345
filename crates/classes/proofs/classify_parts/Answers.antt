-- `classes::classify_parts` meets its contract: after p turns the classes are those by the first p parts. Assumes nothing.
use mathlib.Core.Path.{subst}
use Prim.Native.Nat.{ℕ}
use Rattle.classes.specs.Classes.{end_of, Classified}
use Rattle.classes.proofs.Naming.{parts_none, parts_more}
use Rattle.classes.proofs.classify_parts.Goals as goal

pub loop-p-init : goal.loop-p-init
loop-p-init c = let a = c.args in parts_none a.entries.now a.ends.now a.count a.classes.now c.requires.classes

pub loop-p-preserved : goal.loop-p-preserved
loop-p-preserved c =
    let a = c.args in
    let p = c.loop-p.p in
    let k = c.classify_part.new.classes in
    let met = subst (λ (from : ℕ). Classified a.entries.now from (end_of a.ends.now p) p c.loop-p.classes k) c.begin_of-from.ensures c.classify_part.ensures in
    parts_more a.entries.now a.ends.now a.count c.requires.named_below.0 c.requires.ended p c.loop-p-test.true a.classes.now c.loop-p.classes k c.loop-p.invariant met
