-- `marking_checks::first_missing` meets its contract. The loop's invariant is `Looking`: the place is still to be found, from k on. Assumes nothing.
use borrow.Author.Tests.{lt-ltb, le-ltb}
use lib.ListN.{get_or}
use Rattle.grid.proofs.First.{looking_on, looking_here, looking_done}
use Rattle.marking_checks.proofs.first_missing.Goals as goal

pub loop-k-preserved : goal.loop-k-preserved
loop-k-preserved c =
    let a = c.args in
    looking_on _ 0 _ c.loop-k.k c.loop-k-test.true c.loop-k.invariant (lt-ltb (get_or a.ts.now c.loop-k.k 0) a.n c.if-n-v.false)

pub returns-then-n-v : goal.returns-then-n-v
returns-then-n-v c =
    let a = c.args in
    looking_here _ 0 _ c.loop-k.k c.loop-k-test.true c.loop-k.invariant (le-ltb (get_or a.ts.now c.loop-k.k 0) a.n c.if-n-v.true)

pub returns : goal.returns
returns c = looking_done _ 0 _ _ c.loop-k-test.false c.loop-k.invariant
