-- `edits_reach::reach` meets its contract: each turn keeps where the trip stands, and has less to do. Assumes nothing.
use mathlib.Core.Path.{refl}
use native.Mathlib.Omega.{arith}
use Rattle.edits_reach.proofs.Going.{Going, start, in_c, sheet, place, few_set, skipped, some, pushed, in_e, place_e, pushed_less, walked, popped_less, label_low, way_low, back_room, popped}
use Rattle.edits_reach.proofs.reach.Goals as goal
use Rattle.edits_reach.proofs.reach.Goals.{At-loop-next}

-- where the trip stands from the labels at entry
standing : (c : At-loop-next) →
    let a = c.args in Going a.r a.pass a.done a.stop a.l.now a.s c.loop-next.l c.loop-next.c c.loop-next.n c.loop-next.met c.loop-next.next c.loop-next.count
standing c = c.loop-next.invariant c.args.l.now refl c.number-n.ensures c.requires

pub loop-next-init : goal.loop-next-init
loop-next-init c = λ m e q ok. rw e (start _ _ _ _ m _ ok _ _ _ q c.is_exit-met.ensures c.onward-next.ensures)

pub look-a-requires : goal.look-a-requires
look-a-requires c = record { sheet = sheet _ _ _ _ _ _ c.requires _ _ _ _ _ _ (standing (goal.at.look-a-requires c).At-loop-next); in_grid = (in_c _ _ _ _ _ _ c.requires _ _ _ _ _ _ (standing (goal.at.look-a-requires c).At-loop-next), (standing (goal.at.look-a-requires c).At-loop-next).number) }

pub neighbour-c-requires : goal.neighbour-c-requires
neighbour-c-requires c = record { in_grid = in_c _ _ _ _ _ _ c.requires _ _ _ _ _ _ (standing (goal.at.neighbour-c-requires c).At-loop-next); has_room = some _ _ _ _ _ _ c.requires _ _ _ _ _ _ (standing (goal.at.neighbour-c-requires c).At-loop-next) c.if-next-lt-WAYS.true _ c.look-a.ensures c.if-a-pass.true }

pub bounds-l-n-then-a-pass : goal.bounds-l-n-then-a-pass
bounds-l-n-then-a-pass c = place_e _ _ _ _ _ _ c.requires _ _ _ _ _ _ (standing (goal.at.bounds-l-n-then-a-pass c).At-loop-next) c.if-next-lt-WAYS.true _ c.look-a.ensures c.if-a-pass.true

pub is_exit-met-requires-then-a-pass : goal.is_exit-met-requires-then-a-pass
is_exit-met-requires-then-a-pass c = in_e _ _ _ _ _ _ c.requires _ _ _ _ _ _ (standing (goal.at.is_exit-met-requires-then-a-pass c).At-loop-next) c.if-next-lt-WAYS.true _ c.look-a.ensures c.if-a-pass.true _ c.neighbour-c.ensures

pub loop-next-smaller-then-a-pass : goal.loop-next-smaller-then-a-pass
loop-next-smaller-then-a-pass c = omega (arith, c.if-next-lt-WAYS.true, pushed_less _ _ _ _ _ _ c.requires _ _ _ _ _ _ (standing (goal.at.loop-next-smaller-then-a-pass c).At-loop-next) c.if-next-lt-WAYS.true _ c.look-a.ensures c.if-a-pass.true)

pub loop-next-preserved-then-a-pass : goal.loop-next-preserved-then-a-pass
loop-next-preserved-then-a-pass c = λ m e q ok. pushed _ _ _ _ _ _ ok _ _ _ _ _ _ (c.loop-next.invariant m e q ok) c.if-next-lt-WAYS.true _ c.look-a.ensures c.if-a-pass.true _ c.neighbour-c.ensures _ _ c.is_exit-met-then-a-pass.ensures c.onward-next-then-a-pass.ensures

pub loop-next-preserved-then-next-lt-WAYS : goal.loop-next-preserved-then-next-lt-WAYS
loop-next-preserved-then-next-lt-WAYS c = λ m e q ok. skipped _ _ _ _ _ _ ok _ _ _ _ _ _ (c.loop-next.invariant m e q ok) c.if-next-lt-WAYS.true _ c.look-a.ensures c.if-a-pass.false _ _ c.is_mark-met.ensures c.onward-next-then-next-lt-WAYS.ensures

pub bounds-l-n-in-loop-next : goal.bounds-l-n-in-loop-next
bounds-l-n-in-loop-next c = place _ _ _ _ _ _ c.requires _ _ _ _ _ _ (standing (goal.at.bounds-l-n-in-loop-next c).At-loop-next)

pub bounds-l-n-in-loop-next-2 : goal.bounds-l-n-in-loop-next-2
bounds-l-n-in-loop-next-2 c = place _ _ _ _ _ _ c.requires _ _ _ _ _ _ (standing (goal.at.bounds-l-n-in-loop-next-2 c).At-loop-next)

pub overflow_add-count : goal.overflow_add-count
overflow_add-count c = omega (arith, few_set _ _ _ _ _ _ c.requires _ _ _ _ _ _ (standing (goal.at.overflow_add-count c).At-loop-next))

pub returns-then-back_at_start : goal.returns-then-back_at_start
returns-then-back_at_start c = walked _ _ _ _ _ _ c.requires _ _ _ _ _ _ (standing (goal.at.returns-then-back_at_start c).At-loop-next) c.if-next-lt-WAYS.false c.if-back_at_start.true

pub overflow_sub-v : goal.overflow_sub-v
overflow_sub-v c = label_low _ _ _ _ _ _ c.requires _ _ _ _ _ _ (standing (goal.at.overflow_sub-v c).At-loop-next) c.if-next-lt-WAYS.false c.if-back_at_start.false

pub opposite-back-requires : goal.opposite-back-requires
opposite-back-requires c = way_low _ _ _ _ _ _ c.requires _ _ _ _ _ _ (standing (goal.at.opposite-back-requires c).At-loop-next) c.if-next-lt-WAYS.false c.if-back_at_start.false

pub number_ahead-n-requires : goal.number_ahead-n-requires
number_ahead-n-requires c = record { sound = (c.requires.sheet.sound, in_c _ _ _ _ _ _ c.requires _ _ _ _ _ _ (standing (goal.at.number_ahead-n-requires c).At-loop-next), (standing (goal.at.number_ahead-n-requires c).At-loop-next).number); has_room = back_room _ _ _ _ _ _ c.requires _ _ _ _ _ _ (standing (goal.at.number_ahead-n-requires c).At-loop-next) c.if-next-lt-WAYS.false c.if-back_at_start.false c.opposite-back.result c.opposite-back.ensures.1 }

pub neighbour-c-requires-in-loop-next : goal.neighbour-c-requires-in-loop-next
neighbour-c-requires-in-loop-next c = record { in_grid = in_c _ _ _ _ _ _ c.requires _ _ _ _ _ _ (standing (goal.at.neighbour-c-requires-in-loop-next c).At-loop-next); has_room = back_room _ _ _ _ _ _ c.requires _ _ _ _ _ _ (standing (goal.at.neighbour-c-requires-in-loop-next c).At-loop-next) c.if-next-lt-WAYS.false c.if-back_at_start.false c.opposite-back.result c.opposite-back.ensures.1 }

pub overflow_sub-v-in-loop-next : goal.overflow_sub-v-in-loop-next
overflow_sub-v-in-loop-next c = omega (arith, label_low _ _ _ _ _ _ c.requires _ _ _ _ _ _ (standing (goal.at.overflow_sub-v-in-loop-next c).At-loop-next) c.if-next-lt-WAYS.false c.if-back_at_start.false)

pub loop-next-smaller : goal.loop-next-smaller
loop-next-smaller c = omega (arith, popped_less _ _ _ _ _ _ c.requires _ _ _ _ _ _ (standing (goal.at.loop-next-smaller c).At-loop-next) c.if-next-lt-WAYS.false)

pub loop-next-preserved : goal.loop-next-preserved
loop-next-preserved c = λ m e q ok. popped _ _ _ _ _ _ ok _ _ _ _ _ _ (c.loop-next.invariant m e q ok) c.if-next-lt-WAYS.false c.if-back_at_start.false c.opposite-back.result c.opposite-back.ensures.1 _ _ _ c.neighbour-c-in-loop-next.ensures c.number_ahead-n.ensures c.onward-next-in-loop-next.ensures
