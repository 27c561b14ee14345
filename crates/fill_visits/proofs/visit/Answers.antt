-- `fill_visits::visit` meets its contract, by the label that it finds. Assumes nothing.
use mathlib.Core.Bool.{true, false}
use mathlib.Core.Path.{◌≡◌, sym, ap, subst, ◌∙◌}
use mathlib.Core.List.{List}
use Prim.Native.Nat.{ℕ, ◌+◌, ◌<◌}
use native.Mathlib.Omega.{arith}
use lib.ListN.{length, get_or, set, length-set}
use Rattle.grid.specs.Grid.{at}
use Rattle.grid.proofs.Cells.{num_lt, sheet_kept}
use Rattle.fill_walks.specs.Scan.{is_walker, walked_from}
use Rattle.fill_walks.proofs.Turns.{visit_done, visit_walk, visit_none}
use Rattle.fill_walks.proofs.Quiets.{early_one}
use Rattle.fill_groups.proofs.Cover.{covers_early}
use Rattle.fill_visits.proofs.visit.Goals as goal

here : (c : goal.After-walks-arg-then-v-todo-1) → c.args.n < length c.args.l.now
here c = omega (arith, num_lt c.args.r c.args.c c.requires.in_grid.0, c.requires.in_grid.1, c.requires.sheet.0.size)

pub walks-requires : goal.walks-requires
walks-requires c = record { sheet = (sheet_kept c.args.r c.args.l.now _ (length-set c.args.l.now c.args.n _) c.requires.sheet.0, c.requires.sheet.1, covers_early c.args.p c.requires.sheet.1 c.args.r c.args.l.now _ _ (early_one c.args.p c.args.l.now c.args.n (here c) c.if-v-todo.true) c.requires.sheet.2); in_grid = (c.requires.in_grid.0, c.requires.in_grid.1) }

pub returns-then-v-todo : goal.returns-then-v-todo
returns-then-v-todo c = let a = c.args in
    let n = c.requires.in_grid.1 in
    let found : at a.r a.l.now a.c ≡ a.p.todo = subst (λ (q : ℕ). get_or a.l.now q 0 ≡ a.p.todo) n c.if-v-todo.true in record {
      result_after = ap (λ (l : List ℕ). record { labels = l; walked = a.walked + 1 }) (c.walks.ensures.l_after ∙ ap (λ (q : ℕ). walked_from a.p a.r a.c (set a.l.now q a.p.done)) n)
          ∙ sym (visit_done a.p a.r a.c a.l.now a.walked found);
      upper_bound = (omega arith, c.walks.ensures.covers);
    }

pub returns-then-is_walker : goal.returns-then-is_walker
returns-then-is_walker c = let a = c.args in
    let n = c.requires.in_grid.1 in
    let other : at a.r a.l.now a.c ≡ a.p.todo → ⊥ = subst (λ (q : ℕ). get_or a.l.now q 0 ≡ a.p.todo → ⊥) n c.if-v-todo.false in
    let walker : is_walker a.p.walkers (at a.r a.l.now a.c) ≡ true = subst (λ (q : ℕ). is_walker a.p.walkers (get_or a.l.now q 0) ≡ true) n (sym c.is_walker.ensures ∙ c.if-is_walker.true) in record {
      result_after = ap (λ (l : List ℕ). record { labels = l; walked = a.walked }) c.walks-then-is_walker.ensures.l_after
          ∙ sym (visit_walk a.p a.r a.c a.l.now a.walked other walker);
      upper_bound = (omega arith, c.walks-then-is_walker.ensures.covers);
    }

pub returns-else-is_walker : goal.returns-else-is_walker
returns-else-is_walker c = let a = c.args in
    let n = c.requires.in_grid.1 in
    let other : at a.r a.l.now a.c ≡ a.p.todo → ⊥ = subst (λ (q : ℕ). get_or a.l.now q 0 ≡ a.p.todo → ⊥) n c.if-v-todo.false in
    let none : is_walker a.p.walkers (at a.r a.l.now a.c) ≡ false = subst (λ (q : ℕ). is_walker a.p.walkers (get_or a.l.now q 0) ≡ false) n (sym c.is_walker.ensures ∙ c.if-is_walker.false) in record { result_after = sym (visit_none a.p a.r a.c a.l.now a.walked other none); upper_bound = (omega arith, c.requires.sheet.2) }
