-- `fill_early::early_cells` meets its contract: up to here cells were set before their turn, or are idle, or one may act (`EarlyLoop`). Assumes nothing.
use mathlib.Core.Bool.{false, true≢false}
use mathlib.Core.Path.{◌≡◌, sym, subst, ◌∙◌}
use Prim.Native.Nat.{ℕ, ◌+◌, ◌*◌}
use native.Mathlib.Omega.{arith}
use lib.ListN.{get_or}
use Rattle.fill_walks.specs.Scan.{is_walker}
use Rattle.fill_early.proofs.EarlyLoop.{early_loop_rest, early_loop_set}
use Rattle.fill_early.proofs.early_cells.Goals as goal
use Rattle.fill_early.proofs.early_cells.Goals.{then-v-todo, else-v-todo}

-- its number, from here on the row
number : (i s t : ℕ) → i + (s + t) ≡ i + s + t
number i s t = omega arith

pub loop-i-preserved-then-is_idle : goal.loop-i-preserved-then-is_idle
loop-i-preserved-then-is_idle c =
    let a = c.args in
    let n = number c.loop-i.i (a.j * a.r.r0) (a.k * (a.r.r0 * a.r.r1)) in
    let s = c.is_idle.ensures c.if-is_idle.true in
    early_loop_rest a.p c.requires.sheet.1 _ _ _ _ _ _ _ c.loop-i.invariant c.loop-i-test.true (record {
      walked = subst (λ (q : ℕ). get_or c.loop-i.l q 0 ≡ a.p.todo → ⊥) n s.0;
      quiet = λ e. absurd (true≢false (sym e ∙ subst (λ (q : ℕ). is_walker a.p.walkers (get_or c.loop-i.l q 0) ≡ false) n s.1));
    })

pub loop-i-preserved : goal.loop-i-preserved
loop-i-preserved c =
    let a = c.args in
    let n = number c.loop-i.i (a.j * a.r.r0) (a.k * (a.r.r0 * a.r.r1)) in
    elim c.if-v-todo.branch [
      | then-v-todo w ↦
          rw (w.l-is, w.walked-is)
          (early_loop_set a.p c.requires.sheet.1 _ _ _ _ _ _ _ _ c.loop-i.invariant c.loop-i-test.true c.requires.from_le_to.1 c.requires.from_le_to.2 c.requires.from_le_to.3 n (subst (λ (q : ℕ). get_or c.loop-i.l q 0 ≡ a.p.todo) n w.if-v-todo.true) (c.acts.ensures c.if-acts.false))
      | else-v-todo w ↦
          rw (w.l-is, w.walked-is)
          (early_loop_rest a.p c.requires.sheet.1 _ _ _ _ _ _ _ c.loop-i.invariant c.loop-i-test.true (record {
            walked = subst (λ (q : ℕ). get_or c.loop-i.l q 0 ≡ a.p.todo → ⊥) n w.if-v-todo.false;
            quiet = λ e. c.acts.ensures c.if-acts.false;
          }))
    ]
