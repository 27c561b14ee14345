-- What a look along a way through cells 6 finds past them. Assumes nothing.
use mathlib.Core.Bool.{true, ◌||◌}
use mathlib.Core.Logic.{inl, inr, ⊎_elim}
use mathlib.Core.Path.{◌≡◌, refl, sym, subst, ◌∙◌}
use mathlib.Core.List.{List}
use Prim.Native.Nat.{ℕ, ◌-◌, ◌<◌}
use native.Mathlib.Omega.{arith}
use lib.Dec.{ltb}
use borrow.Author.Tests.{ltb-true}
use Rattle.grid.specs.declared.Axes.{Axes}
use Rattle.grid.specs.declared.Cell.{Cell}
use Rattle.grid.specs.Grid.{num, InGrid}
use Rattle.grid.specs.Paths.{starts, steps, Through}
use Rattle.grid.specs.Ways.{room, beside}
use Rattle.grid.proofs.First.{or_true}
use Rattle.grid.proofs.Paths.{joined_in, joined_trans, joined_more}
use Rattle.grid.proofs.Ways.{beside_in, beside_face, beside_room, edge_border}
use Rattle.edits_reach.specs.declared.Seen.{Seen}
use Rattle.edits_reach.specs.Reach.{way_of, Sees, Exit, Leads}
use Rattle.edits_reach.proofs.Ways.{seen_room}

-- the cell e, whose number is m, is reached from c through cells 6
pub record Onto (r : Axes) (l : List ℕ) (c e : Cell) (m : ℕ) : Type 0 where
  pub path : Through r l 6 c e
  pub number : m ≡ num r e

pub onto_start : (r : Axes) (l : List ℕ) (c : Cell) (n : ℕ) → InGrid r c → n ≡ num r c → Onto r l c c n
onto_start r l c n h q = record { path = starts h refl; number = q }

module _ (r : Axes) (l : List ℕ) (c e : Cell) (m : ℕ) (o : Onto r l c e m) where
  pub onto_in : InGrid r e
  onto_in = joined_in o.path

  -- what e leads to, c leads to
  pub onto_leads : Leads r l e → Leads r l c
  onto_leads (d, u, x) = (d, joined_trans (joined_more (λ y (q : y ≡ e). subst (Through r l 6 c) (sym q) o.path) (λ y p. p) u), x)

  module _ (d : ℕ) (a : Seen) (s : Sees r l e d a) where
    module _ (six : a.label ≡ 6) where
      pub onto_room : 0 < room r (way_of d) e
      onto_room = seen_room r l e d a s (λ z. omega arith)

      pub onto_more : (f : Cell) → f ≡ beside (way_of d) e → Onto r l c f a.n
      onto_more f q = subst (λ (x : Cell). Onto r l c x a.n) (sym q) (record {
        path = steps o.path (beside_face r e (way_of d) onto_room) (beside_in r e (way_of d) onto_in onto_room) (sym (s.label onto_room) ∙ six);
        number = s.number onto_room;
      })

      pub onto_less : (f : Cell) → f ≡ beside (way_of d) e → room r (way_of d) f < room r (way_of d) e
      onto_less f q = subst (λ (x : Cell). room r (way_of d) x < room r (way_of d) e) (sym q) (fewer (room r (way_of d) e) onto_room (beside_room r e (way_of d) onto_room))
        where
          fewer : {k : ℕ} (n : ℕ) → 0 < n → k ≡ n - 1 → k < n
          fewer n h e = omega arith

    pub onto_exit : (ltb a.label 6 || a.edge) ≡ true → Leads r l c
    onto_exit q = (e, o.path, ⊎_elim (λ x. mark (ltb-true a.label 6 x)) (λ x. inl (edge_border r e (way_of d) onto_in (s.edge x))) (or_true (ltb a.label 6) a.edge q))
      where
        mark : a.label < 6 → Exit r 6 l e
        mark low =
            let g = seen_room r l e d a s (λ z. omega arith) in
            let v = subst (λ (x : ℕ). x < 6) (s.label g) low in
            inr (beside (way_of d) e, beside_in r e (way_of d) onto_in g, beside_face r e (way_of d) g, (v, λ z. omega arith))
