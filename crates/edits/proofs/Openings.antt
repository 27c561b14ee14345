-- An opening: what a trip that does not stop comes to, and the test for air. Assumes nothing.
use mathlib.Core.Bool.{false}
use mathlib.Core.Logic.{◌⊎◌, inl, inr, ⊎_elim}
use mathlib.Core.Path.{◌≡◌, refl, sym, ap, subst, ◌∙◌}
use mathlib.Core.List.{List}
use Prim.Native.Nat.{ℕ, ◌+◌, ◌<◌, ◌≤◌}
use native.Mathlib.Omega.{arith}
use lib.ListN.{set, length-set}
use Rattle.grid.specs.declared.Axes.{Axes}
use Rattle.grid.specs.declared.Cell.{Cell}
use Rattle.grid.specs.Grid.{num, InGrid, at, Sheet, Border}
use Rattle.grid.specs.Ways.{room, beside}
use Rattle.grid.proofs.Cells.{dec_eq, not_both, num_lt, stored}
use Rattle.grid.proofs.Paths.{joined_kind}
use Rattle.grid.proofs.Ways.{beside_in, beside_face, face_way}
use Rattle.edits_reach.specs.declared.Seen.{Seen}
use Rattle.edits_reach.specs.declared.Trip.{Trip}
use Rattle.edits_reach.specs.Reach.{way_of, Sees, MayReach, Reaches}
use Rattle.edits_reach.proofs.Tests.{true_false}
use Rattle.edits_reach.proofs.Weights.{count_more}
use Rattle.edits_reach.proofs.Ways.{number_of, way_numbered, numbered_low, seen_room}
use Rattle.edits_settle.proofs.Relabelled.{by_place}
use Rattle.edits_settle.proofs.Settlings.{reached}
use Rattle.edits.specs.Edits.{opening, MeetsAir, aired, unreached, alone, other, changed, Edited}
use Rattle.edits.proofs.Changes.{changed_count}

-- how many labels a trip that does not stop changes
module _ (r : Axes) (pass done : ℕ) (m : List ℕ) (s : Cell) (ok : MayReach r pass done false m s) (e : List ℕ) (w : Trip) (k : Reaches r pass done false m s e w) where
  pub trip_changed : w.count ≡ changed m e
  trip_changed =
      let t = changed_count done m e k.size (by_place r m e (λ a b. (b ≡ a) ⊎ ((a ≡ done → ⊥) × (b ≡ done))) ok.sheet.size (λ x h. ⊎_elim
      (λ q. inr ((λ u. ⊎_elim (λ (i : x ≡ s). ok.fresh (ap (at r m) (sym i) ∙ u)) (λ i. ok.apart (sym u ∙ i)) (joined_kind q.0)), q.1))
      (λ q. inl q.1)
      (reached r pass done m s ok e w k x h))) in
      omega (arith, t, k.counted)

module _ (r : Axes) (m : List ℕ) (c : Cell) (fits : Sheet r m) (hc : InGrid r c) (was : at r m c ≡ 8) where
  pub open_ready : MayReach r 7 6 false m c
  open_ready = record { sheet = fits; inside = hc; pass_low = omega arith; done_low = omega arith; apart = omega arith; fresh = not_both _ 8 6 (omega arith) was; firm = λ q. absurd (true_false q refl) }

  pub opened : (e : List ℕ) (w : Trip) → MeetsAir r m c → Reaches r 7 6 false m c e w → Edited r m (opening c) w.count e
  opened e w t k = record {
    size = k.size;
    each = λ d h. ⊎_elim (λ q. aired t q.0 q.1) (λ q. unreached t q.0 q.1) (reached r 7 6 m c open_ready e w k d h);
    counted = trip_changed r 7 6 m c open_ready e w k;
  }

  pub opened_alone : (i : ℕ) → i ≡ num r c → (MeetsAir r m c → ⊥) → Edited r m (opening c) 1 (set m i 7)
  opened_alone i q z = rw q (record {
    size = length-set m (num r c) 7;
    each = λ d h. stored r m 7 d c h hc fits.size (λ e v. alone z e v) (λ n v. other z n v);
    counted = one;
  })
    where
      one : 1 ≡ changed m (set m (num r c) 7)
      one =
          let t = changed_count 7 m (set m (num r c) 7) (length-set m (num r c) 7) (by_place r m (set m (num r c) 7) (λ a b. (b ≡ a) ⊎ ((a ≡ 7 → ⊥) × (b ≡ 7))) fits.size (λ x h. stored r m 7 x c h hc fits.size
          (λ (j : x ≡ c) v. inr ((λ u. not_both _ 8 7 (omega arith) was (ap (at r m) (sym j) ∙ u)), v))
          (λ _ v. inl v))) in
          omega (arith, t, count_more 7 m (num r c) (rw fits.size (num_lt r c hc)) (not_both _ 8 7 (omega arith) was))

-- ---- whether a cell meets the air, the ways below n having been looked at

abbrev pub NoAir : Axes → List ℕ → Cell → ℕ → Type 0
NoAir r l c n = (Border r c → ⊥) × ((d : ℕ) → d < n → 0 < room r (way_of d) c → at r l (beside (way_of d) c) ≡ 6 → ⊥)

module _ (r : Axes) (l : List ℕ) (c : Cell) where
  pub air_none : (Border r c → ⊥) → NoAir r l c 0
  air_none z = (z, λ d h. absurd (never d h))
    where
      never : (d : ℕ) → d < 0 → ⊥
      never d h = omega arith

  module _ (n : ℕ) (a : Seen) (s : Sees r l c n a) where
    pub air_more : NoAir r l c n → (a.label ≡ 6 → ⊥) → NoAir r l c (n + 1)
    air_more k z = (
      k.0,
      λ d h. dec_eq d n
          (λ e. subst (λ (x : ℕ). 0 < room r (way_of x) c → at r l (beside (way_of x) c) ≡ 6 → ⊥) (sym e) (λ g q. z (s.label g ∙ q)))
          (λ y. k.1 d (omega arith)),
    )

    pub air_found : InGrid r c → a.label ≡ 6 → MeetsAir r l c
    air_found h q =
        let g = seen_room r l c n a s (λ z. omega arith) in
        inr (beside (way_of n) c, beside_in r c (way_of n) h g, beside_face r c (way_of n) g, sym (s.label g) ∙ q)

  pub air_all : (n : ℕ) → 6 ≤ n → NoAir r l c n → MeetsAir r l c → ⊥
  air_all n h k (inl b) = k.0 b
  air_all n h k (inr t) =
      let w = face_way r c t.0 t.1 t.2 in
      let e = way_numbered w.0 in
      k.1 (number_of w.0) (omega (arith, numbered_low w.0)) (subst (λ x. 0 < room r x c) (sym e) w.1)
      (ap (λ x. at r l (beside x c)) e ∙ ap (at r l) (sym w.2) ∙ t.3)
