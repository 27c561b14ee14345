-- The rows of the table that open and close a cell. Labels and counts are computed; which cells are reached is shown by the neighbours of the two cells that change. Assumes nothing.
use Rattle.std.specs.Prelude.{Ok}
use mathlib.Core.Bool.{Bool, true, false, true≢false, not, ◌&&◌}
use mathlib.Core.Logic.{◌⊎◌, inl, inr, ⊎_elim}
use mathlib.Core.Path.{◌≡◌, refl, sym, ap, subst, ◌∙◌}
use mathlib.Core.List.{List}
use Prim.Native.Nat.{ℕ}
use native.Mathlib.Omega.{arith}
use lib.Dec.{eqb}
use lib.ListN.{set, get_or}
use borrow.Author.Tests.{eq-eqb, ne_eqb}
use Rattle.grid.specs.declared.Axes.{Axes}
use Rattle.grid.specs.declared.Cell.{Cell}
use Rattle.grid.specs.Answers.{refuses}
use Rattle.grid.specs.First.{first_not, some_below}
use Rattle.grid.specs.Grid.{num, cell_numbered, InGrid, at, Face, Border, on_border}
use Rattle.grid.specs.Paths.{starts, steps, Through}
use Rattle.grid.specs.Ways.{Way, up_k, down_k, up_j, down_j, up_i, down_i, beside}
use Rattle.grid.proofs.Cells.{not_both, num_lt, num_inj, cell_of_number, dec_cell, there, swap_face, border_test}
use Rattle.grid.proofs.First.{some_below_lem}
use Rattle.grid.proofs.Paths.{joined_in, joined_kind, joined_least}
use Rattle.grid.proofs.Ways.{beside_face, face_way}
use Rattle.edits.specs.Edits.{opening, closing, MeetsAir, aired, unreached, lidded, HasWay, lid, sealed, stays, changed}
use Rattle.test_samples.specs.Table.{Holds, editing, axes, cell, cube, hatch_open}
use Rattle.grid.specs.Refusals.{reason_numbered}

abbrev five : Axes
five = axes 5 5 5

abbrev hatch : Cell
hatch = cell 1 2 2

abbrev centre : Cell
centre = cell 2 2 2

hatch_in : InGrid five hatch
hatch_in = record { i_in = omega arith; j_in = omega arith; k_in = omega arith }

centre_in : InGrid five centre
centre_in = record { i_in = omega arith; j_in = omega arith; k_in = omega arith }

between : Face hatch centre
between = beside_face five hatch up_i (omega arith)

-- a cell that shares a face with c, by the six ways
by_ways : (c d : Cell) (Q : Cell → Type 0) → InGrid five d → Face c d → ((w : Way) → Q (beside w c)) → Q d
by_ways c d Q h f all = let w = face_way five c d h f in subst Q (sym w.2) (all w.0)

-- ---- opening: the hatch meets the air, and the centre is all that is reached from it

reached : (d : Cell) → Through five (cube 6 8 7) 7 hatch d → (d ≡ hatch) ⊎ (d ≡ centre)
reached d u = joined_least (λ x. (x ≡ hatch) ⊎ (x ≡ centre)) (λ c h s. inl s) step d u
  where
    from_hatch : (w : Way) → at five (cube 6 8 7) (beside w hatch) ≡ 7 → (beside w hatch ≡ hatch) ⊎ (beside w hatch ≡ centre)
    from_hatch up_i p = inr refl
    from_hatch down_i p = absurd (not_both _ 6 7 (omega arith) refl p)
    from_hatch up_j p = absurd (not_both _ 8 7 (omega arith) refl p)
    from_hatch down_j p = absurd (not_both _ 8 7 (omega arith) refl p)
    from_hatch up_k p = absurd (not_both _ 8 7 (omega arith) refl p)
    from_hatch down_k p = absurd (not_both _ 8 7 (omega arith) refl p)

    from_centre : (w : Way) → at five (cube 6 8 7) (beside w centre) ≡ 7 → (beside w centre ≡ hatch) ⊎ (beside w centre ≡ centre)
    from_centre up_i p = absurd (not_both _ 8 7 (omega arith) refl p)
    from_centre down_i p = absurd (not_both _ 8 7 (omega arith) refl p)
    from_centre up_j p = absurd (not_both _ 8 7 (omega arith) refl p)
    from_centre down_j p = absurd (not_both _ 8 7 (omega arith) refl p)
    from_centre up_k p = absurd (not_both _ 8 7 (omega arith) refl p)
    from_centre down_k p = absurd (not_both _ 8 7 (omega arith) refl p)

    step : (c d : Cell) → (c ≡ hatch) ⊎ (c ≡ centre) → Face c d → InGrid five d → at five (cube 6 8 7) d ≡ 7 → (d ≡ hatch) ⊎ (d ≡ centre)
    step c d (inl e) f h p = by_ways hatch d (λ x. at five (cube 6 8 7) x ≡ 7 → (x ≡ hatch) ⊎ (x ≡ centre)) h (subst (λ (x : Cell). Face x d) e f) from_hatch p
    step c d (inr e) f h p = by_ways centre d (λ x. at five (cube 6 8 7) x ≡ 7 → (x ≡ hatch) ⊎ (x ≡ centre)) h (subst (λ (x : Cell). Face x d) e f) from_centre p

-- the two maps differ in the two cells only
two_stores : hatch_open ≡ set (set (cube 6 8 7) 61 6) 62 6
two_stores = refl

elsewhere : (d : Cell) → InGrid five d → (d ≡ hatch → ⊥) → (d ≡ centre → ⊥) → at five hatch_open d ≡ at five (cube 6 8 7) d
elsewhere d h y z =
    ap (λ (l : List ℕ). at five l d) two_stores
    ∙ there five (set (cube 6 8 7) 61 6) 6 d centre h centre_in z
    ∙ there five (cube 6 8 7) 6 d hatch h hatch_in y

air : MeetsAir five (cube 6 8 7) hatch
air = inr (cell 0 2 2, record { i_in = omega arith; j_in = omega arith; k_in = omega arith }, beside_face five hatch down_i (omega arith), refl)

pub hatch_opened : Holds (editing five (opening hatch) (cube 6 8 7) (Ok 2) hatch_open)
unfolding first_not changed
hatch_opened = record {
  size = refl;
  each = λ d h. dec_cell five d hatch h hatch_in
      (λ e. aired air (starts h e) (ap (at five hatch_open) e))
      (λ y. dec_cell five d centre h centre_in
      (λ e. aired air (subst (Through five (cube 6 8 7) 7 hatch) (sym e) (steps (starts hatch_in refl) between centre_in refl)) (ap (at five hatch_open) e))
      (λ z. unreached air (λ u. ⊎_elim y z (reached d u)) (elsewhere d h y z)));
  counted = refl;
}

-- ---- closing: the centre has no way left, and every other cell 6 is a border cell

abbrev lid_on : List ℕ
lid_on = lidded five hatch_open hatch

-- a number whose cell is 6, and is neither the centre nor on the border
abbrev stray : ℕ → Bool
stray n = not (on_border five (cell_numbered five n)) && (eqb (get_or lid_on n 0) 6 && not (eqb n 62))

no_stray : some_below 125 stray ≡ false
unfolding some_below
no_stray = refl

outer : (d : Cell) → InGrid five d → at five lid_on d ≡ 6 → (d ≡ centre → ⊥) → Border five d
outer d h six z = of (on_border five d) refl
  where
    all : (b x y : Bool) → b ≡ false → x ≡ true → y ≡ false → (not b && (x && not y)) ≡ true
    all false true false p q s = refl
    all true x y p q s = absurd (true≢false p)
    all false false y p q s = absurd (true≢false (sym q))
    all false true true p q s = absurd (true≢false s)

    of : (b : Bool) → on_border five d ≡ b → Border five d
    of true e = (border_test five d h).0 e
    of false e =
        let found = all (on_border five (cell_numbered five (num five d))) (eqb (at five lid_on d) 6) (eqb (num five d) 62)
        (ap (on_border five) (cell_of_number five d h) ∙ e) (eq-eqb (at five lid_on d) 6 six) (ne_eqb (num five d) 62 (λ q. z (num_inj five d centre h centre_in q))) in
        absurd (true≢false (sym ((some_below_lem stray 125).1 (num five d, num_lt five d h, found)) ∙ no_stray))

shut : HasWay five lid_on centre → ⊥
shut (starts h s) = true≢false (sym ((border_test five centre h).1 s.0))
shut (steps {c = y} w f h p) =
    by_ways centre y (λ x. at five lid_on x ≡ 6 → ⊥) (joined_in w) (swap_face f) walls (⊎_elim (λ s. s.1) (λ q. q) (joined_kind w))
  where
    walls : (w : Way) → at five lid_on (beside w centre) ≡ 6 → ⊥
    walls up_i q = not_both _ 8 6 (omega arith) refl q
    walls down_i q = not_both _ 8 6 (omega arith) refl q
    walls up_j q = not_both _ 8 6 (omega arith) refl q
    walls down_j q = not_both _ 8 6 (omega arith) refl q
    walls up_k q = not_both _ 8 6 (omega arith) refl q
    walls down_k q = not_both _ 8 6 (omega arith) refl q

pub hatch_closed : Holds (editing five (closing hatch) hatch_open (Ok 2) (cube 6 8 7))
unfolding first_not changed
hatch_closed = record {
  size = refl;
  each = λ d h. dec_cell five d hatch h hatch_in
      (λ e. lid e (ap (at five (cube 6 8 7)) e))
      (λ y. dec_cell five d centre h centre_in
      (λ e. sealed y refl (subst (Through five hatch_open 6 hatch) (sym e) (steps (starts hatch_in refl) between centre_in refl)) (λ w. shut (subst (HasWay five lid_on) e w)) (ap (at five (cube 6 8 7)) e))
      (λ z. stays y (λ _ u. still d h y z u) (sym (elsewhere d h y z))));
  counted = refl;
}
  where
    still : (d : Cell) → InGrid five d → (d ≡ hatch → ⊥) → (d ≡ centre → ⊥) → Through five hatch_open 6 hatch d → HasWay five lid_on d
    still d h y z u =
        let six : at five lid_on d ≡ 6 = there five hatch_open 8 d hatch h hatch_in y ∙ ⊎_elim (λ e. absurd (y e)) (λ q. q) (joined_kind u) in
        starts h (outer d h six z, six)

-- ---- the centre is no surface

pub centre_refused : Holds (editing five (opening centre) (cube 6 8 7) (refuses (reason_numbered 13) 0) (cube 6 8 7))
unfolding first_not
centre_refused = (refl, refl)
