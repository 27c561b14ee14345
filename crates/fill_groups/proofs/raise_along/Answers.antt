-- `fill_groups::raise_along` meets its contract: the groups of such cells stand a stride apart. Assumes nothing.
use Prim.Native.Nat.{◌≤◌, ℕ, ◌+◌, ◌*◌, ◌-◌, ◌/◌}
use mathlib.Core.Path.{◌≡◌, sym, ap, subst, ◌∙◌}
use native.Mathlib.Omega.{arith}
use Rattle.grid.specs.declared.Cell.{Cell}
use Rattle.fill_groups.specs.declared.Axis.{Axis}
use Rattle.fill_groups.specs.declared.Axis.TheVariants.{I, J, K}
use Rattle.fill_groups.specs.Groups.{place_of, InTable, moved}
use Rattle.fill_groups.proofs.Cover.{up_at}
use Rattle.fill_groups.proofs.raise_along.Goals as goal

-- a cell nearer the start of the line has a place too
lower : (axis : Axis) (c : Cell) (low high : ℕ) → low ≤ high → InTable (moved axis c high) → InTable (moved axis c low)
lower I c low high h t = record { i_in = omega (arith, h, t.i_in); j_in = t.j_in; k_in = t.k_in }
lower J c low high h t = record { i_in = t.i_in; j_in = omega (arith, h, t.j_in); k_in = t.k_in }
lower K c low high h t = record { i_in = t.i_in; j_in = t.j_in; k_in = omega (arith, h, t.k_in) }

pub place-n-requires : goal.place-n-requires
place-n-requires c =
    let a = c.args in
    let t = subst InTable (sym c.moved-first.ensures) (lower a.axis a.c a.low a.high c.requires.1 c.requires.3) in
    (t.i_in, t.j_in, t.k_in)

pub returns-in-I-clause-by_index : goal.returns-in-I-clause-by_index
returns-in-I-clause-by_index c =
    λ x g h.
    let a = c.args in
    let n : ℕ = c.place-n.result in
    let s : ℕ = (x + 15) / 16 - (a.low + 15) / 16 in
    let e : n ≡ place_of (moved I a.c a.low) = subst (λ (y : Axis). n ≡ place_of (moved y a.c a.low)) c.in-I.is (c.place-n.ensures.0 ∙ ap place_of c.moved-first.ensures) in
    let q : n + s * 4096 ≡ place_of (moved I a.c x) = omega (arith, e) in
    rw c.in-I.is (up_at _ _ (place_of (moved I a.c x)) q (c.raise.ensures.by_index s (omega arith)))

pub returns-in-J-clause-by_index : goal.returns-in-J-clause-by_index
returns-in-J-clause-by_index c =
    λ x g h.
    let a = c.args in
    let n : ℕ = c.place-n.result in
    let s : ℕ = x - a.low in
    let e : n ≡ place_of (moved J a.c a.low) = subst (λ (y : Axis). n ≡ place_of (moved y a.c a.low)) c.in-J.is (c.place-n.ensures.0 ∙ ap place_of c.moved-first.ensures) in
    let q : n + s * 1 ≡ place_of (moved J a.c x) = omega (arith, e) in
    rw c.in-J.is (up_at _ _ (place_of (moved J a.c x)) q (c.raise-in-J.ensures.by_index s (omega arith)))

pub returns-in-K-clause-by_index : goal.returns-in-K-clause-by_index
returns-in-K-clause-by_index c =
    λ x g h.
    let a = c.args in
    let n : ℕ = c.place-n.result in
    let s : ℕ = x / 16 - a.low / 16 in
    let e : n ≡ place_of (moved K a.c a.low) = subst (λ (y : Axis). n ≡ place_of (moved y a.c a.low)) c.in-K.is (c.place-n.ensures.0 ∙ ap place_of c.moved-first.ensures) in
    let q : n + s * 256 ≡ place_of (moved K a.c x) = omega (arith, e) in
    rw c.in-K.is (up_at _ _ (place_of (moved K a.c x)) q (c.raise-in-K.ensures.by_index s (omega arith)))
