-- `numbers::floor_scaled` meets its contract. Each `return` is one of `proofs/Laws.antt`'s cases of the fields of x's bit pattern. Assumes nothing.
use Rattle.std.specs.Prelude.{Ok}
use borrow.Author.Rules.{sfits_of}
use native.Mathlib.Nat.{mod-lt}
use mathlib.Core.Path.{◌≡◌, sym, ap, ◌∙◌, subst}
use mathlib.Core.Bool.{Bool, not}
use Prim.Native.Nat.{ℕ, ◌%◌, ◌/◌, ◌^◌, ◌<◌}
use lib.Dec.{T, leb}
use lib.Pow.{pow_pos}
use lib.Ieee.{Float, binary32, fits, is_nan, to_bits, of_fields}
use mir.Syntax.{w64}
use mir.ValLaws.{to_z-of_z}
use Rattle.numbers.specs.Rounding.{floor_times}
use Rattle.numbers.proofs.Laws.{is_nan_lem, no_nan, fields_are, floor_large, floor_subnormal, floor_field}
use Rattle.numbers.proofs.floor_scaled.Goals as goal
use Rattle.numbers.proofs.floor_scaled.Goals.{Start}

abbrev x : Start → Float
x c = c.args.x

abbrev digits : Start → ℕ
digits c = to_bits binary32 (x c) % 8388608

abbrev field : Start → ℕ
field c = to_bits binary32 (x c) % 2147483648 / 8388608

-- what owning an `f32` tells: the format holds it
held : (c : Start) → T (fits binary32 (x c))
held c = subst T (sym c.well_formed.0.1) tt

-- the fields of x's pattern
abbrev sign : Start → Bool
sign c = leb 2147483648 (to_bits binary32 (x c))

is_x : (c : Start) → of_fields binary32 (sign c) (field c) (digits c) ≡ x c
is_x c = fields_are (x c) (held c)

short : (c : Start) → digits c < 2 ^ 23
short c = mod-lt (to_bits binary32 (x c)) (pow_pos 23)

pub returns-then-x : goal.returns-then-x
returns-then-x c = is_nan_lem (2 ^ c.args.places) (x (goal.at.returns-then-x c).Start) c.if-x.true

pub float_to_bits-bits : goal.float_to_bits-bits
float_to_bits-bits c = no_nan (x (goal.at.float_to_bits-bits c).Start) c.if-x.false

pub returns-then-large : goal.returns-then-large
returns-then-large c =
    let k = 2 ^ c.args.places in
    floor_large k (sign (goal.at.returns-then-large c).Start) (field (goal.at.returns-then-large c).Start) (digits (goal.at.returns-then-large c).Start) c.if-large.true (subst (λ (y : Float). T (not (is_nan y))) (sym (is_x (goal.at.returns-then-large c).Start)) (no_nan (x (goal.at.returns-then-large c).Start) c.if-x.false))
    ∙ ap (floor_times k) (is_x (goal.at.returns-then-large c).Start)

pub returns-then-field-eq0 : goal.returns-then-field-eq0
returns-then-field-eq0 c =
    let p = c.args.places in
    ap Ok (to_z-of_z w64 c.shifted.result (sfits_of c.shifted.type_inv) ∙ c.shifted.ensures)
    ∙ floor_subnormal p (sign (goal.at.returns-then-field-eq0 c).Start) (digits (goal.at.returns-then-field-eq0 c).Start) (short (goal.at.returns-then-field-eq0 c).Start) c.requires
    ∙ ap (λ (f : ℕ). floor_times (2 ^ p) (of_fields binary32 (sign (goal.at.returns-then-field-eq0 c).Start) f (digits (goal.at.returns-then-field-eq0 c).Start))) (sym c.if-field-eq0.true)
    ∙ ap (floor_times (2 ^ p)) (is_x (goal.at.returns-then-field-eq0 c).Start)

pub returns : goal.returns
returns c =
    let p = c.args.places in
    ap Ok (to_z-of_z w64 c.shifted-2.result (sfits_of c.shifted-2.type_inv) ∙ c.shifted-2.ensures)
    ∙ floor_field p (sign (goal.at.returns c).Start) (field (goal.at.returns c).Start) (digits (goal.at.returns c).Start) (short (goal.at.returns c).Start) c.requires c.if-large.false c.if-field-eq0.false
    ∙ ap (floor_times (2 ^ p)) (is_x (goal.at.returns c).Start)
