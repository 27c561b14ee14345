-- Laws of specs/Grid.antt: number and coordinates determine each other, what a store changes, faces and the border's test. Assumes nothing.
use mathlib.Core.Bool.{Bool, true, false, ◌||◌}
use mathlib.Core.Logic.{◌⊎◌, inl, inr, ⊎_elim, ◌↔◌}
use mathlib.Core.Path.{◌≡◌, refl, sym, ap, subst, ◌∙◌}
use mathlib.Core.List.{List}
use Prim.Native.Nat.{ℕ, zero, suc, ◌+◌, ◌*◌, ◌-◌, ◌/◌, ◌%◌, ◌≤◌, ◌<◌}
use native.Mathlib.Nat.{mul_comm, mul_assoc, suc-mul, add-mul, zero-mul, mul-le-mul, mul-le-mul_right, div-add-mod', mod-lt, div-lt_iff_lt-mul}
use native.Mathlib.Omega.{arith}
use lib.Dec.{eqb}
use lib.ListN.{length, get_or, set}
use lib.Seq.{get_or-set_same, get_or-set_other, ext_get_or}
use borrow.Author.Tests.{eqb-true, eqb-false, eq-eqb}
use Rattle.grid.specs.declared.Axes.{Axes}
use Rattle.grid.specs.declared.Cell.{Cell}
use Rattle.grid.specs.Grid.{Sound, Sheet, num, cell_numbered, cells, InGrid, at, first_ones, labels_by, Face, Border, first_i, first_j, first_k, last_i, last_j, last_k, on_border}
use Rattle.grid.proofs.First.{le_or_lt}

pub dec_eq : {C : Type 0} (a b : ℕ) → (a ≡ b → C) → ((a ≡ b → ⊥) → C) → C
dec_eq {C} a b y n = go (eqb a b) refl
  where
    go : (t : Bool) → eqb a b ≡ t → C
    go true e = y (eqb-true a b e)
    go false e = n (eqb-false a b e)

-- one number is not two
pub not_both : (n a b : ℕ) → (a ≡ b → ⊥) → n ≡ a → n ≡ b → ⊥
not_both n a b z p q = z (sym p ∙ q)

-- ---- a cell's number, from its coordinates

-- a digit and a whole multiple: i + j * x is below y * x
digit : (i j x y : ℕ) → i < x → j < y → i + j * x < y * x
digit i j x y h g = omega (arith, mul-le-mul_right x g, suc-mul j x)

pub num_lt : (r : Axes) (c : Cell) → InGrid r c → num r c < cells r
num_lt r c h =
    let a = digit c.i c.j r.r0 r.r1 h.i_in h.j_in in
    omega (
      arith,
      a,
      digit (c.i + c.j * r.r0) c.k (r.r0 * r.r1) r.r2 (rw (mul_comm r.r0 r.r1) a) h.k_in,
      mul_comm (r.r0 * r.r1) r.r2,
    )

not_less : (a b a' b' n : ℕ) → a < n → a + b * n ≡ a' + b' * n → b < b' → ⊥
not_less a b a' b' n h e g = omega (arith, suc-mul b n, mul-le-mul_right n g)

high : (a b a' b' n : ℕ) → a < n → a' < n → a + b * n ≡ a' + b' * n → b ≡ b'
high a b a' b' n h h' e =
    ⊎_elim
    (λ p. ⊎_elim (λ q. omega arith) (λ q. absurd (not_less a b a' b' n h e q)) (le_or_lt b' b))
    (λ q. absurd (not_less a' b' a b n h' (sym e) q))
    (le_or_lt b b')

low : (a b a' b' n : ℕ) → a < n → a' < n → a + b * n ≡ a' + b' * n → a ≡ a'
low a b a' b' n h h' e = omega (arith, ap (λ (t : ℕ). t * n) (high a b a' b' n h h' e))

pub cell_path : (c d : Cell) → c.i ≡ d.i → c.j ≡ d.j → c.k ≡ d.k → c ≡ d
cell_path c d p q s = λ t. record { i = p t; j = q t; k = s t }

-- two cells of one number are one
pub num_inj : (r : Axes) (c d : Cell) → InGrid r c → InGrid r d → num r c ≡ num r d → c ≡ d
num_inj r c d h g e =
    let x = r.r0 in
    let y = r.r1 in
    let m : c.i + c.j * x < x * y = rw (mul_comm x y) (digit c.i c.j x y h.i_in h.j_in) in
    let n : d.i + d.j * x < x * y = rw (mul_comm x y) (digit d.i d.j x y g.i_in g.j_in) in
    let f : c.i + c.j * x ≡ d.i + d.j * x = low _ c.k _ d.k (x * y) m n e in
    cell_path c d
    (low c.i c.j d.i d.j x h.i_in g.i_in f)
    (high c.i c.j d.i d.j x h.i_in g.i_in f)
    (high (c.i + c.j * x) c.k (d.i + d.j * x) d.k (x * y) m n e)

-- ---- the cell of a number

pos_left : (a b n : ℕ) → n < a * b → 0 < a
pos_left zero b n h = omega (arith, zero-mul b)
pos_left (suc a) b n h = omega arith

turn_round : (x y z : ℕ) → x * y * z ≡ z * y * x
turn_round x y z = mul_comm (x * y) z ∙ ap (λ (t : ℕ). z * t) (mul_comm x y) ∙ sym (mul_assoc z y x)

-- 01: number and coordinates determine each other
pub number_of_cell : (r : Axes) (n : ℕ) → num r (cell_numbered r n) ≡ n
number_of_cell r n = whole n r.r0 r.r1
  where
    whole : (n x y : ℕ) → n % x + (n / x) % y * x + (n / x) / y * (x * y) ≡ n
    whole n x y =
        let q = n / x in
        omega (arith, div-add-mod' n x, ap (λ (t : ℕ). t * x) (div-add-mod' q y), add-mul (q / y * y) (q % y) x, mul_assoc (q / y) y x, ap (λ (t : ℕ). q / y * t) (mul_comm y x))

pub cell_in : (r : Axes) (n : ℕ) → n < cells r → InGrid r (cell_numbered r n)
cell_in r n h =
    let x = r.r0 in
    let y = r.r1 in
    let z = r.r2 in
    let pxy : 0 < x * y = pos_left (x * y) z n h in
    let px : 0 < x = pos_left x y 0 pxy in
    let py : 0 < y = pos_left y x 0 (rw (mul_comm y x) pxy) in
    let b : n < z * y * x = rw (sym (turn_round x y z)) h in
    record { i_in = mod-lt n px; j_in = mod-lt (n / x) py; k_in = (div-lt_iff_lt-mul py).1 ((div-lt_iff_lt-mul px).1 b) }

pub cell_of_number : (r : Axes) (c : Cell) → InGrid r c → cell_numbered r (num r c) ≡ c
cell_of_number r c h = num_inj r (cell_numbered r (num r c)) c (cell_in r (num r c) (num_lt r c h)) h (number_of_cell r (num r c))

-- two cells of the grid are one, or they are not
pub dec_cell : {C : Type 0} (r : Axes) (c d : Cell) → InGrid r c → InGrid r d → (c ≡ d → C) → ((c ≡ d → ⊥) → C) → C
dec_cell r c d h g y n = dec_eq (num r c) (num r d) (λ q. y (num_inj r c d h g q)) (λ z. n (λ e. z (ap (num r) e)))

-- two lists of labels that agree at each cell are one
pub by_cell : (r : Axes) (a b : List ℕ) → length a ≡ cells r → length b ≡ cells r → ((c : Cell) → InGrid r c → at r a c ≡ at r b c) → a ≡ b
by_cell r a b p q h =
    ext_get_or 0 a b (p ∙ sym q) (λ n g. subst (λ (t : ℕ). get_or a t 0 ≡ get_or b t 0) (number_of_cell r n) (h (cell_numbered r n) (cell_in r n (omega (arith, p)))))

-- ---- the labels that a rule gives

pub ones_length : (n : ℕ) (f : ℕ → ℕ) → length (first_ones n f) ≡ n
unfolding first_ones
ones_length zero f = refl
ones_length (suc n) f = ap suc (ones_length n (λ k. f (suc k)))

pub ones_at : (n : ℕ) (f : ℕ → ℕ) (k : ℕ) → k < n → get_or (first_ones n f) k 0 ≡ f k
unfolding first_ones
ones_at zero f k h = absurd (omega arith)
ones_at (suc n) f zero h = refl
ones_at (suc n) f (suc k) h = ones_at n (λ k. f (suc k)) k (omega arith)

pub labels_length : (r : Axes) (f : Cell → ℕ) → length (labels_by r f) ≡ cells r
labels_length r f = ones_length (cells r) (λ n. f (cell_numbered r n))

-- each cell has its own
pub labels_at : (r : Axes) (f : Cell → ℕ) (c : Cell) → InGrid r c → at r (labels_by r f) c ≡ f c
labels_at r f c h = ones_at (cells r) (λ n. f (cell_numbered r n)) (num r c) (num_lt r c h) ∙ ap f (cell_of_number r c h)

-- and there is no other such list
pub labels_one : (r : Axes) (f : Cell → ℕ) (l : List ℕ) → length l ≡ cells r → ((c : Cell) → InGrid r c → at r l c ≡ f c) → l ≡ labels_by r f
labels_one r f l e h = by_cell r l (labels_by r f) e (labels_length r f) (λ c i. h c i ∙ sym (labels_at r f c i))

-- as many labels as before are still a label for each cell
pub sheet_kept : (r : Axes) (l m : List ℕ) → length m ≡ length l → Sheet r l → Sheet r m
sheet_kept r l m e s = record { sound = s.sound; size = e ∙ s.size }

-- ---- what a store changes

pub here : (r : Axes) (l : List ℕ) (v : ℕ) (d : Cell) → InGrid r d → length l ≡ cells r → at r (set l (num r d) v) d ≡ v
here r l v d h e = get_or-set_same l (num r d) v 0 (rw e (num_lt r d h))

pub there : (r : Axes) (l : List ℕ) (v : ℕ) (c d : Cell) → InGrid r c → InGrid r d → (c ≡ d → ⊥) → at r (set l (num r d) v) c ≡ at r l c
there r l v c d h g z = get_or-set_other l (num r d) (num r c) v 0 (λ q. z (num_inj r c d h g q))

pub stored : {C : Type 0} (r : Axes) (l : List ℕ) (v : ℕ) (c d : Cell) → InGrid r c → InGrid r d → length l ≡ cells r
    → (c ≡ d → at r (set l (num r d) v) c ≡ v → C) → ((c ≡ d → ⊥) → at r (set l (num r d) v) c ≡ at r l c → C) → C
stored r l v c d h g e same other =
    dec_cell r c d h g (λ q. same q (rw q (here r l v d g e))) (λ z. other z (there r l v c d h g z))

-- ---- what a cell's number is made of is small

pub record Terms (r : Axes) (c : Cell) : Type 0 where
  pub r01 : r.r0 * r.r1 ≤ 65536
  pub jr0 : c.j * r.r0 ≤ 65536
  pub kr01 : c.k * (r.r0 * r.r1) ≤ 16777216

pub terms : (r : Axes) (c : Cell) → Sound r → InGrid r c → Terms r c
terms r c f h =
    let m : r.r0 * r.r1 ≤ 65536 = mul-le-mul f.axis0.most f.axis1.most in
    let j : c.j ≤ 256 = omega (arith, f.axis1.most, h.j_in) in
    let k : c.k ≤ 256 = omega (arith, f.axis2.most, h.k_in) in
    record { r01 = m; jr0 = mul-le-mul j f.axis0.most; kr01 = mul-le-mul k m }

pub cells_max : (r : Axes) → Sound r → cells r ≤ 16777216
cells_max r f =
    let m : r.r0 * r.r1 ≤ 65536 = mul-le-mul f.axis0.most f.axis1.most in
    mul-le-mul m f.axis2.most

-- ---- faces

pub swap_face : {c d : Cell} → Face c d → Face d c
swap_face (inl x) = inr x
swap_face (inr x) = inl x

-- ---- the border's test

either : (a b : Bool) → (a || b) ≡ true → (a ≡ true) ⊎ (b ≡ true)
either true b h = inl refl
either false b h = inr h

or_left : (a b : Bool) → a ≡ true → (a || b) ≡ true
or_left a b h = rw h

or_right : (a b : Bool) → b ≡ true → (a || b) ≡ true
or_right true b h = refl
or_right false b h = h

last_of : (a n : ℕ) → a < n → n - a ≡ 1 → a + 1 ≡ n
last_of a n h e = omega arith

of_last : (a n : ℕ) → a + 1 ≡ n → n - a ≡ 1
of_last a n e = omega arith

module _ (r : Axes) (c : Cell) where
  abbrev lowest : Bool
  lowest = (eqb c.i 0 || eqb c.j 0) || eqb c.k 0

  abbrev last0 : Bool
  last0 = eqb (r.r0 - c.i) 1

  abbrev last1 : Bool
  last1 = eqb (r.r1 - c.j) 1

  abbrev last2 : Bool
  last2 = eqb (r.r2 - c.k) 1

  pub border_test : InGrid r c → (on_border r c ≡ true) ↔ Border r c
  border_test h = (from, back)
    where
      from : on_border r c ≡ true → Border r c
      from t =
          ⊎_elim
          (λ p. ⊎_elim
          (λ p. ⊎_elim
          (λ p. ⊎_elim
          (λ p. ⊎_elim (λ p. first_i (eqb-true c.i 0 p)) (λ p. first_j (eqb-true c.j 0 p)) (either (eqb c.i 0) (eqb c.j 0) p))
          (λ p. first_k (eqb-true c.k 0 p))
          (either (eqb c.i 0 || eqb c.j 0) (eqb c.k 0) p))
          (λ p. last_i (last_of c.i r.r0 h.i_in (eqb-true (r.r0 - c.i) 1 p)))
          (either lowest last0 p))
          (λ p. last_j (last_of c.j r.r1 h.j_in (eqb-true (r.r1 - c.j) 1 p)))
          (either (lowest || last0) last1 p))
          (λ p. last_k (last_of c.k r.r2 h.k_in (eqb-true (r.r2 - c.k) 1 p)))
          (either ((lowest || last0) || last1) last2 t)

      up : lowest ≡ true → on_border r c ≡ true
      up p = or_left ((lowest || last0) || last1) last2 (or_left (lowest || last0) last1 (or_left lowest last0 p))

      back : Border r c → on_border r c ≡ true
      back (first_i e) = up (or_left (eqb c.i 0 || eqb c.j 0) (eqb c.k 0) (or_left (eqb c.i 0) (eqb c.j 0) (eq-eqb c.i 0 e)))
      back (first_j e) = up (or_left (eqb c.i 0 || eqb c.j 0) (eqb c.k 0) (or_right (eqb c.i 0) (eqb c.j 0) (eq-eqb c.j 0 e)))
      back (first_k e) = up (or_right (eqb c.i 0 || eqb c.j 0) (eqb c.k 0) (eq-eqb c.k 0 e))
      back (last_i e) = or_left ((lowest || last0) || last1) last2 (or_left (lowest || last0) last1 (or_right lowest last0 (eq-eqb (r.r0 - c.i) 1 (of_last c.i r.r0 e))))
      back (last_j e) = or_left ((lowest || last0) || last1) last2 (or_right (lowest || last0) last1 (eq-eqb (r.r1 - c.j) 1 (of_last c.j r.r1 e)))
      back (last_k e) = or_right ((lowest || last0) || last1) last2 (eq-eqb (r.r2 - c.k) 1 (of_last c.k r.r2 e))
