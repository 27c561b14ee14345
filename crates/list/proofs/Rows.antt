-- Laws of records in list order: their length, one list of cells after another; how many cells are listed; and the pass that writes them. Assumes nothing.
use mathlib.Core.Bool.{true, false}
use mathlib.Core.Path.{◌≡◌, refl, sym, ap, subst, ◌∙◌}
use mathlib.Core.List.{List, [], ◌∷◌, ◌++◌, append_assoc, append-nil}
use Prim.Native.Nat.{ℕ, zero, suc, ◌+◌, ◌*◌, ◌-◌, ◌≤◌, ◌<◌}
use native.Mathlib.Nat.{suc-mul}
use native.Mathlib.Omega.{arith}
use lib.ListN.{length, get_or, take, length-append}
use Rattle.grid.specs.declared.Axes.{Axes}
use Rattle.grid.specs.declared.Cell.{Cell}
use Rattle.grid.specs.Counts.{count}
use Rattle.grid.specs.Grid.{Sheet, at}
use Rattle.grid.proofs.Cells.{cells_max}
use Rattle.grid.proofs.Counts.{count_most}
use Rattle.order.specs.Order.{row, rows, slabs, keep, join_all}
use Rattle.order.specs.Output.{Written}
use Rattle.order.proofs.Orders.{keep_yes, keep_no, keep_append}
use Rattle.order.proofs.Outputs.{append_left, written_none, written_then}
use Rattle.order.proofs.Sums.{kept_count}
use Rattle.list_record.specs.declared.CellRecord.{CellRecord}
use Rattle.list_record.specs.Record.{width, numbers_of, record_at}
use Rattle.list_record.proofs.Records.{numbers_length, numbers_read, record_behind}
use Rattle.list.specs.List.{is_listed, flag_of, listed, records_from, listed_in, plain_in, RoomFrom}

module _ (r : Axes) (l : List ℕ) (f : Cell → List ℕ) where
  -- the record of a cell at a running place
  abbrev pub row_at : ℕ → Cell → CellRecord
  row_at s c = record { cell = c; surface = flag_of (at r l c); start = s; end = s + length (f c) }

  pub rows_length : (s : ℕ) (cs : List Cell) → length (records_from r l f s cs) ≡ length cs * width
  unfolding records_from
  rows_length s [] = refl
  rows_length s (c ∷ cs) =
      length-append (numbers_of (row_at s c)) (records_from r l f (s + length (f c)) cs)
      ∙ omega (arith, numbers_length (row_at s c), rows_length (s + length (f c)) cs, suc-mul (length cs) width)

  pub rows_append : (s : ℕ) (xs ys : List Cell) → records_from r l f s (xs ++ ys) ≡ records_from r l f s xs ++ records_from r l f (s + length (join_all f xs)) ys
  unfolding records_from join_all
  rows_append s [] ys = ap (λ (n : ℕ). records_from r l f n ys) (let e : s ≡ s + 0 = omega arith in e)
  rows_append s (c ∷ xs) ys =
      ap (λ (t : List ℕ). numbers_of (row_at s c) ++ t)
      (rows_append (s + length (f c)) xs ys
      ∙ ap (λ (n : ℕ). records_from r l f (s + length (f c)) xs ++ records_from r l f n ys)
      (let e : s + length (f c) + length (join_all f xs) ≡ s + length (f c ++ join_all f xs) = omega (arith, length-append (f c) (join_all f xs)) in e))
      ∙ sym (append_assoc (numbers_of (row_at s c)) (records_from r l f (s + length (f c)) xs) (records_from r l f (s + length (f c ++ join_all f xs)) ys))

  -- one cell more
  pub rows_more : (s : ℕ) (xs : List Cell) (c : Cell) → records_from r l f s (xs ++ (c ∷ [])) ≡ records_from r l f s xs ++ numbers_of (row_at (s + length (join_all f xs)) c)
  unfolding records_from
  rows_more s xs c = rows_append s xs (c ∷ []) ∙ ap (λ (t : List ℕ). records_from r l f s xs ++ t) (append-nil (numbers_of (row_at (s + length (join_all f xs)) c)))

  -- record p: its cell's, at the place that the cells before it come to
  pub row_read : (d : Cell) (s : ℕ) (cs : List Cell) (p : ℕ) → p < length cs → record_at (records_from r l f s cs) p ≡ row_at (s + length (join_all f (take p cs))) (get_or cs p d)
  unfolding records_from join_all
  row_read d s [] p h = absurd (none p h)
    where
      none : (p : ℕ) → p < 0 → ⊥
      none p h = omega arith
  row_read d s (c ∷ cs) zero h =
      numbers_read (numbers_of (row_at s c) ++ records_from r l f (s + length (f c)) cs) 0 (row_at s c) first
      ∙ ap (λ (k : ℕ). row_at k c) (let e : s ≡ s + 0 = omega arith in e)
    where
      first : (x : ℕ) → x < width → get_or (numbers_of (row_at s c) ++ records_from r l f (s + length (f c)) cs) (0 * width + x) 0 ≡ get_or (numbers_of (row_at s c)) x 0
      first x w =
          ap (λ (k : ℕ). get_or (numbers_of (row_at s c) ++ records_from r l f (s + length (f c)) cs) k 0) (let e : 0 * width + x ≡ x = omega arith in e)
          ∙ append_left 0 (numbers_of (row_at s c)) (records_from r l f (s + length (f c)) cs) x (let e = numbers_length (row_at s c) in omega arith)
  row_read d s (c ∷ cs) (suc p) h =
      record_behind (numbers_of (row_at s c)) (records_from r l f (s + length (f c)) cs) p (numbers_length (row_at s c))
      ∙ row_read d (s + length (f c)) cs p (omega arith)
      ∙ ap (λ (k : ℕ). row_at k (get_or cs p d)) (let e : s + length (f c) + length (join_all f (take p cs)) ≡ s + length (f c ++ join_all f (take p cs)) = omega (arith, length-append (f c) (join_all f (take p cs))) in e)

-- where no cell has triangles
abbrev pub none : Cell → List ℕ
none c = []

pub none_joined : (cs : List Cell) → length (join_all none cs) ≡ 0
unfolding join_all
none_joined [] = refl
none_joined (c ∷ cs) = none_joined cs

-- ---- how many cells are listed

module _ (r : Axes) (l : List ℕ) (h : Sheet r l) where
  pub listed_count : count is_listed l ≡ length (listed r l)
  listed_count = sym (kept_count r l is_listed h.size)

  pub listed_few : length (listed r l) ≤ 16777216
  listed_few = omega (arith, kept_count r l is_listed h.size, count_most is_listed l, h.size, cells_max r h.sound)

-- ---- rows, slabs and the grid, part after part

row_split : (i j k n m : ℕ) → row i j k (n + m) ≡ row i j k n ++ row i j (k + n) m
unfolding row
row_split i j k zero m = let e : k ≡ k + 0 = omega arith in let f : 0 + m ≡ m = omega arith in λ t. row i j (e t) (f t)
row_split i j k (suc n) m =
    ap (λ (x : ℕ). row i j k x) (let e : suc n + m ≡ suc (n + m) = omega arith in e)
    ∙ ap (λ (cs : List Cell). record { i = i; j = j; k = k } ∷ cs) (row_split i j (k + 1) n m ∙ ap (λ (x : ℕ). row i j (k + 1) n ++ row i j x m) (let e : k + 1 + n ≡ k + suc n = omega arith in e))

rows_split : (z i j n m : ℕ) → rows z i j (n + m) ≡ rows z i j n ++ rows z i (j + n) m
unfolding rows
rows_split z i j zero m = let e : j ≡ j + 0 = omega arith in let f : 0 + m ≡ m = omega arith in λ t. rows z i (e t) (f t)
rows_split z i j (suc n) m =
    ap (λ (x : ℕ). rows z i j x) (let e : suc n + m ≡ suc (n + m) = omega arith in e)
    ∙ ap (λ (cs : List Cell). row i j 0 z ++ cs) (rows_split z i (j + 1) n m ∙ ap (λ (x : ℕ). rows z i (j + 1) n ++ rows z i x m) (let e : j + 1 + n ≡ j + suc n = omega arith in e))
    ∙ sym (append_assoc (row i j 0 z) (rows z i (j + 1) n) (rows z i (j + suc n) m))

slabs_split : (y z i n m : ℕ) → slabs y z i (n + m) ≡ slabs y z i n ++ slabs y z (i + n) m
unfolding slabs
slabs_split y z i zero m = let e : i ≡ i + 0 = omega arith in let f : 0 + m ≡ m = omega arith in λ t. slabs y z (e t) (f t)
slabs_split y z i (suc n) m =
    ap (λ (x : ℕ). slabs y z i x) (let e : suc n + m ≡ suc (n + m) = omega arith in e)
    ∙ ap (λ (cs : List Cell). rows z i 0 y ++ cs) (slabs_split y z (i + 1) n m ∙ ap (λ (x : ℕ). slabs y z (i + 1) n ++ slabs y z x m) (let e : i + 1 + n ≡ i + suc n = omega arith in e))
    ∙ sym (append_assoc (rows z i 0 y) (slabs y z (i + 1) n) (slabs y z (i + suc n) m))

-- none yet
pub row_none : (i j : ℕ) → row i j 0 0 ≡ []
unfolding row
row_none i j = refl

pub rows_none : (z i : ℕ) → rows z i 0 0 ≡ []
unfolding rows
rows_none z i = refl

pub slabs_none : (y z : ℕ) → slabs y z 0 0 ≡ []
unfolding slabs
slabs_none y z = refl

-- the one where a walk stands is next
pub row_next : (i j k : ℕ) → row i j 0 (k + 1) ≡ row i j 0 k ++ (record { i = i; j = j; k = k } ∷ [])
unfolding row
row_next i j k = row_split i j 0 k 1 ∙ ap (λ (x : ℕ). row i j 0 k ++ (record { i = i; j = j; k = x } ∷ [])) (let e : 0 + k ≡ k = omega arith in e)

pub rows_next : (z i j : ℕ) → rows z i 0 (j + 1) ≡ rows z i 0 j ++ row i j 0 z
unfolding rows
rows_next z i j = rows_split z i 0 j 1 ∙ ap (λ (x : ℕ). rows z i 0 j ++ (row i x 0 z ++ [])) (let e : 0 + j ≡ j = omega arith in e) ∙ ap (λ (cs : List Cell). rows z i 0 j ++ cs) (append-nil (row i j 0 z))

pub slabs_next : (y z i : ℕ) → slabs y z 0 (i + 1) ≡ slabs y z 0 i ++ rows z i 0 y
unfolding slabs
slabs_next y z i = slabs_split y z 0 i 1 ∙ ap (λ (x : ℕ). slabs y z 0 i ++ (rows z x 0 y ++ [])) (let e : 0 + i ≡ i = omega arith in e) ∙ ap (λ (cs : List Cell). slabs y z 0 i ++ cs) (append-nil (rows z i 0 y))

-- and it is part of the whole
whole_is : (n m : ℕ) → n + 1 ≤ m → n + 1 + (m - (n + 1)) ≡ m
whole_is n m h = omega arith

pub row_part : (i j k z : ℕ) → k < z → row i j 0 z ≡ row i j 0 (k + 1) ++ row i j (0 + (k + 1)) (z - (k + 1))
row_part i j k z h = ap (λ (x : ℕ). row i j 0 x) (sym (whole_is k z (omega arith))) ∙ row_split i j 0 (k + 1) (z - (k + 1))

pub rows_part : (z i j y : ℕ) → j < y → rows z i 0 y ≡ rows z i 0 (j + 1) ++ rows z i (0 + (j + 1)) (y - (j + 1))
rows_part z i j y h = ap (λ (x : ℕ). rows z i 0 x) (sym (whole_is j y (omega arith))) ∙ rows_split z i 0 (j + 1) (y - (j + 1))

pub slabs_part : (y z i x : ℕ) → i < x → slabs y z 0 x ≡ slabs y z 0 (i + 1) ++ slabs y z (0 + (i + 1)) (x - (i + 1))
slabs_part y z i x h = ap (λ (n : ℕ). slabs y z 0 n) (sym (whole_is i x (omega arith))) ∙ slabs_split y z 0 (i + 1) (x - (i + 1))

-- ---- the records of some cells, and then of more, with empty ranges at 0

module _ (r : Axes) (l : List ℕ) where
  pub listed_both : (xs ys : List Cell) → length (listed_in r l (xs ++ ys)) ≡ length (listed_in r l xs) + length (listed_in r l ys)
  listed_both xs ys = ap (λ (cs : List Cell). length cs) (keep_append (λ c. is_listed (at r l c)) xs ys) ∙ length-append (listed_in r l xs) (listed_in r l ys)

  plain_both : (xs ys : List Cell) → plain_in r l (xs ++ ys) ≡ plain_in r l xs ++ plain_in r l ys
  plain_both xs ys =
      ap (records_from r l none 0) (keep_append (λ c. is_listed (at r l c)) xs ys)
      ∙ rows_append r l none 0 (listed_in r l xs) (listed_in r l ys)
      ∙ ap (λ (n : ℕ). plain_in r l xs ++ records_from r l none n (listed_in r l ys)) (let z : 0 + length (join_all none (listed_in r l xs)) ≡ 0 = omega (arith, none_joined (listed_in r l xs)) in z)

  -- the records of the cells `done` are written, from record p up to, not including, q
  pub record Parts (o out : List ℕ) (p q : ℕ) (done : List Cell) : Type 0 where
    pub place : q ≡ p + length (listed_in r l done)
    pub buffer : Written 0 (p * width) (plain_in r l done) o out

  module _ (o : List ℕ) (p : ℕ) where
    pub parts_none : Parts o o p p []
    unfolding keep records_from
    parts_none = record { place = omega arith; buffer = written_none 0 (p * width) o }

    pub parts_then : (out out' : List ℕ) (q q' : ℕ) (done next all : List Cell) → Parts o out p q done → all ≡ done ++ next → q' ≡ q + length (listed_in r l next)
        → Written 0 (q * width) (plain_in r l next) out out' → Parts o out' p q' all
    parts_then out out' q q' done next all a e g b = subst (Parts o out' p q') (sym e) (record {
      place = omega (arith, a.place, listed_both done next);
      buffer =
          subst (λ (t : List ℕ). Written 0 (p * width) t o out') (sym (plain_both done next))
          (written_then 0 (p * width) (plain_in r l done) (plain_in r l next) o out out' a.buffer
          (subst (λ (n : ℕ). Written 0 n (plain_in r l next) out out') (let z : q * width ≡ p * width + length (plain_in r l done) = omega (arith, a.place, rows_length r l none 0 (listed_in r l done)) in z) b));
    })

    -- the room for the next part
    pub parts_room : (out : List ℕ) (q : ℕ) (done next upto rest all : List Cell) → Parts o out p q done → upto ≡ done ++ next → all ≡ upto ++ rest → RoomFrom p (listed_in r l all) o → RoomFrom q (listed_in r l next) out
    parts_room out q done next upto rest all a e f w =
        let x = listed_both done next in
        let y = ap (λ (cs : List Cell). length (listed_in r l cs)) f ∙ listed_both upto rest in
        let z = ap (λ (cs : List Cell). length (listed_in r l cs)) e in
        record { room = omega (arith, a.place, x, y, z, w.room, a.buffer.size); few = omega (arith, a.place, x, y, z, w.few) }

  -- ---- one cell

  module _ (c : Cell) where
    pub one_yes : is_listed (at r l c) ≡ true → listed_in r l (c ∷ []) ≡ c ∷ []
    unfolding keep
    one_yes h = keep_yes (λ d. is_listed (at r l d)) c [] h

    pub one_no : is_listed (at r l c) ≡ false → listed_in r l (c ∷ []) ≡ []
    unfolding keep
    one_no h = keep_no (λ d. is_listed (at r l d)) c [] h

    plain_one : is_listed (at r l c) ≡ true → plain_in r l (c ∷ []) ≡ numbers_of (record { cell = c; surface = flag_of (at r l c); start = 0; end = 0 })
    unfolding records_from
    plain_one h = ap (records_from r l none 0) (one_yes h) ∙ append-nil (numbers_of (record { cell = c; surface = flag_of (at r l c); start = 0; end = 0 }))

    module _ (o out : List ℕ) (p q : ℕ) (done all : List Cell) (a : Parts o out p q done) (e : all ≡ done ++ (c ∷ [])) where
      pub parts_yes : is_listed (at r l c) ≡ true → (out' : List ℕ) → Written 0 (q * width) (numbers_of (record { cell = c; surface = flag_of (at r l c); start = 0; end = 0 })) out out' → Parts o out' p (q + 1) all
      parts_yes h out' b =
          parts_then o p out out' q (q + 1) done (c ∷ []) all a e (omega (arith, ap (λ (cs : List Cell). length cs) (one_yes h)))
          (subst (λ (t : List ℕ). Written 0 (q * width) t out out') (sym (plain_one h)) b)

      pub parts_no : is_listed (at r l c) ≡ false → Parts o out p q all
      unfolding records_from
      parts_no h =
          parts_then o p out out q q done (c ∷ []) all a e (omega (arith, ap (λ (cs : List Cell). length cs) (one_no h)))
          (subst (λ (t : List ℕ). Written 0 (q * width) t out out) (sym (ap (records_from r l none 0) (one_no h))) (written_none 0 (q * width) out))
