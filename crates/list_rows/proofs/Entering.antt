-- Laws of specs/Rows.antt: a round that gives nothing, one and then another, and what is left of the room. Assumes nothing.
use mathlib.Core.Bool.{Bool, true, false, cond, ◌&&◌, ◌||◌}
use mathlib.Core.Logic.{◌⊎◌, inl, inr, ⊎_elim}
use mathlib.Core.Path.{◌≡◌, refl, sym, ap, subst, ◌∙◌}
use mathlib.Core.List.{List, [], ◌∷◌, ◌++◌}
use Prim.Native.Nat.{ℕ, ◌+◌, ◌*◌, ◌-◌, ◌≤◌, ◌<◌}
use native.Mathlib.Omega.{arith}
use lib.Dec.{eqb}
use lib.ListN.{length, get_or, length-append}
use Rattle.grid.specs.declared.Cell.{Cell}
use Rattle.grid.proofs.First.{le_or_lt}
use Rattle.touch.specs.Bands.{CellFits}
use Rattle.order.proofs.Outputs.{append_left, append_right}
use Rattle.list_record.specs.declared.CellRecord.{CellRecord}
use Rattle.list_record.specs.Record.{record_at, ranged}
use Rattle.list_record.proofs.Records.{record_path}
use Rattle.list_lookup.specs.Lookup.{Table, Behind}
use Rattle.list_rows.specs.Rows.{end_at, gets, Bumped, PlacedIn, Given, Entered, Places, Free, Room}

module _ (n : ℕ) where
  -- ---- what a bump leaves

  module _ (g : ℕ → List ℕ) (o m : List ℕ) (b : Bumped n g o m) where
    pub bump_cell : (p : ℕ) → p < n → (record_at m p).cell ≡ (record_at o p).cell
    bump_cell p l = ap (λ (e : CellRecord). e.cell) (b.rows p l)

    pub bump_surface : (p : ℕ) → p < n → (record_at m p).surface ≡ (record_at o p).surface
    bump_surface p l = ap (λ (e : CellRecord). e.surface) (b.rows p l)

    pub bump_end : (p : ℕ) → p < n → end_at m p ≡ end_at o p + length (g p)
    bump_end p l = ap (λ (e : CellRecord). e.end) (b.rows p l)

    pub bump_table : Table o n → Table m n
    bump_table w = record {
      room = omega (arith, w.room, b.size);
      few = w.few;
      near = λ p l. subst CellFits (sym (bump_cell p l)) (w.near p l);
      up = λ p q l h. omega (arith, w.up p q l h, ap (λ (c : Cell). c.i * 65536 + c.j * 256 + c.k) (bump_cell p (omega arith)), ap (λ (c : Cell). c.i * 65536 + c.j * 256 + c.k) (bump_cell q h));
    }

    pub bump_behind : (a x : ℕ) → Behind o n a x → Behind m n a x
    bump_behind a x w = record {
      most = w.most;
      under = λ p l. let k = w.most in omega (arith, w.under p l, ap (λ (c : Cell). c.i * 65536 + c.j * 256 + c.k) (bump_cell p (omega arith)));
    }

    pub bump_back : (a x : ℕ) → Behind m n a x → Behind o n a x
    bump_back a x w = record {
      most = w.most;
      under = λ p l. let k = w.most in omega (arith, w.under p l, ap (λ (c : Cell). c.i * 65536 + c.j * 256 + c.k) (bump_cell p (omega arith)));
    }

    -- a set meets the same records
    pub bump_gets : (t : ℕ) (set : Cell → Bool) (p : ℕ) → p < n → gets t set m p ≡ gets t set o p
    bump_gets t set p l = λ i. cond (eqb (bump_surface p l i) 1 && set (bump_cell p l i)) (t ∷ []) []

  -- ---- nothing, and the same

  pub entered_none : (placing : Bool) (g : ℕ → List ℕ) (o q : List ℕ) → ((p : ℕ) → p < n → g p ≡ []) → Entered placing n g o q o q
  entered_none placing g o q h = record {
    bumped = record {
      size = refl;
      rows = λ p l. record_path _ _ refl refl refl (more p l);
      past = λ x l. refl;
    };
    given = go placing;
  }
    where
      more : (p : ℕ) → p < n → end_at o p ≡ end_at o p + length (g p)
      more p l = let e = ap (λ (xs : List ℕ). length xs) (h p l) in omega arith

      none : (p : ℕ) → p < n → (x : ℕ) → x < length (g p) → ⊥
      none p l x k = let e = ap (λ (xs : List ℕ). length xs) (h p l) in omega arith

      go : (placing : Bool) → Given placing n g o q q
      go true = record { size = refl; there = λ p l x k. absurd (none p l x k); others = λ y k. refl }
      go false = refl

  pub entered_same : (placing : Bool) (g h : ℕ → List ℕ) (o q o' q' : List ℕ) → ((p : ℕ) → p < n → g p ≡ h p) → Entered placing n g o q o' q' → Entered placing n h o q o' q'
  entered_same placing g h o q o' q' e w = record {
    bumped = record {
      size = w.bumped.size;
      rows = λ p l. w.bumped.rows p l ∙ ap (λ (xs : List ℕ). ranged (record_at o p).start (end_at o p + length xs) (record_at o p)) (e p l);
      past = w.bumped.past;
    };
    given = go placing w.given;
  }
    where
      go : (placing : Bool) → Given placing n g o q q' → Given placing n h o q q'
      go true f = record {
        size = f.size;
        there = λ p l x k. let z = ap (λ (xs : List ℕ). length xs) (e p l) in f.there p l x (omega arith) ∙ ap (λ (xs : List ℕ). get_or xs x 0) (e p l);
        others = λ y k. f.others y (λ p l. subst (λ (xs : List ℕ). (y < end_at o p) ⊎ (end_at o p + length xs ≤ y)) (sym (e p l)) (k p l));
      }
      go false f = f

  -- ---- one pass and then another

  module _ (g a b : ℕ → List ℕ) (o : List ℕ) (e : (p : ℕ) → p < n → g p ≡ a p ++ b p) where
    both : (p : ℕ) → p < n → length (g p) ≡ length (a p) + length (b p)
    both p l = ap (λ (xs : List ℕ). length xs) (e p l) ∙ length-append (a p) (b p)

    -- the room for both is room for the first
    pub room_part : (placing : Bool) (len : ℕ) → Room placing n g o len → Room placing n a o len
    room_part placing len w = record { fits = λ p l. omega (arith, w.fits p l, both p l); free = go placing w.free }
      where
        go : (placing : Bool) → Free placing n g o len → Free placing n a o len
        go true f = record { inside = λ p l. omega (arith, f.inside p l, both p l); apart = λ p q l h. omega (arith, f.apart p q l h, both p (omega arith)) }
        go false f = tt

    module _ (m : List ℕ) (x : Bumped n a o m) where
      -- and then for the second
      pub room_rest : (placing : Bool) (len : ℕ) → Room placing n g o len → Room placing n b m len
      room_rest placing len w = record { fits = λ p l. omega (arith, w.fits p l, both p l, bump_end a o m x p l); free = go placing w.free }
        where
          go : (placing : Bool) → Free placing n g o len → Free placing n b m len
          go true f = record {
            inside = λ p l. omega (arith, f.inside p l, both p l, bump_end a o m x p l);
            apart = λ p q l h. omega (arith, f.apart p q l h, both p (omega arith), bump_end a o m x p (omega arith), bump_end a o m x q h);
          }
          go false f = tt

      bumped_then : (m' : List ℕ) → Bumped n b m m' → Bumped n g o m'
      bumped_then m' y = record {
        size = y.size ∙ x.size;
        rows = λ p l.
            y.rows p l
            ∙ record_path _ _ (bump_cell a o m x p l) (bump_surface a o m x p l) (ap (λ (f : CellRecord). f.start) (x.rows p l))
            (let z = bump_end a o m x p l in let k = both p l in let q : end_at m p + length (b p) ≡ end_at o p + length (g p) = omega arith in q);
        past = λ k l. y.past k l ∙ x.past k l;
      }

      -- the places of the first pass are none of the second's
      kept : (len : ℕ) → Places n g o len → (p : ℕ) → p < n → (k : ℕ) → k < length (a p) → (q : ℕ) → q < n → (end_at o p + k < end_at m q) ⊎ (end_at m q + length (b q) ≤ end_at o p + k)
      kept len w p l k h q j =
          ⊎_elim
          (λ z. ⊎_elim (λ y. inl (let s : q ≡ p = omega arith in same s)) (λ y. inl (later y)) (le_or_lt q p))
          (λ z. inr (earlier z))
          (le_or_lt p q)
        where
          same : q ≡ p → end_at o p + k < end_at m q
          same s = let z = bump_end a o m x p l in let y = ap (end_at m) s in omega arith

          later : p < q → end_at o p + k < end_at m q
          later y = omega (arith, w.apart p q y j, both p l, bump_end a o m x q j)

          earlier : q < p → end_at m q + length (b q) ≤ end_at o p + k
          earlier z = omega (arith, w.apart q p z l, both q j, bump_end a o m x q j)

      filled_then : (len : ℕ) → Places n g o len → (q q' q'' : List ℕ) → PlacedIn n a o q q' → PlacedIn n b m q' q'' → PlacedIn n g o q q''
      filled_then len w q q' q'' u v = record {
        size = v.size ∙ u.size;
        there = λ p l k h.
            ⊎_elim
            (λ z.
            ap (λ (i : ℕ). get_or q'' i 0) (let y = bump_end a o m x p l in let s : end_at o p + k ≡ end_at m p + (k - length (a p)) = omega arith in s)
            ∙ v.there p l (k - length (a p)) (omega (arith, both p l))
            ∙ sym (ap (λ (xs : List ℕ). get_or xs k 0) (e p l) ∙ append_right 0 (a p) (b p) k z))
            (λ z. v.others (end_at o p + k) (kept len w p l k z) ∙ u.there p l k z ∙ sym (ap (λ (xs : List ℕ). get_or xs k 0) (e p l) ∙ append_left 0 (a p) (b p) k z))
            (le_or_lt (length (a p)) k);
        others = λ y h. v.others y (λ p l. second y p l (h p l)) ∙ u.others y (λ p l. first y p l (h p l));
      }
        where
          first : (y p : ℕ) → p < n → (y < end_at o p) ⊎ (end_at o p + length (g p) ≤ y) → (y < end_at o p) ⊎ (end_at o p + length (a p) ≤ y)
          first y p l (inl h) = inl h
          first y p l (inr h) = inr (omega (arith, both p l))

          second : (y p : ℕ) → p < n → (y < end_at o p) ⊎ (end_at o p + length (g p) ≤ y) → (y < end_at m p) ⊎ (end_at m p + length (b p) ≤ y)
          second y p l (inl h) = inl (omega (arith, bump_end a o m x p l))
          second y p l (inr h) = inr (omega (arith, both p l, bump_end a o m x p l))

    pub entered_then : (placing : Bool) (len : ℕ) → Room placing n g o len → (q m q' o'' q'' : List ℕ) → Entered placing n a o q m q' → Entered placing n b m q' o'' q'' → Entered placing n g o q o'' q''
    entered_then placing len w q m q' o'' q'' u v = record { bumped = bumped_then m u.bumped o'' v.bumped; given = go placing w.free u.given v.given }
      where
        go : (placing : Bool) → Free placing n g o len → Given placing n a o q q' → Given placing n b m q' q'' → Given placing n g o q q''
        go true f s t = filled_then m u.bumped len f q q' q'' s t
        go false f s t = t ∙ s

-- ---- a set that is made of two without a cell in common

pub gets_either : (t : ℕ) (p q s : Cell → Bool) (o : List ℕ) (k : ℕ) → s (record_at o k).cell ≡ (p (record_at o k).cell || q (record_at o k).cell)
    → (p (record_at o k).cell && q (record_at o k).cell) ≡ false → gets t s o k ≡ gets t p o k ++ gets t q o k
gets_either t p q s o k h z =
    ap (λ (b : Bool). cond (eqb (record_at o k).surface 1 && b) (t ∷ []) []) h
    ∙ go (eqb (record_at o k).surface 1) (p (record_at o k).cell) (q (record_at o k).cell) z
  where
    go : (a x y : Bool) → (x && y) ≡ false → cond (a && (x || y)) (t ∷ []) [] ≡ cond (a && x) (t ∷ []) [] ++ cond (a && y) (t ∷ []) []
    go true true true w = absurd (let v : ◌≡◌ {A = ℕ} 0 1 = cc in omega arith)
    go true true false w = refl
    go true false y w = refl
    go false x y w = refl

-- and of none
pub gets_none : (t : ℕ) (s : Cell → Bool) (o : List ℕ) (k : ℕ) → s (record_at o k).cell ≡ false → gets t s o k ≡ []
gets_none t s o k h = ap (λ (b : Bool). cond (eqb (record_at o k).surface 1 && b) (t ∷ []) []) h ∙ go (eqb (record_at o k).surface 1)
  where
    go : (a : Bool) → cond (a && false) (t ∷ []) [] ≡ []
    go true = refl
    go false = refl

pub gets_same : (t : ℕ) (p q : Cell → Bool) (o : List ℕ) (k : ℕ) → p (record_at o k).cell ≡ q (record_at o k).cell → gets t p o k ≡ gets t q o k
gets_same t p q o k h = ap (λ (b : Bool). cond (eqb (record_at o k).surface 1 && b) (t ∷ []) []) h

-- the list keeps its length
pub entered_size : (placing : Bool) (n : ℕ) (g : ℕ → List ℕ) (o q o' q' : List ℕ) → Entered placing n g o q o' q' → length q' ≡ length q
entered_size placing n g o q o' q' w = go placing w.given
  where
    go : (placing : Bool) → Given placing n g o q q' → length q' ≡ length q
    go true f = f.size
    go false f = ap (λ (xs : List ℕ). length xs) f
