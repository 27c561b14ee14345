-- Step after step: the records written, the triangles of each counted, the places laid, the triangles placed; and what stands in the two outputs then. Assumes nothing.
use mathlib.Core.Bool.{Bool, true, false, ◌&&◌}
use mathlib.Core.Logic.{◌⊎◌, inl, inr, ⊎_elim}
use mathlib.Core.Path.{◌≡◌, refl, sym, ap, subst, ◌∙◌}
use mathlib.Core.List.{List, [], ◌∷◌, ◌++◌, append-nil}
use Prim.Native.Nat.{ℕ, zero, suc, ◌+◌, ◌*◌, ◌-◌, ◌≤◌, ◌<◌}
use native.Mathlib.Nat.{div-add-mod}
use native.Mathlib.Omega.{arith}
use lib.Dec.{eqb}
use lib.ListN.{length, get_or, take, length-append}
use lib.Ieee.{Float}
use lib.Seq.{take-length, take-suc}
use Rattle.grid.specs.declared.Axes.{Axes}
use Rattle.grid.specs.declared.Cell.{Cell}
use Rattle.grid.specs.declared.Placement.{Placement}
use Rattle.grid.specs.Grid.{Sheet, at}
use Rattle.grid.proofs.First.{le_or_lt}
use Rattle.touch.specs.Bands.{CellFits}
use Rattle.marking_mesh.specs.Mesh.{triangles}
use Rattle.marking.specs.Marked.{hits}
use Rattle.order.specs.Order.{key, join_all}
use Rattle.order.specs.Output.{over, Written}
use Rattle.order.proofs.Keys.{keys_up, kept_in}
use Rattle.order.proofs.Lists.{chosen_ext, chosen_most, join_append}
use Rattle.order.proofs.Orders.{by_bool}
use Rattle.order.proofs.Outputs.{append_left, append_right, written_over}
use Rattle.order.proofs.Sums.{sum}
use Rattle.list_record.specs.declared.CellRecord.{CellRecord}
use Rattle.list_record.specs.Record.{width, record_at}
use Rattle.list_record.proofs.Records.{record_path, record_same, records_over}
use Rattle.list.specs.List.{is_listed, flag_of, listed, records_of, plain_records}
use Rattle.list.proofs.Rows.{rows_length, row_read, none, none_joined, listed_few}
use Rattle.list_tally.specs.Pairs.{joins, triangles_of, triangle_list, pair_count}
use Rattle.list_lookup.specs.Lookup.{Table}
use Rattle.list_rows.specs.Rows.{end_at, meets, Entered, Room}
use Rattle.list_hits.specs.Hits.{all_of}
use Rattle.list_pairs.specs.Ranges.{ends_before, RangesLaid}
use Rattle.list_pairs.proofs.Layings.{sum_up}

-- ---- lists

module _ {A : Type 0} (f : A → List ℕ) (d : A) where
  -- so many elements the first p lists have
  unfoldable pub before : List A → ℕ → ℕ
  before cs p = length (join_all f (take p cs))

  before_more : (cs : List A) (p : ℕ) → p < length cs → before cs (suc p) ≡ before cs p + length (f (get_or cs p d))
  unfolding before join_all
  before_more cs p h =
      ap (λ (xs : List A). length (join_all f xs)) (take-suc cs p d h)
      ∙ ap (λ (xs : List ℕ). length xs) (join_append f (take p cs) (get_or cs p d ∷ []))
      ∙ length-append (join_all f (take p cs)) (f (get_or cs p d) ++ [])
      ∙ ap (λ (k : ℕ). length (join_all f (take p cs)) + k) (ap (λ (xs : List ℕ). length xs) (append-nil (f (get_or cs p d))))

  before_sum : (cs : List A) (p : ℕ) → p ≤ length cs → sum (λ k. length (f (get_or cs k d))) p ≡ before cs p
  unfolding sum before join_all
  before_sum cs zero h = refl
  before_sum cs (suc p) h = omega (arith, before_sum cs p (omega arith), before_more cs p (omega arith))

  before_all : (cs : List A) → before cs (length cs) ≡ length (join_all f cs)
  unfolding before
  before_all cs = ap (λ (xs : List A). length (join_all f xs)) (take-length cs)

  -- a buffer that has each list at its place has them one after the other
  joined_at : (m : List ℕ) (s : ℕ) (cs : List A) → ((p : ℕ) → p < length cs → (x : ℕ) → x < length (f (get_or cs p d)) → get_or m (s + before cs p + x) 0 ≡ get_or (f (get_or cs p d)) x 0)
      → (y : ℕ) → y < length (join_all f cs) → get_or m (s + y) 0 ≡ get_or (join_all f cs) y 0
  unfolding before join_all
  joined_at m s [] h y l = absurd (none y l)
    where
      none : (y : ℕ) → y < 0 → ⊥
      none y l = omega arith
  joined_at m s (c ∷ cs) h y l =
      ⊎_elim
      (λ g.
      ap (λ (k : ℕ). get_or m k 0) (let e : s + y ≡ s + length (f c) + (y - length (f c)) = omega arith in e)
      ∙ joined_at m (s + length (f c)) cs (λ p j x k. ap (λ (i : ℕ). get_or m i 0) (shift p x) ∙ h (suc p) (omega arith) x k) (y - length (f c)) (omega (arith, length-append (f c) (join_all f cs)))
      ∙ sym (append_right 0 (f c) (join_all f cs) y g))
      (λ g. ap (λ (k : ℕ). get_or m k 0) (let e : s + y ≡ s + 0 + y = omega arith in e) ∙ h zero (omega arith) y g ∙ sym (append_left 0 (f c) (join_all f cs) y g))
      (le_or_lt (length (f c)) y)
    where
      shift : (p x : ℕ) → s + length (f c) + length (join_all f (take p cs)) + x ≡ s + length (f c ++ join_all f (take p cs)) + x
      shift p x = omega (arith, length-append (f c) (join_all f (take p cs)))

-- ---- the passes, one after the other

-- surface is flagged 1
flag_test : (v : ℕ) → eqb (flag_of v) 1 ≡ eqb v 8
flag_test v = by_bool (eqb v 8) (λ e. rw e refl) (λ e. rw e refl)

abbrev pub corner : Cell
corner = record { i = 0; j = 0; k = 0 }

module _ (ps : List Float) (ts : List ℕ) (r : Axes) (p₀ : Placement) (l : List ℕ) (h : Sheet r l) (n : ℕ) (cells : n ≡ length (listed r l)) (o : List ℕ) (room : n * width ≤ length o) where
  abbrev cell : ℕ → Cell
  cell p = get_or (listed r l) p corner

  abbrev own : Cell → List ℕ
  own = triangles_of ps ts r p₀ l

  -- where the triangles of record p begin
  abbrev place : ℕ → ℕ
  place p = before own corner (listed r l) p

  -- a slice whose first n records have the listed cells and their flags
  pub record Shown (m : List ℕ) : Type 0 where
    pub size : length m ≡ length o
    pub cell_is : (p : ℕ) → p < n → (record_at m p).cell ≡ cell p
    pub flag_is : (p : ℕ) → p < n → (record_at m p).surface ≡ flag_of (at r l (cell p))
    pub past : (x : ℕ) → n * width ≤ x → get_or m x 0 ≡ get_or o x 0

  module _ (m : List ℕ) (w : Shown m) where
    pub shown_table : Table m n
    shown_table = record {
      room = omega (arith, w.size);
      few = omega (arith, listed_few r l h);
      near = λ p j. subst CellFits (sym (w.cell_is p j)) (near p j);
      up = λ p q j k. omega (arith, keys_up r (λ c. is_listed (at r l c)) corner h.sound p q j (omega arith), ap key (w.cell_is p (omega arith)), ap key (w.cell_is q k));
    }
      where
        near : (p : ℕ) → p < n → CellFits (cell p)
        near p j =
            let g = (kept_in r (λ c. is_listed (at r l c)) corner p (omega arith)).0 in
            let s = h.sound in
            record { i_near = omega (arith, g.i_in, s.axis0.most); j_near = omega (arith, g.j_in, s.axis1.most); k_near = omega (arith, g.k_in, s.axis2.most) }

    -- each record gets the triangles of its cell
    pub shown_gets : (p : ℕ) → p < n → all_of ps ts r p₀ m (triangles ts) p ≡ own (cell p)
    shown_gets p j =
        chosen_ext (λ u. meets (hits ps ts r p₀ u) (record_at m p)) (λ u. joins ps ts r p₀ l u (cell p)) (triangles ts)
        (λ u. (λ i. eqb (w.flag_is p j i) 1 && hits ps ts r p₀ u (w.cell_is p j i)) ∙ ap (λ (b : Bool). b && hits ps ts r p₀ u (cell p)) (flag_test (at r l (cell p))))

    -- the other slice after a pass
    pub shown_entered : (placing : Bool) (q m' q' : List ℕ) → Entered placing n (all_of ps ts r p₀ m (triangles ts)) m q m' q' → Shown m'
    shown_entered placing q m' q' v = record {
      size = v.bumped.size ∙ w.size;
      cell_is = λ p j. ap (λ (e : CellRecord). e.cell) (v.bumped.rows p j) ∙ w.cell_is p j;
      flag_is = λ p j. ap (λ (e : CellRecord). e.surface) (v.bumped.rows p j) ∙ w.flag_is p j;
      past = λ x k. v.bumped.past x k ∙ w.past x k;
    }

    pub shown_laid : (m' : List ℕ) → RangesLaid n m m' → Shown m'
    shown_laid m' v = record {
      size = v.size ∙ w.size;
      cell_is = λ p j. ap (λ (e : CellRecord). e.cell) (v.rows p j) ∙ w.cell_is p j;
      flag_is = λ p j. ap (λ (e : CellRecord). e.surface) (v.rows p j) ∙ w.flag_is p j;
      past = λ x k. v.past x k ∙ w.past x k;
    }

  -- ---- the records as they are written

  module _ (m : List ℕ) (w : Written 0 0 (plain_records r l) o m) where
    plain_record : (p : ℕ) → p < n → record_at m p ≡ record { cell = cell p; surface = flag_of (at r l (cell p)); start = 0; end = 0 }
    plain_record p j =
        record_same m (plain_records r l) p p
        (λ d k. ap (λ (x : ℕ). get_or m x 0) (let e : p * width + d ≡ 0 + (p * width + d) = omega arith in e) ∙ w.there (p * width + d) (let e = rows_length r l none 0 (listed r l) in omega arith))
        ∙ row_read r l none corner 0 (listed r l) p (omega arith)
        ∙ record_path _ _ refl refl (zero_place (take p (listed r l))) (zero_end (take p (listed r l)))
      where
        zero_place : (cs : List Cell) → 0 + length (join_all none cs) ≡ 0
        zero_place cs = omega (arith, none_joined cs)

        zero_end : (cs : List Cell) → 0 + length (join_all none cs) + 0 ≡ 0
        zero_end cs = omega (arith, none_joined cs)

    pub plain_shown : Shown m
    plain_shown = record {
      size = w.size;
      cell_is = λ p j. ap (λ (e : CellRecord). e.cell) (plain_record p j);
      flag_is = λ p j. ap (λ (e : CellRecord). e.surface) (plain_record p j);
      past = λ x k. w.others x (inr (let e = rows_length r l none 0 (listed r l) in omega arith));
    }

    pub plain_end : (p : ℕ) → p < n → end_at m p ≡ 0
    plain_end p j = ap (λ (e : CellRecord). e.end) (plain_record p j)

    -- the room for counting
    pub count_room : length ts ≤ 196608 → (len : ℕ) → Room false n (all_of ps ts r p₀ m (triangles ts)) m len
    count_room f len = record {
      fits = λ p j. omega (arith, plain_end p j, chosen_most (λ u. meets (hits ps ts r p₀ u) (record_at m p)) (triangles ts), f, div-add-mod (length ts) 3);
      free = tt;
    }

  -- ---- the counts, and the places

  module _ (m q m' q' : List ℕ) (w : Written 0 0 (plain_records r l) o m) (v : Entered false n (all_of ps ts r p₀ m (triangles ts)) m q m' q') where
    counted_end : (p : ℕ) → p < n → end_at m' p ≡ length (own (cell p))
    counted_end p j =
        ap (λ (e : CellRecord). e.end) (v.bumped.rows p j)
        ∙ omega (arith, plain_end m w p j, ap (λ (xs : List ℕ). length xs) (shown_gets m (plain_shown m w) p j))

    ends_sum : (p : ℕ) → p ≤ n → ends_before m' p ≡ sum (λ k. length (own (cell k))) p
    unfolding sum
    ends_sum zero j = refl
    ends_sum (suc p) j = omega (arith, ends_sum p (omega arith), counted_end p (omega arith))

    ends_place : (p : ℕ) → p ≤ n → ends_before m' p ≡ place p
    ends_place p j = ends_sum p j ∙ before_sum own corner (listed r l) p (omega arith)

    pub ends_all : ends_before m' n ≡ pair_count ps ts r p₀ l
    ends_all = ends_place n (omega arith) ∙ ap place cells ∙ before_all own corner (listed r l)

    module _ (m'' : List ℕ) (x : RangesLaid n m' m'') where
      pub laid_shown : Shown m''
      laid_shown = shown_laid m' (shown_entered m (plain_shown m w) false q m' q' v) m'' x

      laid_end : (p : ℕ) → p < n → end_at m'' p ≡ place p
      laid_end p j = ap (λ (e : CellRecord). e.end) (x.rows p j) ∙ ends_place p (omega arith)

      gets_length : (p : ℕ) → p < n → length (all_of ps ts r p₀ m'' (triangles ts) p) ≡ length (own (cell p))
      gets_length p j = ap (λ (xs : List ℕ). length xs) (shown_gets m'' laid_shown p j)

      place_next : (p : ℕ) → p < n → place p + length (own (cell p)) ≡ place (suc p)
      place_next p j = sym (before_more own corner (listed r l) p (omega arith))

      place_up : (p q : ℕ) → p ≤ q → q ≤ n → place p ≤ place q
      place_up p q j k = omega (arith, sum_up (λ i. length (own (cell i))) p q j, before_sum own corner (listed r l) p (omega arith), before_sum own corner (listed r l) q (omega arith))

      place_most : (p : ℕ) → p < n → place p + length (own (cell p)) ≤ pair_count ps ts r p₀ l
      place_most p j = omega (arith, place_next p j, place_up (suc p) n (omega arith) (omega arith), ap place cells, before_all own corner (listed r l))

      -- the room for placing
      pub place_room : pair_count ps ts r p₀ l ≤ 4294967295 → (len : ℕ) → pair_count ps ts r p₀ l ≤ len → Room true n (all_of ps ts r p₀ m'' (triangles ts)) m'' len
      place_room few len long = record {
        fits = λ p j. omega (arith, laid_end p j, gets_length p j, place_most p j);
        free = record {
          inside = λ p j. omega (arith, laid_end p j, gets_length p j, place_most p j);
          apart = λ p q j k. omega (arith, laid_end p (omega arith), laid_end q k, gets_length p (omega arith), place_next p (omega arith), place_up (suc p) q (omega arith) (omega arith));
        };
      }

      -- ---- what stands in the outputs

      module _ (e q'' : List ℕ) (z : Entered true n (all_of ps ts r p₀ m'' (triangles ts)) m'' q e q'') where
        pub records_whole : e ≡ over (records_of r l own) o
        unfolding before
        records_whole =
            records_over (records_of r l own) o e n (rows_length r l own 0 (listed r l) ∙ ap (λ (k : ℕ). k * width) (sym cells)) room last.size
            (λ p j. record_path _ _ (last.cell_is p j) (last.flag_is p j) (starts p j) (ends p j) ∙ sym (row_read r l own corner 0 (listed r l) p (omega arith)))
            last.past
          where
            last : Shown e
            last = shown_entered m'' laid_shown true q e q'' z

            starts : (p : ℕ) → p < n → (record_at e p).start ≡ 0 + place p
            starts p j = ap (λ (y : CellRecord). y.start) (z.bumped.rows p j) ∙ ap (λ (y : CellRecord). y.start) (x.rows p j) ∙ omega (arith, ends_place p (omega arith))

            ends : (p : ℕ) → p < n → (record_at e p).end ≡ 0 + place p + length (own (cell p))
            ends p j = ap (λ (y : CellRecord). y.end) (z.bumped.rows p j) ∙ omega (arith, laid_end p j, gets_length p j)

        pub triangles_whole : pair_count ps ts r p₀ l ≤ length q → q'' ≡ over (triangle_list ps ts r p₀ l) q
        triangles_whole long =
            written_over 0 (triangle_list ps ts r p₀ l) q q'' long
            (record {
              size = z.given.size;
              there = λ y j. joined_at own corner q'' 0 (listed r l) placed y j;
              others = λ y j. z.given.others y (λ p k. inr (behind y j p k));
            })
          where
            placed : (p : ℕ) → p < length (listed r l) → (y : ℕ) → y < length (own (cell p)) → get_or q'' (0 + place p + y) 0 ≡ get_or (own (cell p)) y 0
            placed p j y k =
                ap (λ (i : ℕ). get_or q'' i 0) (let s : 0 + place p + y ≡ end_at m'' p + y = omega (arith, laid_end p (omega arith)) in s)
                ∙ z.given.there p (omega arith) y (omega (arith, gets_length p (omega arith)))
                ∙ ap (λ (xs : List ℕ). get_or xs y 0) (shown_gets m'' laid_shown p (omega arith))

            behind : (y : ℕ) → (y < 0) ⊎ (0 + pair_count ps ts r p₀ l ≤ y) → (p : ℕ) → p < n → end_at m'' p + length (all_of ps ts r p₀ m'' (triangles ts) p) ≤ y
            behind y (inl j) p k = absurd (nothing y j)
              where
                nothing : (y : ℕ) → y < 0 → ⊥
                nothing y j = omega arith
            behind y (inr j) p k = omega (arith, laid_end p k, gets_length p k, place_most p k)
