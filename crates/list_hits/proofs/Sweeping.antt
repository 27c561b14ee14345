-- A triangle goes to the records of a block, part after part: the room for the next part, and what has been given with it; a row by its keys; and triangle after triangle. Assumes nothing.
use mathlib.Core.Bool.{Bool, true, false, not, cond, ◌&&◌, ◌||◌}
use mathlib.Core.Path.{◌≡◌, refl, sym, ap, subst, ◌∙◌}
use mathlib.Core.Logic.{⊎_elim}
use mathlib.Core.List.{List, [], ◌∷◌, ◌++◌, append-nil, append_assoc}
use Prim.Native.Nat.{ℕ, zero, suc, ◌+◌, ◌*◌, ◌≤◌, ◌<◌}
use native.Mathlib.Numerals.{add-one}
use native.Mathlib.Omega.{arith}
use lib.Dec.{leb, ltb}
use lib.ListN.{length}
use lib.Ieee.{Float}
use borrow.Author.Tests.{lt-ltb, le-ltb, le-leb, lt-leb, leb-true, ltb-true}
use Rattle.grid.specs.declared.Axes.{Axes}
use Rattle.grid.specs.declared.Cell.{Cell}
use Rattle.grid.specs.declared.Placement.{Placement}
use Rattle.grid.proofs.First.{le_or_lt, both_true}
use Rattle.touch.specs.declared.Bands.{Bands}
use Rattle.touch.specs.Bands.{kept_all, CellFits, BandsFit}
use Rattle.grid.specs.declared.Block.{Block}
use Rattle.grid.specs.declared.Stretch.{Stretch}
use Rattle.marking_mesh.specs.Mesh.{triangles}
use Rattle.marking_mesh.specs.Ranges.{between, holds}
use Rattle.marking_cuts.specs.Cuts.{Cut, across_y, across_z, rest_along_k}
use Rattle.marking_cuts.proofs.Laws.{slab_all, kept_slab}
use Rattle.marking.specs.Marked.{hits}
use Rattle.marking.specs.Painted.{left_in, one, AxesLeave}
use Rattle.marking.proofs.Paint.{upto, Walk, walk_starts, walk_on, none_along_i, none_along_j, more_i, more_j, done_i, done_j}
use Rattle.list_tally.proofs.Sizes.{apart_j}
use Rattle.order.specs.Order.{key, chosen}
use Rattle.list_record.specs.Record.{record_at}
use Rattle.list_lookup.specs.Lookup.{Table}
use Rattle.list_rows.specs.Rows.{meets, keyed, gets, Entered, Free, Room}
use Rattle.list_hits.specs.Hits.{line_at, slab_at, LineRest, all_of}
use Rattle.list_rows.proofs.Entering.{entered_none, entered_same, entered_then, room_part, room_rest, bump_table, bump_gets, gets_either, gets_none, gets_same}

-- two tests that imply each other are one
same_test : (x y : Bool) → (x ≡ true → y ≡ true) → (y ≡ true → x ≡ true) → x ≡ y
same_test true y f g = sym (f refl)
same_test false true f g = g refl
same_test false false f g = refl

-- ---- the room of the same gifts

pub room_same : (placing : Bool) (n : ℕ) (g h : ℕ → List ℕ) (o : List ℕ) (len : ℕ) → ((p : ℕ) → p < n → g p ≡ h p) → Room placing n g o len → Room placing n h o len
room_same placing n g h o len e w = record { fits = λ p l. let z = ap (λ (xs : List ℕ). length xs) (e p l) in omega (arith, w.fits p l); free = go placing w.free }
  where
    go : (placing : Bool) → Free placing n g o len → Free placing n h o len
    go true f = record {
      inside = λ p l. let z = ap (λ (xs : List ℕ). length xs) (e p l) in omega (arith, f.inside p l);
      apart = λ p q l k. let z = ap (λ (xs : List ℕ). length xs) (e p (omega arith)) in omega (arith, f.apart p q l k);
    }
    go false f = tt

-- ---- one part more of a set `all`: what is done, the part, and both, which is `next`

module _ (placing : Bool) (n t : ℕ) (all done part next : Cell → Bool) (o q : List ℕ) (len : ℕ) (room : Room placing n (gets t all o) o len)
    (more : (c : Cell) → next c ≡ (done c || part c)) (apart : (c : Cell) → (done c && part c) ≡ false) (in_all : (c : Cell) → next c ≡ true → all c ≡ true)
    (out list : List ℕ) (w : Entered placing n (gets t done o) o q out list) where
  -- what is left over
  abbrev rest : Cell → Bool
  rest c = all c && not (next c)

  split : (p : ℕ) → gets t all o p ≡ gets t next o p ++ gets t rest o p
  split p = gets_either t next rest all o p (either (all (record_at o p).cell) (next (record_at o p).cell) (in_all (record_at o p).cell)) (none (all (record_at o p).cell) (next (record_at o p).cell))
    where
      either : (a b : Bool) → (b ≡ true → a ≡ true) → a ≡ (b || (a && not b))
      either true true h = refl
      either true false h = refl
      either false true h = h refl
      either false false h = refl

      none : (a b : Bool) → (b && (a && not b)) ≡ false
      none true true = refl
      none false true = refl
      none a false = refl

  next_room : Room placing n (gets t next o) o len
  next_room = room_part n (gets t all o) (gets t next o) (gets t rest o) o (λ p l. split p) placing len room

  grown : (p : ℕ) → p < n → gets t next o p ≡ gets t done o p ++ gets t part o p
  grown p l = gets_either t done part next o p (more (record_at o p).cell) (apart (record_at o p).cell)

  -- the room for the part, as the records then stand
  pub part_room : Room placing n (gets t part out) out len
  part_room =
      room_same placing n (gets t part o) (gets t part out) out len (λ p l. sym (bump_gets n (gets t done o) o out w.bumped t part p l))
      (room_rest n (gets t next o) (gets t done o) (gets t part o) o grown out w.bumped placing len next_room)

  pub part_done : (out' list' : List ℕ) → Entered placing n (gets t part out) out list out' list' → Entered placing n (gets t next o) o q out' list'
  part_done out' list' v =
      entered_then n (gets t next o) (gets t done o) (gets t part o) o grown placing len next_room q out list out' list' w
      (entered_same n placing (gets t part out) (gets t part o) out list out' list' (λ p l. bump_gets n (gets t done o) o out w.bumped t part p l) v)

-- ---- a part of what is walked along an axis lies in the whole

upto_in : (e : Stretch) (m x : ℕ) → m ≤ e.to → between (upto e m) x ≡ true → between e x ≡ true
upto_in e m x h g =
    let a = (both_true (leb e.from x) (ltb x m) g).0 in
    let b = ltb-true x m (both_true (leb e.from x) (ltb x m) g).1 in
    rw (a, lt-ltb x e.to (omega arith))

module _ (s : Bands) (e : Stretch) (m : ℕ) (h : m ≤ e.to) where
  keeps : (a b : Bool) → (x y z k : Bool) → (x ≡ true → y ≡ true) → ((a && x) && b && k) ≡ true → ((a && y) && b && k) ≡ true
  keeps true b true y z k f g = rw (f refl) g
  keeps true b false y z k f g = absurd (let v : ◌≡◌ {A = ℕ} 0 1 = cc in omega arith)
  keeps false b x y z k f g = g

  pub in_j : (i k : Stretch) (c : Cell) → left_in (record { i = i; j = upto e m; k = k }) s c ≡ true → left_in (record { i = i; j = e; k = k }) s c ≡ true
  unfolding holds
  in_j i k c = keeps (between i c.i) (between k c.k) (between (upto e m) c.j) (between e c.j) true (kept_all s c) (upto_in e m c.j h)

  pub in_i : (j k : Stretch) (c : Cell) → left_in (record { i = upto e m; j = j; k = k }) s c ≡ true → left_in (record { i = e; j = j; k = k }) s c ≡ true
  unfolding holds
  in_i j k c = go (between (upto e m) c.i) (between e c.i) (between j c.j) (between k c.k) (kept_all s c) (upto_in e m c.i h)
    where
      go : (x y a b k : Bool) → (x ≡ true → y ≡ true) → (((x && a) && b) && k) ≡ true → (((y && a) && b) && k) ≡ true
      go true y a b k f g = rw (f refl) g
      go false y a b k f g = absurd (let v : ◌≡◌ {A = ℕ} 0 1 = cc in omega arith)

-- ---- the cells of a part of a row, by their keys

keyed_row : (i j : ℕ) (e : Stretch) (c : Cell) → i < 256 → j < 256 → e.from < e.to → e.to ≤ 256 → CellFits c
    → keyed (i * 65536 + j * 256 + e.from) (i * 65536 + j * 256 + e.to) c ≡ holds (line_at i j e) c
unfolding holds
keyed_row i j e c hi hj hf ht n = same_test (leb low (key c) && ltb (key c) high) ((between (one i) c.i && between (one j) c.j) && between e c.k) there back
  where
    low : ℕ
    low = i * 65536 + j * 256 + e.from

    high : ℕ
    high = i * 65536 + j * 256 + e.to

    there : (leb low (key c) && ltb (key c) high) ≡ true → ((between (one i) c.i && between (one j) c.j) && between e c.k) ≡ true
    there h =
        let a = leb-true low (key c) (both_true (leb low (key c)) (ltb (key c) high) h).0 in
        let b = ltb-true (key c) high (both_true (leb low (key c)) (ltb (key c) high) h).1 in
        rw (
          le-leb i c.i (omega (arith, n.i_near, n.j_near, n.k_near)),
          lt-ltb c.i (i + 1) (omega (arith, n.i_near, n.j_near, n.k_near)),
          le-leb j c.j (omega (arith, n.i_near, n.j_near, n.k_near)),
          lt-ltb c.j (j + 1) (omega (arith, n.i_near, n.j_near, n.k_near)),
          le-leb e.from c.k (omega (arith, n.i_near, n.j_near, n.k_near)),
          lt-ltb c.k e.to (omega (arith, n.i_near, n.j_near, n.k_near)),
        )

    back : ((between (one i) c.i && between (one j) c.j) && between e c.k) ≡ true → (leb low (key c) && ltb (key c) high) ≡ true
    back h =
        let x = between (one i) c.i in
        let y = between (one j) c.j in
        let xy = (both_true (x && y) (between e c.k) h).0 in
        let bi = (both_true x y xy).0 in
        let bj = (both_true x y xy).1 in
        let bk = (both_true (x && y) (between e c.k) h).1 in
        let i1 = leb-true i c.i (both_true (leb i c.i) (ltb c.i (i + 1)) bi).0 in
        let i2 = ltb-true c.i (i + 1) (both_true (leb i c.i) (ltb c.i (i + 1)) bi).1 in
        let j1 = leb-true j c.j (both_true (leb j c.j) (ltb c.j (j + 1)) bj).0 in
        let j2 = ltb-true c.j (j + 1) (both_true (leb j c.j) (ltb c.j (j + 1)) bj).1 in
        let k1 = leb-true e.from c.k (both_true (leb e.from c.k) (ltb c.k e.to) bk).0 in
        let k2 = ltb-true c.k e.to (both_true (leb e.from c.k) (ltb c.k e.to) bk).1 in
        rw (le-leb low (key c) (omega arith), lt-ltb (key c) high (omega arith))

-- so of a table's records they are the same, and there is the same room
module _ (placing : Bool) (n t i j : ℕ) (e : Stretch) (o : List ℕ) (table : Table o n) (hi : i < 256) (hj : j < 256) (hf : e.from < e.to) (hk : e.to ≤ 256)
    (low high : ℕ) (el : low ≡ i * 65536 + j * 256 + e.from) (eh : high ≡ i * 65536 + j * 256 + e.to) where
  part_same : (p : ℕ) → p < n → gets t (keyed low high) o p ≡ gets t (holds (line_at i j e)) o p
  part_same p l =
      (λ m. gets t (keyed (el m) (eh m)) o p)
      ∙ gets_same t (keyed (i * 65536 + j * 256 + e.from) (i * 65536 + j * 256 + e.to)) (holds (line_at i j e)) o p (keyed_row i j e (record_at o p).cell hi hj hf hk (table.near p l))

  pub keys_room : (len : ℕ) → Room placing n (gets t (holds (line_at i j e)) o) o len → Room placing n (gets t (keyed low high) o) o len
  keys_room len w = room_same placing n (gets t (holds (line_at i j e)) o) (gets t (keyed low high) o) o len (λ p l. sym (part_same p l)) w

  pub keys_done : (q out list : List ℕ) → Entered placing n (gets t (keyed low high) o) o q out list → Entered placing n (gets t (holds (line_at i j e)) o) o q out list
  keys_done q out list v = entered_same n placing (gets t (keyed low high) o) (gets t (holds (line_at i j e)) o) o q out list part_same v

pub keys_none : (placing : Bool) (n t i j : ℕ) (e : Stretch) (o q : List ℕ) → e.to ≤ e.from → Entered placing n (gets t (holds (line_at i j e)) o) o q o q
unfolding holds
keys_none placing n t i j e o q h = entered_none n placing (gets t (holds (line_at i j e)) o) o q (λ p l. gets_none t (holds (line_at i j e)) o p (never (between (one i) (record_at o p).cell.i && between (one j) (record_at o p).cell.j) (between e (record_at o p).cell.k) (outside (record_at o p).cell.k)))
  where
    never : (a b : Bool) → b ≡ false → (a && b) ≡ false
    never true b z = z
    never false b z = refl

    outside : (x : ℕ) → between e x ≡ false
    outside x = ⊎_elim (λ l. rw (le-leb e.from x l) (le-ltb x e.to (omega arith))) (λ l. rw (lt-leb e.from x l)) (le_or_lt e.from x)

-- ---- the part of a row that the bands leave

one_is : (n x : ℕ) → between (one n) x ≡ true → x ≡ n
one_is n x h =
    let p = leb-true n x (both_true (leb n x) (ltb x (n + 1)) h).0 in
    let q = ltb-true x (n + 1) (both_true (leb n x) (ltb x (n + 1)) h).1 in
    omega arith

one_here : (n : ℕ) → between (one n) n ≡ true
one_here n = rw (le-leb n n (omega arith), lt-ltb n (n + 1) (omega arith))

module _ (placing : Bool) (n t i j : ℕ) (s : Bands) (e a : Stretch) (u : LineRest s e i j) (w : Cut e (rest_along_k s i j) a) (o : List ℕ) where
  held_line : (c : Cell) → holds (line_at i j a) c ≡ left_in (line_at i j e) s c
  unfolding holds
  held_line c = go (between (one i) c.i) (between (one j) c.j) refl refl
    where
      whole : (t : Bool) → between e c.k ≡ t → (t && rest_along_k s i j c.k) ≡ (t && kept_all s (record { i = i; j = j; k = c.k }))
      whole true f = sym (u.rest c.k f)
      whole false f = refl

      go : (x y : Bool) → between (one i) c.i ≡ x → between (one j) c.j ≡ y
          → ((between (one i) c.i && between (one j) c.j) && between a c.k) ≡ (((between (one i) c.i && between (one j) c.j) && between e c.k) && kept_all s c)
      go true true ex ey =
          let hi = one_is i c.i ex in
          let hj = one_is j c.j ey in
          rw (ex, ey) (w.places c.k ∙ whole (between e c.k) refl ∙ (λ m. between e c.k && kept_all s (record { i = sym hi m; j = sym hj m; k = c.k })))
      go true false ex ey = rw (ex, ey) refl
      go false y ex ey = rw ex refl

  line_same : (p : ℕ) → p < n → gets t (holds (line_at i j a)) o p ≡ gets t (left_in (line_at i j e) s) o p
  line_same p l = gets_same t (holds (line_at i j a)) (left_in (line_at i j e) s) o p (held_line (record_at o p).cell)

  pub line_room : (len : ℕ) → Room placing n (gets t (left_in (line_at i j e) s) o) o len → Room placing n (gets t (holds (line_at i j a)) o) o len
  line_room len v = room_same placing n (gets t (left_in (line_at i j e) s) o) (gets t (holds (line_at i j a)) o) o len (λ p l. sym (line_same p l)) v

  pub line_done : (q out list : List ℕ) → Entered placing n (gets t (holds (line_at i j a)) o) o q out list → Entered placing n (gets t (left_in (line_at i j e) s) o) o q out list
  line_done q out list v = entered_same n placing (gets t (holds (line_at i j a)) o) (gets t (left_in (line_at i j e) s) o) o q out list line_same v

-- ---- a slab of a block that the axes leave

pub slab_axes : (s : Bands) (b : Block) (i : ℕ) → AxesLeave s b → b.i.from ≤ i → i < b.i.to → AxesLeave s (slab_at b i)
unfolding holds
slab_axes s b i u h l =
    record {
      leave = λ c g.
          let x = between (one i) c.i in
          let y = between b.j c.j in
          let z = between b.k c.k in
          let xy = both_true x y (both_true (x && y) z g).0 in
          let f : between b.i c.i ≡ true = ap (between b.i) (one_is i c.i xy.0) ∙ rw (le-leb b.i.from i h, lt-ltb i b.i.to l) in
          u.leave c (rw (f, xy.1, (both_true (x && y) z g).1));
    }

-- cut along j and along k: what is left to test in a row, and that no cell is lost
module _ (s : Bands) (fit : BandsFit s) (b : Block) (i : ℕ) (f e : Stretch) (v : Cut b.j (across_z s i) f) (w : Cut b.k (λ k. across_y s k i) e) where
  pub line_rest : AxesLeave s (slab_at b i) → (j : ℕ) → f.from ≤ j → j < f.to → LineRest s e i j
  unfolding holds
  line_rest u j h l =
      record {
        rest = λ x g.
            let a = both_true (between b.k x) (across_y s x i) (sym (w.places x) ∙ g) in
            let here : between f j ≡ true = rw (le-leb f.from j h, lt-ltb j f.to l) in
            let d = both_true (between b.j j) (across_z s i j) (sym (v.places j) ∙ here) in
            let axes = u.leave (record { i = i; j = j; k = x }) (rw (one_here i, d.0, a.0)) in
            slab_all s fit i j x ∙ rw (axes, d.1, a.1);
      }

  slice_left : (c : Cell) → left_in (record { i = one i; j = f; k = e }) s c ≡ left_in (slab_at b i) s c
  unfolding holds
  slice_left c = (λ t. between (one i) c.i && v.places c.j t && w.places c.k t && kept_all s c) ∙ go (between (one i) c.i) (kept_all s c) refl refl
    where
      x : Bool
      x = between b.j c.j

      y : Bool
      y = between b.k c.k

      lost : (a d : Bool) → ((true && a) && d && false) ≡ false
      lost true true = refl
      lost true false = refl
      lost false d = refl

      go : (p q : Bool) → between (one i) c.i ≡ p → kept_all s c ≡ q → (p && (x && across_z s i c.j) && (y && across_y s c.k i) && q) ≡ (p && x && y && q)
      go true true g h =
          let d = one_is i c.i g in
          let all = (λ t. kept_all s (record { i = sym d t; j = c.j; k = c.k })) ∙ h in
          let k = kept_slab s fit i c.j c.k all in
          (λ t. true && (x && k.0 t) && (y && k.1 t) && true) ∙ plain x y
        where
          plain : (a d : Bool) → (true && (a && true) && (d && true) && true) ≡ (true && a && d && true)
          plain true true = refl
          plain true false = refl
          plain false d = refl
      go true false g h = lost (x && across_z s i c.j) (y && across_y s c.k i) ∙ sym (lost x y)
      go false q g h = refl

  -- so there is the same room, and the same is given
  module _ (placing : Bool) (n t : ℕ) (o : List ℕ) where
    slice_same : (p : ℕ) → p < n → gets t (left_in (record { i = one i; j = f; k = e }) s) o p ≡ gets t (left_in (slab_at b i) s) o p
    slice_same p l = gets_same t (left_in (record { i = one i; j = f; k = e }) s) (left_in (slab_at b i) s) o p (slice_left (record_at o p).cell)

    pub slice_room : (len : ℕ) → Room placing n (gets t (left_in (slab_at b i) s) o) o len → Room placing n (gets t (left_in (record { i = one i; j = f; k = e }) s) o) o len
    slice_room len x = room_same placing n (gets t (left_in (slab_at b i) s) o) (gets t (left_in (record { i = one i; j = f; k = e }) s) o) o len (λ p l. sym (slice_same p l)) x

    pub slice_done : (q out list : List ℕ) → Entered placing n (gets t (left_in (record { i = one i; j = f; k = e }) s) o) o q out list → Entered placing n (gets t (left_in (slab_at b i) s) o) o q out list
    slice_done q out list x = entered_same n placing (gets t (left_in (record { i = one i; j = f; k = e }) s) o) (gets t (left_in (slab_at b i) s) o) o q out list slice_same x

-- ---- row after row of slab i

abbrev rows_to : ℕ → Bands → Stretch → Stretch → ℕ → Cell → Bool
rows_to i s j k y = left_in (record { i = one i; j = upto j y; k = k }) s

module _ (placing : Bool) (n t i : ℕ) (s : Bands) (j k : Stretch) (o q : List ℕ) where
  -- the rows before y are done
  pub record Slabbing (out list : List ℕ) (y : ℕ) : Type 0 where
    pub walk : Walk j y
    pub entries : Entered placing n (gets t (rows_to i s j k y) o) o q out list

module _ (placing : Bool) (n t i : ℕ) (s : Bands) (j k : Stretch) (o q : List ℕ) (len : ℕ) (table : Table o n) (room : Room placing n (gets t (left_in (record { i = one i; j = j; k = k }) s) o) o len) where
  pub slabbing_first : Slabbing placing n t i s j k o q o q j.from
  slabbing_first = record {
    walk = walk_starts j;
    entries = entered_none n placing (gets t (rows_to i s j k j.from) o) o q (λ p l. gets_none t (rows_to i s j k j.from) o p (none_along_j s j (one i) k (record_at o p).cell));
  }

  module _ (out list : List ℕ) (y : ℕ) (w : Slabbing placing n t i s j k o q out list y) where
    pub slabbing_done : j.to ≤ y → Entered placing n (gets t (left_in (record { i = one i; j = j; k = k }) s) o) o q out list
    slabbing_done h = entered_same n placing (gets t (rows_to i s j k y) o) (gets t (left_in (record { i = one i; j = j; k = k }) s) o) o q out list
        (λ p l. gets_same t (rows_to i s j k y) (left_in (record { i = one i; j = j; k = k }) s) o p (done_j s j y w.walk h (one i) k (record_at o p).cell)) w.entries

    pub slab_table : Table out n
    slab_table = bump_table n (gets t (rows_to i s j k y) o) o out w.entries.bumped table

    module _ (h : y < j.to) where
      pub row_room : (len' : ℕ) → len' ≡ len → Room placing n (gets t (left_in (line_at i y k) s) out) out len'
      row_room len' z =
          subst (Room placing n (gets t (left_in (line_at i y k) s) out) out) (sym z)
          (part_room placing n t (left_in (record { i = one i; j = j; k = k }) s) (rows_to i s j k y) (left_in (line_at i y k) s) (rows_to i s j k (y + 1)) o q len room
          (more_j s j y w.walk (one i) k) (apart_j s j y (one i) k) (in_j s j (y + 1) (omega arith) (one i) k) out list w.entries)

      pub slabbing_on : (out' list' : List ℕ) → Entered placing n (gets t (left_in (line_at i y k) s) out) out list out' list' → Slabbing placing n t i s j k o q out' list' (y + 1)
      slabbing_on out' list' v = record {
        walk = walk_on j y w.walk h;
        entries =
            part_done placing n t (left_in (record { i = one i; j = j; k = k }) s) (rows_to i s j k y) (left_in (line_at i y k) s) (rows_to i s j k (y + 1)) o q len room
            (more_j s j y w.walk (one i) k) (apart_j s j y (one i) k) (in_j s j (y + 1) (omega arith) (one i) k) out list w.entries out' list' v;
      }

-- ---- slab after slab of a block

-- the slab where the walk stands is none of those behind it
apart_i : (s : Bands) (e : Stretch) (n : ℕ) (j k : Stretch) (c : Cell) → (left_in (record { i = upto e n; j = j; k = k }) s c && left_in (record { i = one n; j = j; k = k }) s c) ≡ false
unfolding holds
apart_i s e n j k c = ⊎_elim (λ h. rw (le-ltb c.i n h) (never (leb e.from c.i))) (λ h. rw (lt-leb n c.i h) (last (((between (upto e n) c.i && between j c.j) && between k c.k) && kept_all s c))) (le_or_lt n c.i)
  where
    last : (a : Bool) → (a && false) ≡ false
    last true = refl
    last false = refl

    never : (a : Bool) → (((((a && false) && between j c.j) && between k c.k) && kept_all s c) && (((between (one n) c.i && between j c.j) && between k c.k) && kept_all s c)) ≡ false
    never true = refl
    never false = refl

abbrev slabs_to : Bands → Block → ℕ → Cell → Bool
slabs_to s b y = left_in (record { i = upto b.i y; j = b.j; k = b.k }) s

module _ (placing : Bool) (n t : ℕ) (s : Bands) (b : Block) (o q : List ℕ) where
  pub record Blocking (out list : List ℕ) (y : ℕ) : Type 0 where
    pub walk : Walk b.i y
    pub entries : Entered placing n (gets t (slabs_to s b y) o) o q out list

module _ (placing : Bool) (n t : ℕ) (s : Bands) (b : Block) (o q : List ℕ) (len : ℕ) (table : Table o n)
    (room : Room placing n (gets t (left_in b s) o) o len) where
  pub blocking_first : Blocking placing n t s b o q o q b.i.from
  blocking_first = record {
    walk = walk_starts b.i;
    entries = entered_none n placing (gets t (slabs_to s b b.i.from) o) o q (λ p l. gets_none t (slabs_to s b b.i.from) o p (none_along_i s b.i b.j b.k (record_at o p).cell));
  }

  module _ (out list : List ℕ) (y : ℕ) (w : Blocking placing n t s b o q out list y) where
    pub blocking_done : b.i.to ≤ y → Entered placing n (gets t (left_in b s) o) o q out list
    blocking_done h = entered_same n placing (gets t (slabs_to s b y) o) (gets t (left_in b s) o) o q out list
        (λ p l. gets_same t (slabs_to s b y) (left_in b s) o p (done_i s b.i y w.walk h b.j b.k (record_at o p).cell)) w.entries

    pub block_table : Table out n
    block_table = bump_table n (gets t (slabs_to s b y) o) o out w.entries.bumped table

    module _ (h : y < b.i.to) where
      pub slab_room : (len' : ℕ) → len' ≡ len → Room placing n (gets t (left_in (slab_at b y) s) out) out len'
      slab_room len' z =
          subst (Room placing n (gets t (left_in (slab_at b y) s) out) out) (sym z)
          (part_room placing n t (left_in b s) (slabs_to s b y) (left_in (slab_at b y) s) (slabs_to s b (y + 1)) o q len room
          (more_i s b.i y w.walk b.j b.k) (apart_i s b.i y b.j b.k) (in_i s b.i (y + 1) (omega arith) b.j b.k) out list w.entries)

      pub blocking_on : (out' list' : List ℕ) → Entered placing n (gets t (left_in (slab_at b y) s) out) out list out' list' → Blocking placing n t s b o q out' list' (y + 1)
      blocking_on out' list' v = record {
        walk = walk_on b.i y w.walk h;
        entries =
            part_done placing n t (left_in b s) (slabs_to s b y) (left_in (slab_at b y) s) (slabs_to s b (y + 1)) o q len room
            (more_i s b.i y w.walk b.j b.k) (apart_i s b.i y b.j b.k) (in_i s b.i (y + 1) (omega arith) b.j b.k) out list w.entries out' list' v;
      }

-- ---- triangle after triangle

module _ (placing : Bool) (n : ℕ) (ps : List Float) (ts : List ℕ) (r : Axes) (placement : Placement) (o q : List ℕ) where
  -- the first t triangles have gone to their records
  pub record Going (out list : List ℕ) (t : ℕ) : Type 0 where
    pub most : t ≤ triangles ts
    pub entries : Entered placing n (all_of ps ts r placement o t) o q out list

-- more triangles, more to give
chosen_part : (ok : ℕ → Bool) (a b : ℕ) → a ≤ b → (xs : List ℕ) × (chosen ok b ≡ chosen ok a ++ xs)
unfolding chosen
chosen_part ok a zero h = let e : a ≡ 0 = omega arith in ([], sym (append-nil (chosen ok a) ∙ ap (chosen ok) e))
chosen_part ok a (suc b) h =
    ⊎_elim
    (λ l. let w = chosen_part ok a b l in (w.0 ++ cond (ok b) (b ∷ []) [], ap (λ (ys : List ℕ). ys ++ cond (ok b) (b ∷ []) []) w.1 ∙ append_assoc (chosen ok a) w.0 (cond (ok b) (b ∷ []) [])))
    (λ l. let e : a ≡ suc b = omega arith in ([], sym (append-nil (chosen ok a) ∙ ap (chosen ok) e)))
    (le_or_lt a b)

module _ (placing : Bool) (n : ℕ) (ps : List Float) (ts : List ℕ) (r : Axes) (placement : Placement) (o q : List ℕ) (len : ℕ) (table : Table o n)
    (room : Room placing n (all_of ps ts r placement o (triangles ts)) o len) where
  pub going_first : Going placing n ps ts r placement o q o q 0
  unfolding chosen
  going_first = record { most = omega arith; entries = entered_none n placing (all_of ps ts r placement o 0) o q (λ p l. refl) }

  module _ (out list : List ℕ) (t : ℕ) (w : Going placing n ps ts r placement o q out list t) where
    pub going_done : triangles ts ≤ t → Entered placing n (all_of ps ts r placement o (triangles ts)) o q out list
    going_done h = subst (λ (k : ℕ). Entered placing n (all_of ps ts r placement o k) o q out list) (let m = w.most in let e : t ≡ triangles ts = omega arith in e) w.entries

    pub going_table : Table out n
    going_table = bump_table n (all_of ps ts r placement o t) o out w.entries.bumped table

    module _ (h : t < triangles ts) where
      abbrev one_more : ℕ → List ℕ
      one_more p = gets t (hits ps ts r placement t) o p

      grows : (p : ℕ) → p < n → all_of ps ts r placement o (t + 1) p ≡ all_of ps ts r placement o t p ++ one_more p
      unfolding chosen
      grows p l = ap (chosen (λ u. meets (hits ps ts r placement u) (record_at o p))) (add-one t)

      upto_room : Room placing n (all_of ps ts r placement o (t + 1)) o len
      upto_room =
          room_part n (all_of ps ts r placement o (triangles ts)) (all_of ps ts r placement o (t + 1)) (λ p. (chosen_part (λ u. meets (hits ps ts r placement u) (record_at o p)) (t + 1) (triangles ts) (omega arith)).0) o
          (λ p l. (chosen_part (λ u. meets (hits ps ts r placement u) (record_at o p)) (t + 1) (triangles ts) (omega arith)).1) placing len room

      kept_gets : (p : ℕ) → p < n → gets t (hits ps ts r placement t) out p ≡ one_more p
      kept_gets p l = bump_gets n (all_of ps ts r placement o t) o out w.entries.bumped t (hits ps ts r placement t) p l

      pub triangle_room : (len' : ℕ) → len' ≡ len → Room placing n (gets t (hits ps ts r placement t) out) out len'
      triangle_room len' z =
          subst (Room placing n (gets t (hits ps ts r placement t) out) out) (sym z)
          (room_same placing n one_more (gets t (hits ps ts r placement t) out) out len (λ p l. sym (kept_gets p l))
          (room_rest n (all_of ps ts r placement o (t + 1)) (all_of ps ts r placement o t) one_more o grows out w.entries.bumped placing len upto_room))

      pub going_on : (out' list' : List ℕ) → Entered placing n (gets t (hits ps ts r placement t) out) out list out' list' → Going placing n ps ts r placement o q out' list' (t + 1)
      going_on out' list' v = record {
        most = omega arith;
        entries =
            entered_then n (all_of ps ts r placement o (t + 1)) (all_of ps ts r placement o t) one_more o grows placing len upto_room q out list out' list' w.entries
            (entered_same n placing (gets t (hits ps ts r placement t) out) one_more out list out' list' kept_gets v);
      }
