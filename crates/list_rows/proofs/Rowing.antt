-- A triangle goes to the records of a row: one record gets it, and record after record. Assumes nothing.
use mathlib.Core.Bool.{Bool, true, false, cond, ◌&&◌}
use mathlib.Core.Logic.{◌⊎◌, inl, inr, ⊎_elim}
use mathlib.Core.Path.{◌≡◌, refl, sym, ap, ◌∙◌}
use mathlib.Core.List.{List, [], ◌∷◌, ◌++◌, append-nil}
use Prim.Native.Nat.{ℕ, ◌+◌, ◌≤◌, ◌<◌}
use native.Mathlib.Omega.{arith}
use lib.Dec.{eqb, leb, ltb}
use lib.ListN.{length, get_or, set, length-set}
use lib.Seq.{get_or-set_same, get_or-set_other}
use borrow.Author.Tests.{eq-eqb, ne_eqb, lt-ltb, le-ltb, le-leb, lt-leb, eqb-true}
use Rattle.grid.proofs.First.{le_or_lt}
use Rattle.order.specs.Order.{key}
use Rattle.order.proofs.Orders.{by_bool}
use Rattle.list_record.specs.declared.CellRecord.{CellRecord}
use Rattle.list_record.specs.Record.{record_at, ranged, PutRecord}
use Rattle.list_record.proofs.Records.{record_path}
use Rattle.list_lookup.specs.Lookup.{key_at, Table, Behind, Ahead}
use Rattle.list_rows.specs.Rows.{end_at, keyed, gets, Given, Entered, Free, Room}
use Rattle.list_rows.proofs.Entering.{entered_none, entered_same, entered_then, room_part, gets_none}

-- ---- one record

-- number t goes to record x
abbrev pub only : ℕ → ℕ → ℕ → List ℕ
only t x p = cond (eqb p x) (t ∷ []) []

only_here : (t x : ℕ) → only t x x ≡ t ∷ []
only_here t x = ap (λ (b : Bool). cond b (t ∷ []) []) (eq-eqb x x refl)

only_else : (t x p : ℕ) → (p ≡ x → ⊥) → only t x p ≡ []
only_else t x p z = ap (λ (b : Bool). cond b (t ∷ []) []) (ne_eqb p x z)

pub entered_one : (placing : Bool) (n t x : ℕ) (o q o' q' : List ℕ) (e : CellRecord) → x < n → e ≡ record_at o x → PutRecord x (ranged e.start (e.end + 1) e) o o'
    → (placing ≡ true → e.end < length q) → q' ≡ cond placing (set q e.end t) q → Entered placing n (only t x) o q o' q'
entered_one placing n t x o q o' q' e l is b room f = record {
  bumped = record {
    size = b.size;
    rows = λ p h. by_bool (eqb p x) (λ y. here p (eqb-true p x y)) (λ y. other p (λ z. clash p y z));
    past = λ k h. b.outside k (inr (omega arith));
  };
  given = go placing room f;
}
  where
    clash : (p : ℕ) → eqb p x ≡ false → p ≡ x → ⊥
    clash p y z = let w = eq-eqb p x z in let v : ◌≡◌ {A = ℕ} 0 1 = cc in omega arith

    end_is : e.end ≡ end_at o x
    end_is = ap (λ (y : CellRecord). y.end) is

    here : (p : ℕ) → p ≡ x → record_at o' p ≡ ranged (record_at o p).start (end_at o p + length (only t x p)) (record_at o p)
    here p z =
        ap (record_at o') z ∙ b.here
        ∙ ap (λ (y : CellRecord). ranged y.start (y.end + 1) y) is
        ∙ sym (ap (λ (k : ℕ). ranged (record_at o k).start (end_at o k + length (only t x k)) (record_at o k)) z ∙ ap (λ (ys : List ℕ). ranged (record_at o x).start (end_at o x + length ys) (record_at o x)) (only_here t x))

    other : (p : ℕ) → (p ≡ x → ⊥) → record_at o' p ≡ ranged (record_at o p).start (end_at o p + length (only t x p)) (record_at o p)
    other p z =
        b.other p z
        ∙ record_path _ _ refl refl refl (let w = ap (λ (ys : List ℕ). length ys) (only_else t x p z) in let k : end_at o p ≡ end_at o p + length (only t x p) = omega arith in k)

    go : (placing : Bool) → (placing ≡ true → e.end < length q) → q' ≡ cond placing (set q e.end t) q → Given placing n (only t x) o q q'
    go true r f = record {
      size = ap (λ (ys : List ℕ). length ys) f ∙ length-set q e.end t;
      there = λ p h k j. by_bool (eqb p x) (λ y. placed p k j (eqb-true p x y)) (λ y. absurd (empty p k j (λ z. clash p y z)));
      others = λ y h. ap (λ (ys : List ℕ). get_or ys y 0) f ∙ get_or-set_other q e.end y t 0 (apart y (h x l));
    }
      where
        empty : (p k : ℕ) → k < length (only t x p) → (p ≡ x → ⊥) → ⊥
        empty p k j z = let w = ap (λ (ys : List ℕ). length ys) (only_else t x p z) in omega arith

        placed : (p k : ℕ) → k < length (only t x p) → p ≡ x → get_or q' (end_at o p + k) 0 ≡ get_or (only t x p) k 0
        placed p k j z =
            let w = ap (λ (ys : List ℕ). length ys) (ap (λ (i : ℕ). only t x i) z ∙ only_here t x) in
            let y = ap (end_at o) z in
            let k0 : k ≡ 0 = omega arith in
            let at : end_at o p + k ≡ e.end = omega (arith, end_is) in
            ap (λ (ys : List ℕ). get_or ys (end_at o p + k) 0) f
            ∙ ap (λ (i : ℕ). get_or (set q e.end t) i 0) at
            ∙ get_or-set_same q e.end t 0 (r refl)
            ∙ sym (ap (λ (i : ℕ). get_or (only t x p) i 0) k0 ∙ ap (λ (ys : List ℕ). get_or ys 0 0) (ap (λ (i : ℕ). only t x i) z ∙ only_here t x))

        apart : (y : ℕ) → (y < end_at o x) ⊎ (end_at o x + length (only t x x) ≤ y) → y ≡ e.end → ⊥
        apart y (inl h) z = omega (arith, end_is)
        apart y (inr h) z = let w = ap (λ (ys : List ℕ). length ys) (only_here t x) in omega (arith, end_is)
    go false r f = f

-- ---- the records with keys from want up to, not including, past

module _ (n t want past : ℕ) (o : List ℕ) (table : Table o n) where
  -- what each record gets in all, and while the walk stands at x
  abbrev all : ℕ → List ℕ
  all p = gets t (keyed want past) o p

  abbrev pub up_to : ℕ → ℕ → List ℕ
  up_to x p = cond (ltb p x) (all p) []

  early : (p : ℕ) → key_at o p < want → all p ≡ []
  early p h = gets_none t (keyed want past) o p (ap (λ (b : Bool). b && ltb (key_at o p) past) (lt-leb want (key_at o p) h))

  late : (p : ℕ) → past ≤ key_at o p → all p ≡ []
  late p h = gets_none t (keyed want past) o p (ap (λ (b : Bool). leb want (key_at o p) && b) (le-ltb (key_at o p) past h) ∙ none (leb want (key_at o p)))
    where
      none : (a : Bool) → (a && false) ≡ false
      none true = refl
      none false = refl

  -- between them only the surface is asked for
  inner : (p : ℕ) → want ≤ key_at o p → key_at o p < past → all p ≡ cond (eqb (record_at o p).surface 1) (t ∷ []) []
  inner p h l =
      ap (λ (b : Bool). cond (eqb (record_at o p).surface 1 && (b && ltb (key_at o p) past)) (t ∷ []) []) (le-leb want (key_at o p) h)
      ∙ ap (λ (b : Bool). cond (eqb (record_at o p).surface 1 && b) (t ∷ []) []) (lt-ltb (key_at o p) past l)
      ∙ ap (λ (b : Bool). cond b (t ∷ []) []) (sure (eqb (record_at o p).surface 1))
    where
      sure : (a : Bool) → (a && true) ≡ a
      sure true = refl
      sure false = refl

  -- the walk stands at x
  pub record Rowing (placing : Bool) (q out list : List ℕ) (x : ℕ) : Type 0 where
    pub entries : Entered placing n (up_to x) o q out list
    pub ahead : Ahead o n want x

  pub rowing_first : (placing : Bool) (q : List ℕ) (x : ℕ) → Behind o n want x → Ahead o n want x → Rowing placing q o q x
  rowing_first placing q x a b = record {
    entries = entered_none n placing (up_to x) o q nothing;
    ahead = b;
  }
    where
      nothing : (p : ℕ) → p < n → up_to x p ≡ []
      nothing p l = ⊎_elim (λ h. ap (λ (b : Bool). cond b (all p) []) (le-ltb p x h)) (λ h. ap (λ (b : Bool). cond b (all p) []) (lt-ltb p x h) ∙ early p (a.under p h)) (le_or_lt x p)

  module _ (placing : Bool) (q out list : List ℕ) (x : ℕ) (w : Rowing placing q out list x) where
    -- where it ends, either way
    whole : ((p : ℕ) → x ≤ p → p < n → past ≤ key_at o p) → Entered placing n all o q out list
    whole h = entered_same n placing (up_to x) all o q out list same w.entries
      where
        same : (p : ℕ) → p < n → up_to x p ≡ all p
        same p l = ⊎_elim (λ g. ap (λ (b : Bool). cond b (all p) []) (le-ltb p x g) ∙ sym (late p (h p g l))) (λ g. ap (λ (b : Bool). cond b (all p) []) (lt-ltb p x g)) (le_or_lt x p)

    pub rowing_end : n ≤ x → Entered placing n all o q out list
    rowing_end h = whole (λ p g l. absurd (none p g l))
      where
        none : (p : ℕ) → x ≤ p → p < n → ⊥
        none p g l = omega arith

    module _ (l : x < n) where
      -- the record where it stands is as it was
      same_record : record_at out x ≡ record_at o x
      same_record =
          w.entries.bumped.rows x l
          ∙ record_path _ _ refl refl refl (let k = ap (λ (ys : List ℕ). length ys) (ap (λ (b : Bool). cond b (all x) []) (le-ltb x x (omega arith))) in let z : end_at o x + length (up_to x x) ≡ end_at o x = omega arith in z)

      module _ (e : CellRecord) (is : e ≡ record_at out x) where
        pub rowing_record : e ≡ record_at o x
        rowing_record = is ∙ same_record

        pub rowing_stop : past ≤ key e.cell → Entered placing n all o q out list
        rowing_stop h = whole (λ p g j. ⊎_elim (λ z. let y : p ≡ x = omega arith in let k = ap (key_at o) y in let m = ap (λ (f : CellRecord). key f.cell) rowing_record in omega arith) (λ z. let k = table.up x p z j in let m = ap (λ (f : CellRecord). key f.cell) rowing_record in omega arith) (le_or_lt p x))

        module _ (h : key e.cell < past) where
          here_under : key_at o x < past
          here_under = let m = ap (λ (f : CellRecord). key f.cell) rowing_record in omega arith

          gets_here : all x ≡ cond (eqb e.surface 1) (t ∷ []) []
          gets_here = inner x (w.ahead.over x (omega arith) l) here_under ∙ sym (ap (λ (f : CellRecord). cond (eqb f.surface 1) (t ∷ []) []) rowing_record)

          on_ahead : Ahead o n want (x + 1)
          on_ahead = record { most = omega arith; over = λ p g j. w.ahead.over p (omega arith) j }

          -- what is given behind x + 1 is what is given behind x, and what x gets
          grown : (p : ℕ) → up_to (x + 1) p ≡ up_to x p ++ cond (eqb p x) (all x) []
          grown p =
              ⊎_elim
              (λ g. ⊎_elim (λ k. at_place (let y : p ≡ x = omega arith in y)) (λ k. beyond k) (le_or_lt p x))
              (λ g. before g)
              (le_or_lt x p)
            where
              at_place : p ≡ x → cond (ltb p (x + 1)) (all p) [] ≡ cond (ltb p x) (all p) [] ++ cond (eqb p x) (all x) []
              at_place y = rw (lt-ltb p (x + 1) (omega arith), le-ltb p x (omega arith), eq-eqb p x y) (ap all y)

              beyond : x < p → cond (ltb p (x + 1)) (all p) [] ≡ cond (ltb p x) (all p) [] ++ cond (eqb p x) (all x) []
              beyond k = rw (le-ltb p (x + 1) (omega arith), le-ltb p x (omega arith), ne_eqb p x (λ z. other k z))
                where
                  other : x < p → p ≡ x → ⊥
                  other k z = omega arith

              before : p < x → cond (ltb p (x + 1)) (all p) [] ≡ cond (ltb p x) (all p) [] ++ cond (eqb p x) (all x) []
              before g = rw (lt-ltb p (x + 1) (omega arith), lt-ltb p x g, ne_eqb p x (λ z. other g z)) (sym (append-nil (all p)))
                where
                  other : p < x → p ≡ x → ⊥
                  other g z = omega arith

          pub rowing_no : eqb e.surface 1 ≡ false → Rowing placing q out list (x + 1)
          rowing_no z = record { entries = entered_same n placing (up_to x) (up_to (x + 1)) o q out list same w.entries; ahead = on_ahead }
            where
              none : all x ≡ []
              none = gets_here ∙ ap (λ (b : Bool). cond b (t ∷ []) []) z

              same : (p : ℕ) → p < n → up_to x p ≡ up_to (x + 1) p
              same p j = sym (grown p ∙ ap (λ (ys : List ℕ). up_to x p ++ cond (eqb p x) ys []) none ∙ ap (λ (ys : List ℕ). up_to x p ++ ys) (either (eqb p x)) ∙ append-nil (up_to x p))
                where
                  either : (b : Bool) → cond {A = List ℕ} b [] [] ≡ []
                  either true = refl
                  either false = refl

          module _ (z : eqb e.surface 1 ≡ true) (len : ℕ) (room : Room placing n all o len) where
            one_here : all x ≡ t ∷ []
            one_here = gets_here ∙ ap (λ (b : Bool). cond b (t ∷ []) []) z

            pub rowing_fits : e.end < 4294967295
            rowing_fits = let k = ap (λ (ys : List ℕ). length ys) one_here in let m = ap (λ (f : CellRecord). f.end) rowing_record in omega (arith, room.fits x l)

            pub rowing_place : placing ≡ true → len ≡ length q → e.end < length list
            rowing_place y j = go placing y room.free w.entries.given
              where
                go : (b : Bool) → b ≡ true → Free b n all o len → Given b n (up_to x) o q list → e.end < length list
                go true y f g = let k = ap (λ (ys : List ℕ). length ys) one_here in let m = ap (λ (f : CellRecord). f.end) rowing_record in omega (arith, f.inside x l, g.size)
                go false y f g = absurd (let v : ◌≡◌ {A = ℕ} 0 1 = cc in omega arith)

            pub rowing_yes : (out' list' : List ℕ) → PutRecord x (ranged e.start (e.end + 1) e) out out' → (placing ≡ true → e.end < length list)
                → list' ≡ cond placing (set list e.end t) list → Rowing placing q out' list' (x + 1)
            rowing_yes out' list' b y f = record {
              entries =
                  entered_then n (up_to (x + 1)) (up_to x) (only t x) o (λ p j. grown p ∙ ap (λ (ys : List ℕ). up_to x p ++ cond (eqb p x) ys []) one_here) placing len
                  (room_part n all (up_to (x + 1)) (λ p. cond (ltb p (x + 1)) [] (all p)) o (λ p j. parted (ltb p (x + 1)) (all p)) placing len room)
                  q out list out' list' w.entries (entered_one placing n t x out list out' list' e l is b y f);
              ahead = on_ahead;
            }
              where
                parted : (b : Bool) (ys : List ℕ) → ys ≡ cond b ys [] ++ cond b [] ys
                parted true ys = sym (append-nil ys)
                parted false ys = refl
