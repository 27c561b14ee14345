-- Laws of specs/Classes.antt that the loops of `classify` go by: part after part, and of a part entry after entry. Assumes nothing.
use mathlib.Core.Bool.{Bool, true, false, cond, ◌||◌}
use mathlib.Core.List.{List, [], ◌∷◌, ◌++◌}
use mathlib.Core.Logic.{◌⊎◌, inl, inr}
use mathlib.Core.Path.{◌≡◌, refl, sym, ap, ◌∙◌}
use Prim.Native.Nat.{ℕ, ◌+◌, ◌-◌, ◌≤◌, ◌<◌}
use native.Mathlib.Omega.{arith}
use lib.Dec.{eqb}
use lib.ListN.{length, get_or, set, take, drop, replicate, length-append, length-set, length-drop, length-replicate, get_or-replicate}
use lib.Seq.{get_or-set_same, get_or-set_other, get_or-append-add, get_or-drop, length-take-le}
use borrow.Author.Tests.{eq-eqb, ne_eqb, eqb-true}
use Rattle.grid.specs.Grid.{first_ones}
use Rattle.grid.proofs.Cells.{dec_eq, ones_length, ones_at}
use Rattle.grid.proofs.First.{some_none, some_more, some_below_lem}
use Rattle.order.specs.Order.{chosen}
use Rattle.order.specs.Output.{Written, over}
use Rattle.order.proofs.Lists.{Which, none, one, more, which, chosen_with, chosen_without}
use Rattle.order.proofs.Outputs.{written_over, append_left}
use Rattle.classes.specs.Classes.{begin_of, end_of, some_entry, part_names, no_class, several, class_by, parts_of, with_part, NamedBelow, Ended, Classes, Classified}

-- ---- a class and one part more

module _ (part class : ℕ) where
  pub with_none : class ≡ no_class → with_part part class ≡ part
  unfolding with_part
  with_none e = ap (λ (t : Bool). cond t part (cond (eqb class part) class several)) (eq-eqb class no_class e)

  pub with_same : class ≡ part → with_part part class ≡ part
  unfolding with_part
  with_same e =
      dec_eq class no_class with_none
      (λ z. ap (λ (t : Bool). cond t part (cond (eqb class part) class several)) (ne_eqb class no_class z)
      ∙ ap (λ (t : Bool). cond t class several) (eq-eqb class part e)
      ∙ e)

  pub with_other : (class ≡ no_class → ⊥) → (class ≡ part → ⊥) → with_part part class ≡ several
  unfolding with_part
  with_other z y =
      ap (λ (t : Bool). cond t part (cond (eqb class part) class several)) (ne_eqb class no_class z)
      ∙ ap (λ (t : Bool). cond t class several) (ne_eqb class part y)

with_several : (part : ℕ) → with_part part several ≡ several
with_several part = dec_eq several part (λ e. with_same part several e ∙ sym e) (λ z. with_other part several (λ e. omega arith) z)

-- a part that names a triangle again changes nothing
with_again : (part class : ℕ) → with_part part (with_part part class) ≡ with_part part class
with_again part class =
    dec_eq class no_class
    (λ e. twice part (with_none part class e) (with_same part part refl))
    (λ z. dec_eq class part
    (λ e. twice part (with_same part class e) (with_same part part refl))
    (λ y. twice several (with_other part class z y) (with_several part)))
  where
    twice : (v : ℕ) → with_part part class ≡ v → with_part part v ≡ v → with_part part (with_part part class) ≡ with_part part class
    twice v e f = ap (with_part part) e ∙ f ∙ sym e

-- ---- the entries of one part

module _ (entries : List ℕ) (from part : ℕ) where
  pub classified_none : (o : List ℕ) → Classified entries from from part o o
  classified_none o = record {
    size = refl;
    each = λ t. sym (ap (λ (b : Bool). cond b (with_part part (get_or o t 0)) (get_or o t 0)) (nothing t));
  }
    where
      nothing : (t : ℕ) → some_entry entries from (from - from) t ≡ false
      nothing t = ap (λ (n : ℕ). some_entry entries from n t) (let e : from - from ≡ 0 = omega arith in e) ∙ some_none (λ e. eqb (get_or entries (from + e) 0) t)

  entry_more : (e t : ℕ) → from ≤ e → some_entry entries from (e + 1 - from) t ≡ (some_entry entries from (e - from) t || eqb (get_or entries e 0) t)
  entry_more e t h =
      ap (λ (n : ℕ). some_entry entries from n t) (let q : e + 1 - from ≡ e - from + 1 = omega arith in q)
      ∙ some_more (e - from) (λ e. eqb (get_or entries (from + e) 0) t)
      ∙ ap (λ (k : ℕ). some_entry entries from (e - from) t || eqb (get_or entries k 0) t) (let q : from + (e - from) ≡ e = omega arith in q)

  pub classified_more : (e v : ℕ) (o m : List ℕ) → from ≤ e → get_or entries e 0 < length m → v ≡ with_part part (get_or m (get_or entries e 0) 0)
      → Classified entries from e part o m → Classified entries from (e + 1) part o (set m (get_or entries e 0) v)
  classified_more e v o m h l q w = record {
    size = length-set m t v ∙ w.size;
    each = λ u. dec_eq u t (λ z. named u z) (λ z. other u z);
  }
    where
      t : ℕ
      t = get_or entries e 0

      met : ℕ → ℕ → Bool
      met k u = some_entry entries from (k - from) u

      -- the triangle of this entry
      with_named : (a : Bool) (b : ℕ) → with_part part (cond a (with_part part b) b) ≡ cond (a || true) (with_part part b) b
      with_named true b = with_again part b
      with_named false b = refl

      named : (u : ℕ) → u ≡ t → get_or (set m t v) u 0 ≡ cond (met (e + 1) u) (with_part part (get_or o u 0)) (get_or o u 0)
      named u z =
          ap (λ (k : ℕ). get_or (set m t v) k 0) z
          ∙ get_or-set_same m t v 0 l
          ∙ q
          ∙ ap (λ (k : ℕ). with_part part (get_or m k 0)) (sym z)
          ∙ ap (with_part part) (w.each u)
          ∙ with_named (met e u) (get_or o u 0)
          ∙ ap (λ (b : Bool). cond (met e u || b) (with_part part (get_or o u 0)) (get_or o u 0)) (sym (eq-eqb t u (sym z)))
          ∙ ap (λ (b : Bool). cond b (with_part part (get_or o u 0)) (get_or o u 0)) (sym (entry_more e u h))

      -- any other
      or_none : (a : Bool) → a ≡ (a || false)
      or_none true = refl
      or_none false = refl

      other : (u : ℕ) → (u ≡ t → ⊥) → get_or (set m t v) u 0 ≡ cond (met (e + 1) u) (with_part part (get_or o u 0)) (get_or o u 0)
      other u z =
          get_or-set_other m t u v 0 z
          ∙ w.each u
          ∙ ap (λ (b : Bool). cond b (with_part part (get_or o u 0)) (get_or o u 0))
          (or_none (met e u) ∙ ap (λ (b : Bool). met e u || b) (sym (ne_eqb t u (λ g. z (sym g)))) ∙ sym (entry_more e u h))

-- ---- a class for each triangle

-- one class over the front of the buffer
pub classes_filled : (n v : ℕ) (o m : List ℕ) → n ≤ length o → m ≡ replicate (length (take n o)) v → Classes n (λ t. v) o (m ++ drop n o)
classes_filled n v o m h e = record {
  size = length-append m (drop n o) ∙ (let k = length-drop n o in omega (arith, long));
  each = λ t l. append_left 0 m (drop n o) t (omega (arith, long)) ∙ ap (λ (xs : List ℕ). get_or xs t 0) e ∙ get_or-replicate (length (take n o)) t v 0 (omega (arith, taken));
  others = λ t l.
      ap (λ (k : ℕ). get_or (m ++ drop n o) k 0) (let q : t ≡ length m + (t - n) = omega (arith, long) in q)
      ∙ get_or-append-add m (drop n o) (t - n) 0
      ∙ get_or-drop n o (t - n) 0
      ∙ ap (λ (k : ℕ). get_or o k 0) (let q : n + (t - n) ≡ t = omega arith in q);
}
  where
    taken : length (take n o) ≡ n
    taken = length-take-le n o h

    long : length m ≡ n
    long = ap (λ (xs : List ℕ). length xs) e ∙ length-replicate (length (take n o)) v ∙ taken

module _ (rule : ℕ → ℕ) where
  -- they stand over the front of the buffer
  pub classes_over : (n : ℕ) (o m : List ℕ) → n ≤ length o → Classes n rule o m → m ≡ over (first_ones n rule) o
  classes_over n o m h w = written_over 0 (first_ones n rule) o m (omega (arith, ones_length n rule)) there
    where
      there : Written 0 0 (first_ones n rule) o m
      there = record {
        size = w.size;
        there = λ t l.
            let g : t < n = omega (arith, ones_length n rule) in
            ap (λ (k : ℕ). get_or m k 0) (let e : 0 + t ≡ t = omega arith in e) ∙ w.each t g ∙ sym (ones_at n rule t g);
        others = λ t l. w.others t (past t l);
      }
        where
          past : (t : ℕ) → (t < 0) ⊎ (0 + length (first_ones n rule) ≤ t) → n ≤ t
          past t (inl l) = absurd (omega arith)
          past t (inr l) = omega (arith, ones_length n rule)

-- by one rule, and then by another
pub classes_then : (n : ℕ) (r s : ℕ → ℕ) (o m k : List ℕ) → Classes n r o m → Classes n s m k → Classes n s o k
classes_then n r s o m k a b = record { size = b.size ∙ a.size; each = b.each; others = λ t h. b.others t h ∙ a.others t h }

-- what is written stands there
pub classes_stay : (n : ℕ) (r : ℕ → ℕ) (o m : List ℕ) → Classes n r o m → Classes n r m m
classes_stay n r o m a = record { size = refl; each = a.each; others = λ t h. refl }

-- ---- part after part

-- one part more that names a triangle, after those before it
class_with : (ok : ℕ → Bool) (p : ℕ) (xs : List ℕ) → p < 65535 → Which ok p xs → class_by (xs ++ (p ∷ [])) ≡ with_part p (class_by xs)
unfolding class_by
class_with ok p xs h (none z) = sym (with_none p no_class refl)
class_with ok p xs h (one q l e u) = sym (with_other p q (λ g. omega arith) (λ g. omega arith))
class_with ok p xs h (more q r ps l k e f) = sym (with_several p)

-- the classes by the first p parts
abbrev pub ruled : List ℕ → List ℕ → ℕ → ℕ → ℕ
ruled entries ends p t = class_by (parts_of entries ends p t)

module _ (entries ends : List ℕ) (count : ℕ) where
  pub parts_none : (o : List ℕ) → Classes count (λ t. no_class) o o → Classes count (ruled entries ends 0) o o
  unfolding chosen class_by
  parts_none o w = record { size = w.size; each = w.each; others = w.others }

  ruled_next : (p t : ℕ) → p < 65535 → cond (part_names entries ends p t) (with_part p (ruled entries ends p t)) (ruled entries ends p t) ≡ ruled entries ends (p + 1) t
  ruled_next p t h = go (part_names entries ends p t) refl
    where
      ok : ℕ → Bool
      ok q = part_names entries ends q t

      go : (b : Bool) → ok p ≡ b → cond b (with_part p (ruled entries ends p t)) (ruled entries ends p t) ≡ ruled entries ends (p + 1) t
      go true e = sym (class_with ok p (chosen ok p) h (which ok p)) ∙ ap class_by (sym (chosen_with ok p e))
      go false e = ap class_by (sym (chosen_without ok p e))

  module _ (named : NamedBelow entries count) (ended : Ended ends (length entries)) (p : ℕ) (h : p < length ends) where
    unnamed : (t : ℕ) → count ≤ t → part_names entries ends p t ≡ false
    unnamed t l = go (part_names entries ends p t) refl
      where
        go : (b : Bool) → part_names entries ends p t ≡ b → part_names entries ends p t ≡ false
        go false e = e
        go true e =
            let w = (some_below_lem (λ k. eqb (get_or entries (begin_of ends p + k) 0) t) (end_of ends p - begin_of ends p)).0 e in
            let n = named.names (begin_of ends p + w.0) (omega (arith, w.1, ended.up p h, ended.within p h)) in
            absurd (omega (arith, n, eqb-true (get_or entries (begin_of ends p + w.0) 0) t w.2))

    pub parts_more : (o m k : List ℕ) → Classes count (ruled entries ends p) o m → Classified entries (begin_of ends p) (end_of ends p) p m k → Classes count (ruled entries ends (p + 1)) o k
    parts_more o m k w v = record {
      size = v.size ∙ w.size;
      each = λ t l.
          v.each t
          ∙ ap (λ (c : ℕ). cond (part_names entries ends p t) (with_part p c) c) (w.each t l)
          ∙ ruled_next p t (omega (arith, ended.few));
      others = λ t l. v.each t ∙ ap (λ (b : Bool). cond b (with_part p (get_or m t 0)) (get_or m t 0)) (unnamed t l) ∙ w.others t l;
    }
