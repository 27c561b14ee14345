-- Laws of visits and of what is done in turn (specs/Scan.antt): what the loops of a scan go by. Assumes nothing.
use mathlib.Core.Bool.{Bool, true, false, cond}
use mathlib.Core.Path.{◌≡◌, refl, sym, ap, ◌∙◌}
use mathlib.Core.List.{List}
use Prim.Native.Nat.{ℕ, zero, suc, ◌+◌, ◌*◌, ◌-◌, ◌≤◌, ◌<◌}
use native.Mathlib.Nat.{mul-add, mul-le-mul_left, zero-add, add-zero, suc-add}
use native.Mathlib.Omega.{arith}
use lib.ListN.{length, set}
use borrow.Author.Tests.{eq-eqb, ne_eqb}
use Rattle.grid.specs.declared.Axes.{Axes}
use Rattle.grid.specs.declared.Cell.{Cell}
use Rattle.grid.specs.Grid.{num, at, Sheet}
use Rattle.grid.proofs.Cells.{sheet_kept}
use Rattle.fill_walks.specs.declared.Phase.{Phase}
use Rattle.fill_walks.specs.Scan.{State, is_walker, walked_from, visited, in_turn}

-- ---- a visit, by the label that it finds

module _ (p : Phase) (r : Axes) (c : Cell) (l : List ℕ) (w : ℕ) where
  abbrev here : State
  here = record { labels = l; walked = w }

  abbrev done : State
  done = record { labels = walked_from p r c (set l (num r c) p.done); walked = w + 1 }

  abbrev walks : State
  walks = record { labels = walked_from p r c l; walked = w }

  pub visit_done : at r l c ≡ p.todo → visited p r c here ≡ done
  unfolding visited
  visit_done e = ap (λ (b : Bool). cond b done (cond (is_walker p.walkers (at r l c)) walks here)) (eq-eqb (at r l c) p.todo e)

  visit_other : (at r l c ≡ p.todo → ⊥) → visited p r c here ≡ cond (is_walker p.walkers (at r l c)) walks here
  unfolding visited
  visit_other z = ap (λ (b : Bool). cond b done (cond (is_walker p.walkers (at r l c)) walks here)) (ne_eqb (at r l c) p.todo z)

  pub visit_walk : (at r l c ≡ p.todo → ⊥) → is_walker p.walkers (at r l c) ≡ true → visited p r c here ≡ walks
  visit_walk z e = visit_other z ∙ ap (λ (b : Bool). cond b walks here) e

  pub visit_none : (at r l c ≡ p.todo → ⊥) → is_walker p.walkers (at r l c) ≡ false → visited p r c here ≡ here
  visit_none z e = visit_other z ∙ ap (λ (b : Bool). cond b walks here) e

-- ---- f at a, a + 1, ..., in parts

turn_split : (f : ℕ → State → State) (m n a : ℕ) (s : State) → in_turn f (m + n) a s ≡ in_turn f n (a + m) (in_turn f m a s)
unfolding in_turn
turn_split f zero n a s = ap (λ (x : ℕ). in_turn f x a s) (zero-add n) ∙ sym (ap (λ (x : ℕ). in_turn f n x s) (add-zero a))
turn_split f (suc m) n a s =
    ap (λ (x : ℕ). in_turn f x a s) (suc-add m n)
    ∙ turn_split f m n (a + 1) (f a s)
    ∙ ap (λ (x : ℕ). in_turn f n x (in_turn f m (a + 1) (f a s))) (next a m)
  where
    next : (a m : ℕ) → a + 1 + m ≡ a + suc m
    next a m = omega arith

-- up to i, then from i to n
pub turn_parts : (f : ℕ → State → State) (a i n : ℕ) (s : State) → a ≤ i → i ≤ n → in_turn f (n - a) a s ≡ in_turn f (n - i) i (in_turn f (i - a) a s)
turn_parts f a i n s h g =
    ap (λ (x : ℕ). in_turn f x a s) (parts a i n h g)
    ∙ turn_split f (i - a) (n - i) a s
    ∙ ap (λ (x : ℕ). in_turn f (n - i) x (in_turn f (i - a) a s)) (there a i h)
  where
    parts : (a i n : ℕ) → a ≤ i → i ≤ n → n - a ≡ i - a + (n - i)
    parts a i n h g = omega arith

    there : (a i : ℕ) → a ≤ i → a + (i - a) ≡ i
    there a i h = omega arith

pub turn_one : (f : ℕ → State → State) (a : ℕ) (s : State) → in_turn f (a + 1 - a) a s ≡ f a s
unfolding in_turn
turn_one f a s = ap (λ (x : ℕ). in_turn f x a s) (one a)
  where
    one : (a : ℕ) → a + 1 - a ≡ 1
    one a = omega arith

turn_none : (f : ℕ → State → State) (a : ℕ) (s : State) → in_turn f (a - a) a s ≡ s
unfolding in_turn
turn_none f a s = ap (λ (x : ℕ). in_turn f x a s) (none a)
  where
    none : (a : ℕ) → a - a ≡ 0
    none a = omega arith

-- turns that change nothing
turn_stops : (f : ℕ → State → State) (n a : ℕ) (s : State) → ((t : ℕ) → a ≤ t → t < a + n → f t s ≡ s) → in_turn f n a s ≡ s
unfolding in_turn
turn_stops f zero a s h = refl
turn_stops f (suc n) a s h = ap (in_turn f n (a + 1)) (h a (omega arith) (omega arith)) ∙ turn_stops f n (a + 1) s (λ t u v. h t (omega arith) (omega arith))

pub turn_idle : (f : ℕ → State → State) (a b : ℕ) (s : State) → ((t : ℕ) → a ≤ t → t < b → f t s ≡ s) → in_turn f (b - a) a s ≡ s
turn_idle f a b s h = turn_stops f (b - a) a s (λ t u v. h t u (omega arith))

-- ---- where a loop over turns a, a + 1, ..., n - 1 stands before turn i, with labels l and w cells walked, of which each turn adds at most u
pub record Turns (r : Axes) (f : ℕ → State → State) (a n u : ℕ) (l₀ : List ℕ) (w₀ : ℕ) (l : List ℕ) (w i : ℕ) : Type 0 where
  pub at_least : a ≤ i
  pub at_most : i ≤ n
  pub sheet : Sheet r l
  pub same : length l ≡ length l₀
  pub few : w + u * a ≤ w₀ + u * i
  pub rest : in_turn f (n - i) i (record { labels = l; walked = w }) ≡ in_turn f (n - a) a (record { labels = l₀; walked = w₀ })

module _ (r : Axes) (f : ℕ → State → State) (a n u : ℕ) (l₀ : List ℕ) (w₀ : ℕ) where
  pub turns_none : a ≤ n → Sheet r l₀ → Turns r f a n u l₀ w₀ l₀ w₀ a
  turns_none g h = record { at_least = omega arith; at_most = g; sheet = h; same = refl; few = omega arith; rest = refl }

  -- from i to j
  pub turns_on : (l m : List ℕ) (w v i j : ℕ) → Turns r f a n u l₀ w₀ l w i → i ≤ j → j ≤ n → length m ≡ length l → v + u * i ≤ w + u * j
      → record { labels = m; walked = v } ≡ in_turn f (j - i) i (record { labels = l; walked = w }) → Turns r f a n u l₀ w₀ m v j
  turns_on l m w v i j t h g e b q =
      record {
        at_least = omega (arith, t.at_least);
        at_most = g;
        sheet = sheet_kept r l m e t.sheet;
        same = e ∙ t.same;
        few = omega (arith, t.few);
        rest = ap (λ (s : State). in_turn f (n - j) j s) q ∙ sym (turn_parts f i j n (record { labels = l; walked = w }) h g) ∙ t.rest;
      }

  -- one turn
  pub turns_more : (l m : List ℕ) (w v i : ℕ) → Turns r f a n u l₀ w₀ l w i → i < n → length m ≡ length l → v ≤ w + u
      → record { labels = m; walked = v } ≡ f i (record { labels = l; walked = w }) → Turns r f a n u l₀ w₀ m v (i + 1)
  turns_more l m w v i t h e b q = turns_on l m w v i (i + 1) t (omega arith) (omega arith) e (omega (arith, mul-add u i 1)) (q ∙ sym (turn_one f i (record { labels = l; walked = w })))

  -- turns up to j that change nothing
  pub turns_pass : (l : List ℕ) (w i j : ℕ) → Turns r f a n u l₀ w₀ l w i → i ≤ j → j ≤ n → ((x : ℕ) → i ≤ x → x < j → f x (record { labels = l; walked = w }) ≡ record { labels = l; walked = w }) → Turns r f a n u l₀ w₀ l w j
  turns_pass l w i j t h g k = turns_on l l w w i j t h g refl (omega (arith, mul-le-mul_left u h)) (sym (turn_idle f i j (record { labels = l; walked = w }) k))

  pub turns_all : (l : List ℕ) (w i : ℕ) → Turns r f a n u l₀ w₀ l w i → n ≤ i → record { labels = l; walked = w } ≡ in_turn f (n - a) a (record { labels = l₀; walked = w₀ })
  turns_all l w i t h =
      let e : i ≡ n = omega (arith, t.at_most) in
      sym (turn_none f n (record { labels = l; walked = w })) ∙ sym (ap (λ (x : ℕ). in_turn f (n - x) x (record { labels = l; walked = w })) e) ∙ t.rest
