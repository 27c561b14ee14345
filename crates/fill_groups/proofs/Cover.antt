-- Laws of specs/Groups.antt: what a table that covers all that may act says of a group that is not raised, and what keeps it so. Assumes nothing.
use mathlib.Core.Bool.{Bool, true, false, not, ◌||◌, true≢false}
use mathlib.Core.Logic.{◌⊎◌, inl, inr}
use mathlib.Core.Path.{◌≡◌, refl, sym, ap, subst, ◌∙◌}
use mathlib.Core.List.{List}
use Prim.Native.Nat.{ℕ, ◌+◌, ◌*◌, ◌-◌, ◌≤◌, ◌<◌}
use native.Mathlib.Nat.{add-mul, one-mul, mul-le-mul_right}
use native.Mathlib.Omega.{arith}
use lib.Dec.{T, eqb, eqb→eq}
use lib.ListN.{length, get_or, set, take, drop, replicate, length-set, length-replicate, get_or-replicate}
use lib.Seq.{get_or-set_same, get_or-set_other}
use Rattle.std.proofs.lemmas.List.{get_or-drop, get_or-take, length-drop, length-take}
use Rattle.grid.specs.declared.Axes.{Axes}
use Rattle.grid.specs.declared.Cell.{Cell}
use Rattle.grid.specs.Grid.{num, InGrid, Sound, at}
use Rattle.grid.proofs.Cells.{dec_eq}
use Rattle.grid.proofs.Checks.{or_false, not_false}
use Rattle.fill_walks.specs.declared.Phase.{Phase}
use Rattle.fill_walks.specs.Scan.{is_walker}
use Rattle.fill_walks.specs.Quiet.{Clear, Stops, Quiet, Idle, SetEarly, Near, Swept}
use Rattle.fill_walks.proofs.Quiets.{stops_todo, stops_mark, quiet_kept, early_quiet, early_todo, early_walker}
use Rattle.fill_groups.specs.Groups.{table_length, place_at, place_of, Up, Raises, Covers}

pub raises_same : (t : List ℕ) → Raises t t
raises_same t = record { size = refl; kept = λ n h. h }

pub raises_then : {t u v : List ℕ} → Raises t u → Raises u v → Raises t v
raises_then a b = record { size = b.size ∙ a.size; kept = λ n h. b.kept n (a.kept n h) }

pub up_at : (t : List ℕ) (m n : ℕ) → m ≡ n → Up t m → Up t n
up_at t m n e = subst (Up t) e

up_as : {t u : List ℕ} {m n : ℕ} → get_or u n 0 ≡ get_or t m 0 → Up t m → Up u n
up_as e x = record { raised = subst (λ (y : ℕ). 0 < y) (sym e) x.raised }

pub set_up : (t : List ℕ) (n : ℕ) → n < length t → Up (set t n 1) n
set_up t n h = record { raised = subst (λ (x : ℕ). 0 < x) (sym (get_or-set_same t n 1 0 h)) (omega arith) }

-- one byte more is raised
pub raises_set : (t : List ℕ) (n : ℕ) → n < length t → Raises t (set t n 1)
raises_set t n h = record {
  size = length-set t n 1;
  kept = λ m u. dec_eq m n
      (λ e. up_at (set t n 1) n m (sym e) (set_up t n h))
      (λ z. up_as (get_or-set_other t n m 1 0 z) u);
}

-- a place is within the table
pub place_within : (i j k : ℕ) → i < 256 → j < 256 → k < 256 → place_at i j k < table_length
place_within i j k a b c = omega arith

module _ (p : Phase) (r : Axes) where
  -- at first every group is raised
  pub covers_all : (l : List ℕ) → Sound r → Covers p r l (replicate table_length 1)
  covers_all l s = record {
    size = length-replicate {A = ℕ} table_length 1;
    todo = λ c h e. up c h;
    walkers = λ c h e. inl (up c h);
  }
    where
      up : (c : Cell) → InGrid r c → Up (replicate table_length 1) (place_of c)
      up c h = record {
        raised = subst (λ (x : ℕ). 0 < x)
            (sym (get_or-replicate {A = ℕ} table_length (place_of c) 1 0 (place_within c.i c.j c.k (omega (arith, h.i_in, s.axis0.most)) (omega (arith, h.j_in, s.axis1.most)) (omega (arith, h.k_in, s.axis2.most)))))
            (omega arith);
      }

  -- a visit of a cell whose group is not raised changes nothing
  pub low_idle : (l t : List ℕ) (c : Cell) → InGrid r c → Covers p r l t → get_or t (place_of c) 0 ≡ 0 → Idle p r l c
  low_idle l t c h k e = record {
    walked = λ q. not_up (k.todo c h q);
    quiet = λ q. go (k.walkers c h q);
  }
    where
      not_up : Up t (place_of c) → ⊥
      not_up u = omega (arith, e, u.raised)

      go : Up t (place_of c) ⊎ Quiet p r l c → Quiet p r l c
      go (inl u) = absurd (not_up u)
      go (inr q) = q

  -- a group all of whose cells are idle may be lowered
  pub covers_lower : (l t : List ℕ) (n : ℕ) → Covers p r l t → ((c : Cell) → InGrid r c → place_of c ≡ n → Idle p r l c) → Covers p r l (set t n 0)
  covers_lower l t n k f = record {
    size = length-set t n 0 ∙ k.size;
    todo = λ c h e. dec_eq (place_of c) n (λ q. absurd ((f c h q).walked e)) (λ z. other c z (k.todo c h e));
    walkers = λ c h e. dec_eq (place_of c) n (λ q. inr ((f c h q).quiet e)) (λ z. go c z (k.walkers c h e));
  }
    where
      other : (c : Cell) → (place_of c ≡ n → ⊥) → Up t (place_of c) → Up (set t n 0) (place_of c)
      other c z u = up_as (get_or-set_other t n (place_of c) 0 0 z) u

      go : (c : Cell) → (place_of c ≡ n → ⊥) → Up t (place_of c) ⊎ Quiet p r l c → Up (set t n 0) (place_of c) ⊎ Quiet p r l c
      go c z (inl u) = inl (other c z u)
      go c z (inr q) = inr q

  pub covers_raise : (l t u : List ℕ) → Raises t u → Covers p r l t → Covers p r l u
  covers_raise l t u a k = record {
    size = a.size ∙ k.size;
    todo = λ c h e. a.kept _ (k.todo c h e);
    walkers = λ c h e. go c (k.walkers c h e);
  }
    where
      go : (c : Cell) → Up t (place_of c) ⊎ Quiet p r l c → Up u (place_of c) ⊎ Quiet p r l c
      go c (inl x) = inl (a.kept _ x)
      go c (inr x) = inr x

module _ (p : Phase) (k : Clear p) (r : Axes) where
  pub covers_early : (l m t : List ℕ) → SetEarly p l m → Covers p r l t → Covers p r m t
  covers_early l m t h v = record {
    size = v.size;
    todo = λ c i e. v.todo c i (early_todo p k r l m h (num r c) e);
    walkers = λ c i e. go c i (v.walkers c i (early_walker p k r l m h (num r c) e));
  }
    where
      go : (c : Cell) → InGrid r c → Up t (place_of c) ⊎ Quiet p r l c → Up t (place_of c) ⊎ Quiet p r m c
      go c i (inl x) = inl x
      go c i (inr x) = inr (early_quiet p k r l m h c i x)

  -- after walks up an axis and down, where the groups of what they passed were raised
  module _ (from stride up down : ℕ) (l m t u : List ℕ) (w : Swept p from stride up down l m) (a : Raises t u) (f : (c : Cell) → InGrid r c → Near from stride up down (num r c) → Up u (place_of c)) (v : Covers p r l t) where
    swept_stops : (d : Cell) → InGrid r d → Stops p (at r l d) → Stops p (at r m d)
    swept_stops d i s = go (w.labels (num r d))
      where
        go : (at r m d ≡ at r l d) ⊎ (Near from stride up down (num r d) × (at r m d ≡ p.todo)) ⊎ (at r m d ≡ p.mark) → Stops p (at r m d)
        go (inl e) = subst (Stops p) (sym e) s
        go (inr (inl e)) = subst (Stops p) (sym e.1) (stops_todo p k)
        go (inr (inr e)) = subst (Stops p) (sym e) (stops_mark p k)

    pub covers_swept : Covers p r m u
    covers_swept = record {
      size = a.size ∙ v.size;
      todo = λ c i e. todo c i e (w.labels (num r c));
      walkers = λ c i e. walkers c i e (w.labels (num r c));
    }
      where
        todo : (c : Cell) → InGrid r c → at r m c ≡ p.todo → (at r m c ≡ at r l c) ⊎ (Near from stride up down (num r c) × (at r m c ≡ p.todo)) ⊎ (at r m c ≡ p.mark) → Up u (place_of c)
        todo c i e (inl q) = a.kept _ (v.todo c i (sym q ∙ e))
        todo c i e (inr (inl q)) = f c i q.0
        todo c i e (inr (inr q)) = absurd (k.proper.surface_unwalked (sym q ∙ e))

        stays : (c : Cell) → InGrid r c → Up t (place_of c) ⊎ Quiet p r l c → Up u (place_of c) ⊎ Quiet p r m c
        stays c i (inl x) = inl (a.kept _ x)
        stays c i (inr x) = inr (quiet_kept p r l m c i swept_stops x)

        walkers : (c : Cell) → InGrid r c → is_walker p.walkers (at r m c) ≡ true → (at r m c ≡ at r l c) ⊎ (Near from stride up down (num r c) × (at r m c ≡ p.todo)) ⊎ (at r m c ≡ p.mark) → Up u (place_of c) ⊎ Quiet p r m c
        walkers c i e (inl q) = stays c i (v.walkers c i (ap (is_walker p.walkers) (sym q) ∙ e))
        walkers c i e (inr (inl q)) = inl (f c i q.0)
        walkers c i e (inr (inr q)) = absurd (true≢false (sym e ∙ ap (is_walker p.walkers) q ∙ k.mark_stays))

-- ---- small laws

pub back : (a s n : ℕ) → s ≤ a → (a - s) * n + s * n ≡ a * n
back a s n h = sym (add-mul (a - s) s n) ∙ ap (λ (x : ℕ). x * n) (whole a s h)
  where
    whole : (a s : ℕ) → s ≤ a → a - s + s ≡ a
    whole a s h = omega arith

pub not_last : (x n : ℕ) → x < n + 1 → (x ≡ n → ⊥) → x < n
not_last x n g u = omega arith

-- ---- a slice: m from n on

pub part_length : (l : List ℕ) (n m : ℕ) → n + m ≤ length l → length (take (n + m - n) (drop n l)) ≡ m
part_length l n m h = omega (arith, length-take (n + m - n) (drop n l), length-drop n l)

pub part_at : (l : List ℕ) (n m x : ℕ) → x < m → get_or (take (n + m - n) (drop n l)) x 0 ≡ get_or l (n + x) 0
part_at l n m x h = get_or-take (n + m - n) (drop n l) x 0 (omega arith) ∙ get_or-drop n l x 0

-- ---- a loop that raises bytes a stride apart, n so far

pub record Raising (from stride : ℕ) (t₀ t : List ℕ) (n : ℕ) : Type 0 where
  pub raised : Raises t₀ t
  pub done : (s : ℕ) → s < n → Up t (from + s * stride)

module _ (from stride : ℕ) (t₀ : List ℕ) where
  pub raising_none : Raising from stride t₀ t₀ 0
  raising_none = record { raised = raises_same t₀; done = λ s h. absurd (omega arith) }

  pub raising_within : (count len n : ℕ) → n < count → from + count * stride < len + stride → from + n * stride < len
  raising_within count len n h g =
      let m : (n + 1) * stride ≤ count * stride = mul-le-mul_right stride (omega arith) in
      omega (arith, g, m, add-mul n 1 stride, one-mul stride)

  pub raising_more : (t : List ℕ) (n : ℕ) → from + n * stride < length t → Raising from stride t₀ t n → Raising from stride t₀ (set t (from + n * stride) 1) (n + 1)
  raising_more t n w a =
      let x : ℕ = from + n * stride in record {
        raised = raises_then a.raised (raises_set t x w);
        done = λ s u. dec_eq s n
            (λ e. subst (Up (set t x 1)) (ap (λ (y : ℕ). from + y * stride) (sym e)) (set_up t x w))
            (λ z. (raises_set t x w).kept _ (a.done s (not_last s n u z)));
      }

-- ---- small laws that loops share

pub eq_of : (v a : ℕ) → eqb v a ≡ true → v ≡ a
eq_of v a e = eqb→eq v a (subst T (sym e) tt)

-- ---- a loop that looks at n of some bytes

pub record Lying (t : List ℕ) (some : Bool) (n : ℕ) : Type 0 where
  pub none : some ≡ false → (x : ℕ) → x < n → get_or t x 0 ≡ 0

pub lying_none : (t : List ℕ) → Lying t false 0
lying_none t = record { none = λ e x h. absurd (omega arith) }

pub lying_more : (t : List ℕ) (some : Bool) (n : ℕ) → Lying t some n → Lying t (some || not (eqb (get_or t n 0) 0)) (n + 1)
lying_more t some n a = record {
  none = λ e x g.
      let q = or_false some (not (eqb (get_or t n 0) 0)) e in
      dec_eq x n
      (λ u. ap (λ (y : ℕ). get_or t y 0) u ∙ eq_of (get_or t n 0) 0 (not_false (eqb (get_or t n 0) 0) q.1))
      (λ u. a.none q.0 x (not_last x n g u));
}
