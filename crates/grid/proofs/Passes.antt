-- Laws of specs/Passes.antt: a pass place after place, one pass after another, and what a whole pass leaves. Assumes nothing.
use mathlib.Core.Logic.{◌⊎◌, inl, inr, ⊎_elim}
use mathlib.Core.Path.{◌≡◌, refl, sym, ap, subst, ◌∙◌}
use mathlib.Core.List.{List, [], ◌∷◌, map}
use Prim.Native.Nat.{ℕ, zero, suc, ◌+◌, ◌≤◌, ◌<◌, zero-le}
use native.Mathlib.Omega.{arith}
use lib.ListN.{length, get_or, set, length-set, length-map}
use lib.Seq.{get_or-set_same, get_or-set_other, ext_get_or}
use Rattle.grid.specs.Passes.{Within}
use Rattle.grid.proofs.Cells.{dec_eq}
use Rattle.grid.proofs.First.{le_or_lt}

-- ---- a pass

module _ (f : ℕ → ℕ → ℕ) (a : ℕ) where
  pub within_none : (l : List ℕ) → Within a a f l l
  within_none l = record { size = refl; passed = λ n g h. absurd (none n g h); others = λ n h. refl }
    where
      none : (n : ℕ) → a ≤ n → n < a → ⊥
      none n g h = omega arith

  pub within_more : (l₀ l : List ℕ) (n v : ℕ) → Within a n f l₀ l → a ≤ n → n < length l → v ≡ f n (get_or l n 0) → Within a (n + 1) f l₀ (set l n v)
  within_more l₀ l n v w b h e = record {
    size = length-set l n v ∙ w.size;
    passed = λ t g k. dec_eq t n
        (λ q. subst (λ (x : ℕ). get_or (set l n v) x 0 ≡ f x (get_or l₀ x 0)) (sym q) (get_or-set_same l n v 0 h ∙ e ∙ ap (f n) (w.others n (inr (omega arith)))))
        (λ z. get_or-set_other l n t v 0 z ∙ w.passed t g (omega arith));
    others = λ t g. get_or-set_other l n t v 0 (not_here t g) ∙ w.others t (⊎_elim (λ p. inl p) (λ p. inr (omega arith)) g);
  }
    where
      not_here : (t : ℕ) → (t < a) ⊎ (n + 1 ≤ t) → t ≡ n → ⊥
      not_here t g q = ⊎_elim (λ p. omega arith) (λ p. omega arith) g

  -- one pass after another
  pub within_then : (b c : ℕ) (l m n : List ℕ) → a ≤ b → b ≤ c → Within a b f l m → Within b c f m n → Within a c f l n
  within_then b c l m n p q v w = record {
    size = w.size ∙ v.size;
    passed = λ t g k. ⊎_elim
        (λ h. w.passed t h k ∙ ap (f t) (v.others t (inr h)))
        (λ h. w.others t (inl h) ∙ v.passed t g h)
        (le_or_lt b t);
    others = λ t g. w.others t (⊎_elim (λ h. inl (omega arith)) (λ h. inr h) g) ∙ v.others t (⊎_elim (λ h. inl h) (λ h. inr (omega arith)) g);
  }

  -- a rule that does the same there
  pub within_as : (g : ℕ → ℕ → ℕ) (b : ℕ) (l m : List ℕ) → Within a b g l m → ((n v : ℕ) → a ≤ n → n < b → g n v ≡ f n v) → Within a b f l m
  within_as g b l m w h = record { size = w.size; passed = λ n p q. w.passed n p q ∙ h n (get_or l n 0) p q; others = w.others }

  -- a rule that does nothing there
  pub within_idle : (b : ℕ) (l : List ℕ) → ((n v : ℕ) → a ≤ n → n < b → f n v ≡ v) → Within a b f l l
  within_idle b l h = record { size = refl; passed = λ n p q. sym (h n (get_or l n 0) p q); others = λ n p. refl }

-- ---- what a whole pass leaves

pub map_at : (f : ℕ → ℕ) (l : List ℕ) (n : ℕ) → n < length l → get_or (map f l) n 0 ≡ f (get_or l n 0)
map_at f [] n h = absurd (omega arith)
map_at f (x ∷ l) zero h = refl
map_at f (x ∷ l) (suc n) h = map_at f l n (omega arith)

pub within_map : (f : ℕ → ℕ) (b : ℕ) (l m : List ℕ) → length l ≤ b → Within 0 b (λ n. f) l m → m ≡ map f l
within_map f b l m h w =
    ext_get_or 0 m (map f l) (w.size ∙ sym (length-map l f)) (λ n g. w.passed n zero-le (omega (arith, w.size)) ∙ sym (map_at f l n (omega (arith, w.size))))
