-- Where a trip stands, and what each of its turns keeps. The cells under way make a list, from where the trip stands down to s; the labels hold it. Assumes nothing.
use mathlib.Core.Bool.{Bool, true, false, not, cond, ◌&&◌}
use mathlib.Core.Logic.{◌⊎◌, inl, inr, ⊎_elim}
use mathlib.Core.Path.{◌≡◌, refl, sym, ap, subst, ◌∙◌}
use mathlib.Core.List.{List, [], ◌∷◌}
use Prim.Native.Nat.{ℕ, ◌+◌, ◌-◌, ◌≤◌, ◌<◌}
use native.Mathlib.Omega.{arith}
use lib.Dec.{eqb, ltb}
use lib.ListN.{length, get_or, set, length-set}
use Rattle.grid.specs.declared.Axes.{Axes}
use Rattle.grid.specs.declared.Cell.{Cell}
use Rattle.grid.specs.Counts.{count_of}
use Rattle.grid.specs.Grid.{num, cells, InGrid, at, Sheet, Face, Border, on_border}
use Rattle.grid.specs.Paths.{Joined, starts, steps, Only, Through}
use Rattle.grid.specs.Ways.{room, beside, counter}
use Rattle.grid.proofs.Cells.{dec_eq, num_lt, here, there, stored, cells_max}
use Rattle.grid.proofs.Counts.{count_most}
use Rattle.grid.proofs.Paths.{joined_in, joined_kind, joined_within, joined_more}
use Rattle.grid.proofs.Ways.{beside_in, beside_face, counter_room, counter_beside, face_way}
use Rattle.edits_reach.specs.declared.Seen.{Seen}
use Rattle.edits_reach.specs.Reach.{way_of, Sees, Marked, Exit, MayReach, Reaches}
use Rattle.edits_reach.proofs.Ways.{number_of, way_numbered, numbered_low, seen_room}
use Rattle.edits_reach.proofs.Tests.{flag, exit_so, exit_not, mark_so, mark_not, onward_at, onward_end}
use Rattle.edits_reach.proofs.Weights.{count_keep, count_more, weight, weight_push, weight_pop}

-- x is in the list
unfoldable pub On : Cell → List Cell → Type 0
On x [] = ⊥
On x (y ∷ st) = (x ≡ y) ⊎ On x st

-- reached from s through cells that were to pass and no longer are
abbrev pub Trek : Axes → ℕ → List ℕ → Cell → List ℕ → Cell → Type 0
Trek r pass m s l = Joined r (Only s) (λ e. (at r m e ≡ pass) × (at r l e ≡ pass → ⊥))

-- a label that is not to pass and, where the trip stops at exits, no mark
abbrev pub Bars : ℕ → ℕ → Bool → ℕ → Type 0
Bars pass done stop v = (v ≡ pass → ⊥) × (stop ≡ true → Marked done v → ⊥)

-- unless an exit was met, c's neighbours the ways below n have such labels
abbrev pub Tried : Axes → ℕ → ℕ → Bool → List ℕ → Bool → Cell → ℕ → Type 0
Tried r pass done stop l b c n = b ≡ false → (d : ℕ) → d < n → 0 < room r (way_of d) c → Bars pass done stop (at r l (beside (way_of d) c))

-- the trip came to c from p the way d, and n is the next to try at c
pub record Link (r : Axes) (pass done : ℕ) (stop : Bool) (l : List ℕ) (b : Bool) (n : ℕ) (c p : Cell) (st : List Cell) (d : ℕ) : Type 0 where
  pub label : at r l c ≡ 16 + d
  pub low : d < 6
  pub some : 0 < room r (way_of d) p
  pub by : c ≡ beside (way_of d) p
  pub once : On c (p ∷ st) → ⊥
  pub tried : Tried r pass done stop l b c n

-- the cells under way: c, on top of the list st down to s
unfoldable pub Links : Axes → ℕ → ℕ → Bool → Cell → List ℕ → Bool → ℕ → Cell → List Cell → Type 0
Links r pass done stop s l b n c [] = (c ≡ s) × (at r l c ≡ 22) × Tried r pass done stop l b c n
Links r pass done stop s l b n c (p ∷ st) = (d : ℕ) × Link r pass done stop l b n c p st d × Links r pass done stop s l b d p st

-- what has been done, with the cells of st under way: b says whether an exit was met, and k cells are set
pub record Been (r : Axes) (pass done : ℕ) (stop : Bool) (m : List ℕ) (s : Cell) (l : List ℕ) (b : Bool) (st : List Cell) (k : ℕ) : Type 0 where
  pub size : length l ≡ cells r
  pub held : (x : Cell) → On x st → InGrid r x × Trek r pass m s l x
  pub each : (x : Cell) → InGrid r x → On x st ⊎ ((Trek r pass m s l x × (at r l x ≡ done)) ⊎ ((x ≡ s → ⊥) × (at r l x ≡ at r m x)))
  pub closed : b ≡ false → (x y : Cell) → InGrid r x → InGrid r y → Face x y → Through r m pass s x → at r l x ≡ done → Bars pass done stop (at r l y)
  pub inner : b ≡ false → stop ≡ true → (x : Cell) → InGrid r x → Through r m pass s x → (at r l x ≡ pass → ⊥) → Border r x → ⊥
  pub met_at : b ≡ true → (stop ≡ true) × (t : Cell) × Through r m pass s t × Exit r done m t
  pub counted : k + count_of done m ≡ count_of done l

pub record Going (r : Axes) (pass done : ℕ) (stop : Bool) (m : List ℕ) (s : Cell) (l : List ℕ) (c : Cell) (i : ℕ) (b : Bool) (n k : ℕ) : Type 0 where
  pub rest : List Cell
  pub links : Links r pass done stop s l b n c rest
  pub been : Been r pass done stop m s l b (c ∷ rest) k
  pub number : i ≡ num r c
  pub ends : b ≡ true → 6 ≤ n

-- no label has become one to pass, or a mark
pub record Fewer (r : Axes) (pass done : ℕ) (stop : Bool) (l l' : List ℕ) : Type 0 where
  pub to_pass : (y : Cell) → InGrid r y → at r l' y ≡ pass → at r l y ≡ pass
  pub to_mark : (y : Cell) → InGrid r y → stop ≡ true → Marked done (at r l' y) → Marked done (at r l y)

module _ (r : Axes) (pass done : ℕ) (stop : Bool) where
  trek_through : (m l : List ℕ) (s : Cell) {x : Cell} → Trek r pass m s l x → Through r m pass s x
  trek_through m l s t = joined_more (λ d e. e) (λ d p. p.0) t

  module _ (l l' : List ℕ) (g : Fewer r pass done stop l l') where
    trek_keep : (m : List ℕ) (s : Cell) {x : Cell} → Trek r pass m s l x → Trek r pass m s l' x
    trek_keep m s t = joined_within (λ d h e. e) (λ d h p. (p.0, λ w. p.1 (g.to_pass d h w))) t

    bars_keep : (y : Cell) → InGrid r y → Bars pass done stop (at r l y) → Bars pass done stop (at r l' y)
    bars_keep y h p = ((λ w. p.0 (g.to_pass y h w)), λ t w. p.1 t (g.to_mark y h t w))

module _ (r : Axes) (pass done : ℕ) (stop : Bool) (s : Cell) where
  links_high : (l : List ℕ) (b : Bool) (n : ℕ) (c : Cell) (st : List Cell) → Links r pass done stop s l b n c st → (x : Cell) → On x (c ∷ st) → 16 ≤ at r l x
  unfolding On Links
  links_high l b n c [] k x (inl e) = rw e (omega (arith, k.1))
  links_high l b n c [] k x (inr e) = absurd e
  links_high l b n c (p ∷ st) k x (inl e) = rw e (omega (arith, k.1.label))
  links_high l b n c (p ∷ st) k x (inr e) = links_high l b k.0 p st k.2 x e

  tried_keep : (l l' : List ℕ) (b b' : Bool) (n : ℕ) (c : Cell) → InGrid r c → (b' ≡ false → b ≡ false) → Fewer r pass done stop l l' → Tried r pass done stop l b c n → Tried r pass done stop l' b' c n
  tried_keep l l' b b' n c h u g t w d q i = bars_keep r pass done stop l l' g (beside (way_of d) c) (beside_in r c (way_of d) h i) (t (u w) d q i)

  links_keep : (l l' : List ℕ) (b b' : Bool) (n : ℕ) (c : Cell) (st : List Cell) → (b' ≡ false → b ≡ false) → Fewer r pass done stop l l'
      → ((x : Cell) → On x (c ∷ st) → InGrid r x × (at r l' x ≡ at r l x)) → Links r pass done stop s l b n c st → Links r pass done stop s l' b' n c st
  unfolding On Links
  links_keep l l' b b' n c [] u g a k = let h = a c (inl refl) in (k.0, h.1 ∙ k.1, tried_keep l l' b b' n c h.0 u g k.2)
  links_keep l l' b b' n c (p ∷ st) u g a k =
      let h = a c (inl refl) in (
        k.0,
        record { label = h.1 ∙ k.1.label; low = k.1.low; some = k.1.some; by = k.1.by; once = k.1.once; tried = tried_keep l l' b b' n c h.0 u g k.1.tried },
        links_keep l l' b b' k.0 p st u g (λ x o. a x (inr o)) k.2,
      )

  links_tried : (l : List ℕ) (b : Bool) (n : ℕ) (c : Cell) (st : List Cell) → Links r pass done stop s l b n c st → Tried r pass done stop l b c n
  unfolding Links
  links_tried l b n c [] k = k.2
  links_tried l b n c (p ∷ st) k = k.1.tried

  links_next : (l : List ℕ) (b : Bool) (n n' : ℕ) (c : Cell) (st : List Cell) → Links r pass done stop s l b n c st → Tried r pass done stop l b c n' → Links r pass done stop s l b n' c st
  unfolding Links
  links_next l b n n' c [] k t = (k.0, k.1, t)
  links_next l b n n' c (p ∷ st) k t = (k.0, record { label = k.1.label; low = k.1.low; some = k.1.some; by = k.1.by; once = k.1.once; tried = t }, k.2)

never : {A : Type 0} (d : ℕ) → d < 0 → A
never d h = absurd (none d h)
  where
    none : (d : ℕ) → d < 0 → ⊥
    none d h = omega arith

module _ (r : Axes) (pass done : ℕ) (stop : Bool) (m : List ℕ) (s : Cell) (ok : MayReach r pass done stop m s) where
  abbrev Going' : List ℕ → Cell → ℕ → Bool → ℕ → ℕ → Type 0
  Going' = Going r pass done stop m s

  abbrev Been' : List ℕ → Bool → List Cell → ℕ → Type 0
  Been' = Been r pass done stop m s

  -- a label that a trip sets: what it sets at last, or one of a cell under way
  abbrev Sets : ℕ → Type 0
  Sets v = (v ≡ done) ⊎ (16 ≤ v)

  sets_no_pass : {v : ℕ} → Sets v → v ≡ pass → ⊥
  sets_no_pass (inl e) q = ok.apart (sym e ∙ q)
  sets_no_pass (inr g) q = omega (arith, ok.pass_low)

  sets_no_mark : {v : ℕ} → Sets v → Marked done v → ⊥
  sets_no_mark (inl e) q = q.1 e
  sets_no_mark (inr g) q = omega (arith, q.0)

  fewer : (l : List ℕ) (v : ℕ) (c : Cell) → InGrid r c → length l ≡ cells r → Sets v → Fewer r pass done stop l (set l (num r c) v)
  fewer l v c h e z = record {
    to_pass = λ y g q. stored r l v y c g h e (λ _ w. absurd (sets_no_pass z (sym w ∙ q))) (λ _ w. sym w ∙ q);
    to_mark = λ y g t q. stored r l v y c g h e (λ _ w. absurd (sets_no_mark z (subst (Marked done) w q))) (λ _ w. subst (Marked done) w q);
  }

  bound : (l : List ℕ) (c : Cell) → InGrid r c → length l ≡ cells r → num r c < length l
  bound l c h e = rw e (num_lt r c h)

  was_pass : {x : Cell} → Through r m pass s x → (x ≡ s → ⊥) → at r m x ≡ pass
  was_pass u z = ⊎_elim (λ e. absurd (z e)) (λ q. q) (joined_kind u)

  -- the start
  pub start : (i : ℕ) (b : Bool) (n : ℕ) → i ≡ num r s → b ≡ cond stop (on_border r s) false → n ≡ cond b 6 0 → Going' (set m i 22) s i b n 0
  unfolding On Links
  start i b n at_i u z =
      let hs = ok.inside in
      let sm = ok.sheet.size in
      subst (λ (x : ℕ). Going' (set m x 22) s i b n 0) (sym at_i) (record {
        rest = [];
        links = (refl, here r m 22 s hs sm, λ w d h. never d (subst (λ (x : ℕ). d < x) (z ∙ onward_at b 0 w) h));
        been = record {
          size = length-set m (num r s) 22 ∙ sm;
          held = λ x o. ⊎_elim (λ e. (rw e hs, starts (rw e hs) e)) (λ e. absurd e) o;
          each = λ x h. stored r m 22 x s h hs sm (λ e _. inl (inl e)) (λ y e. inr (inr (y, e)));
          closed = λ w x y hx hy f v q. absurd (stored r m 22 x s hx hs sm (λ _ e. omega (arith, ok.done_low, e, q)) (λ y e. ok.apart (sym q ∙ e ∙ was_pass v y)));
          inner = λ w t x h v y. stored r m 22 x s h hs sm (λ e _. rw e (exit_not stop r s hs b u w t)) (λ z' e. absurd (y (e ∙ was_pass v z')));
          met_at = λ w. let e = exit_so stop r s hs b u w in (e.0, s, starts hs refl, inl e.1);
          counted = omega (arith, count_keep done m (num r s) 22 ok.fresh (omega (arith, ok.done_low)));
        };
        number = at_i;
        ends = λ w. omega (arith, z ∙ onward_end b 0 w);
      })

  module _ (l : List ℕ) (c : Cell) (i : ℕ) (b : Bool) (n k : ℕ) (g : Going' l c i b n k) where
    abbrev a : Been' l b (c ∷ g.rest) k
    a = g.been

    pub in_c : InGrid r c
    unfolding On
    in_c = (g.been.held c (inl refl)).0

    trek_c : Trek r pass m s l c
    unfolding On
    trek_c = (g.been.held c (inl refl)).1

    pub high_c : 16 ≤ at r l c
    unfolding On
    high_c = links_high r pass done stop s l b n c g.rest g.links c (inl refl)

    pub sheet : Sheet r l
    sheet = record { sound = ok.sheet.sound; size = a.size }

    pub place : i < length l
    place = subst (λ (x : ℕ). x < length l) (sym g.number) (bound l c in_c a.size)

    pub few_set : k < 16777216
    few_set = omega (arith, a.counted, count_most (λ x. eqb x done) (set l (num r c) done), count_more done l (num r c) (bound l c in_c a.size) (λ q. omega (arith, ok.done_low, high_c)), length-set l (num r c) done, a.size, cells_max r ok.sheet.sound)

    -- a way is tried
    module _ (low : n < 6) where
      unmet : b ≡ false
      unmet = flag b (λ w. omega (arith, g.ends w))

      -- a label that is as it was at entry
      as_was : (x : Cell) → InGrid r x → (Sets (at r l x) → ⊥) → at r l x ≡ at r m x
      unfolding On
      as_was x h z = ⊎_elim
          (λ o. absurd (z (inr (links_high r pass done stop s l b n c g.rest g.links x o))))
          (λ v. ⊎_elim (λ d. absurd (z (inl d.1))) (λ d. d.1) v)
          (a.each x h)

      module _ (v : Seen) (look : Sees r l c n v) where
        -- it leads to no cell to pass
        pub skipped : (v.label ≡ pass → ⊥) → (b' : Bool) (n' : ℕ) → b' ≡ (stop && (ltb v.label 6 && not (eqb v.label done))) → n' ≡ cond b' 6 (n + 1) → Going' l c i b' n' k
        skipped z b' n' u q = record {
          rest = g.rest;
          links = links_next r pass done stop s l b' n n' c g.rest (links_keep r pass done stop s l l b b' n c g.rest (λ _. unmet) same (λ x o. ((a.held x o).0, refl)) g.links) tried;
          been = record {
            size = a.size;
            held = a.held;
            each = a.each;
            closed = λ _. a.closed unmet;
            inner = λ _. a.inner unmet;
            met_at = met;
            counted = a.counted;
          };
          number = g.number;
          ends = λ w. omega (arith, q ∙ onward_end b' (n + 1) w);
        }
          where
            same : Fewer r pass done stop l l
            same = record { to_pass = λ _ _ e. e; to_mark = λ _ _ _ e. e }

            tried : Tried r pass done stop l b' c n'
            tried w d h t = dec_eq d n
                (λ e. subst (λ (x : ℕ). 0 < room r (way_of x) c → Bars pass done stop (at r l (beside (way_of x) c))) (sym e) (λ t'. ((λ y. z (look.label t' ∙ y)), λ so y. mark_not stop done v.label b' u w so (subst (Marked done) (sym (look.label t')) y))) t)
                (λ y. links_tried r pass done stop s l b n c g.rest g.links unmet d (omega (arith, subst (λ (x : ℕ). d < x) (q ∙ onward_at b' (n + 1) w) h)) t)

            met : b' ≡ true → (stop ≡ true) × (t : Cell) × Through r m pass s t × Exit r done m t
            met w =
                let e = mark_so stop done v.label b' u w in
                let some = seen_room r l c n v look (λ y. omega (arith, e.1.0)) in
                let y = beside (way_of n) c in
                let hy = beside_in r c (way_of n) in_c some in
                let mark = subst (Marked done) (look.label some) e.1 in
                (e.0, c, trek_through r pass done stop m l s trek_c, inr (y, hy, beside_face r c (way_of n) some, subst (Marked done) (as_was y hy (λ x. sets_no_mark x mark)) mark))

        -- it leads to a cell to pass
        module _ (hit : v.label ≡ pass) where
          pub some : 0 < room r (way_of n) c
          some = seen_room r l c n v look (λ y. omega (arith, ok.pass_low))

          abbrev e : Cell
          e = beside (way_of n) c

          he : InGrid r e
          he = beside_in r c (way_of n) in_c some

          at_e : at r l e ≡ pass
          at_e = sym (look.label some) ∙ hit

          off : On e (c ∷ g.rest) → ⊥
          unfolding On
          off o = omega (arith, ok.pass_low, at_e, links_high r pass done stop s l b n c g.rest g.links e o)

          push : (b' : Bool) (n' : ℕ) → b' ≡ cond stop (on_border r e) false → n' ≡ cond b' 6 0 → Going' (set l (num r e) (16 + n)) e (num r e) b' n' k
          unfolding On Links
          push b' n' u z =
              let l' = set l (num r e) (16 + n) in
              let few : Fewer r pass done stop l l' = fewer l (16 + n) e he a.size (inr (omega arith)) in
              let apart : (x : Cell) → On x (c ∷ g.rest) → x ≡ e → ⊥ = λ x o w. off (subst (λ (y : Cell). On y (c ∷ g.rest)) w o) in
              let new : at r l' e ≡ 16 + n = here r l (16 + n) e he a.size in
              let was : at r m e ≡ pass = sym (as_was e he (λ x. sets_no_pass x at_e)) ∙ at_e in
              let trek-e : Trek r pass m s l' e = steps (trek_keep r pass done stop l l' few m s trek_c) (beside_face r c (way_of n) some) he (was, λ w. omega (arith, ok.pass_low, w, new)) in
              record {
                rest = c ∷ g.rest;
                links = (
                  n,
                  record { label = new; low = low; some = some; by = refl; once = off; tried = λ w d h. never d (subst (λ (x : ℕ). d < x) (z ∙ onward_at b' 0 w) h) },
                  links_keep r pass done stop s l l' b b' n c g.rest (λ _. unmet) few (λ x o. ((a.held x o).0, there r l (16 + n) x e (a.held x o).0 he (apart x o))) g.links,
                );
                been = record {
                  size = length-set l (num r e) (16 + n) ∙ a.size;
                  held = λ x o. ⊎_elim (λ w. (rw w he, rw w trek-e)) (λ w. ((a.held x w).0, trek_keep r pass done stop l l' few m s (a.held x w).1)) o;
                  each = λ x h. stored r l (16 + n) x e h he a.size (λ w _. inl (inl w)) (λ y w. ⊎_elim
                      (λ o. inl (inr o))
                      (λ v. ⊎_elim (λ d. inr (inl (trek_keep r pass done stop l l' few m s d.0, w ∙ d.1))) (λ d. inr (inr (d.0, w ∙ d.1))) v)
                      (a.each x h));
                  closed = λ w x y hx hy f v d. stored r l (16 + n) x e hx he a.size
                      (λ _ j. absurd (omega (arith, ok.done_low, j, d)))
                      (λ _ j. bars_keep r pass done stop l l' few y hy (a.closed unmet x y hx hy f v (sym j ∙ d)));
                  inner = λ w so x h v y. stored r l (16 + n) x e h he a.size
                      (λ j _. rw j (exit_not stop r e he b' u w so))
                      (λ _ j. a.inner unmet so x h v (λ p. y (j ∙ p)));
                  met_at = λ w. let j = exit_so stop r e he b' u w in (j.0, e, trek_through r pass done stop m l' s trek-e, inl j.1);
                  counted = omega (arith, a.counted, count_keep done l (num r e) (16 + n) (λ j. ok.apart (sym j ∙ at_e)) (omega (arith, ok.done_low)));
                };
                number = refl;
                ends = λ w. omega (arith, z ∙ onward_end b' 0 w);
              }

          pub pushed : (d : Cell) → d ≡ e → (b' : Bool) (n' : ℕ) → b' ≡ cond stop (on_border r d) false → n' ≡ cond b' 6 0 → Going' (set l v.n (16 + n)) d v.n b' n' k
          pushed d q b' n' u z =
              subst (λ (x : ℕ). Going' (set l x (16 + n)) d x b' n' k) (sym (look.number some))
              (subst (λ (x : Cell). Going' (set l (num r e) (16 + n)) x (num r e) b' n' k) (sym q) (push b' n' (u ∙ ap (λ (x : Cell). cond stop (on_border r x) false) q) z))

          pub in_e : (d : Cell) → d ≡ e → InGrid r d
          in_e d q = subst (InGrid r) (sym q) he

          pub place_e : v.n < length l
          place_e = subst (λ (x : ℕ). x < length l) (sym (look.number some)) (bound l e he a.size)

          pub pushed_less : weight pass (set l v.n (16 + n)) + 8 ≡ weight pass l
          pushed_less = subst (λ (x : ℕ). weight pass (set l x (16 + n)) + 8 ≡ weight pass l) (sym (look.number some)) (weight_push pass l (num r e) (16 + n) (bound l e he a.size) at_e ok.pass_low (omega arith))

    -- every way was tried
    module _ (full : 6 ≤ n) where
      l' : List ℕ
      l' = set l (num r c) done

      few : Fewer r pass done stop l l'
      unfolding l'
      few = fewer l done c in_c a.size (inl refl)

      -- c is done: what holds with the list below it
      drop_top : Been' (set l (num r c) done) b g.rest (k + 1)
      unfolding On l'
      drop_top = record {
        size = length-set l (num r c) done ∙ a.size;
        held = λ x o. ((a.held x (inr o)).0, trek_keep r pass done stop l l' few m s (a.held x (inr o)).1);
        each = λ x h. stored r l done x c h in_c a.size (λ w j. inr (inl (rw w (trek_keep r pass done stop l l' few m s trek_c), j))) (λ y w. ⊎_elim
            (λ o. ⊎_elim (λ j. absurd (y j)) (λ j. inl j) o)
            (λ v. ⊎_elim (λ d. inr (inl (trek_keep r pass done stop l l' few m s d.0, w ∙ d.1))) (λ d. inr (inr (d.0, w ∙ d.1))) v)
            (a.each x h));
        closed = λ w x y hx hy f v d. stored r l done x c hx in_c a.size
            (λ j _. bars_keep r pass done stop l l' few y hy (tried_all w y hy (subst (λ (z : Cell). Face z y) j f)))
            (λ _ j. bars_keep r pass done stop l l' few y hy (a.closed w x y hx hy f v (sym j ∙ d)));
        inner = λ w so x h v y. stored r l done x c h in_c a.size
            (λ j _. a.inner w so x h v (λ p. omega (arith, ok.pass_low, p, high_c, ap (at r l) j)))
            (λ _ j. a.inner w so x h v (λ p. y (j ∙ p)));
        met_at = a.met_at;
        counted = omega (arith, a.counted, count_more done l (num r c) (bound l c in_c a.size) (λ j. omega (arith, ok.done_low, high_c)));
      }
        where
          tried_all : b ≡ false → (y : Cell) → InGrid r y → Face c y → Bars pass done stop (at r l y)
          tried_all w y hy f =
              let t = face_way r c y hy f in
              let e = way_numbered t.0 in
              subst (λ (x : Cell). Bars pass done stop (at r l x)) (ap (λ x. beside x c) e ∙ sym t.2)
              (links_tried r pass done stop s l b n c g.rest g.links w (number_of t.0) (omega (arith, numbered_low t.0)) (subst (λ x. 0 < room r x c) (sym e) t.1))

      -- the step back from c: the way by which the trip came to it, and where it goes on
      pub record Back : Type 0 where
        pub dir : ℕ
        pub label : at r l c ≡ 16 + dir
        pub low : dir < 6
        pub from : Cell
        pub some : 0 < room r (way_of dir) from
        pub by : c ≡ beside (way_of dir) from
        pub within : InGrid r from
        pub going : (n' : ℕ) → n' ≡ cond b 6 (dir + 1) → Going' (set l (num r c) done) from (num r from) b n' (k + 1)

      pop_on : (st : List Cell) → Links r pass done stop s l b n c st → Been' (set l (num r c) done) b st (k + 1) → (at r l c ≡ 22 → ⊥) → Back
      unfolding On Links l'
      pop_on [] links been z = absurd (z links.1)
      pop_on (p ∷ st) links been z =
          let d = links.0 in
          let link = links.1 in
          let below = links_keep r pass done stop s l l' b b d p st (λ w. w) few (λ x o. ((been.held x o).0, there r l done x c (been.held x o).0 in_c (λ w. link.once (subst (λ (y : Cell). On y (p ∷ st)) w o)))) links.2 in
          record {
            dir = d;
            label = link.label;
            low = link.low;
            from = p;
            some = link.some;
            by = link.by;
            within = (been.held p (inl refl)).0;
            going = λ n' u. record {
              rest = st;
              links = links_next r pass done stop s l' b d n' p st below (λ w d' h t. dec_eq d' d
                  (λ x. subst (λ (j : ℕ). Bars pass done stop (at r l' (beside (way_of j) p))) (sym x)
                  (subst (λ (j : Cell). Bars pass done stop (at r l' j)) link.by (subst (Bars pass done stop) (sym (here r l done c in_c a.size)) (sets_no_pass (inl refl), λ _ q. sets_no_mark (inl refl) q))))
                  (λ y. links_tried r pass done stop s l' b d p st below w d' (omega (arith, subst (λ (j : ℕ). d' < j) (u ∙ onward_at b (d + 1) w) h)) t));
              been = been;
              number = refl;
              ends = λ w. omega (arith, u ∙ onward_end b (d + 1) w);
            };
          }

      ended : (f : List ℕ) → Been' f b [] (k + 1) → Reaches r pass done stop m s f (record { count = k + 1; met = b })
      unfolding On
      ended f e = record {
        size = e.size ∙ sym ok.sheet.size;
        each = λ x h. ⊎_elim (λ o. absurd o) (λ v. ⊎_elim (λ d. inl (trek_through r pass done stop m f s d.0, by_done d.0, d.1)) inr v) (e.each x h);
        whole = λ w x v. all w v;
        clear = λ w so x v q. ⊎_elim
            (e.inner w so x (joined_in v) v (λ p. ok.apart (sym (all w v) ∙ p)))
            (λ y. (e.closed w x y.0 (joined_in v) y.1 y.2 v (all w v)).1 so (subst (Marked done) (sym (unmarked so y.0 y.1 y.3)) y.3))
            q;
        met_at = e.met_at;
        counted = e.counted;
      }
        where
          was_done : (x : Cell) → InGrid r x → at r m x ≡ pass → (at r f x ≡ pass → ⊥) → at r f x ≡ done
          was_done x h q z = ⊎_elim (λ o. absurd o) (λ v. ⊎_elim (λ d. d.1) (λ d. absurd (z (d.1 ∙ q))) v) (e.each x h)

          by_done : {x : Cell} → Trek r pass m s f x → Through r f done s x
          by_done t = joined_within (λ d h q. q) (λ d h p. was_done d h p.0 p.1) t

          all : b ≡ false → {x : Cell} → Through r m pass s x → at r f x ≡ done
          all w (starts {c = x} h q) = ⊎_elim (λ o. absurd o) (λ v. ⊎_elim (λ d. d.1) (λ d. absurd (d.0 q)) v) (e.each x h)
          all w (steps {c = d} {d = x} v h' h q) = was_done x h q (e.closed w d x (joined_in v) h h' v (all w v)).0

          -- a marked cell is none of those that were set
          unmarked : stop ≡ true → (y : Cell) → InGrid r y → Marked done (at r m y) → at r f y ≡ at r m y
          unmarked so y h q = ⊎_elim
              (λ o. absurd o)
              (λ v. ⊎_elim
              (λ d. absurd (⊎_elim
              (λ (j : y ≡ s). omega (arith, (ok.firm so).1, q.0, ap (at r m) j))
              (λ j. omega (arith, (ok.firm so).0, q.0, j.0))
              (joined_kind d.0)))
              (λ d. d.1)
              v)
              (e.each y h)

      over_on : (st : List Cell) → Links r pass done stop s l b n c st → Been' (set l (num r c) done) b st (k + 1) → at r l c ≡ 22 → Reaches r pass done stop m s (set l (num r c) done) (record { count = k + 1; met = b })
      unfolding Links
      over_on [] links been q = ended (set l (num r c) done) been
      over_on (p ∷ st) links been q = absurd (clash links.0 links.1.low links.1.label)
        where
          clash : (d : ℕ) → d < 6 → at r l c ≡ 16 + d → ⊥
          clash d h e = omega arith

      here_i : get_or l i 0 ≡ at r l c
      here_i = ap (λ (x : ℕ). get_or l x 0) g.number

      pub walked : get_or l i 0 ≡ 22 → Reaches r pass done stop m s (set l i done) (record { count = k + 1; met = b })
      walked q = subst (λ (x : ℕ). Reaches r pass done stop m s (set l x done) (record { count = k + 1; met = b })) (sym g.number) (over_on g.rest g.links drop_top (sym here_i ∙ q))

      pub popped_less : weight pass (set l i done) + 8 ≡ weight pass l
      popped_less = subst (λ (x : ℕ). weight pass (set l x done) + 8 ≡ weight pass l) (sym g.number) (weight_pop pass l (num r c) done (bound l c in_c a.size) high_c ok.pass_low ok.done_low ok.apart)

      module _ (other : get_or l i 0 ≡ 22 → ⊥) where
        abbrev back_to : Back
        back_to = pop_on g.rest g.links drop_top (λ e. other (here_i ∙ e))

        same_label : get_or l i 0 ≡ 16 + back_to.dir
        same_label = here_i ∙ back_to.label

        pub label_low : 16 ≤ get_or l i 0
        label_low = omega (arith, same_label)

        pub way_low : get_or l i 0 - 16 < 6
        way_low = omega (arith, same_label, back_to.low)

        same_dir : back_to.dir ≡ get_or l i 0 - 16
        same_dir = omega (arith, same_label)

        module _ (d : ℕ) (opp : way_of d ≡ counter (way_of (get_or l i 0 - 16))) where
          opposite : way_of d ≡ counter (way_of back_to.dir)
          opposite = opp ∙ ap (λ (x : ℕ). counter (way_of x)) (sym same_dir)

          leads : beside (way_of d) c ≡ back_to.from
          leads = ap (λ x. beside x c) opposite ∙ ap (beside (counter (way_of back_to.dir))) back_to.by ∙ counter_beside r back_to.from (way_of back_to.dir) back_to.some

          pub back_room : 0 < room r (way_of d) c
          back_room =
              subst (λ x. 0 < room r x c) (sym opposite)
              (subst (λ (x : Cell). 0 < room r (counter (way_of back_to.dir)) x) (sym back_to.by) (counter_room r back_to.from (way_of back_to.dir) back_to.within back_to.some))

          pub popped : (p : Cell) (j : ℕ) (n' : ℕ) → p ≡ beside (way_of d) c → j ≡ num r (beside (way_of d) c) → n' ≡ cond b 6 (get_or l i 0 - 15) → Going' (set l i done) p j b n' (k + 1)
          popped p j n' q t u =
              subst (λ (x : ℕ). Going' (set l x done) p j b n' (k + 1)) (sym g.number)
              (subst (λ (x : Cell). Going' (set l (num r c) done) x j b n' (k + 1)) (sym (q ∙ leads))
              (subst (λ (x : ℕ). Going' (set l (num r c) done) back_to.from x b n' (k + 1)) (sym (t ∙ ap (num r) leads))
              (back_to.going n' (u ∙ ap (λ (x : ℕ). cond b 6 x) next))))
            where
              next : get_or l i 0 - 15 ≡ back_to.dir + 1
              next = omega (arith, same_label)
