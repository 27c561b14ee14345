-- The two calls: their second promise, that a map which is the fill of its own surface cells stays one. Assumes nothing.
use Rattle.std.specs.Prelude.{Ok, Err}
use mathlib.Core.Bool.{true, false}
use mathlib.Core.Path.{◌≡◌, refl, sym, subst}
use mathlib.Core.List.{List}
use Prim.Native.Nat.{ℕ}
use Rattle.grid.specs.declared.Axes.{Axes}
use Rattle.grid.specs.Answers.{Outcome, Ends, Checked}
use Rattle.grid.specs.Flood.{Flooded}
use Rattle.grid.specs.Grid.{at}
use Rattle.edits.specs.Edits.{Edit, opening, closing, edit_fault, Edited}
use Rattle.edits.specs.History.{Call}
use Rattle.edits.proofs.Faults.{edit_sound, is_surface_lem, no_surface}
use Rattle.edits.proofs.Fresh.{fresh_open, fresh_close}

-- an edit that is not refused
pub edited_flooded : (r : Axes) (e : Edit) (l : List ℕ) (n : ℕ) (m : List ℕ) → edit_fault r l e ≡ Ok tt → Edited r l e n m → Flooded r l l → Flooded r m m
edited_flooded r (opening c) l n m h k fl =
    let s = edit_sound r l c true h in
    fresh_open r l fl c s.within m s.sheet.size ((is_surface_lem (at r l c)).0 s.kind) k.each
edited_flooded r (closing c) l n m h k fl =
    let s = edit_sound r l c false h in
    fresh_close r l fl c s.within m s.sheet.size ((no_surface (at r l c)).0 s.kind) k.each

-- refused or not
pub call_flooded : (r : Axes) (e : Edit) (l : List ℕ) (o : Outcome ℕ) (m : List ℕ) → Call r e l o m → Flooded r l l → Flooded r m m
call_flooded r e l o m k fl = of (edit_fault r l e) o refl k
  where
    of : (f : Checked) (o : Outcome ℕ) → f ≡ edit_fault r l e → Ends f l (Edited r l e) o m → Flooded r m m
    of (Err f) o q k = subst (λ (x : List ℕ). Flooded r x x) (sym k.1) fl
    of (Ok u) (Ok n) q k = edited_flooded r e l n m (sym q) k fl
    of (Ok u) (Err g) q k = absurd k
