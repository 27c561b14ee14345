-- What the exported functions share: the relations of fill and edits told of a flat answer, and where a part of a list lies. Assumes nothing.
use Rattle.std.specs.Prelude.{Ok, Err}
use mathlib.Core.Bool.{Bool, true, false, cond}
use mathlib.Core.Path.{◌≡◌, refl, sym, ap, subst}
use mathlib.Core.List.{List, [], ◌∷◌}
use Prim.Native.Nat.{ℕ, ◌-◌, ◌≤◌}
use lib.ListN.{take, drop}
use Rattle.grid.specs.declared.Axes.{Axes}
use Rattle.grid.specs.declared.Refusal.{Refusal}
use Rattle.grid.specs.Answers.{fault_if, Outcome, Ends}
use Rattle.fill.specs.declared.Mode.{Mode}
use Rattle.fill.specs.declared.FillCounts.{FillCounts}
use Rattle.fill.specs.Modes as fills
use Rattle.fill.proofs.Laws.{fill_numbers}
use Rattle.grid.specs.Flood.{Flooded}
use Rattle.edits.specs.Edits.{Edit}
use Rattle.edits.specs.History.{Call}
use Rattle.edits.proofs.Laws.{edit_numbers}
use Rattle.grid.proofs.Checks.{no_fault, passed}
use Rattle.list_record.specs.Record.{bad_range, range_fault, list_slice}
use Rattle.list_record.proofs.Records.{slice_length, slice_good, slice_bad}
use Rattle.capi_flat.specs.declared.Slice.{Slice}
use Rattle.capi_flat.proofs.Laws.{tells}
use Rattle.capi_flat.specs.Flat.{Flat, flat_of, Tells}
use Rattle.capi_flat.specs.Structs.{no_fill, slice_at}
use Rattle.grid.specs.declared.Reason.TheVariants.{BadRange}

-- ---- the relations of fill and edits

-- a fill's, where r is what the call was given for s
pub fill_tells : (mode : Mode) (r s : Axes) (l m : List ℕ) (o : Outcome FillCounts) (f : Flat FillCounts) → r ≡ s → f ≡ flat_of no_fill o
    → Ends (fills.fill_fault r l) l (fills.Fills mode r l) o m → Ends (fills.fill_fault r l) l (fills.Means mode r l) o m
    → Tells no_fill (λ x. Ends (fills.fill_fault s l) l (fills.Fills mode s l) x m) f × Tells no_fill (λ x. Ends (fills.fill_fault s l) l (fills.Means mode s l) x m) f
fill_tells mode r s l m o f e p u v =
    let ns : List ℕ = 8 ∷ 9 ∷ 11 ∷ [] in
    let g = fill_numbers mode r l m o u in (
      tells no_fill ns _ f o refl g p (subst (λ (x : Axes). Ends (fills.fill_fault x l) l (fills.Fills mode x l) o m) e u),
      tells no_fill ns _ f o refl g p (subst (λ (x : Axes). Ends (fills.fill_fault x l) l (fills.Means mode x l) o m) e v),
    )

-- an edit's, likewise
pub edit_tells : (r s : Axes) (d e : Edit) (l m : List ℕ) (o : Outcome ℕ) (f : Flat ℕ) → r ≡ s → d ≡ e → f ≡ flat_of 0 o
    → Call r d l o m → (Flooded r l l → Flooded r m m)
    → Tells 0 (λ x. Call s e l x m) f × (Flooded s l l → Flooded s m m)
edit_tells r s d e l m o f h k p u v = (
  tells 0 (8 ∷ 9 ∷ 11 ∷ 12 ∷ 13 ∷ []) _ f o refl (edit_numbers r d l m o u) p (subst (λ (x : Edit). Call s x l o m) k (subst (λ (x : Axes). Call x d l o m) h u)),
  subst (λ (x : Axes). Flooded x l l → Flooded x m m) h v,
)

-- ---- where a part lies

module _ (list : List ℕ) (start end : ℕ) where
  -- where a range lies, by whether it is bad
  abbrev by : Bool → Slice
  by bad = cond bad (record { start = 0; length = 0 }) (record { start = start; length = end - start })

  pub slice_there : range_fault list start end ≡ Ok tt → start ≤ end
  slice_there h = (slice_length list start end h).0

  pub slice_found : range_fault list start end ≡ Ok tt → (record { start = start; length = end - start } ≡ slice_at list start end) × (take (end - start) (drop start list) ≡ list_slice list start end)
  slice_found h =
      let w = slice_length list start end h in
      (ap by (sym (passed (bad_range list start end) BadRange 0 (Ok tt) h).0), sym (slice_good list start end w.0 w.1))

  pub slice_missing : (f : Refusal) → range_fault list start end ≡ Err f → (record { start = 0; length = 0 } ≡ slice_at list start end) × (take 0 (drop 0 list) ≡ list_slice list start end)
  slice_missing f h = let b = bad (bad_range list start end) h in (ap by (sym b), sym (slice_bad list start end b))
    where
      bad : (b : Bool) → fault_if b BadRange 0 (Ok tt) ≡ Err f → b ≡ true
      bad true e = refl
      bad false e = absurd (no_fault f (sym e))
