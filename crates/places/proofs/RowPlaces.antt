-- The count of row places, by the reaches of names.
use Rattle.std.proofs.Common.{◌≡◌, ℕ, ◌+◌, ◌*◌, ◌≤◌, Bool, true, false, length, sym, refl, ◌∙◌, true≢false, arith}
use Rattle.lists.specs.Lists.{pick, from}
use Rattle.lists.proofs.Ranges.{from_member}
use Rattle.scheme.specs.Scheme.{Scheme}
use Rattle.table.specs.Accepted.{Accepted}
use Rattle.places.specs.Reach.{values_for, has_private_values}
use Rattle.places.specs.Rows.{row_length}
use Rattle.places.specs.RowPlaces.{row_places_of, CountOfRows}
use Rattle.places.proofs.Rows.{rows-length, free-start, control-first}
use Rattle.places.proofs.ReachRows.{public_list_of, row-size, restricted-alone, restricted-yes}
use Rattle.places.proofs.Totals.{total-same}

module _ (S : Scheme) (A : Accepted S) where
  row-places : (x : ℕ) → S.publics ≤ x → row_length S (values_for S) x ≡ row_places_of S x
  row-places x h = row-size S x h ∙ go (S.restricted x) refl (has_private_values S x) refl
    where
      go : (b : Bool) → S.restricted x ≡ b → (c : Bool) → has_private_values S x ≡ c
          → length (public_list_of S x) + pick c (values_for S).privates 0 + pick b 0 (pick c (values_for S).privates 0)
          ≡ pick b (values_for S).privates (length (public_list_of S x) + pick c (2 * (values_for S).privates) 0)
      go true r true e = rw (restricted-alone S A x r) (omega arith)
      go true r false e = absurd (true≢false (sym (restricted-yes S A x r) ∙ e))
      go false r true e = omega arith
      go false r false e = omega arith

  pub count-of-rows : CountOfRows S
  count-of-rows =
      omega (
        arith,
        rows-length S (values_for S),
        control-first S (values_for S),
        free-start S (values_for S),
        total-same (row_length S (values_for S)) (row_places_of S) (from S.publics S.bounds)
            (λ x m. row-places x (from_member x S.publics S.bounds m).0),
      )
