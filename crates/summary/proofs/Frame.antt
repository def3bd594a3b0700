-- The frame: a firing changes the tests of no transition that shares no place with it.
use Rattle.std.proofs.Common.{◌≡◌, ℕ, ◌<◌, Bool, true, false, not, ◌⊎◌, List, [], ◌∷◌, ◌++◌, length, sym, ap, ◌∙◌, inl, inr, arith}
use native.Mathlib.Decide.{dec_lt}
use lib.ListN.{get_or-eq_default}
use Rattle.lists.specs.Lists.{same, word, some, member}
use Rattle.lists.proofs.Tests.{or-none}
use Rattle.lists.proofs.Ranges.{every-same}
use Rattle.lists.proofs.Members.{member-left, keep_same, append-not-member, member-cases, member-nil}
use Rattle.net.specs.Image.{inputs_at, outputs_at}
use Rattle.net.specs.Firing.{is_place_marked, is_enabled, moved}
use Rattle.net.proofs.Puts.{moved_at, moved_length}
use Rattle.summary.specs.Summary.{unmarked, shares}

-- a place that is no arc keeps its byte
stays : (m ins outs : List ℕ) (p : ℕ) → member p (ins ++ outs) ≡ false → word (moved m ins outs) p ≡ word m p
stays m ins outs p h = go (dec_lt p (length m)) (append-not-member p ins outs h)
  where
    go : Dec (p < length m) → (member p ins ≡ false) × (member p outs ≡ false) → word (moved m ins outs) p ≡ word m p
    go (yes l) a = moved_at m ins outs p l ∙ rw (a.1, a.0)
    go (no l) a =
        get_or-eq_default (moved m ins outs) 0 (omega (arith, moved_length m ins outs)) ∙ sym (get_or-eq_default m 0 (omega arith))

none-some : (p : ℕ → Bool) (xs : List ℕ) → some p xs ≡ false → (x : ℕ) → member x xs ≡ true → p x ≡ false
unfolding some
none-some p [] h x m = member-nil x m
none-some p (y ∷ ys) h x m = go (member-cases x y ys m) (or-none (p y) (some p ys) h) (λ q. none-some p ys (or-none (p y) (some p ys) h).1 x q)
  where
    go : (x ≡ y) ⊎ (member x ys ≡ true) → (p y ≡ false) × (some p ys ≡ false) → (member x ys ≡ true → p x ≡ false) → p x ≡ false
    go (inl e) a f = rw e a.0
    go (inr q) a f = f q

module _ (w m : List ℕ) (t u : ℕ) (h : shares w t u ≡ false) where
  abbrev next : List ℕ
  next = moved m (inputs_at w t) (outputs_at w t)

  same-mark : (p : ℕ) → member p (inputs_at w u) ≡ true → is_place_marked m p ≡ is_place_marked next p
  unfolding shares
  same-mark p k =
      ap (λ (v : ℕ). same v 1) (sym (stays m (inputs_at w t) (outputs_at w t) p
      (none-some (λ place. member place (inputs_at w t ++ outputs_at w t)) (inputs_at w u ++ outputs_at w u) h p (member-left p (inputs_at w u)
      (outputs_at w u) k))))

  -- enabled as before, and as many unmarked inputs as before
  pub frame-enabled : is_enabled m (inputs_at w u) ≡ is_enabled next (inputs_at w u)
  unfolding is_enabled
  frame-enabled = every-same (is_place_marked m) (is_place_marked next) (inputs_at w u) same-mark

  pub frame-unmarked : unmarked m (inputs_at w u) ≡ unmarked next (inputs_at w u)
  unfolding unmarked
  frame-unmarked =
      ap length (keep_same (λ p. not (is_place_marked m p)) (λ p. not (is_place_marked next p)) (inputs_at w u) (λ p k. ap not (same-mark p k)))
