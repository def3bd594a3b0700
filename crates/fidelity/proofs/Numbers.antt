-- One firing on bytes and numbers: inputs and outputs are positions in the list of places, so what holds of places holds of numbers.
use Prim.Native.Nat.{ℕ, ◌<◌}
use mathlib.Core.Path.{◌≡◌, refl, sym, ◌∙◌}
use mathlib.Core.Bool.{Bool, true, false, not, ◌&&◌, true≢false, false≢true}
use mathlib.Core.List.{List}
use native.Mathlib.Omega.{arith}
use lib.ListN.{length, get_or, replicate, length-map, length-replicate, get_or-replicate}
use lib.Seq.{ext_get_or}
use Rattle.std.proofs.lemmas.List.{get_or-map}
use Rattle.lists.specs.Lists as Lists
use Rattle.lists.specs.Lists.{bit, same, member, positions, every}
use Rattle.lists.proofs.Tests.{not-true-false, and_left, and_right, and-true, and-false, same_true, same-yes}
use Rattle.lists.proofs.Ranges.{every-member, member-every}
use Rattle.lists.proofs.Positions.{member-position, position-below}
use Rattle.scheme.specs.Scheme.{Scheme}
use Rattle.table.specs.Accepted.{Accepted}
use Rattle.net.specs.Firing.{is_place_marked, is_enabled, has_contact, put, moved}
use Rattle.net.proofs.Marks.{length-put}
use Rattle.places.specs.Values.{Values}
use Rattle.places.specs.Places.{Place, free, places, is_initial}
use Rattle.places.specs.Transitions.{Description, is_input, is_output}
use Rattle.readback.specs.Configurations.{Configuration}
use Rattle.readback.proofs.Elements.{Element, element-at, element-position, some-element, element-member}
use Rattle.fidelity.specs.Inner.Marks.{fired, after, mark, Fits, Exists, Enabled, Safe, WellFormed, Shaped}
use Rattle.fidelity.specs.Inner.Standing.{marking_of}
use Rattle.fidelity.specs.Inner.Starting.{start_configuration}
use Rattle.fidelity.proofs.Firing.{fires}
use Rattle.fidelity.proofs.Positions.{put_in, put-out}
use Rattle.fidelity.proofs.Places.{listed-exists, exists-listed}
use Rattle.fidelity.proofs.Starting.{initial-marks}

bit-one : (b : Bool) → bit b ≡ 1 → b ≡ true
bit-one true h = refl
bit-one false h = absurd (omega arith)

not-true : (b : Bool) → not b ≡ true → b ≡ false
not-true true h = absurd (false≢true h)
not-true false h = refl

module _ (S : Scheme) (U : Values) (A : Accepted S) where
  abbrev ps : List Place
  ps = places S U

  -- the place of a number
  abbrev place_found_at : ℕ → Place
  place_found_at k = get_or ps k (free 0)

  place-exists : (k : ℕ) → k < length ps → Exists S U (place_found_at k)
  place-exists k l = listed-exists S U A (element-at (free 0) ps k l)

  pub marking-length : (c : Configuration) → length (marking_of S U c) ≡ length ps
  unfolding marking_of
  marking-length c = length-map ps (λ p. bit (mark S c p))

  byte_at : (c : Configuration) (k : ℕ) → k < length ps → get_or (marking_of S U c) k 0 ≡ bit (mark S c (place_found_at k))
  unfolding marking_of
  byte_at c k l = get_or-map (λ p. bit (mark S c p)) ps k (free 0) 0 l

  marked-at : (c : Configuration) (k : ℕ) → k < length ps → is_place_marked (marking_of S U c) k ≡ true → mark S c (place_found_at k) ≡ true
  marked-at c k l h = bit-one (mark S c (place_found_at k)) (sym (byte_at c k l) ∙ same_true (get_or (marking_of S U c) k 0) 1 h)

  at-marked : (c : Configuration) (k : ℕ) → k < length ps → mark S c (place_found_at k) ≡ true → is_place_marked (marking_of S U c) k ≡ true
  at-marked c k l h = same-yes (get_or (marking_of S U c) k 0) 1 (byte_at c k l ∙ rw h)

  module _ (t : Description) (c : Configuration) where
    abbrev ins : List ℕ
    ins = positions (is_input S t) ps

    abbrev outs : List ℕ
    outs = positions (is_output S t) ps

    pub numbers-enabled : is_enabled (marking_of S U c) ins ≡ true → Enabled S U t (mark S c)
    unfolding is_enabled
    numbers-enabled h p e i = go (element-position (free 0) ps (exists-listed S U A e))
      where
        go : (k : ℕ) × (k < length ps) × (place_found_at k ≡ p) → mark S c p ≡ true
        go (k, l, q) = rw q at (marked-at c k l (every-member (is_place_marked (marking_of S U c)) ins h k (member-position (is_input S t) (free 0) ps k l ∙ rw q i)))

    pub enabled-numbers : Enabled S U t (mark S c) → is_enabled (marking_of S U c) ins ≡ true
    unfolding is_enabled
    enabled-numbers h = member-every (is_place_marked (marking_of S U c)) ins marked
      where
        marked : (k : ℕ) → member k ins ≡ true → is_place_marked (marking_of S U c) k ≡ true
        marked k m =
            let l : k < length ps = position-below (is_input S t) ps k m in
            at-marked c k l (h (place_found_at k) (place-exists k l) (sym (member-position (is_input S t) (free 0) ps k l) ∙ m))

    -- no output number is marked that is no input
    pub safe-numbers : Safe S U t (mark S c) → has_contact (marking_of S U c) ins outs ≡ false
    unfolding has_contact
    safe-numbers h = not-true-false (Lists.some touches outs) (λ e. contact (some-element touches outs e))
      where
        touches : ℕ → Bool
        touches k = is_place_marked (marking_of S U c) k && not (member k ins)

        contact : (k : ℕ) × Element k outs × (touches k ≡ true) → ⊥
        contact (k, i, q) =
            let m : member k outs ≡ true = element-member outs i in
            let l : k < length ps = position-below (is_output S t) ps k m in
            let a : mark S c (place_found_at k) ≡ true = marked-at c k l (and_left (is_place_marked (marking_of S U c) k) (not (member k ins)) q) in
            let b : member k ins ≡ false = not-true (member k ins) (and_right (is_place_marked (marking_of S U c) k) (not (member k ins)) q) in
            true≢false (sym a ∙ h (place_found_at k) (place-exists k l) (sym (member-position (is_output S t) (free 0) ps k l) ∙ m)
            (sym (member-position (is_input S t) (free 0) ps k l) ∙ b))

    -- the bytes after a firing
    moved_at : (k : ℕ) (i o μ : Bool) → k < length ps → member k ins ≡ i → member k outs ≡ o → get_or (marking_of S U c) k 0 ≡ bit μ
        → get_or (moved (marking_of S U c) ins outs) k 0 ≡ bit (fired i o μ)
    moved_at k i true μ l a b d = put_in 1 k (put 0 (marking_of S U c) ins) outs (rw (length-put 0 (marking_of S U c) ins, marking-length c) l) b
    moved_at k true false μ l a b d =
        put-out 1 k (put 0 (marking_of S U c) ins) outs b ∙ put_in 0 k (marking_of S U c) ins (rw (marking-length c) l) a ∙ rw (and-false μ)
    moved_at k false false μ l a b d = put-out 1 k (put 0 (marking_of S U c) ins) outs b ∙ put-out 0 k (marking_of S U c) ins a ∙ d ∙ rw (and-true μ)

    moved_length : length (moved (marking_of S U c) ins outs) ≡ length ps
    moved_length = length-put 1 (put 0 (marking_of S U c) ins) outs ∙ length-put 0 (marking_of S U c) ins ∙ marking-length c

    pub moved-numbers : WellFormed S U c → Shaped S U t → Fits S t c → moved (marking_of S U c) ins outs ≡ marking_of S U (after S t c)
    moved-numbers W g f = ext_get_or 0 (moved (marking_of S U c) ins outs) (marking_of S U (after S t c)) (moved_length ∙ sym (marking-length (after S t c))) at
      where
        at : (k : ℕ) → k < length (moved (marking_of S U c) ins outs) → get_or (moved (marking_of S U c) ins outs) k 0 ≡ get_or (marking_of S U (after S t c)) k 0
        at k h =
            let l : k < length ps = rw moved_length at h in
            moved_at k (is_input S t (place_found_at k)) (is_output S t (place_found_at k)) (mark S c (place_found_at k)) l (member-position (is_input S t) (free 0) ps k l)
            (member-position (is_output S t) (free 0) ps k l) (byte_at c k l)
            ∙ rw (fires S U c t f W g (place_found_at k) (place-exists k l)) (sym (byte_at (after S t c) k l))

  -- ---- the initial marking

  pub initial-numbers : put 1 (replicate (length ps) 0) (positions (is_initial S U) ps) ≡ marking_of S U (start_configuration S)
  initial-numbers = ext_get_or 0 m (marking_of S U (start_configuration S)) (size ∙ sym (marking-length (start_configuration S))) at
    where
      m : List ℕ
      m = put 1 (replicate (length ps) 0) (positions (is_initial S U) ps)

      size : length m ≡ length ps
      size = length-put 1 (replicate (length ps) 0) (positions (is_initial S U) ps) ∙ length-replicate {A = ℕ} (length ps) 0

      byte : (k : ℕ) (b : Bool) → k < length ps → member k (positions (is_initial S U) ps) ≡ b → get_or m k 0 ≡ bit b
      byte k true l e = put_in 1 k (replicate (length ps) 0) (positions (is_initial S U) ps) (rw (length-replicate {A = ℕ} (length ps) 0) l) e
      byte k false l e = put-out 1 k (replicate (length ps) 0) (positions (is_initial S U) ps) e ∙ get_or-replicate (length ps) k 0 0 l

      at : (k : ℕ) → k < length m → get_or m k 0 ≡ get_or (marking_of S U (start_configuration S)) k 0
      at k h =
          let l : k < length ps = rw size at h in
          byte k (is_initial S U (place_found_at k)) l (member-position (is_initial S U) (free 0) ps k l)
          ∙ rw (initial-marks S U A (place_found_at k) (place-exists k l)) (sym (byte_at (start_configuration S) k l))
