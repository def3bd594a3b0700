-- A firing's places told from the others by their bytes: what is touched, what is missing, and the marking put back.
use Rattle.std.proofs.Common.{◌≡◌, ℕ, ◌%◌, ◌<◌, ◌≤◌, Bool, true, false, not, ◌&&◌, ◌||◌, leb, List, [], ◌∷◌, ◌++◌, length, sym, refl, ap, ◌∙◌, arith, ext_get_or}
use borrow.Author.Tests.{lt-leb}
use Rattle.lists.specs.Lists.{pick, same, word, some, member, ascends}
use Rattle.lists.proofs.Tests.{or_assoc, and-true, and-false, or-true, same-yes, same-no, same_self, same_true}
use Rattle.lists.proofs.Members.{member-append, member-here, member-there, keep_same}
use Rattle.lists.proofs.Positions.{ascends-member}
use Rattle.net.specs.Image.{inputs_at, outputs_at}
use Rattle.net.specs.Firing.{is_place_marked, is_enabled, has_contact, put, moved}
use Rattle.net.proofs.Puts.{put-at, two-puts-at, two-puts-length, moved_at, moved_length, enabled-at}
use Rattle.summary.specs.Summary.{unmarked, shares}
use Rattle.summary.specs.Inner.Marks.{missing_in, is_touched, is_any_marked, is_worked_afresh, painted}
use Rattle.summary.proofs.Entries.{odd-marked}

-- ---- tests that agree on a list's elements

some_same : (p q : ℕ → Bool) (xs : List ℕ) → ((x : ℕ) → member x xs ≡ true → p x ≡ q x) → some p xs ≡ some q xs
unfolding some
some_same p q [] h = refl
some_same p q (x ∷ xs) h = rw (h x (member-here x xs), some_same p q xs (λ y k. h y (member-there y x xs k)))

-- two lists, one behind the other
pub some-append : (p : ℕ → Bool) (xs ys : List ℕ) → some p (xs ++ ys) ≡ (some p xs || some p ys)
unfolding some
some-append p [] ys = refl
some-append p (x ∷ xs) ys = rw (some-append p xs ys) (sym (or_assoc (p x) (some p xs) (some p ys)))

-- ---- at one place: o and i, whether it is an output and an input, and x its byte

high-tells : (o i : Bool) (x : ℕ) → x ≤ 1 → leb 2 (pick o 3 (pick i 2 x)) ≡ (i || o)
high-tells true i x h = sym (or-true i)
high-tells false true x h = refl
high-tells false false x h = lt-leb 2 x (omega arith)

odd-tells : (o i : Bool) (x : ℕ) → x ≤ 1 → same (pick o 3 (pick i 2 x) % 2) 1 ≡ same (pick o 1 (pick i 0 x)) 1
odd-tells true i x h = same-yes (3 % 2) 1 (omega arith) ∙ sym (same_self 1)
odd-tells false true x h = same-no (2 % 2) 1 (λ k. omega arith) ∙ sym (same-no 0 1 (λ k. omega arith))
odd-tells false false x h = odd-marked x h

back-tells : (o i : Bool) (x : ℕ) → pick o 1 (pick i 0 (pick o 3 (pick i 2 x))) ≡ pick o 1 (pick i 0 x)
back-tells true i x = refl
back-tells false true x = refl
back-tells false false x = refl

only-tells : (i : Bool) (x : ℕ) → same (pick i 2 x) 1 ≡ (same x 1 && not i)
only-tells true x = same-no 2 1 (λ k. omega arith) ∙ sym (and-false (same x 1))
only-tells false x = sym (and-true (same x 1))

again-tells : (i : Bool) (x : ℕ) → (i ≡ true → x ≡ 1) → pick i 1 (pick i 2 x) ≡ x
again-tells true x h = sym (h refl)
again-tells false x h = refl

-- ---- over markings

module _ (m I O : List ℕ) where
  -- the firing's places put as the firing leaves them
  pub put_back : moved (painted m I O) I O ≡ moved m I O
  put_back =
      let k = moved_length (painted m I O) I O ∙ two-puts-length 2 3 m I O in
      ext_get_or 0 (moved (painted m I O) I O) (moved m I O) (k ∙ sym (moved_length m I O)) (λ p h.
      moved_at (painted m I O) I O p (omega (arith, two-puts-length 2 3 m I O)) ∙ rw (two-puts-at 2 3 m I O p (omega arith))
      (back-tells (member p O) (member p I) (word m p)) ∙ sym (moved_at m I O p (omega arith)))

  -- the inputs' tokens put back
  pub put-again : is_enabled m I ≡ true → put 1 (put 2 m I) I ≡ m
  put-again on =
      let k = two-puts-length 2 1 m I I in
      ext_get_or 0 (put 1 (put 2 m I) I) m k (λ p h.
      two-puts-at 2 1 m I I p (omega arith) ∙ again-tells (member p I) (word m p) (λ e. same_true (word m p) 1 (enabled-at m I on p e)))

  module _ (xs : List ℕ) (n : ℕ) (e : length m ≡ n) (up : ascends n 0 xs ≡ true) where
    inside : (p : ℕ) → member p xs ≡ true → p < length m
    inside p k = omega (arith, ascends-member n 0 p xs up k)

    -- a place that has a token and is no input
    pub marked-is : is_any_marked (put 2 m I) xs ≡ has_contact m I xs
    unfolding is_any_marked has_contact
    marked-is =
        some_same (is_place_marked (put 2 m I)) (λ place. is_place_marked m place && not (member place I)) xs (λ p k.
        rw (put-at 2 m I p (inside p k)) (only-tells (member p I) (word m p)))

    module _ (low : (p : ℕ) → word m p ≤ 1) where
      pub touched-is : is_touched (painted m I O) xs ≡ some (λ place. member place (I ++ O)) xs
      unfolding is_touched
      touched-is =
          some_same (λ place. leb 2 (word (painted m I O) place)) (λ place. member place (I ++ O)) xs (λ p k.
          rw (two-puts-at 2 3 m I O p (inside p k)) (high-tells (member p O) (member p I) (word m p) (low p) ∙ sym (member-append p I O)))

      pub missing-is : missing_in (painted m I O) xs ≡ unmarked (moved m I O) xs
      unfolding missing_in unmarked
      missing-is =
          ap length (keep_same (λ place. not (same (word (painted m I O) place % 2) 1)) (λ place. not (is_place_marked (moved m I O) place)) xs (λ p k.
          rw (two-puts-at 2 3 m I O p (inside p k), moved_at m I O p (inside p k))
          (ap not (odd-tells (member p O) (member p I) (word m p) (low p)))))

-- bytes put at listed places
pub two-puts-are : (a b : ℕ) (m xs ys I O x y : List ℕ) → x ≡ put a m xs → y ≡ put b x ys → xs ≡ I → ys ≡ O → y ≡ put b (put a m I) O
two-puts-are a b m xs ys I O x y p q i o = rw (q, p, i, o) refl

-- a transition that is touched shares a place
pub touched-shares : (w m : List ℕ) (t u : ℕ) → ((p : ℕ) → word m p ≤ 1) → (n : ℕ) → length m ≡ n → ascends n 0 (inputs_at w u) ≡ true
    → ascends n 0 (outputs_at w u) ≡ true
    → is_worked_afresh w (painted m (inputs_at w t) (outputs_at w t)) false u ≡ shares w t u
unfolding is_worked_afresh shares
touched-shares w m t u low n e a b =
    rw (
      touched-is m (inputs_at w t) (outputs_at w t) (inputs_at w u) n e a low,
      touched-is m (inputs_at w t) (outputs_at w t) (outputs_at w u) n e b low,
    )
    (sym (some-append (λ place. member place (inputs_at w t ++ outputs_at w t)) (inputs_at w u) (outputs_at w u)))
