-- The byte of each place after one byte was put at listed places, and after a firing.
use mathlib.Core.Path.{◌≡◌, refl, ◌∙◌}
use mathlib.Core.Bool.{Bool, true, false, not, ◌&&◌, ◌||◌}
use mathlib.Core.List.{List, [], ◌∷◌}
use mathlib.Core.Logic.{◌⊎◌, inl, inr}
use Prim.Native.Nat.{ℕ, ◌<◌}
use native.Mathlib.Decide.{ℕ_discrete}
use native.Mathlib.Omega.{arith}
use lib.ListN.{length, set, length-set}
use lib.Seq.{get_or-set_same, get_or-set_other}
use Rattle.lists.specs.Lists.{pick, same, member, every, some, word}
use Rattle.lists.proofs.Tests.{same_self, same-no, and_intro, and_left, and_right, or-none}
use Rattle.lists.proofs.Members.{member-here, member-there, member-cases, member-nil}
use Rattle.net.specs.Firing.{is_place_marked, is_enabled, has_contact, put, moved}
use Rattle.net.proofs.Marks.{length-put}

pub put-at : (v : ℕ) (m ps : List ℕ) (p : ℕ) → p < length m → word (put v m ps) p ≡ pick (member p ps) v (word m p)
unfolding put member
put-at v m [] p h = refl
put-at v m (q ∷ ps) p h = go (ℕ_discrete p q) (put-at v (set m q v) ps p (omega (arith, length-set m q v)))
  where
    agree : (b : Bool) → pick b v v ≡ v
    agree true = refl
    agree false = refl

    go : Dec (p ≡ q) → word (put v (set m q v) ps) p ≡ pick (member p ps) v (word (set m q v) p)
        → word (put v (set m q v) ps) p ≡ pick (same p q || member p ps) v (word m p)
    go (yes e) ih = ih ∙ rw (e, same_self q, get_or-set_same m q v 0 (rw e at h)) (agree (member q ps))
    go (no d) ih = ih ∙ rw (same-no p q d, get_or-set_other m q p v 0 d)

-- after one byte was put at some places and another at others
pub two-puts-at : (a b : ℕ) (m ins outs : List ℕ) (p : ℕ) → p < length m
    → word (put b (put a m ins) outs) p ≡ pick (member p outs) b (pick (member p ins) a (word m p))
two-puts-at a b m ins outs p h = put-at b (put a m ins) outs p (omega (arith, length-put a m ins)) ∙ rw (put-at a m ins p h)

pub two-puts-length : (a b : ℕ) (m ins outs : List ℕ) → length (put b (put a m ins) outs) ≡ length m
two-puts-length a b m ins outs = length-put b (put a m ins) outs ∙ length-put a m ins

-- what a firing leaves at a place: a token where it puts one, none where it only takes one
pub moved_at : (m ins outs : List ℕ) (p : ℕ) → p < length m → word (moved m ins outs) p ≡ pick (member p outs) 1 (pick (member p ins) 0 (word m p))
moved_at m ins outs p h = two-puts-at 0 1 m ins outs p h

pub moved_length : (m ins outs : List ℕ) → length (moved m ins outs) ≡ length m
moved_length m ins outs = two-puts-length 0 1 m ins outs

-- all inputs marked
pub enabled-at : (m ins : List ℕ) → is_enabled m ins ≡ true → (p : ℕ) → member p ins ≡ true → is_place_marked m p ≡ true
unfolding is_enabled every
enabled-at m [] e p h = member-nil p h
enabled-at m (x ∷ xs) e p h = go (member-cases p x xs h) (enabled-at m xs (and_right (is_place_marked m x) (is_enabled m xs) e) p)
  where
    go : (p ≡ x) ⊎ (member p xs ≡ true) → (member p xs ≡ true → is_place_marked m p ≡ true) → is_place_marked m p ≡ true
    go (inl q) f = rw q (and_left (is_place_marked m x) (is_enabled m xs) e)
    go (inr q) f = f q

pub at-enabled : (m ins : List ℕ) → ((p : ℕ) → member p ins ≡ true → is_place_marked m p ≡ true) → is_enabled m ins ≡ true
unfolding is_enabled every
at-enabled m [] f = refl
at-enabled m (x ∷ xs) f = and_intro (is_place_marked m x) (is_enabled m xs) (f x (member-here x xs)) (at-enabled m xs (λ p h. f p (member-there p x xs h)))

-- no contact: an output that is marked is an input
pub free-at : (m ins outs : List ℕ) → has_contact m ins outs ≡ false → (p : ℕ) → member p outs ≡ true → (is_place_marked m p && not (member p ins)) ≡ false
unfolding has_contact some
free-at m ins [] e p h = member-nil p h
free-at m ins (x ∷ xs) e p h = go (member-cases p x xs h) (or-none (is_place_marked m x && not (member x ins)) (has_contact m ins xs) e)
    (free-at m ins xs (or-none (is_place_marked m x && not (member x ins)) (has_contact m ins xs) e).1 p)
  where
    go : (p ≡ x) ⊎ (member p xs ≡ true) → ((is_place_marked m x && not (member x ins)) ≡ false) × (has_contact m ins xs ≡ false)
        → (member p xs ≡ true → (is_place_marked m p && not (member p ins)) ≡ false) → (is_place_marked m p && not (member p ins)) ≡ false
    go (inl q) s f = rw q s.0
    go (inr q) s f = f q

pub at-free : (m ins outs : List ℕ) → ((p : ℕ) → member p outs ≡ true → (is_place_marked m p && not (member p ins)) ≡ false) → has_contact m ins outs ≡ false
unfolding has_contact some
at-free m ins [] f = refl
at-free m ins (x ∷ xs) f = rw (f x (member-here x xs)) (at-free m ins xs (λ p h. f p (member-there p x xs h)))
