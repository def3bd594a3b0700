-- Bytes put at positions.
use Prim.Native.Nat.{ℕ, ◌<◌}
use mathlib.Core.Path.{◌≡◌, refl, sym, ◌∙◌}
use mathlib.Core.Logic.{◌⊎◌, inl, inr}
use mathlib.Core.Bool.{Bool, true, false, true≢false}
use mathlib.Core.List.{List, [], ◌∷◌}
use lib.ListN.{length, get_or, set, length-set}
use lib.Seq.{get_or-set_same, get_or-set_other}
use Rattle.lists.specs.Lists.{member}
use Rattle.lists.proofs.Members.{member-cases, member-nil, not-member}
use Rattle.net.specs.Firing.{put}

pub put-out : (b k : ℕ) (m ks : List ℕ) → member k ks ≡ false → get_or (put b m ks) k 0 ≡ get_or m k 0
unfolding put
put-out b k m [] h = refl
put-out b k m (j ∷ ks) h = let (a, r) = not-member k j ks h in put-out b k (set m j b) ks r ∙ get_or-set_other m j k b 0 a

pub put_in : (b k : ℕ) (m ks : List ℕ) → k < length m → member k ks ≡ true → get_or (put b m ks) k 0 ≡ b
unfolding put
put_in b k m [] l h = member-nil k h
put_in b k m (j ∷ ks) l h = go (member k ks) refl (put_in b k (set m j b) ks (rw (length-set m j b) l))
  where
    first : (k ≡ j) ⊎ (member k ks ≡ true) → member k ks ≡ false → k ≡ j
    first (inl p) e = p
    first (inr q) e = absurd (true≢false (sym q ∙ e))

    go : (β : Bool) → member k ks ≡ β → (member k ks ≡ true → get_or (put b (set m j b) ks) k 0 ≡ b) → get_or (put b (set m j b) ks) k 0 ≡ b
    go true e ih = ih e
    go false e ih =
        let q : k ≡ j = first (member-cases k j ks h) e in
        put-out b k (set m j b) ks e ∙ rw q (get_or-set_same m j b 0 (rw q at l))
