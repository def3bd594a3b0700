-- An index that is the table's: its parts are the table's words, and they tell what the table's owners, homes, definitions and binders are.
use mathlib.Core.Path.{◌≡◌, sym, ap, ◌∙◌}
use mathlib.Core.Bool.{Bool}
use mathlib.Core.List.{List, [], ◌++◌, map, append_assoc, append-nil}
use Prim.Native.Nat.{ℕ, ◌≤◌, ◌<◌}
use native.Mathlib.Decide.{dec_lt}
use native.Mathlib.Omega.{arith}
use lib.ListN.{length, take, drop, length-take, get_or-eq_default}
use lib.Seq.{slice, take-take, take_at, drop_at}
use borrow.Author.Tests.{lt-ltb, le-ltb, le-leb}
use Rattle.lists.specs.Lists.{word, range}
use Rattle.lists.proofs.Slices.{slice-between}
use Rattle.lists.proofs.Stores.{word-range}
use Rattle.scheme.specs.Words.{nodes, branches, definitions}
use Rattle.scheme.specs.Owners.{owner, home, definition, held}
use Rattle.scheme.specs.Scheme.{binder_of}
use Rattle.scheme.specs.Index.{owner_number, binder_number, owners_in, homes_in, definitions_in, binders_in}
use Rattle.scheme.specs.Index.{owner_words, home_words, definition_words, binder_words, body_words, index_words}
use Rattle.scheme.specs.Index.{HasBodies, IsIndex, FilledBodies, Filled, held_at}
use Rattle.scheme.proofs.Indexed.{held-indexed, definition-indexed}
use Rattle.scheme.proofs.Parts.{node_word, owners-long, homes-long, definitions-long, binders-long, front_long, bodies-long, index-long}

-- what `fill` leaves where there is room
pub filled-index : (w lent : List ℕ) (r : Bool) (after : List ℕ) → Filled w lent r after → 832 ≤ length lent → IsIndex w after
filled-index w lent r after F h =
    record { front = rw (F.words, le-leb 832 (length lent) h) (take_at (index_words w) (drop 832 lent) 832 (index-long w)) }

pub filled-bodies : (w lent : List ℕ) (r : Bool) (after : List ℕ) → FilledBodies w lent r after → 768 ≤ length lent → HasBodies w after
filled-bodies w lent r after F h =
    record { front = rw (F.words, le-leb 768 (length lent) h) (take_at (body_words w) (drop 768 lent) 768 (bodies-long w)) }

-- ---- up to the binders

module _ (w x : List ℕ) (I : HasBodies w x) where
  part_of : (a e : ℕ) → e ≤ 768 → slice a e x ≡ slice a e (body_words w)
  part_of a e h = ap (drop a) (sym (take-take e 768 x h) ∙ ap (take e) I.front)

  owners-are : owners_in x ≡ owner_words w
  unfolding owners_in body_words
  owners-are =
      part_of 0 256 (omega arith) ∙
      rw (append_assoc (owner_words w) (home_words w) (definition_words w)) (take_at (owner_words w) (home_words w ++ definition_words w) 256 (owners-long w))

  homes-are : homes_in x ≡ home_words w
  unfolding homes_in body_words
  homes-are =
      part_of 256 512 (omega arith) ∙
      rw (append_assoc (owner_words w) (home_words w) (definition_words w))
      (slice-between (owner_words w) (home_words w) (definition_words w) 256 512 (owners-long w) (omega (arith, homes-long w)))

  definitions-are : definitions_in x ≡ definition_words w
  unfolding definitions_in body_words
  definitions-are =
      part_of 512 768 (omega arith) ∙
      ap (slice 512 768) (ap (λ (l : List ℕ). owner_words w ++ home_words w ++ l) (sym (append-nil (definition_words w)))) ∙
      slice-between (owner_words w ++ home_words w) (definition_words w) [] 512 768 (front_long w) (omega (arith, definitions-long w))

  -- every node and branch that there is a word for
  pub owner-told : (n : ℕ) → n < 256 → word (owners_in x) n ≡ owner_number (owner w n)
  unfolding owner_words
  owner-told n h = rw owners-are (word-range (λ k. owner_number (owner w k)) 256 n h)

  pub home-told : (b : ℕ) → b < 256 → word (homes_in x) b ≡ home w b
  unfolding home_words
  home-told b h = rw homes-are (word-range (home w) 256 b h)

  pub past-homes : (b : ℕ) → 256 ≤ b → word (homes_in x) b ≡ 0
  past-homes b h = rw homes-are (get_or-eq_default (home_words w) 0 (omega (arith, homes-long w)))

  pub past-nodes : (n : ℕ) → nodes w ≤ n → word (definitions_in x) n ≡ 0
  unfolding definition_words
  past-nodes n h = rw definitions-are (go (dec_lt n 256))
    where
      go : Dec (n < 256) → word (definition_words w) n ≡ 0
      go (yes l) = word-range (node_word w) 256 n l ∙ rw (le-ltb n (nodes w) h)
      go (no d) = get_or-eq_default (definition_words w) 0 (omega (arith, definitions-long w))

  module _ (few-nodes : nodes w ≤ 256) (few-branches : branches w ≤ 256) (few-definitions : definitions w ≤ 65536) (n : ℕ) (h : n < nodes w) where
    long-owners : owner_words w ≡ map (λ k. owner_number (owner w k)) (range (length (owner_words w)))
    unfolding owner_words
    long-owners = rw (owners-long w)

    long-homes : home_words w ≡ map (home w) (range (length (home_words w)))
    unfolding home_words
    long-homes = rw (homes-long w)

    pub definition-told : word (definitions_in x) n ≡ definition w n
    unfolding definition_words
    definition-told =
        rw definitions-are
        (word-range (node_word w) 256 n (omega arith) ∙ rw (lt-ltb n (nodes w) h)
        (definition-indexed w (owner_words w) (home_words w) n long-owners long-homes
        (omega (arith, owners-long w)) (omega (arith, homes-long w)) few-definitions (omega arith)))

    pub held-told : held_at w x n ≡ held w n
    held-told =
        rw (owners-are, homes-are)
        (held-indexed w (owner_words w) (home_words w) n long-owners long-homes
        (omega (arith, owners-long w)) (omega (arith, homes-long w)) few-definitions (omega arith))

-- ---- the whole

module _ (w x : List ℕ) (I : IsIndex w x) where
  pub index-room : 832 ≤ length x
  index-room = omega (arith, length-take 832 x, ap length I.front, index-long w)

  pub has-bodies : HasBodies w x
  unfolding index_words
  has-bodies = record {
    front = sym (take-take 768 832 x (omega arith)) ∙ ap (take 768) I.front ∙ take_at (body_words w) (binder_words w) 768 (bodies-long w);
  }

  binders-are : binders_in x ≡ binder_words w
  unfolding binders_in index_words
  binders-are = ap (drop 768) I.front ∙ drop_at (body_words w) (binder_words w) 768 (bodies-long w)

  pub binder-told : (y : ℕ) → y < 64 → word (binders_in x) y ≡ binder_number (binder_of w y)
  unfolding binder_words
  binder-told y h = rw binders-are (word-range (λ z. binder_number (binder_of w z)) 64 y h)

  pub past-binders : (y : ℕ) → 64 ≤ y → word (binders_in x) y ≡ 0
  past-binders y h = rw binders-are (get_or-eq_default (binder_words w) 0 (omega (arith, binders-long w)))
