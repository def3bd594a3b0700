-- Laws of the cursor that text is written at, and of counting before writing.
use mathlib.Core.Path.{◌≡◌, refl, sym, ap, ◌∙◌}
use mathlib.Core.List.{List, [], ◌∷◌, ◌++◌}
use Prim.Native.Nat.{ℕ, suc, ◌+◌, ◌≤◌, ◌<◌}
use native.Mathlib.Decide.{dec_le}
use native.Mathlib.Numerals.{add-one}
use native.Mathlib.Omega.{arith}
use lib.ListN.{length, get_or, drop, set}
use lib.Seq.{sets, sets-eq}
use borrow.Author.Tests.{lt-ltb, le-ltb}
use Rattle.lists.proofs.Slices.{drop-step, drop-none}
use Rattle.print.specs.Answers.{too_short, done, answered}
use Rattle.print.specs.Inner.Cursors.{Cursor, cursor, put, write}

pub write-append : (c : Cursor) (xs ys : List ℕ) → write c (xs ++ ys) ≡ write (write c xs) ys
unfolding write
write-append c [] ys = refl
write-append c (x ∷ xs) ys = write-append (put c x) xs ys

-- one text after the other
pub then : {b c : Cursor} (a : Cursor) (xs ys : List ℕ) → b ≡ write a xs → c ≡ write b ys → c ≡ write a (xs ++ ys)
then a xs ys p q = q ∙ ap (λ (d : Cursor). write d ys) p ∙ sym (write-append a xs ys)

-- from the stop on nothing is written
pub write-stopped : (c : Cursor) (bytes : List ℕ) → c.stop ≤ c.place → write c bytes ≡ c
unfolding write
write-stopped c [] h = refl
write-stopped c (b ∷ bytes) h = rw (le-ltb c.place c.stop h) (write-stopped c bytes h)

-- a text that ends before the stop stands in the buffer, as far as it reaches
pub write-sets : (out : List ℕ) (i stop : ℕ) (bytes : List ℕ) → i + length bytes ≤ stop
    → write (cursor out i stop) bytes ≡ cursor (sets out i bytes) (i + length bytes) stop
unfolding write
write-sets out i stop [] h = let e : i + 0 ≡ i = omega arith in rw e
write-sets out i stop (b ∷ bytes) h =
    let e : i + suc (length bytes) ≡ suc i + length bytes = omega arith in
    rw (lt-ltb i stop (omega arith), add-one i, e) (write-sets (set out i b) (suc i) stop bytes (omega arith))

-- a longer one is counted up to the stop
pub write-counts : (out : List ℕ) (i stop : ℕ) (bytes : List ℕ) → i ≤ stop → stop ≤ i + length bytes → (write (cursor out i stop) bytes).place ≡ stop
unfolding write
write-counts out i stop [] h k = omega arith
write-counts out i stop (b ∷ bytes) h k = go (dec_le stop i) (λ l. write-counts (set out i b) (suc i) stop bytes l (omega arith))
  where
    go : Dec (stop ≤ i) → (suc i ≤ stop → (write (cursor (set out i b) (suc i) stop) bytes).place ≡ stop)
        → (write (put (cursor out i stop) b) bytes).place ≡ stop
    go (yes l) f = rw (le-ltb i stop l) (ap (λ (c : Cursor). c.place) (write-stopped (cursor out i stop) bytes l) ∙ omega arith)
    go (no l) f = rw (lt-ltb i stop (omega arith), add-one i) (f (omega arith))

-- ---- the answers

module _ (text lent : List ℕ) where
  pub no_room : length lent < length text → too_short lent ≡ answered text lent
  unfolding answered
  no_room h = rw (lt-ltb (length lent) (length text) h)

  pub all-stands : (left : List ℕ) (size : ℕ) → length text ≤ length lent → size ≡ length text → left ≡ sets lent 0 text → done size left ≡ answered text lent
  unfolding answered
  all-stands left size h n e =
      let z : 0 + length text ≡ length text = omega arith in
      let s : left ≡ text ++ drop (length text) lent = e ∙ sets-eq text lent 0 (omega arith) ∙ rw z in
      rw (le-ltb (length lent) (length text) h, n, s)

  -- counted first, on other bytes, up to one byte past the end of the lent output
  module _ (other : List ℕ) (count : Cursor) (counted : count ≡ write (cursor other 0 (length lent + 1)) text) where
    -- a text that has room is counted whole, another one to the end and a byte further
    has_room : count.place ≤ length lent → length text ≤ length lent
    has_room h = go (dec_le (length text) (length lent))
      where
        go : Dec (length text ≤ length lent) → length text ≤ length lent
        go (yes l) = l
        go (no l) = absurd (omega (arith, ap (λ (c : Cursor). c.place) counted, write-counts other 0 (length lent + 1) text (omega arith) (omega arith)))

    pub counted-long : length lent < count.place → too_short lent ≡ answered text lent
    counted-long h = go (dec_le (length text) (length lent))
      where
        go : Dec (length text ≤ length lent) → too_short lent ≡ answered text lent
        go (yes l) = absurd (omega (arith, ap (λ (c : Cursor). c.place) (counted ∙ write-sets other 0 (length lent + 1) text (omega arith))))
        go (no l) = no_room (omega arith)

    pub counted-written : (end : Cursor) → count.place ≤ length lent → end ≡ write (cursor lent 0 (length lent + 1)) text
        → done end.place end.buffer ≡ answered text lent
    counted-written end h e =
        let l = has_room h in
        let w = e ∙ write-sets lent 0 (length lent + 1) text (omega arith) in
        all-stands end.buffer end.place l (omega (arith, ap (λ (c : Cursor). c.place) w)) (ap (λ (c : Cursor). c.buffer) w)

-- ---- the writers' steps

module _ (out : List ℕ) (at stop byte : ℕ) where
  pub put-more : at < stop → cursor (set out at byte) (at + 1) stop ≡ write (cursor out at stop) (byte ∷ [])
  unfolding write
  put-more h = rw (lt-ltb at stop h)

pub copy_more : (c : Cursor) (text : List ℕ) (i : ℕ) → i < length text → write c (drop i text) ≡ write (write c (get_or text i 0 ∷ [])) (drop (i + 1) text)
unfolding write
copy_more c text i h = rw (drop-step text i h)

pub copy_done : (c : Cursor) (text : List ℕ) (i : ℕ) → length text ≤ i → write c (drop i text) ≡ c
unfolding write
copy_done c text i h = rw (drop-none text i h)
