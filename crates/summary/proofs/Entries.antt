-- Summaries worked out transition by transition, made whole, and compared.
use Rattle.std.proofs.Common.{◌≡◌, ℕ, zero, suc, ◌+◌, ◌-◌, ◌*◌, ◌%◌, ◌^◌, ◌<◌, ◌≤◌, Bool, true, false, not, ◌&&◌, ltb, leb, List, [], ◌∷◌, map, length, set, replicate, sym, refl, ap, ◌∙◌, arith, length-set, get_or-set_other, get_or-set_same, le-ltb, lt-ltb, leb-true}
use mathlib.Core.Bool.{beq}
use native.Mathlib.Decide.{ℕ_discrete, dec_lt}
use Rattle.std.specs.List.{filter}
use Rattle.std.specs.Prelude.{cond}
use Rattle.lists.specs.Lists.{pick, same, word, range, from, every, keep}
use Rattle.lists.proofs.Tests.{false-true, and_intro, and_left, and_right, and_both, and-false, both_ways, same-no}
use Rattle.lists.proofs.Tests.{same_self, same_true}
use Rattle.lists.proofs.Ranges.{every-below, below-every, every-at, every-all}
use Rattle.lists.proofs.Members.{keep_same}
use Rattle.lists.proofs.Stores.{word-range, long-map}
use Rattle.net.specs.Image.{transition_count, inputs_at}
use Rattle.net.specs.Firing.{is_marking, is_place_marked, is_enabled}
use Rattle.summary.specs.Sets.{is_in_set, words_of, with_bit_set}
use Rattle.summary.specs.Summary.{Summary, summary, alike, same_summary, unmarked, is_on, summary_of, worked_out, set_length}
use Rattle.summary.specs.Inner.Marks.{missing_in, is_worked_afresh, put_entry, refreshed, is_entry_right}
use Rattle.summary.proofs.Tested.{map-range-same, list-is, words-length, is-in, words_same, words_are, none_in}

-- ---- counts

-- the bytes of a marking are 0 and 1
pub byte_low : (m : List ℕ) → every (λ byte. leb byte 1) m ≡ true → (p : ℕ) → word m p ≤ 1
unfolding every
byte_low [] h p = omega arith
byte_low (x ∷ xs) h zero = leb-true x 1 (and_left (leb x 1) (every (λ byte. leb byte 1) xs) h)
byte_low (x ∷ xs) h (suc p) = byte_low xs (and_right (leb x 1) (every (λ byte. leb byte 1) xs) h) p

pub marking-low : (n : ℕ) (m : List ℕ) → is_marking n m ≡ true → (p : ℕ) → word m p ≤ 1
unfolding is_marking
marking-low n m h = byte_low m (and_right (same (length m) n) (every (λ byte. leb byte 1) m) h)

-- so a token is told by an odd byte
pub odd-marked : (x : ℕ) → x ≤ 1 → same (x % 2) 1 ≡ same x 1
odd-marked x h = let e : x % 2 ≡ x = omega arith in rw e

pub missing-unmarked : (m xs : List ℕ) → ((p : ℕ) → word m p ≤ 1) → missing_in m xs ≡ unmarked m xs
unfolding missing_in unmarked
missing-unmarked m xs low =
    ap length (keep_same (λ p. not (same (word m p % 2) 1)) (λ p. not (is_place_marked m p)) xs (λ p k. ap not (odd-marked (word m p) (low p))))

pub keep_filter : (p : ℕ → Bool) (xs : List ℕ) → keep p xs ≡ filter p xs
unfolding keep
keep_filter p [] = refl
keep_filter p (x ∷ xs) = rw (keep_filter p xs) (go (p x))
  where
    go : (b : Bool) → pick b (x ∷ filter p xs) (filter p xs) ≡ cond b (x ∷ filter p xs) (filter p xs)
    go true = refl
    go false = refl

-- enabled is: no input unmarked
pub none-unmarked : (m xs : List ℕ) → same (unmarked m xs) 0 ≡ is_enabled m xs
unfolding unmarked is_enabled keep every
none-unmarked m [] = same_self 0
none-unmarked m (x ∷ xs) = go (is_place_marked m x) (none-unmarked m xs)
  where
    go : (b : Bool) → same (unmarked m xs) 0 ≡ is_enabled m xs
        → same (length (pick (not b) (x ∷ keep (λ place. not (is_place_marked m place)) xs) (keep (λ place. not (is_place_marked m place)) xs))) 0
        ≡ (b && every (is_place_marked m) xs)
    go true ih = ih
    go false ih = same-no (suc (length (keep (λ place. not (is_place_marked m place)) xs))) 0 (λ e. omega arith)

pub enabled-by : (m xs : List ℕ) → ((p : ℕ) → word m p ≤ 1) → (r : ℕ) → r ≡ missing_in m xs → is_enabled m xs ≡ same r 0
enabled-by m xs low r e = sym (none-unmarked m xs) ∙ ap (λ (n : ℕ). same n 0) (sym (e ∙ missing-unmarked m xs low))

-- ---- transition by transition

module _ (t : ℕ) (test : ℕ → Bool) (count : ℕ → ℕ) (s : Summary) where
  -- those below i that the test names
  abbrev pub up_to : ℕ → ℕ → Bool
  up_to i u = ltb u i && test u

  counted : ℕ → ℕ → ℕ
  counted i u = pick (up_to i u) (count u) (word s.counts u)

  is_set : ℕ → ℕ → Bool
  is_set i u = pick (ltb u t && up_to i u) (same (count u) 0) (is_in_set s.enabled u)

  pub refresh-start : length s.counts ≡ t → ((j : ℕ) → word s.enabled j < 2 ^ 64) → s ≡ refreshed t (up_to 0) count s
  unfolding refreshed counted is_set
  refresh-start l small =
      rw (
        ← list-is s.counts (counted 0) t l (λ u h. none u (count u) (word s.counts u)),
        ← words_are (is_set 0) s.enabled small (λ u h. off u),
      ) refl
    where
      none : (u a b : ℕ) → b ≡ pick (ltb u 0 && test u) a b
      none u a b = rw (le-ltb u 0 (omega arith)) refl

      off : (u : ℕ) → pick (ltb u t && (ltb u 0 && test u)) (same (count u) 0) (is_in_set s.enabled u) ≡ is_in_set s.enabled u
      off u = rw (le-ltb u 0 (omega arith), and-false (ltb u t)) refl

  same-below : (i u : ℕ) → (u ≡ i → ⊥) → ltb u i ≡ ltb u (i + 1)
  same-below i u d = go (dec_lt u i)
    where
      go : Dec (u < i) → ltb u i ≡ ltb u (i + 1)
      go (yes l) = rw (lt-ltb u i l, lt-ltb u (i + 1) (omega arith)) refl
      go (no l) = rw (le-ltb u i (omega arith), le-ltb u (i + 1) (omega arith)) refl

  refresh-skip : (i : ℕ) → test i ≡ false → refreshed t (up_to i) count s ≡ refreshed t (up_to (i + 1)) count s
  unfolding refreshed
  refresh-skip i h =
      rw (
        map-range-same (λ u. pick (up_to i u) (count u) (word s.counts u)) (λ u. pick (up_to (i + 1) u) (count u) (word s.counts u)) t
            (λ u l. ap (λ (b : Bool). pick b (count u) (word s.counts u)) (alike_at u (ℕ_discrete u i))),
        words_same (λ u. pick (ltb u t && up_to i u) (same (count u) 0) (is_in_set s.enabled u))
            (λ u. pick (ltb u t && up_to (i + 1) u) (same (count u) 0) (is_in_set s.enabled u)) (length s.enabled)
            (λ u l. ap (λ (b : Bool). pick (ltb u t && b) (same (count u) 0) (is_in_set s.enabled u)) (alike_at u (ℕ_discrete u i))),
      ) refl
    where
      alike_at : (u : ℕ) → Dec (u ≡ i) → up_to i u ≡ up_to (i + 1) u
      alike_at u (yes e) = rw (e, h) (and-false (ltb i i) ∙ sym (and-false (ltb i (i + 1))))
      alike_at u (no d) = rw (same-below i u d) refl

  refresh-more : (i : ℕ) → i < t → t ≤ 64 * length s.enabled → test i ≡ true
      → put_entry i (count i) (refreshed t (up_to i) count s) ≡ refreshed t (up_to (i + 1)) count s
  unfolding refreshed with_bit_set
  refresh-more i l b h =
      rw (counts, words-length (λ u. pick (ltb u t && up_to i u) (same (count u) 0) (is_in_set s.enabled u)) (length s.enabled), sets) refl
    where
      counts : set (map (λ u. pick (up_to i u) (count u) (word s.counts u)) (range t)) i (count i)
          ≡ map (λ u. pick (up_to (i + 1) u) (count u) (word s.counts u)) (range t)
      counts =
          let f : ℕ → ℕ = λ u. pick (up_to i u) (count u) (word s.counts u) in
          list-is (set (map (λ u. pick (up_to i u) (count u) (word s.counts u)) (range t)) i (count i))
          (λ u. pick (up_to (i + 1) u) (count u) (word s.counts u)) t
          (length-set (map (λ u. pick (up_to i u) (count u) (word s.counts u)) (range t)) i (count i)
          ∙ long-map (λ u. pick (up_to i u) (count u) (word s.counts u)) t) (λ u k. at u k (ℕ_discrete u i))
        where
          at : (u : ℕ) → u < t → Dec (u ≡ i) → word (set (map (λ u. pick (up_to i u) (count u) (word s.counts u)) (range t)) i (count i)) u
              ≡ pick (up_to (i + 1) u) (count u) (word s.counts u)
          at u k (yes e) =
              rw (
                e,
                get_or-set_same (map (λ u. pick (up_to i u) (count u) (word s.counts u)) (range t)) i (count i) 0
                    (omega (arith, long-map (λ u. pick (up_to i u) (count u) (word s.counts u)) t)),
                lt-ltb i (i + 1) (omega arith),
                h,
              ) refl
          at u k (no d) =
              get_or-set_other (map (λ u. pick (up_to i u) (count u) (word s.counts u)) (range t)) i u (count i) 0 d
              ∙ word-range (λ u. pick (up_to i u) (count u) (word s.counts u)) t u k ∙ rw (same-below i u d) refl

      sets : words_of (λ j. pick (same j i) (same (count i) 0)
          (is_in_set (words_of (λ u. pick (ltb u t && up_to i u) (same (count u) 0) (is_in_set s.enabled u)) (length s.enabled)) j)) (length s.enabled)
          ≡ words_of (λ u. pick (ltb u t && up_to (i + 1) u) (same (count u) 0) (is_in_set s.enabled u)) (length s.enabled)
      sets = words_same _ _ (length s.enabled) (λ k d. at k d (ℕ_discrete k i))
        where
          at : (k : ℕ) → k < 64 * length s.enabled → Dec (k ≡ i) → pick (same k i) (same (count i) 0)
              (is_in_set (words_of (λ u. pick (ltb u t && up_to i u) (same (count u) 0) (is_in_set s.enabled u)) (length s.enabled)) k)
              ≡ pick (ltb k t && up_to (i + 1) k) (same (count k) 0) (is_in_set s.enabled k)
          at k d (yes e) = rw (e, same_self i, lt-ltb i t l, lt-ltb i (i + 1) (omega arith), h) refl
          at k d (no e) =
              rw (
                same-no k i e,
                is-in (λ u. pick (ltb u t && up_to i u) (same (count u) 0) (is_in_set s.enabled u)) (length
                    s.enabled) k d,
                same-below i k e,
              ) refl

  -- one turn
  pub refresh-turn : (i : ℕ) → i < t → t ≤ 64 * length s.enabled → (x : Summary) → x ≡ refreshed t (up_to i) count s
      → pick (test i) (put_entry i (count i) x) x ≡ refreshed t (up_to (i + 1)) count s
  refresh-turn i l b x e = go (test i) refl
    where
      go : (β : Bool) → test i ≡ β → pick β (put_entry i (count i) x) x ≡ refreshed t (up_to (i + 1)) count s
      go true h = ap (put_entry i (count i)) e ∙ refresh-more i l b h
      go false h = e ∙ refresh-skip i h

  pub refresh-done : (i : ℕ) → t ≤ i → refreshed t (up_to i) count s ≡ refreshed t test count s
  unfolding refreshed
  refresh-done i h =
      rw (
        map-range-same (λ u. pick (up_to i u) (count u) (word s.counts u)) (λ u. pick (test u) (count u) (word s.counts u)) t
            (λ u l. rw (lt-ltb u i (omega arith)) refl),
        words_same (λ u. pick (ltb u t && up_to i u) (same (count u) 0) (is_in_set s.enabled u))
            (λ u. pick (ltb u t && test u) (same (count u) 0) (is_in_set s.enabled u)) (length s.enabled) (λ u l. at u (dec_lt u t)),
      ) refl
    where
      at : (u : ℕ) → Dec (u < t)
          → pick (ltb u t && up_to i u) (same (count u) 0) (is_in_set s.enabled u) ≡ pick (ltb u t && test u) (same (count u) 0) (is_in_set s.enabled u)
      at u (yes l) = rw (lt-ltb u i (omega arith)) refl
      at u (no l) = rw (le-ltb u t (omega arith)) refl

-- it keeps both lengths
pub refreshed-lengths : (t : ℕ) (test : ℕ → Bool) (count : ℕ → ℕ) (s r : Summary) → length s.counts ≡ t → r ≡ refreshed t test count s
    → (length r.counts ≡ length s.counts) × (length r.enabled ≡ length s.enabled)
unfolding refreshed
refreshed-lengths t test count s r l e = (
  ap (λ (x : Summary). length x.counts) e ∙ long-map (λ u. pick (test u) (count u) (word s.counts u)) t ∙ sym l,
  ap (λ (x : Summary). length x.enabled) e
      ∙ words-length (λ u. pick (ltb u t && test u) (same (count u) 0) (is_in_set s.enabled u)) (length s.enabled),
)

-- ---- by a marking

-- the transitions that a test names, by a count that is the marking's
pub worked-out : (w m : List ℕ) (s : Summary) (test other : ℕ → Bool) (count : ℕ → ℕ) → length s.enabled ≡ set_length w
    → ((u : ℕ) → u < transition_count w → test u ≡ other u) → ((u : ℕ) → u < transition_count w → count u ≡ unmarked m (inputs_at w u))
    → refreshed (transition_count w) test count s ≡ worked_out w other m s
unfolding refreshed worked_out
worked-out w m s test other count l same_test same_count =
    rw (
      ← l,
      map-range-same (λ u. pick (test u) (count u) (word s.counts u))
          (λ u. pick (other u) (unmarked m (inputs_at w u)) (word s.counts u)) (transition_count w)
          (λ u k. rw (same_test u k, same_count u k) refl),
      words_same (λ u. pick (ltb u (transition_count w) && test u) (same (count u) 0) (is_in_set s.enabled u))
          (λ u. pick (ltb u (transition_count w) && other u) (is_enabled m (inputs_at w u)) (is_in_set s.enabled u)) (length s.enabled)
          (λ u k. at u (dec_lt u (transition_count w))),
    ) refl
  where
    at : (u : ℕ) → Dec (u < transition_count w) → pick (ltb u (transition_count w) && test u) (same (count u) 0) (is_in_set s.enabled u)
        ≡ pick (ltb u (transition_count w) && other u) (is_enabled m (inputs_at w u)) (is_in_set s.enabled u)
    at u (yes k) = rw (lt-ltb u (transition_count w) k, same_test u k, same_count u k, none-unmarked m (inputs_at w u)) refl
    at u (no k) = rw (le-ltb u (transition_count w) (omega arith)) refl

-- all of them, from an empty set
pub made-whole : (w m counts : List ℕ) (n : ℕ) → n ≡ set_length w → worked_out w (λ u. true) m (summary counts (replicate n 0)) ≡ summary_of w m
unfolding worked_out summary_of
made-whole w m counts n l = rw (words_same _ (is_on w m) (set_length w) (λ u k. at u (dec_lt u (transition_count w)))) refl
  where
    at : (u : ℕ) → Dec (u < transition_count w)
        → pick (ltb u (transition_count w) && true) (is_enabled m (inputs_at w u)) (is_in_set (replicate n 0) u) ≡ is_on w m u
    at u (yes k) = rw (lt-ltb u (transition_count w) k) refl
    at u (no k) = rw (le-ltb u (transition_count w) (omega arith)) (none_in n u)

pub all-afresh : (w m : List ℕ) (u : ℕ) → is_worked_afresh w m true u ≡ true
unfolding is_worked_afresh
all-afresh w m u = refl

-- ---- compared

alike_self : (xs : List ℕ) → alike xs xs ≡ true
unfolding alike
alike_self [] = refl
alike_self (x ∷ xs) = and_intro (same x x) (alike xs xs) (same_self x) (alike_self xs)

pub alike-true : (xs ys : List ℕ) → alike xs ys ≡ true → xs ≡ ys
unfolding alike
alike-true [] [] h = refl
alike-true [] (y ∷ ys) h = false-true refl h
alike-true (x ∷ xs) [] h = false-true refl h
alike-true (x ∷ xs) (y ∷ ys) h =
    let e = and_both (same x y) (alike xs ys) h in
    rw (same_true x y e.0, alike-true xs ys e.1) refl

entry-self : (n : ℕ) → is_entry_right n n (same n 0) ≡ true
entry-self n = rw (same_self n) (go (same n 0))
  where
    go : (b : Bool) → pick b b (not b) ≡ true
    go true = refl
    go false = refl

entry-bit : (n c : ℕ) (b : Bool) → is_entry_right n c b ≡ true → b ≡ same n 0
entry-bit n c b h = go b (same n 0) (and_right (same c n) (pick b (same n 0) (not (same n 0))) h)
  where
    go : (b z : Bool) → pick b z (not z) ≡ true → b ≡ z
    go true true k = refl
    go true false k = sym k
    go false false k = refl
    go false true k = k

-- a transition's count and bit are the marking's
abbrev pub right : List ℕ → List ℕ → List ℕ → List ℕ → ℕ → Bool
right w m counts enabled u = is_entry_right (missing_in m (inputs_at w u)) (word counts u) (is_in_set enabled u)

-- an entry by its count and its bit as they were read, and one whose count is another
beq-tells : (o b : Bool) → beq o b ≡ pick o b (not b)
beq-tells true true = refl
beq-tells true false = refl
beq-tells false true = refl
beq-tells false false = refl

pub entry_told : (missing count r : ℕ) (on o : Bool) → r ≡ missing → count ≡ r → o ≡ on → beq o (same r 0) ≡ is_entry_right missing count on
entry_told missing count r on o p q e = rw (e, q, p, same_self missing) (beq-tells on (same missing 0))

pub entry-off : (missing count r : ℕ) (on : Bool) → r ≡ missing → (count ≡ r → ⊥) → same count r ≡ is_entry_right missing count on
entry-off missing count r on p d = let e = same-no count r d in e ∙ sym (rw (← p, e) refl)

-- no bit past the last transition's is set
abbrev pub spare : List ℕ → List ℕ → Bool
spare w enabled = every (λ k. not (is_in_set enabled k)) (from (transition_count w) (64 * length enabled - transition_count w))

-- a summary whose counts, bits and spare bits are the marking's
module _ (w m counts enabled : List ℕ) (low : (p : ℕ) → word m p ≤ 1) (lc : length counts ≡ transition_count w) (le : length enabled ≡ set_length w)
    (small : (j : ℕ) → word enabled j < 2 ^ 64) where
  abbrev rights : ℕ → Bool
  rights = right w m counts enabled

  abbrev spares : Bool
  spares = spare w enabled

  missing-is : (u : ℕ) → missing_in m (inputs_at w u) ≡ unmarked m (inputs_at w u)
  missing-is u = missing-unmarked m (inputs_at w u) low

  forth : same_summary (summary counts enabled) (summary_of w m) ≡ true → (every rights (range (transition_count w)) && spares) ≡ true
  unfolding same_summary summary_of
  forth h =
      let a = and_both (alike counts (map (λ t. unmarked m (inputs_at w t)) (range (transition_count w)))) (alike enabled (words_of (is_on w m)
      (set_length w))) h in
      let c : counts ≡ map (λ t. unmarked m (inputs_at w t)) (range (transition_count w)) = alike-true _ _ a.0 in
      let e : enabled ≡ words_of (is_on w m) (set_length w) = alike-true _ _ a.1 in
      and_intro (every rights (range (transition_count w))) spares
      (below-every rights (transition_count w) (λ u k. at c e u k))
      (every-all (λ k. not (is_in_set enabled k)) (transition_count w) (64 * length enabled - transition_count w) (λ k a b. off e k a (omega arith)))
    where
      at : counts ≡ map (λ t. unmarked m (inputs_at w t)) (range (transition_count w)) → enabled ≡ words_of (is_on w m) (set_length w) → (u : ℕ)
          → u < transition_count w
          → rights u ≡ true
      at c e u k =
          let x : word counts u ≡ unmarked m (inputs_at w u)
          = ap (λ (l : List ℕ). word l u) c ∙ word-range (λ t. unmarked m (inputs_at w t)) (transition_count w) u k in
          let y : is_in_set enabled u ≡ same (unmarked m (inputs_at w u)) 0
          = ap (λ (l : List ℕ). is_in_set l u) e ∙ is-in (is_on w m) (set_length w) u (omega arith)
          ∙ rw (lt-ltb u (transition_count w) k) (sym (none-unmarked m (inputs_at w u))) in
          rw (missing-is u, x, y) (entry-self (unmarked m (inputs_at w u)))

      off : enabled ≡ words_of (is_on w m) (set_length w) → (k : ℕ) → transition_count w ≤ k → k < 64 * length enabled → not (is_in_set enabled k) ≡ true
      off e k a b =
          let z : is_in_set enabled k ≡ false
          = ap (λ (l : List ℕ). is_in_set l k) e ∙ is-in (is_on w m) (set_length w) k (omega arith) ∙ rw (le-ltb k (transition_count w) a) refl in
          ap not z

  back : (every rights (range (transition_count w)) && spares) ≡ true → same_summary (summary counts enabled) (summary_of w m) ≡ true
  unfolding same_summary summary_of
  back h =
      let a = and_both (every rights (range (transition_count w))) spares h in
      let c : counts ≡ map (λ t. unmarked m (inputs_at w t)) (range (transition_count w))
      = list-is counts (λ t. unmarked m (inputs_at w t)) (transition_count w) lc
      (λ u k. same_true (word counts u) (missing_in m (inputs_at w u)) (and_left _ _ (every-below rights (transition_count w) a.0 u k)) ∙ missing-is u) in
      let e : enabled ≡ words_of (is_on w m) (length enabled)
      = words_are (is_on w m) enabled small (λ k b. bit k a.0 a.1 b (dec_lt k (transition_count w))) in
      and_intro (alike counts (map (λ t. unmarked m (inputs_at w t)) (range (transition_count w)))) (alike enabled (words_of (is_on w m) (set_length w)))
      (ap (alike counts) (sym c) ∙ alike_self counts) (ap (alike enabled) (sym (e ∙ ap (words_of (is_on w m)) le)) ∙ alike_self enabled)
    where
      bit : (k : ℕ) → every rights (range (transition_count w)) ≡ true → spares ≡ true → k < 64 * length enabled → Dec (k < transition_count w)
          → is_on w m k ≡ is_in_set enabled k
      bit k r o b (yes l) =
          rw (lt-ltb k (transition_count w) l)
          (sym (entry-bit (missing_in m (inputs_at w k)) (word counts k) (is_in_set enabled k) (every-below rights (transition_count w) r k l)
          ∙ ap (λ (n : ℕ). same n 0) (missing-is k) ∙ none-unmarked m (inputs_at w k)))
      bit k r o b (no l) =
          rw (le-ltb k (transition_count w) (omega arith))
          (sym (off (is_in_set enabled k)
          (every-at (λ k. not (is_in_set enabled k)) (transition_count w) (64 * length enabled - transition_count w) o k (omega arith) (omega arith))))
        where
          off : (b : Bool) → not b ≡ true → b ≡ false
          off true h = false-true refl h
          off false h = refl

  pub compared : same_summary (summary counts enabled) (summary_of w m) ≡ (every rights (range (transition_count w)) && spares)
  compared = both_ways (same_summary (summary counts enabled) (summary_of w m)) (every rights (range (transition_count w)) && spares) forth back
