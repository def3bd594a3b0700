-- The receives of a table as a list, and which of them a send can meet: the others add nothing.
use Rattle.std.proofs.Common.{◌≡◌, ℕ, zero, suc, ◌+◌, ◌-◌, ◌*◌, ◌^◌, ◌<◌, ◌≤◌, Bool, true, false, not, ◌&&◌, ◌⊎◌, List, [], ◌∷◌, ◌++◌, map, length, drop, set, sym, refl, ap, ◌∙◌, subst, inl, inr, ⊎_elim, true≢false, append_assoc, append-nil, zero-mul, add-one, arith, length-append, get_or-append-add, ext_get_or, pow_pos, pow_mono, lt-ltb}
use lib.Bits.{bit_and}
use lib.Count.{count_trailing_zeros}
use lib.ListN.{get_or-append}
use lib.Seq.{sets, sets-eq}
use Rattle.lists.specs.Lists.{pick, same, word, from, range, flat, keep, member}
use Rattle.lists.proofs.Tests.{same-yes, same-no, same_true, same_false, and_both}
use Rattle.lists.proofs.Ranges.{from-snoc, from_member, flat_append}
use Rattle.lists.proofs.Members.{member-here, member-there, keep-yes, keep-no, keep_append, keep-none, keep_same, member-keep, member-get_or}
use Rattle.lists.proofs.Stores.{sets-append, word_low, word-range, long-map}
use Rattle.scheme.specs.Words.{publics, branches, branch_kind, channel, branch_name, next, is_send, is_receive}
use Rattle.scheme.specs.Index.{branch_thread_at}
use Rattle.scheme.specs.Kinds
use Rattle.scheme.specs.Owners.{branch_thread_of}
use Rattle.scheme.specs.Scheme.{absent, silent, send, receive, branch_at, scheme}
use Rattle.table.specs.Causes.{cause}
use Rattle.table.proofs.Accepted.{accepted}
use Rattle.places.specs.Sets.{bit_at, set_from}
use Rattle.places.specs.Places.{common}
use Rattle.places.specs.Plan.{reach_in, Laid}
use Rattle.places.specs.Sides.{side_in, side_at, heard_at, receive_words, receives_of, meets, partner_set, sets_at}
use Rattle.places.specs.Reaches.{common_reach, is_empty}
use Rattle.places.specs.Answers.{Sums}
use Rattle.places.specs.Inner.Plan.{today, privates_word, values, Lists, reached}
use Rattle.places.specs.Inner.Counting.{Few, add_times, over, public_count, private_count, pair_sums, partner_sums, send_sums, set_sums}
use Rattle.places.specs.declared.reach.Reach.{Reach}
use Rattle.places.proofs.Adding.{Grows, few-part, over-grows, pair-grows}
use Rattle.places.proofs.Bits.{bit-zero, bit-set, bit_below, set-small, numbers-past}
use Rattle.places.proofs.Plans.{reach-is, branch-thread-is}
use Rattle.places.proofs.Reaches.{common-lists}
use Rattle.places.proofs.NodeCounts.{partner-yes, partner-own, send-yes, send-no}
use Rattle.places.proofs.Scanning.{lowest-first, numbers-none}

-- ---- a reach without values

none-reached : (p n : ℕ) (r : Reach) (vs : List ℕ) → Lists p n r vs → is_empty r ≡ true → vs ≡ []
unfolding reached is_empty
none-reached p n r vs l h = sym l.is ∙ go (same r.publics 0) refl h
  where
    go : (b : Bool) → same r.publics 0 ≡ b → pick b (same r.restricted 0) false ≡ true
        → keep (bit_at r.publics) (range p) ++ pick (not (same r.restricted 0)) (from p n) [] ≡ []
    go true e q = rw (q, same_true r.publics 0 e, keep-none (bit_at 0) (range p) (λ x m. bit-zero x))
    go false e q = absurd (true≢false (sym q))

-- the sums with nothing added
add_none : (s : Sums) (k i o : ℕ) → k ≡ 0 → add_times s k i o ≡ s
add_none s k i o h =
    let e : s.transitions + 0 ≡ s.transitions = omega arith in
    let f : s.inputs + 0 ≡ s.inputs = omega arith in
    let g : s.outputs + 0 ≡ s.outputs = omega arith in
    rw (h, zero-mul i, zero-mul o, e, f, g)

twice-none : (s : Sums) (j a b k i o : ℕ) → j ≡ 0 → k ≡ 0 → add_times (add_times s j a b) k i o ≡ s
twice-none s j a b k i o g h = add_none (add_times s j a b) k i o h ∙ add_none s j a b g

pick_same : (t : Bool) (x y z : Sums) → x ≡ z → y ≡ z → pick t x y ≡ z
pick_same true x y z e f = e
pick_same false x y z e f = f

module _ (w x : List ℕ) (L : Laid w x) where
  none-common : (a e : ℕ) → is_empty (common_reach (reach_in x a) (reach_in x e)) ≡ true → common (scheme w) (today w) a e ≡ []
  none-common a e h =
      none-reached (publics w) (privates_word w) (common_reach (reach_in x a) (reach_in x e)) (common (scheme w) (today w) a e)
      (rw (reach-is w x L a, reach-is w x L e) (common-lists w L.accepted a e)) h

  pair-none : (b : ℕ) (s : Sums) (r : ℕ) → common (scheme w) (today w) (channel w b) (channel w r) ≡ [] → pair_sums w b s r ≡ s
  unfolding pair_sums keep
  pair-none b s r e =
      rw e
      (pick_same (same (branch_name w b) (channel w b)) _ _ s (twice-none s 0 _ _ 0 _ _ refl refl)
      (twice-none s _ _ _ _ _ _ (zero-mul (public_count w (values w (branch_name w b)))) (zero-mul (private_count w (values w (branch_name w b))))))

  -- a receive that does not hear adds nothing
  deaf-none : (b : ℕ) (s : Sums) (r : ℕ) → common (scheme w) (today w) (channel w b) (channel w r) ≡ [] → partner_sums w b s r ≡ s
  unfolding partner_sums
  deaf-none b s r h = rw (pair-none b s r h) (go (is_receive w r && not (same (branch_thread_of w r) (branch_thread_of w b))))
    where
      go : (t : Bool) → pick t s s ≡ s
      go true = refl
      go false = refl

-- ---- the receives

keep-nil : (p : ℕ → Bool) → keep p [] ≡ []
unfolding keep
keep-nil p = refl

-- steps of which some do nothing
over-kept : (step : Sums → ℕ → Sums) (p : ℕ → Bool) → ((s : Sums) (y : ℕ) → p y ≡ false → step s y ≡ s) → (s : Sums) (ys : List ℕ)
    → over step s ys ≡ over step s (keep p ys)
unfolding over keep
over-kept step p f s [] = refl
over-kept step p f s (y ∷ ys) = go (p y) refl (λ t. over-kept step p f t ys)
  where
    go : (b : Bool) → p y ≡ b → ((t : Sums) → over step t ys ≡ over step t (keep p ys)) → over step (step s y) ys ≡ over step s (keep p (y ∷ ys))
    go true e ih = rw (keep-yes p y ys e) (ih (step s y))
    go false e ih = rw (keep-no p y ys e, f s y e) (ih s)

over-same : (f g : Sums → ℕ → Sums) (ys : List ℕ) → ((s : Sums) (y : ℕ) → member y ys ≡ true → f s y ≡ g s y) → (s : Sums) → over f s ys ≡ over g s ys
unfolding over
over-same f g [] h s = refl
over-same f g (y ∷ ys) h s =
    over-same f g ys (λ t z m. h t z (member-there z y ys m)) (f s y) ∙ ap (λ (t : Sums). over g t ys) (h s y (member-here y ys))

-- the communications with the receives of a set, the lowest first
set-over : (w : List ℕ) (b : ℕ) (s : Sums) → set_sums w b s 0 ≡ s
unfolding set_sums over
set-over w b s = rw numbers-none

module _ (w : List ℕ) (b : ℕ) (s : Sums) (left : ℕ) where
  pub set-done : left ≡ 0 → set_sums w b s left ≡ s
  set-done e = rw e (set-over w b s)

  pub set_next : (left ≡ 0 → ⊥) → left < 2 ^ 64
      → set_sums w b s left ≡ set_sums w b (pair_sums w b s (word (receives_of w) (count_trailing_zeros 64 left))) (bit_and left (left - 1))
  unfolding set_sums over
  set_next d small = rw (lowest-first left d small)

set-grows : (w : List ℕ) (b : ℕ) (s : Sums) (left : ℕ) → Grows s (set_sums w b s left)
unfolding set_sums
set-grows w b s left = over-grows (pair_sums w b) (pair-grows w b) s (map (word (receives_of w)) (keep (bit_at left) (range 64)))

-- those with the lowest receive are few if all are
pub set_first : (w : List ℕ) (b : ℕ) (t s : Sums) (set left : ℕ) → (left ≡ 0 → ⊥) → left < 2 ^ 64 → set_sums w b t set ≡ set_sums w b s left
    → Few (set_sums w b t set) → Few (pair_sums w b s (word (receives_of w) (count_trailing_zeros 64 left)))
set_first w b t s set left d small e f =
    let u = pair_sums w b s (word (receives_of w) (count_trailing_zeros 64 left)) in
    few-part u (set_sums w b u (bit_and left (left - 1))) (set-grows w b u (bit_and left (left - 1))) (subst Few (e ∙ set_next w b s left d small) f)

-- the words kept of a list, by their numbers
words-listed : (xs : List ℕ) → xs ≡ map (word xs) (range (length xs))
words-listed xs = ext_get_or 0 xs (map (word xs) (range (length xs))) (sym (long-map (word xs) (length xs))) (λ i l. sym (word-range (word xs) (length xs) i l))

keep-map : (q : ℕ → Bool) (g : ℕ → ℕ) (ks : List ℕ) → keep q (map g ks) ≡ map g (keep (λ k. q (g k)) ks)
unfolding keep
keep-map q g [] = refl
keep-map q g (k ∷ ks) = go (q (g k)) (keep-map q g ks)
  where
    go : (b : Bool) → keep q (map g ks) ≡ map g (keep (λ k. q (g k)) ks)
        → pick b (g k ∷ keep q (map g ks)) (keep q (map g ks)) ≡ map g (pick b (k ∷ keep (λ k. q (g k)) ks) (keep (λ k. q (g k)) ks))
    go true e = ap (λ (xs : List ℕ). g k ∷ xs) e
    go false e = e

-- lists of which some are empty
pub flat-kept : {A : Type 0} (f : ℕ → List A) (p : ℕ → Bool) (ys : List ℕ) → ((y : ℕ) → member y ys ≡ true → p y ≡ false → f y ≡ [])
    → flat f ys ≡ flat f (keep p ys)
unfolding flat keep
flat-kept f p [] h = refl
flat-kept f p (y ∷ ys) h = go (p y) refl (flat-kept f p ys (λ z m. h z (member-there z y ys m)))
  where
    go : (b : Bool) → p y ≡ b → flat f ys ≡ flat f (keep p ys) → f y ++ flat f ys ≡ flat f (pick b (y ∷ keep p ys) (keep p ys))
    go true e ih = rw ih
    go false e ih = rw (h y (member-here y ys) e) ih

kept-words : (q p : ℕ → Bool) (xs : List ℕ) → ((k : ℕ) → k < length xs → p k ≡ q (word xs k)) → keep q xs ≡ map (word xs) (keep p (range (length xs)))
kept-words q p xs h =
    ap (keep q) (words-listed xs) ∙ keep-map q (word xs) (range (length xs))
    ∙ ap (map (word xs)) (keep_same (λ k. q (word xs k)) p (range (length xs)) (λ k m. sym (h k (omega (arith, from_member k 0 (length xs) m)))))

module _ (w : List ℕ) where
  kind-told : (b : ℕ) → b < branches w → Kinds.is_receive ((scheme w).branch b) ≡ is_receive w b
  unfolding scheme branch_at
  kind-told b l =
      rw (lt-ltb b (branches w) l) (go (same (branch_kind w b) 0) (same (branch_kind w b) 1) (same (branch_kind w b) 2) refl refl refl)
    where
      go : (x y z : Bool) → same (branch_kind w b) 0 ≡ x → same (branch_kind w b) 1 ≡ y → same (branch_kind w b) 2 ≡ z
          → Kinds.is_receive (pick x (silent (next w b)) (pick y (send (channel w b) (branch_name w b) (next w b))
          (pick z (receive (channel w b) (branch_name w b) (next w b)) absent))) ≡ z
      go true y true e f g = let h : ◌≡◌ {A = ℕ} 0 2 = sym (same_true (branch_kind w b) 0 e) ∙ same_true (branch_kind w b) 2 g in absurd (omega arith)
      go true y false e f g = refl
      go false true true e f g = let h : ◌≡◌ {A = ℕ} 1 2 = sym (same_true (branch_kind w b) 1 f) ∙ same_true (branch_kind w b) 2 g in absurd (omega arith)
      go false true false e f g = refl
      go false false true e f g = refl
      go false false false e f g = refl

  pub receives-few : cause w ≡ 0 → length (receives_of w) ≤ 32
  unfolding scheme
  receives-few h =
      let ok = accepted w h in
      omega (
        arith,
        ok.few-bounds,
        ok.few-receives,
        ap (λ (l : List ℕ). length l) (keep_same (λ b. Kinds.is_receive ((scheme w).branch b)) (is_receive w) (range (branches w))
            (λ b m. kind-told b (omega (arith, from_member b 0 (branches w) m)))),
      )

  -- one branch more is looked at
  pub keep-more : (b : ℕ) → is_receive w b ≡ true → keep (is_receive w) (range (b + 1)) ≡ keep (is_receive w) (range b) ++ (b ∷ [])
  keep-more b h =
      let z : 0 + b ≡ b = omega arith in
      rw (add-one b, from-snoc 0 b, z, keep_append (is_receive w) (range b) (b ∷ []), keep-yes (is_receive w) b [] h, keep-nil (is_receive w))

  pub list-skip : (b : ℕ) → is_receive w b ≡ false → keep (is_receive w) (range b) ≡ keep (is_receive w) (range (b + 1))
  list-skip b h =
      let z : 0 + b ≡ b = omega arith in
      rw (add-one b, from-snoc 0 b, z, keep_append (is_receive w) (range b) (b ∷ []), keep-no (is_receive w) b [] h, keep-nil (is_receive w))
      (simp append-nil)

  module _ (x : List ℕ) where
    abbrev words_of : ℕ → List ℕ
    words_of = receive_words w x

    words-length : (ys : List ℕ) → length (flat words_of ys) ≡ 8 * length ys
    unfolding flat
    words-length [] = refl
    words-length (y ∷ ys) = omega (arith, length-append (words_of y) (flat words_of ys), words-length ys)

    flat-one : (y : ℕ) → flat words_of (y ∷ []) ≡ words_of y
    unfolding flat
    flat-one y = simp append-nil

    pub list-more : (lent list : List ℕ) (b count : ℕ) → count ≡ length (keep (is_receive w) (range b))
        → list ≡ sets lent 0 (flat words_of (keep (is_receive w) (range b))) → is_receive w b ≡ true → (after : List ℕ)
        → after ≡ sets list (8 * count) (words_of b)
        → (count + 1 ≡ length (keep (is_receive w) (range (b + 1)))) × (after ≡ sets lent 0 (flat words_of (keep (is_receive w) (range (b + 1)))))
    list-more lent list b count e q h after p =
        let ys = keep (is_receive w) (range b) in
        let n : 0 + length (flat words_of ys) ≡ 8 * count = omega (arith, words-length ys) in (
          rw (keep-more b h, length-append ys (b ∷ [])) (omega (arith, e)),
          p ∙ rw (keep-more b h, flat_append words_of ys (b ∷ []), flat-one b, sets-append lent 0 (flat words_of ys) (words_of b), n, ← q),
        )

    -- word j of receive k
    entry_at : (ys rest : List ℕ) (k j : ℕ) → k < length ys → j < 8 → word (flat words_of ys ++ rest) (8 * k + j) ≡ word (words_of (word ys k)) j
    unfolding flat
    entry_at [] rest k j h l = absurd (omega arith)
    entry_at (y ∷ ys) rest zero j h l =
        let e : 8 * 0 + j ≡ j = omega arith in
        ap (λ (xs : List ℕ). word xs (8 * 0 + j)) (append_assoc (words_of y) (flat words_of ys) rest)
        ∙ rw e (get_or-append (words_of y) (flat words_of ys ++ rest) 0 j (omega arith))
    entry_at (y ∷ ys) rest (suc k) j h l =
        let e : 8 * suc k + j ≡ length (words_of y) + (8 * k + j) = omega arith in
        ap (λ (xs : List ℕ). word xs (8 * suc k + j)) (append_assoc (words_of y) (flat words_of ys) rest)
        ∙ ap (word (words_of y ++ (flat words_of ys ++ rest))) e
        ∙ get_or-append-add (words_of y) (flat words_of ys ++ rest) (8 * k + j) 0
        ∙ entry_at ys rest k j (omega arith) l

    -- the list as it is filled: the receives, and behind them other words
    module _ (h : cause w ≡ 0) (lent vs list : List ℕ) (room : sets_at ≤ length lent)
        (is : list ≡ sets (sets lent 0 (flat words_of (receives_of w))) sets_at vs) where
      at : (k j : ℕ) → k < length (receives_of w) → j < 8 → word list (8 * k + j) ≡ word (words_of (word (receives_of w) k)) j
      at k j l m =
          ap (λ (xs : List ℕ). word xs (8 * k + j)) is
          ∙ word_low (sets lent 0 (flat words_of (receives_of w))) 256 vs (8 * k + j) (omega (arith, receives-few h))
          ∙ ap (λ (xs : List ℕ). word xs (8 * k + j))
          (sets-eq (flat words_of (receives_of w)) lent 0 (omega (arith, words-length (receives_of w), receives-few h)))
          ∙ entry_at (receives_of w) (drop (0 + length (flat words_of (receives_of w))) lent) k j l m

      first : (k : ℕ) → k < length (receives_of w) → word list (8 * k) ≡ word (receives_of w) k
      first k l = let z : 8 * k ≡ 8 * k + 0 = omega arith in ap (word list) z ∙ at k 0 l (omega arith)

      pub reaches-listed : (k : ℕ) → k < length (receives_of w) → heard_at list k ≡ reach_in x (channel w (word (receives_of w) k))
      reaches-listed k l = rw (at k 2 l (omega arith), at k 3 l (omega arith))

      pub threads-listed : (k : ℕ) → k < length (receives_of w) → word list (8 * k + 1) ≡ branch_thread_at w x (word (receives_of w) k)
      threads-listed k l = at k 1 l (omega arith)

      pub sides-listed : (k : ℕ) → k < length (receives_of w) → side_at list k ≡ side_in w x (word (receives_of w) k)
      sides-listed k l =
          rw (first k l, at k 1 l (omega arith), at k 4 l (omega arith), at k 5 l (omega arith), at k 6 l (omega arith), at k 7 l (omega arith))

  -- ---- the receives that a branch can meet

  pub partners-whole : (b : ℕ) (s : Sums) → over (partner_sums w b) s (range (branches w)) ≡ over (partner_sums w b) s (receives_of w)
  unfolding partner_sums
  partners-whole b s = over-kept (partner_sums w b) (is_receive w) (λ t y e. rw e) s (range (branches w))

  pub receive-of : (y : ℕ) → member y (receives_of w) ≡ true → (branch_kind w y ≡ 2) × (y < branches w)
  receive-of y m =
      let (r, i) = and_both (is_receive w y) (member y (range (branches w))) (sym (member-keep (is_receive w) y (range (branches w))) ∙ m) in
      (same_true (branch_kind w y) 2 r, omega (arith, from_member y 0 (branches w) i))

  -- receive k of the list
  pub receives-here : (k : ℕ) → k < length (receives_of w) → branch_kind w (word (receives_of w) k) ≡ 2
  receives-here k h = (receive-of (word (receives_of w) k) (member-get_or (receives_of w) k h)).0

  pub branch-here : (k : ℕ) → k < length (receives_of w) → word (receives_of w) k < branches w
  branch-here k h = (receive-of (word (receives_of w) k) (member-get_or (receives_of w) k h)).1

  module _ (x : List ℕ) where
    -- which numbers are in the set of a send; the set of a branch that does not send is empty
    pub set-has : (b : ℕ) → is_send w b ≡ true → (k : ℕ) → k < length (receives_of w) → bit_at (partner_set w x b) k ≡ meets w x b (word (receives_of w) k)
    unfolding partner_set
    set-has b e k l = rw e (bit-set (λ k. meets w x b (word (receives_of w) k)) (length (receives_of w)) k l)

    pub set-empty : (b : ℕ) → is_send w b ≡ false → partner_set w x b ≡ 0
    unfolding partner_set
    set-empty b e = rw e

    pub set-few : (b : ℕ) → partner_set w x b < 2 ^ length (receives_of w)
    unfolding partner_set
    set-few b = go (is_send w b)
      where
        go : (t : Bool) → pick t (set_from (λ k. meets w x b (word (receives_of w) k)) (length (receives_of w))) 0 < 2 ^ length (receives_of w)
        go true = set-small (λ k. meets w x b (word (receives_of w) k)) (length (receives_of w))
        go false = pow_pos (length (receives_of w))

    pub set_word : cause w ≡ 0 → (b : ℕ) → partner_set w x b < 2 ^ 32
    set_word h b = omega (arith, set-few b, pow_mono (receives-few h))

    pub set-not : (b : ℕ) → (branch_kind w b ≡ 1 → ⊥) → 0 ≡ partner_set w x b
    set-not b d = sym (set-empty b (same-no (branch_kind w b) 1 d))

    -- a number of the set: the branch sends, the number is that of a receive, and the two can meet
    pub set-member : (b k : ℕ) → bit_at (partner_set w x b) k ≡ true
        → (is_send w b ≡ true) × (k < length (receives_of w)) × (meets w x b (word (receives_of w) k) ≡ true)
    set-member b k q = go (is_send w b) refl
      where
        inside : k < length (receives_of w)
        inside = bit_below (length (receives_of w)) (partner_set w x b) k (set-few b) q

        go : (t : Bool) → is_send w b ≡ t → (is_send w b ≡ true) × (k < length (receives_of w)) × (meets w x b (word (receives_of w) k) ≡ true)
        go true e = (e, inside, sym (set-has b e k inside) ∙ q)
        go false e = absurd (true≢false (sym q ∙ rw (set-empty b e) (bit-zero k)))

    -- the receives of the set of a send, in order
    pub set-lists : cause w ≡ 0 → (b : ℕ) → is_send w b ≡ true
        → keep (meets w x b) (receives_of w) ≡ map (word (receives_of w)) (keep (bit_at (partner_set w x b)) (range 64))
    set-lists h b e =
        kept-words (meets w x b) (bit_at (partner_set w x b)) (receives_of w) (λ k l. set-has b e k l)
        ∙ ap (map (word (receives_of w)))
        (sym (numbers-past (partner_set w x b) (length (receives_of w)) 64 (set-few b) (omega (arith, receives-few h))))

    -- the lists of the receives are those of the set, where a receive that cannot meet the send has none
    pub set-flat : {A : Type 0} (f : ℕ → List A) → cause w ≡ 0 → (b : ℕ) → is_send w b ≡ true
        → ((y : ℕ) → member y (receives_of w) ≡ true → meets w x b y ≡ false → f y ≡ [])
        → flat f (receives_of w) ≡ flat f (map (word (receives_of w)) (keep (bit_at (partner_set w x b)) (range 64)))
    set-flat f h b e none = flat-kept f (meets w x b) (receives_of w) none ∙ ap (flat f) (set-lists h b e)

  -- ---- what it means that a receive can meet a send

  module _ (x : List ℕ) (L : Laid w x) (b y : ℕ) where
    pub meets-apart : meets w x b y ≡ true → branch_thread_of w y ≡ branch_thread_of w b → ⊥
    meets-apart q = go (is_empty (common_reach (reach_in x (channel w b)) (reach_in x (channel w y)))) q
      where
        go : (t : Bool) → pick t false (not (same (branch_thread_at w x y) (branch_thread_at w x b))) ≡ true → branch_thread_of w y ≡ branch_thread_of w b → ⊥
        go true q d = true≢false (sym q)
        go false q d =
            let u : branch_thread_at w x y ≡ branch_thread_at w x b = branch-thread-is w x L y ∙ d ∙ sym (branch-thread-is w x L b) in
            true≢false (sym q ∙ rw (same-yes (branch_thread_at w x y) (branch_thread_at w x b) u))

    -- one that cannot: no channel value is common, or it is in the send's thread
    pub deaf : meets w x b y ≡ false → (common (scheme w) (today w) (channel w b) (channel w y) ≡ []) ⊎ (branch_thread_of w y ≡ branch_thread_of w b)
    deaf q = go (is_empty (common_reach (reach_in x (channel w b)) (reach_in x (channel w y)))) refl q
      where
        own-thread : (t : Bool) → same (branch_thread_at w x y) (branch_thread_at w x b) ≡ t → not t ≡ false → branch_thread_of w y ≡ branch_thread_of w b
        own-thread true g p =
            sym (branch-thread-is w x L y) ∙ same_true (branch_thread_at w x y) (branch_thread_at w x b) g ∙ branch-thread-is w x L b
        own-thread false g p = absurd (true≢false p)

        go : (t : Bool) → is_empty (common_reach (reach_in x (channel w b)) (reach_in x (channel w y))) ≡ t
            → pick t false (not (same (branch_thread_at w x y) (branch_thread_at w x b))) ≡ false
            → (common (scheme w) (today w) (channel w b) (channel w y) ≡ []) ⊎ (branch_thread_of w y ≡ branch_thread_of w b)
        go true f p = inl (none-common w x L (channel w b) (channel w y) f)
        go false f p = inr (own-thread (same (branch_thread_at w x y) (branch_thread_at w x b)) refl p)

    meets-yes : (s : Sums) → branch_kind w y ≡ 2 → meets w x b y ≡ true → partner_sums w b s y ≡ pair_sums w b s y
    meets-yes s e q = partner-yes w b s y e (meets-apart q)

    meets-no : (s : Sums) → meets w x b y ≡ false → partner_sums w b s y ≡ s
    meets-no s q = ⊎_elim (λ c. deaf-none w x L b s y c) (λ d. partner-own w b s y d) (deaf q)

  -- the communications of a branch are those with its set
  module _ (x : List ℕ) (L : Laid w x) (b : ℕ) (s : Sums) where
    pub partner-sums : is_send w b ≡ true → over (partner_sums w b) s (range (branches w)) ≡ set_sums w b s (partner_set w x b)
    unfolding set_sums
    partner-sums e =
        partners-whole b s ∙ over-kept (partner_sums w b) (meets w x b) (λ t y q. meets-no x L b y t q) s (receives_of w)
        ∙ over-same (partner_sums w b) (pair_sums w b) (keep (meets w x b) (receives_of w)) (λ t y m. step t y m) s
        ∙ ap (over (pair_sums w b) s) (set-lists x L.accepted b e)
      where
        step : (t : Sums) (y : ℕ) → member y (keep (meets w x b) (receives_of w)) ≡ true → partner_sums w b t y ≡ pair_sums w b t y
        step t y m =
            let (q, r) = and_both (meets w x b y) (member y (receives_of w)) (sym (member-keep (meets w x b) y (receives_of w)) ∙ m) in
            meets-yes x L b y t (receive-of y r).0 q

    send-sums : send_sums w s b ≡ set_sums w b s (partner_set w x b)
    send-sums = go (is_send w b) refl
      where
        go : (t : Bool) → is_send w b ≡ t → send_sums w s b ≡ set_sums w b s (partner_set w x b)
        go true e = send-yes w s b (same_true (branch_kind w b) 1 e) ∙ partner-sums e
        go false e = send-no w s b (same_false (branch_kind w b) 1 e) ∙ sym (rw (set-empty x b e) (set-over w b s))

    -- by the set that is read
    pub send-read : (set : ℕ) → set ≡ partner_set w x b → send_sums w s b ≡ set_sums w b s set
    send-read set e = send-sums ∙ ap (set_sums w b s) (sym e)

-- eight words stored one after the other
pub eight-stored : (l l1 l2 l3 l4 l5 l6 l7 l8 : List ℕ) (at a b c d e f g h : ℕ) → l1 ≡ set l at a → l2 ≡ set l1 (at + 1) b → l3 ≡ set l2 (at + 2) c
    → l4 ≡ set l3 (at + 3) d → l5 ≡ set l4 (at + 4) e → l6 ≡ set l5 (at + 5) f → l7 ≡ set l6 (at + 6) g → l8 ≡ set l7 (at + 7) h
    → l8 ≡ sets l at (a ∷ b ∷ c ∷ d ∷ e ∷ f ∷ g ∷ h ∷ [])
eight-stored l l1 l2 l3 l4 l5 l6 l7 l8 at a b c d e f g h p1 p2 p3 p4 p5 p6 p7 p8 =
    let q1 : at + 1 ≡ suc at = omega arith in
    let q2 : at + 2 ≡ suc (suc at) = omega arith in
    let q3 : at + 3 ≡ suc (suc (suc at)) = omega arith in
    let q4 : at + 4 ≡ suc (suc (suc (suc at))) = omega arith in
    let q5 : at + 5 ≡ suc (suc (suc (suc (suc at)))) = omega arith in
    let q6 : at + 6 ≡ suc (suc (suc (suc (suc (suc at))))) = omega arith in
    let q7 : at + 7 ≡ suc (suc (suc (suc (suc (suc (suc at)))))) = omega arith in
    rw (p8, p7, p6, p5, p4, p3, p2, p1, q1, q2, q3, q4, q5, q6, q7)
