-- N as the code finds it: what a node holds at most, what a thread holds at most, and the sum.
use Rattle.std.proofs.Common.{◌≡◌, ℕ, zero, suc, ◌+◌, ◌-◌, ◌<◌, ◌≤◌, Bool, true, false, not, ◌||◌, ltb, List, [], ◌∷◌, map, length, take, drop, set, sym, refl, ap, ◌∙◌, arith, length-append, length-drop, length-set, get_or-set_other, get_or-set_same, le-ltb, lt-ltb}
use native.Mathlib.Decide.{dec_lt, ℕ_discrete}
use lib.ListN.{get_or-replicate}
use lib.Seq.{sets}
use Rattle.lists.specs.Lists.{pick, same, word, from, range, some, keep, flat, member, total}
use Rattle.lists.proofs.Tests.{same_true, and_left, and_right}
use Rattle.lists.proofs.Ranges.{from-length, from_member}
use Rattle.lists.proofs.Members.{member-keep, map-member, flat-member, keep-length, keep-yes, keep-no}
use Rattle.places.proofs.Totals.{total-same}
use Rattle.scheme.specs.Words.{publics, bounds, nodes, threads, node_kind, node_first, branch_kind, branch_name, first_formal, formals, formal_count}
use Rattle.scheme.specs.Scheme.{Scheme, Node, stop, choice, new, call, scheme}
use Rattle.scheme.specs.Index.{owners_in, homes_in, owner_in, home_in, parent_of, held_in, HeldNames}
use Rattle.scheme.specs.declared.lookup.Parent.{Parent}
use Rattle.scheme.specs.declared.lookup.Parent.TheVariants.{Definition, New, Branch, Nobody}
use Rattle.scheme.proofs.Indexed.{new-below, branch-below, held-at-root, held-at-new, held-at-receive, held-at-branch, held-at-nobody}
use Rattle.table.specs.Causes.{cause}
use Rattle.table.specs.Known.{Known}
use Rattle.table.specs.Accepted.{Accepted}
use Rattle.table.proofs.Accepted.{accepted}
use Rattle.places.specs.Places.{controls_at, controls}
use Rattle.places.specs.Held.{names_at, held_counts, most_held, private_count}
use Rattle.places.specs.Reach.{values_for}
use Rattle.places.specs.Inner.Plan.{privates_word, free_names_word}
use Rattle.places.specs.Inner.Holding.{held_most_at, held_most, HeldBelow, NoneHeld, MostsHeld}
use Rattle.places.proofs.Tallies.{largest-least}
use Rattle.places.proofs.Few.{first-place, first-length, held-most}
use Rattle.places.proofs.Weights.{held-few}
use Rattle.places.proofs.Controls.{few-privates}
use Rattle.places.proofs.ByWords.{stop-node, choice-node, new-node, call-node, called-inside, formals-of, held_of, held-known, other-call}

take-most : (k : ℕ) (xs : List ℕ) → length (take k xs) ≤ length xs
take-most zero xs = omega arith
take-most (suc k) [] = omega arith
take-most (suc k) (x ∷ xs) = omega (arith, take-most k xs)

take_whole : (k : ℕ) (xs : List ℕ) → k ≡ length xs → length (take k xs) ≡ length xs
take_whole zero [] e = refl
take_whole zero (x ∷ xs) e = absurd (omega arith)
take_whole (suc k) [] e = absurd (omega arith)
take_whole (suc k) (x ∷ xs) e = ap suc (take_whole k xs (omega arith))

-- what the nodes of a thread below n hold at most
pub record Below (S : Scheme) (t n most : ℕ) : Type 0 where
  pub within : most ≤ most_held S t
  pub over : (k : ℕ) → k < n → S.thread k ≡ t → held_most S k ≤ most

-- words that have what the nodes of each thread below n hold at most
pub record Raised (S : Scheme) (n : ℕ) (most : List ℕ) : Type 0 where
  pub long : length most ≡ 8
  pub below : (t : ℕ) → t < 8 → Below S t n (word most t)

module _ (S : Scheme) (ok : Accepted S) where
  -- no control place of a node holds more
  spot-most : (n k : ℕ) → length (names_at S (S.node n) n k) ≤ held_most S n
  unfolding held_most
  spot-most n k = go (S.node n)
    where
      go : (ν : Node) → length (names_at S ν n k) ≤ held_most_at S n ν
      go stop = omega (arith, length-drop k (S.held n))
      go (choice f c) = omega arith
      go (new r l) = omega arith
      go (call d) =
          let i = k - suc (length (S.formals d)) in
          omega (
            arith,
            length-append (take (k - 1) (S.formals d)) (drop i (S.held n)),
            take-most (k - 1) (S.formals d),
            length-drop i (S.held n),
          )

  -- some control place of the thread holds as many
  most-thread : (n : ℕ) → n < S.nodes → held_most S n ≤ most_held S (S.thread n)
  unfolding held_most controls
  most-thread n l = go (S.node n) refl
    where
      at : (k : ℕ) → (ν : Node) → S.node n ≡ ν → k < controls_at S n ν → length (names_at S ν n k) ≤ most_held S (S.thread n)
      at k ν e u = rw (← e) (held-most S ok (S.thread n) n k l refl (rw e u))

      go : (ν : Node) → S.node n ≡ ν → held_most_at S n ν ≤ most_held S (S.thread n)
      go stop e = at 0 stop e (omega arith)
      go (choice f c) e = at 0 (choice f c) e (omega arith)
      go (new r m) e = at 0 (new r m) e (omega arith)
      go (call d) e = held (dec_lt 0 (length (S.held n)))
        where
          f : ℕ
          f = length (S.formals d)

          -- nothing is held: the called root holds the formals
          root : length (S.formals d) ≤ most_held S (S.thread n)
          root =
              let i = ok.call-inside n d e in
              omega (
                arith,
                held-most S ok (S.thread n) (S.root d) 0 (ok.root-inside d i.1) (ok.call-thread n d e) (first-place S ok (S.root d)),
                first-length S ok (S.root d),
                ap (λ (xs : List ℕ). length xs) (ok.root-held d i.1),
              )

          held : Dec (0 < length (S.held n)) → f + length (S.held n) ≤ most_held S (S.thread n)
          held (yes p) =
              let k = suc f in
              omega (
                arith,
                at k (call d) e (omega arith),
                length-append (take (k - 1) (S.formals d)) (drop (k - suc f) (S.held n)),
                take_whole (k - 1) (S.formals d) (omega arith),
                length-drop (k - suc f) (S.held n),
              )
          held (no p) = omega (arith, root)

  most-small : (n : ℕ) → held_most S n ≤ 64
  unfolding held_most
  most-small n = go (S.node n)
    where
      h : length (S.held n) ≤ 32
      h = omega (arith, held-few S (record { privates = 0; origins = λ x o. true; reach = λ x v. true }) ok (omega arith) n, ok.few-bounds)

      go : (ν : Node) → held_most_at S n ν ≤ 64
      go stop = omega (arith, h)
      go (choice f c) = omega (arith, h)
      go (new r l) = omega (arith, h)
      go (call d) = omega (arith, h, ok.few-formals d, ok.few-bounds)

  -- ---- the nodes, one after the other

  -- node n, of the thread, holds m
  below_more : (t n most m : ℕ) → n < S.nodes → Below S t n most → S.thread n ≡ t → m ≡ held_most S n → Below S t (n + 1) (pick (ltb most m) m most)
  below_more t n most m l b e q = go (dec_lt most m)
    where
      bound : m ≤ most_held S t
      bound = let g : held_most S n ≤ most_held S t = rw e at (most-thread n l) in omega arith

      above : (r : ℕ) → most ≤ r → m ≤ r → (k : ℕ) → k < n + 1 → S.thread k ≡ t → held_most S k ≤ r
      above r u v k h d = side (ℕ_discrete k n)
        where
          side : Dec (k ≡ n) → held_most S k ≤ r
          side (yes x) = rw x (omega arith)
          side (no x) = omega (arith, b.over k (omega arith) d)

      go : Dec (most < m) → Below S t (n + 1) (pick (ltb most m) m most)
      go (yes h) = rw (lt-ltb most m h) (record { within = bound; over = above m (omega arith) (omega arith) })
      go (no h) = rw (le-ltb most m (omega arith)) (record { within = b.within; over = above most (omega arith) (omega arith) })

  -- node n is of another thread
  below-skip : (t n most : ℕ) → Below S t n most → (S.thread n ≡ t → ⊥) → Below S t (n + 1) most
  below-skip t n most b d = record { within = b.within; over = rest }
    where
      rest : (k : ℕ) → k < n + 1 → S.thread k ≡ t → held_most S k ≤ most
      rest k h e = side (ℕ_discrete k n)
        where
          side : Dec (k ≡ n) → held_most S k ≤ most
          side (yes x) = absurd (d (rw (← x) e))
          side (no x) = b.over k (omega arith) e

  below_all : (t n most : ℕ) → Below S t n most → S.nodes ≤ n → most ≡ most_held S t
  unfolding most_held held_counts
  below_all t n most b l =
      let u = largest-least most (flat (held_counts S) (keep own (range S.nodes))) each in
      omega (arith, b.within, u)
    where
      own : ℕ → Bool
      own n = same (S.thread n) t

      each : (x : ℕ) → member x (flat (held_counts S) (keep own (range S.nodes))) ≡ true → x ≤ most
      each x m =
          let s = flat-member (held_counts S) x (keep own (range S.nodes)) m in
          let k = map-member (λ k. length (names_at S (S.node s.source) s.source k)) x (range (controls S s.source)) s.gives in
          let q = sym (member-keep own s.source (range S.nodes)) ∙ s.stands in
          let e : S.thread s.source ≡ t = same_true (S.thread s.source) t (and_left (own s.source) (member s.source (range S.nodes)) q) in
          let i = from_member s.source 0 S.nodes (and_right (own s.source) (member s.source (range S.nodes)) q) in
          omega (arith, spot-most s.source k.source, k.gives, b.over s.source (omega (arith, i.1)) e)

  pub none-long : (most : List ℕ) → NoneHeld most → length most ≡ 8
  none-long most e = rw e

  pub raised-none : (most : List ℕ) → NoneHeld most → Raised S 0 most
  raised-none most e = record { long = none-long most e; below = λ t l. rw (none-there t l) none }
    where
      none-there : (t : ℕ) → t < 8 → word most t ≡ 0
      none-there t l = rw e (get_or-replicate {A = ℕ} 8 t 0 0 l)

      none : {t : ℕ} → Below S t 0 0
      none = record { within = omega arith; over = λ k l d. absurd (omega arith) }

  pub raised-more : (n t m : ℕ) (most : List ℕ) → n < S.nodes → Raised S n most → t ≡ S.thread n → m ≡ held_most S n
      → Raised S (n + 1) (set most t (pick (ltb (word most t) m) m (word most t)))
  raised-more n t m most l r e q = record { long = length-set most t v ∙ r.long; below = λ u h. go u h (ℕ_discrete u t) }
    where
      v : ℕ
      v = pick (ltb (word most t) m) m (word most t)

      go : (u : ℕ) → u < 8 → Dec (u ≡ t) → Below S u (n + 1) (word (set most t v) u)
      go u h (yes p) =
          rw (p, get_or-set_same most t v 0 (omega (arith, r.long, h, p))) (below_more t n (word most t) m l (r.below t (omega (arith, h, p))) (sym e) q)
      go u h (no d) = rw (get_or-set_other most t u v 0 d) (below-skip u n (word most u) (r.below u h) (λ p. d (sym p ∙ sym e)))

  pub raised_all : (n : ℕ) (most : List ℕ) → Raised S n most → S.nodes ≤ n → MostsHeld S most
  raised_all n most r l t h = below_all t n (word most t) (r.below t h) l

-- ---- how many names a node holds, by how many those below it hold

module _ (w : List ℕ) (h : cause w ≡ 0) where
  pub held_small : (n : ℕ) → length ((scheme w).held n) ≤ 32
  held_small n =
      let ok = accepted w h in
      omega (arith, held-few (scheme w) (record { privates = 0; origins = λ x o. true; reach = λ x v. true }) ok (omega arith) n, ok.few-bounds)

module _ (w x : List ℕ) (k : Known w x) where
  abbrev owners : List ℕ
  owners = owners_in x

  abbrev homes : List ℕ
  homes = homes_in x

  names-told : (n : ℕ) → n < nodes w → length (held_in w owners homes n) ≡ length ((scheme w).held n)
  names-told n l = ap (λ (xs : List ℕ). length xs) (held-known w x k n l ∙ sym (held_of w k.accepted n))

  module _ (n : ℕ) (l : n < nodes w) (p : Parent) (up : p ≡ parent_of (owner_in owners) (home_in homes) n)
      (below : List ℕ) (b : HeldBelow (scheme w) n below) where
    abbrev Held : ℕ → Type 0
    Held r = r ≡ length ((scheme w).held n)

    names : (m : ℕ) → m < n → HeldNames (held_in w owners homes m) [] (word below m) (sets [] 0 (held_in w owners homes m))
    names m u = record { count = b.told m u ∙ sym (names-told m (omega arith)); written = refl }

    held : (r : ℕ) (after : List ℕ) → HeldNames (held_in w owners homes n) [] r after → Held r
    held r after q = q.count ∙ names-told n l

    pub root-holds : (d r : ℕ) → p ≡ Definition d → r ≡ formal_count w d → Held r
    root-holds d r e q = held r _ (held-at-root w owners homes n p up [] d (first_formal w d) (formal_count w d) r _ e refl refl (q, refl))

    pub new-holds : (m r : ℕ) → p ≡ New m → r ≡ word below m → Held (r + 1)
    new-holds m r e q =
        rw q (held (word below m + 1) _
        (held-at-new w owners homes n p up [] m (word below m) (node_first w m) _ _ e (names m (new-below owners homes n m p up e)) refl refl))

    pub receive-holds : (c m kind r : ℕ) → p ≡ Branch c m → kind ≡ branch_kind w c → kind ≡ 2 → r ≡ word below m → Held (r + 1)
    receive-holds c m kind r e f two q =
        rw q (held (word below m + 1) _ (held-at-receive w owners homes n p up [] c m kind (word below m) (branch_name w c) _ _ e
        (names m (branch-below owners homes n c m p up e)) f two refl refl))

    pub branch-holds : (c m kind r : ℕ) → p ≡ Branch c m → kind ≡ branch_kind w c → (kind ≡ 2 → ⊥) → r ≡ word below m → Held r
    branch-holds c m kind r e f other q =
        rw q (held (word below m) _ (held-at-branch w owners homes n p up [] c m kind (word below m) _ e
        (names m (branch-below owners homes n c m p up e)) f other))

    pub nobody-holds : p ≡ Nobody → Held 0
    nobody-holds e = held 0 _ (held-at-nobody w owners homes n p up [] e)

-- ---- the most that a node holds

module _ (w : List ℕ) (h : cause w ≡ 0) (n : ℕ) (l : n < nodes w) (r : ℕ) (q : r ≡ length ((scheme w).held n)) where
  abbrev Most : ℕ → Type 0
  Most m = (m ≡ held_most (scheme w) n) × (m ≤ 64)

  most : (m : ℕ) → m ≡ held_most (scheme w) n → Most m
  most m e = (e, omega (arith, e, most-small (scheme w) (accepted w h) n))

  pub most-call : (f : ℕ) → node_kind w n ≡ 3 → f ≡ formal_count w (node_first w n) → Most (f + r)
  unfolding held_most formals
  most-call f e g =
      let d = node_first w n in
      let z : length ((scheme w).formals d) ≡ f =
      ap (λ (xs : List ℕ). length xs) (formals-of w h d (called-inside w h n l e)) ∙ from-length _ (formal_count w d) ∙ sym g in
      most (f + r) (rw (call-node w h n l e) (omega (arith, q, z)))

  pub most_other : (node_kind w n ≡ 3 → ⊥) → Most r
  unfolding held_most
  most_other d = most r (go (ℕ_discrete (node_kind w n) 0) (ℕ_discrete (node_kind w n) 1) (ℕ_discrete (node_kind w n) 2))
    where
      go : Dec (node_kind w n ≡ 0) → Dec (node_kind w n ≡ 1) → Dec (node_kind w n ≡ 2) → r ≡ held_most_at (scheme w) n ((scheme w).node n)
      go (yes a) b c = rw (stop-node w h n l a) q
      go (no a) (yes b) c = rw (choice-node w h n l b) q
      go (no a) (no b) (yes c) = rw (new-node w h n l c) q
      go (no a) (no b) (no c) = absurd (d (other-call w h n l a b c))

-- ---- how many names each node holds

module _ (S : Scheme) (ok : Accepted S) where
  pub below_none : (held : List ℕ) → 256 ≤ length held → HeldBelow S 0 held
  below_none held l = record { room = l; told = λ m u. absurd (omega arith) }

  pub below_next : (n r : ℕ) (held : List ℕ) → n < S.nodes → HeldBelow S n held → r ≡ length (S.held n) → HeldBelow S (n + 1) (set held n r)
  below_next n r held l p q = record { room = omega (arith, length-set held n r, p.room); told = told }
    where
      told : (k : ℕ) → k < n + 1 → word (set held n r) k ≡ length (S.held k)
      told k u = go (ℕ_discrete k n)
        where
          go : Dec (k ≡ n) → word (set held n r) k ≡ length (S.held k)
          go (yes d) = rw (d, get_or-set_same held n r 0 (omega (arith, p.room, ok.few-nodes))) q
          go (no d) = get_or-set_other held n k r 0 d ∙ p.told k (omega arith)

-- ---- restricted names, and the sum

some-none : (p : ℕ → Bool) (xs : List ℕ) → length (keep (λ x. not (p x)) xs) ≡ length xs → some p xs ≡ false
unfolding some
some-none p [] e = refl
some-none p (x ∷ xs) e = go (p x) refl (some-none p xs)
  where
    f : ℕ → Bool
    f x = not (p x)

    go : (b : Bool) → p x ≡ b → (length (keep f xs) ≡ length xs → some p xs ≡ false) → (p x || some p xs) ≡ false
    go true q ih =
        absurd (omega (arith, e, ap (λ (ys : List ℕ). length ys) (keep-no f x xs (rw q)), keep-length f xs))
    go false q ih =
        rw q (ih (omega (arith, e, ap (λ (ys : List ℕ). length ys) (keep-yes f x xs (rw q)))))

some_one : (p : ℕ → Bool) (xs : List ℕ) → (length (keep (λ x. not (p x)) xs) ≡ length xs → ⊥) → some p xs ≡ true
unfolding some keep
some_one p [] d = absurd (d refl)
some_one p (x ∷ xs) d = go (p x) refl (some_one p xs)
  where
    f : ℕ → Bool
    f x = not (p x)

    go : (b : Bool) → p x ≡ b → ((length (keep f xs) ≡ length xs → ⊥) → some p xs ≡ true) → (p x || some p xs) ≡ true
    go true q ih = rw q
    go false q ih = rw q (ih (λ e. d (omega (arith, e, ap (λ (ys : List ℕ). length ys) (keep-yes f x xs (rw q))))))

module _ (w : List ℕ) where
  abbrev S' : Scheme
  S' = scheme w

  private-is : privates_word w ≡ pick (some S'.restricted (from (publics w) (bounds w))) (total (map (most_held S') (range (threads w)))) 0
  unfolding values_for private_count scheme
  private-is = refl

  module _ (h : cause w ≡ 0) where
    pub privates-small : (r : ℕ) → r ≡ privates_word w → (r ≡ privates_word w) × (r ≤ 32)
    privates-small r e = (e, omega (arith, few-privates w h))

    pub none-restricted : (f b : ℕ) → f ≡ free_names_word w → b ≡ bounds w → f ≡ b → 0 ≡ privates_word w
    none-restricted f b e g q =
        sym (private-is ∙ rw (some-none S'.restricted (from (publics w) (bounds w)) (omega (arith, e, g, q, from-length (publics w) (bounds w)))))

    pub accepted-threads : threads w ≤ 8
    unfolding scheme
    accepted-threads = (accepted w h).few-threads

    pub some-restricted : (f b k r : ℕ) (most : List ℕ) → f ≡ free_names_word w → b ≡ bounds w → (f ≡ b → ⊥) → k ≡ threads w → MostsHeld S' most
        → r ≡ total (map (word most) (range k)) → r ≡ privates_word w
    some-restricted f b k r most p g d i q e =
        e ∙ ap (λ (j : ℕ). total (map (word most) (range j))) i ∙ total-same (word most) (most_held S') (range (threads w)) (λ t m. q t (small t m))
        ∙ sym (private-is
        ∙ rw (some_one S'.restricted (from (publics w) (bounds w)) (λ x. d (omega (arith, p, g, x, from-length (publics w) (bounds w))))))
      where
        small : (t : ℕ) → member t (range (threads w)) ≡ true → t < 8
        small t m = omega (arith, from_member t 0 (threads w) m, accepted-threads)
