-- What nodes and names show at a control place, by the words that the code reads.
use mathlib.Core.Path.{◌≡◌, refl, sym, ap, ◌∙◌}
use mathlib.Core.Bool.{true, false, true≢false}
use mathlib.Core.Option.{Option, none, some}
use mathlib.Core.List.{List, map}
use Prim.Native.Nat.{ℕ, zero, suc, ◌+◌, ◌-◌, ◌≤◌, ◌<◌}
use native.Mathlib.Decide.{ℕ_discrete, dec_le}
use native.Mathlib.Nat.{add-zero, sub-zero}
use native.Mathlib.Omega.{arith}
use lib.ListN.{take, drop}
use lib.Seq.{take_all, take_at}
use borrow.Author.Tests.{lt-ltb, le-ltb}
use Rattle.lists.specs.Lists.{pick, same, word, from, member}
use Rattle.lists.proofs.Tests.{same-yes, same-no, not-true-false}
use Rattle.lists.proofs.Ranges.{from-length, from-append, member-from, from_member}
use Rattle.lists.proofs.Members.{member-take}
use Rattle.scheme.specs.Words.{publics, names, threads, nodes, definitions, node_kind, node_first, node_second}
use Rattle.scheme.specs.Words.{root, first_formal, formal_count, formals, arguments, argument, arguments_of, Number}
use Rattle.scheme.specs.Scheme.{Node, stop, choice, new, call, scheme}
use Rattle.scheme.specs.Index.{name_thread_at}
use Rattle.scheme.specs.Kinds.{is_stop_node, is_call_node}
use Rattle.table.proofs.Accepted.{accepted}
use Rattle.table.specs.Known.{Known}
use Rattle.table.proofs.Lookup.{name-thread-right}
use Rattle.process.specs.States.{value_of}
use Rattle.process.specs.Steps.{passed}
use Rattle.process.specs.Inner.Values.{Valued, value_at}
use Rattle.process.proofs.Taking.{passed-below, passed-above, passed-inside}
use Rattle.process.proofs.Decoding.{call-there}
use Rattle.places.proofs.ByWords.{other-call, stop-node, choice-node, new-node, call-node}
use Rattle.places.proofs.ByWords.{called-inside, formals-of, arguments-of, arguments-inside, argument-inside}
use Rattle.readback.specs.Configurations.{spot, node_shown_at, shown_node_of, name_shown_at, shown_name}
use Rattle.readback.specs.Inner.Showing.{AtNodes, spot_at, value_found_in, NodeOf, CallOf}

-- where a thread stands and which value a name has in the state that lent words show
abbrev pub shown_node : List ℕ → List ℕ → List ℕ → ℕ → ℕ
shown_node w nodes indexes t = shown_node_of (scheme w) (spot_at nodes indexes t)

abbrev pub shown_value : List ℕ → List ℕ → List ℕ → List ℕ → ℕ → Option ℕ
shown_value w nodes indexes values x = value_of (value_found_in w values) (shown_name (scheme w) (spot_at nodes indexes) x)

-- ---- parts of a span

pub take-few : (j a n : ℕ) → j ≤ n → take j (from a n) ≡ from a j
take-few j a n h =
    let e : n ≡ j + (n - j) = omega arith in
    ap (λ (k : ℕ). take j (from a k)) e ∙ rw (from-append a j (n - j)) (take_at (from a j) (from (a + j) (n - j)) j (from-length a j))

pub drop-span : {A : Type 0} (f : ℕ → A) (j a n : ℕ) → drop j (map f (from a n)) ≡ map f (from (a + j) (n - j))
unfolding from
drop-span f zero a n = rw (add-zero a, sub-zero n)
drop-span f (suc j) a zero = let e : 0 - suc j ≡ 0 = omega arith in rw e
drop-span f (suc j) a (suc n) =
    let e : suc n - suc j ≡ n - j = omega arith in
    let z : a + suc j ≡ a + 1 + j = omega arith in
    rw (e, z) (drop-span f j (a + 1) n)

pub drop-from : (j a n : ℕ) → drop j (from a n) ≡ from (a + j) (n - j)
unfolding from
drop-from zero a n = rw (add-zero a, sub-zero n)
drop-from (suc j) a zero = let e : 0 - suc j ≡ 0 = omega arith in rw e
drop-from (suc j) a (suc n) =
    let e : suc n - suc j ≡ n - j = omega arith in
    let z : a + suc j ≡ a + 1 + j = omega arith in
    rw (e, z) (drop-from j (a + 1) n)

module _ (x j a n : ℕ) where
  pub taken : a ≤ x → x - a < n → x - a < j → member x (take j (from a n)) ≡ true
  taken h k l = go (dec_le j n)
    where
      go : Dec (j ≤ n) → member x (take j (from a n)) ≡ true
      go (yes m) = rw (take-few j a n m) (member-from x a j h (omega arith))
      go (no m) = rw (take_all j (from a n) (omega (arith, from-length a n))) (member-from x a n h (omega arith))

  pub untaken : j ≤ x - a → member x (take j (from a n)) ≡ false
  untaken h = not-true-false (member x (take j (from a n))) (λ e. go e (dec_le j n))
    where
      go : member x (take j (from a n)) ≡ true → Dec (j ≤ n) → ⊥
      go e (yes m) = let k = from_member x a j (rw (take-few j a n m) at e) in omega arith
      go e (no m) = let k = from_member x a n (member-take x j (from a n) e) in omega arith

  pub not_there : (x < a → ⊥) → (x - a < n → ⊥) → member x (take j (from a n)) ≡ false
  not_there h l = not-true-false (member x (take j (from a n))) (λ e. let k = from_member x a n (member-take x j (from a n) e) in omega arith)

  pub too-low : x < a → member x (take j (from a n)) ≡ false
  too-low h = not-true-false (member x (take j (from a n))) (λ e. let k = from_member x a n (member-take x j (from a n) e) in omega arith)

-- ---- formals of a call, the first j of them copied

module _ (f : ℕ → ℕ) (x j a s n : ℕ) where
  abbrev pub chained : Option ℕ
  chained = pick (member x (take j (from a n))) (some x) (passed (drop j (from a n)) (drop j (map f (from s n))) x)

  none_passed : (b c : ℕ) → passed (from b 0) (map f (from c 0)) x ≡ none
  unfolding passed from
  none_passed b c = refl

  pub chained-low : x < a → chained ≡ none
  chained-low h = rw (too-low x j a n h, drop-from j a n, drop-span f j s n) (passed-below f x (n - j) (a + j) (s + j) (omega arith))

  pub chained-high : a ≤ x → n ≤ x - a → chained ≡ none
  chained-high h k =
      rw (not_there x j a n (λ e. omega arith) (λ e. omega arith), drop-from j a n, drop-span f j s n) (go (dec_le j n))
    where
      go : Dec (j ≤ n) → passed (from (a + j) (n - j)) (map f (from (s + j) (n - j))) x ≡ none
      go (yes m) = passed-above f x (n - j) (a + j) (s + j) (omega arith)
      go (no m) = let e : n - j ≡ 0 = omega arith in rw e (none_passed (a + j) (s + j))

  pub chained-copied : a ≤ x → x - a < n → x - a < j → chained ≡ some x
  chained-copied h k l = rw (taken x j a n h k l)

  pub chained-argument : a ≤ x → x - a < n → j ≤ x - a → chained ≡ some (f (s + (x - a)))
  chained-argument h k l =
      let e : s + j + (x - (a + j)) ≡ s + (x - a) = omega arith in
      rw (untaken x j a n l, drop-from j a n, drop-span f j s n) (passed-inside f x (n - j) (a + j) (s + j) (omega arith) (omega arith) ∙ rw e)

-- ---- values as words

pub missing : {o : Option ℕ} → o ≡ none → Valued o 65535
unfolding same
missing e = record { is = e; small = omega arith }

pub present : {o : Option ℕ} (v : ℕ) → v < 65535 → o ≡ some v → Valued o v
present v h e = record { is = e ∙ rw (same-no v 65535 (λ q. omega arith)); small = omega arith }

-- ---- nodes

module _ (w : List ℕ) (n : ℕ) (N : NodeOf w n) where
  few-nodes : nodes w ≤ 256
  unfolding scheme
  few-nodes = (accepted w N.accepted).few-nodes

  no_call : (node_kind w n ≡ 3 → ⊥) → is_call_node ((scheme w).node n) ≡ false
  no_call d = call-there w n ∙ rw (same-no (node_kind w n) 3 d, lt-ltb n (nodes w) N.inside)

  no_stop : (node_kind w n ≡ 0 → ⊥) → is_stop_node ((scheme w).node n) ≡ false
  no_stop d = go (ℕ_discrete (node_kind w n) 1) (ℕ_discrete (node_kind w n) 2)
    where
      go : Dec (node_kind w n ≡ 1) → Dec (node_kind w n ≡ 2) → is_stop_node ((scheme w).node n) ≡ false
      go (yes e) f = rw (choice-node w N.accepted n N.inside e)
      go (no e) (yes f) = rw (new-node w N.accepted n N.inside f)
      go (no e) (no f) = rw (call-node w N.accepted n N.inside (other-call w N.accepted n N.inside d e f))

  own-node : (A : Node) (k : ℕ) → (k ≡ 0) → node_shown_at (scheme w) A n k ≡ n
  own-node stop k e = refl
  own-node (choice f c) k e = refl
  own-node (new r l) k e = refl
  own-node (call d) zero e = refl
  own-node (call d) (suc k) e = absurd (omega arith)

  other-node : (A : Node) (k : ℕ) → is_call_node A ≡ false → node_shown_at (scheme w) A n k ≡ n
  other-node stop k e = refl
  other-node (choice f c) k e = refl
  other-node (new r l) k e = refl
  other-node (call d) k e = absurd (true≢false e)

  pub node-own : (k : ℕ) → k ≡ 0 → Number (shown_node_of (scheme w) (spot n k)) n
  node-own k e = record { is = sym (own-node ((scheme w).node n) k e); small = omega (arith, few-nodes, N.inside) }

  pub node-other : (k : ℕ) → (node_kind w n ≡ 3 → ⊥) → Number (shown_node_of (scheme w) (spot n k)) n
  node-other k d = record { is = sym (other-node ((scheme w).node n) k (no_call d)); small = omega (arith, few-nodes, N.inside) }

  pub node-called : (k d r : ℕ) → (k ≡ 0 → ⊥) → node_kind w n ≡ 3 → d ≡ node_first w n → r ≡ root w d → r < 65536 → Number (shown_node_of (scheme w) (spot n k)) r
  unfolding scheme
  node-called k d r h e f g s =
      let z : k ≡ suc (k - 1) = omega arith in
      record { is = rw (call-node w N.accepted n N.inside e, z, ← f) g; small = s }

  -- ---- names

  other_name : (A : Node) (k x : ℕ) → is_stop_node A ≡ false → is_call_node A ≡ false → name_shown_at (scheme w) A n k x ≡ some x
  other_name stop k x e f = absurd (true≢false e)
  other_name (choice f c) k x e g = refl
  other_name (new r l) k x e g = refl
  other_name (call d) k x e f = absurd (true≢false f)

  module _ (k x : ℕ) where
    pub name-stop : node_kind w n ≡ 0 → Valued (name_shown_at (scheme w) ((scheme w).node n) n k x) 65535
    name-stop e = missing (rw (stop-node w N.accepted n N.inside e))

    pub name-other : x < 65535 → (node_kind w n ≡ 0 → ⊥) → (node_kind w n ≡ 3 → ⊥) → Valued (name_shown_at (scheme w) ((scheme w).node n) n k x) x
    name-other h d e = present x h (other_name ((scheme w).node n) k x (no_stop d) (no_call e))

    pub name-own : x < 65535 → node_kind w n ≡ 3 → k ≡ 0 → Valued (name_shown_at (scheme w) ((scheme w).node n) n k x) x
    name-own h e z = present x h (rw (call-node w N.accepted n N.inside e, z))

    pub name-chained : (r : ℕ) → (k ≡ 0 → ⊥) → Valued (name_shown_at (scheme w) ((scheme w).node n) n (suc (k - 1)) x) r
        → Valued (name_shown_at (scheme w) ((scheme w).node n) n k x) r
    name-chained r h q = let z : k ≡ suc (k - 1) = omega arith in rw z q

-- ---- names in a call's chain

module _ (w : List ℕ) (n x j : ℕ) (C : CallOf w n x) where
  abbrev Told : ℕ → Type 0
  Told r = Valued (name_shown_at (scheme w) ((scheme w).node n) n (suc j) x) r

  here : node_first w n < definitions w
  here = called-inside w C.node_of.accepted n C.node_of.inside C.is-call

  abbrev first : ℕ
  first = first_formal w (node_first w n)

  abbrev count : ℕ
  count = formal_count w (node_first w n)

  few-names : names w ≤ 64
  unfolding scheme
  few-names = omega (arith, (accepted w C.node_of.accepted).few-publics, (accepted w C.node_of.accepted).few-bounds)

  root-inside : root w (node_first w n) < nodes w
  unfolding scheme
  root-inside = (accepted w C.node_of.accepted).root-inside (node_first w n) here

  root-of : NodeOf w (root w (node_first w n))
  root-of = record { accepted = C.node_of.accepted; inside = root-inside }

  at_call : (scheme w).node n ≡ call (node_first w n)
  at_call = call-node w C.node_of.accepted n C.node_of.inside C.is-call

  root_is : (scheme w).root (node_first w n) ≡ root w (node_first w n)
  unfolding scheme
  root_is = refl

  pub told-stop : (d m : ℕ) → d ≡ node_first w n → m ≡ root w d → node_kind w m ≡ 0 → Told 65535
  told-stop d m e f g =
      let q : (scheme w).node (root w (node_first w n)) ≡ stop = stop-node w C.node_of.accepted _ root-inside (rw (f, e) at g) in
      missing (rw (at_call, root_is, q))

  module _ (d m : ℕ) (e : d ≡ node_first w n) (f : m ≡ root w d) (g : node_kind w m ≡ 0 → ⊥) where
    told_is : name_shown_at (scheme w) ((scheme w).node n) n (suc j) x
        ≡ chained (argument w) x j first (node_second w n) count
    unfolding formals arguments_of
    told_is =
        let q : is_stop_node ((scheme w).node (root w (node_first w n))) ≡ false = no_stop w _ root-of (λ z. g (rw (f, e) z)) in
        let u : (scheme w).formals (node_first w n) ≡ formals w (node_first w n) = formals-of w C.node_of.accepted (node_first w n) here in
        let v : (scheme w).arguments n ≡ arguments_of w n = arguments-of w C.node_of.accepted n C.node_of.inside C.is-call in
        rw (at_call, root_is, q, u, v)

    module _ (a : ℕ) (ea : a ≡ first_formal w d) where
      first-is : a ≡ first
      first-is = ea ∙ rw e

      pub told-low : x < a → Told 65535
      told-low h = missing (told_is ∙ chained-low (argument w) x j first (node_second w n) count (omega (arith, first-is)))

      module _ (k : ℕ) (ek : k ≡ formal_count w d) (h : a ≤ x) where
        count-is : k ≡ count
        count-is = ek ∙ rw e

        pub told-high : k ≤ x - a → Told 65535
        told-high l =
            missing (told_is ∙ chained-high (argument w) x j first (node_second w n) count (omega (arith, first-is)) (omega (arith, first-is, count-is)))

        pub told-copied : x - a < k → x - a < j → Told x
        told-copied l o =
            present x C.small
            (told_is ∙ chained-copied (argument w) x j first (node_second w n) count
            (omega (arith, first-is)) (omega (arith, first-is, count-is)) (omega (arith, first-is)))

        pub told-argument : (s r : ℕ) → x - a < k → j ≤ x - a → s ≡ node_second w n → r ≡ argument w (s + (x - a)) → Told r
        told-argument s r l o es er =
            let i : s + (x - a) < arguments w =
            omega (arith, es, count-is, arguments-inside w C.node_of.accepted n C.node_of.inside C.is-call) in
            let b : r < names w = rw er (argument-inside w C.node_of.accepted _ i) in
            present r (omega (arith, b, few-names))
            (told_is ∙ chained-argument (argument w) x j first (node_second w n) count
            (omega (arith, first-is)) (omega (arith, first-is, count-is)) (omega (arith, first-is))
            ∙ rw (← first-is, ← es, ← er))

-- ---- the value of a name that may be missing

module _ (w values : List ℕ) (y : ℕ) where
  pub value-missing : y ≡ 65535 → Valued (value_of (value_found_in w values) (value_at y)) 65535
  value-missing e = missing (rw (same-yes y 65535 e))

  pub value-public : (y ≡ 65535 → ⊥) → y < publics w → y < 65536 → Valued (value_of (value_found_in w values) (value_at y)) y
  value-public d h k = present y (omega arith) (rw (same-no y 65535 d, lt-ltb y (publics w) h))

  pub value-word : (r : ℕ) → (y ≡ 65535 → ⊥) → publics w ≤ y → r ≡ word values y → r < 65536 → Valued (value_of (value_found_in w values) (value_at y)) r
  value-word r d h e k = record { is = rw (same-no y 65535 d, le-ltb y (publics w) h, e); small = k }

-- ---- the value of a bound name

module _ (w index nodes indexes : List ℕ) (x : ℕ) (K : Known w index) (at : AtNodes w nodes) (low : publics w ≤ x) (high : x < names w) where
  name-few : x < 65535
  unfolding scheme
  name-few = omega (arith, (accepted w K.accepted).few-publics, (accepted w K.accepted).few-bounds)

  thread-few : (scheme w).thread_of_name x < threads w
  unfolding scheme
  thread-few = (accepted w K.accepted).name-thread x low high

  thread-inside : (scheme w).thread_of_name x < (scheme w).threads
  unfolding scheme
  thread-inside = (accepted w K.accepted).name-thread x low high

  module _ (t : ℕ) (e : t ≡ name_thread_at w index x) where
    pub thread-is : t ≡ (scheme w).thread_of_name x
    thread-is = e ∙ name-thread-right w K.accepted index K.right x

    pub stands : (n : ℕ) → n ≡ word nodes t → NodeOf w n × (x < 65535)
    stands n f = (record { accepted = K.accepted; inside = rw f (at t (omega (arith, thread-is, thread-few))) }, name-few)

    pub name-valued : (values : List ℕ) (n k y r : ℕ) → n ≡ word nodes t → k ≡ word indexes t
        → Valued (name_shown_at (scheme w) ((scheme w).node n) n k x) y → Valued (value_of (value_found_in w values) (value_at y)) r
        → Valued (value_of (value_found_in w values) (shown_name (scheme w) (spot_at nodes indexes) x)) r
    name-valued values n k y r f g u v =
        let q : shown_name (scheme w) (spot_at nodes indexes) x ≡ value_at y =
        rw (lt-ltb ((scheme w).thread_of_name x) (scheme w).threads thread-inside, ← thread-is, ← f, ← g) u.is in
        record { is = rw q v.is; small = v.small }
