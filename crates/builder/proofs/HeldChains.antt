-- The chains of Stops and Calls as the code makes them: their held names, formals and arguments, and what a Call writes in turn.
use mathlib.Core.Path.{◌≡◌, refl, sym, ap, ◌∙◌}
use mathlib.Core.Bool.{true}
use mathlib.Core.List.{List, [], ◌∷◌, ◌++◌, map}
use Prim.Native.Nat.{ℕ, zero, suc, ◌+◌, ◌-◌, ◌≤◌, ◌<◌}
use native.Mathlib.Omega.{arith}
use lib.ListN.{length, get_or}
use lib.Seq.{sets}
use Rattle.lists.specs.Lists.{word, from, member}
use Rattle.lists.proofs.Tests.{same_true}
use Rattle.lists.proofs.Ranges.{from-length, from-get_or, from_member}
use Rattle.lists.proofs.Members.{map-member, member-get_or}
use Rattle.scheme.specs.Words.{nodes, definitions, root, first_formal, formal_count, formals, node_kind, node_first, node_second, is_stop_node, is_call_node, arguments_of}
use Rattle.scheme.specs.Owners.{held}
use Rattle.scheme.specs.Index.{held_at}
use Rattle.scheme.specs.Scheme.{Scheme, call, scheme}
use Rattle.table.specs.Causes.{cause}
use Rattle.table.proofs.Accepted.{accepted}
use Rattle.places.specs.Places.{controls}
use Rattle.places.specs.Transitions.{releases, copies, calling, from_node_descriptions}
use Rattle.places.specs.Inner.Plan.{today, Named, Bounded, Frees, argument_name}
use Rattle.builder.specs.Inner.Parts.{Chained, TakesAll}
use Rattle.places.specs.Plan.{nodes_in, Laid}
use Rattle.places.proofs.Controls.{nodes-are, publics-are, bounds-are, control-goes-on, controls-few}
use Rattle.places.proofs.Arriving.{carried, copied}
use Rattle.places.proofs.Plans.{known, node-is}
use Rattle.places.proofs.ByWords.{call-node, called-inside, arguments-inside, argument-inside, formals-of, arguments-of, held_of, held-known}
use Rattle.places.proofs.ByWords.{count-stop, count-call}

-- ---- the control places of a node, and the names that it holds

module _ (w x : List ℕ) (L : Laid w x) (n : ℕ) (l : n < nodes w) where
  -- as many as the plan tells
  controls-between : (f g : ℕ) → f ≡ word (nodes_in x) n → g ≡ word (nodes_in x) (n + 1) → g - f ≡ controls (scheme w) n
  controls-between f g p q = omega (arith, p, q, node-is w x L n (omega arith), node-is w x L (n + 1) (omega arith), control-goes-on w n)

  pub starts-rise : (f g : ℕ) → f ≡ word (nodes_in x) n → g ≡ word (nodes_in x) (n + 1) → f ≤ g
  starts-rise f g p q = omega (arith, p, q, node-is w x L n (omega arith), node-is w x L (n + 1) (omega arith), control-goes-on w n)

  names-are : length (held_at w x n) ≡ length (held w n)
  names-are = ap (λ (xs : List ℕ). length xs) (held-known w x (known w x L) n l)

  pub held-bounded : Bounded w (held w n)
  held-bounded y m =
      let i = (accepted w L.accepted).held-name n y (rw (held_of w L.accepted n) m) in
      (omega (arith, i.low, publics-are w), omega (arith, i.high, publics-are w, bounds-are w))

  -- ---- the chain of a Stop

  stop-count : is_stop_node w n ≡ true → 1 + length (held w n) ≡ controls (scheme w) n
  stop-count e =
      let c = (count-stop w x (known w x L) n l [] (sets [] 0 (held_at w x n)) (length (held_at w x n)) (same_true (node_kind w n) 0 e)
      (record { count = refl; written = refl })).0 in
      omega (arith, c, names-are)

  module _ (e : is_stop_node w n ≡ true) (f g : ℕ) (p : f ≡ word (nodes_in x) n) (q : g ≡ word (nodes_in x) (n + 1)) where
    pub stop-room : 0 + length (held w n) ≤ g - f
    stop-room = omega (arith, stop-count e, controls-between f g p q)

    pub stop-chained : Chained w (record { node = n; to = n; first = f; controls = g - f; last = f })
    stop-chained = record {
      node-inside = l;
      to_inside = l;
      first-is = p ∙ node-is w x L n (omega arith);
      controls-are = controls-between f g p q;
      last-is = p ∙ node-is w x L n (omega arith);
    }

-- ---- a Call

get_d_map : (f : ℕ → ℕ) (b d : ℕ) (xs : List ℕ) (k : ℕ) → k < length xs → get_or (map f xs) k b ≡ f (get_or xs k d)
get_d_map f b d [] k h = absurd (omega arith)
get_d_map f b d (x ∷ xs) zero h = refl
get_d_map f b d (x ∷ xs) (suc k) h = get_d_map f b d xs k (omega arith)

-- the words of a Call: the definition called, its root, its formals, its arguments
pub record Called (w : List ℕ) (n d to formal argument count : ℕ) : Type 0 where
  pub definition-is : d ≡ node_first w n
  pub root_is : to ≡ root w d
  pub formal-is : formal ≡ first_formal w d
  pub argument_is : argument ≡ node_second w n
  pub count-is : count ≡ formal_count w d

module _ (w : List ℕ) (h : cause w ≡ 0) (n : ℕ) (l : n < nodes w) (e : is_call_node w n ≡ true) (d to formal argument count : ℕ)
    (c : Called w n d to formal argument count) where
  abbrev S : Scheme
  S = scheme w

  kind : node_kind w n ≡ 3
  kind = same_true (node_kind w n) 3 e

  defined : d < definitions w
  defined = rw c.definition-is (called-inside w h n l kind)

  formals-are : S.formals d ≡ from formal count
  unfolding formals
  formals-are = formals-of w h d defined ∙ rw (c.formal-is, c.count-is)

  arguments-are : S.arguments n ≡ map (argument_name w) (from argument count)
  unfolding arguments_of
  arguments-are = arguments-of w h n l kind ∙ rw (c.argument_is, c.count-is, c.definition-is)

  root-of : S.root d ≡ to
  unfolding scheme
  root-of = sym c.root_is

  definitions-are : S.definitions ≡ definitions w
  unfolding scheme
  definitions-are = refl

  pub call-root : to < nodes w
  call-root = omega (arith, (accepted w h).root-inside d (omega (arith, defined, definitions-are)), root-of, nodes-are w)

  pub call-frees : Frees w (from formal count)
  call-frees x m =
      let i : member x (S.formals d) ≡ true = rw formals-are m in
      let b = (accepted w h).formal-name d x i in
      (omega (arith, b.low, publics-are w), omega (arith, b.high, publics-are w, bounds-are w), (accepted w h).formal-free d x i)

  pub call-named : Named w (map (argument_name w) (from argument count))
  call-named x m =
      let s = map-member (argument_name w) x (from argument count) m in
      let i = from_member s.source argument count s.stands in
      let a = arguments-inside w h n l kind in
      let q : formal_count w (node_first w n) ≡ count = sym (c.count-is ∙ ap (formal_count w) c.definition-is) in
      rw s.gives (argument-inside w h s.source (omega (arith, i.1, a, q, c.argument_is)))

  -- a formal may hold what its argument may hold
  pub call-takes : TakesAll w formal argument count
  call-takes i u v m =
      let f : get_or (S.formals d) i 0 ≡ formal + i = ap (λ (l : List ℕ). get_or l i 0) formals-are ∙ from-get_or formal count i u in
      let a : get_or (S.arguments n) i 0 ≡ argument_name w (argument + i) =
      ap (λ (l : List ℕ). get_or l i 0) arguments-are
      ∙ get_d_map (argument_name w) 0 0 (from argument count) i (omega (arith, from-length argument count)) ∙ ap (argument_name w)
      (from-get_or argument count i u) in
      let g : i < length (S.formals d) = omega (arith, ap (λ (l : List ℕ). length l) formals-are, from-length formal count) in
      let b = (accepted w h).formal-name d (get_or (S.formals d) i 0) (member-get_or (S.formals d) i g) in
      let at : S.node n ≡ call d = call-node w h n l kind ∙ ap call (sym c.definition-is) in
      rw f at
      (carried S (get_or (S.arguments n) i 0) (get_or (S.formals d) i 0) v b.low (λ o. copied S (accepted w h) n d i o at g) (rw a m))

  -- "one transition on; …Copies precede releases; the last goes to the called root."
  pub call-list : (hs : List ℕ) → hs ≡ held w n
      → from_node_descriptions S (today w) n (call (node_first w n))
      ≡ (calling S (today w) n to ∷ []) ++
      (copies S (today w) n to 1 (from formal count) (map (argument_name w) (from argument count)) ++ releases S (today w) n to (1 + count) hs)
  call-list hs q =
      let z : length (S.formals d) ≡ count = ap (λ (xs : List ℕ). length xs) formals-are ∙ from-length formal count in
      let o : suc (length (S.formals d)) ≡ 1 + count = omega (arith, z) in
      rw (sym c.definition-is, o, formals-are, arguments-are, root-of, held_of w h n, q)

module _ (w x : List ℕ) (L : Laid w x) (n : ℕ) (l : n < nodes w) (e : is_call_node w n ≡ true) (d to formal argument count : ℕ)
    (c : Called w n d to formal argument count) where
  call-count : 1 + count + length (held w n) ≡ controls (scheme w) n
  call-count =
      let r = (count-call w x (known w x L) n l [] (sets [] 0 (held_at w x n)) count (length (held_at w x n)) (same_true (node_kind w n) 3 e)
      (c.count-is ∙ ap (formal_count w) c.definition-is) (record { count = refl; written = refl })).0 in
      omega (arith, r, names-are w x L n l)

  pub call-few : count ≤ 64
  call-few = omega (arith, call-count, controls-few w L.accepted n)

  module _ (f g : ℕ) (p : f ≡ word (nodes_in x) n) (q : g ≡ word (nodes_in x) (n + 1)) where
    pub call-room : 1 + count + length (held w n) ≤ g - f
    call-room = omega (arith, call-count, controls-between w x L n l f g p q)

    pub call-chained : (m : ℕ) → m ≡ word (nodes_in x) to → Chained w (record { node = n; to = to; first = f; controls = g - f; last = m })
    call-chained m j =
        let t = call-root w L.accepted n l e d to formal argument count c in
        record {
          node-inside = l;
          to_inside = t;
          first-is = p ∙ node-is w x L n (omega arith);
          controls-are = controls-between w x L n l f g p q;
          last-is = j ∙ node-is w x L to (omega (arith, t));
        }
