-- A run of values: from one to the next the places of the names that are told rise by 1, and no arc is met on the way, so the arcs stay in order.
use mathlib.Core.Path.{◌≡◌, refl, sym, ap, subst, ◌∙◌}
use mathlib.Core.Bool.{Bool, true, false, true≢false}
use mathlib.Core.List.{List, [], ◌∷◌, map}
use mathlib.Core.Logic.{◌⊎◌, inl, inr}
use Prim.Native.Nat.{ℕ, zero, suc, ◌+◌, ◌-◌, ◌≤◌, ◌<◌}
use native.Mathlib.Decide.{ℕ_discrete, dec_le}
use native.Mathlib.Omega.{arith}
use lib.ListN.{length, length-append}
use Rattle.lists.specs.Lists.{pick, from, range, keep, member}
use Rattle.lists.proofs.Tests.{pick_true}
use Rattle.lists.proofs.Ranges.{from-append, from-length, from_member}
use Rattle.lists.proofs.Members.{member-here, member-there, keep_append, keep_all}
use Rattle.scheme.specs.Words.{publics, nodes, channel, branch_name, next}
use Rattle.scheme.specs.Owners.{home}
use Rattle.scheme.specs.Scheme.{Scheme, send, receive, scheme}
use Rattle.table.specs.Causes.{cause}
use Rattle.table.proofs.Accepted.{accepted}
use Rattle.net.specs.Net.{Transition}
use Rattle.places.specs.Values.{Values}
use Rattle.places.specs.Places.{Place, equals, differs, control}
use Rattle.places.specs.Rows.{number_of, Exists}
use Rattle.places.specs.Inner.Arcs.{exists}
use Rattle.builder.specs.Inner.Writing
use Rattle.builder.specs.Inner.Writing.{put_one_transition, put_all, rise}
use Rattle.places.specs.Inner.Plan.{today, Holds}
use Rattle.builder.specs.Inner.Parts.{Paired, Tells, of_table, state, put, told, arrow, ins_of, outs_of, risen}
use Rattle.builder.specs.Inner.Parts.{no_spot, spot_of, Spotted, channel_at, sent_at, told_by, risers_of, Telling}
use Rattle.builder.specs.declared.write.Heads.{Heads}
use Rattle.builder.specs.declared.write.Arcs.{Arcs}
use Rattle.builder.specs.declared.communications.Pair.{Pair}
use Rattle.builder.specs.declared.communications.Way.{Way}
use Rattle.builder.specs.declared.communications.Spots.{Spots}
use Rattle.places.proofs.Names.{private-held}
use Rattle.places.proofs.ReachRows.{public-member, equals-public, equals-private, differs-private}
use Rattle.places.proofs.Controls.{publics-are}
use Rattle.places.proofs.CommunicationCounts.{not-y, not-heard, e-not-y}
use Rattle.builder.proofs.Rising.{Shifted, shift_none, shift-no, shift-on, Apart, Track, misses, each_of}
use Rattle.builder.proofs.Pairs.{Speaks, speaks, sends, receives, takes_of, gives_of, told-inputs, told-outputs, branch-small}
use Rattle.builder.proofs.Pairs.{reads-holds, holds-exists, differs-exists, differs_none, public-none, control-exists}
use Rattle.builder.proofs.Pairs.{home-inside, send-next, receive-next, spot-there, spot-none, number-few}

-- transitions for the numbers from low on are those for the numbers from 0 on
put-run : {A : Type 0} (f : A → Transition) (g : ℕ → A) (h : ℕ → Transition) (low n o : ℕ) (s : Writing.Heads)
    → ((t : ℕ) → o ≤ t → t < o + n → f (g (low + t)) ≡ h t) → put_all f s (map g (from (low + o) n)) ≡ put_all h s (from o n)
unfolding put_all from
put-run f g h low zero o s e = refl
put-run f g h low (suc n) o s e =
    let x : low + o + 1 ≡ low + (o + 1) = omega arith in
    rw (x, e o (omega arith) (omega arith)) (put-run f g h low n (o + 1) (put_one_transition s (h o)) (λ t l u. e t (omega arith) (omega arith)))

-- a run of one value
pub run-one : (w : List ℕ) (p : Pair) (way : Way) (low count i j : ℕ) → count ≡ 1 → i ≡ channel_at way low → j ≡ sent_at way low
    → map (told_by w p way) (from low count) ≡ told w p.send p.receive i j ∷ []
unfolding from
run-one w p way low count i j e f g = rw (e, f, g)

-- numbers that all pass a test are counted
count-run : (b : ℕ → Bool) (low u : ℕ) → ((k : ℕ) → low ≤ k → k < low + u → b k ≡ true) → length (keep b (range (low + u))) ≡ length (keep b (range low)) + u
count-run b low u f =
    let z : 0 + low ≡ low = omega arith in
    rw (
      from-append 0 low u,
      z,
      keep_append b (range low) (from low u),
      keep_all b (from low u) (λ y m. let q = from_member y low u m in f y q.0 q.1),
      length-append (keep b (range low)) (from low u),
      from-length low u,
    )

-- ---- the number of [x=v] and of [x≠v] goes up with v

module _ (w : List ℕ) (ok : cause w ≡ 0) (x low count : ℕ) (some : 0 < count) (h : (v : ℕ) → low ≤ v → v < low + count → Holds w x v) where
  private-rises : publics w ≤ low → (u : ℕ) → number_of (scheme w) (today w) (equals x (low + u)) ≡ number_of (scheme w) (today w) (equals x low) + u
  private-rises p u =
      let l : (scheme w).publics ≤ low = omega (arith, publics-are w) in
      let r = private-held w ok x low (h low (omega arith) (omega arith)).value p in
      omega (arith, l, equals-private (scheme w) x (low + u) (omega arith) r, equals-private (scheme w) x low l r)

  public-rises : low + count ≤ publics w → (u : ℕ) → u < count
      → number_of (scheme w) (today w) (equals x (low + u)) ≡ number_of (scheme w) (today w) (equals x low) + u
  public-rises p u l =
      omega (
        arith,
        equals-public (scheme w) x (low + u) (omega (arith, publics-are w)),
        equals-public (scheme w) x low (omega (arith, publics-are w)),
        count-run ((today w).origins x) low u
            (λ k a b. sym (public-member (scheme w) (accepted w ok) x k (omega (arith, publics-are w))) ∙ (h k a (omega arith)).value),
      )

  pub rises : (low + count ≤ publics w) ⊎ (publics w ≤ low) → (u : ℕ) → u < count
      → number_of (scheme w) (today w) (equals x (low + u)) ≡ number_of (scheme w) (today w) (equals x low) + u
  rises (inl p) u l = public-rises p u l
  rises (inr p) u l = private-rises p u

module _ (w : List ℕ) (ok : cause w ≡ 0) (p : Pair) (q : Paired w p) (way : Way) (low count : ℕ) (run : Telling w p way low count) where
  abbrev S : Scheme
  S = scheme w

  abbrev U : Values
  U = today w

  abbrev num : Place → ℕ
  num x = number_of S U x

  -- ---- the names of a pair

  differ : S.thread (S.home p.send) ≡ S.thread (S.home p.receive) → ⊥
  unfolding scheme
  differ e = q.apart (sym e)

  s : S.branch p.send ≡ send (channel w p.send) (branch_name w p.send) (next w p.send)
  s = sends w ok p q

  r : S.branch p.receive ≡ receive (channel w p.receive) (branch_name w p.receive) (next w p.receive)
  r = receives w ok p q

  z-not-y : p.sent ≡ p.bound → ⊥
  z-not-y e =
      not-y S (accepted w ok) p.send _ _ _ p.receive _ _ _ s r differ (branch_name w p.send)
      ((accepted w ok).send-usable p.send _ _ _ s).1 (sym q.sent_is ∙ e ∙ q.bound-is)

  a-not-y : p.channel ≡ p.bound → ⊥
  a-not-y e =
      not-y S (accepted w ok) p.send _ _ _ p.receive _ _ _ s r differ (channel w p.send)
      ((accepted w ok).send-usable p.send _ _ _ s).0 (sym q.channel-is ∙ e ∙ q.bound-is)

  h-not-y : p.heard ≡ p.bound → ⊥
  h-not-y e = e-not-y S (accepted w ok) p.send _ _ _ p.receive _ _ _ s r differ (sym q.heard-is ∙ e ∙ q.bound-is)

  h-not-z : publics w ≤ p.heard → p.heard ≡ p.sent → ⊥
  h-not-z l e =
      not-heard S (accepted w ok) p.send _ _ _ p.receive _ _ _ s r differ (branch_name w p.send)
      ((accepted w ok).send-usable p.send _ _ _ s).1 (omega (arith, publics-are w, l, q.heard-is)) (sym q.sent_is ∙ sym e ∙ q.heard-is)

  h-not-a : publics w ≤ p.heard → p.heard ≡ p.channel → ⊥
  h-not-a l e =
      not-heard S (accepted w ok) p.send _ _ _ p.receive _ _ _ s r differ (channel w p.send)
      ((accepted w ok).send-usable p.send _ _ _ s).0 (omega (arith, publics-are w, l, q.heard-is)) (sym q.channel-is ∙ sym e ∙ q.heard-is)

  -- ---- the values

  abbrev iAt : ℕ → ℕ
  iAt u = channel_at way (low + u)

  abbrev jAt : ℕ → ℕ
  jAt u = sent_at way (low + u)

  says : (u : ℕ) → u < count → Speaks w p (iAt u) (jAt u)
  says u l = speaks w ok p q (iAt u) (jAt u) (run.can (low + u) (omega arith) (omega arith))

  abbrev A : ℕ → Place
  A u = equals p.channel (iAt u)

  abbrev E : ℕ → Place
  E u = equals p.heard (iAt u)

  abbrev Z : ℕ → Place
  Z u = equals p.sent (jAt u)

  abbrev Y : ℕ → Place
  Y u = equals p.bound (jAt u)

  abbrev D : ℕ → Place
  D u = differs p.bound (jAt u)

  -- a value that moves is that of the run, and one that does not stays
  moved : (f : Bool) (o u : ℕ) → f ≡ true → pick f (low + u) o ≡ low + u
  moved f o u e = rw e

  stayed : (f : Bool) (o u : ℕ) → f ≡ false → pick f (low + u) o ≡ pick f (low + 0) o
  stayed f o u e = rw e

  -- the places of name x go up, if its value moves
  up : (x : ℕ) (f : Bool) (o : ℕ) → ((u : ℕ) → u < count → Holds w x (pick f (low + u) o)) → f ≡ true → (u : ℕ) → u < count
      → num (equals x (pick f (low + u) o)) ≡ num (equals x (pick f (low + 0) o)) + u
  up x f o h e u l =
      let z : low + 0 ≡ low = omega arith in
      rw (e, z) (rises w ok x low count run.some each run.kind u l)
    where
      each : (v : ℕ) → low ≤ v → v < low + count → Holds w x v
      each v a b =
          let g : low + (v - low) ≡ v = omega arith in
          subst (λ (k : ℕ). Holds w x k) (moved f o (v - low) e ∙ g) (h (v - low) (omega arith))

  module _ (t : ℕ) (lt : t < count) (spots : Spots) (sp : Spotted w p (iAt 0) (jAt 0) spots) where
    abbrev ma : ℕ
    ma = pick way.channels spots.channel no_spot

    abbrev me : ℕ
    me = pick way.channels spots.heard no_spot

    abbrev mz : ℕ
    mz = pick way.sents spots.sent no_spot

    abbrev my : ℕ
    my = pick way.sents spots.bound no_spot

    abbrev md : ℕ
    md = pick way.sents spots.free no_spot

    abbrev ms : List ℕ
    ms = ma ∷ me ∷ mz ∷ my ∷ md ∷ []

    abbrev Goes : ℕ → (ℕ → Place) → Type 0
    Goes m P = (m ≡ no_spot) ⊎ Track S U ms t m P

    abbrev Moved : List Place → List Place → Type 0
    Moved ps qs = Shifted S U ms t ps qs

    -- a number that rises is that of a place, and those that it comes to are there
    goes : (f : Bool) (P : ℕ → Place) (x : ℕ) → x ≡ spot_of w (P 0) → ((u : ℕ) → u ≤ t → Exists S U (P u))
        → (f ≡ true → (u : ℕ) → u ≤ t → num (P u) ≡ num (P 0) + u) → Goes (pick f x no_spot) P
    goes true P x e h n = inr (record {
      there = h;
      number = λ u l. n refl u l ∙ omega (arith, e, spot-there w (P 0) (h 0 (omega arith)));
    })
    goes false P x e h n = inl refl

    absent : (f : Bool) (P : ℕ → Place) (x : ℕ) → x ≡ spot_of w (P 0) → exists S U (P 0) ≡ false → Goes (pick f x no_spot) P
    absent true P x e h = inl (e ∙ spot-none w (P 0) h)
    absent false P x e h = inl refl

    -- the number of a place that rises is its own
    own : (f : Bool) (x : Place) (n : ℕ) → n ≡ spot_of w x → Exists S U x → Apart S U ms t f (num x) (pick f n no_spot)
    own true x n e h = inr (sym (e ∙ spot-there w x h), refl)
    own false x n e h = inl (λ u l k. omega (arith, number-few w ok x h))

    other : (f g : Bool) (P : ℕ → Place) (n : ℕ) → Goes (pick g n no_spot) P → (x : Place) → Exists S U x → ((u : ℕ) → x ≡ P u → ⊥)
        → Apart S U ms t f (num x) (pick g n no_spot)
    other f g P n h x e d = inl (misses S U ms t (pick g n no_spot) P h x e (number-few w ok x e) d)

    less : (u : ℕ) → u ≤ t → u < count
    less u l = omega arith

    -- ---- what is known of each name

    holds-a : publics w ≤ p.channel → (u : ℕ) → u < count → Holds w p.channel (iAt u)
    holds-a l u h = reads-holds w p.channel (iAt u) (says u h).channel l

    holds-e : publics w ≤ p.heard → (u : ℕ) → u < count → Holds w p.heard (iAt u)
    holds-e l u h = reads-holds w p.heard (iAt u) (says u h).heard l

    holds-z : publics w ≤ p.sent → (u : ℕ) → u < count → Holds w p.sent (jAt u)
    holds-z l u h = reads-holds w p.sent (jAt u) (says u h).sent l

    holds-y : (u : ℕ) → u < count → Holds w p.bound (jAt u)
    holds-y u h = (says u h).gives

    in_row : (x : ℕ) (f : Bool) (o n : ℕ) → n ≡ spot_of w (equals x (pick f (low + 0) o))
        → (publics w ≤ x → (u : ℕ) → u < count → Holds w x (pick f (low + u) o)) → Goes (pick f n no_spot) (λ u. equals x (pick f (low + u) o))
    in_row x f o n e h = go (dec_le (publics w) x)
      where
        go : Dec (publics w ≤ x) → Goes (pick f n no_spot) (λ u. equals x (pick f (low + u) o))
        go (yes l) =
            goes f (λ u. equals x (pick f (low + u) o)) n e (λ u k. holds-exists w x (pick f (low + u) o) (h l u (less u k)))
            (λ b u k. up x f o (h l) b u (less u k))
        go (no l) = absent f (λ u. equals x (pick f (low + u) o)) n e (public-none w x (pick f (low + 0) o) (omega arith))

    goes-a : Goes ma A
    goes-a = in_row p.channel way.channels way.other spots.channel sp.channel-is holds-a

    goes-e : Goes me E
    goes-e = in_row p.heard way.channels way.other spots.heard sp.heard-is holds-e

    goes-z : Goes mz Z
    goes-z = in_row p.sent way.sents way.other spots.sent sp.sent_is holds-z

    goes-y : Goes my Y
    goes-y = in_row p.bound way.sents way.other spots.bound sp.bound-is (λ l u h. holds-y u h)

    -- [y≠v] is there where v is private
    sent-kind : ((u : ℕ) → u < count → jAt u < publics w) ⊎ ((u : ℕ) → u < count → publics w ≤ jAt u)
    sent-kind = go way.sents run.kind
      where
        go : (f : Bool) → (low + count ≤ publics w) ⊎ (publics w ≤ low)
            → ((u : ℕ) → u < count → pick f (low + u) way.other < publics w) ⊎ ((u : ℕ) → u < count → publics w ≤ pick f (low + u) way.other)
        go true (inl k) = inl (λ u l. omega arith)
        go true (inr k) = inr (λ u l. omega arith)
        go false k = one (dec_le (publics w) way.other)
          where
            one : Dec (publics w ≤ way.other) → ((u : ℕ) → u < count → way.other < publics w) ⊎ ((u : ℕ) → u < count → publics w ≤ way.other)
            one (yes l) = inr (λ u h. l)
            one (no l) = inl (λ u h. omega arith)

    number-d : ((u : ℕ) → u < count → publics w ≤ jAt u) → way.sents ≡ true → (u : ℕ) → u ≤ t → num (D u) ≡ num (D 0) + u
    number-d k e u l =
        let d0 = (says 0 run.some).differs (k 0 run.some) in
        let b : S.publics ≤ p.bound = omega (arith, publics-are w, d0.low) in
        let j0 : jAt 0 ≡ low + 0 = rw e in
        let ju : jAt u ≡ low + u = rw e in
        omega (
          arith,
          publics-are w,
          k 0 run.some,
          differs-private S p.bound (jAt u) b d0.reads,
          differs-private S p.bound (jAt 0) b d0.reads,
        )

    goes-d : Goes md D
    goes-d = go sent-kind
      where
        go : ((u : ℕ) → u < count → jAt u < publics w) ⊎ ((u : ℕ) → u < count → publics w ≤ jAt u) → Goes md D
        go (inl k) = absent way.sents D spots.free sp.free-is (differs_none w p.bound (jAt 0) (k 0 run.some))
        go (inr k) =
            goes way.sents D spots.free sp.free-is
            (λ u l. differs-exists w p.bound (jAt u) ((says u (less u l)).differs (k u (less u l)))) (number-d k)

    -- ---- each place

    five : (Q : ℕ → Type 0) → Q ma → Q me → Q mz → Q my → Q md → (m : ℕ) → member m ms ≡ true → Q m
    five Q = each_of Q ma me mz my md

    in-a : member ma ms ≡ true
    in-a = member-here ma (me ∷ mz ∷ my ∷ md ∷ [])

    in_e : member me ms ≡ true
    in_e = member-there me ma (me ∷ mz ∷ my ∷ md ∷ []) (member-here me (mz ∷ my ∷ md ∷ []))

    in-z : member mz ms ≡ true
    in-z = member-there mz ma (me ∷ mz ∷ my ∷ md ∷ []) (member-there mz me (mz ∷ my ∷ md ∷ []) (member-here mz (my ∷ md ∷ [])))

    in-y : member my ms ≡ true
    in-y =
        member-there my ma (me ∷ mz ∷ my ∷ md ∷ [])
        (member-there my me (mz ∷ my ∷ md ∷ []) (member-there my mz (my ∷ md ∷ []) (member-here my (md ∷ []))))

    in-d : member md ms ≡ true
    in-d =
        member-there md ma (me ∷ mz ∷ my ∷ md ∷ [])
        (member-there md me (mz ∷ my ∷ md ∷ []) (member-there md mz (my ∷ md ∷ []) (member-there md my (md ∷ []) (member-here md []))))

    -- one that rises stands among the numbers that do
    listed : (f : Bool) (x : Place) (n : ℕ) → n ≡ spot_of w x → Exists S U x → member (pick f n no_spot) ms ≡ true → f ≡ true → member (num x) ms ≡ true
    listed f x n e h m b = ap (λ (k : ℕ). member k ms) (sym (spot-there w x h) ∙ sym e ∙ sym (pick_true n no_spot b)) ∙ m

    -- the place of a name in a row
    row_on : (x : ℕ) (f : Bool) (o n : ℕ) → n ≡ spot_of w (equals x (pick f (low + 0) o))
        → (publics w ≤ x → (u : ℕ) → u < count → Holds w x (pick f (low + u) o)) → member (pick f n no_spot) ms ≡ true
        → (publics w ≤ x → Exists S U (equals x (pick f (low + 0) o)) → (m : ℕ) → member m ms ≡ true
        → Apart S U ms t f (num (equals x (pick f (low + 0) o))) m)
        → (ps qs : List Place) → Moved ps qs → Moved (equals x (pick f (low + 0) o) ∷ ps) (equals x (pick f (low + t) o) ∷ qs)
    row_on x f o n e h i apart ps qs m = go (dec_le (publics w) x)
      where
        go : Dec (publics w ≤ x) → Moved (equals x (pick f (low + 0) o) ∷ ps) (equals x (pick f (low + t) o) ∷ qs)
        go (yes l) =
            let e0 = holds-exists w x (pick f (low + 0) o) (h l 0 run.some) in
            shift-on S U ms t f (equals x (pick f (low + 0) o)) (equals x (pick f (low + t) o)) e0 (holds-exists w x (pick f (low + t) o) (h l t lt))
            (λ b. up x f o (h l) b t lt) (listed f (equals x (pick f (low + 0) o)) n e e0 i) (λ b. ap (equals x) (stayed f o t b)) (apart l e0) ps qs m
        go (no l) =
            shift-no S U ms t (equals x (pick f (low + 0) o)) (equals x (pick f (low + t) o)) ps qs (public-none w x (pick f (low + 0) o) (omega arith))
            (public-none w x (pick f (low + t) o) (omega arith)) m

    -- no [x=v] is a [y≠v]
    not-d : (x v u : ℕ) → equals x v ≡ D u → ⊥
    not-d x v u e = let k : ◌≡◌ {A = ℕ} 0 1 = cc in omega arith

    -- the channel and the sent name may be one; then both move
    a-and-z : (x : Place) → x ≡ A 0 → publics w ≤ p.channel → Exists S U (A 0) → Apart S U ms t way.channels (num (A 0)) mz
    a-and-z x k l h = go (ℕ_discrete p.sent p.channel)
      where
        go : Dec (p.sent ≡ p.channel) → Apart S U ms t way.channels (num (A 0)) mz
        go (yes e) =
            let (b, c) = run.together e in
            let i : A 0 ≡ Z 0 = rw (e, b, c) in
            let g : Exists S U (Z 0) = subst (λ (y : Place). Exists S U y) i h in
            inr (ap num i ∙ sym (pick_true spots.sent no_spot c ∙ sp.sent_is ∙ spot-there w (Z 0) g), b)
        go (no e) = other way.channels way.sents Z spots.sent goes-z (A 0) h (λ u f. e (sym (same_name f)))
          where
            same_name : {x y v z : ℕ} → equals x v ≡ equals y z → x ≡ y
            same_name f = cc

    z-and-a : publics w ≤ p.sent → Exists S U (Z 0) → Apart S U ms t way.sents (num (Z 0)) ma
    z-and-a l h = go (ℕ_discrete p.sent p.channel)
      where
        go : Dec (p.sent ≡ p.channel) → Apart S U ms t way.sents (num (Z 0)) ma
        go (yes e) =
            let (b, c) = run.together e in
            let i : Z 0 ≡ A 0 = rw (e, b, c) in
            let g : Exists S U (A 0) = subst (λ (y : Place). Exists S U y) i h in
            inr (ap num i ∙ sym (pick_true spots.channel no_spot b ∙ sp.channel-is ∙ spot-there w (A 0) g), c)
        go (no e) = other way.sents way.channels A spots.channel goes-a (Z 0) h (λ u f. e (cc))

    on-a : (ps qs : List Place) → Moved ps qs → Moved (A 0 ∷ ps) (A t ∷ qs)
    on-a = row_on p.channel way.channels way.other spots.channel sp.channel-is holds-a in-a
        (λ l h. let f = way.channels in
        five (λ m. Apart S U ms t way.channels (num (A 0)) m) (own f (A 0) spots.channel sp.channel-is h)
        (other f f E spots.heard goes-e (A 0) h (λ u k. heard-apart u k l))
        (a-and-z (A 0) refl l h)
        (other f way.sents Y spots.bound goes-y (A 0) h (λ u k. a-not-y (cc)))
        (other f way.sents D spots.free goes-d (A 0) h (not-d p.channel (iAt 0))))
      where
        heard-apart : (u : ℕ) → A 0 ≡ E u → publics w ≤ p.channel → ⊥
        heard-apart u k l = let e : p.channel ≡ p.heard = cc in h-not-a (omega arith) (sym e)

    on-e : (ps qs : List Place) → Moved ps qs → Moved (E 0 ∷ ps) (E t ∷ qs)
    on-e = row_on p.heard way.channels way.other spots.heard sp.heard-is holds-e in_e
        (λ l h. let f = way.channels in
        five (λ m. Apart S U ms t way.channels (num (E 0)) m)
        (other f f A spots.channel goes-a (E 0) h (λ u k. h-not-a l (cc)))
        (own f (E 0) spots.heard sp.heard-is h)
        (other f way.sents Z spots.sent goes-z (E 0) h (λ u k. h-not-z l (cc)))
        (other f way.sents Y spots.bound goes-y (E 0) h (λ u k. h-not-y (cc)))
        (other f way.sents D spots.free goes-d (E 0) h (not-d p.heard (iAt 0))))

    on-z : (ps qs : List Place) → Moved ps qs → Moved (Z 0 ∷ ps) (Z t ∷ qs)
    on-z = row_on p.sent way.sents way.other spots.sent sp.sent_is holds-z in-z
        (λ l h. let f = way.sents in
        five (λ m. Apart S U ms t way.sents (num (Z 0)) m)
        (z-and-a l h)
        (other f way.channels E spots.heard goes-e (Z 0) h (λ u k. heard-apart u k l))
        (own f (Z 0) spots.sent sp.sent_is h)
        (other f f Y spots.bound goes-y (Z 0) h (λ u k. z-not-y (cc)))
        (other f f D spots.free goes-d (Z 0) h (not-d p.sent (jAt 0))))
      where
        heard-apart : (u : ℕ) → Z 0 ≡ E u → publics w ≤ p.sent → ⊥
        heard-apart u k l = let e : p.sent ≡ p.heard = cc in h-not-z (omega arith) (sym e)

    on-y : (ps qs : List Place) → Moved ps qs → Moved (Y 0 ∷ ps) (Y t ∷ qs)
    on-y = row_on p.bound way.sents way.other spots.bound sp.bound-is (λ l u h. holds-y u h) in-y
        (λ l h. let f = way.sents in
        five (λ m. Apart S U ms t way.sents (num (Y 0)) m)
        (other f way.channels A spots.channel goes-a (Y 0) h (λ u k. a-not-y (sym (cc))))
        (other f way.channels E spots.heard goes-e (Y 0) h (λ u k. h-not-y (sym (cc))))
        (other f f Z spots.sent goes-z (Y 0) h (λ u k. z-not-y (sym (cc))))
        (own f (Y 0) spots.bound sp.bound-is h)
        (other f f D spots.free goes-d (Y 0) h (not-d p.bound (jAt 0))))

    on-d : (ps qs : List Place) → Moved ps qs → Moved (D 0 ∷ ps) (D t ∷ qs)
    on-d ps qs m = go sent-kind
      where
        off : (x v u : ℕ) → D 0 ≡ equals x v → ⊥
        off x v u e = let k : ◌≡◌ {A = ℕ} 0 1 = cc in omega arith

        go : ((u : ℕ) → u < count → jAt u < publics w) ⊎ ((u : ℕ) → u < count → publics w ≤ jAt u) → Moved (D 0 ∷ ps) (D t ∷ qs)
        go (inl k) =
            shift-no S U ms t (D 0) (D t) ps qs (differs_none w p.bound (jAt 0) (k 0 run.some)) (differs_none w p.bound (jAt t) (k t lt)) m
        go (inr k) =
            let f = way.sents in
            let h = differs-exists w p.bound (jAt 0) ((says 0 run.some).differs (k 0 run.some)) in
            shift-on S U ms t way.sents (D 0) (D t) h (differs-exists w p.bound (jAt t) ((says t lt).differs (k t lt)))
            (λ b. number-d k b t (omega arith)) (listed f (D 0) spots.free sp.free-is h in-d) (λ b. ap (differs p.bound) (stayed f way.other t b))
            (five (λ m. Apart S U ms t way.sents (num (D 0)) m)
            (other f way.channels A spots.channel goes-a (D 0) h (λ u. off p.channel (iAt u) u))
            (other f way.channels E spots.heard goes-e (D 0) h (λ u. off p.heard (iAt u) u))
            (other f f Z spots.sent goes-z (D 0) h (λ u. off p.sent (jAt u) u))
            (other f f Y spots.bound goes-y (D 0) h (λ u. off p.bound (jAt u) u))
            (own f (D 0) spots.free sp.free-is h)) ps qs m

    on-control : (n : ℕ) → n < nodes w → (ps qs : List Place) → Moved ps qs → Moved (control n 0 ∷ ps) (control n 0 ∷ qs)
    on-control n l =
        let h = control-exists w n l in
        shift-on S U ms t false (control n 0) (control n 0) h h (λ b. absurd (true≢false (sym b))) (λ b. absurd (true≢false (sym b))) (λ b. refl)
        (five (λ m. Apart S U ms t false (num (control n 0)) m)
        (other false way.channels A spots.channel goes-a (control n 0) h (λ u. off p.channel (iAt u)))
        (other false way.channels E spots.heard goes-e (control n 0) h (λ u. off p.heard (iAt u)))
        (other false way.sents Z spots.sent goes-z (control n 0) h (λ u. off p.sent (jAt u)))
        (other false way.sents Y spots.bound goes-y (control n 0) h (λ u. off p.bound (jAt u)))
        (other false way.sents D spots.free goes-d (control n 0) h away))
      where
        off : (x v : ℕ) → control n 0 ≡ equals x v → ⊥
        off x v e = let k : ◌≡◌ {A = ℕ} 0 1 = cc in omega arith

        away : (u : ℕ) → control n 0 ≡ D u → ⊥
        away u e = let k : ◌≡◌ {A = ℕ} 0 1 = cc in omega arith

    -- ---- the transition of value low + t

    reads-move : Moved (Z 0 ∷ E 0 ∷ A 0 ∷ []) (Z t ∷ E t ∷ A t ∷ [])
    reads-move = on-z _ _ (on-e _ _ (on-a [] [] (shift_none S U ms t)))

    takes-move : Moved (takes_of w p (iAt 0) (jAt 0)) (takes_of w p (iAt t) (jAt t))
    takes-move =
        on-control (home w p.receive) (home-inside w ok p q p.receive) _ _
        (on-control (home w p.send) (home-inside w ok p q p.send) _ _ (on-d _ _ reads-move))

    gives_move : Moved (gives_of w p (iAt 0) (jAt 0)) (gives_of w p (iAt t) (jAt t))
    gives_move =
        on-control (next w p.receive) (receive-next w ok p q) _ _
        (on-control (next w p.send) (send-next w ok p q) _ _ (on-y _ _ reads-move))

    risen-told : (arcs : Arcs) → Tells w p (iAt 0) (jAt 0) arcs → of_table w (told_by w p way (low + t)) ≡ risen 4 p.send p.receive arcs ms t
    risen-told arcs e =
        let d = of_table w (told_by w p way (low + t)) in
        let ins : d.inputs ≡ map (rise ms t) (ins_of arcs) =
        told-inputs w ok p q (iAt t) (jAt t) ∙ takes-move.is ∙ ap (map (rise ms t)) (sym (e.ins-are ∙ told-inputs w ok p q (iAt 0) (jAt 0))) in
        let outs : d.outputs ≡ map (rise ms t) (outs_of arcs) =
        told-outputs w ok p q (iAt t) (jAt t) ∙ gives_move.is ∙ ap (map (rise ms t)) (sym (e.outs-are ∙ told-outputs w ok p q (iAt 0) (jAt 0))) in
        ap (λ (l : List ℕ). arrow 4 p.send p.receive l d.outputs) ins
        ∙ ap (λ (l : List ℕ). arrow 4 p.send p.receive (map (rise ms t) (ins_of arcs)) l) outs

  -- ---- the whole run

  module _ (arcs : Arcs) (spots : Spots) (tells : Tells w p (channel_at way low) (sent_at way low) arcs)
      (sp : Spotted w p (channel_at way low) (sent_at way low) spots) (out : List ℕ) (h : Heads) where
    z : low ≡ low + 0
    z = omega arith

    pub run-series : put w out h (map (told_by w p way) (from low count))
        ≡ put_all (risen 4 p.send p.receive arcs (risers_of way spots)) (state out h) (range count)
    run-series =
        ap (λ (j : ℕ). put w out h (map (told_by w p way) (from j count))) z
        ∙ put-run (of_table w) (told_by w p way) (risen 4 p.send p.receive arcs (risers_of way spots)) low count 0 (state out h)
        (λ t l u. risen-told t (omega arith) spots
        (subst (λ (v : ℕ). Spotted w p (channel_at way v) (sent_at way v) spots) z sp) arcs
        (subst (λ (v : ℕ). Tells w p (channel_at way v) (sent_at way v) arcs) z tells))

  -- ---- what the calls ask

  pub run-few : (p.send < 65536) × (p.receive < 65536) × (count < 65536)
  run-few = (
    branch-small w ok p q p.send q.send-inside,
    branch-small w ok p q p.receive q.receive_inside,
    omega (arith, run.few),
  )
