-- Lists of values, and of the releases and copies of a node: which elements they have.
use Prim.Native.Nat.{ℕ, zero, suc, ◌+◌, ◌≤◌, ◌<◌}
use mathlib.Core.Path.{◌≡◌, refl, sym, ◌∙◌}
use mathlib.Core.Logic.{◌⊎◌, inl, inr}
use mathlib.Core.Bool.{Bool, true, false, ◌&&◌, ◌||◌}
use mathlib.Core.List.{List, [], ◌∷◌, map}
use native.Mathlib.Omega.{arith}
use native.Mathlib.Nat.{not-suc-le-zero, le_of_suc-le-suc}
use lib.Dec.{ltb}
use lib.ListN.{length, get_or}
use borrow.Author.Tests.{lt-ltb, le-ltb, ltb-true, ltb-false}
use Rattle.lists.specs.Lists.{pick, range, member}
use Rattle.lists.proofs.Tests.{and_left, and_right, and_intro}
use Rattle.lists.proofs.Ranges.{member-from, from_member}
use Rattle.lists.proofs.Members.{member-here, one-member, member-keep}
use Rattle.scheme.specs.Scheme.{Scheme, stop, call, send, receive}
use Rattle.table.specs.Accepted.{NameOf, Usable, Accepted}
use Rattle.places.specs.Values.{Values, values_of, shares}
use Rattle.places.specs.Places.{controls, common, is_common}
use Rattle.places.specs.Transitions.{move, Description, on, releasing, releases, copying, copies, calling}
use Rattle.readback.specs.Configurations.{spot}
use Rattle.readback.proofs.Elements.{Element, no-element, element-left, element-right, append-element, element-map, map-element, element-member}
use Rattle.readback.proofs.Elements.{member-element}
use Rattle.fidelity.specs.Inner.Marks.{allows, Takes, Meets}
use Rattle.fidelity.specs.Inner.Shapes.{chain, onward, entering, copying_at, releasing_at, ending}

suc-test : (a b : ℕ) → ltb (suc a) (suc b) ≡ ltb a b
suc-test a b = go (ltb a b) refl
  where
    go : (β : Bool) → ltb a b ≡ β → ltb (suc a) (suc b) ≡ β
    go true e = let l : a < b = ltb-true a b e in lt-ltb (suc a) (suc b) (omega arith)
    go false e = let l : b ≤ a = ltb-false a b e in le-ltb (suc a) (suc b) (omega arith)

pub below-range : (v n : ℕ) → v < n → member v (range n) ≡ true
below-range v n l = member-from v 0 n (omega arith) (omega arith)

pub range-below : (v n : ℕ) → member v (range n) ≡ true → v < n
range-below v n m = omega (arith, (from_member v 0 n m).1)

module _ (S : Scheme) (U : Values) (A : Accepted S) where
  -- ---- values of names

  pub takes-member : (x v : ℕ) → Takes S U x v → member v (values_of S U x) ≡ true
  unfolding values_of allows
  takes-member x v (inl (lo, hi, al)) =
      rw (le-ltb x S.publics lo, member-keep (U.reach x) v (range (S.publics + U.privates)))
      (and_intro (U.reach x v) (member v (range (S.publics + U.privates))) (and_right (ltb v (S.publics + U.privates)) (U.reach x v) al)
      (below-range v (S.publics + U.privates) (ltb-true v (S.publics + U.privates) (and_left (ltb v (S.publics + U.privates)) (U.reach x v) al))))
  takes-member x v (inr (l, e)) = rw (lt-ltb x S.publics l, e) (member-here x [])

  pub bound-values : (x v : ℕ) → S.publics ≤ x → member v (values_of S U x) ≡ true → allows S U x v ≡ true
  unfolding values_of allows
  bound-values x v lo m =
      let k : (U.reach x v && member v (range (S.publics + U.privates))) ≡ true
      = sym (member-keep (U.reach x) v (range (S.publics + U.privates))) ∙ (rw (le-ltb x S.publics lo) at m) in
      and_intro (ltb v (S.publics + U.privates)) (U.reach x v)
      (lt-ltb v (S.publics + U.privates) (range-below v (S.publics + U.privates)
      (and_right (U.reach x v) (member v (range (S.publics + U.privates))) k)))
      (and_left (U.reach x v) (member v (range (S.publics + U.privates))) k)

  public-values : (x v : ℕ) → x < S.publics → member v (values_of S U x) ≡ true → v ≡ x
  unfolding values_of
  public-values x v l m = one-member v x (rw (lt-ltb x S.publics l) at m)

  pub member-takes : (n x v : ℕ) → Usable S n x → member v (values_of S U x) ≡ true → Takes S U x v
  member-takes n x v (inl l) m = inr (l, public-values x v l m)
  member-takes n x v (inr h) m = let nm : NameOf S (S.thread n) x = A.held-name n x h in inl (nm.low, nm.high, bound-values x v nm.low m)

  -- a common channel value is a value of both channels that can meet
  pub common-takes : (s a z l r e y m i : ℕ) → S.branch s ≡ send a z l → S.branch r ≡ receive e y m → member i (common S U a e) ≡ true
      → Takes S U a i × Takes S U e i × Meets S U a e i
  common-takes s a z l r e y m i hs hr h =
      let c : (is_common S U a e i && member i (values_of S U a)) ≡ true = sym (member-keep (is_common S U a e) i (values_of S U a)) ∙ h in
      let b : is_common S U a e i ≡ true = and_left (is_common S U a e i) (member i (values_of S U a)) c in (
        member-takes (S.home s) a i (A.send-usable s a z l hs).0 (and_right (is_common S U a e i) (member i (values_of S U a)) c),
        member-takes (S.home r) e i (A.receive-usable r e y m hr) (and_left (member i (values_of S U e)) (ltb i S.publics || shares S U a e) b),
        and_right (member i (values_of S U e)) (ltb i S.publics || shares S U a e) b,
      )

  -- and a value of both that can meet is common
  pub takes-common : (a e i : ℕ) → Takes S U a i → Takes S U e i → Meets S U a e i → member i (common S U a e) ≡ true
  takes-common a e i ta te mt =
      member-keep (is_common S U a e) i (values_of S U a)
      ∙ and_intro (is_common S U a e i) (member i (values_of S U a))
      (and_intro (member i (values_of S U e)) (ltb i S.publics || shares S U a e) (takes-member e i te) mt) (takes-member a i ta)

  -- ---- releases and copies

  -- t is the release of name j of the list, at place k + j of node n
  pub record Releases (n m k : ℕ) (zs : List ℕ) (t : Description) : Type 0 where
    pub place : ℕ
    pub value : ℕ
    pub inside : place < length zs
    pub held : member value (values_of S U (get_or zs place 0)) ≡ true
    pub is : t ≡ releasing S U n m (k + place) (get_or zs place 0) value

  pub releases-element : (n m k : ℕ) (zs : List ℕ) {t : Description} → Element t (releases S U n m k zs) → Releases n m k zs t
  unfolding releases
  releases-element n m k [] e = no-element e
  releases-element n m k (z ∷ zs) {t} e =
      go (append-element (map (releasing S U n m k z) (values_of S U z)) (releases S U n m (suc k) zs) e) (releases-element n m (suc k) zs)
    where
      later : Releases n m (suc k) zs t → Releases n m k (z ∷ zs) t
      later r =
          let p : k + suc r.place ≡ suc k + r.place = omega arith in
          record { place = suc r.place; value = r.value; inside = omega (arith, r.inside); held = r.held; is = rw p r.is }

      now : (v : ℕ) × Element v (values_of S U z) × (t ≡ releasing S U n m k z v) → Releases n m k (z ∷ zs) t
      now (v, i, q) =
          let p : k + 0 ≡ k = omega arith in
          record { place = 0; value = v; inside = omega arith; held = element-member (values_of S U z) i; is = rw p q }

      go : Element t (map (releasing S U n m k z) (values_of S U z)) ⊎ Element t (releases S U n m (suc k) zs)
          → (Element t (releases S U n m (suc k) zs) → Releases n m (suc k) zs t) → Releases n m k (z ∷ zs) t
      go (inl i) ih = now (map-element (releasing S U n m k z) (values_of S U z) i)
      go (inr i) ih = later (ih i)

  pub element-releases : (n m k : ℕ) (zs : List ℕ) (j v : ℕ) → j < length zs → member v (values_of S U (get_or zs j 0)) ≡ true
      → Element (releasing S U n m (k + j) (get_or zs j 0) v) (releases S U n m k zs)
  unfolding releases
  element-releases n m k [] j v l h = absurd (not-suc-le-zero l)
  element-releases n m k (z ∷ zs) zero v l h =
      let p : k + 0 ≡ k = omega arith in
      rw p
      (element-left (map (releasing S U n m k z) (values_of S U z)) (releases S U n m (suc k) zs)
      (element-map (releasing S U n m k z) (values_of S U z) (member-element v (values_of S U z) h)))
  element-releases n m k (z ∷ zs) (suc j) v l h =
      let p : k + suc j ≡ suc k + j = omega arith in
      rw p
      (element-right (map (releasing S U n m k z) (values_of S U z)) (releases S U n m (suc k) zs)
      (element-releases n m (suc k) zs j v (le_of_suc-le-suc l) h))

  -- t is the copy of formal j from argument j, at place k + j of node n
  pub record Copies (n m k : ℕ) (fs args : List ℕ) (t : Description) : Type 0 where
    pub place : ℕ
    pub value : ℕ
    pub inside : place < length fs
    pub beside : place < length args
    pub held : member value (values_of S U (get_or args place 0)) ≡ true
    pub is : t ≡ copying S U n m (k + place) (get_or fs place 0) (get_or args place 0) value

  pub copies-element : (n m k : ℕ) (fs args : List ℕ) {t : Description} → Element t (copies S U n m k fs args) → Copies n m k fs args t
  unfolding copies
  copies-element n m k [] args e = no-element e
  copies-element n m k (f ∷ fs) [] e = no-element e
  copies-element n m k (f ∷ fs) (a ∷ args) {t} e =
      go (append-element (map (copying S U n m k f a) (values_of S U a)) (copies S U n m (suc k) fs args) e) (copies-element n m (suc k) fs args)
    where
      later : Copies n m (suc k) fs args t → Copies n m k (f ∷ fs) (a ∷ args) t
      later r =
          let p : k + suc r.place ≡ suc k + r.place = omega arith in
          record {
            place = suc r.place;
            value = r.value;
            inside = omega (arith, r.inside);
            beside = omega (arith, r.beside);
            held = r.held;
            is = rw p r.is;
          }

      now : (v : ℕ) × Element v (values_of S U a) × (t ≡ copying S U n m k f a v) → Copies n m k (f ∷ fs) (a ∷ args) t
      now (v, i, q) =
          let p : k + 0 ≡ k = omega arith in
          record { place = 0; value = v; inside = omega arith; beside = omega arith; held = element-member (values_of S U a) i; is = rw p q }

      go : Element t (map (copying S U n m k f a) (values_of S U a)) ⊎ Element t (copies S U n m (suc k) fs args)
          → (Element t (copies S U n m (suc k) fs args) → Copies n m (suc k) fs args t) → Copies n m k (f ∷ fs) (a ∷ args) t
      go (inl i) ih = now (map-element (copying S U n m k f a) (values_of S U a) i)
      go (inr i) ih = later (ih i)

  pub element-copies : (n m k : ℕ) (fs args : List ℕ) (j v : ℕ) → j < length fs → j < length args → member v (values_of S U (get_or args j 0)) ≡ true
      → Element (copying S U n m (k + j) (get_or fs j 0) (get_or args j 0) v) (copies S U n m k fs args)
  unfolding copies
  element-copies n m k [] args j v l o h = absurd (not-suc-le-zero l)
  element-copies n m k (f ∷ fs) [] j v l o h = absurd (not-suc-le-zero o)
  element-copies n m k (f ∷ fs) (a ∷ args) zero v l o h =
      let p : k + 0 ≡ k = omega arith in
      rw p
      (element-left (map (copying S U n m k f a) (values_of S U a)) (copies S U n m (suc k) fs args)
      (element-map (copying S U n m k f a) (values_of S U a) (member-element v (values_of S U a) h)))
  element-copies n m k (f ∷ fs) (a ∷ args) (suc j) v l o h =
      let p : k + suc j ≡ suc k + j = omega arith in
      rw p
      (element-right (map (copying S U n m k f a) (values_of S U a)) (copies S U n m (suc k) fs args)
      (element-copies n m (suc k) fs args j v (le_of_suc-le-suc l) (le_of_suc-le-suc o) h))

  -- ---- where chains lead

  call-on : (n d k : ℕ) → S.node n ≡ call d → on S n k (S.root d) ≡ move n k (onward S d n k).node (onward S d n k).index
  unfolding controls
  call-on n d k h = rw (h, suc-test k (chain S d n)) (go (ltb k (chain S d n)))
    where
      go : (β : Bool) → pick β (move n k n (suc k)) (move n k (S.root d) 0)
          ≡ move n k (pick β (spot n (suc k)) (spot (S.root d) 0)).node (pick β (spot n (suc k)) (spot (S.root d) 0)).index
      go true = refl
      go false = refl

  stop-on : (n j : ℕ) → S.node n ≡ stop → j < length (S.held n) → on S n j n ≡ move n j n (suc j)
  unfolding controls
  stop-on n j h l = rw (h, suc-test j (length (S.held n)), lt-ltb j (length (S.held n)) l)

  pub ending-is : (n j v : ℕ) → S.node n ≡ stop → j < length (S.held n) → releasing S U n n j (get_or (S.held n) j 0) v ≡ ending S U n j v
  ending-is n j v h l = rw (stop-on n j h l)

  pub entering-is : (n d : ℕ) → S.node n ≡ call d → calling S U n (S.root d) ≡ entering S U d n
  entering-is n d h = rw (call-on n d 0 h)

  pub copying-is : (n d j v : ℕ) → S.node n ≡ call d
      → copying S U n (S.root d) (suc j) (get_or (S.formals d) j 0) (get_or (S.arguments n) j 0) v ≡ copying_at S U d n j v
  copying-is n d j v h = rw (call-on n d (suc j) h)

  pub releasing-is : (n d j v : ℕ) → S.node n ≡ call d
      → releasing S U n (S.root d) (suc (length (S.formals d) + j)) (get_or (S.held n) j 0) v ≡ releasing_at S U d n j v
  releasing-is n d j v h = rw (call-on n d (suc (length (S.formals d) + j)) h)
