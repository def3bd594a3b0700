-- The list of descriptions has exactly the descriptions of the kinds told in specs/Inner/Shapes.antt.
use Prim.Native.Nat.{ℕ, suc, ◌+◌, ◌≤◌, ◌<◌}
use mathlib.Core.Path.{◌≡◌, refl}
use mathlib.Core.Logic.{◌≢◌, ◌⊎◌, inl, inr}
use mathlib.Core.Bool.{Bool, true, false}
use mathlib.Core.List.{List, [], ◌∷◌, ◌++◌, map}
use native.Mathlib.Omega.{arith}
use lib.ListN.{length, get_or}
use Rattle.lists.specs.Lists.{pick, same, from, range, flat, member}
use Rattle.lists.proofs.Tests.{same_true, same-no, same_false}
use Rattle.lists.proofs.Ranges.{member-from, from_member}
use Rattle.lists.proofs.Members.{one-member, member-get_or}
use Rattle.scheme.specs.Scheme.{Scheme, Node, stop, choice, new, call, Branch, absent, silent, send, receive}
use Rattle.table.specs.Accepted.{NameOf, Chosen, Accepted}
use Rattle.places.specs.Values.{Values, values_of, private_value_list}
use Rattle.places.specs.Transitions.{Description, releases, copies, making, going, silents, calling, from_node_descriptions, communicating}
use Rattle.places.specs.Places.{common}
use Rattle.places.specs.Transitions.{sent_on, of_pair}
use Rattle.places.specs.Transitions.{descriptions}
use Rattle.readback.proofs.Elements.{Element, here, there, no-element, element-cases, element-left, element-right, append-element, element-map, map-element}
use Rattle.readback.proofs.Elements.{element-flat, flat-element, element-member, member-element}
use Rattle.fidelity.specs.Inner.Marks.{allows, Takes}
use Rattle.fidelity.specs.Inner.Shapes.{entering, copying_at, releasing_at, ending, going_by}
use Rattle.fidelity.specs.Inner.Shapes.{Described, is-new, is-call, is-copy, is-release, is-ending, is-silent, is-communication, EnoughValues}
use Rattle.fidelity.proofs.Tables.{chosen, silent-present, send-present, receive-present}
use Rattle.fidelity.proofs.Listed.{common-takes}
use Rattle.fidelity.proofs.Listed.{below-range, range-below, takes-member, bound-values, member-takes, Releases, releases-element, element-releases}
use Rattle.fidelity.proofs.Listed.{Copies, copies-element}
use Rattle.fidelity.proofs.Listed.{element-copies, ending-is, entering-is, copying-is, releasing-is}

module _ (S : Scheme) (U : Values) (A : Accepted S) (E : EnoughValues S U) where
  held-allows : (n j v : ℕ) → j < length (S.held n) → member v (values_of S U (get_or (S.held n) j 0)) ≡ true → allows S U (get_or (S.held n) j 0) v ≡ true
  held-allows n j v l h =
      bound-values S U A (get_or (S.held n) j 0) v (A.held-name n (get_or (S.held n) j 0) (member-get_or (S.held n) j l)).low h

  -- ---- every element of the list is of a kind

  ending-described : (n : ℕ) {t : Description} → n < S.nodes → S.node n ≡ stop → Releases S U A n n 0 (S.held n) t → Described S U t
  ending-described n l h r =
      let p : 0 + r.place ≡ r.place = omega arith in
      let al : allows S U (get_or (S.held n) r.place 0) r.value ≡ true = held-allows n r.place r.value r.inside r.held in
      rw (r.is, p, ending-is S U A n r.place r.value h r.inside)
      (is-ending n r.place r.value l h r.inside al (λ x. E.private (get_or (S.held n) r.place 0) r.value x al))

  release-described : (n d : ℕ) {t : Description} → S.node n ≡ call d → Releases S U A n (S.root d) (suc (length (S.formals d))) (S.held n) t
      → Described S U t
  release-described n d h r =
      let p : suc (length (S.formals d)) + r.place ≡ suc (length (S.formals d) + r.place) = omega arith in
      let al : allows S U (get_or (S.held n) r.place 0) r.value ≡ true = held-allows n r.place r.value r.inside r.held in
      rw (r.is, p, releasing-is S U A n d r.place r.value h)
      (is-release n d r.place r.value h r.inside al (λ x. E.private (get_or (S.held n) r.place 0) r.value x al))

  copy-described : (n d : ℕ) {t : Description} → S.node n ≡ call d → Copies S U A n (S.root d) 1 (S.formals d) (S.arguments n) t → Described S U t
  copy-described n d h r =
      let p : 1 + r.place ≡ suc r.place = omega arith in
      let tk : Takes S U (get_or (S.arguments n) r.place 0) r.value
      = member-takes S U A n (get_or (S.arguments n) r.place 0) r.value
      (A.argument-usable n d (get_or (S.arguments n) r.place 0) h (member-get_or (S.arguments n) r.place r.beside)) r.held in
      rw (r.is, p, copying-is S U A n d r.place r.value h)
      (is-copy n d r.place r.value h r.inside tk (E.copies n d r.place r.value h r.inside tk))

  new-described : (n r l : ℕ) {t : Description} → S.node n ≡ new r l → (v : ℕ) × Element v (private_value_list S U) × (t ≡ making S U n r l v) → Described S U t
  new-described n r l h (v, i, q) =
      let (lo, hi) = from_member v S.publics U.privates (element-member (private_value_list S U) i) in
      rw q (is-new n r l v h (lo, hi) (E.makes r v (A.new-restricted n r l h) lo hi))

  silent-described : (n b : ℕ) (β : Branch) {t : Description} → S.branch b ≡ β → S.home b ≡ n → Element t (silents S U n b β) → Described S U t
  silent-described n b absent h o e = no-element e
  silent-described n b (silent l) {t} h o e = go (element-cases e)
    where
      go : (t ≡ going S U n b l) ⊎ Element t [] → Described S U t
      go (inl q) = rw (q, ← o) (is-silent b l h)
      go (inr i) = no-element i
  silent-described n b (send a z l) h o e = no-element e
  silent-described n b (receive a y l) h o e = no-element e

  node-described : (n : ℕ) (ν : Node) {t : Description} → n < S.nodes → S.node n ≡ ν → Element t (from_node_descriptions S U n ν) → Described S U t
  node-described n stop l h e = ending-described n l h (releases-element S U A n n 0 (S.held n) e)
  node-described n (choice f c) l h e =
      let (b, i, j) = flat-element (λ b. silents S U n b (S.branch b)) (from f c) e in
      let (lo, hi) = from_member b f c (element-member (from f c) i) in
      silent-described n b (S.branch b) refl (A.choice-home n f c b h lo hi) j
  node-described n (new r m) l h e = new-described n r m h (map-element (making S U n r m) (private_value_list S U) e)
  node-described n (call d) {t} l h e = first (element-cases e)
    where
      cs : List Description
      cs = copies S U n (S.root d) 1 (S.formals d) (S.arguments n)

      rs : List Description
      rs = releases S U n (S.root d) (suc (length (S.formals d))) (S.held n)

      rest : Element t cs ⊎ Element t rs → Described S U t
      rest (inl i) = copy-described n d h (copies-element S U A n (S.root d) 1 (S.formals d) (S.arguments n) i)
      rest (inr i) = release-described n d h (releases-element S U A n (S.root d) (suc (length (S.formals d))) (S.held n) i)

      first : (t ≡ calling S U n (S.root d)) ⊎ Element t (cs ++ rs) → Described S U t
      first (inl q) = rw (q, entering-is S U A n d h) (is-call n d h)
      first (inr i) = rest (append-element cs rs i)

  -- the values of channel and name in a communication
  sent-values : (a z i j : ℕ) → Element j (sent_on S U a z i) → member i (values_of S U a) ≡ true → (member j (values_of S U z) ≡ true) × (z ≡ a → j ≡ i)
  sent-values a z i j e h = go (same z a) refl e
    where
      go : (β : Bool) → same z a ≡ β → Element j (pick β (i ∷ []) (values_of S U z)) → (member j (values_of S U z) ≡ true) × (z ≡ a → j ≡ i)
      go true q k = let p : j ≡ i = one-member j i (element-member (i ∷ []) k) in (rw (p, same_true z a q) h, λ _. p)
      go false q k = (element-member (values_of S U z) k, λ p. absurd (same_false z a q p))

  meeting-described : (s a z l r e y m : ℕ) {t : Description} → S.branch s ≡ send a z l → S.branch r ≡ receive e y m
      → Element t (of_pair S U s (send a z l) r (receive e y m)) → Described S U t
  meeting-described s a z l r e y m {t} hs hr k = go (same (S.thread (S.home s)) (S.thread (S.home r))) refl k
    where
      pairs : ℕ → List Description
      pairs i = map (communicating S U s a z l r e y m i) (sent_on S U a z i)

      values : (df : S.thread (S.home s) ≢ S.thread (S.home r)) (i : ℕ) → Element i (common S U a e)
          → (j : ℕ) × Element j (sent_on S U a z i) × (t ≡ communicating S U s a z l r e y m i j) → Described S U t
      values df i ic (j, js, q) =
          let im : member i (common S U a e) ≡ true = element-member (common S U a e) ic in
          let (jz, own) = sent-values a z i j js (takes-member S U A a i (common-takes S U A s a z l r e y m i hs hr im).0) in
          let tz : Takes S U z j = member-takes S U A (S.home s) z j (A.send-usable s a z l hs).1 jz in
          rw q (is-communication s a z l r e y m i j hs hr df im tz (E.meets s a z l r e y m i j hs hr df im tz) own)

      go : (β : Bool) → same (S.thread (S.home s)) (S.thread (S.home r)) ≡ β → Element t (pick β [] (flat pairs (common S U a e))) → Described S U t
      go true q k = no-element k
      go false q k =
          let (i, ic, jc) = flat-element pairs (common S U a e) k in
          values (same_false (S.thread (S.home s)) (S.thread (S.home r)) q) i ic (map-element (communicating S U s a z l r e y m i) (sent_on S U a z i) jc)

  pair-described : (s r : ℕ) (β γ : Branch) {t : Description} → S.branch s ≡ β → S.branch r ≡ γ → Element t (of_pair S U s β r γ) → Described S U t
  pair-described s r absent γ h k e = no-element e
  pair-described s r (silent l) γ h k e = no-element e
  pair-described s r (send a z l) absent h k e = no-element e
  pair-described s r (send a z l) (silent m) h k e = no-element e
  pair-described s r (send a z l) (send x y m) h k e = no-element e
  pair-described s r (send a z l) (receive x y m) h k e = meeting-described s a z l r x y m h k e
  pair-described s r (receive a y l) γ h k e = no-element e

  pub listed-described : {t : Description} → Element t (descriptions S U) → Described S U t
  unfolding descriptions
  listed-described {t} e = go (append-element by_node by_pair e)
    where
      by_node : List Description
      by_node = flat (λ n. from_node_descriptions S U n (S.node n)) (range S.nodes)

      by_pair : List Description
      by_pair = flat (λ s. flat (λ r. of_pair S U s (S.branch s) r (S.branch r)) (range S.branches)) (range S.branches)

      go : Element t by_node ⊎ Element t by_pair → Described S U t
      go (inl i) =
          let (n, j, k) = flat-element (λ n. from_node_descriptions S U n (S.node n)) (range S.nodes) i in
          node-described n (S.node n) (range-below n S.nodes (element-member (range S.nodes) j)) refl k
      go (inr i) =
          let (s, j, k) = flat-element (λ s. flat (λ r. of_pair S U s (S.branch s) r (S.branch r)) (range S.branches)) (range S.branches) i in
          let (r, o, q) = flat-element (λ r. of_pair S U s (S.branch s) r (S.branch r)) (range S.branches) k in
          pair-described s r (S.branch s) (S.branch r) refl refl q

  -- ---- every description of a kind is an element of the list

  at-node : (n : ℕ) {t : Description} → n < S.nodes → Element t (from_node_descriptions S U n (S.node n)) → Element t (descriptions S U)
  unfolding descriptions
  at-node n l e =
      element-left (flat (λ n. from_node_descriptions S U n (S.node n)) (range S.nodes))
      (flat (λ s. flat (λ r. of_pair S U s (S.branch s) r (S.branch r)) (range S.branches)) (range S.branches))
      (element-flat (λ n. from_node_descriptions S U n (S.node n)) (range S.nodes) (member-element n (range S.nodes) (below-range n S.nodes l)) e)

  at_pair : (s r : ℕ) {t : Description} → s < S.branches → r < S.branches → Element t (of_pair S U s (S.branch s) r (S.branch r))
      → Element t (descriptions S U)
  unfolding descriptions
  at_pair s r l k e =
      element-right (flat (λ n. from_node_descriptions S U n (S.node n)) (range S.nodes))
      (flat (λ s. flat (λ r. of_pair S U s (S.branch s) r (S.branch r)) (range S.branches)) (range S.branches))
      (element-flat (λ s. flat (λ r. of_pair S U s (S.branch s) r (S.branch r)) (range S.branches)) (range S.branches)
      (member-element s (range S.branches) (below-range s S.branches l))
      (element-flat (λ r. of_pair S U s (S.branch s) r (S.branch r)) (range S.branches)
      (member-element r (range S.branches) (below-range r S.branches k)) e))

  held-member : (n j v : ℕ) → j < length (S.held n) → allows S U (get_or (S.held n) j 0) v ≡ true → member v (values_of S U (get_or (S.held n) j 0)) ≡ true
  held-member n j v l al =
      let nm : NameOf S (S.thread n) (get_or (S.held n) j 0) = A.held-name n (get_or (S.held n) j 0) (member-get_or (S.held n) j l) in
      takes-member S U A (get_or (S.held n) j 0) v (inl (nm.low, nm.high, al))

  ending-listed : (n j v : ℕ) → n < S.nodes → S.node n ≡ stop → j < length (S.held n) → allows S U (get_or (S.held n) j 0) v ≡ true
      → Element (ending S U n j v) (descriptions S U)
  ending-listed n j v k h l al =
      let p : 0 + j ≡ j = omega arith in
      at-node n k (rw h (rw (p, ending-is S U A n j v h l) at (element-releases S U A n n 0 (S.held n) j v l (held-member n j v l al))))

  new-listed : (n r l v : ℕ) → S.node n ≡ new r l → S.publics ≤ v → v < S.publics + U.privates → Element (making S U n r l v) (descriptions S U)
  new-listed n r l v h lo hi =
      at-node n (A.new-inside n r l h).0
      (rw h (element-map (making S U n r l) (private_value_list S U) (member-element v (private_value_list S U) (member-from v S.publics U.privates lo hi))))

  module _ (n d : ℕ) (h : S.node n ≡ call d) where
    abbrev copies_here : List Description
    copies_here = copies S U n (S.root d) 1 (S.formals d) (S.arguments n)

    abbrev releases_here : List Description
    releases_here = releases S U n (S.root d) (suc (length (S.formals d))) (S.held n)

    at_call : {t : Description} → Element t (calling S U n (S.root d) ∷ (copies_here ++ releases_here)) → Element t (descriptions S U)
    at_call e = at-node n (A.call-inside n d h).0 (rw h e)

    call-listed : Element (entering S U d n) (descriptions S U)
    call-listed = rw (entering-is S U A n d h) at (at_call here)

    copy-listed : (j v : ℕ) → j < length (S.formals d) → Takes S U (get_or (S.arguments n) j 0) v → Element (copying_at S U d n j v) (descriptions S U)
    copy-listed j v l tk =
        let p : 1 + j ≡ suc j = omega arith in
        rw (p, copying-is S U A n d j v h) at
        (at_call (there (element-left copies_here releases_here
        (element-copies S U A n (S.root d) 1 (S.formals d) (S.arguments n) j v l (rw (A.call-arguments n d h) l)
        (takes-member S U A (get_or (S.arguments n) j 0) v tk)))))

    release-listed : (j v : ℕ) → j < length (S.held n) → allows S U (get_or (S.held n) j 0) v ≡ true → Element (releasing_at S U d n j v) (descriptions S U)
    release-listed j v l al =
        let p : suc (length (S.formals d)) + j ≡ suc (length (S.formals d) + j) = omega arith in
        rw (p, releasing-is S U A n d j v h) at
        (at_call (there (element-right copies_here releases_here
        (element-releases S U A n (S.root d) (suc (length (S.formals d))) (S.held n) j v l (held-member n j v l al)))))

  silent-listed : (b l : ℕ) → S.branch b ≡ silent l → Element (going_by S U b l) (descriptions S U)
  silent-listed b l h =
      at-node (S.home b) (A.home-inside b)
      (rw at.at (element-flat (λ b'. silents S U (S.home b) b' (S.branch b')) (from at.first at.count)
      (member-element b (from at.first at.count) (member-from b at.first at.count at.low at.high)) (rw h here)))
    where
      at : Chosen S (S.home b) b
      at = chosen S A b (silent-present S A b l h)

  sent-listed : (a z i j : ℕ) → member j (values_of S U z) ≡ true → (z ≡ a → j ≡ i) → Element j (sent_on S U a z i)
  sent-listed a z i j h own = go (same z a) refl
    where
      go : (β : Bool) → same z a ≡ β → Element j (pick β (i ∷ []) (values_of S U z))
      go true q = let p : j ≡ i = own (same_true z a q) in rw p here
      go false q = member-element j (values_of S U z) h

  communication-listed : (s a z l r e y m i j : ℕ) → S.branch s ≡ send a z l → S.branch r ≡ receive e y m → S.thread (S.home s) ≢ S.thread (S.home r)
      → member i (common S U a e) ≡ true → Takes S U z j → (z ≡ a → j ≡ i) → Element (communicating S U s a z l r e y m i j) (descriptions S U)
  communication-listed s a z l r e y m i j hs hr df im tz own =
      at_pair s r (A.branch-inside s (send-present S A s a z l hs)) (A.branch-inside r (receive-present S A r e y m hr))
      (rw (hs, hr, same-no (S.thread (S.home s)) (S.thread (S.home r)) df) (element-flat pairs (common S U a e) ic
      (element-map (communicating S U s a z l r e y m i) (sent_on S U a z i) (sent-listed a z i j (takes-member S U A z j tz) own))))
    where
      pairs : ℕ → List Description
      pairs i = map (communicating S U s a z l r e y m i) (sent_on S U a z i)

      ic : Element i (common S U a e)
      ic = member-element i (common S U a e) im

  pub described-listed : {t : Description} → Described S U t → Element t (descriptions S U)
  described-listed (is-new n r l v h p re) = new-listed n r l v h p.0 p.1
  described-listed (is-call n d h) = call-listed n d h
  described-listed (is-copy n d j v h l tk re) = copy-listed n d h j v l tk
  described-listed (is-release n d j v h l re p) = release-listed n d h j v l re
  described-listed (is-ending n j v k h l re p) = ending-listed n j v k h l re
  described-listed (is-silent b l h) = silent-listed b l h
  described-listed (is-communication s a z l r e y m i j hs hr df im tz re own) = communication-listed s a z l r e y m i j hs hr df im tz own
