-- What the code counts for the sends of an accepted table are its communications and their arcs.
use Rattle.std.proofs.Common.{◌≡◌, ℕ, ◌+◌, ◌*◌, ◌<◌, Bool, true, false, ltb, List, [], ◌∷◌, map, length, sym, refl, ap, ◌∙◌, arith}
use native.Mathlib.Decide.{ℕ_discrete}
use lib.ListN.{length-map}
use Rattle.lists.specs.Lists.{pick, range, flat, member}
use Rattle.lists.proofs.Tests.{same-yes, same-no}
use Rattle.lists.proofs.Ranges.{from_member}
use Rattle.lists.proofs.Members.{flat-length}
use Rattle.scheme.specs.Words.{branches, branch_kind, channel, branch_name, next, is_silent, is_send, is_receive}
use Rattle.scheme.specs.Owners.{branch_thread_of}
use Rattle.scheme.specs.Scheme.{Scheme, Branch, absent, silent, send, receive, branch_at, scheme}
use Rattle.table.specs.Causes.{cause}
use Rattle.table.specs.Accepted.{Accepted}
use Rattle.table.proofs.Accepted.{accepted}
use Rattle.places.specs.Values.{Values}
use Rattle.places.specs.Places.{common}
use Rattle.places.specs.Transitions.{Description, communicating, sent_on, of_pair}
use Rattle.places.specs.Inner.Plan.{today, values}
use Rattle.places.specs.Answers.{Sums}
use Rattle.places.specs.Inner.Counting.{bound_bit, public_count, private_count, pair_sums, partner_sums, send_sums}
use Rattle.places.proofs.Totals
use Rattle.places.proofs.Totals.{total-same, total-each, pair-input-sum, pair-output-sum, self-input-sum, self-output-sum}
use Rattle.places.proofs.ByWords.{send-branch, receive-branch}
use Rattle.places.proofs.NodeCounts.{partner-yes, partner-own, partner-no, send-yes, send-no}
use Rattle.places.proofs.NodeSums.{plus, plus-is, plus_none, over-plus, bit_is, among-is, parts}

flat-none : {A : Type 0} (g : ℕ → List A) (xs : List ℕ) → ((x : ℕ) → g x ≡ []) → flat g xs ≡ []
unfolding flat
flat-none g [] f = refl
flat-none g (x ∷ xs) f = rw (f x, flat-none g xs f)

-- ---- products

-- P public and Q private values of z, with c values of the channels
other-inputs : (s c P Q k : ℕ) → s + c * P * (k + 2) + c * Q * (k + 3) ≡ s + c * ((P + Q) * (2 + k) + Q)
other-inputs s c P Q k = omega arith

other-outputs : (s c P Q k : ℕ) → s + c * P * (k + 3) + c * Q * (k + 3) ≡ s + c * ((P + Q) * (3 + k))
other-outputs s c P Q k = omega arith

self-inputs : (s P Q k : ℕ) → s + P * (k + 2) + Q * (k + 3) ≡ s + ((P + Q) * (2 + k) + Q)
self-inputs s P Q k = omega arith

self-outputs : (s P Q k : ℕ) → s + P * (k + 3) + Q * (k + 3) ≡ s + (P + Q) * (3 + k)
self-outputs s P Q k = omega arith

module _ (w : List ℕ) (h : cause w ≡ 0) where
  abbrev S : Scheme
  S = scheme w

  abbrev U : Values
  U = today w

  abbrev ok : Accepted S
  ok = accepted w h

  -- ---- a send and a receive of different threads

  module _ (b r : ℕ) (lb : b < branches w) (lr : r < branches w) (kb : branch_kind w b ≡ 1) (kr : branch_kind w r ≡ 2)
      (differ : S.thread (S.home b) ≡ S.thread (S.home r) → ⊥) (s : Sums) where
    abbrev a : ℕ
    a = channel w b

    abbrev z : ℕ
    z = branch_name w b

    abbrev e : ℕ
    e = channel w r

    abbrev each : ℕ → List Description
    each i = map (communicating S U b a z (next w b) r e (branch_name w r) (next w r) i) (sent_on S U a z i)

    abbrev pairs : List Description
    pairs = flat each (common S U a e)

    sends : S.branch b ≡ send a z (next w b)
    sends = send-branch w h b lb kb

    receives : S.branch r ≡ receive e (branch_name w r) (next w r)
    receives = receive-branch w h r lr kr

    pairs-count : (k : ℕ) → ((i : ℕ) → length (sent_on S U a z i) ≡ k) → length pairs ≡ length (common S U a e) * k
    pairs-count k f =
        flat-length each (common S U a e)
        ∙ total-same (λ i. length (each i)) (λ i. k) (common S U a e)
        (λ i m. length-map (sent_on S U a z i) (communicating S U b a z (next w b) r e (branch_name w r) (next w r) i) ∙ f i)
        ∙ total-each k (common S U a e)

    other-sum : (z ≡ a → ⊥) → pair_sums w b s r ≡ plus w h s pairs
    unfolding pair_sums
    other-sum d =
        let c = length (common S U a e) in
        let P = public_count w (values w z) in
        let Q = private_count w (values w z) in
        let k = bound_bit w a + bound_bit w e + bound_bit w z in
        let q = parts w h (values w z) in
        let t : length pairs ≡ c * length (values w z) = pairs-count (length (values w z)) (λ i. rw (same-no z a d)) in
        let bits : Totals.bound_bit S ok a + (Totals.bound_bit S ok e + Totals.bound_bit S ok z) ≡ k =
        rw (bit_is w h a, bit_is w h e, bit_is w h z) (omega arith) in
        rw (same-no z a d) (plus-is w h s pairs _ _ _
        (rw (t, sym q) (omega arith))
        (rw (pair-input-sum S ok b a z (next w b) r e (branch_name w r) (next w r) sends receives differ d, bits, among-is w h (values w z), sym q)
        (sym (other-inputs s.inputs c P Q k)))
        (rw (pair-output-sum S ok b a z (next w b) r e (branch_name w r) (next w r) sends receives differ d, bits, sym q)
        (sym (other-outputs s.outputs c P Q k))))

    self-sum : z ≡ a → pair_sums w b s r ≡ plus w h s pairs
    unfolding pair_sums
    self-sum d =
        let vs = common S U a e in
        let P = public_count w vs in
        let Q = private_count w vs in
        let k = bound_bit w a + bound_bit w e in
        let q = parts w h vs in
        let t : length pairs ≡ length vs * 1 = pairs-count 1 (λ i. rw (same-yes z a d)) in
        let bits : Totals.bound_bit S ok e + Totals.bound_bit S ok a ≡ k = rw (bit_is w h a, bit_is w h e) (omega arith) in
        rw (same-yes z a d) (plus-is w h s pairs _ _ _
        (rw (t, sym q) (omega arith))
        (rw (self-input-sum S ok b a z (next w b) r e (branch_name w r) (next w r) sends receives differ d, bits, among-is w h vs, sym q)
        (sym (self-inputs s.inputs P Q k)))
        (rw (self-output-sum S ok b a z (next w b) r e (branch_name w r) (next w r) sends receives differ d, bits, sym q)
        (sym (self-outputs s.outputs P Q k))))

    pair-sum : pair_sums w b s r ≡ plus w h s pairs
    pair-sum = go (ℕ_discrete z a)
      where
        go : Dec (z ≡ a) → pair_sums w b s r ≡ plus w h s pairs
        go (yes d) = self-sum d
        go (no d) = other-sum d

  thread-is : (x : ℕ) → S.thread (S.home x) ≡ branch_thread_of w x
  unfolding scheme
  thread-is x = refl

  -- only a receive goes with a send, and only a send with a receive
  no-receive : (b r a z l : ℕ) → (branch_kind w r ≡ 2 → ⊥) → of_pair S U b (send a z l) r (S.branch r) ≡ []
  unfolding scheme branch_at
  no-receive b r a z l k = rw (same-no (branch_kind w r) 2 k) (go (ltb r (branches w)) (is_silent w r) (is_send w r))
    where
      go : (i j o : Bool)
          → of_pair S U b (send a z l) r (pick i (pick j (silent (next w r)) (pick o (send (channel w r) (branch_name w r) (next w r)) absent)) absent) ≡ []
      go true true o = refl
      go true false true = refl
      go true false false = refl
      go false j o = refl

  no-send : (b r : ℕ) (ρ : Branch) → (branch_kind w b ≡ 1 → ⊥) → of_pair S U b (S.branch b) r ρ ≡ []
  unfolding scheme branch_at
  no-send b r ρ k = rw (same-no (branch_kind w b) 1 k) (go (ltb b (branches w)) (is_silent w b) (is_receive w b))
    where
      go : (i j o : Bool)
          → of_pair S U b (pick i (pick j (silent (next w b)) (pick o (receive (channel w b) (branch_name w b) (next w b)) absent)) absent) r ρ ≡ []
      go true true o = refl
      go true false true = refl
      go true false false = refl
      go false j o = refl

  partner-sum : (b r : ℕ) → b < branches w → r < branches w → branch_kind w b ≡ 1 → (s : Sums)
      → partner_sums w b s r ≡ plus w h s (of_pair S U b (S.branch b) r (S.branch r))
  partner-sum b r lb lr kb s =
      go (ℕ_discrete (branch_kind w r) 2) (ℕ_discrete (S.thread (S.home b)) (S.thread (S.home r)))
    where
      sent : S.branch b ≡ send (channel w b) (branch_name w b) (next w b)
      sent = send-branch w h b lb kb

      go : Dec (branch_kind w r ≡ 2) → Dec (S.thread (S.home b) ≡ S.thread (S.home r))
          → partner_sums w b s r ≡ plus w h s (of_pair S U b (S.branch b) r (S.branch r))
      go (no k) d = partner-no w b s r k ∙ rw (sent, no-receive b r (channel w b) (branch_name w b) (next w b) k) (sym (plus_none w h s))
      go (yes k) (yes d) =
          partner-own w b s r (sym (thread-is r) ∙ sym d ∙ thread-is b)
          ∙ rw (sent, receive-branch w h r lr k, same-yes (S.thread (S.home b)) (S.thread (S.home r)) d) (sym (plus_none w h s))
      go (yes k) (no d) =
          partner-yes w b s r k (λ q. d (thread-is b ∙ sym q ∙ sym (thread-is r)))
          ∙ rw (sent, receive-branch w h r lr k, same-no (S.thread (S.home b)) (S.thread (S.home r)) d) (pair-sum b r lb lr kb k d s)

  pub branches-are : S.branches ≡ branches w
  unfolding scheme
  branches-are = refl

  below : (x : ℕ) → member x (range (branches w)) ≡ true → x < branches w
  below x m = omega (arith, from_member x 0 (branches w) m)

  pub send-sum : (b : ℕ) → b < branches w → (s : Sums)
      → send_sums w s b ≡ plus w h s (flat (λ r. of_pair S U b (S.branch b) r (S.branch r)) (range S.branches))
  send-sum b l s = go (ℕ_discrete (branch_kind w b) 1)
    where
      go : Dec (branch_kind w b ≡ 1) → send_sums w s b ≡ plus w h s (flat (λ r. of_pair S U b (S.branch b) r (S.branch r)) (range S.branches))
      go (yes k) =
          send-yes w s b k
          ∙ over-plus w h (partner_sums w b) (λ r. of_pair S U b (S.branch b) r (S.branch r)) (range (branches w)) (λ r m. partner-sum b r l (below r m) k) s
          ∙ ap (λ (k : ℕ). plus w h s (flat (λ r. of_pair S U b (S.branch b) r (S.branch r)) (range k))) (sym branches-are)
      go (no k) =
          send-no w s b k
          ∙ rw (flat-none (λ r. of_pair S U b (S.branch b) r (S.branch r)) (range S.branches) (λ r. no-send b r (S.branch r) k)) (sym (plus_none w h s))
