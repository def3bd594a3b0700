-- How many arcs a communication has, for the values in force.
use Rattle.std.proofs.Common.{◌≡◌, ℕ, ◌+◌, ◌<◌, ◌≤◌, true, false, leb, List, [], ◌∷◌, length, sym, ap, ◌∙◌, inl, inr, arith, length-append, leb-true}
use mathlib.Core.List.{Memᴰ}
use Rattle.lists.specs.Lists.{bit, member, positions}
use Rattle.lists.proofs.Tests.{false-true}
use Rattle.scheme.specs.Scheme.{Scheme, send, receive, present}
use Rattle.table.specs.Accepted.{Accepted, NameOf, Usable}
use Rattle.places.specs.Values.{Values, values_of}
use Rattle.places.specs.Reach.{values_for}
use Rattle.places.specs.Places.{Place, equals, differs, control, places, common}
use Rattle.places.specs.Rows.{has-control}
use Rattle.places.specs.Transitions.{Description, is_input, is_output, communicating}
use Rattle.places.specs.Inner.Arcs.{exists, numbers_for}
use Rattle.places.proofs.Numbers.{has-exists}
use Rattle.places.proofs.Initial.{some-control}
use Rattle.places.proofs.Split.{numbers-none, numbers-tail, numbers-swap, numbers-twice}
use Rattle.places.proofs.Explicit.{communicating-inputs, communicating-outputs}
use Rattle.places.proofs.Arriving.{carried, met}
use Rattle.places.proofs.ByKind.{value-exists}
use Rattle.places.proofs.ArcCounts.{numbers-step, equals-bit, differs-bit}

module _ (S : Scheme) (ok : Accepted S) where
  abbrev U : Values
  U = values_for S

  abbrev inputs : Description → List ℕ
  inputs d = positions (is_input S d) (places S U)

  abbrev outputs : Description → List ℕ
  outputs d = positions (is_output S d) (places S U)

  first-has : (n : ℕ) → n < S.nodes → exists S U (control n 0) ≡ true
  first-has n l = has-exists S U (control n 0) (has-control {n = n} {k = 0} l (omega (arith, some-control S U n)))

  -- the first places of two nodes of different threads
  two-controls : (n m : ℕ) → n < S.nodes → m < S.nodes → (S.thread n ≡ S.thread m → ⊥) → length (numbers_for S U (control n 0 ∷ control m 0 ∷ [])) ≡ 2
  two-controls n m l u d =
      numbers-step S U (control n 0) (control m 0 ∷ []) apart
      ∙ rw (numbers-step S U (control m 0) [] (λ e q. elim q [ ]), numbers-none S U, first-has n l, first-has m u)
    where
      apart : exists S U (control n 0) ≡ true → Memᴰ (control n 0) (control m 0 ∷ []) → ⊥
      apart e (Memᴰ.head q) = let k : n ≡ m = cc in d (ap S.thread k)
      apart e (Memᴰ.tail m) = elim m [ ]

  usable-below : (n x : ℕ) → Usable S n x → x < S.publics + S.bounds
  usable-below n x (inl h) = omega arith
  usable-below n x (inr m) = (ok.held-name n x m).high

  usable-held : (n x : ℕ) → Usable S n x → S.publics ≤ x → member x (S.held n) ≡ true
  usable-held n x (inl h) l = absurd (omega arith)
  usable-held n x (inr m) l = m

  usable-name : (n x : ℕ) → Usable S n x → S.publics ≤ x → NameOf S (S.thread n) x
  usable-name n x u l = ok.held-name n x (usable-held n x u l)

  module _ (s a z l r e y m : ℕ) (sends : S.branch s ≡ send a z l) (receives : S.branch r ≡ receive e y m)
      (differ : S.thread (S.home s) ≡ S.thread (S.home r) → ⊥) where
    abbrev ua : Usable S (S.home s) a
    ua = (ok.send-usable s a z l sends).0

    abbrev uz : Usable S (S.home s) z
    uz = (ok.send-usable s a z l sends).1

    abbrev ue : Usable S (S.home r) e
    ue = ok.receive-usable r e y m receives

    abbrev ny : NameOf S (S.thread (S.home r)) y
    ny = ok.receive-name r e y m receives

    free-y : S.restricted y ≡ false
    free-y = ok.receive-free r e y m receives

    -- a bound name that the sender uses is no name of the receiver's thread
    apart : (x : ℕ) → Usable S (S.home s) x → NameOf S (S.thread (S.home r)) x → ⊥
    apart x u n = differ (sym (usable-name (S.home s) x u n.low).of ∙ n.of)

    not-e : (x i : ℕ) → Usable S (S.home s) x → exists S U (equals x i) ≡ leb S.publics x → exists S U (equals x i) ≡ true → x ≡ e → ⊥
    not-e x i u b h q =
        let k : S.publics ≤ x = leb-true S.publics x (sym b ∙ h) in
        apart x u (rw q (usable-name (S.home r) e ue (rw q at k)))

    pub not-y : (x : ℕ) → Usable S (S.home s) x → x ≡ y → ⊥
    not-y x u q = apart x u (rw q ny)

    -- a bound name that the sender uses is not the receiver's channel
    pub not-heard : (x : ℕ) → Usable S (S.home s) x → S.publics ≤ e → x ≡ e → ⊥
    not-heard x u l q = apart x u (rw q (usable-name (S.home r) e ue l))

    pub e-not-y : e ≡ y → ⊥
    e-not-y q =
        let h : member e (S.held (S.home r)) ≡ true = usable-held (S.home r) e ue (rw q ny.low) in
        false-true (ok.receive-fresh r e y m receives) (rw q at h)

    homes : length (numbers_for S U (control (S.home s) 0 ∷ control (S.home r) 0 ∷ [])) ≡ 2
    homes = two-controls (S.home s) (S.home r) (ok.home-inside s) (ok.home-inside r) differ

    nexts : length (numbers_for S U (control l 0 ∷ control m 0 ∷ [])) ≡ 2
    nexts =
        let ps : present (S.branch s) ≡ true = rw sends in
        let pr : present (S.branch r) ≡ true = rw receives in
        let ls : l < S.nodes = rw sends at (ok.next-inside s ps) in
        let lr : m < S.nodes = rw receives at (ok.next-inside r pr) in
        let ts : S.thread l ≡ S.thread (S.home s) = rw sends at (ok.next-thread s ps) in
        let tr : S.thread m ≡ S.thread (S.home r) = rw receives at (ok.next-thread r pr) in
        two-controls l m ls lr (λ q. differ (sym ts ∙ q ∙ tr))

    -- a sent value may be held by the receive's name
    pub sent-held : (i j : ℕ) → member i (common S U a e) ≡ true → member j (values_of S U z) ≡ true → member j (values_of S U y) ≡ true
    sent-held i j ic jz =
        carried S z y j ny.low
        (λ o. met S ok s a z l r e y m i o sends receives differ (ok.branch-inside s (rw sends)) (ok.branch-inside r (rw receives)) ic) jz

    module _ (i j : ℕ) (ia : member i (values_of S U a) ≡ true) (ie : member i (values_of S U e) ≡ true) (jz : member j (values_of S U z) ≡ true)
        (jy : member j (values_of S U y) ≡ true) where
      abbrev bound : ℕ → ℕ
      bound x = bit (leb S.publics x)

      bit-a : exists S U (equals a i) ≡ leb S.publics a
      bit-a = equals-bit S ok a i (usable-below (S.home s) a ua) ia

      bit-e : exists S U (equals e i) ≡ leb S.publics e
      bit-e = equals-bit S ok e i (usable-below (S.home r) e ue) ie

      bit-z : exists S U (equals z j) ≡ leb S.publics z
      bit-z = equals-bit S ok z j (usable-below (S.home s) z uz) jz

      bit-y : exists S U (differs y j) ≡ leb S.publics j
      bit-y = differs-bit S ok y j (ny.low, ny.high) free-y jy

      given-y : exists S U (equals y j) ≡ true
      given-y = has-exists S U (equals y j) (value-exists S U y j (ny.low, ny.high) jy)

      pub communication-inputs : (z ≡ a → ⊥)
          → length (inputs (communicating S U s a z l r e y m i j)) ≡ 2 + (bound a + (bound e + (bound z + bound j)))
      communication-inputs d =
          ap (λ (xs : List ℕ). length xs) (communicating-inputs S U s a z l r e y m i j free-y)
          ∙ length-append (numbers_for S U (equals a i ∷ equals e i ∷ equals z j ∷ differs y j ∷ []))
          (numbers_for S U (control (S.home s) 0 ∷ control (S.home r) 0 ∷ []))
          ∙ rw (
            homes,
            numbers-step S U (equals a i) (equals e i ∷ equals z j ∷ differs y j ∷ []) one,
            numbers-step S U (equals e i) (equals z j ∷ differs y j ∷ []) two,
            numbers-step S U (equals z j) (differs y j ∷ []) three,
            numbers-step S U (differs y j) [] (λ e q. elim q [ ]),
            numbers-none S U,
            bit-a,
            bit-e,
            bit-z,
            bit-y,
          )
          (omega arith)
        where
          one : exists S U (equals a i) ≡ true → Memᴰ (equals a i) (equals e i ∷ equals z j ∷ differs y j ∷ []) → ⊥
          one h (Memᴰ.head q) = not-e a i ua bit-a h (cc)
          one h (Memᴰ.tail (Memᴰ.head q)) = d (cc)
          one h (Memᴰ.tail (Memᴰ.tail (Memᴰ.head q))) = let w : ◌≡◌ {A = ℕ} 0 1 = cc in omega arith
          one h (Memᴰ.tail (Memᴰ.tail (Memᴰ.tail m))) = elim m [ ]

          two : exists S U (equals e i) ≡ true → Memᴰ (equals e i) (equals z j ∷ differs y j ∷ []) → ⊥
          two h (Memᴰ.head q) =
              let k : z ≡ e = cc in
              not-e z j uz bit-z (ap (exists S U) (sym q) ∙ h) k
          two h (Memᴰ.tail (Memᴰ.head q)) = let w : ◌≡◌ {A = ℕ} 0 1 = cc in omega arith
          two h (Memᴰ.tail (Memᴰ.tail m)) = elim m [ ]

          three : exists S U (equals z j) ≡ true → Memᴰ (equals z j) (differs y j ∷ []) → ⊥
          three h (Memᴰ.head q) = let w : ◌≡◌ {A = ℕ} 0 1 = cc in omega arith
          three h (Memᴰ.tail m) = elim m [ ]

      pub communication-outputs : (z ≡ a → ⊥) → length (outputs (communicating S U s a z l r e y m i j)) ≡ 3 + (bound a + (bound e + bound z))
      communication-outputs d =
          ap (λ (xs : List ℕ). length xs) (communicating-outputs S U s a z l r e y m i j free-y)
          ∙ length-append (numbers_for S U (equals a i ∷ equals e i ∷ equals z j ∷ equals y j ∷ [])) (numbers_for S U (control l 0 ∷ control m 0 ∷ []))
          ∙ rw (
            nexts,
            numbers-step S U (equals a i) (equals e i ∷ equals z j ∷ equals y j ∷ []) one,
            numbers-step S U (equals e i) (equals z j ∷ equals y j ∷ []) two,
            numbers-step S U (equals z j) (equals y j ∷ []) three,
            numbers-step S U (equals y j) [] (λ e q. elim q [ ]),
            numbers-none S U,
            bit-a,
            bit-e,
            bit-z,
            given-y,
          )
          (omega arith)
        where
          one : exists S U (equals a i) ≡ true → Memᴰ (equals a i) (equals e i ∷ equals z j ∷ equals y j ∷ []) → ⊥
          one h (Memᴰ.head q) = not-e a i ua bit-a h (cc)
          one h (Memᴰ.tail (Memᴰ.head q)) = d (cc)
          one h (Memᴰ.tail (Memᴰ.tail (Memᴰ.head q))) = not-y a ua (cc)
          one h (Memᴰ.tail (Memᴰ.tail (Memᴰ.tail m))) = elim m [ ]

          two : exists S U (equals e i) ≡ true → Memᴰ (equals e i) (equals z j ∷ equals y j ∷ []) → ⊥
          two h (Memᴰ.head q) =
              let k : z ≡ e = cc in
              not-e z j uz bit-z (ap (exists S U) (sym q) ∙ h) k
          two h (Memᴰ.tail (Memᴰ.head q)) = e-not-y (cc)
          two h (Memᴰ.tail (Memᴰ.tail m)) = elim m [ ]

          three : exists S U (equals z j) ≡ true → Memᴰ (equals z j) (equals y j ∷ []) → ⊥
          three h (Memᴰ.head q) = not-y z uz (cc)
          three h (Memᴰ.tail m) = elim m [ ]

    -- "A name sent on itself has only j=i."
    module _ (i : ℕ) (is : z ≡ a) (ia : member i (values_of S U a) ≡ true) (ie : member i (values_of S U e) ≡ true) (iy : member i (values_of S U y) ≡ true) where
      abbrev bound' : ℕ → ℕ
      bound' x = bit (leb S.publics x)

      bit-a' : exists S U (equals a i) ≡ leb S.publics a
      bit-a' = equals-bit S ok a i (usable-below (S.home s) a ua) ia

      bit-e' : exists S U (equals e i) ≡ leb S.publics e
      bit-e' = equals-bit S ok e i (usable-below (S.home r) e ue) ie

      -- the channel is named twice
      once : (p : Place) → numbers_for S U (equals a i ∷ equals e i ∷ equals z i ∷ p ∷ []) ≡ numbers_for S U (equals e i ∷ equals a i ∷ p ∷ [])
      once p =
          rw is (numbers-swap S U (equals a i) (equals e i) (equals a i ∷ p ∷ [])
          ∙ numbers-tail S U (equals e i) (equals a i ∷ equals a i ∷ p ∷ []) (equals a i ∷ p ∷ []) (numbers-twice S U (equals a i) (p ∷ [])))

      e-not-a : exists S U (equals e i) ≡ true → e ≡ a → ⊥
      e-not-a h q = not-e a i ua bit-a' (rw (← q) h) (sym q)

      pub self-inputs : length (inputs (communicating S U s a z l r e y m i i)) ≡ 2 + (bound' e + (bound' a + bound' i))
      self-inputs =
          ap (λ (xs : List ℕ). length xs) (communicating-inputs S U s a z l r e y m i i free-y)
          ∙ length-append (numbers_for S U (equals a i ∷ equals e i ∷ equals z i ∷ differs y i ∷ []))
          (numbers_for S U (control (S.home s) 0 ∷ control (S.home r) 0 ∷ []))
          ∙ rw (
            homes,
            once (differs y i),
            numbers-step S U (equals e i) (equals a i ∷ differs y i ∷ []) one,
            numbers-step S U (equals a i) (differs y i ∷ []) two,
            numbers-step S U (differs y i) [] (λ e q. elim q [ ]),
            numbers-none S U,
            bit-a',
            bit-e',
            differs-bit S ok y i (ny.low, ny.high) free-y iy,
          ) (omega arith)
        where
          one : exists S U (equals e i) ≡ true → Memᴰ (equals e i) (equals a i ∷ differs y i ∷ []) → ⊥
          one h (Memᴰ.head q) = e-not-a h (cc)
          one h (Memᴰ.tail (Memᴰ.head q)) = let w : ◌≡◌ {A = ℕ} 0 1 = cc in omega arith
          one h (Memᴰ.tail (Memᴰ.tail m)) = elim m [ ]

          two : exists S U (equals a i) ≡ true → Memᴰ (equals a i) (differs y i ∷ []) → ⊥
          two h (Memᴰ.head q) = let w : ◌≡◌ {A = ℕ} 0 1 = cc in omega arith
          two h (Memᴰ.tail m) = elim m [ ]

      given-y' : exists S U (equals y i) ≡ true
      given-y' = has-exists S U (equals y i) (value-exists S U y i (ny.low, ny.high) iy)

      pub self-outputs : length (outputs (communicating S U s a z l r e y m i i)) ≡ 3 + (bound' e + bound' a)
      self-outputs =
          ap (λ (xs : List ℕ). length xs) (communicating-outputs S U s a z l r e y m i i free-y)
          ∙ length-append (numbers_for S U (equals a i ∷ equals e i ∷ equals z i ∷ equals y i ∷ [])) (numbers_for S U (control l 0 ∷ control m 0 ∷ []))
          ∙ rw (
            nexts,
            once (equals y i),
            numbers-step S U (equals e i) (equals a i ∷ equals y i ∷ []) one,
            numbers-step S U (equals a i) (equals y i ∷ []) two,
            numbers-step S U (equals y i) [] (λ e q. elim q [ ]),
            numbers-none S U,
            bit-a',
            bit-e',
            given-y',
          ) (omega arith)
        where
          one : exists S U (equals e i) ≡ true → Memᴰ (equals e i) (equals a i ∷ equals y i ∷ []) → ⊥
          one h (Memᴰ.head q) = e-not-a h (cc)
          one h (Memᴰ.tail (Memᴰ.head q)) = e-not-y (cc)
          one h (Memᴰ.tail (Memᴰ.tail m)) = elim m [ ]

          two : exists S U (equals a i) ≡ true → Memᴰ (equals a i) (equals y i ∷ []) → ⊥
          two h (Memᴰ.head q) = not-y a ua (cc)
          two h (Memᴰ.tail m) = elim m [ ]
