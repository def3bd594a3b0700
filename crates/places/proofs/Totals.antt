-- The arcs of all transitions that differ only in their values, added up by products, for the values in force: what a first pass counts without going over
-- values.
use Rattle.std.proofs.Common.{◌≡◌, ℕ, ◌+◌, ◌*◌, ◌<◌, true, false, ◌||◌, ltb, leb, List, [], ◌∷◌, map, length, sym, refl, ◌∙◌, suc-mul, arith}
use Rattle.lists.specs.Lists.{bit, flat, member, positions, total}
use Rattle.lists.proofs.Tests.{and_left, and_right, same-no, same-yes}
use Rattle.lists.proofs.Members.{member-here, member-there, member-keep}
use Rattle.lists.proofs.Sums.{sum, sum-append}
use Rattle.scheme.specs.Scheme.{Scheme, send, receive}
use Rattle.table.specs.Accepted.{Accepted}
use Rattle.places.specs.Values.{Values, values_of, shares}
use Rattle.places.specs.Reach.{values_for}
use Rattle.places.specs.Places.{controls, places, common, is_common}
use Rattle.places.specs.Rows.{IsBound}
use Rattle.places.specs.Transitions.{Description, is_input, is_output, releasing, copying, communicating, sent_on}
use Rattle.places.proofs.ArcCounts.{release-inputs, release-outputs, copy-inputs, copy-outputs}
use Rattle.places.proofs.CommunicationCounts.{sent-held, communication-inputs, communication-outputs, self-inputs, self-outputs}

-- ---- sums

pub total-same : (f g : ℕ → ℕ) (xs : List ℕ) → ((x : ℕ) → member x xs ≡ true → f x ≡ g x) → total (map f xs) ≡ total (map g xs)
unfolding total
total-same f g [] h = refl
total-same f g (x ∷ xs) h = rw (h x (member-here x xs), total-same f g xs (λ z m. h z (member-there z x xs m)))

total-line : (c : ℕ) (h : ℕ → ℕ) (xs : List ℕ) → total (map (λ v. c + h v) xs) ≡ length xs * c + total (map h xs)
unfolding total
total-line c h [] = omega arith
total-line c h (x ∷ xs) = omega (arith, total-line c h xs, suc-mul (length xs) c)

pub total-each : (c : ℕ) (xs : List ℕ) → total (map (λ v. c) xs) ≡ length xs * c
unfolding total
total-each c [] = omega arith
total-each c (x ∷ xs) = omega (arith, total-each c xs, suc-mul (length xs) c)

pub sum-of-map : {A : Type 0} (f : A → ℕ) (g : ℕ → A) (xs : List ℕ) → sum f (map g xs) ≡ total (map (λ v. f (g v)) xs)
unfolding total
sum-of-map f g [] = refl
sum-of-map f g (x ∷ xs) = rw (sum-of-map f g xs)

sum-flat-is : {A : Type 0} (f : A → ℕ) (g : ℕ → List A) (h : ℕ → ℕ) (xs : List ℕ) → ((x : ℕ) → member x xs ≡ true → sum f (g x) ≡ h x)
    → sum f (flat g xs) ≡ total (map h xs)
unfolding total flat
sum-flat-is f g h [] e = refl
sum-flat-is f g h (x ∷ xs) e =
    omega (arith, sum-append f (g x) (flat g xs), e x (member-here x xs), sum-flat-is f g h xs (λ z m. e z (member-there z x xs m)))

module _ (S : Scheme) (ok : Accepted S) where
  abbrev U : Values
  U = values_for S

  abbrev pub input_sum : List Description → ℕ
  input_sum ds = sum (λ d. length (positions (is_input S d) (places S U))) ds

  abbrev pub output_sum : List Description → ℕ
  output_sum ds = sum (λ d. length (positions (is_output S d) (places S U))) ds

  -- how many of the values are private
  abbrev pub privates_among : List ℕ → ℕ
  privates_among vs = total (map (λ v. bit (leb S.publics v)) vs)

  abbrev pub bound_bit : ℕ → ℕ
  bound_bit x = bit (leb S.publics x)

  -- ---- releases of one name

  module _ (n m k z : ℕ) (l : n < S.nodes) (u : m < S.nodes) (h : k < controls S n) (b : IsBound S U z) where
    pub release-input-sum : input_sum (map (releasing S U n m k z) (values_of S U z)) ≡ length (values_of S U z) * 2
    release-input-sum =
        sum-of-map (λ d. length (positions (is_input S d) (places S U))) (releasing S U n m k z) (values_of S U z)
        ∙ total-same (λ v. length (positions (is_input S (releasing S U n m k z v)) (places S U))) (λ v. 2) (values_of S U z)
        (λ v i. release-inputs S ok n m k z v l u h b i)
        ∙ total-each 2 (values_of S U z)

    pub release-output-sum : output_sum (map (releasing S U n m k z) (values_of S U z)) ≡ length (values_of S U z) + privates_among (values_of S U z)
    release-output-sum =
        sum-of-map (λ d. length (positions (is_output S d) (places S U))) (releasing S U n m k z) (values_of S U z)
        ∙ total-same (λ v. length (positions (is_output S (releasing S U n m k z v)) (places S U))) (λ v. 1 + bit (leb S.publics v)) (values_of S U z)
        (λ v i. release-outputs S ok n m k z v l u h b i)
        ∙ total-line 1 (λ v. bit (leb S.publics v)) (values_of S U z) ∙ omega arith

  -- ---- copies of one formal

  module _ (n m k f a : ℕ) (l : n < S.nodes) (u : m < S.nodes) (h : k < controls S n) (b : IsBound S U f) (r : S.restricted f ≡ false)
      (c : a < S.publics + S.bounds) (d : a ≡ f → ⊥) (flow : (v : ℕ) → member v (values_of S U a) ≡ true → member v (values_of S U f) ≡ true) where
    pub copy-input-sum : input_sum (map (copying S U n m k f a) (values_of S U a))
        ≡ length (values_of S U a) * (1 + bound_bit a) + privates_among (values_of S U a)
    copy-input-sum =
        sum-of-map (λ d. length (positions (is_input S d) (places S U))) (copying S U n m k f a) (values_of S U a)
        ∙ total-same (λ v. length (positions (is_input S (copying S U n m k f a v)) (places S U))) (λ v. 1 + bound_bit a + bit (leb S.publics v))
        (values_of S U a)
        (λ v i. copy-inputs S ok n m k f a v l u h b r c d i (flow v i)
        ∙ (let q : 1 + (bound_bit a + bit (leb S.publics v)) ≡ 1 + bound_bit a + bit (leb S.publics v) = omega arith in q))
        ∙ total-line (1 + bound_bit a) (λ v. bit (leb S.publics v)) (values_of S U a)

    pub copy-output-sum : output_sum (map (copying S U n m k f a) (values_of S U a)) ≡ length (values_of S U a) * (2 + bound_bit a)
    copy-output-sum =
        sum-of-map (λ d. length (positions (is_output S d) (places S U))) (copying S U n m k f a) (values_of S U a)
        ∙ total-same (λ v. length (positions (is_output S (copying S U n m k f a v)) (places S U))) (λ v. 2 + bound_bit a) (values_of S U a)
        (λ v i. copy-outputs S ok n m k f a v l u h b r c d i (flow v i))
        ∙ total-each (2 + bound_bit a) (values_of S U a)

  -- ---- communications of a send and a receive

  module _ (s a z l r e y m : ℕ) (sends : S.branch s ≡ send a z l) (receives : S.branch r ≡ receive e y m)
      (differ : S.thread (S.home s) ≡ S.thread (S.home r) → ⊥) where
    abbrev pairs : List Description
    pairs = flat (λ i. map (communicating S U s a z l r e y m i) (sent_on S U a z i)) (common S U a e)

    common-both : (i : ℕ) → member i (common S U a e) ≡ true → (member i (values_of S U a) ≡ true) × (member i (values_of S U e) ≡ true)
    common-both i h =
        let q = sym (member-keep (is_common S U a e) i (values_of S U a)) ∙ h in (
          and_right (is_common S U a e i) (member i (values_of S U a)) q,
          and_left (member i (values_of S U e)) (ltb i S.publics || shares S U a e) (and_left (is_common S U a e i) (member i (values_of S U a)) q),
        )

    held : (i j : ℕ) → member i (common S U a e) ≡ true → member j (values_of S U z) ≡ true → member j (values_of S U y) ≡ true
    held i j = sent-held S ok s a z l r e y m sends receives differ i j

    -- different names
    module _ (d : z ≡ a → ⊥) where
      each-input : (i : ℕ) → member i (common S U a e) ≡ true
          → input_sum (map (communicating S U s a z l r e y m i) (sent_on S U a z i))
          ≡ length (values_of S U z) * (2 + (bound_bit a + (bound_bit e + bound_bit z))) + privates_among (values_of S U z)
      each-input i h =
          rw (same-no z a d)
          (sum-of-map (λ d. length (positions (is_input S d) (places S U))) (communicating S U s a z l r e y m i) (values_of S U z)
          ∙ total-same (λ j. length (positions (is_input S (communicating S U s a z l r e y m i j)) (places S U)))
          (λ j. 2 + (bound_bit a + (bound_bit e + bound_bit z)) + bit (leb S.publics j)) (values_of S U z)
          (λ j k. communication-inputs S ok s a z l r e y m sends receives differ i j (common-both i h).0 (common-both i h).1 k (held i j h k) d ∙
          (let q : 2 + (bound_bit a + (bound_bit e + (bound_bit z + bound_bit j))) ≡ 2 + (bound_bit a + (bound_bit e + bound_bit z)) + bound_bit j = omega arith in q))
          ∙ total-line (2 + (bound_bit a + (bound_bit e + bound_bit z))) (λ j. bit (leb S.publics j)) (values_of S U z))

      pub pair-input-sum : input_sum pairs
          ≡ length (common S U a e) * (length (values_of S U z) * (2 + (bound_bit a + (bound_bit e + bound_bit z))) + privates_among (values_of S U z))
      pair-input-sum =
          let c = length (values_of S U z) * (2 + (bound_bit a + (bound_bit e + bound_bit z))) + privates_among (values_of S U z) in
          sum-flat-is (λ d. length (positions (is_input S d) (places S U))) (λ i. map (communicating S U s a z l r e y m i) (sent_on S U a z i)) (λ i. c)
          (common S U a e) each-input
          ∙ total-each c (common S U a e)

      each-output : (i : ℕ) → member i (common S U a e) ≡ true
          → output_sum (map (communicating S U s a z l r e y m i) (sent_on S U a z i)) ≡ length (values_of S U z) * (3 + (bound_bit a + (bound_bit e + bound_bit z)))
      each-output i h =
          rw (same-no z a d)
          (sum-of-map (λ d. length (positions (is_output S d) (places S U))) (communicating S U s a z l r e y m i) (values_of S U z)
          ∙ total-same (λ j. length (positions (is_output S (communicating S U s a z l r e y m i j)) (places S U)))
          (λ j. 3 + (bound_bit a + (bound_bit e + bound_bit z))) (values_of S U z)
          (λ j k. communication-outputs S ok s a z l r e y m sends receives differ i j (common-both i h).0 (common-both i h).1 k (held i j h k) d)
          ∙ total-each (3 + (bound_bit a + (bound_bit e + bound_bit z))) (values_of S U z))

      pub pair-output-sum : output_sum pairs ≡ length (common S U a e) * (length (values_of S U z) * (3 + (bound_bit a + (bound_bit e + bound_bit z))))
      pair-output-sum =
          let c = length (values_of S U z) * (3 + (bound_bit a + (bound_bit e + bound_bit z))) in
          sum-flat-is (λ d. length (positions (is_output S d) (places S U))) (λ i. map (communicating S U s a z l r e y m i) (sent_on S U a z i)) (λ i. c)
          (common S U a e) each-output
          ∙ total-each c (common S U a e)

    -- a name sent on itself
    module _ (is : z ≡ a) where
      pub self-input-sum : input_sum pairs ≡ length (common S U a e) * (2 + (bound_bit e + bound_bit a)) + privates_among (common S U a e)
      unfolding total
      self-input-sum =
          sum-flat-is (λ d. length (positions (is_input S d) (places S U))) (λ i. map (communicating S U s a z l r e y m i) (sent_on S U a z i))
          (λ i. 2 + (bound_bit e + bound_bit a) + bit (leb S.publics i)) (common S U a e) each
          ∙ total-line (2 + (bound_bit e + bound_bit a)) (λ i. bit (leb S.publics i)) (common S U a e)
        where
          each : (i : ℕ) → member i (common S U a e) ≡ true
              → input_sum (map (communicating S U s a z l r e y m i) (sent_on S U a z i)) ≡ 2 + (bound_bit e + bound_bit a) + bit (leb S.publics i)
          each i h =
              rw (same-yes z a is)
              (omega (
                arith,
                self-inputs S ok s a z l r e y m sends receives differ i is (common-both i h).0 (common-both i h).1
                    (held i i h (rw is (common-both i h).0)),
              ))

      pub self-output-sum : output_sum pairs ≡ length (common S U a e) * (3 + (bound_bit e + bound_bit a))
      unfolding total
      self-output-sum =
          sum-flat-is (λ d. length (positions (is_output S d) (places S U))) (λ i. map (communicating S U s a z l r e y m i) (sent_on S U a z i))
          (λ i. 3 + (bound_bit e + bound_bit a)) (common S U a e) each
          ∙ total-each (3 + (bound_bit e + bound_bit a)) (common S U a e)
        where
          each : (i : ℕ) → member i (common S U a e) ≡ true
              → output_sum (map (communicating S U s a z l r e y m i) (sent_on S U a z i)) ≡ 3 + (bound_bit e + bound_bit a)
          each i h =
              rw (same-yes z a is)
              (omega (
                arith,
                self-outputs S ok s a z l r e y m sends receives differ i is (common-both i h).0 (common-both i h).1
                    (held i i h (rw is (common-both i h).0)),
              ))
