-- The lists of a built net ascend, so its image passes the checks of a net image and gives back what was described.
use Rattle.std.proofs.Common.{◌≡◌, ℕ, zero, suc, ◌<◌, Bool, true, List, [], ◌∷◌, map, length, get_or, replicate, refl, ap, ◌∙◌, arith}
use lib.ListN.{length-map}
use Rattle.lists.specs.Lists.{every, positions, ascends}
use Rattle.lists.proofs.Tests.{and_intro}
use Rattle.scheme.specs.Scheme.{Scheme, scheme}
use Rattle.net.specs.Image.{place_count_of, transition_count, is_header_right, record_right, label_at, inputs_at, outputs_at}
use Rattle.net.specs.Firing.{put, initial_marking, step, step_of}
use Rattle.net.specs.Net.{Transition, blank, transition_at, ascending, is_ascending, encode}
use Rattle.net.proofs.Encode
use Rattle.places.specs.Values.{Values}
use Rattle.places.specs.Reach.{values_for}
use Rattle.places.specs.Places.{places, is_initial}
use Rattle.places.specs.Transitions.{Description, is_input, is_output, descriptions}
use Rattle.places.specs.Image.{transition_of, net_with, net_of, image_of}
use Rattle.lists.proofs.Positions.{positions-rise}

every_map : {A B : Type 0} (p : B → Bool) (f : A → B) (xs : List A) → ((x : A) → p (f x) ≡ true) → every p (map f xs) ≡ true
unfolding every
every_map p f [] h = refl
every_map p f (x ∷ xs) h = and_intro (p (f x)) (every p (map f xs)) (h x) (every_map p f xs h)

get_d_map : {A B : Type 0} (f : A → B) (b : B) (d : A) (xs : List A) (k : ℕ) → k < length xs → get_or (map f xs) k b ≡ f (get_or xs k d)
get_d_map f b d [] k h = absurd (omega arith)
get_d_map f b d (x ∷ xs) zero h = refl
get_d_map f b d (x ∷ xs) (suc k) h = get_d_map f b d xs k (omega arith)

module _ (S : Scheme) (U : Values) where
  pub net-ascends : is_ascending (net_with S U) ≡ true
  unfolding is_ascending net_with
  net-ascends =
      and_intro (ascends (length (places S U)) 0 (positions (is_initial S U) (places S U)))
      (every (ascending (length (places S U))) (map (transition_of S U) (descriptions S U)))
      (positions-rise (is_initial S U) (places S U)) (every_map (ascending (length (places S U))) (transition_of S U) (descriptions S U) rise)
    where
      rise : (d : Description) → ascending (length (places S U)) (transition_of S U d) ≡ true
      rise d =
          and_intro (ascends (length (places S U)) 0 (positions (is_input S d) (places S U)))
          (ascends (length (places S U)) 0 (positions (is_output S d) (places S U)))
          (positions-rise (is_input S d) (places S U)) (positions-rise (is_output S d) (places S U))

  net-transitions : length (net_with S U).transitions ≡ length (descriptions S U)
  unfolding net_with
  net-transitions = length-map (descriptions S U) (transition_of S U)

  -- ---- the image of a net, for any values; record k is that of description k (d stands past the last one)

  pub place-count : place_count_of (encode (net_with S U)) ≡ length (places S U)
  unfolding net_with
  place-count = Encode.place-count (net_with S U)

  pub transition-count : transition_count (encode (net_with S U)) ≡ length (descriptions S U)
  transition-count = Encode.transition-count (net_with S U) ∙ net-transitions

  pub header-right : is_header_right (encode (net_with S U)) ≡ true
  header-right = Encode.header-passes (net_with S U) net-ascends

  pub initial-is : initial_marking (encode (net_with S U)) ≡ put 1 (replicate (length (places S U)) 0) (positions (is_initial S U) (places S U))
  unfolding net_with
  initial-is = Encode.initial-marking (net_with S U)

  module _ (d : Description) (k : ℕ) (h : k < length (descriptions S U)) where
    abbrev described : Description
    described = get_or (descriptions S U) k d

    inside : k < length (net_with S U).transitions
    inside = omega (arith, net-transitions)

    at-description : transition_at (net_with S U) k ≡ transition_of S U described
    unfolding net_with
    at-description = get_d_map (transition_of S U) blank d (descriptions S U) k h

    pub record-right : record_right (encode (net_with S U)) k ≡ true
    record-right = Encode.record-passes (net_with S U) k inside net-ascends

    pub label_is : label_at (encode (net_with S U)) k ≡ described.label
    label_is = Encode.label-at (net_with S U) k inside ∙ ap (λ (t : Transition). t.label) at-description

    pub inputs_are : inputs_at (encode (net_with S U)) k ≡ positions (is_input S described) (places S U)
    inputs_are = Encode.inputs-at (net_with S U) k inside ∙ ap (λ (t : Transition). t.inputs) at-description

    pub outputs-are : outputs_at (encode (net_with S U)) k ≡ positions (is_output S described) (places S U)
    outputs-are = Encode.outputs-at (net_with S U) k inside ∙ ap (λ (t : Transition). t.outputs) at-description

    -- one firing looks at the places that the description names
    pub step_is : (m : List ℕ)
        → step (encode (net_with S U)) m k ≡ step_of m (positions (is_input S described) (places S U)) (positions (is_output S described) (places S U))
    step_is m = Encode.step-at (net_with S U) k inside net-ascends m ∙ ap (λ (t : Transition). step_of m t.inputs t.outputs) at-description

-- ---- the image of a table's words

module _ (w : List ℕ) where
  abbrev S : Scheme
  S = scheme w

  abbrev U : Values
  U = values_for (scheme w)

  pub image-is : image_of w ≡ encode (net_with S U)
  unfolding image_of net_of
  image-is = refl

  pub image-places : place_count_of (image_of w) ≡ length (places S U)
  image-places = rw image-is (place-count S U)

  pub image-transitions : transition_count (image_of w) ≡ length (descriptions S U)
  image-transitions = rw image-is (transition-count S U)

  pub image-header : is_header_right (image_of w) ≡ true
  image-header = rw image-is (header-right S U)

  pub image-initial : initial_marking (image_of w) ≡ put 1 (replicate (length (places S U)) 0) (positions (is_initial S U) (places S U))
  image-initial = rw image-is (initial-is S U)

  module _ (d : Description) (k : ℕ) (h : k < length (descriptions (scheme w) (values_for (scheme w)))) where
    pub image-record : record_right (image_of w) k ≡ true
    image-record = rw image-is (record-right S U d k h)

    pub image-label : label_at (image_of w) k ≡ (get_or (descriptions S U) k d).label
    image-label = rw image-is (label_is S U d k h)

    pub image-inputs : inputs_at (image_of w) k ≡ positions (is_input S (get_or (descriptions S U) k d)) (places S U)
    image-inputs = rw image-is (inputs_are S U d k h)

    pub image-outputs : outputs_at (image_of w) k ≡ positions (is_output S (get_or (descriptions S U) k d)) (places S U)
    image-outputs = rw image-is (outputs-are S U d k h)

    pub image-step : (m : List ℕ) → step (image_of w) m k
        ≡ step_of m (positions (is_input S (get_or (descriptions S U) k d)) (places S U)) (positions (is_output S (get_or (descriptions S U) k d)) (places S U))
    image-step m = rw image-is (step_is S U d k h m)
