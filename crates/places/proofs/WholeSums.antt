-- The counts of an accepted table are those of its net: transitions, inputs and outputs, each below 2³², and the words of its image.
use Rattle.std.proofs.Common.{◌≡◌, ℕ, ◌+◌, ◌*◌, List, [], ◌∷◌, ◌++◌, map, length, sym, refl, ap, ◌∙◌, subst, arith}
use lib.ListN.{length-map}
use Rattle.lists.specs.Lists.{word, range, flat, total}
use Rattle.lists.proofs.Ranges.{from_member}
use Rattle.scheme.specs.Words.{nodes, branches}
use Rattle.scheme.specs.Scheme.{scheme}
use Rattle.table.specs.Causes.{cause}
use Rattle.table.proofs.Accepted.{accepted}
use Rattle.net.specs.Net.{Net, input_total, output_total, header_words}
use Rattle.net.proofs.Encode
use Rattle.places.specs.Transitions.{Description, from_node_descriptions, of_pair, descriptions}
use Rattle.places.specs.Image.{transition_of, net_with, net_of, image_of}
use Rattle.places.specs.Plan.{places_at, tokens_at, Laid}
use Rattle.places.specs.Answers.{net_sums, Sums, sums, sums_of}
use Rattle.places.specs.Inner.Plan.{today, header_of}
use Rattle.places.specs.Inner.Counting.{Few, over, node_sums, send_sums, all_sums}
use Rattle.places.specs.declared.count.Totals.{Totals}
use Rattle.places.proofs.Totals.{input_sum, output_sum}
use Rattle.places.proofs.Size.{image-below}
use Rattle.places.proofs.Controls.{nodes-are}
use Rattle.places.proofs.Plans.{tokens-are, places-are, net-initial, net-places}
use Rattle.places.proofs.NodeSums.{plus, plus-is, plus-append, over-plus, node-sum}
use Rattle.places.proofs.PairSums.{branches-are, send-sum}

module _ (w : List ℕ) (h : cause w ≡ 0) where
  abbrev net : Net
  net = net_of (scheme w)

  abbrev ds : List Description
  ds = descriptions (scheme w) (today w)

  abbrev from_nodes : ℕ → List Description
  from_nodes n = from_node_descriptions (scheme w) (today w) n ((scheme w).node n)

  abbrev from_sends : ℕ → List Description
  from_sends b = flat (λ r. of_pair (scheme w) (today w) b ((scheme w).branch b) r ((scheme w).branch r)) (range (scheme w).branches)

  all-plus : all_sums w ≡ plus w h (sums 0 0 0) ds
  unfolding all_sums descriptions
  all-plus =
      ap (λ (s : Sums). over (send_sums w) s (range (branches w)))
      (over-plus w h (node_sums w) from_nodes (range (nodes w)) (λ n m s. node-sum w h n (omega (arith, from_member n 0 (nodes w) m)) s) (sums 0 0 0))
      ∙ over-plus w h (send_sums w) from_sends (range (branches w)) (λ b m. send-sum w h b (omega (arith, from_member b 0 (branches w) m)))
      (plus w h (sums 0 0 0) (flat from_nodes (range (nodes w))))
      ∙ plus-append w h (sums 0 0 0) (flat from_nodes (range (nodes w))) (flat from_sends (range (branches w)))
      ∙ ap (λ (k : ℕ). plus w h (sums 0 0 0) (flat from_nodes (range k) ++ flat from_sends (range (branches w)))) (sym (nodes-are w))
      ∙ ap (λ (k : ℕ). plus w h (sums 0 0 0) (flat from_nodes (range (scheme w).nodes) ++ flat from_sends (range k))) (sym (branches-are w h))

  -- the totals of a net's transitions
  inputs_are : (xs : List Description)
      → total (map (λ t. length t.inputs) (map (transition_of (scheme w) (today w)) xs)) ≡ input_sum (scheme w) (accepted w h) xs
  unfolding total
  inputs_are [] = refl
  inputs_are (x ∷ xs) = rw (inputs_are xs)

  outputs-are : (xs : List Description)
      → total (map (λ t. length t.outputs) (map (transition_of (scheme w) (today w)) xs)) ≡ output_sum (scheme w) (accepted w h) xs
  unfolding total
  outputs-are [] = refl
  outputs-are (x ∷ xs) = rw (outputs-are xs)

  -- ---- what `build` needs

  pub whole-sums : all_sums w ≡ sums (length net.transitions) (input_total net) (output_total net)
  unfolding net_of net_with
  whole-sums =
      all-plus
      ∙ sym (plus-is w h (sums 0 0 0) ds (length net.transitions) (input_total net) (output_total net)
      (omega (arith, length-map ds (transition_of (scheme w) (today w)))) (omega (arith, inputs_are ds)) (omega (arith, outputs-are ds)))

  pub image-words : length (image_of w) ≡ 8 + length net.initial + 6 * length net.transitions + input_total net + output_total net
  unfolding image_of
  image-words = Encode.image-length net

  pub whole-few : Few (all_sums w)
  whole-few =
      subst Few (sym whole-sums) (record {
        few-transitions = omega (arith, image-words, image-below w h);
        few-inputs = omega (arith, image-words, image-below w h);
        few-outputs = omega (arith, image-words, image-below w h);
      })

  pub transitions-are : net.transitions ≡ map (transition_of (scheme w) (today w)) ds
  unfolding net_of net_with
  transitions-are = refl

  pub net-sums : all_sums w ≡ net_sums w
  unfolding net_sums
  net-sums = whole-sums

  -- by the counts that the code has
  module _ (x : List ℕ) (laid : Laid w x) (t : Totals) (all : sums_of t ≡ net_sums w) where
    pub counts-are : (t.transitions ≡ length net.transitions) × (t.inputs ≡ input_total net) × (t.outputs ≡ output_total net)
    unfolding net_sums
    counts-are = (ap (λ (s : Sums). s.transitions) all, ap (λ (s : Sums). s.inputs) all, ap (λ (s : Sums). s.outputs) all)

    pub few-totals : Few (sums_of t)
    few-totals = subst Few (sym (all ∙ sym net-sums)) whole-few

    pub tokens-is : (m : ℕ) → m ≡ word x tokens_at → m ≡ length net.initial
    tokens-is m e = e ∙ tokens-are w x laid ∙ ap (λ (xs : List ℕ). length xs) (sym (net-initial w))

    pub places_is : (p : ℕ) → p ≡ word x places_at → p ≡ net.places
    places_is p e = e ∙ places-are w x laid ∙ sym (net-places w)

    pub header_is : (p m : ℕ) → p ≡ word x places_at → m ≡ word x tokens_at → header_of p t.transitions t.inputs t.outputs m ≡ header_words net
    header_is p m e f = rw (places_is p e, counts-are.0, counts-are.1, counts-are.2, tokens-is m f)

    pub words_are : (m : ℕ) → m ≡ word x tokens_at → 8 + m + 6 * t.transitions + t.inputs + t.outputs ≡ length (image_of w)
    words_are m f = rw (counts-are.0, counts-are.1, counts-are.2, tokens-is m f) (sym image-words)
