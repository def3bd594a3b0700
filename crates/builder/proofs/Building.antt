-- The header, the places marked at first, then the transitions of nodes and the communications: the image of a table in the lent words.
use Rattle.std.proofs.Common.{Result, Ok, Err, IsErrAnd}
use mathlib.Core.Path.{◌≡◌, refl, sym, ap, ◌∙◌}
use mathlib.Core.List.{List, [], ◌∷◌, ◌++◌, map}
use Prim.Native.Nat.{ℕ, ◌+◌, ◌*◌, ◌≤◌, ◌<◌}
use native.Mathlib.Omega.{arith}
use lib.ListN.{length, drop, length-map, length-append}
use borrow.Author.Tests.{lt-ltb, le-ltb}
use Rattle.lists.specs.Lists.{word, range, flat, total}
use Rattle.lists.proofs.Tests.{same-yes, same-no}
use Rattle.scheme.specs.Words.{nodes, branches}
use Rattle.scheme.specs.Scheme.{scheme}
use Rattle.table.specs.Causes.{cause}
use Rattle.net.specs.Net.{Net, Transition, arc_words, records_offset, arcs_offset_in}
use Rattle.net.proofs.Encode
use Rattle.places.specs.Transitions.{Description, from_node_descriptions, of_pair, descriptions}
use Rattle.places.specs.Image.{net_of, image_of}
use Rattle.table.specs.Answer.{cause_number}
use Rattle.table.specs.declared.Cause.{Cause}
use Rattle.places.specs.declared.Refusal as unplanned
use Rattle.places.specs.declared.Refusal.TheVariants as unplanned_for
use Rattle.builder.specs.declared.Refusal.{Refusal}
use Rattle.builder.specs.Answer.{outcome, unbuilt, built_outcome, build_outcome, laid_outcome, extent, size_outcome}
use Rattle.places.specs.Inner.Arcs.{initial_numbers}
use Rattle.builder.specs.Inner.Writing
use Rattle.builder.specs.Inner.Writing.{writes, heads, put_all, Inside}
use Rattle.places.specs.Inner.Plan.{today, header_of}
use Rattle.places.specs.Plan.{places_at, tokens_at, Laid}
use Rattle.places.specs.Answers.{sums_of, net_sums}
use Rattle.builder.specs.Inner.Parts.{of_table}
use Rattle.places.specs.declared.count.Totals.{Totals}
use Rattle.builder.proofs.Writing.{writes-length, put-append, put-place, put-arc, put-length, inside-first, begun, written}
use Rattle.places.proofs.Size.{image-below}
use Rattle.places.proofs.Plans.{net-initial}
use Rattle.places.proofs.WholeSums.{image-words, transitions-are, counts-are, tokens-is, header_is}

module _ (w : List ℕ) where
  abbrev pub from_nodes : List Description
  from_nodes = flat (λ n. from_node_descriptions (scheme w) (today w) n ((scheme w).node n)) (range (nodes w))

  abbrev pub of_pairs : List Description
  of_pairs =
      flat (λ s. flat (λ r. of_pair (scheme w) (today w) s ((scheme w).branch s) r ((scheme w).branch r)) (range (branches w))) (range (branches w))

  all-descriptions : descriptions (scheme w) (today w) ≡ from_nodes ++ of_pairs
  unfolding descriptions scheme
  all-descriptions = refl

  module _ (ok : cause w ≡ 0) (x : List ℕ) (laid : Laid w x) (t : Totals) (all : sums_of t ≡ net_sums w)
      (out o1 o2 : List ℕ) (room : length (image_of w) ≤ length out)
      (first : o1 ≡ writes out 0 (header_of (word x places_at) t.transitions t.inputs t.outputs (word x tokens_at)))
      (second : o2 ≡ writes o1 8 (initial_numbers (scheme w) (today w))) where
    abbrev net : Net
    net = net_of (scheme w)

    abbrev base : ℕ
    base = 8 + word x tokens_at

    abbrev from-here : Writing.Heads
    from-here = heads o2 base (base + 6 * t.transitions)

    begun-is : o2 ≡ begun net out
    begun-is = second ∙ rw (first, header_is w ok x laid t all (word x places_at) (word x tokens_at) refl refl, net-initial w)

    heads-are : from-here ≡ heads (begun net out) (records_offset net) (arcs_offset_in net)
    heads-are = rw (begun-is, tokens-is w ok x laid t all (word x tokens_at) refl, (counts-are w ok x laid t all).0)

    pub all-written : (put_all (of_table w) (put_all (of_table w) from-here from_nodes) of_pairs).out ≡ image_of w ++ drop (length (image_of w)) out
    unfolding image_of
    all-written =
        ap (λ (s : Writing.Heads). s.out) (sym (put-append (of_table w) from-here from_nodes of_pairs))
        ∙ rw heads-are (written (of_table w) net (from_nodes ++ of_pairs) (transitions-are w ok ∙ ap (map (of_table w)) all-descriptions) out room)

    -- ---- both heads stay within the image

    here-length : length o2 ≡ length out
    here-length =
        rw (second, first)
        (writes-length (writes out 0 (header_of (word x places_at) t.transitions t.inputs t.outputs (word x tokens_at))) 8 (initial_numbers
        (scheme w) (today w))
        ∙ writes-length out 0 (header_of (word x places_at) t.transitions t.inputs t.outputs (word x tokens_at)))

    arcs-total : (xs : List Description) → total (map (λ d. length (arc_words (of_table w d))) xs) ≡ length (flat arc_words (map (of_table w) xs))
    unfolding total flat
    arcs-total [] = refl
    arcs-total (x ∷ xs) =
        omega (arith, arcs-total xs, length-append (arc_words (of_table w x)) (flat arc_words (map (of_table w) xs)))

    inside-all : Inside (put_all (of_table w) from-here (from_nodes ++ of_pairs))
    inside-all =
        let xs = from_nodes ++ of_pairs in
        let e = transitions-are w ok ∙ ap (map (of_table w)) all-descriptions in
        let n : length net.transitions ≡ length xs = ap (λ (ts : List Transition). length ts) e ∙ length-map xs (of_table w) in
        let a : length (flat arc_words net.transitions) ≡ length (flat arc_words (map (of_table w) xs)) = ap (λ (ts : List Transition). length
        (flat arc_words ts)) e in
        let c = (counts-are w ok x laid t all).0 in
        let k = tokens-is w ok x laid t all (word x tokens_at) refl in
        let i = image-words w ok in
        let b = image-below w ok in
        record {
          place-small = omega (arith, put-place (of_table w) from-here xs, n, k, i, b);
          arc-small = omega (arith, put-arc (of_table w) from-here xs, arcs-total xs, a, Encode.arcs-length net.transitions, n, c, k, i, b);
          place-fits = omega (arith, put-place (of_table w) from-here xs, put-length (of_table w) from-here xs, here-length, room, n, k, i);
          arc-fits = omega (
            arith,
            put-arc (of_table w) from-here xs,
            put-length (of_table w) from-here xs,
            here-length,
            room,
            arcs-total xs,
            a,
            Encode.arcs-length net.transitions,
            n,
            c,
            k,
            i,
          );
        }

    pub inside-nodes : Inside (put_all (of_table w) from-here from_nodes)
    inside-nodes = inside-first (of_table w) from-here from_nodes of_pairs inside-all

    pub inside-pairs : (s : Writing.Heads) → s ≡ put_all (of_table w) from-here from_nodes → Inside (put_all (of_table w) s of_pairs)
    inside-pairs s e = rw (e, ← put-append (of_table w) from-here from_nodes of_pairs) inside-all

    pub all_there : (s r : Writing.Heads) → s ≡ put_all (of_table w) from-here from_nodes → r ≡ put_all (of_table w) s of_pairs
        → r.out ≡ image_of w ++ drop (length (image_of w)) out
    all_there s r e f = rw (f, e) all-written

  -- ---- answers

  pub no_room : (lent : List ℕ) (n : ℕ) → n ≡ length (image_of w) → length lent < n → outcome 10 0 lent ≡ laid_outcome w lent
  no_room lent n e l = rw (lt-ltb (length lent) (length (image_of w)) (omega arith))

  pub all-fits : (lent out : List ℕ) (n : ℕ) → n ≡ length (image_of w) → n ≤ length lent → out ≡ image_of w ++ drop (length (image_of w)) lent
      → outcome 0 n out ≡ laid_outcome w lent
  all-fits lent out n e l f = rw (le-ltb (length lent) (length (image_of w)) (omega arith), e, f)

  pub refused-answer : (lent : List ℕ) (q : unplanned.Refusal)
      → ((v : Cause) → q ≡ unplanned_for.Table v → (cause_number v ≡ cause w) × (cause w ≡ 0 → ⊥)) → (q ≡ unplanned_for.NoRoom → ⊥)
      → (r : Result ℕ Refusal) → IsErrAnd r (λ p. p ≡ unbuilt q) → built_outcome r lent ≡ build_outcome w lent
  unfolding build_outcome
  refused-answer lent q t n (Ok k) h = absurd h
  refused-answer lent (unplanned_for.Table v) t n (Err p) h = let k = t v refl in rw (h, same-no (cause w) 0 k.1, k.0)
  refused-answer lent unplanned_for.NoRoom t n (Err p) h = absurd (n refl)

  pub laid-answer : (lent : List ℕ) → cause w ≡ 0 → laid_outcome w lent ≡ build_outcome w lent
  unfolding build_outcome
  laid-answer lent e = rw (same-yes (cause w) 0 e)

  pub size-answer : (n : ℕ) → cause w ≡ 0 → n ≡ length (image_of w) → extent 0 n ≡ size_outcome w
  unfolding size_outcome
  size-answer n h e = rw (same-yes (cause w) 0 h, e)

  pub no_size : (n : ℕ) → n ≡ cause w → (cause w ≡ 0 → ⊥) → extent n 0 ≡ size_outcome w
  unfolding size_outcome
  no_size n e d = rw (same-no (cause w) 0 d, e)
