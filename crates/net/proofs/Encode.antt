-- Laws of an abstract net's image. Every statement about built nets goes through these: the header check passes, each record is right, and
-- label, inputs and outputs of record k are those of transition k.
use mathlib.Core.Path.{◌≡◌, refl, sym, ap, subst, ◌∙◌}
use mathlib.Core.Bool.{Bool, true}
use mathlib.Core.List.{List, [], ◌∷◌, ◌++◌, append_assoc, map}
use Prim.Native.Nat.{ℕ, zero, suc, ◌+◌, ◌*◌, ◌≤◌, ◌<◌}
use native.Mathlib.Omega.{arith}
use lib.ListN.{length, get_or, take, drop, replicate, length-append}
use lib.Seq.{slice, split_at, length-take-le, get_or-append-add}
use borrow.Author.Tests.{le-leb}
use Rattle.lists.specs.Lists.{word, every, flat, ascends, total}
use Rattle.lists.proofs.Tests.{and_left, and_right, same-yes}
use Rattle.lists.proofs.Slices.{slice-between}
use Rattle.net.specs.Image.{label_of, place_count_of, transition_count, records_start, arcs_offset, given_length, initial_places}
use Rattle.net.specs.Image.{is_header_right, record_offset, label_at, inputs_start, inputs_at, outputs_at, record_right}
use Rattle.net.specs.Firing.{put, initial_marking, refused, step_of, step}
use Rattle.net.specs.Net.{Transition, Net, blank, transition_at, arc_words, record_words, records_from, records_offset}
use Rattle.net.specs.Net.{arcs_offset_in, input_total, output_total, header_words, encode, ascending, is_ascending}
use Rattle.net.specs.Inner.Arcs.{Offsets}
use Rattle.net.proofs.Images.{inputs_are, outputs-are, all_right}
use Rattle.net.proofs.Steps.{step-none, step-as}

-- ---- the parts of an image

flat_append : (xs ys : List Transition) → flat arc_words (xs ++ ys) ≡ flat arc_words xs ++ flat arc_words ys
unfolding flat
flat_append [] ys = refl
flat_append (x ∷ xs) ys = ap (λ (l : List ℕ). arc_words x ++ l) (flat_append xs ys) ∙ sym (append_assoc (arc_words x) (flat arc_words xs) (flat arc_words ys))

records-append : (start : ℕ) (xs ys : List Transition)
    → records_from start (xs ++ ys) ≡ records_from start xs ++ records_from (start + length (flat arc_words xs)) ys
unfolding flat records_from
records-append start [] ys = let e : start ≡ start + 0 = omega arith in ap (λ (s : ℕ). records_from s ys) e
records-append start (x ∷ xs) ys =
    let e : start + length (arc_words x) + length (flat arc_words xs) ≡ start + length (arc_words x ++ flat arc_words xs) = omega
    (arith, length-append (arc_words x) (flat arc_words xs)) in
    ap (λ (l : List ℕ). record_words start x ++ l)
    (records-append (start + length (arc_words x)) xs ys
    ∙ ap (λ (s : ℕ). records_from (start + length (arc_words x)) xs ++ records_from s ys) e)

records-length : (start : ℕ) (ts : List Transition) → length (records_from start ts) ≡ 6 * length ts
unfolding records_from
records-length start [] = refl
records-length start (t ∷ ts) = let r = records-length (start + length (arc_words t)) ts in omega arith

pub arcs-length : (ts : List Transition) → length (flat arc_words ts) ≡ total (map (λ t. length t.inputs) ts) + total (map (λ t. length t.outputs) ts)
unfolding flat total
arcs-length [] = refl
arcs-length (t ∷ ts) = omega (arith, length-append (arc_words t) (flat arc_words ts), length-append t.inputs t.outputs, arcs-length ts)

-- ---- the header

module _ (net : Net) where
  pub place-count : place_count_of (encode net) ≡ net.places
  unfolding encode
  place-count = refl

  pub transition-count : transition_count (encode net) ≡ length net.transitions
  unfolding encode
  transition-count = refl

  pub records-start : records_start (encode net) ≡ records_offset net
  unfolding encode
  records-start = refl

  pub arcs-start : arcs_offset (encode net) ≡ arcs_offset_in net
  unfolding encode
  arcs-start = refl

  pub image-length : length (encode net) ≡ 8 + length net.initial + 6 * length net.transitions + input_total net + output_total net
  unfolding encode
  image-length =
      let ts = net.transitions in
      omega (
        arith,
        length-append net.initial (records_from (arcs_offset_in net) ts ++ flat arc_words ts),
        length-append (records_from (arcs_offset_in net) ts)
            (flat arc_words ts),
        records-length (arcs_offset_in net) ts,
        arcs-length ts,
      )

  length-given : length (encode net) ≡ given_length (encode net)
  unfolding encode
  length-given = image-length

  first-offset : word (encode net) 5 ≡ 8
  unfolding encode
  first-offset = refl

  second-offset : word (encode net) 6 ≡ records_start (encode net)
  unfolding encode
  second-offset = refl

  third-offset : word (encode net) 7 ≡ arcs_offset (encode net)
  unfolding encode
  third-offset = refl

  -- the initial list is read back
  pub initial-places : initial_places (encode net) ≡ net.initial
  unfolding encode
  initial-places = slice-between (header_words net) net.initial (records_from (arcs_offset_in net) net.transitions ++ flat arc_words net.transitions) 8
      (8 + length net.initial) refl refl

  pub initial-marking : initial_marking (encode net) ≡ put 1 (replicate net.places 0) net.initial
  unfolding initial_marking
  initial-marking = rw (initial-places, place-count)

  module _ (good : is_ascending net ≡ true) where
    pub initial-ascends : ascends net.places 0 net.initial ≡ true
    unfolding is_ascending
    initial-ascends = and_left (ascends net.places 0 net.initial) (every (ascending net.places) net.transitions) good

    pub header-passes : is_header_right (encode net) ≡ true
    unfolding is_header_right
    header-passes =
        let w = encode net in
        rw (
          le-leb 8 (length w) (omega (arith, image-length)),
          same-yes (word w 5) 8 first-offset,
          same-yes (word w 6) (records_start w) second-offset,
          same-yes (word w 7) (arcs_offset w) third-offset,
          same-yes (length w) (given_length w) length-given,
          initial-places,
          place-count,
        )
        initial-ascends

-- ---- a transition that stands between others

module _ (net : Net) (xs : List Transition) (t : Transition) (ys : List Transition) (is : net.transitions ≡ xs ++ (t ∷ ys)) where
  abbrev start : ℕ
  start = arcs_offset_in net + length (flat arc_words xs)

  abbrev front : List ℕ
  front = header_words net ++ (net.initial ++ records_from (arcs_offset_in net) xs)

  abbrev behind : List ℕ
  behind = records_from (start + length (arc_words t)) ys ++ flat arc_words net.transitions

  front_length : length front ≡ records_offset net + 6 * length xs
  front_length = omega (arith, length-append net.initial (records_from (arcs_offset_in net) xs), records-length (arcs_offset_in net) xs)

  at-record : encode net ≡ front ++ (record_words start t ++ behind)
  unfolding encode records_from
  at-record =
      ap (λ (l : List ℕ). header_words net ++ (net.initial ++ (l ++ flat arc_words net.transitions)))
      (ap (records_from (arcs_offset_in net)) is ∙ records-append (arcs_offset_in net) xs (t ∷ ys))
      ∙ simp append_assoc

  record-word : (j : ℕ) → word (encode net) (record_offset (encode net) (length xs) + j) ≡ get_or (record_words start t ++ behind) j 0
  record-word j =
      let e : record_offset (encode net) (length xs) + j ≡ length front + j = omega (arith, front_length, records-start net) in
      ap (word (encode net)) e ∙ ap (λ (w : List ℕ). word w (length front + j)) at-record ∙ get_or-append-add front (record_words start t ++ behind) j 0

  abbrev body : List ℕ
  body = header_words net ++ (net.initial ++ (records_from (arcs_offset_in net) net.transitions ++ flat arc_words xs))

  body-length : length body ≡ start
  body-length =
      let ts = net.transitions in
      omega (
        arith,
        length-append net.initial (records_from (arcs_offset_in net) ts ++ flat arc_words xs),
        length-append (records_from (arcs_offset_in net) ts)
            (flat arc_words xs),
        records-length (arcs_offset_in net) ts,
      )

  at-arcs : encode net ≡ body ++ (t.inputs ++ (t.outputs ++ flat arc_words ys))
  unfolding encode flat
  at-arcs =
      ap (λ (l : List ℕ). header_words net ++ (net.initial ++ (records_from (arcs_offset_in net) net.transitions ++ l)))
      (ap (flat arc_words) is ∙ flat_append xs (t ∷ ys))
      ∙ simp append_assoc

  offsets : Offsets (encode net) (length xs) start (start + length t.inputs) (start + length t.inputs + length t.outputs)
  offsets =
      let a : start ≡ inputs_start (encode net) (length xs) = sym (record-word 3) in
      let b : length t.inputs ≡ word (encode net) (record_offset (encode net) (length xs) + 4) = sym (record-word 4) in
      let c : length t.outputs ≡ word (encode net) (record_offset (encode net) (length xs) + 5) = sym (record-word 5) in
      record { inputs_are = a; outputs-are = omega arith; end_is = omega arith }

  label-between : label_at (encode net) (length xs) ≡ t.label
  label-between =
      let s = record_offset (encode net) (length xs) in
      let e : s ≡ s + 0 = omega arith in
      let k : word (encode net) s ≡ t.label.kind = ap (word (encode net)) e ∙ record-word 0 in
      ap (λ (x : ℕ). label_of x (word (encode net) (s + 1)) (word (encode net) (s + 2))) k
      ∙ ap (λ (x : ℕ). label_of t.label.kind x (word (encode net) (s + 2))) (record-word 1)
      ∙ ap (λ (x : ℕ). label_of t.label.kind t.label.a x) (record-word 2)

  inputs-sliced : slice start (start + length t.inputs) (encode net) ≡ t.inputs
  inputs-sliced = rw at-arcs (slice-between body t.inputs (t.outputs ++ flat arc_words ys) start (start + length t.inputs) body-length refl)

  outputs-sliced : slice (start + length t.inputs) (start + length t.inputs + length t.outputs) (encode net) ≡ t.outputs
  outputs-sliced =
      let m = start + length t.inputs in
      let e : length (body ++ t.inputs) ≡ m = omega (arith, length-append body t.inputs, body-length) in
      rw (at-arcs, ← append_assoc body t.inputs (t.outputs ++ flat arc_words ys))
      (slice-between (body ++ t.inputs) t.outputs (flat arc_words ys) m (m + length t.outputs) e refl)

  inputs-between : inputs_at (encode net) (length xs) ≡ t.inputs
  inputs-between = sym (inputs_are (encode net) (length xs) start (start + length t.inputs) (start + length t.inputs + length t.outputs) offsets)
      ∙ inputs-sliced

  outputs-between : outputs_at (encode net) (length xs) ≡ t.outputs
  outputs-between = sym (outputs-are (encode net) (length xs) start (start + length t.inputs) (start + length t.inputs + length t.outputs) offsets)
      ∙ outputs-sliced

  ends-within : start + length t.inputs + length t.outputs ≤ length (encode net)
  ends-within =
      omega (
        arith,
        ap (λ (l : List ℕ). length l) at-arcs,
        length-append body (t.inputs ++ (t.outputs ++ flat arc_words ys)),
        length-append t.inputs
            (t.outputs ++ flat arc_words ys),
        length-append t.outputs (flat arc_words ys),
        body-length,
      )

  right-between : ascends net.places 0 t.inputs ≡ true → ascends net.places 0 t.outputs ≡ true → record_right (encode net) (length xs) ≡ true
  right-between a b =
      all_right (encode net) (length xs) start (start + length t.inputs) (start + length t.inputs + length t.outputs) offsets
      (omega (arith, arcs-start net)) ends-within
      (rw (inputs-sliced, place-count net) a)
      (rw (outputs-sliced, place-count net) b)

-- ---- transition k

every-at : (p : Transition → Bool) (ts : List Transition) → every p ts ≡ true → (k : ℕ) → k < length ts → p (get_or ts k blank) ≡ true
unfolding every
every-at p [] h k l = absurd (omega arith)
every-at p (t ∷ ts) h zero l = and_left (p t) (every p ts) h
every-at p (t ∷ ts) h (suc k) l = every-at p ts (and_right (p t) (every p ts) h) k (omega arith)

module _ (net : Net) (k : ℕ) (h : k < length net.transitions) where
  before-k : length (take k net.transitions) ≡ k
  before-k = length-take-le k net.transitions (omega arith)

  split : net.transitions ≡ take k net.transitions ++ (transition_at net k ∷ drop (suc k) net.transitions)
  split = split_at net.transitions k blank h

  pub label-at : label_at (encode net) k ≡ (transition_at net k).label
  label-at = subst (λ (n : ℕ). label_at (encode net) n ≡ (transition_at net k).label) before-k
      (label-between net (take k net.transitions) (transition_at net k) (drop (suc k) net.transitions) split)

  pub inputs-at : inputs_at (encode net) k ≡ (transition_at net k).inputs
  inputs-at = subst (λ (n : ℕ). inputs_at (encode net) n ≡ (transition_at net k).inputs) before-k
      (inputs-between net (take k net.transitions) (transition_at net k) (drop (suc k) net.transitions) split)

  pub outputs-at : outputs_at (encode net) k ≡ (transition_at net k).outputs
  outputs-at = subst (λ (n : ℕ). outputs_at (encode net) n ≡ (transition_at net k).outputs) before-k
      (outputs-between net (take k net.transitions) (transition_at net k) (drop (suc k) net.transitions) split)

  module _ (good : is_ascending net ≡ true) where
    arcs-ascend : ascending net.places (transition_at net k) ≡ true
    unfolding is_ascending
    arcs-ascend = every-at (ascending net.places) net.transitions
        (and_right (ascends net.places 0 net.initial) (every (ascending net.places) net.transitions) good) k h

    pub inputs-ascend : ascends net.places 0 (transition_at net k).inputs ≡ true
    inputs-ascend = and_left (ascends net.places 0 (transition_at net k).inputs) (ascends net.places 0 (transition_at net k).outputs) arcs-ascend

    pub outputs-ascend : ascends net.places 0 (transition_at net k).outputs ≡ true
    outputs-ascend = and_right (ascends net.places 0 (transition_at net k).inputs) (ascends net.places 0 (transition_at net k).outputs) arcs-ascend

    pub record-passes : record_right (encode net) k ≡ true
    record-passes =
        subst (λ (n : ℕ). record_right (encode net) n ≡ true) before-k
        (right-between net (take k net.transitions) (transition_at net k) (drop (suc k) net.transitions) split inputs-ascend outputs-ascend)

    -- one firing of a built net looks at the transition's own arcs
    pub step-at : (m : List ℕ) → step (encode net) m k ≡ step_of m (transition_at net k).inputs (transition_at net k).outputs
    step-at m = step-as (encode net) m k (omega (arith, transition-count net)) record-passes (transition_at net k).inputs (transition_at net k).outputs
        (sym inputs-at) (sym outputs-at)

pub step_past : (net : Net) (m : List ℕ) (k : ℕ) → length net.transitions ≤ k → step (encode net) m k ≡ refused 14
step_past net m k h = step-none (encode net) m k (omega (arith, transition-count net))
