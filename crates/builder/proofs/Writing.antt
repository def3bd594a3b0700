-- Laws of the two writing heads: how a loop goes on, what the heads point at, and that all that was written is the image of the net.
use mathlib.Core.Path.{◌≡◌, refl, sym, ap, ◌∙◌}
use mathlib.Core.List.{List, [], ◌∷◌, ◌++◌, map, append_assoc}
use Prim.Native.Nat.{ℕ, suc, ◌+◌, ◌-◌, ◌*◌, ◌≤◌, ◌<◌}
use native.Mathlib.Omega.{arith}
use lib.ListN.{length, take, drop, set, length-append, length-drop, length-set, length-map, take-append-drop}
use lib.Seq.{set_at, append_snoc, drop-append-le, drop-drop, length-take-le}
use Rattle.lists.specs.Lists.{from, flat, total}
use Rattle.lists.proofs.Ranges.{from_more, from-done}
use Rattle.net.specs.Net.{Transition, Net, arc_words, record_words, records_from, records_offset, arcs_offset_in, header_words, encode}
use Rattle.net.proofs.Encode
use Rattle.builder.specs.Inner.Writing.{writes, Heads, heads, put_one_transition, put_all, Inside}

-- ---- words written one after the other

pub writes_one : (out : List ℕ) (i v : ℕ) (vs : List ℕ) → writes out i (v ∷ vs) ≡ writes (set out i v) (i + 1) vs
unfolding writes
writes_one out i v vs = refl

pub writes-none : (out : List ℕ) (i : ℕ) → writes out i [] ≡ out
unfolding writes
writes-none out i = refl

pub writes-append : (out : List ℕ) (i : ℕ) (xs ys : List ℕ) → writes out i (xs ++ ys) ≡ writes (writes out i xs) (i + length xs) ys
unfolding writes
writes-append out i [] ys = let e : i + 0 ≡ i = omega arith in rw e
writes-append out i (x ∷ xs) ys =
    let e : i + suc (length xs) ≡ i + 1 + length xs = omega arith in
    rw e (writes-append (set out i x) (i + 1) xs ys)

pub writes-length : (out : List ℕ) (i : ℕ) (xs : List ℕ) → length (writes out i xs) ≡ length out
unfolding writes
writes-length out i [] = refl
writes-length out i (x ∷ xs) = writes-length (set out i x) (i + 1) xs ∙ length-set out i x

-- words written behind a part of the buffer
pub writes-behind : (a d v : List ℕ) (i : ℕ) → length a ≡ i → length v ≤ length d → writes (a ++ d) i v ≡ a ++ (v ++ drop (length v) d)
unfolding writes
writes-behind a d [] i e h = refl
writes-behind a [] (x ∷ v) i e h = absurd (omega arith)
writes-behind a (y ∷ d) (x ∷ v) i e h =
    let l : length (a ++ (x ∷ [])) ≡ i + 1 = omega (arith, length-append a (x ∷ [])) in
    ap (λ (o : List ℕ). writes o (i + 1) v) (set_at a y d x i e ∙ sym (append_snoc a x d))
    ∙ writes-behind (a ++ (x ∷ [])) d v (i + 1) l (omega arith) ∙ append_snoc a x (v ++ drop (length v) d)

-- a record and arcs that are written within the buffer
pub one-room : (s : Heads) (t : Transition) → Inside (put_one_transition s t) → (s.place + 6 ≤ length s.out) × (s.arc + length (arc_words t) ≤ length s.out)
one-room s t h =
    let a = writes-length s.out s.place (record_words s.arc t) in
    let b = writes-length (writes s.out s.place (record_words s.arc t)) s.arc (arc_words t) in
    (omega (arith, h.place-fits), omega (arith, h.arc-fits))

-- ---- lists of transitions

module _ {A : Type 0} (f : A → Transition) where
  pub put-none : (s : Heads) → put_all f s [] ≡ s
  unfolding put_all
  put-none s = refl

  pub put-cons : (s : Heads) (x : A) (xs : List A) → put_all f s (x ∷ xs) ≡ put_all f (put_one_transition s (f x)) xs
  unfolding put_all
  put-cons s x xs = refl

  pub put-append : (s : Heads) (xs ys : List A) → put_all f s (xs ++ ys) ≡ put_all f (put_all f s xs) ys
  unfolding put_all
  put-append s [] ys = refl
  put-append s (x ∷ xs) ys = put-append (put_one_transition s (f x)) xs ys

  -- a loop over the numbers from i to e, with one transition or a list of them for each
  pub put-map-more : (g : ℕ → A) (s : Heads) (i e : ℕ) → i < e
      → put_all f s (map g (from i (e - i))) ≡ put_all f (put_one_transition s (f (g i))) (map g (from (i + 1) (e - (i + 1))))
  unfolding put_all
  put-map-more g s i e h = rw (from_more i e h)

  pub put-map-done : (g : ℕ → A) (s : Heads) (i e : ℕ) → e ≤ i → put_all f s (map g (from i (e - i))) ≡ s
  unfolding put_all
  put-map-done g s i e h = rw (from-done i e h)

  pub put-flat-more : (g : ℕ → List A) (s : Heads) (i e : ℕ) → i < e
      → put_all f s (flat g (from i (e - i))) ≡ put_all f (put_all f s (g i)) (flat g (from (i + 1) (e - (i + 1))))
  unfolding flat
  put-flat-more g s i e h = rw (from_more i e h) (put-append s (g i) (flat g (from (i + 1) (e - (i + 1)))))

  pub put-flat-done : (g : ℕ → List A) (s : Heads) (i e : ℕ) → e ≤ i → put_all f s (flat g (from i (e - i))) ≡ s
  unfolding put_all flat
  put-flat-done g s i e h = rw (from-done i e h)

  -- a loop over the places of a list of numbers
  pub put-list-more : (g : ℕ → A) (s : Heads) (v : ℕ) (vs : List ℕ) → put_all f s (map g (v ∷ vs)) ≡ put_all f (put_one_transition s (f (g v))) (map g vs)
  unfolding put_all
  put-list-more g s v vs = refl

  -- ---- where the heads point, and how long the buffer is

  pub put-place : (s : Heads) (xs : List A) → (put_all f s xs).place ≡ s.place + 6 * length xs
  unfolding put_all
  put-place s [] = omega arith
  put-place s (x ∷ xs) = omega (arith, put-place (put_one_transition s (f x)) xs)

  pub put-arc : (s : Heads) (xs : List A) → (put_all f s xs).arc ≡ s.arc + total (map (λ x. length (arc_words (f x))) xs)
  unfolding put_all total
  put-arc s [] = omega arith
  put-arc s (x ∷ xs) = omega (arith, put-arc (put_one_transition s (f x)) xs)

  pub put-length : (s : Heads) (xs : List A) → length (put_all f s xs).out ≡ length s.out
  unfolding put_all
  put-length s [] = refl
  put-length s (x ∷ xs) =
      put-length (put_one_transition s (f x)) xs
      ∙ writes-length (writes s.out s.place (record_words s.arc (f x))) s.arc (arc_words (f x))
      ∙ writes-length s.out s.place (record_words s.arc (f x))

  -- where the heads of a whole list are within the image, those of its first part are
  pub inside-first : (s : Heads) (xs ys : List A) → Inside (put_all f s (xs ++ ys)) → Inside (put_all f s xs)
  inside-first s xs ys h =
      let e = put-append s xs ys in
      let p = put-place (put_all f s xs) ys in
      let a = put-arc (put_all f s xs) ys in
      let q : (put_all f s (xs ++ ys)).place ≡ (put_all f (put_all f s xs) ys).place = ap (λ (t : Heads). t.place) e in
      let b : (put_all f s (xs ++ ys)).arc ≡ (put_all f (put_all f s xs) ys).arc = ap (λ (t : Heads). t.arc) e in
      let l : length (put_all f s (xs ++ ys)).out ≡ length (put_all f s xs).out =
      ap (λ (t : Heads). length t.out) e ∙ put-length (put_all f s xs) ys in
      record {
        place-small = omega (arith, h.place-small);
        arc-small = omega (arith, h.arc-small);
        place-fits = omega (arith, h.place-fits);
        arc-fits = omega (arith, h.arc-fits);
      }

  -- ---- all that was written, as lists: a stands before the head of the records, g is the room of the records, b are the arcs so far, h is the room behind

  layout : (k arc : ℕ) (a g b h : List ℕ) (xs : List A) → length a ≡ k → length g ≡ 6 * length xs → length a + (length g + length b) ≡ arc
      → length (flat arc_words (map f xs)) ≤ length h
      → (put_all f (heads (a ++ (g ++ (b ++ h))) k arc) xs).out
      ≡ a ++ (records_from arc (map f xs) ++ (b ++ (flat arc_words (map f xs) ++ drop (length (flat arc_words (map f xs))) h)))
  unfolding put_all records_from flat
  layout k arc a [] b h [] e r c l = refl
  layout k arc a (x ∷ g) b h [] e r c l = absurd (omega arith)
  layout k arc a g b h (x ∷ xs) e r c l =
      let t = f x in
      let w = record_words arc t in
      let v = arc_words t in
      let rest = flat arc_words (map f xs) in
      let g' = drop 6 g in
      let lv = length-append v rest in
      let one : writes (a ++ (g ++ (b ++ h))) k w ≡ (a ++ w) ++ (g' ++ (b ++ h)) =
      writes-behind a (g ++ (b ++ h)) w k e (omega (arith, length-append g (b ++ h)))
      ∙ rw (drop-append-le 6 g (b ++ h) (omega arith)) (sym (append_assoc a w (g' ++ (b ++ h)))) in
      let two : writes ((a ++ w) ++ (g' ++ (b ++ h))) arc v ≡ (a ++ w) ++ (g' ++ ((b ++ v) ++ drop (length v) h)) =
      ap (λ (o : List ℕ). writes o arc v) (simp append_assoc)
      ∙ writes-behind ((a ++ w) ++ (g' ++ b)) h v arc (simp (length-append, length-drop) (omega arith)) (omega arith)
      ∙ simp append_assoc in
      ap (λ (o : List ℕ). (put_all f (heads o (k + 6) (arc + length v)) xs).out) (ap (λ (o : List ℕ). writes o arc v) one ∙ two)
      ∙ layout (k + 6) (arc + length v) (a ++ w) g' (b ++ v) (drop (length v) h) xs
      (simp length-append (omega arith)) (simp length-drop (omega arith)) (simp (length-append, length-drop) (omega arith)) (simp length-drop (omega arith))
      ∙ rw (drop-drop, lv) (simp append_assoc)

-- ---- header, initial places, then all transitions: the image of the net

abbrev pub begun : Net → List ℕ → List ℕ
begun net out = writes (writes out 0 (header_words net)) 8 net.initial

module _ {A : Type 0} (f : A → Transition) (net : Net) (xs : List A) (is : net.transitions ≡ map f xs) (out : List ℕ)
    (room : length (encode net) ≤ length out) where
  abbrev arcs : List ℕ
  arcs = flat arc_words (map f xs)

  abbrev behind : List ℕ
  behind = drop (length net.initial) (drop 8 out)

  image-length : length (encode net) ≡ 8 + length net.initial + 6 * length xs + length arcs
  image-length =
      let e : flat arc_words net.transitions ≡ arcs = ap (flat arc_words) is in
      let l : length net.transitions ≡ length xs = ap (λ (ts : List Transition). length ts) is ∙ length-map xs f in
      let a : length (flat arc_words net.transitions) ≡ length arcs = ap (λ (ws : List ℕ). length ws) e in
      omega (arith, Encode.image-length net, Encode.arcs-length net.transitions)

  begun-is : begun net out ≡ (header_words net ++ net.initial) ++ behind
  begun-is =
      let m : length net.initial ≤ length (drop 8 out) = omega (arith, image-length, length-drop 8 out) in
      ap (λ (o : List ℕ). writes o 8 net.initial) (writes-behind [] out (header_words net) 0 refl (omega (arith, image-length)))
      ∙ writes-behind (header_words net) (drop 8 out) net.initial 8 refl m
      ∙ sym (append_assoc (header_words net) net.initial behind)

  rest-is : drop (length arcs) (drop (6 * length xs) behind) ≡ drop (length (encode net)) out
  rest-is = simp drop-drop (rw image-length)

  encode-is : encode net ≡ (header_words net ++ net.initial) ++ (records_from (arcs_offset_in net) (map f xs) ++ arcs)
  unfolding encode
  encode-is =
      ap (λ (ts : List Transition). header_words net ++ (net.initial ++ (records_from (arcs_offset_in net) ts ++ flat arc_words ts))) is
      ∙ sym (append_assoc (header_words net) net.initial (records_from (arcs_offset_in net) (map f xs) ++ arcs))

  pub written : (put_all f (heads (begun net out) (records_offset net) (arcs_offset_in net)) xs).out ≡ encode net ++ drop (length (encode net)) out
  written =
      let t : length net.transitions ≡ length xs = ap (λ (ts : List Transition). length ts) is ∙ length-map xs f in
      let b : length behind ≡ length out - (8 + length net.initial) = simp length-drop (omega arith) in
      let a = header_words net ++ net.initial in
      let g = take (6 * length xs) behind in
      let h = drop (6 * length xs) behind in
      let r = records_from (arcs_offset_in net) (map f xs) in
      let lg : length g ≡ 6 * length xs = length-take-le (6 * length xs) behind (omega (arith, image-length)) in
      let lh : length h ≡ length behind - 6 * length xs = length-drop (6 * length xs) behind in
      let la : length a ≡ 8 + length net.initial = length-append (header_words net) net.initial in
      let grouped : a ++ (r ++ (arcs ++ drop (length (encode net)) out)) ≡ (a ++ (r ++ arcs)) ++ drop (length (encode net)) out = simp append_assoc in
      ap (λ (o : List ℕ). (put_all f (heads o (records_offset net) (arcs_offset_in net)) xs).out)
      (begun-is ∙ ap (λ (l : List ℕ). a ++ l) (sym (take-append-drop (6 * length xs) behind)))
      ∙ layout f (records_offset net) (arcs_offset_in net) a g [] h xs (omega arith) lg (omega arith) (omega (arith, image-length))
      ∙ ap (λ (l : List ℕ). a ++ (r ++ (arcs ++ l))) rest-is
      ∙ grouped
      ∙ ap (λ (l : List ℕ). l ++ drop (length (encode net)) out) (sym encode-is)
