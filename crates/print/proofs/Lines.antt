-- Laws of the lines: how a listing is written part by part.
use mathlib.Core.Path.{◌≡◌, refl, sym, ap, ◌∙◌}
use mathlib.Core.List.{List, [], ◌∷◌, ◌++◌, append_assoc}
use Prim.Native.Nat.{ℕ, ◌+◌, ◌-◌, ◌≤◌, ◌<◌, min}
use native.Mathlib.Decide.{ℕ_discrete}
use native.Mathlib.Omega.{arith}
use lib.ListN.{length}
use lib.Seq.{slice, take_all}
use Rattle.lists.specs.Lists.{word, from, flat}
use Rattle.lists.proofs.Ranges.{flat-more, flat-done}
use Rattle.lists.proofs.Slices.{slice-step, slice-none}
use Rattle.net.specs.Image.{record_offset, inputs_at, outputs_at}
use Rattle.print.specs.Text.{decimal, numbers, spaced, line, refused, refusal}
use Rattle.print.specs.Listing.{header_line, before_inputs, before_outputs, transition_line}
use Rattle.print.specs.Inner.Cursors.{Cursor, write}
use Rattle.print.specs.Inner.Parts.{label_text, arcs_text}
use Rattle.print.proofs.Writing.{write-append, then}

-- a word of the image as text, not at the start of a line
abbrev pub word_text : List ℕ → ℕ → List ℕ
word_text image i = spaced (decimal (word image i))

abbrev inputs_text : List ℕ → ℕ → List ℕ
inputs_text image transition = flat spaced (numbers (inputs_at image transition))

abbrev outputs_text : List ℕ → ℕ → List ℕ
outputs_text image transition = flat spaced (numbers (outputs_at image transition))

tokens_append : (xs ys : List (List ℕ)) → flat spaced (xs ++ ys) ≡ flat spaced xs ++ flat spaced ys
unfolding flat
tokens_append [] ys = refl
tokens_append (x ∷ xs) ys = rw (tokens_append xs ys) (sym (append_assoc (spaced x) (flat spaced xs) (flat spaced ys)))

-- ---- words of an image, one after the other

pub span-within : (w : List ℕ) (i e l : ℕ) → l ≡ min e (length w) → slice i e w ≡ slice i l w
span-within w i e l h = go (ℕ_discrete l e)
  where
    go : Dec (l ≡ e) → slice i e w ≡ slice i l w
    go (yes p) = rw p
    go (no d) =
        let a : length w ≤ e = omega arith in
        let b : length w ≤ l = omega arith in
        rw (take_all e w a, take_all l w b)

module _ (c : Cursor) (w : List ℕ) (i e : ℕ) where
  pub span_more : i < e → e ≤ length w
      → write c (flat spaced (numbers (slice i e w))) ≡ write (write c (spaced (decimal (word w i)))) (flat spaced (numbers (slice (i + 1) e w)))
  unfolding flat
  span_more h k = rw (slice-step w i e h k) (write-append c (spaced (decimal (word w i))) (flat spaced (numbers (slice (i + 1) e w))))

  pub span-done : e ≤ i → write c (flat spaced (numbers (slice i e w))) ≡ c
  unfolding flat write
  span-done h = rw (slice-none w i e h)

-- ---- texts as their parts

pub header-parts : (image : List ℕ) → header_line image ≡ decimal (word image 0) ++ (flat (word_text image) (from 1 4) ++ (10 ∷ []))
unfolding header_line line flat from
header-parts image = simp append_assoc

pub arcs-parts : (image : List ℕ) (transition : ℕ)
    → arcs_text image transition ≡ spaced before_inputs ++ (inputs_text image transition ++ (spaced before_outputs ++ outputs_text image transition))
unfolding arcs_text flat
arcs-parts image transition = rw (tokens_append (numbers (inputs_at image transition)) (before_outputs ∷ numbers (outputs_at image transition)))

regroup : (a b c d e : List ℕ) → (a ++ (b ++ (c ++ d))) ++ e ≡ (a ++ (b ++ (c ++ []))) ++ (d ++ e)
regroup a b c d e = simp append_assoc

pub line-parts : (image : List ℕ) (transition : ℕ)
    → transition_line image transition ≡ decimal transition ++ (label_text image transition ++ (arcs_text image transition ++ (10 ∷ [])))
unfolding transition_line line label_text arcs_text flat
line-parts image transition =
    let first = record_offset image transition in
    ap
    (λ (text : List ℕ). decimal transition ++ text)
    (regroup (word_text image first) (word_text image (first + 1)) (word_text image (first + 2)) (arcs_text image transition) (10 ∷ []))

pub refusal-parts : (number : ℕ) → refusal number ≡ refused ++ (spaced (decimal number) ++ (10 ∷ []))
unfolding refusal line flat
refusal-parts number = simp append_assoc

-- ---- what the parts write, one after the other: a is the cursor before them

pub header-written : {b c d : Cursor} (image : List ℕ) (a : Cursor) → b ≡ write a (decimal (word image 0)) → c ≡ write b (flat (word_text image) (from 1 4))
    → d ≡ write c (10 ∷ []) → d ≡ write a (header_line image)
header-written {b} image a p q r =
    rw (header-parts image) (then a (decimal (word image 0)) (flat (word_text image) (from 1 4) ++ (10 ∷ [])) p
    (then b (flat (word_text image) (from 1 4)) (10 ∷ []) q r))

pub label-written : {b c d : Cursor} (image : List ℕ) (transition start : ℕ) → start ≡ record_offset image transition → (a : Cursor)
    → b ≡ write a (word_text image start) → c ≡ write b (word_text image (start + 1)) → d ≡ write c (word_text image (start + 2))
    → d ≡ write a (label_text image transition)
unfolding label_text flat write
label-written {b} {c} image transition start at a p q r =
    let first = record_offset image transition in
    then
    a
    (word_text image first)
    (word_text image (first + 1) ++ (word_text image (first + 2) ++ []))
    (p ∙ rw at)
    (then b (word_text image (first + 1)) (word_text image (first + 2) ++ []) (q ∙ rw at) (then c (word_text image (first + 2)) [] (r ∙ rw at) refl))

-- x, y and z are the record's last three words: where the inputs start, how many they are, how many outputs there are
pub arcs-written : {b c d e : Cursor} (image : List ℕ) (transition start : ℕ) → start ≡ record_offset image transition → (x y z : ℕ)
    → x ≡ word image (start + 3) → y ≡ word image (start + 4) → z ≡ word image (start + 5) → (a : Cursor) → b ≡ write a (spaced before_inputs)
    → c ≡ write b (flat spaced (numbers (slice x (x + y) image))) → d ≡ write c (spaced before_outputs)
    → e ≡ write d (flat spaced (numbers (slice (x + y) (x + y + z) image))) → e ≡ write a (arcs_text image transition)
arcs-written {b} {c} image transition start at x y z h k l a p q r s =
    rw (arcs-parts image transition) (then
    a
    (spaced before_inputs)
    (inputs_text image transition ++ (spaced before_outputs ++ outputs_text image transition))
    p
    (then
    b
    (inputs_text image transition)
    (spaced before_outputs ++ outputs_text image transition)
    (q ∙ rw (h, k, at))
    (then c (spaced before_outputs) (outputs_text image transition) r (s ∙ rw (h, k, l, at)))))

pub line-written : {b c d e : Cursor} (image : List ℕ) (transition : ℕ) (a : Cursor) → b ≡ write a (decimal transition)
    → c ≡ write b (label_text image transition) → d ≡ write c (arcs_text image transition) → e ≡ write d (10 ∷ [])
    → e ≡ write a (transition_line image transition)
line-written {b} {c} image transition a p q r s =
    rw (line-parts image transition) (then
    a
    (decimal transition)
    (label_text image transition ++ (arcs_text image transition ++ (10 ∷ [])))
    p
    (then b (label_text image transition) (arcs_text image transition ++ (10 ∷ [])) q (then c (arcs_text image transition) (10 ∷ []) r s)))

pub refusal-written : {b c d : Cursor} (number : ℕ) (a : Cursor) → b ≡ write a refused → c ≡ write b (spaced (decimal number)) → d ≡ write c (10 ∷ [])
    → d ≡ write a (refusal number)
refusal-written {b} number a p q r =
    rw (refusal-parts number) (then a refused (spaced (decimal number) ++ (10 ∷ [])) p (then b (spaced (decimal number)) (10 ∷ []) q r))

-- ---- the lines of all transitions, and the words of the header

module _ (c : Cursor) (f : ℕ → List ℕ) (i n : ℕ) where
  texts_more : i < n → write c (flat f (from i (n - i))) ≡ write (write c (f i)) (flat f (from (i + 1) (n - (i + 1))))
  texts_more h = rw (flat-more f i n h) (write-append c (f i) (flat f (from (i + 1) (n - (i + 1)))))

  texts-done : n ≤ i → write c (flat f (from i (n - i))) ≡ c
  unfolding write
  texts-done h = rw (flat-done f i n h)

module _ (c : Cursor) (image : List ℕ) (i n : ℕ) where
  pub lines_more : i < n
      → write c (flat (transition_line image) (from i (n - i)))
      ≡ write (write c (transition_line image i)) (flat (transition_line image) (from (i + 1) (n - (i + 1))))
  lines_more = texts_more c (transition_line image) i n

  pub lines-done : n ≤ i → write c (flat (transition_line image) (from i (n - i))) ≡ c
  lines-done = texts-done c (transition_line image) i n

  pub words_more : i < n
      → write c (flat (word_text image) (from i (n - i))) ≡ write (write c (word_text image i)) (flat (word_text image) (from (i + 1) (n - (i + 1))))
  words_more = texts_more c (word_text image) i n

  pub words-done : n ≤ i → write c (flat (word_text image) (from i (n - i))) ≡ c
  words-done = texts-done c (word_text image) i n
