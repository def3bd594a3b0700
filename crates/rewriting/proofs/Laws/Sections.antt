-- The header and the sections of the rewritten table, written one after another.
use mathlib.Core.Path.{◌≡◌, refl, sym, ap, ◌∙◌}
use mathlib.Core.List.{List, [], ◌∷◌, ◌++◌, map, append_assoc}
use Prim.Native.Nat.{ℕ, zero, suc, ◌+◌, ◌-◌, ◌*◌, ◌<◌}
use native.Mathlib.Nat.{add-zero}
use native.Mathlib.Omega.{arith}
use lib.Seq.{sets, slice}
use Rattle.lists.specs.Lists.{word, from, range, flat}
use Rattle.lists.proofs.Members.{map-append}
use Rattle.lists.proofs.Numbered.{map-flat}
use Rattle.scheme.specs.Words.{publics, bounds, definitions, threads, nodes, branches, arguments, name_kind_of, entry, argument}
use Rattle.process.specs.Inner.Listed.{Listed}
use Rattle.process.proofs.Listed.{listed-append, listed_more}
use Rattle.rewriting.specs.Rewriting.{header_of, rewritten_header, name_copies, node_copies, branch_copies, argument_copies, copied, copy_name_of}
use Rattle.rewriting.specs.Rewriting.{definition_words, definition_copy, node_words, branch_words, branch_copy, name_part, definition_part, thread_part}
use Rattle.rewriting.specs.Rewriting.{node_part, branch_part, argument_part, rewritten}
use Rattle.rewriting.specs.Inner.Copying.{Row, Rows}
use Rattle.rewriting.specs.Inner.Counting.{Summed, header_with}
use Rattle.rewriting.specs.Inner.Writing.{copy_words, front_words, back_words}
use Rattle.rewriting.specs.declared.copies.Counts.{Counts}
use Rattle.rewriting.specs.declared.copies.Part.TheVariants.{Names, Definitions, Nodes, Branches, Arguments}

-- four runs of words are a header
pub header-listed : (w : List ℕ) (k : Counts) (p t : ℕ) → p ≡ publics w → t ≡ threads w
    → (out one two three after : List ℕ) (i j l r : ℕ) → Listed 4 (p ∷ k.names ∷ k.definitions ∷ t ∷ []) out 0 one i
    → Listed 4 (k.nodes ∷ k.branches ∷ k.arguments ∷ []) one i two j
    → Listed 4 (13 ∷ (13 + k.names) ∷ (13 + k.names + 4 * k.definitions) ∷ []) two j three l
    → Listed 4 ((13 + k.names + 4 * k.definitions + t) ∷ (13 + k.names + 4 * k.definitions + t + 3 * k.nodes) ∷
    (13 + k.names + 4 * k.definitions + t + 3 * k.nodes + 4 * k.branches) ∷ []) three l after r
    → Listed 13 (header_with w k) out 0 after r
unfolding header_with header_of
header-listed w k p t e f out one two three after i j l r A B C D =
    let X = listed-append 4 4 _ _ out 0 one i two j A B in
    let Y = listed-append 8 4 _ _ out 0 two j three l X C in
    let Z = listed-append 12 4 _ _ out 0 three l after r Y D in
    let n : r ≡ 0 + 13 = Z.next in
    rw (← e, ← f) record { written = Z.written; next = Z.next; few = omega (arith, n) }

pub header_is : (w list : List ℕ) (copies counts : Counts) → Rows w list copies → Summed w copies counts → header_with w counts ≡ rewritten_header w
unfolding header_with rewritten_header
header_is w list copies counts R S =
    rw (
      S.all-names,
      S.all-definitions,
      S.all-nodes,
      S.all-branches,
      S.all-arguments,
      R.name-row.count-is,
      R.definition-row.count-is,
      R.node_row.count-is,
      R.branch_row.count-is,
      R.argument-row.count-is,
    )

-- ---- sections that stay

map-shift : (g h : ℕ → ℕ) (a b n : ℕ) → ((i : ℕ) → i < n → g (a + i) ≡ h (b + i)) → map g (from a n) ≡ map h (from b n)
unfolding from
map-shift g h a b zero e = refl
map-shift g h a b (suc n) e =
    let z : g a ≡ h b = rw (add-zero a, add-zero b) at (e 0 (omega arith)) in
    rw (
      z,
      map-shift g h (a + 1) (b + 1) n (λ i l.
          let p : a + 1 + i ≡ a + suc i = omega arith in
          let q : b + 1 + i ≡ b + suc i = omega arith in
          rw (p, q) (e (suc i) (omega arith))),
    )

-- entries of four words each
strides : (w : List ℕ) (f : ℕ → List ℕ) (s : ℕ)
    → ((i : ℕ) → f i ≡ word w (s + 4 * i + 0) ∷ word w (s + 4 * i + 1) ∷ word w (s + 4 * i + 2) ∷ word w (s + 4 * i + 3) ∷ [])
    → (a n : ℕ) → flat f (from a n) ≡ map (word w) (from (s + 4 * a) (4 * n))
unfolding flat from
strides w f s e a zero = refl
strides w f s e a (suc n) =
    let k : 4 * suc n ≡ suc (suc (suc (suc (4 * n)))) = omega arith in
    let z : s + 4 * a + 0 ≡ s + 4 * a = omega arith in
    let p : s + 4 * a + 1 + 1 ≡ s + 4 * a + 2 = omega arith in
    let q : s + 4 * a + 2 + 1 ≡ s + 4 * a + 3 = omega arith in
    let r : s + 4 * a + 3 + 1 ≡ s + 4 * (a + 1) = omega arith in
    rw (k, e a, z, p, q, r, strides w f s e (a + 1) n)

module _ (w : List ℕ) (s n : ℕ) where
  pub names-stay : s ≡ word w 7 → n ≡ bounds w → map (word w) (from s n) ++ flat (copy_words w Names) (name_copies w) ≡ name_part w
  unfolding name_part
  names-stay e f =
      let m : map (word w) (from s n) ≡ map (name_kind_of w) (from (publics w) (bounds w)) =
      rw (e, f) (map-shift (word w) (name_kind_of w) (word w 7) (publics w) (bounds w)
      (λ i l. let q : publics w + i - publics w ≡ i = omega arith in ap (λ (k : ℕ). word w (word w 7 + k)) (sym q))) in
      rw (m, ← map-flat (name_kind_of w) (name_copies w)) (sym (map-append (name_kind_of w) (from (publics w) (bounds w)) (name_copies w)))

  pub definitions-stay : s ≡ word w 8 → n ≡ definitions w → map (word w) (from s (4 * n)) ++ flat (copy_words w Definitions) (copied w) ≡ definition_part w
  unfolding definition_part definition_words
  definitions-stay e f =
      let z : word w 8 + 4 * 0 ≡ word w 8 = omega arith in
      rw (e, f, ← z) (ap (λ (l : List ℕ). l ++ flat (definition_copy w) (copied w))
      (sym (strides w (definition_words w) (word w 8) (λ i. refl) 0 (definitions w))))

  pub threads-stay : s ≡ word w 9 → n ≡ threads w → map (word w) (from s n) ≡ thread_part w
  unfolding thread_part
  threads-stay e f =
      rw (e, f) (map-shift (word w) (entry w) (word w 9) 0 (threads w) (λ i l. let z : 0 + i ≡ i = omega arith in
      ap (λ (k : ℕ). word w (word w 9 + k)) (sym z)))

  pub branches-stay : s ≡ word w 11 → n ≡ branches w → map (word w) (from s (4 * n)) ++ flat (copy_words w Branches) (branch_copies w) ≡ branch_part w
  unfolding branch_part branch_words
  branches-stay e f =
      let z : word w 11 + 4 * 0 ≡ word w 11 = omega arith in
      rw (e, f, ← z) (ap (λ (l : List ℕ). l ++ flat (branch_copy w) (branch_copies w)) (sym (strides w (branch_words w) (word w 11) (λ i. refl) 0 (branches w))))

  pub arguments-stay : s ≡ word w 12 → n ≡ arguments w → map (word w) (from s n) ++ flat (copy_words w Arguments) (argument_copies w) ≡ argument_part w
  unfolding argument_part
  arguments-stay e f =
      let m : map (word w) (from s n) ≡ map (argument w) (range (arguments w)) =
      rw (e, f) (map-shift (word w) (argument w) (word w 12) 0 (arguments w)
      (λ i l. let z : 0 + i ≡ i = omega arith in ap (λ (k : ℕ). word w (word w 12 + k)) (sym z))) in
      rw (m, ← map-flat (λ a. copy_name_of w (argument w a)) (argument_copies w))

-- ---- sections one after another

-- a section: the words that stay, then the copies of what a row has
section : (w list row stay part : List ℕ) (f : ℕ → List ℕ) (i count : ℕ) → Row row i list count → stay ++ flat f row ≡ part
    → (out one two : List ℕ) (a b c : ℕ) → Listed 262144 stay out a one b → Listed 1024 (flat f (slice i (i + count) list)) one b two c
    → Listed 263168 part out a two c
section w list row stay part f i count R e out one two a b c A B =
    rw e at (listed-append 262144 1024 stay (flat f row) out a one b two c A (rw R.listed at B))

module _ (w list : List ℕ) (copies : Counts) (R : Rows w list copies) where
  pub front-listed : (counts : Counts) → Summed w copies counts → (s1 n1 s2 n2 s3 n3 : ℕ) → s1 ≡ word w 7 → n1 ≡ bounds w → s2 ≡ word w 8 → n2 ≡ definitions w
      → s3 ≡ word w 9 → n3 ≡ threads w → (out o1 o2 o3 o4 o5 after : List ℕ) (r1 r2 r3 r4 r5 r : ℕ) → Listed 13 (header_with w counts) out 0 o1 r1
      → Listed 262144 (map (word w) (from s1 n1)) o1 r1 o2 r2
      → Listed 1024 (flat (copy_words w Names) (slice 256 (256 + copies.names) list)) o2 r2 o3 r3
      → Listed 262144 (map (word w) (from s2 (4 * n2))) o3 r3 o4 r4
      → Listed 1024 (flat (copy_words w Definitions) (slice 0 copies.definitions list)) o4 r4 o5 r5
      → Listed 262144 (map (word w) (from s3 n3)) o5 r5 after r → Listed 1048576 (front_words w) out 0 after r
  unfolding front_words
  front-listed counts S s1 n1 s2 n2 s3 n3 e1 f1 e2 f2 e3 f3 out o1 o2 o3 o4 o5 after r1 r2 r3 r4 r5 r H A B C D E =
      let h : Listed 13 (rewritten_header w) out 0 o1 r1 = rw (header_is w list copies counts R S) at H in
      let n = section w list (name_copies w) _ (name_part w) (copy_words w Names) 256 copies.names R.name-row (names-stay w s1 n1 e1 f1) _ _ _ _ _ _ A B in
      let z : 0 + copies.definitions ≡ copies.definitions = omega arith in
      let d = section w list (copied w) _ (definition_part w) (copy_words w Definitions) 0 copies.definitions R.definition-row
      (definitions-stay w s2 n2 e2 f2) _ _ _ _ _ _ C (rw z D) in
      let t : Listed 262144 (thread_part w) o5 r5 after r = rw (threads-stay w s3 n3 e3 f3) at E in
      let x = listed-append 263168 262144 (definition_part w) (thread_part w) _ _ _ _ _ _ d t in
      let y = listed-append 263168 525312 (name_part w) _ _ _ _ _ _ _ n x in
      listed_more _ _ _ _ _ (13 + 788480) 1048576 (omega arith) (listed-append 13 788480 (rewritten_header w) _ _ _ _ _ _ _ h y)

  nodes-stay : flat (node_words w) (range (nodes w)) ++ flat (copy_words w Nodes) (node_copies w) ≡ node_part w
  unfolding node_part
  nodes-stay = refl

  pub bodies-listed : (out one after : List ℕ) (a b r : ℕ) → Listed 262144 (flat (node_words w) (range (nodes w))) out a one b
      → Listed 1024 (flat (copy_words w Nodes) (slice 512 (512 + copies.nodes) list)) one b after r → Listed 263168 (node_part w) out a after r
  bodies-listed out one after a b r A B =
      section w list (node_copies w) _ (node_part w) (copy_words w Nodes) 512 copies.nodes R.node_row nodes-stay out one after a b r A B

  pub back-listed : (s1 n1 s2 n2 : ℕ) → s1 ≡ word w 11 → n1 ≡ branches w → s2 ≡ word w 12 → n2 ≡ arguments w → (out o1 o2 o3 after : List ℕ)
      (r0 r1 r2 r3 r : ℕ) → Listed 262144 (map (word w) (from s1 (4 * n1))) out r0 o1 r1
      → Listed 1024 (flat (copy_words w Branches) (slice 768 (768 + copies.branches) list)) o1 r1 o2 r2
      → Listed 262144 (map (word w) (from s2 n2)) o2 r2 o3 r3
      → Listed 1024 (flat (copy_words w Arguments) (slice 1024 (1024 + copies.arguments) list)) o3 r3 after r
      → Listed 1048576 (back_words w) out r0 after r
  unfolding back_words
  back-listed s1 n1 s2 n2 e1 f1 e2 f2 out o1 o2 o3 after r0 r1 r2 r3 r C D E F =
      let b =
      section w list (branch_copies w) _ (branch_part w) (copy_words w Branches) 768 copies.branches R.branch_row (branches-stay w s1 n1 e1 f1)
      _ _ _ _ _ _ C D in
      let a =
      section w list (argument_copies w) _ (argument_part w) (copy_words w Arguments) 1024 copies.arguments R.argument-row
      (arguments-stay w s2 n2 e2 f2) _ _ _ _ _ _ E F in
      listed_more _ _ _ _ _ (263168 + 263168) 1048576 (omega arith) (listed-append 263168 263168 (branch_part w) (argument_part w) _ _ _ _ _ _ b a)

-- all words
pub all_listed : (w out one two after : List ℕ) (i j r : ℕ) → Listed 1048576 (front_words w) out 0 one i → Listed 263168 (node_part w) one i two j
    → Listed 1048576 (back_words w) two j after r → after ≡ sets out 0 (rewritten w)
unfolding front_words back_words rewritten
all_listed w out one two after i j r A B C =
    (listed-append 1048576 1311744 _ _ out 0 one i after r A (listed-append 263168 1048576 _ _ one i two j after r B C)).written
    ∙ ap (sets out 0)
    (append_assoc (rewritten_header w) (name_part w ++ (definition_part w ++ thread_part w)) (node_part w ++ (branch_part w ++ argument_part w))
    ∙ ap (λ (l : List ℕ). rewritten_header w ++ l)
    (append_assoc (name_part w) (definition_part w ++ thread_part w) (node_part w ++ (branch_part w ++ argument_part w))
    ∙ ap (λ (l : List ℕ). name_part w ++ l) (append_assoc (definition_part w) (thread_part w) (node_part w ++ (branch_part w ++ argument_part w)))))
