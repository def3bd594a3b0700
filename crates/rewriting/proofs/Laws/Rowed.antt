-- What is listed is what is copied, row by row.
use mathlib.Core.Path.{◌≡◌, refl, sym, ap, ◌∙◌}
use mathlib.Core.Bool.{Bool, true, false, ◌&&◌}
use mathlib.Core.List.{List, [], ◌∷◌}
use Prim.Native.Nat.{ℕ, ◌+◌, ◌-◌, ◌≤◌, ◌<◌}
use native.Mathlib.Nat.{sub-zero}
use native.Mathlib.Omega.{arith}
use lib.ListN.{length, replicate, get_or-replicate}
use lib.Seq.{slice}
use Rattle.lists.specs.Lists.{pick, same, word, from, range, some, keep, flat, member, Distinct}
use Rattle.lists.proofs.Ranges.{from_member}
use Rattle.lists.proofs.Members.{member-here, member-there, keep_same, flat-same}
use Rattle.lists.proofs.Counts.{distinct-below}
use Rattle.scheme.specs.Words.{publics, bounds, definitions, nodes, branches, arguments, names}
use Rattle.scheme.specs.Owners.{definition}
use Rattle.scheme.specs.Spans.{span_of}
use Rattle.scheme.specs.declared.spans.Source.TheVariants.{Branches, Arguments}
use Rattle.table.specs.Causes.{cause_sparing}
use Rattle.table.proofs.Inside.{Counted, counted}
use Rattle.process.specs.Inner.Listed.{Listed}
use Rattle.process.proofs.Listed.{listed-length}
use Rattle.rewriting.specs.Rewriting.{is_self_calling, copied, name_definition_of, appended, name_copies, node_copies, branch_copies, argument_copies}
use Rattle.rewriting.specs.Inner.Belonging.{Bodies, NamesBelong}
use Rattle.rewriting.specs.Inner.Copying.{called_by_itself, Marked, grouped, Row, Rows}
use Rattle.rewriting.proofs.Family.{Sound, sound, copied-distinct, copied-inside, names-distinct, nodes-distinct, branches-distinct, arguments-distinct}
use Rattle.rewriting.proofs.Family.{name_of, node_of, branch-of, argument-of}
use Rattle.rewriting.proofs.Laws.Marks.{self-call}
use Rattle.rewriting.proofs.Shapes
use Rattle.rewriting.proofs.Laws.Stored.{slice-alike, slice-stored, listed-low}

some_same : (p q : ℕ → Bool) (xs : List ℕ) → ((x : ℕ) → member x xs ≡ true → p x ≡ q x) → some p xs ≡ some q xs
unfolding some
some_same p q [] h = refl
some_same p q (x ∷ xs) h = rw (h x (member-here x xs), some_same p q xs (λ y m. h y (member-there y x xs m)))

marked-once : (b : Bool) → same (pick b 1 0) 1 ≡ b
unfolding same
marked-once true = refl
marked-once false = refl

-- ---- few small numbers

pub record Brief (list : List ℕ) : Type 0 where
  pub short : length list ≤ 256
  pub small : (x : ℕ) → member x list ≡ true → x < 256

brief : (list : List ℕ) (n : ℕ) → n ≤ 256 → Distinct list → ((x : ℕ) → member x list ≡ true → x < n) → Brief list
brief list n l d h = record { short = omega (arith, distinct-below list n h d); small = λ x m. omega (arith, h x m) }

module _ (w : List ℕ) (ok : cause_sparing w true ≡ 0) where
  abbrev p : Sound w
  p = sound w ok

  few : Counted w
  few = counted w (sound w ok).counts

  -- ---- what is listed

  called_is : (defs : List ℕ) → Bodies w defs → (d : ℕ)
      → called_by_itself w defs (range (nodes w)) d ≡ some (λ n. is_self_calling w n && same (definition w n) d) (range (nodes w))
  unfolding called_by_itself
  called_is defs B d =
      some_same _ (λ n. is_self_calling w n && same (definition w n) d) (range (nodes w))
      (λ n m. let l : n < nodes w = omega (arith, from_member n 0 (nodes w) m) in rw (self-call w defs B n l, B n l))

  pub copied-are : (defs marks : List ℕ) → Bodies w defs → Marked w defs (replicate 32 0) marks → (count : ℕ) → count ≡ definitions w
      → grouped marks (from 0 (count - 0)) 1 ≡ copied w
  unfolding grouped copied
  copied-are defs marks B M count e =
      rw (sub-zero count, e)
      (keep_same (λ d. same (word marks d) 1) (λ d. some (λ n. is_self_calling w n && same (definition w n) d) (range (nodes w))) (range (definitions w))
      (λ d m.
      let l : d < 32 = omega (arith, from_member d 0 (definitions w) m, few.few-definitions) in
      let k : d < length (replicate {A = ℕ} 32 0) = l in
      rw (M.marks d k, get_or-replicate {A = ℕ} 32 d 0 0 l) (marked-once (called_by_itself w defs (range (nodes w)) d) ∙ called_is defs B d)))

  pub names-are : (of : List ℕ) → NamesBelong w of → (i j : ℕ) → i ≡ publics w → j ≡ bounds w
      → flat (grouped of (from i (i + j - i))) (copied w) ≡ name_copies w
  unfolding grouped appended
  names-are of N i j e f =
      let k : i + j - i ≡ j = omega arith in
      rw (k, e, f)
      (flat-same _ (λ d. keep (λ x. same (name_definition_of w x) d) (from (publics w) (bounds w))) (copied w)
      (λ d m.
      keep_same (λ x. same (word of x) d) (λ x. same (name_definition_of w x) d) (from (publics w) (bounds w))
      (λ x n. let r = from_member x (publics w) (bounds w) n in rw (N x r.0 r.1))))

  pub nodes-are : (defs : List ℕ) → Bodies w defs → (count : ℕ) → count ≡ nodes w → flat (grouped defs (from 0 (count - 0))) (copied w) ≡ node_copies w
  unfolding grouped appended
  nodes-are defs B count e =
      rw (sub-zero count, e)
      (flat-same _ (λ d. keep (λ n. same (definition w n) d) (range (nodes w))) (copied w)
      (λ d m.
      keep_same (λ n. same (word defs n) d) (λ n. same (definition w n) d) (range (nodes w))
      (λ n k. rw (B n (omega (arith, from_member n 0 (nodes w) k))))))

  pub branches-are : flat (span_of w Branches) (node_copies w) ≡ branch_copies w
  branches-are = sym (Shapes.branch-spans w (sound w ok))

  pub arguments-are : flat (span_of w Arguments) (node_copies w) ≡ argument_copies w
  arguments-are = sym (Shapes.argument-spans w (sound w ok))

  -- ---- few small numbers

  pub copied-brief : Brief (copied w)
  copied-brief = brief (copied w) (definitions w) (let k = few.few-definitions in omega (arith, k)) (copied-distinct w) (copied-inside w)

  pub names-brief : Brief (name_copies w)
  names-brief =
      brief (name_copies w) (names w) (omega (arith, few.few-publics, few.few-bounds)) (names-distinct w) (λ x m. (name_of w x m).1)

  pub nodes-brief : Brief (node_copies w)
  nodes-brief = brief (node_copies w) (nodes w) few.few-nodes (nodes-distinct w) (λ x m. (node_of w x m).0)

  pub branches-brief : Brief (branch_copies w)
  branches-brief = brief (branch_copies w) (branches w) few.few-branches (branches-distinct w) (λ x m. (branch-of w x m).0)

  pub arguments-brief : Brief (argument_copies w)
  arguments-brief = brief (argument_copies w) (arguments w) few.few-arguments (arguments-distinct w) (λ x m. (argument-of w x m).0)

-- ---- rows

-- a row that was just listed
pub row_listed : (most : ℕ) (words list before : List ℕ) (i : ℕ) (after : List ℕ) (r : ℕ) → Listed most words before i after r → words ≡ list
    → Brief list → i + 256 ≤ length before → Row list i after (r - i)
row_listed most words list before i after r l e b h =
    let n : r ≡ i + length list = l.next ∙ rw e in
    let c : r - i ≡ length list = omega (arith, n) in
    let q : i + (r - i) ≡ i + length list = omega (arith, n) in
    record {
      count-is = c;
      listed = rw q (ap (slice i (i + length list)) (l.written ∙ rw e) ∙ slice-stored before i list (i + length list) refl (omega (arith, b.short)));
      few = omega (arith, c, b.short);
      small = b.small;
    }

-- one that stands below what was listed
pub row_kept : (most : ℕ) (words list before : List ℕ) (i j : ℕ) (after : List ℕ) (r count : ℕ) → Listed most words before j after r → i + 256 ≤ j
    → i + 256 ≤ length before → Row list i before count → Row list i after count
row_kept most words list before i j after r count l h k R =
    let m = listed-length words before j after r most l in
    record {
      count-is = R.count-is;
      listed =
          slice-alike after before i (i + count) (omega (arith, m, R.few)) (omega (arith, R.few))
          (λ x u v. listed-low most words before j after r l x (omega (arith, R.few))) ∙ R.listed;
      few = R.few;
      small = R.small;
    }

row-front : (list words : List ℕ) (count : ℕ) → Row list 0 words count → slice 0 count words ≡ list
row-front list words count R = let z : 0 + count ≡ count = omega arith in rw z at R.listed

-- ---- one row after another

pub record OneRow (w out : List ℕ) (d : ℕ) : Type 0 where
  pub reach : length out ≡ 1280
  pub definition-row : Row (copied w) 0 out d

pub record TwoRows (w out : List ℕ) (d x : ℕ) : Type 0 where
  pub reach : length out ≡ 1280
  pub definition-row : Row (copied w) 0 out d
  pub name-row : Row (name_copies w) 256 out (x - 256)

pub record ThreeRows (w out : List ℕ) (d x n : ℕ) : Type 0 where
  pub reach : length out ≡ 1280
  pub definition-row : Row (copied w) 0 out d
  pub name-row : Row (name_copies w) 256 out (x - 256)
  pub node_row : Row (node_copies w) 512 out (n - 512)

pub record FourRows (w out : List ℕ) (d x n b : ℕ) : Type 0 where
  pub reach : length out ≡ 1280
  pub definition-row : Row (copied w) 0 out d
  pub name-row : Row (name_copies w) 256 out (x - 256)
  pub node_row : Row (node_copies w) 512 out (n - 512)
  pub branch_row : Row (branch_copies w) 768 out (b - 768)

module _ (w : List ℕ) (ok : cause_sparing w true ≡ 0) where
  pub one-row : (defs marks out : List ℕ) → Bodies w defs → Marked w defs (replicate 32 0) marks → length out ≡ 1280 → (count : ℕ) → count ≡ definitions w
      → (after : List ℕ) (d : ℕ) → Listed 131072 (grouped marks (from 0 (count - 0)) 1) out 0 after d → OneRow w after d
  one-row defs marks out B M r count e after d l = record {
    reach = listed-length _ out 0 after d 131072 l ∙ r;
    definition-row =
        rw (sub-zero d) at (row_listed 131072 _ (copied w) out 0 after d l (copied-are w ok defs marks B M count e) (copied-brief w ok) (omega (arith, r)));
  }

  pub two-rows : (of out : List ℕ) (d : ℕ) → OneRow w out d → NamesBelong w of → (i j : ℕ) → i ≡ publics w → j ≡ bounds w → (after : List ℕ) (x : ℕ)
      → Listed 167772160 (flat (grouped of (from i (i + j - i))) (slice 0 d out)) out 256 after x → TwoRows w after d x
  two-rows of out d R N i j e f after x l =
      let k = R.reach in
      let q = ap (flat (grouped of (from i (i + j - i)))) (row-front (copied w) out d R.definition-row) ∙ names-are w ok of N i j e f in
      record {
        reach = listed-length _ out 256 after x 167772160 l ∙ k;
        definition-row = row_kept 167772160 _ (copied w) out 0 256 after x d l (omega arith) (omega (arith, k)) R.definition-row;
        name-row = row_listed 167772160 _ (name_copies w) out 256 after x l q (names-brief w ok) (omega (arith, k));
      }

  pub three-rows : (defs out : List ℕ) (d x : ℕ) → TwoRows w out d x → Bodies w defs → (count : ℕ) → count ≡ nodes w → (after : List ℕ) (n : ℕ)
      → Listed 167772160 (flat (grouped defs (from 0 (count - 0))) (slice 0 d out)) out 512 after n → ThreeRows w after d x n
  three-rows defs out d x R B count e after n l =
      let k = R.reach in
      let q = ap (flat (grouped defs (from 0 (count - 0)))) (row-front (copied w) out d R.definition-row) ∙ nodes-are w ok defs B count e in
      record {
        reach = listed-length _ out 512 after n 167772160 l ∙ k;
        definition-row = row_kept 167772160 _ (copied w) out 0 512 after n d l (omega arith) (omega (arith, k)) R.definition-row;
        name-row = row_kept 167772160 _ (name_copies w) out 256 512 after n (x - 256) l (omega arith) (omega (arith, k)) R.name-row;
        node_row = row_listed 167772160 _ (node_copies w) out 512 after n l q (nodes-brief w ok) (omega (arith, k));
      }

  pub four-rows : (out : List ℕ) (d x n : ℕ) → ThreeRows w out d x n → (after : List ℕ) (b : ℕ)
      → Listed 83886080 (flat (span_of w Branches) (slice 512 (512 + (n - 512)) out)) out 768 after b → FourRows w after d x n b
  four-rows out d x n R after b l =
      let k = R.reach in
      let q = ap (flat (span_of w Branches)) R.node_row.listed ∙ branches-are w ok in
      record {
        reach = listed-length _ out 768 after b 83886080 l ∙ k;
        definition-row = row_kept 83886080 _ (copied w) out 0 768 after b d l (omega arith) (omega (arith, k)) R.definition-row;
        name-row = row_kept 83886080 _ (name_copies w) out 256 768 after b (x - 256) l (omega arith) (omega (arith, k)) R.name-row;
        node_row = row_kept 83886080 _ (node_copies w) out 512 768 after b (n - 512) l (omega arith) (omega (arith, k)) R.node_row;
        branch_row = row_listed 83886080 _ (branch_copies w) out 768 after b l q (branches-brief w ok) (omega (arith, k));
      }

  pub all-rows : (out : List ℕ) (d x n b : ℕ) → FourRows w out d x n b → (after : List ℕ) (a : ℕ)
      → Listed 83886080 (flat (span_of w Arguments) (slice 512 (512 + (n - 512)) out)) out 1024 after a
      → Rows w after record { definitions = d; names = x - 256; nodes = n - 512; branches = b - 768; arguments = a - 1024 }
  all-rows out d x n b R after a l =
      let k = R.reach in
      let q = ap (flat (span_of w Arguments)) R.node_row.listed ∙ arguments-are w ok in
      record {
        ok = ok;
        reach = listed-length _ out 1024 after a 83886080 l ∙ k;
        definition-row = row_kept 83886080 _ (copied w) out 0 1024 after a d l (omega arith) (omega (arith, k)) R.definition-row;
        name-row = row_kept 83886080 _ (name_copies w) out 256 1024 after a (x - 256) l (omega arith) (omega (arith, k)) R.name-row;
        node_row = row_kept 83886080 _ (node_copies w) out 512 1024 after a (n - 512) l (omega arith) (omega (arith, k)) R.node_row;
        branch_row = row_kept 83886080 _ (branch_copies w) out 768 1024 after a (b - 768) l (omega arith) (omega (arith, k)) R.branch_row;
        argument-row = row_listed 83886080 _ (argument_copies w) out 1024 after a l q (arguments-brief w ok) (omega (arith, k));
      }
