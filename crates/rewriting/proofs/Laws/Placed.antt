-- The numbers of copies by their places, and that they are small.
use mathlib.Core.Path.{◌≡◌, sym, ap, ◌∙◌}
use mathlib.Core.Bool.{false}
use mathlib.Core.List.{List, ◌∷◌, append_assoc}
use mathlib.Core.Logic.{◌⊎◌, inl, inr}
use Prim.Native.Nat.{ℕ, suc, ◌+◌, ◌≤◌, ◌<◌}
use native.Mathlib.Decide.{ℕ_discrete, dec_lt}
use native.Mathlib.Omega.{arith}
use lib.Dec.{ltb}
use lib.ListN.{length, set, take, drop, replicate, length-replicate, get_or-replicate, length-drop}
use borrow.Rule.Slice.PartMut.{put_mid}
use lib.Seq.{sets, sets-eq, length-take-le, drop-drop, drop-length, length-sets, length-slice, get_or-set_same, get_or-set_other}
use borrow.Author.Tests.{lt-ltb, le-ltb}
use Rattle.lists.specs.Lists.{pick, word, member}
use Rattle.lists.proofs.Tests.{not-true-false}
use Rattle.lists.proofs.Members.{member-get_or}
use Rattle.lists.proofs.Slices.{drop-step}
use Rattle.lists.proofs.Stores.{word_low, word-high, word_in}
use Rattle.scheme.specs.Words.{publics}
use Rattle.scheme.specs.Words.{Number}
use Rattle.table.proofs.Inside.{Counted, counted}
use Rattle.process.specs.StateWords.{place}
use Rattle.rewriting.specs.Rewriting.{copy_name_of}
use Rattle.rewriting.specs.Inner.Placing.{place_found_at, start_of, entries_of, originals_of, copy_of, AllSmall, Numberable, Numbered, Listing, Placed, Places, Placing}
use Rattle.rewriting.specs.Inner.Copying.{Rows, originals_in}
use Rattle.rewriting.specs.Inner.Counting.{Few}
use Rattle.rewriting.specs.declared.copies.Counts.{Counts}
use Rattle.rewriting.specs.declared.copies.Part.{Part}
use Rattle.rewriting.specs.declared.copies.Part.TheVariants.{Names, Definitions, Nodes, Branches, Arguments}
use Rattle.rewriting.proofs.Appended.{place-hit, place-miss, place-most, place-absent}
use Rattle.rewriting.proofs.Family.{sound}

pub start_most : (part : Part) → start_of part ≤ 1028
start_most Definitions = omega arith
start_most Names = omega arith
start_most Nodes = omega arith
start_most Branches = omega arith
start_most Arguments = omega arith

module _ (w words : List ℕ) (p : Placing w words) where
  few : Counted w
  few = counted w (sound w p.ok).counts

  few-entries : (part : Part) → entries_of w part ≤ 256
  few-entries Definitions = let k = few.few-definitions in omega (arith, k)
  few-entries Names = omega (arith, few.few-publics, few.few-bounds)
  few-entries Nodes = few.few-nodes
  few-entries Branches = few.few-branches
  few-entries Arguments = few.few-arguments

  -- the number of a copy: the section's count, then its place
  pub copy-number : (part : Part) (x a q : ℕ) → a ≡ entries_of w part → q ≡ place_found_at words (start_of part) x → Number (copy_of w part x) (a + q)
  copy-number part x a q e f =
      let g : q ≡ place x (originals_of w part) = f ∙ (p.placed part).is x in
      record { is = rw (e, g); small = omega (arith, e, g, few-entries part, place-most x (originals_of w part), (p.placed part).few) }

  -- a public name stays
  pub public-number : (x a : ℕ) → a ≡ publics w → x < a → Number (copy_name_of w x) x
  public-number x a e l =
      let k : x < publics w = omega (arith, e) in
      record { is = sym (rw (lt-ltb x (publics w) k)); small = omega (arith, k, few.few-publics) }

  pub name-number : (x a n : ℕ) → a ≡ publics w → a ≤ x → Number (copy_of w Names x) n → Number (copy_name_of w x) n
  name-number x a n e l h = let k : publics w ≤ x = omega (arith, e) in rw (le-ltb x (publics w) k) h

-- ---- places written, the last word first

-- a part filled with one value, as a run of stores
pub fill_sets : (out new : List ℕ) (at k n v : ℕ) → k ≡ n → at + n ≤ length out → new ≡ replicate (length (take k (drop at out))) v
    → put_mid at k out new ≡ sets out at (replicate n v)
fill_sets out new at k n v q r e =
    let l : length (take k (drop at out)) ≡ n = omega (arith, length-take-le k (drop at out) (omega (arith, length-drop at out)), length-drop at out) in
    let m : length (replicate n v) ≡ n = length-replicate n v in
    rw (e, l, q, drop-drop n at out)
    (sym (sets-eq (replicate n v) out at (rw m r) ∙ rw m (append_assoc (take at out) (replicate n v) (drop (at + n) out))))

pub filled-long : (out filled : List ℕ) (at v : ℕ) → filled ≡ sets out at (replicate 257 v) → length filled ≡ length out
filled-long out filled at v e = ap length e ∙ length-sets out at (replicate 257 v)

pub filled-here : (out filled : List ℕ) (at v : ℕ) → filled ≡ sets out at (replicate 257 v) → at + 257 ≤ length out → (x : ℕ) → x < 257
    → word filled (at + x) ≡ v
filled-here out filled at v e r x h =
    let n : length (replicate 257 v) ≡ 257 = length-replicate 257 v in
    ap (λ (l : List ℕ). word l (at + x)) e ∙ word_in out at (replicate 257 v) x (rw n r) (rw n h) ∙ get_or-replicate 257 x v 0 h

pub filled-others : (out filled : List ℕ) (at v : ℕ) → filled ≡ sets out at (replicate 257 v) → (k : ℕ) → (k < at) ⊎ (at + 257 ≤ k)
    → word filled k ≡ word out k
filled-others out filled at v e k (inl h) = ap (λ (l : List ℕ). word l k) e ∙ word_low out at (replicate 257 v) k h
filled-others out filled at v e k (inr h) =
    let n : length (replicate 257 v) ≡ 257 = length-replicate 257 v in
    ap (λ (l : List ℕ). word l k) e ∙ word-high out at (replicate 257 v) k (rw n h)

-- one word: j is the place of list word v
module _ (list out after : List ℕ) (at i j v : ℕ) (down : i ≡ suc j) (below : j < length list) (read : v ≡ word list j) (small : AllSmall list)
    (room : at + 257 ≤ length out) (stored : after ≡ set out (at + v) j) where
  v-small : v < 256
  v-small = rw read (small (word list j) (member-get_or list j below))

  pub place-turn : (x : ℕ) → word out (at + x) ≡ i + place x (drop i list) → word after (at + x) ≡ j + place x (drop j list)
  place-turn x h =
      let q : j + 1 ≡ i = omega (arith, down) in
      let s : drop j list ≡ v ∷ drop i list = rw (read, ← q) (drop-step list j below) in
      rw (stored, s) (go (ℕ_discrete x v))
    where
      go : Dec (x ≡ v) → word (set out (at + v) j) (at + x) ≡ j + place x (v ∷ drop i list)
      go (yes e) = rw (place-hit x v (drop i list) e, e) (get_or-set_same out (at + v) j 0 (omega (arith, v-small)) ∙ omega arith)
      go (no d) = rw (place-miss x v (drop i list) d) (get_or-set_other out (at + v) (at + x) j 0 (λ e. d (omega arith)) ∙ h ∙ omega (arith, down))

  pub others-turn : (k : ℕ) → (k < at) ⊎ (at + 257 ≤ k) → word after k ≡ word out k
  others-turn k o = ap (λ (l : List ℕ). word l k) stored ∙ get_or-set_other out (at + v) k j 0 (apart o)
    where
      apart : (k < at) ⊎ (at + 257 ≤ k) → k ≡ at + v → ⊥
      apart (inl h) e = omega arith
      apart (inr h) e = omega (arith, v-small)

-- nothing is passed yet: every place is the count
pub place_end : (list : List ℕ) (x : ℕ) → length list ≡ length list + place x (drop (length list) list)
unfolding place
place_end list x = rw drop-length (omega arith)

-- ---- the places of all rows

Here : List ℕ → ℕ → List ℕ → Type 0
Here list i words = (x : ℕ) → x < 257 → word words (i + x) ≡ place x list

-- a row of words stays where another one is written
kept : (row list : List ℕ) (j i : ℕ) (before after : List ℕ) → Numbered row j before after → i + 257 ≤ j → Here list i before → Here list i after
unfolding Here
kept row list j i before after n h f x u = n.others (i + x) (inl (omega arith)) ∙ f x u

placed : (list : List ℕ) (i : ℕ) (words : List ℕ) → length list ≤ 256 → AllSmall list → Here list i words → Placed list i words
unfolding Here place_found_at
placed list i words few small h = record { is = λ x. go x (dec_lt x 256); few = few }
  where
    out : (x : ℕ) → 256 ≤ x → member x list ≡ false
    out x l = not-true-false _ (λ m. omega (arith, small x m))

    go : (x : ℕ) → Dec (x < 256) → pick (ltb x 256) (word words (i + x)) (word words (i + 256)) ≡ place x list
    go x (yes l) = rw (lt-ltb x 256 l) (h x (omega arith))
    go x (no l) =
        let k : 256 ≤ x = omega arith in
        rw (le-ltb x 256 k) (h 256 (omega arith) ∙ place-absent 256 list (out 256 (omega arith)) ∙ sym (place-absent x list (out x k)))

module _ (list : List ℕ) (c : Counts) (L : Listing list c) where
  pub few-originals : (part : Part) → length (originals_in list c part) ≤ 256
  few-originals Definitions = omega (arith, length-slice 0 c.definitions list (omega (arith, L.reach, L.few.few-definitions)), L.few.few-definitions)
  few-originals Names = omega (arith, length-slice 256 (256 + c.names) list (omega (arith, L.reach, L.few.few-names)), L.few.few-names)
  few-originals Nodes = omega (arith, length-slice 512 (512 + c.nodes) list (omega (arith, L.reach, L.few.few-nodes)), L.few.few-nodes)
  few-originals Branches = omega (arith, length-slice 768 (768 + c.branches) list (omega (arith, L.reach, L.few.few-branches)), L.few.few-branches)
  few-originals Arguments = omega (arith, length-slice 1024 (1024 + c.arguments) list (omega (arith, L.reach, L.few.few-arguments)), L.few.few-arguments)

  pub numberable : (part : Part) (out : List ℕ) → length out ≡ 1285 → Numberable (originals_in list c part) (start_of part) out
  numberable part out r =
      let k = start_most part in
      record { few = few-originals part; small = L.small part; room = omega arith; low = omega arith }

  module _ (out one two three four after : List ℕ) (d : Numbered (originals_in list c Definitions) 0 out one)
      (x : Numbered (originals_in list c Names) 257 one two) (n : Numbered (originals_in list c Nodes) 514 two three)
      (b : Numbered (originals_in list c Branches) 771 three four) (a : Numbered (originals_in list c Arguments) 1028 four after) where
    here : (part : Part) → Here (originals_in list c part) (start_of part) after
    unfolding Here
    here Definitions =
        kept _ _ 1028 0 _ _ a (omega arith) (kept _ _ 771 0 _ _ b (omega arith) (kept _ _ 514 0 _ _ n (omega arith) (kept _ _ 257 0 _ _ x (omega arith) d.here)))
    here Names = kept _ _ 1028 257 _ _ a (omega arith) (kept _ _ 771 257 _ _ b (omega arith) (kept _ _ 514 257 _ _ n (omega arith) x.here))
    here Nodes = kept _ _ 1028 514 _ _ a (omega arith) (kept _ _ 771 514 _ _ b (omega arith) n.here)
    here Branches = kept _ _ 1028 771 _ _ a (omega arith) b.here
    here Arguments = a.here

    pub all_placed : Places list c after
    all_placed part = placed _ _ _ (few-originals part) (L.small part) (here part)

-- ---- what the rows have is what is copied

module _ (w list : List ℕ) (c : Counts) (r : Rows w list c) where
  pub originals-are : (part : Part) → originals_in list c part ≡ originals_of w part
  originals-are Definitions = let z : 0 + c.definitions ≡ c.definitions = omega arith in rw z at r.definition-row.listed
  originals-are Names = r.name-row.listed
  originals-are Nodes = r.node_row.listed
  originals-are Branches = r.branch_row.listed
  originals-are Arguments = r.argument-row.listed

  pub placing : (words : List ℕ) → Places list c words → Placing w words
  placing words p = record { ok = r.ok; placed = λ part. rw (originals-are part) at (p part) }

  small_row : (part : Part) → AllSmall (originals_of w part)
  small_row Definitions = r.definition-row.small
  small_row Names = r.name-row.small
  small_row Nodes = r.node_row.small
  small_row Branches = r.branch_row.small
  small_row Arguments = r.argument-row.small

  pub few-copies : Few c
  few-copies = record {
    few-definitions = r.definition-row.few;
    few-names = r.name-row.few;
    few-nodes = r.node_row.few;
    few-branches = r.branch_row.few;
    few-arguments = r.argument-row.few;
  }

  pub listing : Listing list c
  listing = record { reach = r.reach; few = few-copies; small = λ part. rw (originals-are part) (small_row part) }
