-- Going up by lent owners and homes: the step up from a node leads below it, and what a node holds and the definition that it is in follow from
-- the step. With right owners and homes both are the table's own.
use mathlib.Core.Path.{◌≡◌, refl, sym, ap, ◌∙◌}
use mathlib.Core.Bool.{Bool, true, false, ◌&&◌}
use mathlib.Core.List.{List, [], ◌∷◌, ◌++◌, map, append-nil}
use Prim.Native.Nat.{ℕ, zero, suc, ◌+◌, ◌-◌, ◌*◌, ◌≤◌, ◌<◌}
use native.Mathlib.Decide.{dec_lt}
use native.Mathlib.Numerals.{add-one}
use native.Mathlib.Omega.{arith}
use lib.Dec.{ltb}
use lib.ListN.{length, set, length-append}
use lib.Seq.{sets}
use borrow.Author.Tests.{lt-ltb, le-ltb}
use Rattle.lists.specs.Lists.{pick, same, word, from, range, first_from}
use Rattle.lists.proofs.Tests.{same-yes, same-no, pick_true, pick-false}
use Rattle.lists.proofs.Ranges.{from-length}
use Rattle.lists.proofs.Stores.{word-range, sets-snoc}
use Rattle.scheme.specs.Words.{definitions, nodes, branches, formals, root, first_formal, formal_count, node_first, node_second, is_new, is_receive, branch_kind, branch_name, next}
use Rattle.scheme.specs.Owners.{Owner, root_of, child_of, next_of, nobody, home, pick_owner, owner, binds_of, held_names_by, definition_by, held, definition}
use Rattle.scheme.specs.Index.{owner_number, numbered, owner_in, home_in, parent_of, step_to_owner, definition_in, held_in, HeldNames}
use Rattle.scheme.specs.Inner.Filling.{definition_step}
use Rattle.scheme.specs.declared.lookup.Parent.{Parent}
use Rattle.scheme.specs.declared.lookup.Parent.TheVariants.{Definition, New, Branch, Nobody}
use Rattle.scheme.proofs.Climb.{held-root, held-child, held_next, held-child-not, held-next-not, held-nobody, definition-root, definition-child, definition-next, definition-child-not, definition-next-not, definition-nobody}

-- ---- what a step up says

-- it leads below n, or ends
abbrev Lower : Parent → ℕ → Type 0
Lower (Definition d) n = Unit
Lower (New m) n = m < n
Lower (Branch b m) n = m < n
Lower Nobody n = Unit

-- the names held, and the definition, by those below
abbrev held_from : List ℕ → (ℕ → List ℕ) → Parent → List ℕ
held_from w names (Definition d) = formals w d
held_from w names (New m) = names m ++ (node_first w m ∷ [])
held_from w names (Branch b m) = names m ++ binds_of w b
held_from w names Nobody = []

abbrev definition_from : (ℕ → ℕ) → Parent → ℕ
definition_from numbers (Definition d) = d
definition_from numbers (New m) = numbers m
definition_from numbers (Branch b m) = numbers m
definition_from numbers Nobody = 0

module _ (own : ℕ → Owner) (at : ℕ → ℕ) (n : ℕ) where
  -- the ways that a step up can go
  up-cases : (Q : Parent → Type 0) → ((d : ℕ) → own n ≡ root_of d → Q (Definition d))
      → ((m : ℕ) → own n ≡ child_of m → m < n → Q (New m)) → ((m : ℕ) → own n ≡ child_of m → n ≤ m → Q Nobody)
      → ((b : ℕ) → own n ≡ next_of b → at b < n → Q (Branch b (at b))) → ((b : ℕ) → own n ≡ next_of b → n ≤ at b → Q Nobody)
      → (own n ≡ nobody → Q Nobody) → Q (parent_of own at n)
  up-cases Q root child child-not next next-not none = go (own n) refl
    where
      new : (m : ℕ) → own n ≡ child_of m → Dec (m < n) → Q (pick (ltb m n) (New m) Nobody)
      new m e (yes l) = rw (lt-ltb m n l) (child m e l)
      new m e (no d) = let l : n ≤ m = omega arith in rw (le-ltb m n l) (child-not m e l)

      branch : (b : ℕ) → own n ≡ next_of b → Dec (at b < n) → Q (pick (ltb (at b) n) (Branch b (at b)) Nobody)
      branch b e (yes l) = rw (lt-ltb (at b) n l) (next b e l)
      branch b e (no d) = let l : n ≤ at b = omega arith in rw (le-ltb (at b) n l) (next-not b e l)

      go : (o : Owner) → own n ≡ o → Q (step_to_owner at n o)
      go (root_of d) e = root d e
      go (child_of m) e = new m e (dec_lt m n)
      go (next_of b) e = branch b e (dec_lt (at b) n)
      go nobody e = none e

  lower : Lower (parent_of own at n) n
  lower = up-cases (λ p. Lower p n) (λ d e. tt) (λ m e l. l) (λ m e l. tt) (λ b e l. l) (λ b e l. tt) (λ e. tt)

  held_up : (w : List ℕ) → held_names_by w own at (suc n) n ≡ held_from w (λ m. held_names_by w own at (suc m) m) (parent_of own at n)
  held_up w =
      up-cases (λ p. held_names_by w own at (suc n) n ≡ held_from w (λ m. held_names_by w own at (suc m) m) p) (held-root w own at n) (held-child w own at n)
      (held-child-not w own at n) (held_next w own at n) (held-next-not w own at n) (held-nobody w own at n)

  definition-up : (w : List ℕ) → definition_by w own at (suc n) n ≡ definition_from (λ m. definition_by w own at (suc m) m) (parent_of own at n)
  definition-up w =
      up-cases (λ p. definition_by w own at (suc n) n ≡ definition_from (λ m. definition_by w own at (suc m) m) p) (definition-root w own at n)
      (definition-child w own at n) (definition-child-not w own at n) (definition-next w own at n) (definition-next-not w own at n) (definition-nobody w own at n)

-- names, and definitions, that agree below n
held_same : (w : List ℕ) (f g : ℕ → List ℕ) (n : ℕ) → ((m : ℕ) → m < n → f m ≡ g m) → (p : Parent) → Lower p n → held_from w f p ≡ held_from w g p
held_same w f g n h (Definition d) l = refl
held_same w f g n h (New m) l = rw (h m l)
held_same w f g n h (Branch b m) l = rw (h m l)
held_same w f g n h Nobody l = refl

definition-same : (f g : ℕ → ℕ) (n : ℕ) → ((m : ℕ) → m < n → f m ≡ g m) → (p : Parent) → Lower p n → definition_from f p ≡ definition_from g p
definition-same f g n h (Definition d) l = refl
definition-same f g n h (New m) l = h m l
definition-same f g n h (Branch b m) l = h m l
definition-same f g n h Nobody l = refl

-- what follows at n from all below it holds everywhere
upward : {P : ℕ → Type 0} → ((n : ℕ) → ((m : ℕ) → m < n → P m) → P n) → (n : ℕ) → P n
upward {P} step n = step n (below n)
  where
    below : (f : ℕ) → (m : ℕ) → m < f → P m
    below zero m l = absurd (omega arith)
    below (suc f) m l = step m (λ k u. below f k (omega arith))

-- ---- owners as numbers

numbered-owner : (o : Owner) → ((d : ℕ) → o ≡ root_of d → d < 65536) → ((m : ℕ) → o ≡ child_of m → m < 65536) → numbered (owner_number o) ≡ o
unfolding numbered
numbered-owner (root_of d) r s =
    let u = r d refl in
    let q : 65536 + d - 65536 ≡ d = omega arith in
    rw (le-ltb (65536 + d) 65536 (omega arith), lt-ltb (65536 + d) 131072 (omega arith), q)
numbered-owner (child_of m) r s =
    let u = s m refl in
    let q : 131072 + m - 131072 ≡ m = omega arith in
    rw (le-ltb (131072 + m) 65536 (omega arith), le-ltb (131072 + m) 131072 (omega arith), lt-ltb (131072 + m) 196608 (omega arith), q)
numbered-owner (next_of b) r s =
    let q : 196608 + b - 196608 ≡ b = omega arith in
    rw (le-ltb (196608 + b) 65536 (omega arith), le-ltb (196608 + b) 131072 (omega arith), le-ltb (196608 + b) 196608 (omega arith), q)
numbered-owner nobody r s = refl

-- a definition told by a number fits 16 bits
small-root : (c d : ℕ) → numbered c ≡ root_of d → d < 65536
unfolding numbered
small-root c d h = go (dec_lt c 65536) (dec_lt c 131072) (dec_lt c 196608)
  where
    go : Dec (c < 65536) → Dec (c < 131072) → Dec (c < 196608) → d < 65536
    go (yes l) q r = let k : nobody ≡ root_of d = rw (lt-ltb c 65536 l) at h in let z : ◌≡◌ {A = ℕ} 0 1 = cc in absurd (omega arith)
    go (no l) (yes m) r =
        let k : root_of (c - 65536) ≡ root_of d = rw (le-ltb c 65536 (omega arith), lt-ltb c 131072 m) at h in
        let z : c - 65536 ≡ d = cc in
        omega arith
    go (no l) (no m) (yes r) =
        let k : child_of (c - 131072) ≡ root_of d = rw (le-ltb c 65536 (omega arith), le-ltb c 131072 (omega arith), lt-ltb c 196608 r) at h in
        let z : ◌≡◌ {A = ℕ} 0 1 = cc in
        absurd (omega arith)
    go (no l) (no m) (no r) =
        let k : next_of (c - 196608) ≡ root_of d = rw (le-ltb c 65536 (omega arith), le-ltb c 131072 (omega arith), le-ltb c 196608 (omega arith)) at h in
        let z : ◌≡◌ {A = ℕ} 0 1 = cc in
        absurd (omega arith)

abbrev Small : Parent → Type 0
Small (Definition d) = d < 65536
Small (New m) = Unit
Small (Branch b m) = Unit
Small Nobody = Unit

-- ---- by lent owners and homes

module _ (owners homes : List ℕ) where
  pub small-definition : (n d : ℕ) → parent_of (owner_in owners) (home_in homes) n ≡ Definition d → d < 65536
  small-definition n d h =
      rw h at (up-cases (owner_in owners) (home_in homes) n Small (λ e q. small-root (word owners n) e q) (λ m q l. tt) (λ m q l. tt) (λ b q l. tt) (λ b q l. tt) (λ q. tt))

  definition-in-up : (n : ℕ) → definition_in owners homes n ≡ definition_from (definition_in owners homes) (parent_of (owner_in owners) (home_in homes) n)
  unfolding definition_in
  definition-in-up n = definition-up (owner_in owners) (home_in homes) n []

  -- the definition of a node, where those below it are right
  pub definition-next-in : (below : List ℕ) (n : ℕ) → ((m : ℕ) → m < n → word below m ≡ definition_in owners homes m)
      → definition_step below (parent_of (owner_in owners) (home_in homes) n) ≡ definition_in owners homes n
  definition-next-in below n h =
      as-from (parent_of (owner_in owners) (home_in homes) n) ∙
      definition-same (word below) (definition_in owners homes) n h (parent_of (owner_in owners) (home_in homes) n) (lower (owner_in owners) (home_in homes) n) ∙
      sym (definition-in-up n)
    where
      as-from : (p : Parent) → definition_step below p ≡ definition_from (word below) p
      as-from (Definition d) = refl
      as-from (New m) = refl
      as-from (Branch b m) = refl
      as-from Nobody = refl

  held-in-up : (w : List ℕ) (n : ℕ) → held_in w owners homes n ≡ held_from w (held_in w owners homes) (parent_of (owner_in owners) (home_in homes) n)
  unfolding held_in
  held-in-up w n = held_up (owner_in owners) (home_in homes) n w

  pub new-below : (n m : ℕ) (p : Parent) → p ≡ parent_of (owner_in owners) (home_in homes) n → p ≡ New m → m < n
  new-below n m p e h = rw (← e, h) at (lower (owner_in owners) (home_in homes) n)

  pub branch-below : (n b m : ℕ) (p : Parent) → p ≡ parent_of (owner_in owners) (home_in homes) n → p ≡ Branch b m → m < n
  branch-below n b m p e h = rw (← e, h) at (lower (owner_in owners) (home_in homes) n)

  -- few names: a definition's formals, and at most one more a step
  held-in-length : (w : List ℕ) → ((i : ℕ) → word w i < 65536) → (n : ℕ) → length (held_in w owners homes n) ≤ 65535 + n
  unfolding formals
  held-in-length w small = upward (λ n ih. rw (held-in-up w n) (go n ih (parent_of (owner_in owners) (home_in homes) n) (lower (owner_in owners) (home_in homes) n)))
    where
      binds : (b : ℕ) → length (binds_of w b) ≤ 1
      binds b = one (is_receive w b)
        where
          one : (β : Bool) → length (pick β (branch_name w b ∷ []) []) ≤ 1
          one true = omega arith
          one false = omega arith

      go : (n : ℕ) → ((m : ℕ) → m < n → length (held_in w owners homes m) ≤ 65535 + m) → (p : Parent) → Lower p n
          → length (held_from w (held_in w owners homes) p) ≤ 65535 + n
      go n ih (Definition d) l = rw (from-length (word w (word w 8 + 4 * d + 2)) (formal_count w d)) (omega (arith, small (word w 8 + 4 * d + 3)))
      go n ih (New m) l = rw (length-append (held_in w owners homes m) (node_first w m ∷ [])) (omega (arith, ih m l))
      go n ih (Branch b m) l = rw (length-append (held_in w owners homes m) (binds_of w b)) (omega (arith, ih m l, binds b))
      go n ih Nobody l = omega arith

-- ---- with right owners and homes

-- an owner is within the table's counts
abbrev Within : List ℕ → Owner → Type 0
Within w (root_of d) = d < definitions w
Within w (child_of m) = m < nodes w
Within w (next_of b) = b < branches w
Within w nobody = Unit

within : (w : List ℕ) (k : ℕ) → Within w (owner w k)
unfolding owner pick_owner
within w k =
    go (first_from (definitions w) (λ d. same (root w d) k) 0 (definitions w)) (first_from (nodes w) (λ n. is_new w n && same (node_second w n) k) 0 (nodes w))
    (first_from (branches w) (λ b. same (next w b) k) 0 (branches w))
  where
    tested : (d n b : ℕ) → Dec (d < definitions w) → Dec (n < nodes w) → Dec (b < branches w) → Within w (pick_owner w d n b)
    tested d n b (yes l) q r = rw (lt-ltb d (definitions w) l) l
    tested d n b (no l) (yes q) r = rw (le-ltb d (definitions w) (omega arith), lt-ltb n (nodes w) q) q
    tested d n b (no l) (no q) (yes r) = rw (le-ltb d (definitions w) (omega arith), le-ltb n (nodes w) (omega arith), lt-ltb b (branches w) r) r
    tested d n b (no l) (no q) (no r) = rw (le-ltb d (definitions w) (omega arith), le-ltb n (nodes w) (omega arith), le-ltb b (branches w) (omega arith)) tt

    go : (d n b : ℕ) → Within w (pick_owner w d n b)
    go d n b = tested d n b (dec_lt d (definitions w)) (dec_lt n (nodes w)) (dec_lt b (branches w))

module _ (w owners homes : List ℕ)
    (owners-right : owners ≡ map (λ k. owner_number (owner w k)) (range (length owners)))
    (homes-right : homes ≡ map (home w) (range (length homes)))
    (homes-reach : branches w ≤ length homes)
    (few-definitions : definitions w ≤ 65536)
    (few-nodes : nodes w ≤ 65536)
  where
    own-indexed : (n : ℕ) → n < length owners → owner_in owners n ≡ owner w n
    own-indexed n h =
        ap numbered (ap (λ (l : List ℕ). word l n) owners-right ∙ word-range (λ k. owner_number (owner w k)) (length owners) n h) ∙
        numbered-owner (owner w n) (λ d e. let l : d < definitions w = rw e at (within w n) in omega arith) (λ m e. let l : m < nodes w = rw e at (within w n) in omega arith)

    home-indexed : (b : ℕ) → b < branches w → home_in homes b ≡ home w b
    home-indexed b h = ap (λ (l : List ℕ). word l b) homes-right ∙ word-range (home w) (length homes) b (omega arith)

    parent-indexed : (n : ℕ) → n < length owners → parent_of (owner_in owners) (home_in homes) n ≡ parent_of (owner w) (home w) n
    parent-indexed n h = ap (step_to_owner (home_in homes) n) (own-indexed n h) ∙ go (owner w n) (within w n)
      where
        go : (o : Owner) → Within w o → step_to_owner (home_in homes) n o ≡ step_to_owner (home w) n o
        go (root_of d) l = refl
        go (child_of m) l = refl
        go (next_of b) l = rw (home-indexed b l)
        go nobody l = refl

    held-right : (n : ℕ) → n < length owners → held_in w owners homes n ≡ held w n
    unfolding held
    held-right = upward (λ n ih h.
        held-in-up owners homes w n ∙ ap (held_from w (held_in w owners homes)) (parent-indexed n h) ∙
        held_same w (held_in w owners homes) (held w) n (λ m l. ih m l (omega arith)) (parent_of (owner w) (home w) n) (lower (owner w) (home w) n) ∙
        sym (held_up (owner w) (home w) n w))

    definition-right : (n : ℕ) → n < length owners → definition_in owners homes n ≡ definition w n
    unfolding definition
    definition-right = upward (λ n ih h.
        definition-in-up owners homes n ∙ ap (definition_from (definition_in owners homes)) (parent-indexed n h) ∙
        definition-same (definition_in owners homes) (definition w) n (λ m l. ih m l (omega arith)) (parent_of (owner w) (home w) n) (lower (owner w) (home w) n) ∙
        sym (definition-up (owner w) (home w) n w))

module _ (w owners homes : List ℕ) (n : ℕ) where
  pub held-indexed : owners ≡ map (λ k. owner_number (owner w k)) (range (length owners)) → homes ≡ map (home w) (range (length homes))
      → n < length owners → branches w ≤ length homes → definitions w ≤ 65536 → nodes w ≤ 65536 → held_in w owners homes n ≡ held w n
  held-indexed o h l b d m = held-right w owners homes o h b d m n l

  pub definition-indexed : owners ≡ map (λ k. owner_number (owner w k)) (range (length owners)) → homes ≡ map (home w) (range (length homes))
      → n < length owners → branches w ≤ length homes → definitions w ≤ 65536 → nodes w ≤ 65536 → definition_in owners homes n ≡ definition w n
  definition-indexed o h l b d m = definition-right w owners homes o h b d m n l

-- ---- names written

pub sets_more : (out : List ℕ) (first i e : ℕ) → i < e → sets out i (from (first + i) (e - i)) ≡ sets (set out i (first + i)) (i + 1) (from (first + (i + 1)) (e - (i + 1)))
unfolding from
sets_more out first i e h =
    let q : e - i ≡ suc (e - (i + 1)) = omega arith in
    let r : first + (i + 1) ≡ first + i + 1 = omega arith in
    rw (q, r, add-one i)

pub sets-done : (out : List ℕ) (first i e : ℕ) → e ≤ i → sets out i (from (first + i) (e - i)) ≡ out
unfolding from
sets-done out first i e h = let q : e - i ≡ 0 = omega arith in rw q

-- one name more
held_more : (names before middle after : List ℕ) (r x : ℕ) → HeldNames names before r middle → after ≡ set middle r x → HeldNames (names ++ (x ∷ [])) before (r + 1) after
held_more names before middle after r x h e = record {
  count = rw (length-append names (x ∷ [])) (omega (arith, h.count));
  written = e ∙ rw (h.count, h.written) (let q : length names ≡ 0 + length names = omega arith in rw q (sym (sets-snoc before 0 names x)));
}

-- what a branch binds
binds-one : (w : List ℕ) (b : ℕ) → branch_kind w b ≡ 2 → binds_of w b ≡ branch_name w b ∷ []
binds-one w b h = pick_true (branch_name w b ∷ []) [] (same-yes (branch_kind w b) 2 h)

binds-none : (w : List ℕ) (b : ℕ) → (branch_kind w b ≡ 2 → ⊥) → binds_of w b ≡ []
binds-none w b h = pick-false (branch_name w b ∷ []) [] (same-no (branch_kind w b) 2 h)

-- the count of the names of any node does not wrap
pub held-count : (w owners homes : List ℕ) (m : ℕ) (before : List ℕ) (r : ℕ) (after : List ℕ) → HeldNames (held_in w owners homes m) before r after
    → ((i : ℕ) → word w i < 65536) → r ≤ 65535 + m
held-count w owners homes m before r after h small = omega (arith, h.count, held-in-length owners homes w small m)

-- the names of a node, for each way that its step up can go
module _ (w owners homes : List ℕ) (n : ℕ) (p : Parent) (up : p ≡ parent_of (owner_in owners) (home_in homes) n) (before : List ℕ) where
  held_by : (q : Parent) → p ≡ q → held_in w owners homes n ≡ held_from w (held_in w owners homes) q
  held_by q h = held-in-up owners homes w n ∙ ap (held_from w (held_in w owners homes)) (sym up ∙ h)

  pub held-at-root : (d first size r : ℕ) (after : List ℕ) → p ≡ Definition d → first ≡ first_formal w d → size ≡ formal_count w d
      → (r ≡ size) × (after ≡ sets before 0 (from first size)) → HeldNames (held_in w owners homes n) before r after
  unfolding formals
  held-at-root d first size r after h e f g =
      rw (held_by (Definition d) h) (record { count = g.0 ∙ f ∙ sym (from-length (first_formal w d) (formal_count w d)); written = g.1 ∙ rw (e, f) })

  pub held-at-new : (m r x : ℕ) (middle after : List ℕ) → p ≡ New m → HeldNames (held_in w owners homes m) before r middle → x ≡ node_first w m → after ≡ set middle r x
      → HeldNames (held_in w owners homes n) before (r + 1) after
  held-at-new m r x middle after h k e g =
      rw (held_by (New m) h) (held_more (held_in w owners homes m) before middle after r (node_first w m) k (g ∙ rw e))

  pub held-at-receive : (b m kind r x : ℕ) (middle after : List ℕ) → p ≡ Branch b m → HeldNames (held_in w owners homes m) before r middle
      → kind ≡ branch_kind w b → kind ≡ 2 → x ≡ branch_name w b → after ≡ set middle r x → HeldNames (held_in w owners homes n) before (r + 1) after
  held-at-receive b m kind r x middle after h k e two f g =
      rw (held_by (Branch b m) h, binds-one w b (sym e ∙ two)) (held_more (held_in w owners homes m) before middle after r (branch_name w b) k (g ∙ rw f))

  pub held-at-branch : (b m kind r : ℕ) (after : List ℕ) → p ≡ Branch b m → HeldNames (held_in w owners homes m) before r after
      → kind ≡ branch_kind w b → (kind ≡ 2 → ⊥) → HeldNames (held_in w owners homes n) before r after
  held-at-branch b m kind r after h k e other =
      rw (held_by (Branch b m) h, binds-none w b (λ q. other (e ∙ q)), append-nil (held_in w owners homes m)) k

  pub held-at-nobody : p ≡ Nobody → HeldNames (held_in w owners homes n) before 0 before
  held-at-nobody h = rw (held_by Nobody h) (record { count = refl; written = refl })
