-- Sends and their partners: what each branch of a table adds to the communications, and the loops over branches.
use mathlib.Core.Path.{◌≡◌, refl, sym, ap, subst, ◌∙◌}
use mathlib.Core.Logic.{◌⊎◌, inl, inr}
use mathlib.Core.Bool.{Bool, true, false, true≢false}
use mathlib.Core.List.{List, [], ◌∷◌, ◌++◌, map}
use Prim.Native.Nat.{ℕ, ◌+◌, ◌-◌, ◌*◌, ◌^◌, ◌≤◌, ◌<◌}
use native.Mathlib.Decide.{ℕ_discrete}
use native.Mathlib.Omega.{arith}
use lib.Bits.{bit_and}
use lib.Count.{count_trailing_zeros}
use lib.Dec.{ltb}
use lib.ListN.{length, set, length-append, length-set, get_or-append}
use lib.Seq.{get_or-append_seam, get_or-set_same, get_or-set_other}
use borrow.Author.Tests.{lt-ltb}
use Rattle.lists.specs.Lists.{pick, same, word, from, range, flat, keep}
use Rattle.lists.proofs.Tests.{same-yes, same-no, same_true, same_false}
use Rattle.lists.proofs.Ranges.{from_more, from-done, from_member}
use Rattle.scheme.specs.Words.{nodes, branches, branch_kind, channel, branch_name, next, is_silent, is_send, is_receive}
use Rattle.scheme.specs.Owners.{home, branch_thread_of}
use Rattle.scheme.specs.Scheme.{Branch, absent, silent, send, receive, present, next_node, branch_at, scheme}
use Rattle.table.specs.Causes.{cause}
use Rattle.table.proofs.Accepted.{accepted}
use Rattle.net.specs.Net.{Transition}
use Rattle.places.specs.Transitions.{Description, of_pair}
use Rattle.builder.specs.Inner.Writing
use Rattle.builder.specs.Inner.Writing.{put_all, Inside}
use Rattle.scheme.specs.Index.{homes_in}
use Rattle.places.specs.Plan.{nodes_in, Laid}
use Rattle.places.specs.Sets.{bit_at}
use Rattle.places.specs.Sides.{side_in, side_at, receives_of, partner_set}
use Rattle.places.specs.Inner.Counting.{Pairs}
use Rattle.places.specs.Places.{common}
use Rattle.places.specs.Inner.Plan.{today, control_of}
use Rattle.places.proofs.Plans.{home-is, node-is}
use Rattle.places.proofs.Scanning.{lowest-first, numbers-none}
use Rattle.places.proofs.Hearing.{flat-kept, receive-of, receives-here, branch-here, set-empty, set-member, set-flat, meets-apart, deaf}
use Rattle.builder.specs.Inner.Parts.{of_table, state, pair_told, with_branch, with_all_of, Paired, pair_of, Coursed, Begins, StartsOf}
use Rattle.builder.specs.declared.write.Heads.{Heads}
use Rattle.builder.specs.declared.communications.Pair.{Pair}
use Rattle.builder.specs.declared.communications.Course.{Course}
use Rattle.places.specs.declared.count.Side.{Side}
use Rattle.builder.specs.declared.communications.Starts.{Starts}
use Rattle.builder.proofs.Writing.{put-none, put-append, inside-first}
use Rattle.places.proofs.Controls.{nodes-are}
use Rattle.places.proofs.ByWords.{send-branch, receive-branch}

-- ---- a loop over the numbers from i to e with a list for each: `all` is what the whole loop writes, s are the heads where i is due

module _ {A : Type 0} (f : A → Transition) (all s : Writing.Heads) (g : ℕ → List A) (i e : ℕ) (left : all ≡ put_all f s (flat g (from i (e - i)))) where
  pub flat-done : e ≤ i → s ≡ all
  unfolding flat
  flat-done h = sym (left ∙ rw (from-done i e h) (put-none f s))

  module _ (h : i < e) where
    flat-split : all ≡ put_all f s (g i ++ flat g (from (i + 1) (e - (i + 1))))
    unfolding flat
    flat-split = left ∙ rw (from_more i e h)

    pub flat-inside : Inside all → Inside (put_all f s (g i))
    flat-inside k = inside-first f s (g i) (flat g (from (i + 1) (e - (i + 1)))) (subst Inside flat-split k)

    pub flat-more : (t : Writing.Heads) → t ≡ put_all f s (g i) → all ≡ put_all f t (flat g (from (i + 1) (e - (i + 1))))
    flat-more t k =
        flat-split ∙ put-append f s (g i) (flat g (from (i + 1) (e - (i + 1))))
        ∙ ap (λ (u : Writing.Heads). put_all f u (flat g (from (i + 1) (e - (i + 1))))) (sym k)

    pub flat-skip : (t : Writing.Heads) → t ≡ s → g i ≡ [] → all ≡ put_all f t (flat g (from (i + 1) (e - (i + 1))))
    flat-skip t k z = flat-more t (k ∙ sym (ap (put_all f s) z ∙ put-none f s))

-- heads under the names that they have where ways meet
pub same-state : (out after : List ℕ) (h q : Heads) → after ≡ out → q ≡ h → state after q ≡ state out h
same-state out after h q e k = rw (e, k)

-- ---- the communications of a send with one branch, and with all

not-receive : (w : List ℕ) (r : ℕ) → r < branches w → (branch_kind w r ≡ 2 → ⊥)
    → (scheme w).branch r ≡ pick (is_silent w r) (silent (next w r)) (pick (is_send w r) (send (channel w r) (branch_name w r) (next w r)) absent)
unfolding scheme branch_at
not-receive w r l d = rw (lt-ltb r (branches w) l, same-no (branch_kind w r) 2 d)

not-send : (w : List ℕ) (r : ℕ) → (branch_kind w r ≡ 1 → ⊥)
    → (scheme w).branch r ≡ pick (ltb r (branches w)) (pick (is_silent w r) (silent (next w r))
    (pick (is_receive w r) (receive (channel w r) (branch_name w r) (next w r)) absent)) absent
unfolding scheme branch_at
not-send w r d = rw (same-no (branch_kind w r) 1 d)

module _ (w : List ℕ) (ok : cause w ≡ 0) (s : ℕ) (ls : s < branches w) where
  thread-is : (b : ℕ) → (scheme w).thread ((scheme w).home b) ≡ branch_thread_of w b
  unfolding scheme
  thread-is b = refl

  module _ (sends : branch_kind w s ≡ 1) (r : ℕ) (lr : r < branches w) where
    a-send : (scheme w).branch s ≡ send (channel w s) (branch_name w s) (next w s)
    a-send = send-branch w ok s ls sends

    -- "receive branch of another thread"
    partner-told : branch_kind w r ≡ 2 → (branch_thread_of w r ≡ branch_thread_of w s → ⊥) → with_branch w s r ≡ pair_told w s r
    unfolding pair_told
    partner-told k d =
        let t : same (branch_thread_of w s) (branch_thread_of w r) ≡ false = same-no (branch_thread_of w s) (branch_thread_of w r) (λ e. d (sym e)) in
        rw (a-send, receive-branch w ok r lr k, thread-is s, thread-is r, t)

    partner-same : branch_kind w r ≡ 2 → branch_thread_of w r ≡ branch_thread_of w s → with_branch w s r ≡ []
    partner-same k e =
        rw (a-send, receive-branch w ok r lr k, thread-is s, thread-is r, same-yes (branch_thread_of w s) (branch_thread_of w r) (sym e))

    partner-none : (branch_kind w r ≡ 2 → ⊥) → with_branch w s r ≡ []
    partner-none d = rw (a-send, other) (go (is_silent w r) (is_send w r))
      where
        other : (scheme w).branch r ≡ pick (is_silent w r) (silent (next w r)) (pick (is_send w r) (send (channel w r) (branch_name w r) (next w r)) absent)
        other = not-receive w r lr d

        go : (x y : Bool)
            → of_pair (scheme w) (today w) s (send (channel w s) (branch_name w s) (next w s)) r
            (pick x (silent (next w r)) (pick y (send (channel w r) (branch_name w r) (next w r)) absent)) ≡ []
        go true true = refl
        go true false = refl
        go false true = refl
        go false false = refl

-- the receives are enough
with_all-listed : (w : List ℕ) → cause w ≡ 0 → (s : ℕ) → s < branches w → branch_kind w s ≡ 1 → with_all_of w s ≡ flat (with_branch w s) (receives_of w)
with_all-listed w ok s l k =
    flat-kept (with_branch w s) (is_receive w) (range (branches w))
    (λ y m q. partner-none w ok s l k y (omega (arith, from_member y 0 (branches w) m)) (λ e. true≢false (sym (same-yes (branch_kind w y) 2 e) ∙ q)))

-- a receive that does not hear adds nothing
deaf-none : (w : List ℕ) → cause w ≡ 0 → (s : ℕ) → s < branches w → branch_kind w s ≡ 1 → (r : ℕ) → r < branches w → branch_kind w r ≡ 2
    → (common (scheme w) (today w) (channel w s) (channel w r) ≡ []) ⊎ (branch_thread_of w r ≡ branch_thread_of w s) → with_branch w s r ≡ []
unfolding pair_told flat
deaf-none w ok s l k r m e (inr d) = partner-same w ok s l k r m e d
deaf-none w ok s l k r m e (inl c) = go (ℕ_discrete (branch_thread_of w r) (branch_thread_of w s))
  where
    go : Dec (branch_thread_of w r ≡ branch_thread_of w s) → with_branch w s r ≡ []
    go (yes d) = partner-same w ok s l k r m e d
    go (no d) = partner-told w ok s l k r m e d ∙ rw c

-- a branch that is no send adds nothing
no-send : (w : List ℕ) (s : ℕ) → (branch_kind w s ≡ 1 → ⊥) → with_all_of w s ≡ []
unfolding flat
no-send w s d = none (with_branch w s) (range (branches w)) each
  where
    none : (g : ℕ → List Description) (xs : List ℕ) → ((r : ℕ) → g r ≡ []) → flat g xs ≡ []
    none g [] h = refl
    none g (x ∷ xs) h = rw (h x) (none g xs h)

    go : (r : ℕ) (β : Branch) (x y z : Bool)
        → of_pair (scheme w) (today w) s (pick x (pick y (silent (next w s)) (pick z (receive (channel w s) (branch_name w s) (next w s)) absent)) absent) r β ≡
        []
    go r β true true z = refl
    go r β true false true = refl
    go r β true false false = refl
    go r β false y z = refl

    each : (r : ℕ) → with_branch w s r ≡ []
    each r = rw (not-send w s d) (go r ((scheme w).branch r) (ltb s (branches w)) (is_silent w s) (is_receive w s))

-- ---- the communications of a branch with the receives of a set

abbrev pub with_set : List ℕ → ℕ → ℕ → List Description
with_set w s set = flat (with_branch w s) (map (word (receives_of w)) (keep (bit_at set) (range 64)))

pub set-done : (w : List ℕ) (s set : ℕ) → set ≡ 0 → with_set w s set ≡ []
unfolding flat
set-done w s set e = rw (e, numbers-none)

-- a loop over the numbers of a set, the lowest first: `all` is what the whole loop writes, t are the heads where `left` is due
module _ (w : List ℕ) (s left : ℕ) (d : left ≡ 0 → ⊥) (small : left < 2 ^ 64) (all t : Writing.Heads)
    (due : all ≡ put_all (of_table w) t (with_set w s left)) where
  abbrev first : List Description
  first = with_branch w s (word (receives_of w) (count_trailing_zeros 64 left))

  abbrev others : List Description
  others = with_set w s (bit_and left (left - 1))

  set_split : all ≡ put_all (of_table w) t (first ++ others)
  unfolding flat
  set_split = due ∙ rw (lowest-first left d small)

  pub set-inside : Inside all → Inside (put_all (of_table w) t first)
  set-inside k = inside-first (of_table w) t first others (subst Inside set_split k)

  pub set_more : (u : Writing.Heads) → u ≡ put_all (of_table w) t first → all ≡ put_all (of_table w) u others
  set_more u e = set_split ∙ put-append (of_table w) t first others ∙ ap (λ (v : Writing.Heads). put_all (of_table w) v others) (sym e)

-- those that it can meet are enough
pub set_told : (w x : List ℕ) → Laid w x → (s : ℕ) → s < branches w → with_all_of w s ≡ with_set w s (partner_set w x s)
set_told w x L s l = go (is_send w s) refl
  where
    ok : cause w ≡ 0
    ok = L.accepted

    go : (b : Bool) → is_send w s ≡ b → with_all_of w s ≡ with_set w s (partner_set w x s)
    go true e =
        let k = same_true (branch_kind w s) 1 e in
        with_all-listed w ok s l k
        ∙ set-flat w x (with_branch w s) ok s e
        (λ y m q. deaf-none w ok s l k y (receive-of w y m).1 (receive-of w y m).0 (deaf w x L s y q))
    go false e = no-send w s (same_false (branch_kind w s) 1 e) ∙ sym (set-done w s (partner_set w x s) (set-empty w x s e))

-- a number of the set that a branch can meet
pub record Meets (w x : List ℕ) (s k : ℕ) : Type 0 where
  pub sends : is_send w s ≡ true
  pub inside : k < length (receives_of w)
  pub branch-inside : word (receives_of w) k < branches w
  pub receives : branch_kind w (word (receives_of w) k) ≡ 2
  pub apart : branch_thread_of w (word (receives_of w) k) ≡ branch_thread_of w s → ⊥

pub meets-known : (w x : List ℕ) → Laid w x → (s k : ℕ) → bit_at (partner_set w x s) k ≡ true → Meets w x s k
meets-known w x L s k b =
    let (e, h, q) = set-member w x s k b in record {
      sends = e;
      inside = h;
      branch-inside = branch-here w k h;
      receives = receives-here w k h;
      apart = meets-apart w x L s (word (receives_of w) k) q;
    }

-- ---- where the rows of the receives' names start

-- what is written for the next branch keeps what was written
module _ (w rows bs : List ℕ) (S : StartsOf w rows bs) (room : length rows ≡ 64) (b a z at : ℕ) (ea : Begins w (channel w b) a)
    (ez : Begins w (branch_name w b) z) (e : at ≡ 2 * length bs) where
  abbrev stored : List ℕ
  stored = set (set rows at a) (at + 1) z

  -- two words of a branch below, and those of the branch
  kept-below : (i : ℕ) → i < at → word stored i ≡ word rows i
  kept-below i h = get_or-set_other (set rows at a) (at + 1) i z 0 (λ q. omega (arith, q, h)) ∙ get_or-set_other rows at i a 0 (λ q. omega (arith, q, h))

  channel-stored : at + 1 < 64 → word stored at ≡ a
  channel-stored h = get_or-set_other (set rows at a) (at + 1) at z 0 (λ q. omega (arith, q)) ∙ get_or-set_same rows at a 0 (omega (arith, room, h))

  name-stored : at + 1 < 64 → word stored (at + 1) ≡ z
  name-stored h = get_or-set_same (set rows at a) (at + 1) z 0 (omega (arith, length-set rows at a, room, h))

  pub starts_more : StartsOf w stored (bs ++ (b ∷ []))
  starts_more k l h = go (ℕ_discrete k (length bs))
    where
      go : Dec (k ≡ length bs)
          → Begins w (channel w (word (bs ++ (b ∷ [])) k)) (word stored (2 * k)) × Begins w (branch_name w (word (bs ++ (b ∷ [])) k)) (word stored (2 * k + 1))
      go (yes q) =
          let i : 2 * k ≡ at = omega (arith, q, e) in
          let r : at + 1 < 64 = omega (arith, i, h) in
          rw (q, get_or-append_seam bs b [] 0, sym e, channel-stored r, name-stored r) (ea, ez)
      go (no d) =
          let j : k < length bs = omega (arith, l, d, length-append bs (b ∷ [])) in
          rw (get_or-append bs (b ∷ []) 0 k j, kept-below (2 * k) (omega (arith, j, e)), kept-below (2 * k + 1) (omega (arith, j, e))) (S k j h)

-- ---- a pair as the code reads it

home_at : (w : List ℕ) (b : ℕ) → (scheme w).home b ≡ home w b
unfolding scheme
home_at w b = refl

home_below : (w : List ℕ) → cause w ≡ 0 → (b : ℕ) → home w b < nodes w
unfolding scheme
home_below w ok b = (accepted w ok).home-inside b

next-below : (w : List ℕ) → cause w ≡ 0 → (b : ℕ) → present ((scheme w).branch b) ≡ true → next_node ((scheme w).branch b) ≡ next w b → next w b < nodes w
next-below w ok b h e = omega (arith, nodes-are w, (accepted w ok).next-inside b h, e)

pair-known : (w x : List ℕ) (s r : ℕ) → Laid w x → s < branches w → r < branches w → is_send w s ≡ true → branch_kind w r ≡ 2
    → (branch_thread_of w r ≡ branch_thread_of w s → ⊥) → (own other : Starts) → Begins w (channel w s) own.channel → Begins w (branch_name w s) own.name
    → Begins w (channel w r) other.channel → Begins w (branch_name w r) other.name → Paired w (pair_of (side_in w x s) own (side_in w x r) other)
pair-known w x s r k ls lr q u d own other ea ez ee ey = record {
  send-inside = ls;
  receive_inside = lr;
  sends = q;
  receives = same-yes (branch_kind w r) 2 u;
  apart = d;
  channel-is = refl;
  sent_is = refl;
  heard-is = refl;
  bound-is = refl;
  sender-is = ap (word (nodes_in x)) (at_home s) ∙ starts (home w s) (home-inside s);
  onsend-is = starts (next w s) send-next;
  receiver-is = ap (word (nodes_in x)) (at_home r) ∙ starts (home w r) (home-inside r);
  onreceive-is = starts (next w r) receive-next;
  channel-row = ea;
  sent-row = ez;
  heard-row = ee;
  bound-row = ey;
}
  where
    at_home : (b : ℕ) → word (homes_in x) b ≡ home w b
    at_home b = home-is w x k b ∙ home_at w b

    starts : (n : ℕ) → n < nodes w → word (nodes_in x) n ≡ control_of w n
    starts n l = node-is w x k n (omega arith)

    home-inside : (b : ℕ) → home w b < nodes w
    home-inside b = home_below w k.accepted b

    send-next : next w s < nodes w
    send-next =
        let d = send-branch w k.accepted s ls (same_true (branch_kind w s) 1 q) in
        next-below w k.accepted s (ap present d) (ap next_node d)

    receive-next : next w r < nodes w
    receive-next =
        let d = receive-branch w k.accepted r lr u in
        next-below w k.accepted r (ap present d) (ap next_node d)

-- what is read of both branches, and of how the send is gone through
module _ (w x list : List ℕ) (L : Laid w x) (ps : Pairs w x list) (s k : ℕ) (l : s < branches w) (m : Meets w x s k) (d r : Side) (own other : Starts)
    (p : Pair)
    (ed : d ≡ side_in w x s) (er : r ≡ side_at list k) (ep : p ≡ pair_of d own r other)
    (ea : Begins w d.channel own.channel) (ez : Begins w d.name own.name) where
  abbrev y : ℕ
  y = word (receives_of w) k

  heard : r ≡ side_in w x y
  heard = er ∙ ps.sides-are k m.inside

  read : p ≡ pair_of (side_in w x s) own (side_in w x y) other
  read = ep ∙ rw (ed, heard)

  pub pair_read : Begins w (channel w y) other.channel → Begins w (branch_name w y) other.name → Paired w p
  pair_read ee ey =
      subst (Paired w) (sym read)
      (pair-known w x s y L l m.branch-inside m.sends m.receives m.apart own other (rw ed at ea) (rw ed at ez) ee ey)

  pub course-read : (c : Course) → Coursed w d.channel d.name c → Coursed w p.channel p.sent c
  course-read c h = subst (λ (q : Pair). Coursed w q.channel q.sent c) (sym ep) h

  pub both_read : pair_told w p.send p.receive ≡ with_branch w s (word (receives_of w) k)
  both_read =
      ap (λ (q : Pair). pair_told w q.send q.receive) read
      ∙ sym (partner-told w L.accepted s l (same_true (branch_kind w s) 1 m.sends) y m.branch-inside m.receives m.apart)
