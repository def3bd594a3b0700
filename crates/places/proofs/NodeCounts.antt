-- The counts of a node, and of a send and a receive, as the code adds them.
use Rattle.std.proofs.Common.{◌≡◌, ℕ, ◌+◌, ◌-◌, ◌*◌, ◌<◌, ◌≤◌, Bool, true, false, not, ltb, leb, List, [], ◌++◌, map, length, take, drop, sym, refl, ap, ◌∙◌, subst, append-nil, arith, length-append, take_at, le-ltb, lt-ltb, le-leb}
use lib.Seq.{sets, sets-eq, length-sets}
use borrow.Author.Tests.{lt-leb}
use Rattle.lists.specs.Lists.{pick, bit, same, word, from, range, keep, member}
use Rattle.lists.proofs.Tests.{and_right, and-false, bit-small, same-yes, same-no}
use Rattle.lists.proofs.Ranges.{from-length, from_member}
use Rattle.lists.proofs.Members.{keep_append, keep_all, keep-none, member-keep}
use Rattle.scheme.specs.Words.{publics, nodes, branches, node_kind, node_first, node_second, formal_count, argument, arguments_of}
use Rattle.scheme.specs.Words.{channel, branch_name, branch_kind, is_receive}
use Rattle.scheme.specs.Owners.{held, branch_thread_of}
use Rattle.scheme.specs.Index.{held_at, HeldNames}
use Rattle.scheme.specs.Scheme.{scheme}
use Rattle.table.specs.Causes.{cause}
use Rattle.table.specs.Known.{Known}
use Rattle.table.proofs.Accepted.{accepted}
use Rattle.places.specs.Places.{common}
use Rattle.places.specs.Inner.Plan.{today, privates_word, values, read_names_word, Lists, reached}
use Rattle.places.specs.Answers.{Sums, sums}
use Rattle.places.specs.Inner.Counting.{Few, add_times, add_both, value_sums, over, release_sums, copy_sums, silent_sums, node_sums, bound_bit, public_count, private_count}
use Rattle.places.specs.Inner.Counting.{pair_sums, partner_sums, send_sums, all_sums}
use Rattle.places.specs.Plan.{privates_at, reach_in, Laid}
use Rattle.places.specs.Reaches.{common_reach}
use Rattle.places.specs.Sets.{bit_at}
use Rattle.places.specs.declared.reach.Reach.{Reach}
use Rattle.places.proofs.ByWords.{held-known, held_of}
use Rattle.places.proofs.Controls
use Rattle.places.proofs.Weights.{held-few}
use Rattle.places.proofs.Plans
use Rattle.places.proofs.Plans.{reach-is}
use Rattle.places.proofs.Reaches.{reach-lists, common-lists}
use Rattle.places.proofs.Adding.{over-few, release-grows, copy-grows, send-grows}

-- ---- names that a node holds, in a buffer of 64 words

held_small : (w : List ℕ) → cause w ≡ 0 → (n : ℕ) → length (held w n) ≤ 32
held_small w h n =
    omega (
      arith,
      held-few (scheme w) (today w) (accepted w h) (Controls.as-many-privates w h) n,
      ap (λ (xs : List ℕ). length xs) (held_of w h n),
      (accepted w h).few-bounds,
    )

module _ (w x : List ℕ) (k : Known w x) (n : ℕ) (l : n < nodes w) (before : List ℕ) (r : ℕ) (after : List ℕ)
    (h : HeldNames (held_at w x n) before r after) (room : 64 ≤ length before) where
  names-length : r ≡ length (held w n)
  names-length = h.count ∙ ap (λ (xs : List ℕ). length xs) (held-known w x k n l)

  pub names-fit : r ≤ length after
  names-fit =
      omega (
        arith,
        names-length,
        held_small w k.accepted n,
        ap (λ (xs : List ℕ). length xs) h.written ∙ length-sets before 0 (held_at w x n),
      )

  -- the first words are the names
  pub names-taken : take r after ≡ held w n
  names-taken =
      let e = held-known w x k n l in
      let f : after ≡ sets before 0 (held w n) = h.written ∙ ap (sets before 0) e in
      let g : sets before 0 (held w n) ≡ held w n ++ drop (0 + length (held w n)) before =
      sets-eq (held w n) before 0 (omega (arith, held_small w k.accepted n)) in
      ap (take r) (f ∙ g) ∙ take_at (held w n) (drop (0 + length (held w n)) before) r (sym names-length)

  -- what counting the releases of these names needs, and what it gives
  pub names-asks : (s : Sums) → Few (over (release_sums w) s (held w n))
      → (r ≤ length after) × Few (over (release_sums w) s (take r after))
  names-asks s f = (names-fit, rw names-taken f)

  pub names-gives : (s t : Sums) → t ≡ over (release_sums w) s (take r after) → t ≡ over (release_sums w) s (held w n)
  names-gives s t e = e ∙ ap (over (release_sums w) s) names-taken

-- ---- a node

module _ (w : List ℕ) (h : cause w ≡ 0) (n : ℕ) (l : n < nodes w) (s : Sums) where
  no_kind : (i j : ℕ) → node_kind w n ≡ i → (i ≡ j → ⊥) → same (node_kind w n) j ≡ false
  no_kind i j e d = same-no (node_kind w n) j (λ q. d (sym e ∙ q))

  pub stop-sums : node_kind w n ≡ 0 → node_sums w s n ≡ over (release_sums w) s (held w n)
  unfolding node_sums
  stop-sums e = rw (same-yes (node_kind w n) 0 e)

  pub choice-sums : node_kind w n ≡ 1 → node_sums w s n ≡ over (silent_sums w) s (from (node_first w n) (node_second w n))
  unfolding node_sums
  choice-sums e = rw (no_kind 1 0 e (λ q. omega arith), same-yes (node_kind w n) 1 e)

  pub new-sums : node_kind w n ≡ 2 → node_sums w s n ≡ add_times s (privates_word w) (read_names_word w + 2) (read_names_word w + 2)
  unfolding node_sums
  new-sums e = rw (no_kind 2 0 e (λ q. omega arith), no_kind 2 1 e (λ q. omega arith), same-yes (node_kind w n) 2 e)

  -- the same of what is read
  module _ (k : ℕ) (is : k ≡ node_kind w n) where
    pub stopped : k ≡ 0 → node_sums w s n ≡ over (release_sums w) s (held w n)
    stopped e = stop-sums (sym is ∙ e)

    pub chosen : (f g : ℕ) → f ≡ node_first w n → g ≡ node_second w n → k ≡ 1 → node_sums w s n ≡ over (silent_sums w) s (from f (f + g - f))
    chosen f g is_f is-g e = let c : f + g - f ≡ g = omega arith in rw (c, is_f, is-g) (choice-sums (sym is ∙ e))

    pub made : (p m : ℕ) → p ≡ privates_word w → m ≡ read_names_word w → k ≡ 2 → node_sums w s n ≡ add_times s p (m + 2) (m + 2)
    made p m is-p is_m e = rw (is-p, is_m) (new-sums (sym is ∙ e))

    pub other-kind : (i : ℕ) → (k ≡ i → ⊥) → node_kind w n ≡ i → ⊥
    other-kind i d q = d (is ∙ q)

  module _ (a : node_kind w n ≡ 0 → ⊥) (b : node_kind w n ≡ 1 → ⊥) (c : node_kind w n ≡ 2 → ⊥) where
    abbrev copied : Sums
    copied = over (copy_sums w) (add_times s 1 1 1) (arguments_of w n)

    pub call-sums : node_sums w s n ≡ over (release_sums w) copied (held w n)
    unfolding node_sums
    call-sums = rw (same-no (node_kind w n) 0 a, same-no (node_kind w n) 1 b, same-no (node_kind w n) 2 c)

    pub copied-few : Few (node_sums w s n) → Few copied
    copied-few f = over-few (release_sums w) (release-grows w) (node_sums w s n) copied (held w n) call-sums f

    pub called-few : Few (node_sums w s n) → Few (add_times s 1 1 1)
    called-few f = over-few (copy_sums w) (copy-grows w) copied (add_times s 1 1 1) (arguments_of w n) refl (copied-few f)

-- the arguments as the loop reads them
pub arguments-are : (w : List ℕ) (n first second f : ℕ) → first ≡ node_first w n → second ≡ node_second w n → f ≡ formal_count w first
    → map (argument w) (from second (second + f - second)) ≡ arguments_of w n
unfolding arguments_of
arguments-are w n first second f a b c =
    let e : second + f - second ≡ f = omega arith in
    rw (e, c, a, b)

-- ---- how many values of a reach are public, and how many private

module _ (p n : ℕ) (r : Reach) (vs : List ℕ) (l : Lists p n r vs) where
  abbrev low_part : List ℕ
  low_part = keep (bit_at r.publics) (range p)

  abbrev high_part : List ℕ
  high_part = pick (not (same r.restricted 0)) (from p n) []

  low_below : (v : ℕ) → member v low_part ≡ true → v < p
  low_below v m =
      omega (arith, from_member v 0 p (and_right (bit_at r.publics v) (member v (range p)) (sym (member-keep (bit_at r.publics) v (range p)) ∙ m)))

  kept : (q : ℕ → Bool) → keep q vs ≡ keep q low_part ++ keep q high_part
  unfolding reached
  kept q = ap (keep q) (sym l.is) ∙ keep_append q low_part high_part

  pub reach-publics : length (keep (λ v. ltb v p) vs) ≡ length low_part
  unfolding keep
  reach-publics =
      ap (λ (xs : List ℕ). length xs) (kept (λ v. ltb v p))
      ∙ rw (keep_all (λ v. ltb v p) low_part (λ v m. lt-ltb v p (low_below v m)), none (not (same r.restricted 0))) (simp append-nil)
    where
      none : (b : Bool) → keep (λ v. ltb v p) (pick b (from p n) []) ≡ []
      none true = keep-none (λ v. ltb v p) (from p n) (λ v m. le-ltb v p (from_member v p n m).0)
      none false = refl

  pub reach-privates : length (keep (λ v. leb p v) vs) ≡ pick (not (same r.restricted 0)) n 0
  unfolding keep
  reach-privates =
      ap (λ (xs : List ℕ). length xs) (kept (λ v. leb p v))
      ∙ rw (keep-none (λ v. leb p v) low_part (λ v m. lt-leb p v (low_below v m))) (go (not (same r.restricted 0)))
    where
      go : (b : Bool) → length (keep (λ v. leb p v) (pick b (from p n) [])) ≡ pick b n 0
      go true = ap (λ (xs : List ℕ). length xs) (keep_all (λ v. leb p v) (from p n) (λ v m. le-leb p v (from_member v p n m).0)) ∙ from-length p n
      go false = refl

  pub reach-length : length vs ≡ length low_part + pick (not (same r.restricted 0)) n 0
  unfolding reached
  reach-length =
      ap (λ (xs : List ℕ). length xs) (sym l.is) ∙ length-append low_part high_part ∙ rw (go (not (same r.restricted 0)))
    where
      go : (b : Bool) → length (pick b (from p n) []) ≡ pick b n 0
      go true = from-length p n
      go false = refl

-- ---- a send and a receive

pub bound-few : (r x p : ℕ) → r ≡ bit (not (ltb x p)) → r ≤ 1
bound-few r x p e = omega (arith, e, bit-small (not (ltb x p)))

-- the values of a name whose reach is read
pub values-read : (w x : List ℕ) → Laid w x → (z : ℕ) (r : Reach) → r ≡ reach_in x z → Lists (publics w) (privates_word w) r (values w z)
values-read w x L z r e = rw (e, reach-is w x L z) (reach-lists w L.accepted z)

-- ---- what the code has counted of the values of a name, c public and v private ones

module _ (w : List ℕ) (h : cause w ≡ 0) (x : List ℕ) (L : Laid w x) (z : ℕ) (r : Reach) (c v : ℕ) (er : r ≡ reach_in x z)
    (ec : c ≡ length (keep (bit_at r.publics) (range (publics w)))) (ev : v ≡ pick (not (same r.restricted 0)) (word x privates_at) 0) where
  values_listed : Lists (publics w) (privates_word w) r (values w z)
  values_listed = values-read w x L z r er

  pub publics-counted : public_count w (values w z) ≡ c
  publics-counted = reach-publics (publics w) (privates_word w) r (values w z) values_listed ∙ sym ec

  pub privates-counted : private_count w (values w z) ≡ v
  privates-counted = reach-privates (publics w) (privates_word w) r (values w z) values_listed ∙ sym (ev ∙ rw (Plans.privates-are w x L))

  pub values-read_of : (s : Sums) (i o arcs : ℕ) → value_sums w s z i o arcs ≡ add_both s c i o v arcs
  values-read_of s i o arcs = rw (publics-counted, privates-counted)

pub copy_read : (w : List ℕ) (s : Sums) (x b : ℕ) → b ≡ bound_bit w x → copy_sums w s x ≡ value_sums w s x (b + 1) (b + 2) (b + 2)
unfolding copy_sums
copy_read w s x b e = rw e

-- what the code has read of a send and a receive: channels a and e, the name z that is sent, the values x of both channels, whether the channels are bound, and
-- how many of the values are public and private
pub record Read (w : List ℕ) (b r a z e : ℕ) (x : Reach) (ba be c v : ℕ) : Type 0 where
  pub channel-is : a ≡ channel w b
  pub name-is : z ≡ branch_name w b
  pub other-is : e ≡ channel w r
  pub lists : Lists (publics w) (privates_word w) x (common (scheme w) (today w) a e)
  pub bit_is : ba ≡ bound_bit w a
  pub bit-other : be ≡ bound_bit w e
  pub publics-are : c ≡ length (keep (bit_at x.publics) (range (publics w)))
  pub privates-are : v ≡ pick (not (same x.restricted 0)) (privates_word w) 0
  pub few-privates : privates_word w ≤ 32

pick-few : (b : Bool) (n : ℕ) → pick b n 0 ≤ n
pick-few true n = omega arith
pick-few false n = omega arith

pub privates-small : (w x : List ℕ) (L : Laid w x) (b : Bool) (v : ℕ) → v ≡ pick b (word x privates_at) 0 → v ≤ 32
privates-small w x L b v e = omega (arith, e, pick-few b (word x privates_at), Plans.few-counted w x L)

pub reads : (w index : List ℕ) (L : Laid w index) (b r a z e : ℕ) (ra re x : Reach) (ba be c v : ℕ)
    → a ≡ channel w b → z ≡ branch_name w b → e ≡ channel w r
    → ra ≡ reach_in index a → re ≡ reach_in index e → x ≡ common_reach ra re → ba ≡ bound_bit w a → be ≡ bound_bit w e
    → c ≡ length (keep (bit_at x.publics) (range (publics w))) → v ≡ pick (not (same x.restricted 0)) (word index privates_at) 0
    → Read w b r a z e x ba be c v
reads w index L b r a z e ra re x ba be c v ea ez ee era ere ex eb ef ec ev = record {
  channel-is = ea;
  name-is = ez;
  other-is = ee;
  lists = rw (ex, era, ere, reach-is w index L a, reach-is w index L e) (common-lists w L.accepted a e);
  bit_is = eb;
  bit-other = ef;
  publics-are = ec;
  privates-are = rw (Plans.privates-are w index L) at ev;
  few-privates = Controls.few-privates w L.accepted;
}

module _ (w : List ℕ) (b r a z e : ℕ) (x : Reach) (ba be c v : ℕ) (k : Read w b r a z e x ba be c v) where
  pub privates-few : v ≤ 32
  privates-few = omega (arith, k.privates-are, pick-few (not (same x.restricted 0)) (privates_word w), k.few-privates)

  abbrev vs : List ℕ
  vs = common (scheme w) (today w) a e

  -- the same with the names that the code has read
  pair_read : (s : Sums) → pair_sums w b s r
      ≡ pick (same z a) (add_times (add_times s (public_count w vs) (ba + be + 2) (ba + be + 3)) (private_count w vs) (ba + be + 3) (ba + be + 3))
      (add_times (add_times s (length vs * public_count w (values w z)) (ba + be + bound_bit w z + 2) (ba + be + bound_bit w z + 3))
      (length vs * private_count w (values w z)) (ba + be + bound_bit w z + 3) (ba + be + bound_bit w z + 3))
  unfolding pair_sums
  pair_read s = rw (k.bit_is, k.bit-other, k.channel-is, k.name-is, k.other-is)

  pub self-sums : (s : Sums) → z ≡ a → pair_sums w b s r ≡ add_both s c (ba + be + 2) (ba + be + 3) v (ba + be + 3)
  self-sums s q =
      pair_read s ∙ rw (
        same-yes z a q,
        reach-publics (publics w) (privates_word w) x vs k.lists,
        reach-privates (publics w) (privates_word w) x vs k.lists,
        k.publics-are,
        k.privates-are,
      )

  pub other-sums : (s : Sums) (bz d u : ℕ) → (z ≡ a → ⊥) → bz ≡ bound_bit w z → d ≡ public_count w (values w z) → u ≡ private_count w (values w z)
      → pair_sums w b s r ≡ add_both s ((c + v) * d) (ba + be + bz + 2) (ba + be + bz + 3) ((c + v) * u) (ba + be + bz + 3)
  other-sums s bz d u ne eb ed eu =
      pair_read s ∙ rw (
        same-no z a ne,
        reach-length (publics w) (privates_word w) x vs k.lists,
        k.publics-are,
        k.privates-are,
        eb,
        ed,
        eu,
      )

-- ---- the receives that go with a send

module _ (w : List ℕ) (b : ℕ) (s : Sums) (r : ℕ) where
  pub partner-yes : branch_kind w r ≡ 2 → (branch_thread_of w r ≡ branch_thread_of w b → ⊥) → partner_sums w b s r ≡ pair_sums w b s r
  unfolding partner_sums
  partner-yes e d = rw (same-yes (branch_kind w r) 2 e, same-no (branch_thread_of w r) (branch_thread_of w b) d)

  pub partner-own : branch_thread_of w r ≡ branch_thread_of w b → partner_sums w b s r ≡ s
  unfolding partner_sums
  partner-own d = rw (same-yes (branch_thread_of w r) (branch_thread_of w b) d, and-false (is_receive w r))

  pub partner-no : (branch_kind w r ≡ 2 → ⊥) → partner_sums w b s r ≡ s
  unfolding partner_sums
  partner-no e = rw (same-no (branch_kind w r) 2 e)

pub send-yes : (w : List ℕ) (s : Sums) (b : ℕ) → branch_kind w b ≡ 1 → send_sums w s b ≡ over (partner_sums w b) s (range (branches w))
unfolding send_sums
send-yes w s b e = rw (same-yes (branch_kind w b) 1 e)

pub send-no : (w : List ℕ) (s : Sums) (b : ℕ) → (branch_kind w b ≡ 1 → ⊥) → send_sums w s b ≡ s
unfolding send_sums
send-no w s b e = rw (same-no (branch_kind w b) 1 e)

-- ---- all nodes, then all sends

module _ (w : List ℕ) where
  abbrev nodes_all : Sums
  nodes_all = over (node_sums w) (sums 0 0 0) (range (nodes w))

  all-is : all_sums w ≡ over (send_sums w) nodes_all (range (branches w))
  unfolding all_sums
  all-is = refl

  pub nodes-few : Few (all_sums w) → Few nodes_all
  nodes-few f = over-few (send_sums w) (send-grows w) (all_sums w) nodes_all (range (branches w)) all-is f

  pub sends-few : (s : Sums) → s ≡ nodes_all → Few (all_sums w) → Few (over (send_sums w) s (range (branches w)))
  sends-few s e f = rw e (subst Few all-is f)

  pub all-added : (s t : Sums) → s ≡ nodes_all → t ≡ over (send_sums w) s (range (branches w)) → t ≡ all_sums w
  all-added s t e f = f ∙ rw e (sym all-is)
