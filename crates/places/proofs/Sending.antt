-- What a receive hears and a send brings, by the words that the code reads.
use Rattle.std.proofs.Common.{◌≡◌, ℕ, ◌+◌, ◌^◌, ◌<◌, Bool, true, false, not, ◌&&◌, ◌||◌, List, refl, ◌∙◌, arith, lt-ltb}
use lib.Bits.{bit_and, bit_xor}
use Rattle.lists.specs.Lists.{pick, same, word, range, some}
use Rattle.lists.proofs.Tests.{and_intro, and_left, and_right, same-no}
use Rattle.scheme.specs.Words.{branches, branch_kind, channel, branch_name, next}
use Rattle.scheme.specs.Owners.{branch_thread_of}
use Rattle.scheme.specs.Scheme.{Branch, absent, silent, send, receive, branch_at, scheme}
use Rattle.scheme.specs.Index.{branch_thread_at}
use Rattle.table.specs.Causes.{cause}
use Rattle.table.specs.Known.{Known}
use Rattle.table.proofs.Lookup.{branch-thread-right}
use Rattle.places.specs.Sets.{bit_at}
use Rattle.places.specs.Inner.Sets.{in_set, Gathers, Adds, Joined, Grown, hears_at, said_at, is_said}
use Rattle.places.proofs.Tallies.{some-intro, some-elim}
use Rattle.places.proofs.Bits.{bit-one, bit-without}
use Rattle.places.proofs.Controls.{few-publics, few-bounds}
use Rattle.places.proofs.ByWords.{send-branch, receive-branch, name-inside}
use Rattle.places.proofs.Growing.{adds_then, adds_same, joined_same, grown-joined, grown-same}

pub and-over : (a b c : Bool) → ((a && c) || (b && c)) ≡ ((a || b) && c)
and-over true true true = refl
and-over true true false = refl
and-over true false true = refl
and-over true false false = refl
and-over false b c = refl

module _ (w : List ℕ) (h : cause w ≡ 0) where
  thread-is : (b : ℕ) → (scheme w).thread ((scheme w).home b) ≡ branch_thread_of w b
  unfolding scheme
  thread-is b = refl

  pub branches-are : (scheme w).branches ≡ branches w
  unfolding scheme
  branches-are = refl

  -- the thread of a branch, as the index tells it
  pub thread-told : (x : List ℕ) → Known w x → (b r : ℕ) → r ≡ branch_thread_at w x b → r ≡ branch_thread_of w b
  thread-told x K b r e = e ∙ branch-thread-right w h x K.right b ∙ thread-is b

  -- ---- what a receive hears

  -- the name that it binds
  pub name-small : (r : ℕ) → r < branches w → branch_kind w r ≡ 2 → branch_name w r < 64
  name-small r l k = omega (arith, few-publics w h, few-bounds w h, name-inside w h r l (λ e. omega (arith, k, e)))

  pub hears-other : (r : ℕ) → r < branches w → (branch_kind w r ≡ 2 → ⊥) → (R : ℕ → ℕ → Bool) (k y : ℕ)
      → hears_at (scheme w) R k y r ((scheme w).branch r) ≡ false
  unfolding scheme branch_at
  hears-other r l d R k y =
      rw (lt-ltb r (branches w) l, same-no (branch_kind w r) 2 d) (go (same (branch_kind w r) 0) (same (branch_kind w r) 1))
    where
      go : (a b : Bool) → hears_at (scheme w) R k y r (pick a (silent (next w r)) (pick b (send (channel w r) (branch_name w r) (next w r)) absent)) ≡ false
      go true b = refl
      go false true = refl
      go false false = refl

  pub listen-adds : (words a b c : List ℕ) (g f : Bool) (r e t y : ℕ) → r < branches w → branch_kind w r ≡ 2 → e ≡ word words (channel w r)
      → t ≡ branch_thread_of w r → y ≡ 2 ^ branch_name w r → Joined a b g (λ k z. bit_at e k && bit_at y z) → Joined b c f (λ k z. same (64 + t) k && bit_at y z)
      → Adds a c (λ k z. hears_at (scheme w) (in_set words) k z r ((scheme w).branch r))
  listen-adds words a b c g f r e t y l q ee et ey F G =
      adds_same a c (λ k z. (bit_at e k && bit_at y z) || (same (64 + t) k && bit_at y z))
      (λ k z. hears_at (scheme w) (in_set words) k z r ((scheme w).branch r)) is
      (adds_then a b c (λ k z. bit_at e k && bit_at y z) (λ k z. same (64 + t) k && bit_at y z) F.adds G.adds)
    where
      is : (k z : ℕ) → ((bit_at e k && bit_at y z) || (same (64 + t) k && bit_at y z)) ≡ hears_at (scheme w) (in_set words) k z r ((scheme w).branch r)
      is k z =
          rw (receive-branch w h r l q, thread-is r, ee, et, ey, bit-one (branch_name w r) z)
          (and-over (in_set words (channel w r) k) (same (64 + branch_thread_of w r) k) (same (branch_name w r) z))

  -- ---- what a send brings

  pub said-other : (s : ℕ) → s < branches w → (branch_kind w s ≡ 1 → ⊥) → (ears : List ℕ) (R : ℕ → ℕ → Bool) (x o : ℕ)
      → said_at (scheme w) ears R x o s ((scheme w).branch s) ≡ false
  unfolding scheme branch_at
  said-other s l d ears R x o =
      rw (lt-ltb s (branches w) l, same-no (branch_kind w s) 1 d) (go (same (branch_kind w s) 0) (same (branch_kind w s) 2))
    where
      go : (a b : Bool)
          → said_at (scheme w) ears R x o s (pick a (silent (next w s)) (pick b (receive (channel w s) (branch_name w s) (next w s)) absent)) ≡ false
      go true b = refl
      go false true = refl
      go false false = refl

  said_more : (ears : List ℕ) (s : ℕ) (σ : Branch) (R Q : ℕ → ℕ → Bool) → ((x o : ℕ) → R x o ≡ true → Q x o ≡ true) → (x o : ℕ)
      → said_at (scheme w) ears R x o s σ ≡ true → said_at (scheme w) ears Q x o s σ ≡ true
  said_more ears s absent R Q inc x o h = h
  said_more ears s (silent l) R Q inc x o h = h
  said_more ears s (send a z l) R Q inc x o h =
      let m : Bool = not (in_set ears (64 + (scheme w).thread ((scheme w).home s)) x) in
      let f : Bool = some (λ k. R a k && in_set ears k x) (range 64) in
      let g : Bool = some (λ k. Q a k && in_set ears k x) (range 64) in
      let p : (f && m) ≡ true = and_left (f && m) (R z o) h in
      let (k, i, e) = some-elim (λ k. R a k && in_set ears k x) (range 64) (and_left f m p) in
      and_intro (g && m) (Q z o)
      (and_intro g m
      (some-intro (λ k. Q a k && in_set ears k x) k (range 64) i
      (and_intro (Q a k) (in_set ears k x) (inc a k (and_left (R a k) (in_set ears k x) e)) (and_right (R a k) (in_set ears k x) e)))
      (and_right f m p)) (inc z o (and_right (f && m) (R z o) h))
  said_more ears s (receive e y l) R Q inc x o h = h

  pub say-grown : (ears a b : List ℕ) (g : Bool) (s c z t : ℕ) (all own : ℕ) → s < branches w → branch_kind w s ≡ 1 → c ≡ word a (channel w s)
      → z ≡ word a (branch_name w s) → t ≡ branch_thread_of w s → Gathers ears c all → own ≡ word ears (64 + t)
      → Joined a b g (λ x o. bit_at (bit_xor all (bit_and all own)) x && bit_at z o)
      → Grown a b g (λ R x o. said_at (scheme w) ears R x o s ((scheme w).branch s))
  say-grown ears a b g s c z t all own l q ec ez et G eo J =
      grown-joined a b g (λ R x o. said_at (scheme w) ears R x o s ((scheme w).branch s)) (said_more ears s ((scheme w).branch s))
      (joined_same a b g (λ x o. bit_at (bit_xor all (bit_and all own)) x && bit_at z o)
      (λ x o. said_at (scheme w) ears (in_set a) x o s ((scheme w).branch s)) is J)
    where
      is : (x o : ℕ) → (bit_at (bit_xor all (bit_and all own)) x && bit_at z o) ≡ said_at (scheme w) ears (in_set a) x o s ((scheme w).branch s)
      is x o = rw (bit-without all own x, G x, send-branch w h s l q, thread-is s, eo, et, ec, ez)

  pub all_said : (ears a b : List ℕ) (g : Bool) (i : ℕ) → i ≡ branches w
      → Grown a b g (λ R x o. some (λ s. said_at (scheme w) ears R x o s ((scheme w).branch s)) (range i)) → Grown a b g (is_said (scheme w) ears)
  unfolding is_said
  all_said ears a b g i e F =
      grown-same a b g (λ R x o. some (λ s. said_at (scheme w) ears R x o s ((scheme w).branch s)) (range i)) (is_said (scheme w) ears)
      (λ R x o. rw (e, branches-are)) F
