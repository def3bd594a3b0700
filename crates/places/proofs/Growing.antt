-- Sets joined in place: one step after another, and what a step brings.
use Rattle.std.proofs.Common.{◌≡◌, ℕ, zero, suc, ◌+◌, ◌<◌, ◌≤◌, Bool, true, false, not, ◌&&◌, ◌||◌, ◌⊎◌, List, [], ◌∷◌, ◌++◌, length, set, sym, refl, ap, ◌∙◌, subst, inl, inr, true≢false, add-one, arith, length-set, get_or-set_other, get_or-set_same}
use mathlib.Core.Bool.{false≢true}
use native.Mathlib.Decide.{ℕ_discrete, dec_lt}
use lib.Bits.{bit_or, or_add_and, and_le_r}
use lib.Seq.{set-get_or}
use Rattle.lists.specs.Lists.{bit, same, word, from, range, some, total}
use Rattle.lists.proofs.Tests.{or_cases, or_left, or_right, or-false, or_assoc, or-none, same_self, same-no, same_true, same_false}
use Rattle.lists.proofs.Ranges.{from-snoc}
use Rattle.places.specs.Sets.{bit_at}
use Rattle.places.specs.Inner.Sets.{in_set, Under, Adds, Joined, Grown}
use Rattle.places.proofs.Tallies.{get_d_past}
use Rattle.places.proofs.Bits.{bit-or, bit-zero}

-- what comes, given reaches
abbrev Flow : Type 0
Flow = (ℕ → ℕ → Bool) → ℕ → ℕ → Bool

-- nothing more comes to the sets
abbrev pub Quiet : List ℕ → Flow → Type 0
Quiet ws B = (x o : ℕ) → x < length ws → B (in_set ws) x o ≡ true → in_set ws x o ≡ true

-- a set past the sets is empty
past : (ws : List ℕ) (x o : ℕ) → length ws ≤ x → in_set ws x o ≡ false
past ws x o h = rw (get_d_past 0 ws x h) (bit-zero o)

pub in-long : (ws : List ℕ) (x o : ℕ) → in_set ws x o ≡ true → x < length ws
in-long ws x o h = go (dec_lt x (length ws))
  where
    go : Dec (x < length ws) → x < length ws
    go (yes l) = l
    go (no l) = absurd (false≢true (sym (past ws x o (omega arith)) ∙ h))

some-append : (p : ℕ → Bool) (xs : List ℕ) (y : ℕ) → some p (xs ++ (y ∷ [])) ≡ (some p xs || p y)
unfolding some
some-append p [] y = or-false (p y)
some-append p (x ∷ xs) y = rw (some-append p xs y) (sym (or_assoc (p x) (some p xs) (p y)))

some_next : (p : ℕ → Bool) (i : ℕ) → some p (range (i + 1)) ≡ (some p (range i) || p i)
some_next p i = let z : 0 + i ≡ i = omega arith in rw (add-one i, from-snoc 0 i, z) (some-append p (range i) i)

pub some-none : (p : ℕ → Bool) → some p (range 0) ≡ false
unfolding some from
some-none p = refl

pub bit-either : (g h : Bool) → bit (g || h) ≤ bit g + bit h
bit-either true h = omega arith
bit-either false h = omega arith

-- ---- just this is joined

pub adds_none : (ws : List ℕ) (B : ℕ → ℕ → Bool) → ((x o : ℕ) → B x o ≡ false) → Adds ws ws B
adds_none ws B f = record { size = refl; bits = λ x o l. rw (f x o) (sym (or-false (in_set ws x o))) }

pub adds_then : (a b c : List ℕ) (B C : ℕ → ℕ → Bool) → Adds a b B → Adds b c C → Adds a c (λ x o. B x o || C x o)
adds_then a b c B C F G = record {
  size = G.size ∙ F.size;
  bits = λ x o l. G.bits x o (rw F.size l) ∙ rw (F.bits x o l) (or_assoc (in_set a x o) (B x o) (C x o));
}

pub adds_same : (a b : List ℕ) (B C : ℕ → ℕ → Bool) → ((x o : ℕ) → B x o ≡ C x o) → Adds a b B → Adds a b C
adds_same a b B C f F = record { size = F.size; bits = λ x o l. F.bits x o l ∙ rw (f x o) }

pub adds-next : (a b c : List ℕ) (B : ℕ → ℕ → ℕ → Bool) (i : ℕ) → Adds a b (λ x o. some (λ j. B j x o) (range i)) → Adds b c (B i)
    → Adds a c (λ x o. some (λ j. B j x o) (range (i + 1)))
adds-next a b c B i F G =
    adds_same a c (λ x o. some (λ j. B j x o) (range i) || B i x o) (λ x o. some (λ j. B j x o) (range (i + 1)))
    (λ x o. sym (some_next (λ j. B j x o) i))
    (adds_then a b c (λ x o. some (λ j. B j x o) (range i)) (B i) F G)

total-set : (ws : List ℕ) (x v : ℕ) → x < length ws → total (set ws x v) + word ws x ≡ total ws + v
unfolding total
total-set [] x v h = absurd (omega arith)
total-set (w ∷ ws) zero v h = omega arith
total-set (w ∷ ws) (suc x) v h = omega (arith, total-set ws x v (omega arith))

-- one set
pub joined-one : (ws : List ℕ) (x a : ℕ) → x < length ws
    → Joined ws (set ws x (bit_or (word ws x) a)) (not (same (bit_or (word ws x) a) (word ws x))) (λ y o. same x y && bit_at a o)
joined-one ws x a l = record {
  adds = record { size = length-set ws x v; bits = λ y o k. at y o k (ℕ_discrete x y) };
  still = λ e. ap (set ws x) (kept (same v (word ws x)) refl e) ∙ set-get_or ws x 0;
  rises = go (same v (word ws x)) refl;
}
  where
    v : ℕ
    v = bit_or (word ws x) a

    at : (y o : ℕ) → y < length ws → Dec (x ≡ y) → in_set (set ws x v) y o ≡ (in_set ws y o || (same x y && bit_at a o))
    at y o k (yes p) = rw (← p, get_or-set_same ws x v 0 l, same_self x) (bit-or (word ws x) a o)
    at y o k (no d) = rw (get_or-set_other ws x y v 0 (λ e. d (sym e)), same-no x y d) (sym (or-false (in_set ws y o)))

    kept : (b : Bool) → same v (word ws x) ≡ b → not b ≡ false → v ≡ word ws x
    kept true q e = same_true v (word ws x) q
    kept false q e = absurd (true≢false e)

    more : word ws x ≤ v
    more = omega (arith, or_add_and (word ws x) a, and_le_r (word ws x) a)

    go : (b : Bool) → same v (word ws x) ≡ b → total ws + bit (not b) ≤ total (set ws x v)
    go true q = omega (arith, total-set ws x v l, more)
    go false q = let d : v ≡ word ws x → ⊥ = same_false v (word ws x) q in omega (arith, total-set ws x v l, more, d)

pub joined-past : (ws : List ℕ) (x a : ℕ) → length ws ≤ x → Joined ws ws false (λ y o. same x y && bit_at a o)
joined-past ws x a h = record {
  adds = record { size = refl; bits = λ y o k. rw (same-no x y (λ e. omega arith)) (sym (or-false (in_set ws y o))) };
  still = λ e. refl;
  rises = omega arith;
}

pub joined-none : (ws : List ℕ) (B : ℕ → ℕ → Bool) → ((x o : ℕ) → B x o ≡ false) → Joined ws ws false B
joined-none ws B f = record { adds = adds_none ws B f; still = λ e. refl; rises = omega arith }

pub joined-then : (a b c : List ℕ) (g h : Bool) (B C D : ℕ → ℕ → Bool) → ((x o : ℕ) → (B x o || C x o) ≡ D x o) → Joined a b g B → Joined b c h C
    → Joined a c (g || h) D
joined-then a b c g h B C D f F G = record {
  adds = adds_same a c (λ x o. B x o || C x o) D f (adds_then a b c B C F.adds G.adds);
  still = λ e. let (p, q) = or-none g h e in G.still q ∙ F.still p;
  rises = omega (arith, F.rises, G.rises, bit-either g h);
}

pub joined_same : (a b : List ℕ) (g : Bool) (B C : ℕ → ℕ → Bool) → ((x o : ℕ) → B x o ≡ C x o) → Joined a b g B → Joined a b g C
joined_same a b g B C f F = record { adds = adds_same a b B C f F.adds; still = F.still; rises = F.rises }

-- ---- what comes in place

pub grown-none : (ws : List ℕ) (B : Flow) → ((R : ℕ → ℕ → Bool) (x o : ℕ) → B R x o ≡ false) → Grown ws ws false B
grown-none ws B f = record {
  size = refl;
  keeps = λ x o q. q;
  within = λ Q cl u. u;
  still = λ e. (refl, λ x o l q. absurd (false≢true (sym (f (in_set ws) x o) ∙ q)));
  rises = omega arith;
}

-- by what is joined: what comes given the sets, and no less given more
pub grown-joined : (a b : List ℕ) (g : Bool) (B : Flow)
    → ((R Q : ℕ → ℕ → Bool) → ((x o : ℕ) → R x o ≡ true → Q x o ≡ true) → (x o : ℕ) → B R x o ≡ true → B Q x o ≡ true) → Joined a b g (B (in_set a))
    → Grown a b g B
grown-joined a b g B mono J = record {
  size = J.adds.size;
  keeps = λ x o q. J.adds.bits x o (in-long a x o q) ∙ rw q;
  within = λ Q cl u x o q. went Q cl u x o (or_cases (in_set a x o) (B (in_set a) x o) (sym (J.adds.bits x o (rw (← J.adds.size) (in-long b x o q))) ∙ q));
  still =
      λ e. (
        J.still e,
        λ x o l q. sym (ap (λ (ws : List ℕ). in_set ws x o) (J.still e)) ∙ J.adds.bits x o l
            ∙ or_right (in_set a x o) (B (in_set a) x o) q,
      );
  rises = J.rises;
}
  where
    went : (Q : ℕ → ℕ → Bool) → ((x o : ℕ) → B Q x o ≡ true → Q x o ≡ true) → Under a Q → (x o : ℕ) → (in_set a x o ≡ true) ⊎ (B (in_set a) x o ≡ true)
        → Q x o ≡ true
    went Q cl u x o (inl q) = u x o q
    went Q cl u x o (inr q) = cl x o (mono (in_set a) Q u x o q)

pub grown-then : (a b c : List ℕ) (g h : Bool) (B C D : Flow) → ((R : ℕ → ℕ → Bool) (x o : ℕ) → (B R x o || C R x o) ≡ D R x o) → Grown a b g B
    → Grown b c h C → Grown a c (g || h) D
grown-then a b c g h B C D f F G = record {
  size = G.size ∙ F.size;
  keeps = λ x o q. G.keeps x o (F.keeps x o q);
  within =
      λ Q cl u. G.within Q (λ x o q. cl x o (sym (f Q x o) ∙ or_right (B Q x o) (C Q x o) q))
      (F.within Q (λ x o q. cl x o (sym (f Q x o) ∙ or_left (B Q x o) (C Q x o) q)) u);
  still = λ e. let (p, q) = or-none g h e in stopped (F.still p) (G.still q);
  rises = omega (arith, F.rises, G.rises, bit-either g h);
}
  where
    stopped : (b ≡ a) × Quiet a B → (c ≡ b) × Quiet b C → (c ≡ a) × Quiet a D
    stopped (p, r) (q, s) = (q ∙ p, λ x o l t. either x o l (or_cases (B (in_set a) x o) (C (in_set a) x o) (f (in_set a) x o ∙ t)))
      where
        either : (x o : ℕ) → x < length a → (B (in_set a) x o ≡ true) ⊎ (C (in_set a) x o ≡ true) → in_set a x o ≡ true
        either x o l (inl t) = r x o l t
        either x o l (inr t) = subst (λ (ws : List ℕ). Quiet ws C) p s x o l t

-- one step more of a loop
pub grown-next : (a b c : List ℕ) (g h : Bool) (B : ℕ → Flow) (i : ℕ) → Grown a b g (λ R x o. some (λ j. B j R x o) (range i)) → Grown b c h (B i)
    → Grown a c (g || h) (λ R x o. some (λ j. B j R x o) (range (i + 1)))
grown-next a b c g h B i =
    grown-then a b c g h (λ R x o. some (λ j. B j R x o) (range i)) (B i) (λ R x o. some (λ j. B j R x o) (range (i + 1)))
    (λ R x o. sym (some_next (λ j. B j R x o) i))

pub grown-same : (a b : List ℕ) (g : Bool) (B C : Flow) → ((R : ℕ → ℕ → Bool) (x o : ℕ) → B R x o ≡ C R x o) → Grown a b g B → Grown a b g C
grown-same a b g B C f F = record {
  size = F.size;
  keeps = F.keeps;
  within = λ Q cl. F.within Q (λ x o q. cl x o (sym (f Q x o) ∙ q));
  still = λ e. ((F.still e).0, λ x o l q. (F.still e).1 x o l (f (in_set a) x o ∙ q));
  rises = F.rises;
}
