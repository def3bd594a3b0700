-- What a call brings to formals, by the words that the code reads.
use Rattle.std.proofs.Common.{◌≡◌, ℕ, ◌+◌, ◌<◌, Bool, true, false, ◌&&◌, ◌||◌, List, [], ◌∷◌, ◌++◌, map, length, sym, refl, ◌∙◌, true≢false, add-one, arith, lt-ltb}
use native.Mathlib.Decide.{ℕ_discrete}
use lib.ListN.{length-map}
use Rattle.lists.specs.Lists.{pick, same, word, from, range, some}
use Rattle.lists.proofs.Tests.{and_intro, and_left, and_right, or-false, or_assoc, not-true-false, same-no, same-sym}
use Rattle.lists.proofs.Ranges.{from-snoc, from-length, from_member}
use Rattle.lists.proofs.Members.{map-append}
use Rattle.scheme.specs.Words.{nodes, arguments, node_kind, node_first, node_second, first_formal, formal_count, formals, arguments_of}
use Rattle.scheme.specs.Scheme.{stop, choice, new, node_at, scheme}
use Rattle.table.specs.Causes.{cause}
use Rattle.places.specs.Sets.{bit_at}
use Rattle.places.specs.Reach.{passes, passes_at, is_passed}
use Rattle.places.specs.Inner.Sets.{in_set, Joined, Grown}
use Rattle.places.specs.Inner.Plan.{argument_name}
use Rattle.places.proofs.Tallies.{some-elim}
use Rattle.places.proofs.ByWords.{call-node, formals-of, arguments-of, called-inside, arguments-inside}
use Rattle.places.proofs.Growing.{joined_same, grown-joined, grown-then}

module _ (w : List ℕ) where
  -- one formal more
  passes-snoc : (R : ℕ → ℕ → Bool) (x o : ℕ) (fs args : List ℕ) (f a : ℕ) → length fs ≡ length args
      → passes (scheme w) R x o (fs ++ (f ∷ [])) (args ++ (a ∷ [])) ≡ (passes (scheme w) R x o fs args || (same x f && R a o))
  unfolding passes
  passes-snoc R x o [] [] f a e = or-false (same x f && R a o)
  passes-snoc R x o [] (b ∷ args) f a e = absurd (omega arith)
  passes-snoc R x o (c ∷ fs) [] f a e = absurd (omega arith)
  passes-snoc R x o (c ∷ fs) (b ∷ args) f a e =
      rw (passes-snoc R x o fs args f a (omega arith)) (sym (or_assoc (same x c && R b o) (passes (scheme w) R x o fs args) (same x f && R a o)))

  abbrev pub passing : ℕ → ℕ → ℕ → (ℕ → ℕ → Bool) → ℕ → ℕ → Bool
  passing formal argument j R x o = passes (scheme w) R x o (from formal j) (map (argument_name w) (from argument j))

  pub passing-none : (formal argument : ℕ) (R : ℕ → ℕ → Bool) (x o : ℕ) → passing formal argument 0 R x o ≡ false
  unfolding passes from
  passing-none formal argument R x o = refl

  passing-next : (formal argument j : ℕ) (R : ℕ → ℕ → Bool) (x o : ℕ)
      → (passing formal argument j R x o || (same x (formal + j) && R (argument_name w (argument + j)) o)) ≡ passing formal argument (j + 1) R x o
  passing-next formal argument j R x o =
      rw (add-one j, from-snoc formal j, from-snoc argument j, map-append (argument_name w) (from argument j) ((argument + j) ∷ []))
      (sym (passes-snoc R x o (from formal j) (map (argument_name w) (from argument j)) (formal + j) (argument_name w (argument + j))
      (from-length formal j ∙ sym (length-map (from argument j) (argument_name w) ∙ from-length argument j))))

  pub pass-grown : (formal argument j v : ℕ) (a b c : List ℕ) (g h : Bool) → v ≡ word b (argument_name w (argument + j))
      → Grown a b g (passing formal argument j) → Joined b c h (λ y o. same (formal + j) y && bit_at v o)
      → Grown a c (g || h) (passing formal argument (j + 1))
  pass-grown formal argument j v a b c g h e F J =
      grown-then a b c g h (passing formal argument j) B (passing formal argument (j + 1)) (passing-next formal argument j) F
      (grown-joined b c h B (λ R Q inc x o q. and_intro (same x (formal + j)) (Q z o) (and_left (same x (formal + j)) (R z o) q)
      (inc z o (and_right (same x (formal + j)) (R z o) q)))
      (joined_same b c h (λ y o. same (formal + j) y && bit_at v o) (B (in_set b)) (λ y o. rw (e, same-sym (formal + j) y)) J))
    where
      z : ℕ
      z = argument_name w (argument + j)

      B : (ℕ → ℕ → Bool) → ℕ → ℕ → Bool
      B R x o = same x (formal + j) && R (argument_name w (argument + j)) o

  -- ---- a node

  abbrev pub at_node : ℕ → (ℕ → ℕ → Bool) → ℕ → ℕ → Bool
  at_node n R x o = passes_at (scheme w) R x o n ((scheme w).node n)

  pub passed-call : (h : cause w ≡ 0) (n : ℕ) → n < nodes w → node_kind w n ≡ 3 → (formal argument count : ℕ) → formal ≡ first_formal w (node_first w n)
      → argument ≡ node_second w n → count ≡ formal_count w (node_first w n) → (R : ℕ → ℕ → Bool) (x o : ℕ)
      → passing formal argument count R x o ≡ at_node n R x o
  unfolding formals arguments_of
  passed-call h n l e formal argument count p q r R x o =
      rw (call-node w h n l e, formals-of w h (node_first w n) (called-inside w h n l e), arguments-of w h n l e, p, q, r)

  pub passed-other : (n : ℕ) → n < nodes w → (node_kind w n ≡ 3 → ⊥) → (R : ℕ → ℕ → Bool) (x o : ℕ) → at_node n R x o ≡ false
  unfolding scheme node_at
  passed-other n l d R x o = rw (lt-ltb n (nodes w) l, same-no (node_kind w n) 3 d) (go (same (node_kind w n) 1) (same (node_kind w n) 2))
    where
      go : (a b : Bool) → passes_at (scheme w) R x o n (pick a (choice (node_first w n) (node_second w n)) (pick b (new (node_first w n) (node_second w n)) stop))
          ≡ false
      go true b = refl
      go false true = refl
      go false false = refl

  -- without arguments no formal takes anything in
  pub none_passed : cause w ≡ 0 → arguments w ≡ 0 → (R : ℕ → ℕ → Bool) (x o : ℕ) → is_passed (scheme w) R x o ≡ false
  unfolding is_passed scheme
  none_passed h e R x o =
      not-true-false (some (λ n. at_node n R x o) (range (nodes w)))
      (λ q. let (n, m, t) = some-elim (λ n. at_node n R x o) (range (nodes w)) q in
      true≢false (sym t ∙ quiet n (omega (arith, from_member n 0 (nodes w) m)) (ℕ_discrete (node_kind w n) 3)))
    where
      quiet : (n : ℕ) → n < nodes w → Dec (node_kind w n ≡ 3) → at_node n R x o ≡ false
      quiet n l (yes k) =
          let c : 0 ≡ formal_count w (node_first w n) =
          omega (arith, e, arguments-inside w h n l k) in
          sym (passed-call h n l k (first_formal w (node_first w n)) (node_second w n) 0 refl refl c R x o)
          ∙ passing-none (first_formal w (node_first w n)) (node_second w n) R x o
      quiet n l (no d) = passed-other n l d R x o

  pub all-passed : (a b : List ℕ) (g : Bool) (i : ℕ) → i ≡ nodes w → Grown a b g (λ R x o. some (λ n. at_node n R x o) (range i))
      → Grown a b g (is_passed (scheme w))
  unfolding is_passed scheme
  all-passed a b g i e F = rw e at F
