-- A cause's test is the tests of its parts: what each part's check answers, as a fact of the definition.
use mathlib.Core.Path.{◌≡◌, sym, ◌∙◌}
use mathlib.Core.Bool.{Bool, true, false}
use mathlib.Core.List.{List, ◌++◌}
use Prim.Native.Nat.{ℕ, ◌+◌, ◌-◌, ◌≤◌, ◌<◌}
use native.Mathlib.Omega.{arith}
use lib.ListN.{replicate}
use Rattle.lists.specs.Lists.{same, word, bit, from, range, every, flat, times}
use Rattle.lists.proofs.Ranges.{every-same, from_member}
use Rattle.scheme.specs.Words.{publics, bounds, definitions, nodes, branches, names, name_kind_of}
use Rattle.table.specs.Causes.{is_owned_once, bound_right, root_nodes, new_children, next_nodes}
use Rattle.scheme.specs.Spans.{span_of, tally_all}
use Rattle.scheme.specs.declared.spans.Source.{Source}
use Rattle.scheme.specs.declared.spans.Source.TheVariants.{Roots, NewChildren, NextNodes}
use Rattle.scheme.proofs.Tally.{tally-append, tally-none, tally-once}
use Rattle.table.proofs.SpanLists.{roots-spans, children-spans, nexts-spans}

-- numbers from a first one up to its end
pub from-to : (f s : ℕ) → from f (f + s - f) ≡ from f s
from-to f s = let e : f + s - f ≡ s = omega arith in rw e

-- each node counted once is owned once
pub counted-owned : (w counts : List ℕ) → nodes w ≤ 256
    → counts ≡ tally_all (tally_all (tally_all (replicate 256 0) (root_nodes w)) (new_children w)) (next_nodes w)
    → every (λ k. same (word counts k) 1) (range (nodes w)) ≡ every (is_owned_once w) (range (nodes w))
unfolding is_owned_once
counted-owned w counts l e =
    every-same (λ k. same (word counts k) 1) (is_owned_once w) (range (nodes w))
    (λ k m.
    let h : k < 256 = omega (arith, (from_member k 0 (nodes w) m).1) in
    rw (
      e,
      ← tally-append (tally_all (replicate 256 0) (root_nodes w)) (new_children w) (next_nodes w),
      ← tally-append (replicate 256 0) (root_nodes w) (new_children w ++ next_nodes w),
    )
    (tally-once 256 (root_nodes w ++ (new_children w ++ next_nodes w)) k h))

-- a count is right where the name is bound as its kind says
count-bound : (w xs : List ℕ) (kind x : ℕ) (b : Bool) → x < 64 → same (word (tally_all (replicate 64 0) xs) x) (bit b) ≡ same (times x xs) (bit b)
count-bound w xs kind x true h = tally-once 64 xs x h
count-bound w xs kind x false h = tally-none 64 xs x h

pub counted-bound : (w counts xs : List ℕ) (kind : ℕ) → names w ≤ 64 → counts ≡ tally_all (replicate 64 0) xs
    → every (λ x. same (word counts x) (bit (same (name_kind_of w x) kind))) (from (publics w) (bounds w)) ≡ every (bound_right w xs kind) (from (publics w) (bounds w))
unfolding bound_right
counted-bound w counts xs kind l e =
    every-same (λ x. same (word counts x) (bit (same (name_kind_of w x) kind))) (bound_right w xs kind) (from (publics w) (bounds w))
    (λ x m. rw e (count-bound w xs kind x (same (name_kind_of w x) kind) (omega (arith, (from_member x (publics w) (bounds w) m).1))))

-- what the passes of the code leave and answer, with the counts that it read
pub owned-counts : (w c₁ c₂ c₃ : List ℕ) (d m b : ℕ) (r : Bool) → d ≡ definitions w → m ≡ nodes w → b ≡ branches w → nodes w ≤ 256
    → c₁ ≡ tally_all (replicate 256 0) (flat (span_of w Roots) (range d)) → c₂ ≡ tally_all c₁ (flat (span_of w NewChildren) (range m))
    → c₃ ≡ tally_all c₂ (flat (span_of w NextNodes) (range b)) → every (λ k. same (word c₃ k) 1) (range (nodes w)) ≡ r
    → r ≡ every (is_owned_once w) (range (nodes w))
owned-counts w c₁ c₂ c₃ d m b r e f g l h₁ h₂ h₃ q =
    sym q ∙ counted-owned w c₃ l (rw (h₃, h₂, h₁, e, f, g, roots-spans w, children-spans w, nexts-spans w))

pub bound-counts : (w counts : List ℕ) (s : Source) (n kind : ℕ) (r : Bool) → names w ≤ 64
    → counts ≡ tally_all (replicate 64 0) (flat (span_of w s) (range n))
    → every (λ x. same (word counts x) (bit (same (name_kind_of w x) kind))) (from (publics w) (bounds w)) ≡ r
    → r ≡ every (bound_right w (flat (span_of w s) (range n)) kind) (from (publics w) (bounds w))
bound-counts w counts s n kind r l h q = sym q ∙ counted-bound w counts (flat (span_of w s) (range n)) kind l h

-- every name bound by one kind of binder, or not
pub bound-part : (w : List ℕ) (s : Source) (n m kind : ℕ) (binders : List ℕ) (r b : Bool) → n ≡ m → flat (span_of w s) (range m) ≡ binders
    → r ≡ every (bound_right w (flat (span_of w s) (range n)) kind) (from (publics w) (bounds w)) → r ≡ b
    → every (bound_right w binders kind) (from (publics w) (bounds w)) ≡ b
bound-part w s n m kind binders r b e f h q = rw (← f, ← e) (sym h ∙ q)
