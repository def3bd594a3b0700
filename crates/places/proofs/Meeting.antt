-- The list of pairs of an accepted table: what it tells, and that it is the same for all words that begin with the plan.
use Rattle.std.proofs.Common.{◌≡◌, ℕ, ◌≤◌, List, map, length, sym, refl, ap, ◌∙◌, subst, arith}
use lib.Seq.{sets, length-sets}
use Rattle.lists.specs.Lists.{pick, word, range, flat}
use Rattle.lists.proofs.Members.{map_same, flat-same}
use Rattle.lists.proofs.Stores.{word_in, word-range, long-map}
use Rattle.scheme.specs.Words.{branches, channel, is_send}
use Rattle.scheme.specs.Index.{homes_in, branch_thread_at}
use Rattle.places.specs.Plan.{publics_in, restricted_in, reach_in, nodes_in, Laid}
use Rattle.places.specs.Sides.{receive_words, receives_of, meets, partner_set, pairs_end, pair_words}
use Rattle.places.specs.Inner.Counting.{Pairs}
use Rattle.places.specs.declared.reach.Reach.{Reach}
use Rattle.places.proofs.Bits.{set_same}
use Rattle.places.proofs.ByWords.{few-branches}
use Rattle.places.proofs.Plans.{reach-is, branch-thread-is, home-is, nodes-told}
use Rattle.places.proofs.Hearing.{receives-few, sides-listed}

pub pairs-known : (w x : List ℕ) → Laid w x → (lent : List ℕ) → pairs_end ≤ length lent → Pairs w x (pair_words w x lent)
unfolding pair_words
pairs-known w x L lent room = record {
  few = receives-few w L.accepted;
  sides-are = sides-listed w x L.accepted lent ps (sets (sets lent 0 rs) 256 ps) (omega (arith, room)) refl;
  sets-are = λ s l.
      word_in (sets lent 0 rs) 256 ps s
      (omega (arith, room, length-sets lent 0 rs, long-map (partner_set w x) (branches w), few-branches w L.accepted))
      (omega (arith, l, long-map (partner_set w x) (branches w)))
      ∙ word-range (partner_set w x) (branches w) s l;
}
  where
    rs : List ℕ
    rs = flat (receive_words w x) (receives_of w)

    ps : List ℕ
    ps = map (partner_set w x) (range (branches w))

pub pairs-filled : (w x : List ℕ) → Laid w x → (lent after : List ℕ) → pairs_end ≤ length lent → after ≡ pair_words w x lent → Pairs w x after
pairs-filled w x L lent after room e = subst (Pairs w x) (sym e) (pairs-known w x L lent room)

module _ (w x y : List ℕ) (L : Laid w x) (M : Laid w y) where
  reach-same : (z : ℕ) → reach_in x z ≡ reach_in y z
  reach-same z = reach-is w x L z ∙ sym (reach-is w y M z)

  publics-same : (z : ℕ) → word (publics_in x) z ≡ word (publics_in y) z
  publics-same z = ap (λ (r : Reach). r.publics) (reach-same z)

  restricted-same : (z : ℕ) → word (restricted_in x) z ≡ word (restricted_in y) z
  restricted-same z = ap (λ (r : Reach). r.restricted) (reach-same z)

  thread-same : (b : ℕ) → branch_thread_at w x b ≡ branch_thread_at w y b
  thread-same b = branch-thread-is w x L b ∙ sym (branch-thread-is w y M b)

  nodes-same : nodes_in x ≡ nodes_in y
  nodes-same = nodes-told w x L ∙ sym (nodes-told w y M)

  home_same : (b : ℕ) → word (homes_in x) b ≡ word (homes_in y) b
  home_same b = home-is w x L b ∙ sym (home-is w y M b)

  words_same : (b : ℕ) → receive_words w x b ≡ receive_words w y b
  words_same b = rw (publics-same (channel w b), restricted-same (channel w b), thread-same b, nodes-same, home_same b)

  meets-same : (s r : ℕ) → meets w x s r ≡ meets w y s r
  meets-same s r =
      rw (
        publics-same (channel w s),
        restricted-same (channel w s),
        publics-same (channel w r),
        restricted-same (channel w r),
        thread-same s,
        thread-same r,
      )

  sets_same : (s : ℕ) → partner_set w x s ≡ partner_set w y s
  unfolding partner_set
  sets_same s =
      ap (λ (v : ℕ). pick (is_send w s) v 0)
      (set_same (λ k. meets w x s (word (receives_of w) k)) (λ k. meets w y s (word (receives_of w) k)) (length (receives_of w))
      (λ k l. meets-same s (word (receives_of w) k)))

  pub pairs-same : (lent : List ℕ) → pair_words w x lent ≡ pair_words w y lent
  unfolding pair_words
  pairs-same lent =
      rw (
        flat-same (receive_words w x) (receive_words w y) (receives_of w) (λ b m. words_same b),
        map_same (partner_set w x) (partner_set w y) (range (branches w)) sets_same,
      )
